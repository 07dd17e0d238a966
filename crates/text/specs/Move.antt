-- What one more sign does to a statement that is not over.
use Rattle.std.specs.Prelude.{ℕ, Bool, cond, Some, None, Option, ◌==◌, nat_lt}
use Rattle.circuit.specs.declared.gate.Gate.TheVariants.{Phase, Hadamard, Not, ControlledNot, Toffoli}
use Rattle.text.specs.declared.token.Token.{Token}
use Rattle.text.specs.declared.token.Token.TheVariants.{Turn, Of, Mix, Flip, If, Device, Joined, Lay, Undo, Times, Block, Call, On, Number, Open, Close, Semicolon, Other}
use Rattle.text.specs.declared.statement.Part.{Part}
use Rattle.text.specs.declared.statement.Part.TheVariants.{Start, TurnBy, TurnOf, TurnQubit, MixQubit, FlipQubit, FlipMore, FlipIf, FlipTwo, Ends, UndoOpens, TimesWord, TimesOpens, CallBlock, CallOn, Naming, BlockNumber, BlockOf, BlockSize, BlockOpens}
use Rattle.text.specs.declared.statement.Brace.TheVariants as brace
use Rattle.text.specs.declared.statement.Move.{Move}
use Rattle.text.specs.declared.statement.Move.TheVariants as move
use Rattle.text.specs.declared.statement.Place.{Place}

abbrev pub number_in : Token → Option ℕ
number_in (Number n) = Some n
number_in t = None

-- what may begin a statement or a block, or end a row of statements
abbrev pub begun : Place → Token → Move
begun w Turn = move.Go TurnBy
begun w Mix = move.Go MixQubit
begun w Flip = move.Go FlipQubit
begun w Undo = move.Go UndoOpens
begun w Block = cond w.fresh (move.Go BlockNumber) move.Refuse
begun w Call = move.Go CallBlock
begun w (Number n) = move.Go (TimesWord n)
begun w Close = move.Close
begun w t = move.Refuse

-- a number below a bound
abbrev pub below : ℕ → Option ℕ → Option ℕ
below n None = None
below n (Some q) = cond (nat_lt q n) (Some q) None

-- a qubit that there is
abbrev pub qubit_in : Place → Token → Option ℕ
qubit_in w t = below w.room (number_in t)

-- a number, with which it goes on
abbrev pub on_number : Option ℕ → (ℕ → Move) → Move
on_number None f = move.Refuse
on_number (Some n) f = f n

abbrev pub word : Token → ℕ
word Turn = 0
word Of = 1
word Mix = 2
word Flip = 3
word If = 4
word Device = 5
word Joined = 6
word Lay = 7
word (Number n) = 8
word Semicolon = 9
word Other = 10
word Undo = 11
word Times = 12
word Block = 13
word Call = 14
word On = 15
word Open = 16
word Close = 17

-- the same sign, numbers apart
abbrev pub is : Token → Token → Bool
is t u = word t == word u

abbrev pub moved : Place → Part → Token → Move
moved w Start t = begun w t
moved w TurnBy t = on_number (number_in t) (λ m. move.Go (TurnOf m))
moved w (TurnOf m) t = cond (is t Of) (move.Go (TurnQubit m)) move.Refuse
moved w (TurnQubit m) t = on_number (qubit_in w t) (λ q. move.Go (Ends (Phase m q)))
moved w MixQubit t = on_number (qubit_in w t) (λ q. move.Go (Ends (Hadamard q)))
moved w FlipQubit t = on_number (qubit_in w t) (λ q. move.Go (FlipMore q))
moved w (FlipMore q) t = cond (is t Semicolon) (move.Say (Not q)) (cond (is t If) (move.Go (FlipIf q)) move.Refuse)
moved w (FlipIf q) t = on_number (qubit_in w t) (λ c. move.Go (FlipTwo c q))
moved w (FlipTwo c q) t = cond (is t Semicolon) (move.Say (ControlledNot c q)) (on_number (qubit_in w t) (λ d. move.Go (Ends (Toffoli c d q))))
moved w (Ends g) t = cond (is t Semicolon) (move.Say g) move.Refuse
moved w UndoOpens t = cond (is t Open) (move.Open brace.Undo) move.Refuse
moved w (TimesWord n) t = cond (is t Times) (move.Go (TimesOpens n)) move.Refuse
moved w (TimesOpens n) t = cond (is t Open) (move.Open (brace.Times n)) move.Refuse
moved w CallBlock t = on_number (below w.known (number_in t)) (λ k. move.Go (CallOn k))
moved w (CallOn k) t = cond (is t On) (move.Go (Naming k)) move.Refuse
moved w (Naming k) t = cond (is t Semicolon) (move.Call k) (on_number (qubit_in w t) (λ q. move.Name k q))
moved w BlockNumber t = on_number (number_in t) (λ k. cond (k == w.known) (move.Go BlockOf) move.Refuse)
moved w BlockOf t = cond (is t Of) (move.Go BlockSize) move.Refuse
moved w BlockSize t = on_number (number_in t) (λ n. move.Go (BlockOpens n))
moved w (BlockOpens n) t = cond (is t Open) (move.Enter n) move.Refuse
