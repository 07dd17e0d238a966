-- Why a text is refused, by what has been read of it.
use Rattle.std.specs.Prelude.{ℕ, Bool, true, false, cond, not, ◌&&◌, List, [], ◌∷◌, length, take, drop, Some, None, Ok, Err, Option, Result, nat_le, nat_lt, slice_index_or}
use Rattle.circuit.specs.declared.refusal.Refusal.{Refusal}
use Rattle.text.specs.declared.token.Token.{Token}
use Rattle.text.specs.declared.token.Token.TheVariants.{Turn, Of, Mix, Flip, If, Device, Joined, Lay, Undo, Times, Block, Call, On, Number, Open, Close, Semicolon, Other}
use Rattle.text.specs.declared.statement.Part.{Part}
use Rattle.text.specs.declared.statement.Part.TheVariants.{Start, TurnBy, TurnOf, TurnQubit, MixQubit, FlipQubit, FlipMore, FlipIf, FlipTwo, Ends, UndoOpens, TimesWord, TimesOpens, CallBlock, CallOn, Naming, BlockNumber, BlockOf, BlockSize, BlockOpens}
use Rattle.text.specs.Accept.{accepts, size_of}
use Rattle.text.specs.Move.{number_in, is}
use Rattle.text.specs.Reading.{State, room_in, runs, begins}
use Rattle.text.specs.Spelling.{digit, class}
use Rattle.message.specs.Where.{in_word, start_of}
use Rattle.diagnosis.specs.declared.fault.Fault.{Fault}
use Rattle.diagnosis.specs.declared.fault.Fault.TheVariants.{TooManySigns, TooManyGates, EndsTooSoon, NumberTooLarge, NotNext, NoBlock, NoQubit, Twice, TooManyQubits, TooFewQubits, NotOpened, LateBlock, JobLine, Unexpected}

-- a sign with which no statement begins
abbrev pub unbegun : Token → Fault
unbegun Turn = Unexpected
unbegun Of = Unexpected
unbegun Mix = Unexpected
unbegun Flip = Unexpected
unbegun If = Unexpected
unbegun Device = JobLine
unbegun Joined = JobLine
unbegun Lay = JobLine
unbegun Undo = Unexpected
unbegun Times = Unexpected
unbegun Block = LateBlock
unbegun Call = Unexpected
unbegun On = Unexpected
unbegun (Number n) = Unexpected
unbegun Open = Unexpected
unbegun Close = NotOpened
unbegun Semicolon = Unexpected
unbegun Other = Unexpected

-- what is wrong with a number, where one could stand
abbrev pub on_number : Option ℕ → (ℕ → Fault) → Fault
on_number None f = Unexpected
on_number (Some n) f = f n

-- a qubit that there is not
abbrev pub no_qubit : State → Token → Fault
no_qubit s t = on_number (number_in t) (λ q. NoQubit q (room_in s.inside))

-- one more qubit of a call of the block k
abbrev pub misnamed : State → ℕ → ℕ → Fault
misnamed s k q = cond (nat_lt q (room_in s.inside)) (cond (nat_lt (length s.names) (size_of s k)) (Twice q) (TooManyQubits k (size_of s k))) (NoQubit q (room_in s.inside))

-- what is wrong with a sign that cannot come next
abbrev pub fault_in : State → Token → Part → Fault
fault_in s t Start = unbegun t
fault_in s t TurnBy = Unexpected
fault_in s t (TurnOf m) = Unexpected
fault_in s t (TurnQubit m) = no_qubit s t
fault_in s t MixQubit = no_qubit s t
fault_in s t FlipQubit = no_qubit s t
fault_in s t (FlipMore q) = Unexpected
fault_in s t (FlipIf q) = no_qubit s t
fault_in s t (FlipTwo c q) = no_qubit s t
fault_in s t (Ends g) = Unexpected
fault_in s t UndoOpens = Unexpected
fault_in s t (TimesWord n) = Unexpected
fault_in s t (TimesOpens n) = Unexpected
fault_in s t CallBlock = on_number (number_in t) (λ k. NoBlock k)
fault_in s t (CallOn k) = Unexpected
fault_in s t (Naming k) = cond (is t Semicolon) (TooFewQubits k (size_of s k)) (on_number (number_in t) (misnamed s k))
fault_in s t BlockNumber = on_number (number_in t) (λ k. NotNext (length s.blocks))
fault_in s t BlockOf = Unexpected
fault_in s t BlockSize = Unexpected
fault_in s t (BlockOpens n) = Unexpected

abbrev pub fault_of : State → Token → Fault
fault_of s t = fault_in s t s.part

-- ---- numbers that are too large

-- a word of digits alone; the first argument says that a digit stands before
unfoldable pub digits_from : Bool → List ℕ → Bool
digits_from some [] = some
digits_from some (b ∷ bs) = cond (digit b) (digits_from true bs) (some && not (in_word (class b)))

-- the sign i is written in digits alone, and yet is no number
abbrev pub too_large : List ℕ → ℕ → Token → Bool
too_large bs i t = is t Other && digits_from false (drop (start_of false i bs) bs)

-- ---- the fault of a text

-- a text that is refused at this sign: if it may come next, the gates are too many
abbrev pub fault_next : ℕ → Bool → State → Token → Fault
fault_next limit large s t = cond (accepts s t) (TooManyGates limit) (cond large NumberTooLarge (fault_of s t))

abbrev pub fault_after : ℕ → Bool → Result State Refusal → Token → Fault
fault_after limit large (Ok s) t = fault_next limit large s t
fault_after limit large (Err r) t = Unexpected

-- why a text of these bytes and signs is refused at the place i
abbrev pub fault_at : ℕ → List ℕ → List Token → ℕ → Fault
fault_at limit bs ts i =
    cond (nat_le (length ts) i) EndsTooSoon
    (cond (nat_le 4096 i) TooManySigns
    (fault_after limit (too_large bs i (slice_index_or ts i Other)) (runs 0 begins 0 (take i ts)) (slice_index_or ts i Other)))
