-- Which gates a text says, and what a reader of texts answers.
use Rattle.std.specs.Prelude.{◌≡◌, ℕ, zero, suc, ◌+◌, ◌<◌, ◌≤◌, max, Bool, true, false, cond, not, ◌&&◌, ◌⊎◌, List, [], ◌∷◌, ◌++◌, map, length, take, Ok, Err, vec_items, Result, ◌==◌, nat_lt, slice_index, slice_index_or}
use Rattle.circuit.specs.declared.gate.Gate.{Gate}
use Rattle.circuit.specs.declared.gate.Gate.TheVariants.{Phase, Hadamard, Not, ControlledNot, Toffoli}
use Rattle.circuit.specs.declared.refusal.Refusal.TheVariants as refusal
use Rattle.laws.specs.Undo.{backwards}
use Rattle.laws.specs.Rename.{all_renamed}
use Rattle.circuit.specs.declared.failure.Failure.{Failure}
use Rattle.circuit.specs.declared.failure.Failure.TheVariants.{Memory, Refused}
use Rattle.text.specs.declared.program.Circuit.{Circuit}
use Rattle.text.specs.declared.token.Token.{Token}
use Rattle.text.specs.declared.token.Token.TheVariants.{Turn, Of, Mix, Flip, If, Undo, Times, Block, Call, On, Number, Open, Close, Semicolon}
use Rattle.text.specs.Spelling.{Spells}

-- statements, one after another; a call names its block and qubits for the block's own
pub data Program : Type 0 where
  nothing : Program
  gate : Gate → Program
  next : Program → Program → Program
  times : ℕ → Program → Program
  undo : Program → Program
  call : ℕ → List ℕ → Program

-- blocks, one after another: each with how many qubits it has and its statements
pub data Blocks : Type 0 where
  none : Blocks
  and : Blocks → ℕ → Program → Blocks

-- a text: blocks, then statements
pub record Source : Type 0 where
  pub blocks : Blocks
  pub program : Program

-- ---- how they are written

-- the statement that says a gate
abbrev pub spelt : Gate → List Token
spelt (Phase m q) = Turn ∷ Number m ∷ Of ∷ Number q ∷ Semicolon ∷ []
spelt (Hadamard q) = Mix ∷ Number q ∷ Semicolon ∷ []
spelt (Not q) = Flip ∷ Number q ∷ Semicolon ∷ []
spelt (ControlledNot c q) = Flip ∷ Number q ∷ If ∷ Number c ∷ Semicolon ∷ []
spelt (Toffoli c d q) = Flip ∷ Number q ∷ If ∷ Number c ∷ Number d ∷ Semicolon ∷ []

abbrev pub written : Program → List Token
written nothing = []
written (gate g) = spelt g
written (next p q) = written p ++ written q
written (times n p) = Number n ∷ Times ∷ Open ∷ (written p ++ Close ∷ [])
written (undo p) = Undo ∷ Open ∷ (written p ++ Close ∷ [])
written (call k qs) = Call ∷ Number k ∷ On ∷ (map Number qs ++ Semicolon ∷ [])

abbrev pub count : Blocks → ℕ
count none = 0
count (and bs n p) = count bs + 1

-- blocks are numbered from 0 in order
abbrev pub blocks_written : Blocks → List Token
blocks_written none = []
blocks_written (and bs n p) = blocks_written bs ++ (Block ∷ Number (count bs) ∷ Of ∷ Number n ∷ Open ∷ (written p ++ Close ∷ []))

abbrev pub text_of : Source → List Token
text_of s = blocks_written s.blocks ++ written s.program

-- ---- which gates they say

-- what is known of a block: how many qubits it has, and its gates
pub record Known : Type 0 where
  pub size : ℕ
  pub row : List Gate

abbrev pub unknown : Known
unknown = record { size = 0; row = [] }

abbrev pub repeated : ℕ → List Gate → List Gate
repeated zero gs = []
repeated (suc n) gs = gs ++ repeated n gs

-- the gates that a program says after these blocks
abbrev pub flat : List Known → Program → List Gate
flat bs nothing = []
flat bs (gate g) = g ∷ []
flat bs (next p q) = flat bs p ++ flat bs q
flat bs (times n p) = repeated n (flat bs p)
flat bs (undo p) = backwards (flat bs p)
flat bs (call k qs) = all_renamed (λ q. slice_index qs q) (slice_index_or bs k unknown).row

-- what blocks say, each after those before it
abbrev pub known : Blocks → List Known
known none = []
known (and bs n p) = known bs ++ record { size = n; row = flat (known bs) p } ∷ []

-- the statements of the block with the number k
abbrev pub body : Blocks → ℕ → Program
body none k = nothing
body (and bs n p) k = cond (k == count bs) p (body bs k)

abbrev pub gates_of : Source → List Gate
gates_of s = flat (known s.blocks) s.program

-- ---- which numbers may stand where: for each sign of what is written, whether it may

abbrev pub gate_checks : ℕ → Gate → List Bool
gate_checks n (Phase m q) = true ∷ true ∷ true ∷ nat_lt q n ∷ true ∷ []
gate_checks n (Hadamard q) = true ∷ nat_lt q n ∷ true ∷ []
gate_checks n (Not q) = true ∷ nat_lt q n ∷ true ∷ []
gate_checks n (ControlledNot c q) = true ∷ nat_lt q n ∷ true ∷ nat_lt c n ∷ true ∷ []
gate_checks n (Toffoli c d q) = true ∷ nat_lt q n ∷ true ∷ nat_lt c n ∷ nat_lt d n ∷ true ∷ []

abbrev pub has : ℕ → List ℕ → Bool
has q [] = false
has q (n ∷ ns) = cond (n == q) true (has q ns)

-- the qubits of a call after those of ns: each is there, is not named twice, and is no more than the block has; and at the end they are as many
abbrev pub names_checks : ℕ → ℕ → List ℕ → List ℕ → List Bool
names_checks n size ns [] = (length ns == size) ∷ []
names_checks n size ns (q ∷ qs) = (nat_lt q n && (nat_lt (length ns) size && not (has q ns))) ∷ names_checks n size (ns ++ q ∷ []) qs

-- where there are n qubits: they are 0 to n - 1, and only blocks that are known are called
abbrev pub checks : ℕ → List Known → Program → List Bool
checks n bs nothing = []
checks n bs (gate g) = gate_checks n g
checks n bs (next p q) = checks n bs p ++ checks n bs q
checks n bs (times m p) = true ∷ true ∷ true ∷ (checks n bs p ++ true ∷ [])
checks n bs (undo p) = true ∷ true ∷ (checks n bs p ++ true ∷ [])
checks n bs (call k qs) = true ∷ nat_lt k (length bs) ∷ true ∷ names_checks n (slice_index_or bs k unknown).size [] qs

abbrev pub blocks_checks : Blocks → List Bool
blocks_checks none = []
blocks_checks (and bs n p) = blocks_checks bs ++ (true ∷ true ∷ true ∷ true ∷ true ∷ (checks n (known bs) p ++ true ∷ []))

-- outside of blocks there are the qubits 0 to 255
abbrev pub checks_of : Source → List Bool
checks_of s = blocks_checks s.blocks ++ checks 256 (known s.blocks) s.program

abbrev pub AllTrue : List Bool → Type 0
AllTrue [] = Unit {0}
AllTrue (b ∷ bs) = (b ≡ true) × AllTrue bs

-- ---- which qubits a text is about

-- one more than the largest of these numbers, and 0 if there is none
abbrev pub span : List ℕ → ℕ
span [] = 0
span (q ∷ qs) = max (suc q) (span qs)

-- one more than the largest qubit that a gate names
abbrev pub reach : Gate → ℕ
reach (Phase m q) = suc q
reach (Hadamard q) = suc q
reach (Not q) = suc q
reach (ControlledNot c q) = suc (max c q)
reach (Toffoli c d q) = suc (max (max c d) q)

-- the same of statements, also of those that say nothing
abbrev pub width : Program → ℕ
width nothing = 0
width (gate g) = reach g
width (next p q) = max (width p) (width q)
width (times n p) = width p
width (undo p) = width p
width (call k qs) = span qs

-- ---- what a text says, and where it is refused

-- a text of at most 4096 signs says these gates, of which there are at most so many
pub record Says (limit : ℕ) (ts : List Token) (gs : List Gate) : Type 0 where
  pub source : Source
  pub text : text_of source ≡ ts
  pub fine : AllTrue (checks_of source)
  pub gates : gates_of source ≡ gs
  pub few : length gs ≤ limit
  pub brief : length ts ≤ 4096

-- at most 4096 signs with which a text begins, each of which may stand there
pub record Begins (ts : List Token) : Type 0 where
  pub more : List Token
  pub source : Source
  pub text : text_of source ≡ ts ++ more
  pub fine : AllTrue (take (length ts) (checks_of source))
  pub brief : length ts ≤ 4096

-- a text that cannot be read: the sign i is the first with which no text goes on; or the text ends too soon, and i is one past its last sign
pub record Unread (ts : List Token) (i : ℕ) : Type 0 where
  pub inside : i ≤ length ts
  pub begins : Begins (take i ts)
  pub stops : i < length ts → Begins (take (i + 1) ts) → ⊥
  pub ends : i ≡ length ts → (s : Source) → text_of s ≡ ts → AllTrue (checks_of s) → ⊥

-- one statement
abbrev pub Single : Program → Type 0
Single nothing = ⊥
Single (gate g) = Unit {0}
Single (next p q) = ⊥
Single (times n p) = Unit {0}
Single (undo p) = Unit {0}
Single (call k qs) = Unit {0}

-- a text that can be read, and says more gates than are taken: with the statement that begins at the sign i they are too many
pub record Over (limit : ℕ) (ts : List Token) (i : ℕ) : Type 0 where
  pub blocks : Blocks
  pub before : Program
  pub statement : Program
  pub after : Program
  pub single : Single statement
  pub text : text_of (record { blocks = blocks; program = next before (next statement after) }) ≡ ts
  pub fine : AllTrue (checks_of (record { blocks = blocks; program = next before (next statement after) }))
  pub few : length (flat (known blocks) before) ≤ limit
  pub many : limit < length (flat (known blocks) (next before statement))
  pub place : i ≡ length (blocks_written blocks ++ written before)
  pub brief : length ts ≤ 4096

-- a text is refused at the sign i
abbrev pub Refuses : ℕ → List Token → ℕ → Type 0
Refuses limit ts i = Unread ts i ⊎ Over limit ts i

-- what a reader answers to a text of these signs
abbrev pub Answers : ℕ → List Token → Result Circuit Failure → Type 0
Answers limit ts (Ok c) = (s : Says limit ts (vec_items c.gates)) × (c.qubits ≡ width s.source.program)
Answers limit ts (Err Memory) = Unit {0}
Answers limit ts (Err (Refused (refusal.Text i))) = Refuses limit ts i
Answers limit ts (Err (Refused r)) = ⊥

-- the same, to a text of these bytes
abbrev pub AnswersText : ℕ → List ℕ → Result Circuit Failure → Type 0
AnswersText limit bs r = (ts : List Token) → Spells bs ts → Answers limit ts r

-- no text says two rows of gates, nor two numbers of qubits
abbrev pub SaysOne : Type 0
SaysOne = (limit : ℕ) (ts : List Token) (gs hs : List Gate) (s : Says limit ts gs) (r : Says limit ts hs) → (gs ≡ hs) × (width s.source.program ≡ width r.source.program)

-- a text is refused at one sign only
abbrev pub RefusesOne : Type 0
RefusesOne = (limit : ℕ) (ts : List Token) (i j : ℕ) → Refuses limit ts i → Refuses limit ts j → i ≡ j

-- a text says a row of gates, or is refused, and not both
abbrev pub SaysOrRefuses : Type 0
SaysOrRefuses =
    ((limit : ℕ) (ts : List Token) → ((gs : List Gate) × Says limit ts gs) ⊎ ((i : ℕ) × Refuses limit ts i))
    × ((limit : ℕ) (ts : List Token) (gs : List Gate) (i : ℕ) → Says limit ts gs → Refuses limit ts i → ⊥)

-- a program calls only blocks with numbers below k
abbrev pub CallsBelow : ℕ → Program → Type 0
CallsBelow k nothing = Unit {0}
CallsBelow k (gate g) = Unit {0}
CallsBelow k (next p q) = CallsBelow k p × CallsBelow k q
CallsBelow k (times n p) = CallsBelow k p
CallsBelow k (undo p) = CallsBelow k p
CallsBelow k (call j qs) = j < k

-- what blocks say is a recursion over their numbers, which fall at each call: block k calls only blocks before it, and says what its statements say after those
abbrev pub CallsFall : Type 0
CallsFall = (bs : Blocks) → AllTrue (blocks_checks bs) → (k : ℕ) → k < count bs → CallsBelow k (body bs k) × ((slice_index_or (known bs) k unknown).row ≡ flat (take k (known bs)) (body bs k))
