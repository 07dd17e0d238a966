-- The laws of circuits. Each is a statement whose proof is owed.
use Rattle.std.specs.Prelude.{◌≡◌, ℕ, ◌*◌, ◌<◌, true, false, List, [], ◌∷◌, ◌++◌}
use Rattle.amplitude.specs.Ring.{plus, turned, rooted}
use Rattle.circuit.specs.declared.gate.Gate.{Gate}
use Rattle.circuit.specs.Circuit.{Row, State, run, mixes, AllFit, Same}
use Rattle.laws.specs.Undo.{backwards}
use Rattle.laws.specs.Rename.{about, all_renamed}

-- a circuit goes sum by sum
abbrev pub SumBySum : Type 0
SumBySum = (gs : List Gate) (s t : State) (b : Row) → run gs (λ c. plus (s c) (t c)) b ≡ plus (run gs s b) (run gs t b)

-- it commutes with a turn of the whole
abbrev pub RunTurned : Type 0
RunTurned = (m : ℕ) (gs : List Gate) (s : State) (b : Row) → run gs (λ c. turned m (s c)) b ≡ turned m (run gs s b)

-- and with the root of two
abbrev pub RunRooted : Type 0
RunRooted = (m : ℕ) (gs : List Gate) (s : State) (b : Row) → run gs (λ c. rooted m (s c)) b ≡ rooted m (run gs s b)

-- a circuit and then itself backwards is nothing, but for the root of two counted twice for each Hadamard
abbrev pub Undoes : Type 0
Undoes = (n : ℕ) (gs : List Gate) (s : State) (b : Row) → AllFit n gs → run (gs ++ backwards gs) s b ≡ rooted (2 * mixes gs) (s b)

-- no two states come to be one
abbrev pub Apart : Type 0
Apart = (n : ℕ) (gs : List Gate) (s t : State) → AllFit n gs → ((b : Row) → run gs s b ≡ run gs t b) → (b : Row) → s b ≡ t b

-- gates without a qubit in common change places
abbrev pub ChangePlaces : Type 0
ChangePlaces =
    (g h : Gate) (s : State) (b : Row) → ((k : ℕ) → about g k ≡ true → about h k ≡ false) → run (g ∷ (h ∷ [])) s b ≡ run (h ∷ (g ∷ [])) s b

-- to be the same circuit is reflexive, symmetric and transitive
abbrev pub SameSelf : Type 0
SameSelf = (c : List Gate) → Same c c

abbrev pub SameBack : Type 0
SameBack = (c d : List Gate) → Same c d → Same d c

abbrev pub SameOn : Type 0
SameOn = (c d e : List Gate) → Same c d → Same d e → Same c e

-- the same in the midst of others
abbrev pub InTheMidst : Type 0
InTheMidst = (a c d e : List Gate) → Same c d → Same (a ++ (c ++ e)) (a ++ (d ++ e))

-- the same with other qubits put in, no two of them one
abbrev pub RenamedSame : Type 0
RenamedSame =
    (n : ℕ) (f : ℕ → ℕ) (c d : List Gate) → AllFit n c → AllFit n d → ((k l : ℕ) → k < n → l < n → f k ≡ f l → k ≡ l) → Same c d → Same (all_renamed f c) (all_renamed f d)
