-- Gates, circuits, and what they do to a state.
use Rattle.std.specs.Prelude.{◌≡◌, ℕ, ◌+◌, ◌%◌, ◌<◌, Bool, cond, not, ◌&&◌, List, [], ◌∷◌, ◌==◌, ◌≢◌, nat_lt}
use Rattle.amplitude.specs.declared.Amplitude.{Amplitude}
use Rattle.amplitude.specs.Ring.{plus, minus, turned, rooted}
use Rattle.circuit.specs.declared.gate.Gate.{Gate}
use Rattle.circuit.specs.declared.gate.Gate.TheVariants.{Phase, Hadamard, Not, ControlledNot, Toffoli}

-- a basis state: 0 or 1 for each qubit
abbrev pub Row : Type 0
Row = ℕ → Bool

-- an amplitude for each row
abbrev pub State : Type 0
State = Row → Amplitude

unfoldable pub flipped : ℕ → Row → Row
flipped q b k = cond (k == q) (not (b k)) (b k)

-- what a gate does; a Hadamard is without its root of two, which is counted apart
unfoldable pub does : Gate → State → State
does (Phase m q) s b = cond (b q) (turned m (s b)) (s b)
does (Hadamard q) s b = cond (b q) (minus (s (flipped q b)) (s b)) (plus (s b) (s (flipped q b)))
does (Not q) s b = s (flipped q b)
does (ControlledNot c q) s b = cond (b c) (s (flipped q b)) (s b)
does (Toffoli c d q) s b = cond (b c && b d) (s (flipped q b)) (s b)

-- what a circuit does: its first gate is done first
unfoldable pub run : List Gate → State → State
run [] s = s
run (g ∷ gs) s = run gs (does g s)

-- how many Hadamards a gate is
abbrev pub mixed : Gate → ℕ
mixed (Phase m q) = 0
mixed (Hadamard q) = 1
mixed (Not q) = 0
mixed (ControlledNot c q) = 0
mixed (Toffoli c d q) = 0

unfoldable pub mixes : List Gate → ℕ
mixes [] = 0
mixes (g ∷ gs) = mixed g + mixes gs

-- how many T gates a gate is worth: one for a turn by an odd number of eighths, seven for a Toffoli
abbrev pub worth : Gate → ℕ
worth (Phase m q) = m % 2
worth (Hadamard q) = 0
worth (Not q) = 0
worth (ControlledNot c q) = 0
worth (Toffoli c d q) = 7

unfoldable pub t_count : List Gate → ℕ
t_count [] = 0
t_count (g ∷ gs) = worth g + t_count gs

-- the qubit that a gate acts on, its controls apart
abbrev pub target : Gate → ℕ
target (Phase m q) = q
target (Hadamard q) = q
target (Not q) = q
target (ControlledNot c q) = q
target (Toffoli c d q) = q

-- a gate is about different qubits, all below n
abbrev pub Fit : ℕ → Gate → Type 0
Fit n (Phase m q) = q < n
Fit n (Hadamard q) = q < n
Fit n (Not q) = q < n
Fit n (ControlledNot c q) = (c < n) × (q < n) × (c ≢ q)
Fit n (Toffoli c d q) = (c < n) × (d < n) × (q < n) × (c ≢ d) × (c ≢ q) × (d ≢ q)

abbrev pub AllFit : ℕ → List Gate → Type 0
AllFit n [] = Unit {0}
AllFit n (g ∷ gs) = Fit n g × AllFit n gs

-- the same as a test
abbrev pub fits : ℕ → Gate → Bool
fits n (Phase m q) = nat_lt q n
fits n (Hadamard q) = nat_lt q n
fits n (Not q) = nat_lt q n
fits n (ControlledNot c q) = nat_lt c n && (nat_lt q n && not (c == q))
fits n (Toffoli c d q) = nat_lt c n && (nat_lt d n && (nat_lt q n && (not (c == d) && (not (c == q) && not (d == q)))))

-- over every state and row the circuits do the same, the second turned by t eighths, each with as many roots of two as the other has Hadamards
abbrev pub AlikeBy : List Gate → List Gate → ℕ → Type 0
AlikeBy c d t = (s : State) (b : Row) → rooted (mixes d) (run c s b) ≡ turned t (rooted (mixes c) (run d s b))

-- the same circuit, but for a global phase
pub record Same (c d : List Gate) : Type 0 where
  pub turn : ℕ
  pub same : AlikeBy c d turn
