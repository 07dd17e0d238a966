-- The qubits that a gate is about, and others put in for them.
use Rattle.std.specs.Prelude.{ℕ, Bool, cond, ◌||◌, List, [], ◌∷◌, ◌==◌}
use Rattle.circuit.specs.declared.gate.Gate.{Gate}
use Rattle.circuit.specs.declared.gate.Gate.TheVariants.{Phase, Hadamard, Not, ControlledNot, Toffoli}

-- whether a gate is about the qubit k
unfoldable pub about : Gate → ℕ → Bool
about (Phase m q) k = k == q
about (Hadamard q) k = k == q
about (Not q) k = k == q
about (ControlledNot c q) k = k == c || k == q
about (Toffoli c d q) k = k == c || (k == d || k == q)

-- a gate with the qubit f q put in for each qubit q
abbrev pub renamed : (ℕ → ℕ) → Gate → Gate
renamed f (Phase m q) = Phase m (f q)
renamed f (Hadamard q) = Hadamard (f q)
renamed f (Not q) = Not (f q)
renamed f (ControlledNot c q) = ControlledNot (f c) (f q)
renamed f (Toffoli c d q) = Toffoli (f c) (f d) (f q)

unfoldable pub all_renamed : (ℕ → ℕ) → List Gate → List Gate
all_renamed f [] = []
all_renamed f (g ∷ gs) = renamed f g ∷ all_renamed f gs

-- x and y changed for one another
unfoldable pub other : ℕ → ℕ → ℕ → ℕ
other x y k = cond (k == x) y (cond (k == y) x k)
