-- Circuits in numbers, four a gate: its kind, and then its numbers.
use Rattle.std.specs.Prelude.{ℕ, ◌+◌, cond, ◌&&◌, List, [], ◌∷◌, ◌++◌, Some, None, Option, ◌==◌, nat_lt}
use Rattle.circuit.specs.declared.gate.Gate.{Gate}
use Rattle.circuit.specs.declared.gate.Gate.TheVariants.{Phase, Hadamard, Not, ControlledNot, Toffoli}

-- 0 a turn by so many eighths of a qubit, 1 a Hadamard, 2 a flip, 3 a flip if another is 1, 4 a flip if two others are; the qubits that it goes by come first, and what is left is 0
abbrev pub code : Gate → List ℕ
code (Phase m q) = 0 ∷ (m ∷ (q ∷ (0 ∷ [])))
code (Hadamard q) = 1 ∷ (q ∷ (0 ∷ (0 ∷ [])))
code (Not q) = 2 ∷ (q ∷ (0 ∷ (0 ∷ [])))
code (ControlledNot c q) = 3 ∷ (c ∷ (q ∷ (0 ∷ [])))
code (Toffoli c d q) = 4 ∷ (c ∷ (d ∷ (q ∷ [])))

unfoldable pub codes : List Gate → List ℕ
codes [] = []
codes (g ∷ gs) = code g ++ codes gs

-- the gate that four numbers are
abbrev pub gate_of : ℕ → ℕ → ℕ → ℕ → Gate
gate_of k a b c = cond (k == 0) (Phase a b) (cond (k == 1) (Hadamard a) (cond (k == 2) (Not a) (cond (k == 3) (ControlledNot a b) (Toffoli a b c))))

unfoldable pub gates_in : List ℕ → List Gate
gates_in [] = []
gates_in (k ∷ []) = []
gates_in (k ∷ (a ∷ [])) = []
gates_in (k ∷ (a ∷ (b ∷ []))) = []
gates_in (k ∷ (a ∷ (b ∷ (c ∷ xs)))) = gate_of k a b c ∷ gates_in xs

-- how many numbers a gate of kind k has
abbrev pub arity : ℕ → ℕ
arity k = cond (k == 0) 2 (cond (k == 3) 2 (cond (k == 4) 3 1))

-- the place among four numbers of the first that is no gate's kind, or is left over and not 0
abbrev pub fault_of : ℕ → ℕ → ℕ → ℕ → Option ℕ
fault_of k a b c = cond (nat_lt 4 k) (Some 0) (cond (nat_lt (arity k) 2 && nat_lt 0 b) (Some 2) (cond (nat_lt (arity k) 3 && nat_lt 0 c) (Some 3) None))

abbrev pub first_of : Option ℕ → ℕ → Option ℕ → Option ℕ
first_of (Some j) i rest = Some (i + j)
first_of None i rest = rest

-- the same in a list, whose first number has the place i
unfoldable pub fault_from : ℕ → List ℕ → Option ℕ
fault_from i [] = None
fault_from i (k ∷ []) = None
fault_from i (k ∷ (a ∷ [])) = None
fault_from i (k ∷ (a ∷ (b ∷ []))) = None
fault_from i (k ∷ (a ∷ (b ∷ (c ∷ xs)))) = first_of (fault_of k a b c) i (fault_from (i + 4) xs)
