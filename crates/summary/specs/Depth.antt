-- The depth of a circuit: each gate takes one step, and gates without a qubit in common may take the same one.
use Rattle.std.specs.Prelude.{◌≡◌, ℕ, ◌+◌, ◌<◌, ◌≤◌, max, true, cond, List, [], ◌∷◌, length, slice_index, slice_index_or}
use Rattle.circuit.specs.declared.gate.Gate.{Gate}
use Rattle.circuit.specs.declared.gate.Gate.TheVariants.{Phase, Hadamard, Not, ControlledNot, Toffoli}
use Rattle.laws.specs.Rename.{about}

-- a list as a function of the place, 0 past its end
abbrev pub listed : List ℕ → ℕ → ℕ
listed xs k = slice_index xs k

-- the first step at which all qubits of a gate are free, where the qubit q is free from step free q on
abbrev pub ready : (ℕ → ℕ) → Gate → ℕ
ready free (Phase m q) = free q
ready free (Hadamard q) = free q
ready free (Not q) = free q
ready free (ControlledNot c q) = max (free c) (free q)
ready free (Toffoli c d q) = max (free c) (max (free d) (free q))

-- from which step on each qubit is free, once the gate is done as soon as it is ready
unfoldable pub freed : (ℕ → ℕ) → Gate → ℕ → ℕ
freed free g k = cond (about g k) (ready free g + 1) (free k)

-- the step at which each gate begins, as early as it can
unfoldable pub earliest : (ℕ → ℕ) → List Gate → List ℕ
earliest free [] = []
earliest free (g ∷ gs) = ready free g ∷ earliest (freed free g) gs

-- as soon as possible: the same for a circuit whose qubits are all free at first
abbrev pub asap : List Gate → List ℕ
asap gs = earliest (λ _. 0) gs

-- how many steps it takes to do gates that begin at these
unfoldable pub steps : List ℕ → ℕ
steps [] = 0
steps (s ∷ ss) = max (s + 1) (steps ss)

-- how many steps a circuit takes so
abbrev pub depth : List Gate → ℕ
depth gs = steps (asap gs)

-- the gate at a place
abbrev pub nth : List Gate → ℕ → Gate
nth gs i = slice_index_or gs i (Phase 0 0)

-- a step for each gate to begin at, such that of two gates with a qubit in common the later one begins after the earlier
abbrev pub Schedule : List Gate → (ℕ → ℕ) → Type 0
Schedule gs start =
    (i j k : ℕ) → i < j → j < length gs → about (nth gs i) k ≡ true → about (nth gs j) k ≡ true → start i < start j

-- each gate is done within n steps
abbrev pub DoneWithin : List Gate → (ℕ → ℕ) → ℕ → Type 0
DoneWithin gs start n = (i : ℕ) → i < length gs → start i < n

-- no schedule is done within fewer steps than the depth
abbrev pub NoSooner : Type 0
NoSooner = (gs : List Gate) (start : ℕ → ℕ) (n : ℕ) → Schedule gs start → DoneWithin gs start n → depth gs ≤ n

-- each gate as early as it can is a schedule, and is done within the depth
abbrev pub InTime : Type 0
InTime = (gs : List Gate) → Schedule gs (listed (asap gs)) × DoneWithin gs (listed (asap gs)) (depth gs)
