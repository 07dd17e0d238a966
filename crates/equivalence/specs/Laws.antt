-- Whether two circuits are the same can be told.
use Rattle.std.specs.Prelude.{ℕ, ◌⊎◌, List}
use Rattle.circuit.specs.declared.gate.Gate.{Gate}
use Rattle.circuit.specs.Circuit.{AllFit, Same}

-- whether two circuits are the same, over all states, is decided
abbrev pub Decided : Type 0
Decided = (n : ℕ) (c d : List Gate) → AllFit n c → AllFit n d → Same c d ⊎ (Same c d → ⊥)
