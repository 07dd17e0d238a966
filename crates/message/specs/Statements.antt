-- How gates are written as statements.
use Rattle.std.specs.Prelude.{ℕ, List, ◌++◌, map, codes, decimal}
use Rattle.std.specs.List.{concat}
use Rattle.circuit.specs.declared.gate.Gate.{Gate}
use Rattle.circuit.specs.declared.gate.Gate.TheVariants.{Phase, Hadamard, Not, ControlledNot, Toffoli}

abbrev pub statement : Gate → List ℕ
statement (Phase m q) = codes "turn " ++ (decimal m ++ (codes " of " ++ (decimal q ++ codes ";")))
statement (Hadamard q) = codes "mix " ++ (decimal q ++ codes ";")
statement (Not q) = codes "flip " ++ (decimal q ++ codes ";")
statement (ControlledNot c q) = codes "flip " ++ (decimal q ++ (codes " if " ++ (decimal c ++ codes ";")))
statement (Toffoli c d q) = codes "flip " ++ (decimal q ++ (codes " if " ++ (decimal c ++ (codes " " ++ (decimal d ++ codes ";")))))

-- a statement a line
abbrev pub statements : List Gate → List ℕ
statements gs = concat (map (λ g. statement g ++ codes "\n") gs)

-- where each qubit lies at the end
abbrev pub at_the_end : List ℕ → List ℕ
at_the_end ps = (codes "at the end" ++ concat (map (λ p. codes " " ++ decimal p) ps)) ++ codes "\n"

-- what is printed of a compiled circuit
abbrev pub printed : List Gate → List ℕ → List ℕ
printed gs ps = statements gs ++ at_the_end ps
