-- Circuits the other way: every gate undone, the last first.
use Rattle.std.specs.Prelude.{◌*◌, ◌%◌, List, [], ◌∷◌, ◌++◌}
use Rattle.circuit.specs.declared.gate.Gate.{Gate}
use Rattle.circuit.specs.declared.gate.Gate.TheVariants.{Phase, Hadamard, Not, ControlledNot, Toffoli}

-- a turn of m eighths is undone by one of 7 m; every other gate undoes itself
unfoldable pub undone : Gate → Gate
undone (Phase m q) = Phase ((7 * m) % 8) q
undone (Hadamard q) = Hadamard q
undone (Not q) = Not q
undone (ControlledNot c q) = ControlledNot c q
undone (Toffoli c d q) = Toffoli c d q

unfoldable pub backwards : List Gate → List Gate
backwards [] = []
backwards (g ∷ gs) = backwards gs ++ (undone g ∷ [])
