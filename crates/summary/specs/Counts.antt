-- What a circuit is made of, in numbers.
use Rattle.std.specs.Prelude.{Bool, true, false, List, length, count_by}
use Rattle.circuit.specs.declared.gate.Gate.{Gate}
use Rattle.circuit.specs.declared.gate.Gate.TheVariants.{Phase, Hadamard, Not, ControlledNot, Toffoli}
use Rattle.circuit.specs.Circuit.{mixes, t_count}
use Rattle.summary.specs.declared.tally.Counts.{Counts}
use Rattle.summary.specs.Depth.{depth}

-- a Not by one other qubit
abbrev pub is_cnot : Gate → Bool
is_cnot (Phase m q) = false
is_cnot (Hadamard q) = false
is_cnot (Not q) = false
is_cnot (ControlledNot c q) = true
is_cnot (Toffoli c d q) = false

-- a Not by two others
abbrev pub is_toffoli : Gate → Bool
is_toffoli (Phase m q) = false
is_toffoli (Hadamard q) = false
is_toffoli (Not q) = false
is_toffoli (ControlledNot c q) = false
is_toffoli (Toffoli c d q) = true

-- all that is counted of a circuit; a Toffoli counts for seven T gates
abbrev pub counts : List Gate → Counts
counts gs =
    record {
      gates = length gs;
      cnots = count_by is_cnot gs;
      toffolis = count_by is_toffoli gs;
      t_count = t_count gs;
      hadamards = mixes gs;
      depth = depth gs;
    }
