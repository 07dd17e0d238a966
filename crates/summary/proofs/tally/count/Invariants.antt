use Rattle.std.proofs.Common.{◌≡◌, ◌+◌, ◌*◌, ◌≤◌, count_by, drop}
use Rattle.circuit.specs.Circuit.{t_count}
use Rattle.summary.specs.Counts.{is_cnot, is_toffoli}
use Rattle.summary.proofs.tally.count.Given as goal

abbrev pub invariant-loop-gate : goal.invariant-loop-gate
invariant-loop-gate l =
    (l.cnots + count_by is_cnot (drop l.gate-index l.gates) ≡ count_by is_cnot l.gates)
    × (l.toffolis + count_by is_toffoli (drop l.gate-index l.gates) ≡ count_by is_toffoli l.gates)
    × (l.t_count + t_count (drop l.gate-index l.gates) ≡ t_count l.gates)
    × (l.cnots ≤ l.gate-index)
    × (l.toffolis ≤ l.gate-index)
    × (l.t_count ≤ 7 * l.gate-index)
