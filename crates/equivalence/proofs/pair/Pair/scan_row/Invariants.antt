use Rattle.std.proofs.Common.{length}
use Rattle.equivalence.proofs.Pairing.{Begun}
use Rattle.equivalence.specs.Scan.{Told}
use Rattle.equivalence.proofs.pair.Pair.scan_row.Given as goal

abbrev pub invariant-loop-from : goal.invariant-loop-from
invariant-loop-from l = record {
  begun : Begun l.self.register.qubits l.self.c.gates.now l.self.d.gates.now l.row l.initial.from-iterator;
  so_far : Told l.self.register.qubits l.self.c.gates.now l.self.d.gates.now l.row (length l.yielded) l.told;
}
