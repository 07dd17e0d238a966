use Rattle.equivalence.specs.Scan.{Told}
use Rattle.equivalence.proofs.pair.Pair.compare.Given as goal

abbrev pub invariant-loop-row : goal.invariant-loop-row
invariant-loop-row l = Told l.self.register.qubits l.self.c.gates.now l.self.d.gates.now l.row 0 l.told
