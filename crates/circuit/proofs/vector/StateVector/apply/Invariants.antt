use Rattle.std.proofs.Common.{◌≡◌}
use Rattle.circuit.proofs.Pairs.{DoneBelow}
use Rattle.circuit.proofs.vector.StateVector.apply.Given as goal

-- the rows below this one are done
abbrev pub invariant-loop-row : goal.invariant-loop-row
invariant-loop-row l = (l.self.register ≡ l.initial.self.register) × DoneBelow l.initial.self.register.qubits l.gate l.initial.self.amplitudes l.row l.self.amplitudes
