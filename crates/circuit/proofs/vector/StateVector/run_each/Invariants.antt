use Rattle.std.proofs.Common.{◌≡◌, List}
use Rattle.circuit.proofs.Runs.{ToCome}
use Rattle.circuit.proofs.vector.StateVector.run_each.Given as goal
use Rattle.circuit.specs.Circuit.{run}
use Rattle.circuit.specs.Vector.{Gives, Ready, represented}
use Rattle.circuit.specs.declared.gate.Gate.{Gate}

-- what the iterator is still to give is left to run
abbrev pub invariant-loop-gate : goal.invariant-loop-gate
invariant-loop-gate g l =
    (l.self.register ≡ l.initial.self.register)
    × ((gs : List Gate) → Gives g.I.Iterator.next_gives l.initial.gate-iterator gs → Ready gs l.initial.self
    → ToCome (run gs (represented l.initial.self)) g.I.Iterator.next_gives l.gate-iterator l.self)
