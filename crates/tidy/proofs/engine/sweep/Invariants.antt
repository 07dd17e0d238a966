use Rattle.std.proofs.Common.{◌≡◌, ◌≤◌, [], reverse, take, drop}
use Rattle.tidy.specs.Engine.{swept}
use Rattle.tidy.proofs.engine.sweep.Given as goal

abbrev pub invariant-loop-i : goal.invariant-loop-i
invariant-loop-i l =
    (swept l.done.turn (reverse (take l.done.len l.gates)) (drop l.i l.initial.gates) ≡ swept l.initial.done.turn [] l.initial.gates)
    × (drop l.i l.gates ≡ drop l.i l.initial.gates)
    × (l.done.len ≤ l.i)
