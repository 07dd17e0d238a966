use Rattle.std.proofs.Common.{◌≤◌, length, take}
use Rattle.tidy.proofs.Steps.{Standing}
use Rattle.tidy.proofs.pass.settle.Given as goal

abbrev pub invariant-loop-best : goal.invariant-loop-best
invariant-loop-best l = Standing l.initial.gates (take l.best.len l.gates) l.best.turn × (l.best.len ≤ length l.gates)

abbrev pub decreases-loop-best : goal.decreases-loop-best
decreases-loop-best l = l.best.len
