use Rattle.std.proofs.Common.{◌≡◌, length, drop}
use Rattle.job.specs.Builders.{view}
use Rattle.job.specs.Plan.{follow, nothing}
use Rattle.job.proofs.PlanSteps.{parts}
use Rattle.job.proofs.plan.read_plan.Given as goal

abbrev pub invariant-loop-at : goal.invariant-loop-at
invariant-loop-at l = follow (length l.yielded) (drop (length l.yielded) (parts l.lines)) (view l.builder) ≡ follow 0 (parts l.lines) nothing
