use Rattle.std.proofs.Common.{◌≡◌, drop, vec_items}
use Rattle.job.specs.Plan.{numbers}
use Rattle.job.proofs.PlanSteps.{before}
use Rattle.job.proofs.numbers.numbers_in.Given as goal

abbrev pub invariant-loop-t : goal.invariant-loop-t
invariant-loop-t l = before (vec_items l.out) (numbers (drop l.t-index l.tokens)) ≡ numbers l.tokens
