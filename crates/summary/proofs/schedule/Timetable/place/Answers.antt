use Rattle.std.proofs.Common.{◌+◌, cond, ap, ◌∙◌}
use Rattle.laws.specs.Rename.{about}
use Rattle.summary.specs.Depth.{freed, listed}
use Rattle.summary.proofs.schedule.Timetable.place.Goals as goal

pub returns-clause-free : goal.returns-clause-free
unfolding freed
returns-clause-free c k = c.occupy.ensures k ∙ ap (λ e. cond (about c.args.gate k) e (listed c.args.self.now.free k)) (ap (λ n. n + 1) c.ready-end.ensures)
