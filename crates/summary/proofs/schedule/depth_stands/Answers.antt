use Rattle.summary.proofs.Schedules.{no_sooner, in_time}
use Rattle.summary.proofs.schedule.depth_stands.Goals as goal

pub returns : goal.returns
returns c = record { least = no_sooner; reached = in_time }
