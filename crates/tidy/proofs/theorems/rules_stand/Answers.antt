use Rattle.tidy.proofs.Places.{changes}
use Rattle.tidy.proofs.Twins.{twins_merge, idle_drops, reduces, backs_stand}
use Rattle.tidy.proofs.theorems.rules_stand.Goals as goal

pub returns : goal.returns
returns c = record { twins = twins_merge; idle = idle_drops; reduced = reduces; changes = changes; backs = backs_stand }
