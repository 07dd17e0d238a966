use Rattle.tidy.proofs.Normal.{no_rule, no_rule_before, no_way}
use Rattle.tidy.proofs.theorems.nothing_left_stands.Goals as goal

pub returns : goal.returns
returns c = record { second = no_rule; first = no_rule_before; way = no_way }
