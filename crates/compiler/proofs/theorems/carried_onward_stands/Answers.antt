use Rattle.compiler.proofs.Onward.{carried_onward}
use Rattle.compiler.proofs.theorems.carried_onward_stands.Goals as goal

pub returns : goal.returns
returns c = carried_onward
