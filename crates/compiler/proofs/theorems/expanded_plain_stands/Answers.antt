use Rattle.compiler.proofs.Main.{expanded-plain}
use Rattle.compiler.proofs.theorems.expanded_plain_stands.Goals as goal

pub returns : goal.returns
returns c = expanded-plain
