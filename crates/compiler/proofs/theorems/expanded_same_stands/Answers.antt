use Rattle.compiler.proofs.Main.{expanded-same}
use Rattle.compiler.proofs.theorems.expanded_same_stands.Goals as goal

pub returns : goal.returns
returns c = expanded-same
