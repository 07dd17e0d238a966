use Rattle.compiler.proofs.Doings.{on-and-on}
use Rattle.compiler.proofs.theorems.on_and_on_stands.Goals as goal

pub returns : goal.returns
returns c = on-and-on
