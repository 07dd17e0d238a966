use Rattle.compiler.proofs.Laid.{laid-does}
use Rattle.compiler.proofs.theorems.laid_does_stands.Goals as goal

pub returns : goal.returns
returns c = laid-does
