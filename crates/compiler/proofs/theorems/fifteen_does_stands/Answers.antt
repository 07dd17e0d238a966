use Rattle.compiler.proofs.Toffoli.{fifteen-does}
use Rattle.compiler.proofs.theorems.fifteen_does_stands.Goals as goal

pub returns : goal.returns
returns c = fifteen-does
