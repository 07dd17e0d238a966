use Rattle.compiler.proofs.Roots.{done-through}
use Rattle.compiler.proofs.theorems.done_through_stands.Goals as goal

pub returns : goal.returns
returns c = done-through
