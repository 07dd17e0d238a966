use Rattle.text.proofs.Faults.{refuses_one}
use Rattle.text.proofs.program.refuses_one.Goals as goal

pub returns : goal.returns
returns c = refuses_one
