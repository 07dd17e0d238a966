use Rattle.text.proofs.Faults.{says-one}
use Rattle.text.proofs.program.says_one.Goals as goal

pub returns : goal.returns
returns c = says-one
