use Rattle.text.proofs.Faults.{says_or_refuses}
use Rattle.text.proofs.program.says_or_refuses.Goals as goal

pub returns : goal.returns
returns c = says_or_refuses
