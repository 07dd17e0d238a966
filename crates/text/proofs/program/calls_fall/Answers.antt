use Rattle.text.proofs.Falls.{calls_fall}
use Rattle.text.proofs.program.calls_fall.Goals as goal

pub returns : goal.returns
returns c = calls_fall
