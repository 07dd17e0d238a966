use Rattle.text.proofs.Spelt.{spells_one}
use Rattle.text.proofs.cut.spells_one.Goals as goal

pub returns : goal.returns
returns c = spells_one
