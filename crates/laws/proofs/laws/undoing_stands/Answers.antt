use Rattle.laws.proofs.Undo.{undoes, apart}
use Rattle.laws.proofs.laws.undoing_stands.Goals as goal

pub returns : goal.returns
returns c = record { undone = undoes; apart = apart }
