use Rattle.laws.proofs.Places.{change_places}
use Rattle.laws.proofs.laws.change_places_stands.Goals as goal

pub returns : goal.returns
returns c = change_places
