use Rattle.laws.proofs.TableOf.{table_holds, exchanges, turned_round}
use Rattle.laws.proofs.identities.identities_stand.Goals as goal

pub returns : goal.returns
returns c = record { table = table_holds; exchanges = exchanges; turned_round = turned_round }
