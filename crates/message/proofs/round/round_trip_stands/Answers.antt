use Rattle.message.proofs.Spell.{statement-spells, statements_spell, read_back, line_read}
use Rattle.message.proofs.Told.{layout-told, print_tells}
use Rattle.message.proofs.round.round_trip_stands.Goals as goal

pub returns : goal.returns
returns c = record { statement = statement-spells; statements = statements_spell; read = read_back; line = line_read; layout = layout-told; printed = print_tells }
