use Rattle.std.proofs.Common.{rules}
use Rattle.message.proofs.Telling.{side_read}
use Rattle.message.proofs.comparing.read_side.Goals as goal

pub returns : goal.returns
returns c = side_read c.args.side c.args.text.now c.read.result c.map_err.result c.read.ensures (search rules)
