use Rattle.std.proofs.Common.{◌≡◌, false, rules, tests}
use Rattle.device.specs.Coupling.{graph_in}
use Rattle.device.proofs.Tables.{made_by}
use Rattle.device.proofs.couple.row.Goals as goal

pub returns : goal.returns
returns c = made_by _ (λ b y. y ≡ (graph_in c.args.size c.args.joined.now).joined c.args.a b) _ (λ b y q k. search (rules, tests)) c.from_fn.result false 16 c.from_fn.ensures.items
