use Rattle.std.proofs.Common.{not, ltb, ◌∙◌, rules, tests}
use Rattle.std.proofs.lemmas.Iterator.{YieldsList-from_slice}
use Rattle.std.proofs.lemmas.Iterator.Adapters.{position_from-zero}
use Rattle.std.proofs.lemmas.Iterator.Search.{position_from_yields_List}
use Rattle.device.proofs.Places.{beyond_position}
use Rattle.device.proofs.layout.first_beyond.Goals as goal

pub returns : goal.returns
returns c =
    let xs = c.args.numbers.now in
    let limit = c.args.limit in
    position_from_yields_List (λ x. not (ltb x limit)) _ _ c.position.result c.position.ensures.ran (YieldsList-from_slice xs cc) (λ x b q k. search (rules, tests))
    ∙ (position_from-zero (λ x. not (ltb x limit)) xs ∙ beyond_position limit 0 xs)
