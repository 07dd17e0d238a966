use Rattle.std.proofs.Common.{◌+◌, ◌==◌, sym, ap, ◌∙◌, tests, rules}
use Rattle.std.proofs.lemmas.Iterator.{YieldsList-from_slice}
use Rattle.std.proofs.lemmas.Iterator.Consumers.{YieldsList-at, YieldsList-from_filter, count_from_yields_List}
use Rattle.std.proofs.lemmas.List.Sums.{length-filter}
use Rattle.message.proofs.Wherein.{line_is, newlines-are}
use Rattle.message.proofs.locate.line_after.Goals as goal

pub returns : goal.returns
returns c =
    let bs = c.args.before.now in
    ap (λ n. 1 + n)
    (count_from_yields_List _ _ c.count.ensures.ran (YieldsList-from_filter _ (λ b. b == 10) (YieldsList-at c.filter.ensures.source (YieldsList-from_slice bs c.iter.ensures.rest)) c.filter.ensures.closure (λ x b q k. search (rules, tests)))
    ∙ length-filter (λ b. b == 10) bs ∙ sym (newlines-are bs))
    ∙ sym (line_is 1 bs)
