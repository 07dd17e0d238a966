use Rattle.std.proofs.Common.{◌+◌, not, ◌==◌, reverse, sym, ap, ◌∙◌, tests, rules}
use Rattle.std.proofs.lemmas.Iterator.Adapters.{YieldsList-from_rev_slice}
use Rattle.std.proofs.lemmas.Iterator.Consumers.{YieldsList-at, count_from_yields_List}
use Rattle.std.proofs.lemmas.Iterator.Search.{YieldsList-from_take_while}
use Rattle.std.proofs.lemmas.List.Folds.{length-prefix_len}
use Rattle.message.proofs.Wherein.{column-is}
use Rattle.message.proofs.locate.column_after.Goals as goal

pub returns : goal.returns
returns c =
    let bs = c.args.before.now in
    ap (λ n. 1 + n)
    (count_from_yields_List _ _ c.count.ensures.ran (YieldsList-from_take_while _ (λ b. not (b == 10)) (YieldsList-at c.take_while.ensures.source (YieldsList-from_rev_slice bs cc)) c.take_while.ensures.closure c.take_while.ensures.done (λ x b q k. search (rules, tests)))
    ∙ length-prefix_len (λ b. not (b == 10)) (reverse bs))
    ∙ sym (column-is bs)
