use Rattle.std.proofs.Common.{false, length, arith, refl, sym, ap, ◌∙◌, tests, rules}
use Rattle.std.proofs.lemmas.Iterator.{YieldsList-from_range}
use Rattle.std.proofs.lemmas.Iterator.Adapters.{option_map_id}
use Rattle.std.proofs.lemmas.Iterator.Consumers.{YieldsList-at, YieldsList-from_filter, nth_from_yields_List}
use Rattle.std.specs.Option.{unwrap_or}
use Rattle.message.specs.Where.{begins_sign}
use Rattle.message.proofs.Wherein.{start-is, start-within}
use Rattle.message.proofs.locate.start_of.Goals as goal

pub returns-clause-exact : goal.returns-clause-exact
returns-clause-exact c =
    let text = c.args.text.now in
    c.unwrap_or.ensures
    ∙ ap (λ o. unwrap_or o (length text))
    (sym (option_map_id c.nth.result)
    ∙ nth_from_yields_List c.nth.result c.nth.new.self c.args.sign c.nth.ensures.ran (YieldsList-from_filter _ (begins_sign text) (YieldsList-at c.filter-starts.ensures.source (YieldsList-from_range 0 (length text) (length text) refl (omega arith))) c.filter-starts.ensures.closure (λ x b q k. search (rules, tests))))
    ∙ sym (start-is text c.args.sign)

pub returns-clause-within : goal.returns-clause-within
returns-clause-within c = omega (arith, returns-clause-exact c, start-within false c.args.sign c.args.text.now)
