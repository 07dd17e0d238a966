use Rattle.std.proofs.Common.{true, length, refl, sym, ap, ◌∙◌, arith, tests, rules}
use Rattle.std.proofs.lemmas.Iterator.{YieldsList-from_range}
use Rattle.std.proofs.lemmas.Iterator.Adapters.{option_map_id}
use Rattle.std.proofs.lemmas.Iterator.Search.{find_from_yields_List}
use Rattle.std.specs.Option.{unwrap_or}
use Rattle.job.specs.Split.{starts_device}
use Rattle.job.proofs.SplitSteps.{text-is, text-within}
use Rattle.job.proofs.split.text_length.Goals as goal

pub returns-clause-exact : goal.returns-clause-exact
returns-clause-exact c =
    let job = c.args.job.now in
    c.unwrap_or.ensures
    ∙ ap (λ o. unwrap_or o (length job))
    (sym (option_map_id c.find.result)
    ∙ find_from_yields_List (starts_device job) _ _ c.find.result c.find.ensures.ran (YieldsList-from_range 0 (length job) (length job) refl (omega arith)) (λ x b q k. search (rules, tests)))
    ∙ sym (text-is job)

pub returns-clause-within : goal.returns-clause-within
returns-clause-within c = omega (arith, returns-clause-exact c, text-within true c.args.job.now)
