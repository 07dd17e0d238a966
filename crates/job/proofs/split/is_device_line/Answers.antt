use Rattle.std.proofs.Common.{◌≡◌, drop, codes, ap, ◌∙◌, tests, rules}
use Rattle.std.proofs.lemmas.Iterator.{YieldsList-from_slice}
use Rattle.std.proofs.lemmas.Iterator.Consumers.{count_from_yields_List}
use Rattle.std.proofs.lemmas.Iterator.Search.{YieldsList-from_take_while}
use Rattle.std.proofs.lemmas.List.{take_rest}
use Rattle.std.proofs.lemmas.List.Folds.{length-prefix_len}
use Rattle.std.specs.List.{prefix_len}
use Rattle.job.specs.Split.{space, begins}
use Rattle.job.proofs.SplitSteps.{past-spaces}
use Rattle.job.proofs.split.is_device_line.Goals as goal

pub returns : goal.returns
returns c =
    let bs = c.args.bytes.now in
    let spaces : c.count-spaces.result ≡ prefix_len space bs =
    count_from_yields_List _ _ c.count-spaces.ensures.ran (YieldsList-from_take_while _ space (YieldsList-from_slice bs cc) c.take_while.ensures.closure c.take_while.ensures.done (λ x b q k. search (rules, tests)))
    ∙ length-prefix_len space bs in
    c.begins_device.ensures ∙ ap (begins (codes "device")) (take_rest bs c.count-spaces.result) ∙ ap (λ k. begins (codes "device") (drop k bs)) spaces ∙ past-spaces bs
