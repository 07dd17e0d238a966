use Rattle.std.proofs.Common.{◌++◌, get_or, ap, ◌∙◌, rules}
use Rattle.std.proofs.lemmas.Iterator.{YieldsList-from_slice, YieldsList-from_map}
use Rattle.std.proofs.lemmas.Iterator.Adapters.{items_from_extend}
use Rattle.std.proofs.lemmas.Result.{on_ok_weaker}
use Rattle.laws.specs.Rename.{renamed}
use Rattle.text.proofs.Rows.{all_renamed-is}
use Rattle.text.proofs.row.append_renamed.Goals as goal

pub returns : goal.returns
returns c =
    let h = items_from_extend c.extend.result c.extend.ensures.ran (YieldsList-from_map _ (renamed (λ q. get_or c.args.names.now q 0)) (YieldsList-from_slice c.args.block.now cc) c.map.ensures.closure (λ x r q k. search rules)) in
    on_ok_weaker c.extend.result (λ e. e.0 ∙ ap (λ r. c.args.row.now.items ++ r) (all_renamed-is (λ q. get_or c.args.names.now q 0) c.args.block.now)) h
