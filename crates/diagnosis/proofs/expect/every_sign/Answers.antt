use Rattle.std.proofs.Common.{◌≡◌, ◌++◌, map, vec_items, subst, ap₂, ◌∙◌, rules, arith}
use Rattle.std.specs.List.{range_with_len}
use Rattle.std.specs.Result.{OnOk}
use Rattle.std.proofs.lemmas.Iterator.{YieldsList-from_map, YieldsList-from_range}
use Rattle.std.proofs.lemmas.Iterator.Adapters.{items_from_extend}
use Rattle.std.proofs.lemmas.Result.{on_ok_weaker}
use Rattle.text.specs.declared.token.Token.TheVariants.{Number}
use Rattle.diagnosis.specs.Standing.{words}
use Rattle.diagnosis.proofs.Candidates.{numbers-are}
use Rattle.diagnosis.proofs.expect.every_sign.Goals as goal

pub returns : goal.returns
unfolding words
returns c =
    let all = map Number (range_with_len 0 256) in
    let h = items_from_extend c.extend.result c.extend.ensures.ran (YieldsList-from_map _ Number (YieldsList-from_range 0 256 256 (cc) (omega arith)) c.map.ensures.closure (λ x r q k. search rules)) in
    let added : OnOk c.extend.result (c.extend.new.self.items ≡ vec_items c.in_ok-signs.signs ++ all) = on_ok_weaker c.extend.result (λ e. e.0) h in
    subst (λ r. OnOk r (c.extend.new.self.items ≡ vec_items c.in_ok-signs.signs ++ all)) c.in_ok-extend.was added
    ∙ ap₂ (λ xs ys. xs ++ ys) c.in_ok-signs.ensures.items (numbers-are 256)
