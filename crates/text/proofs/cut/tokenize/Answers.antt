use Rattle.std.proofs.Common.{◌++◌, vec_items, sym, ap, ◌∙◌, subst, append-nil, arith}
use Rattle.std.proofs.lemmas.Result.{IfOk-weaker}
use Rattle.text.specs.Spelling.{Spells}
use Rattle.text.proofs.Spelt.{cut-spells}
use Rattle.text.proofs.cut.tokenize.Goals as goal

pub returns : goal.returns
returns c = IfOk-weaker c.cut.result _ (λ v. Spells c.args.text.now (vec_items v))
    (λ v f. subst (Spells c.args.text.now) (sym f.parts ∙ ap (λ r. vec_items v ++ r) (f.whole (omega (arith, v.ok.0))) ∙ append-nil (vec_items v)) (cut-spells c.args.text.now))
    c.cut.ensures
