use Rattle.std.proofs.Common.{◌≡◌, Some, None, Err, Result, sym, ap, ◌∙◌, subst, refl, []}
use Rattle.std.proofs.lemmas.List.{nil_from_length}
use Rattle.std.proofs.lemmas.Result.{err_from_is_err_and}
use Rattle.std.specs.Option.{ok_or}
use Rattle.job.specs.Builders.{view, items, Follows}
use Rattle.job.specs.Plan.{says}
use Rattle.job.specs.declared.error.PlanError.{PlanError}
use Rattle.job.specs.declared.error.PlanError.TheVariants.{Line}
use Rattle.text.specs.Cut.{cut}
use Rattle.text.proofs.Spelt.{cut-is}
use Rattle.job.proofs.PlanSteps.{says_by}
use Rattle.job.proofs.builder.Builder.take_line.Goals as goal

pub returns-in_default : goal.returns-in_default
returns-in_default c =
    let s = view c.args.self.now in
    let signs = c.deref.ensures.value ∙ cut-is c.args.line.now _ c.in_ok-tokens.ensures in
    ap (λ ts. says ts s) (sym signs ∙ nil_from_length _ c.in_default.ensures.cases)

pub returns-in_err-numbers : goal.returns-in_err-numbers
returns-in_err-numbers c =
    let s = view c.args.self.now in
    let signs = c.deref.ensures.value ∙ cut-is c.args.line.now _ c.in_ok-tokens.ensures in
    let none = ap items c.in_err-numbers.ensures.ok_part in
    let p = err_from_is_err_and c.from_residual-in_err-numbers.result c.from_residual-in_err-numbers.ensures.1 in
    let fault = c.in_err-numbers.ensures.value ∙ ap (λ o. ok_or o (Line c.args.at)) c.in_err-numbers.ensures.ok_part in
    let line : c.from_residual-in_err-numbers.result ≡ Err (Line c.args.at) = cc in
    subst (λ (r : Result (Unit {0}) PlanError). Follows r c.args.at s (says (cut [] c.args.line.now) s)) (sym line)
    (refl, ap (λ ts. says ts s) (sym signs) ∙ says_by _ _ _ s None c.in-Some.ensures.cases.0 (sym none ∙ c.in_ok-numbers_in.ensures))

pub returns : goal.returns
returns c =
    let s = view c.args.self.now in
    let signs = c.deref.ensures.value ∙ cut-is c.args.line.now _ c.in_ok-tokens.ensures in
    let some = ap items c.in_ok-numbers.ensures.ok_part in
    let by = ap (λ ts. says ts s) (sym signs) ∙ says_by _ _ _ s (Some c.in_ok-numbers.numbers.items) c.in-Some.ensures.cases.0 (sym some ∙ c.in_ok-numbers_in.ensures) in
    subst (Follows c.take.result c.args.at (view c.take.new.self)) (sym by) c.take.ensures
