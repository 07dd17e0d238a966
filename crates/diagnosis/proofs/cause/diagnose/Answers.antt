use Rattle.std.proofs.Common.{◌≡◌, get_or, take, vec_items, sym, ap, ◌∙◌, subst, arith}
use Rattle.std.proofs.lemmas.List.{get_or_read}
use Rattle.text.specs.declared.token.Token.TheVariants.{Other}
use Rattle.text.specs.Reading.{view, runs, begins}
use Rattle.diagnosis.specs.Faults.{too_large, fault_next}
use Rattle.diagnosis.specs.Front.{Reads}
use Rattle.diagnosis.proofs.Causes.{at_end, too_long, next-is, before-is}
use Rattle.diagnosis.proofs.Explained.{diagnosed}
use Rattle.diagnosis.proofs.cause.diagnose.Goals as goal

pub returns-then-sign-len : goal.returns-then-sign-len
returns-then-sign-len c =
    let signs = vec_items c.in_ok-signs.signs in
    let spelled = c.in_ok-signs.ensures in
    diagnosed c.args.limit c.args.text.now signs c.args.sign spelled _ (at_end c.args.limit c.args.text.now signs c.args.sign (omega (arith, c.in_ok-signs.signs.ok.0)))

pub returns-then-sign : goal.returns-then-sign
returns-then-sign c =
    let signs = vec_items c.in_ok-signs.signs in
    let spelled = c.in_ok-signs.ensures in
    diagnosed c.args.limit c.args.text.now signs c.args.sign spelled _ (too_long c.args.limit c.args.text.now signs c.args.sign (omega (arith, c.in_ok-signs.signs.ok.0)) c.if-sign.true)

pub returns-in-Some : goal.returns-in-Some
returns-in-Some c =
    let bs = c.args.text.now in
    let signs = vec_items c.in_ok-signs.signs in
    let spelled = c.in_ok-signs.ensures in
    let i = c.args.sign in
    let t = c.index-t.result.now in
    let s = view c.in-Some.reader in
    let there : t ≡ get_or signs i Other = get_or_read signs i t (omega (arith, c.in_ok-signs.signs.ok.0)) c.index-t.ensures Other in
    let read = subst (Reads c.before-2.result.now) c.in-Some.is c.in_ok-reader.ensures in
    let front = c.before-2.ensures ∙ ap (take i) c.deref.ensures.value in
    diagnosed c.args.limit bs signs i spelled _
    (c.fault_next.ensures ∙ ap (λ l. fault_next c.args.limit l s t) c.is_too_large.ensures ∙ ap (λ u. fault_next c.args.limit (too_large bs i u) s u) there
    ∙ next-is c.args.limit bs signs i (omega (arith, c.in_ok-signs.signs.ok.0)) c.if-sign.false s (sym (ap (runs 0 begins 0) front) ∙ read))

pub returns : goal.returns
returns c =
    let bs = c.args.text.now in
    let signs = vec_items c.in_ok-signs.signs in
    let spelled = c.in_ok-signs.ensures in
    let i = c.args.sign in
    let front = c.before-2.ensures ∙ ap (take i) c.deref.ensures.value in
    let stopped = subst (Reads c.before-2.result.now) c.in-None.is c.in_ok-reader.ensures in
    diagnosed c.args.limit bs signs i spelled _
    (before-is c.args.limit bs signs i (omega (arith, c.in_ok-signs.signs.ok.0)) c.if-sign.false stopped.0 (sym (ap (runs 0 begins 0) front) ∙ stopped.1))
