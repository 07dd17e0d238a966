use Rattle.std.proofs.Common.{arith, ◌≡◌, take, vec_items, filter, sym, ap, ◌∙◌, subst}
use Rattle.std.proofs.lemmas.Result.{IfOk-weaker}
use Rattle.text.specs.Accept.{accepts}
use Rattle.text.specs.Reading.{view}
use Rattle.diagnosis.specs.Front.{ReadsFew}
use Rattle.diagnosis.specs.Standing.{CouldFollow, CouldStand}
use Rattle.diagnosis.proofs.Next.{stand_none, stand_read}
use Rattle.diagnosis.proofs.expect.could_stand.Goals as goal

pub returns-in_ok-every-in-Some : goal.returns-in_ok-every-in-Some
returns-in_ok-every-in-Some c =
    let s = view c.in-Some.reader in
    IfOk-weaker c.accepted.result (λ v. vec_items v ≡ filter (accepts s) c.deref.result.now) (λ v. CouldStand c.args.text.now c.args.sign (vec_items v))
    (λ v e ts spelled.
    let us = take c.args.sign ts in
    let read = subst (ReadsFew 4095 us) c.in-Some.is (c.in_ok-reader.ensures ts spelled) in
    subst (CouldFollow us) (sym (e ∙ ap (filter (accepts s)) (c.deref.ensures.value ∙ c.in_ok-every-in-Some.ensures))) (stand_read us s read.1 (omega (arith, read.0))))
    c.accepted.ensures

pub returns-in-None : goal.returns-in-None
returns-in-None c = λ ts spelled.
    let us = take c.args.sign ts in
    subst (CouldFollow us) (sym c.new.ensures.items) (stand_none us (subst (ReadsFew 4095 us) c.in-None.is (c.in_ok-reader.ensures ts spelled)))
