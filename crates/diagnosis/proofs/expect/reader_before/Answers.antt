use Rattle.std.proofs.Common.{None, take, vec_items, ap, ◌∙◌, arith}
use Rattle.std.proofs.lemmas.Result.{IfOk-weaker}
use Rattle.diagnosis.proofs.Next.{by_front, reads_few}
use Rattle.diagnosis.specs.Front.{Reads, ReadsFew}
use Rattle.diagnosis.proofs.expect.reader_before.Goals as goal

pub returns-then-front-most : goal.returns-then-front-most
returns-then-front-most c =
    let front = c.before-front.result.now in
    by_front (λ us. ReadsFew c.args.most us None) c.args.text.now (vec_items c.in_ok-signs.signs) front c.args.place c.in_ok-signs.ensures (c.before-front.ensures ∙ ap (take c.args.place) c.deref.ensures.value)
    (λ h. absurd (omega (arith, h)))

pub returns : goal.returns
returns c =
    let front = c.before-front.result.now in
    IfOk-weaker c.reader_after.result (Reads front) _
    (λ o r. by_front (λ us. ReadsFew c.args.most us o) c.args.text.now (vec_items c.in_ok-signs.signs) front c.args.place c.in_ok-signs.ensures (c.before-front.ensures ∙ ap (take c.args.place) c.deref.ensures.value)
    (reads_few c.args.most front o (omega arith) r))
    c.reader_after.ensures
