use Rattle.std.proofs.Common.{◌≡◌, length, take, sym, ap, ◌∙◌, ⊎_elim, arith}
use Rattle.std.proofs.lemmas.List.{take_all}
use Rattle.std.proofs.lemmas.Bool.{cases_lt}
use Rattle.diagnosis.proofs.front.before.Goals as goal

pub returns : goal.returns
returns c =
    let ts = c.args.signs.now in
    let i = c.args.place in
    ⊎_elim
    (λ lt. let same : c.min.result ≡ i = omega arith in ap (λ k. take k ts) same)
    (λ ge. take_all c.min.result ts (omega arith) ∙ sym (take_all i ts ge))
    (cases_lt i (length ts))
