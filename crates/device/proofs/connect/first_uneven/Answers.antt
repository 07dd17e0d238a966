use Rattle.std.proofs.Common.{◌≡◌, rules, tests}
use Rattle.std.proofs.lemmas.Iterator.{first_from_Range}
use Rattle.device.specs.Board.{wired}
use Rattle.device.proofs.Pairs.{first_not}
use Rattle.device.proofs.connect.first_uneven.Goals as goal

pub returns : goal.returns
returns c =
    let d = c.args.device.now in
    let a = c.args.a in
    first_not _ _ c.find.result (first_from_Range _ _ _ c.find.result (λ b. wired d a b ≡ wired d b a → ⊥) (λ b. wired d a b ≡ wired d b a) c.find.ensures.ran (λ x q k. search (rules, tests)) (λ x q k. search (rules, tests)))
