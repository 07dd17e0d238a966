use Rattle.std.proofs.Common.{◌≡◌, ℕ, ◌<◌, below_more}
use Rattle.device.specs.Board.{wired}
use Rattle.device.proofs.Pairs.{first_of_all}
use Rattle.device.proofs.connect.even.Goals as goal

pub returns-in-Some : goal.returns-in-Some
returns-in-Some c =
    let d = c.args.device.now in
    let e = c.in-Some.ensures in
    record { a_inside = c.loop-a-test.true; b_inside = e.0; differs = e.1; first = first_of_all d.size (λ x y. wired d x y ≡ wired d y x) c.loop-a.a c.in-Some.b e.0 c.loop-a.invariant e.2 }

pub loop-a-preserved : goal.loop-a-preserved
loop-a-preserved c =
    let d = c.args.device.now in
    let P : ℕ → Type 0 = λ x. (y : ℕ) → y < d.size → wired d x y ≡ wired d y x in
    let p = below_more P c.loop-a.a (λ x h y. c.loop-a.invariant x y h) c.in_default.ensures in
    λ x y h. p x h y
