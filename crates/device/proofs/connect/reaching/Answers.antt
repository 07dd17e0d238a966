use Rattle.std.proofs.Common.{ℕ, ◌<◌, arith, below_more, Some, None}
use Rattle.device.specs.Board.{graph_of}
use Rattle.device.specs.Coupling.{Way}
use Rattle.device.specs.Hops.{distances, nexts}
use Rattle.device.proofs.Growth.{way_to, no_way}
use Rattle.device.proofs.Pairs.{first_of_all}
use Rattle.device.proofs.Reading.{wide, first_gap_in}
use Rattle.device.proofs.connect.reaching.Goals as goal

pub returns-in-Some : goal.returns-in-Some
returns-in-Some c =
    let d = graph_of c.args.device.now in
    let hops = c.grow-tree.result.hops in
    let g = c.grow-tree.ensures in
    let e = first_gap_in hops d.size (Some c.in-Some.b) (omega (arith, wide d _ hops g.grown)) c.in-Some.ensures in
    record {
      a_inside = c.loop-a-test.true;
      b_inside = e.0;
      even = c.requires;
      apart = no_way d c.loop-a.a (distances hops) (nexts hops) g.grown g.shut c.in-Some.b e.1;
      first = first_of_all d.size (Way d) c.loop-a.a c.in-Some.b e.0 c.loop-a.invariant (λ y h. way_to d c.loop-a.a (distances hops) (nexts hops) g.grown y (omega (arith, e.0)) (e.2 y h));
    }

pub loop-a-preserved : goal.loop-a-preserved
loop-a-preserved c =
    let d = graph_of c.args.device.now in
    let hops = c.grow-tree.result.hops in
    let g = c.grow-tree.ensures in
    let e = first_gap_in hops d.size None (omega (arith, wide d _ hops g.grown)) c.in_default.ensures in
    let P : ℕ → Type 0 = λ x. (y : ℕ) → y < d.size → Way d x y in
    let p = below_more P c.loop-a.a (λ x h y. c.loop-a.invariant x y h) (λ y h. way_to d c.loop-a.a (distances hops) (nexts hops) g.grown y h (e y h)) in
    λ x y h. p x h y
