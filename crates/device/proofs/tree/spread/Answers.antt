use Rattle.std.proofs.Common.{◌≡◌, ◌+◌, ◌<◌, get_or, sym, refl, ◌∙◌, subst, arith}
use Rattle.std.proofs.lemmas.Bool.{both_ways}
use Rattle.device.specs.Board.{graph_of}
use Rattle.device.specs.Hops.{IsTree, distances, nexts}
use Rattle.device.specs.Trees.{Spread}
use Rattle.device.specs.declared.tree.Tree.{Tree}
use Rattle.device.proofs.Growth.{short, spread_same}
use Rattle.device.proofs.Reading.{wide, told_reached, told_unreached, tree_hop, spread_hop}
use Rattle.device.proofs.tree.spread.Goals as goal
use Rattle.device.proofs.tree.spread.Goals.{then-joins+then-is_none, else-joins, else-joins-via-then-joins+else-is_none, else-joins-via-else-joins}

pub invariant_of-tree : goal.invariant_of-tree
invariant_of-tree c =
    let i = c.loop-y.invariant in
    let d = graph_of c.args.device.now in
    let x = c.args.x in
    let y = c.loop-y.y in
    let hops = c.loop-y.tree.hops in
    let fx : get_or (distances hops) x 0 ≡ c.args.distance = i.2.kept x c.requires.place (omega (arith, c.requires.near, c.requires.low)) ∙ c.requires.near in
    let n = wide d _ hops i.0.grown in
    let fy = told_unreached hops y _ (omega (arith, n)) c.if-is_none.ensures in
    record { short = omega (arith, fx, short d _ (distances hops) (nexts hops) i.0.grown (omega arith) x y c.requires.place c.loop-y-test.true (omega (arith, fx, c.requires.low)) fy (sym c.if-joins.ensures)) }

pub loop-y-preserved : goal.loop-y-preserved
loop-y-preserved c =
    let i = c.loop-y.invariant in
    let d = graph_of c.args.device.now in
    let x = c.args.x in
    let y = c.loop-y.y in
    let hops = c.loop-y.tree.hops in
    let was = distances c.args.tree.now.hops in
    let fx : get_or (distances hops) x 0 ≡ c.args.distance = i.2.kept x c.requires.place (omega (arith, c.requires.near, c.requires.low)) ∙ c.requires.near in
    let n = wide d _ hops i.0.grown in
    let holds : Tree → Type 0 = λ t. IsTree d t × (t.root ≡ c.args.tree.now.root) × Spread d was (distances t.hops) x (y + 1) in
    elim c.if-joins.branch [
      | then-joins+then-is_none w ↦
          let jn = sym w.if-joins.ensures in
          let fy = told_unreached hops y _ (omega (arith, n)) w.if-is_none.ensures in
          let lx : get_or (distances hops) x 0 < 255 = omega (arith, fx, c.requires.low) in
          subst holds (sym w.tree-is) (
            tree_hop d _ i.0 (omega arith) x y c.requires.place c.loop-y-test.true lx fy jn _ (omega (arith, fx)) refl,
            i.1,
            spread_hop d _ i.0 (omega arith) x y c.requires.place c.loop-y-test.true lx fy jn _ (omega (arith, fx)) refl was (omega (arith, c.requires.near, c.requires.low)) i.2,
          )
      | else-joins w ↦ subst holds (sym w.tree-is) (
        i.0,
        i.1,
        spread_same d was (distances hops) x y i.2
            (λ u. elim w.else-joins.branch [
              | else-joins-via-else-joins v ↦ absurd (both_ways _ (sym v.if-joins.ensures) u)
              | else-joins-via-then-joins+else-is_none v ↦ told_reached hops y _ (omega (arith, n)) v.if-is_none.ensures
            ]),
      )
    ]
