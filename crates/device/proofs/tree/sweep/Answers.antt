use Rattle.std.proofs.Common.{◌≡◌, Bool, false, ◌+◌, ◌<◌, length, get_or, sym, ◌∙◌, subst₂, arith, rules, below_more}
use Rattle.device.specs.Board.{graph_of}
use Rattle.device.specs.Hops.{IsTree, distances, nexts}
use Rattle.device.specs.declared.tree.Tree.{Tree}
use Rattle.device.proofs.Growth.{Bare, Swept, sweep_more, sweep_same, bare-shut}
use Rattle.device.proofs.Reading.{wide, distance_at, none_at}
use Rattle.device.proofs.tree.sweep.Goals as goal
use Rattle.device.proofs.tree.sweep.Goals.{in-Some+then-hop-level, in_default, in_default-via-in-None-1, in_default-via-in-Some+else-hop-level}

pub loop-x-preserved : goal.loop-x-preserved
loop-x-preserved c =
    let i = c.loop-x.invariant in
    let d = graph_of c.args.device.now in
    let x = c.loop-x.x in
    let hops = c.loop-x.tree.hops in
    let holds : Tree → Bool → Type 0 = λ t any. IsTree d t × (t.root ≡ c.args.tree.now.root) × Swept d (distances t.hops) c.args.level (x + 1) × (any ≡ false → Bare d (distances t.hops) c.args.level (x + 1)) in
    let l : x < length hops = omega (arith, wide d _ hops i.0.grown) in
    elim c.match-tree-x.branch [
      | in-Some+then-hop-level w ↦
          let fx : get_or (distances hops) x 0 ≡ c.args.level = distance_at hops x _ w.in-Some.hop l w.in-Some.is ∙ w.if-hop-level.true in
          subst₂ holds (sym w.tree-is) (sym w.any-is) (w.spread.ensures.grown, w.spread.ensures.root ∙ i.1, sweep_more d _ _ c.args.level x (omega arith) (omega arith) fx i.2 w.spread.ensures.spread, λ e. cc)
      | in_default w ↦
          let far : get_or (distances hops) x 0 ≡ c.args.level → ⊥ = elim w.in_default.branch [
            | in_default-via-in-None-1 v ↦ λ z. let u : get_or (distances hops) x 0 ≡ 255 = search (rules, none_at) in omega arith
            | in_default-via-in-Some+else-hop-level v ↦ λ z. omega (arith, distance_at hops x _ v.in-Some.hop l v.in-Some.is, v.if-hop-level.false)
          ] in
          subst₂ holds (sym w.tree-is) (sym w.any-is) (i.0, i.1, sweep_same d _ c.args.level x far i.2, λ e. below_more (λ y. y < d.size → get_or (distances hops) y 0 ≡ c.args.level → ⊥) x (i.3 e) (λ hm. far))
    ]

pub returns-clause-last : goal.returns-clause-last
returns-clause-last c = λ e. let i = c.loop-x.invariant in let hops = c.loop-x.tree.hops in bare-shut _ _ (distances hops) (nexts hops) i.0.grown _ _ c.loop-x-test.false (omega (arith, c.requires.low)) i.2 (i.3 e)
