use Rattle.std.proofs.Common.{refl, sym, ap, ◌∙◌, subst}
use Rattle.circuit.proofs.Runs.{come, come-none, left-next, ready_small}
use Rattle.circuit.specs.Circuit.{State}
use Rattle.circuit.specs.Vector.{Gives}
use Rattle.circuit.proofs.vector.StateVector.run_each.Goals as goal

pub loop-gate-init : goal.loop-gate-init
loop-gate-init g c = (refl, λ gs gives ready. record { gates = gs; gives = gives; left = record { ready = ready; gives = refl } })

pub apply-requires : goal.apply-requires
apply-requires g c =
    let all = c.requires.ready in
    let left = (come _ _ _ _ _ c.in-Some.ensures.steps (c.loop-gate.invariant.1 all.0 (subst (λ i. Gives g.I.Iterator.next_gives i all.0) (sym c.into_iter-gate-iterator.ensures.into_iter_gives) all.1) all.2)).2 in
    record { fit = left.ready.fit.0; small = ready_small _ _ left.ready }

pub loop-gate-preserved : goal.loop-gate-preserved
loop-gate-preserved g c = (
  c.apply.ensures.kept ∙ c.loop-gate.invariant.0,
  λ gs gives ready.
      let n = come _ _ _ _ _ c.in-Some.ensures.steps (c.loop-gate.invariant.1 gs gives ready) in
      record { gates = n.0; gives = n.1; left = left-next _ _ _ c.loop-gate.self c.apply.new.self n.2 c.apply.ensures.kept c.apply.ensures.done },
)

pub returns : goal.returns
returns g c =
    record {
      kept = c.loop-gate.invariant.0;
      done = λ gs gives ready b. ap (λ (s : State). s b)
          (come-none _ _ _ c.loop-gate.self c.in-None.ensures.steps
          (c.loop-gate.invariant.1 gs (subst (λ i. Gives g.I.Iterator.next_gives i gs) (sym c.into_iter-gate-iterator.ensures.into_iter_gives) gives) ready));
    }
