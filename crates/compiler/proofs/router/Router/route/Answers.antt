use Rattle.std.proofs.Common.{◌+◌, length, get_or, sym, subst, arith}
use Rattle.std.proofs.lemmas.List.{take_more, take_rest, length-drop}
use Rattle.circuit.specs.Circuit.{Fit}
use Rattle.circuit.specs.declared.gate.Gate.TheVariants.{Phase}
use Rattle.device.specs.Board.{graph_of}
use Rattle.device.specs.Layout.{Placed, at}
use Rattle.compiler.proofs.Costs.{costs_front, costs-more, fit_at, plain_at}
use Rattle.compiler.proofs.Emit.{emit_none, emit_then, emit_same}
use Rattle.compiler.proofs.router.Router.route.Goals as goal

pub loop-i-init : goal.loop-i-init
loop-i-init g c = (emit_none (length c.args.place.now) (graph_of c.args.self.now.device.now) (at c.args.place.now) c.args.room.now c.requires.placed, omega arith)

pub step-k-requires : goal.step-k-requires
step-k-requires g c =
    let gates = c.args.gates.now in
    let i = c.loop-i.i in
    let h = c.loop-i-test.true in
    let long = sym c.loop-i.auto.place in
    record {
      placed = subst (λ k. Placed k (graph_of c.args.self.now.device.now) (at c.loop-i.place)) long c.loop-i.invariant.0.doing.placed;
      plain = plain_at gates i (Phase 0 0) h c.requires.plain;
      fits = subst (λ k. Fit k (get_or gates i (Phase 0 0))) long (fit_at (length c.args.place.now) gates i (Phase 0 0) h c.requires.fits);
      enough = simp take_rest (simp length-drop (omega (arith, costs-more gates i (Phase 0 0) h, costs_front gates (i + 1), c.loop-i.invariant.1, c.requires.room, c.loop-i.auto.room)));
    }

pub loop-i-preserved : goal.loop-i-preserved
loop-i-preserved g c =
    let gates = c.args.gates.now in
    let i = c.loop-i.i in
    let h = c.loop-i-test.true in (
      emit_same _ _ (sym (take_more gates i (Phase 0 0) h)) (emit_then c.loop-i.auto.place c.loop-i.invariant.0 c.step-k.ensures.done),
      omega (arith, costs-more gates i (Phase 0 0) h, c.loop-i.invariant.1, c.step-k.ensures.most),
    )
