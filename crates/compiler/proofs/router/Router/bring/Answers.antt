use Rattle.std.proofs.Common.{◌≡◌, ℕ, ◌+◌, ◌-◌, ◌*◌, ◌<◌, [], length, get_or, subst, ap₂, arith}
use borrow.Rule.Slice.PartMut.{put_mid}
use Rattle.std.proofs.lemmas.List.{take_rest, length-drop}
use Rattle.laws.specs.Rename.{other}
use Rattle.device.specs.Board.{graph_of}
use Rattle.device.specs.Distances.{apart}
use Rattle.device.specs.Layout.{at}
use Rattle.compiler.specs.Emits.{Emitted}
use Rattle.compiler.proofs.Emit.{emit_none, emit_swap}
use Rattle.compiler.proofs.Nearing.{is_low, is_apart, is_far, is_even}
use Rattle.compiler.proofs.router.Router.bring.Goals as goal

pub loop-place-init : goal.loop-place-init
loop-place-init g c =
    let router = c.args.self.now in
    let place = c.args.place.now in
    let d = graph_of router.device.now in
    let l = c.requires.placed in
    let low = is_low d router.ways router.joined router.grown (get_or place c.args.control 0) (get_or place c.args.target 0) (l.inside c.args.control c.requires.two.0) (l.inside c.args.target c.requires.two.1) in
    (emit_none (length place) d (at place) c.args.room.now l, omega (arith, low))

pub next_swap-swap-requires-clause-far : goal.next_swap-swap-requires-clause-far
next_swap-swap-requires-clause-far g c =
    let router = c.args.self.now in
    is_far (graph_of router.device.now) router.ways router.joined router.grown c.args.control c.args.target c.loop-place.invariant.0.doing.placed c.requires.two c.from.ensures c.from-in-loop-place.ensures c.loop-place-test.ensures

pub write-requires : goal.write-requires
write-requires g c =
    let router = c.args.self.now in
    let far = is_far (graph_of router.device.now) router.ways router.joined router.grown c.args.control c.args.target c.loop-place.invariant.0.doing.placed c.requires.two c.from.ensures c.from-in-loop-place.ensures c.loop-place-test.ensures in
    simp take_rest (simp length-drop (omega (arith, far, c.loop-place.invariant.1, c.requires.room, c.loop-place.auto.room)))

pub loop-place-preserved : goal.loop-place-preserved
loop-place-preserved g c =
    let router = c.args.self.now in
    let d = graph_of router.device.now in
    let x = c.next_swap-swap.result.x in
    let y = c.next_swap-swap.result.y in
    let s = c.next_swap-swap.ensures in
    let room = c.loop-place.room in
    let moved : (k : ℕ) → k < length c.args.place.now → get_or c.apply.new.place k 0 ≡ other x y (get_or c.loop-place.place k 0) = λ k h. c.apply.ensures k (omega arith) in
    let e : 12 * c.loop-place.made + 12 ≡ 12 * (c.loop-place.made + 1) = omega arith in
    let room1 = put_mid (12 * c.loop-place.made) (length room - 12 * c.loop-place.made) room c.write.new.room in
    let even = is_even d router.ways router.joined router.grown y x s.y_inside s.x_inside in
    let m = emit_swap c.loop-place.place c.apply.new.place c.write.new.room x y s.x_inside s.y_inside s.differs s.joined even moved c.write.ensures c.loop-place.invariant.0 in (
      subst (λ k. Emitted (length c.args.place.now) d (at c.args.place.now) (at c.apply.new.place) [] c.args.room.now room1 k) e m,
      omega (arith, ap₂ (apart router.ways) (moved c.args.control c.requires.two.0) (moved c.args.target c.requires.two.1), s.enough),
    )

pub returns-clause-most : goal.returns-clause-most
returns-clause-most g c =
    let router = c.args.self.now in
    omega (arith, c.loop-place.invariant.1, is_apart (graph_of router.device.now) router.ways router.joined router.grown c.args.control c.args.target c.loop-place.invariant.0.doing.placed c.requires.two)
