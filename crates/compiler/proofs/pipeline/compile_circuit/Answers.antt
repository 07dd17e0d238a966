use Rattle.std.proofs.Common.{◌≡◌, ℕ, ◌/◌, List, length, Ok, sym, ap, ◌∙◌, subst, arith}
use Rattle.circuit.specs.Circuit.{AllFit}
use Rattle.device.specs.Board.{graph_of}
use Rattle.device.specs.Coupling.{Graph, Connected, graph_in}
use Rattle.device.specs.Layout.{Placed, at}
use Rattle.device.proofs.Places.{placed_from}
use Rattle.compiler.specs.Emits.{costs}
use Rattle.compiler.specs.Expand.{expanded}
use Rattle.compiler.specs.Route.{AllPlain}
use Rattle.compiler.proofs.Expansions.{costs-expanded}
use Rattle.compiler.proofs.Filling.{compiled_fills}
use Rattle.compiler.proofs.Main.{expanded-same}
use Rattle.compiler.proofs.Refusing.{passed, not_refused}
use Rattle.compiler.proofs.pipeline.compile_circuit.Goals as goal

pub route-numbers-requires : goal.route-numbers-requires
route-numbers-requires c =
    let gates = c.args.gates.now in
    let place = c.args.place.now in
    let device = graph_of c.device_from-device.result in
    let ok = passed c.args.n c.args.size c.args.joined.now place gates (length c.args.place_out.now) c.in_ok-check_circuit.ensures in
    let plain = expanded-same c.args.n gates ok.fit in
    let copied : place ≡ c.copy_from_slice.new.self = sym c.copy_from_slice.ensures.after in
    let long : c.args.n ≡ length c.copy_from_slice.new.self = sym ok.long ∙ ap length copied in
    let written = sym c.decompose-count.ensures.written in
    record {
      joined = c.in_ok-check_connected.ensures;
      placed = subst (λ (p : List ℕ). Placed (length p) device (at p)) copied (placed_from device c.args.size place (ap (λ (d : Graph). d.size) c.device_from-device.ensures) ok.placed);
      plain = subst AllPlain written plain.plain;
      fits = subst (AllFit (length c.copy_from_slice.new.self)) written (subst (λ k. AllFit k (expanded gates)) long plain.fit);
      room = omega (arith, ap costs written, costs-expanded gates, c.if-room-gates.false);
    }

pub returns : goal.returns
returns c =
    let n = c.args.n in
    let size = c.args.size in
    let joined = c.args.joined.now in
    let place = c.args.place.now in
    let gates = c.args.gates.now in
    let room = c.args.room.now in
    let out = c.args.place_out.now in
    let ok = passed n size joined place gates (length out) c.in_ok-check_circuit.ensures in
    let gs = c.decompose-count.ensures.written in
    not_refused _ n size joined place gates room c.route-numbers.new.room out c.route-numbers.new.place (Ok (c.route-numbers.result / 4)) c.in_ok-check_circuit.ensures (
      subst Connected c.device_from-device.ensures c.in_ok-check_connected.ensures,
      omega (arith, c.if-room-gates.false),
      compiled_fills n (graph_in size joined) _ place _ _ gates _ room _ _ c.device_from-device.ensures c.copy_from_slice.ensures.after ok.long gs ok.fit
          (omega (arith, c.route-numbers.ensures.most, ap costs gs, costs-expanded gates, c.if-room-gates.false)) c.route-numbers.ensures.done,
    )
