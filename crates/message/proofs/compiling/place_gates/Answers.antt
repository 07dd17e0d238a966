use Rattle.std.proofs.Common.{◌≡◌, ℕ, ◌*◌, ◌≤◌, List, length, take, vec_items, ap, ◌∙◌, arith, rules}
use Rattle.std.proofs.lemmas.Result.{err_from_is_err_and}
use Rattle.circuit.specs.Code.{gates_in}
use Rattle.compiler.specs.Refuses.{enough}
use Rattle.message.proofs.Jobs.{lent, turned_away, carried}
use Rattle.message.proofs.compiling.place_gates.Goals as goal

pub returns-in_err-count : goal.returns-in_err-count
returns-in_err-count c =
    let p = err_from_is_err_and c.from_residual-in_err-count.result c.from_residual-in_err-count.ensures.1 in
    let long : length c.deref_mut-2.result.now ≡ c.args.qubits = search rules in
    let roomy : enough c.args.gates.now ≤ length c.deref_mut.result.now = search rules in
    rw (p.1, p.2) (turned_away c.args.qubits c.deref_mut.result.now c.compile_circuit.new.room c.deref_mut-2.result.now c.compile_circuit.new.place_out
    c.args.plan.now.device.size (vec_items c.args.plan.now.device.joined) (vec_items c.args.plan.now.layout) c.args.gates.now long roomy
    (c.from.result, c.deref.result.now, c.deref-2.result.now, c.args.gates.now)
    (λ i. (c.from.ensures i, c.deref.ensures.value i, c.deref-2.ensures.value i, c.args.gates.now))
    c.in_err-count.field-0.0 c.in_err-count.ensures)

pub returns : goal.returns
returns c =
    let long : length c.deref_mut-2.result.now ≡ c.args.qubits = search rules in
    let roomy : enough c.args.gates.now ≤ length c.deref_mut.result.now = search rules in
    let whole : c.in_ok-room.room.len ≡ length c.compile_circuit.new.room = omega (arith, c.compile_circuit.auto.room, c.deref_mut.ensures.len) in
    let kept : c.in_ok-layout.layout.len ≡ length c.compile_circuit.new.place_out = omega (arith, c.compile_circuit.auto.place_out, c.deref_mut-2.ensures.len) in
    carried c.args.qubits c.deref_mut.result.now c.compile_circuit.new.room c.deref_mut-2.result.now c.compile_circuit.new.place_out
    c.args.plan.now.device.size (vec_items c.args.plan.now.device.joined) (vec_items c.args.plan.now.layout) c.args.gates.now long roomy
    (c.from.result, c.deref.result.now, c.deref-2.result.now, c.args.gates.now)
    (λ i. (c.from.ensures i, c.deref.ensures.value i, c.deref-2.ensures.value i, c.args.gates.now))
    c.in_ok-count.count c.in_ok-count.ensures (vec_items c.in_ok-gates.gates) _
    (c.in_ok-gates.ensures ∙ ap (λ (xs : List ℕ). gates_in (take (4 * c.in_ok-count.count) xs)) (c.deref-3.ensures.value ∙ lent _ c.compile_circuit.new.room _ whole))
    (lent _ c.compile_circuit.new.place_out _ kept)
