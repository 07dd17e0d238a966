use Rattle.std.proofs.Common.{List, Err, vec_items, subst}
use Rattle.std.proofs.lemmas.Result.{err_from_is_err_and}
use Rattle.circuit.specs.declared.gate.Gate.{Gate}
use Rattle.device.specs.Coupling.{graph_in}
use Rattle.device.specs.Layout.{at}
use Rattle.compiler.specs.Promise.{CarriesOut}
use Rattle.job.specs.Plan.{whole}
use Rattle.message.specs.Compiled.{Brought}
use Rattle.message.proofs.Jobs.{brought_on, checked, still_brought}
use Rattle.message.proofs.compiling.bring.Goals as goal

pub returns-in_err-compiled : goal.returns-in_err-compiled
returns-in_err-compiled c =
    let p = err_from_is_err_and c.from_residual-in_err-compiled.result c.from_residual-in_err-compiled.ensures.1 in
    rw (p.1, p.2)
    (still_brought c.args.circuit.qubits (vec_items c.args.circuit.gates) (vec_items c.tidy_unless.new.gates) (whole c.args.plan.now).0 (whole c.args.plan.now).1
    (checked c.args.circuit.qubits (c.from.result, c.deref.result.now, c.deref-2.result.now, c.deref-3.result.now)
    (c.args.plan.now.device.size, vec_items c.args.plan.now.device.joined, vec_items c.args.plan.now.layout, vec_items c.args.circuit.gates)
    (λ i. (c.from.ensures i, c.deref.ensures.value i, c.deref-2.ensures.value i, c.deref-3.ensures.value i)) c.in_ok-check_circuit.ensures)
    c.tidy_unless.ensures c.in_err-compiled.field-0.0
    (subst (λ (xs : List Gate). Brought c.args.circuit.qubits xs (whole c.args.plan.now).0 (whole c.args.plan.now).1 (Err c.in_err-compiled.field-0.0)) c.deref-4.ensures.value c.in_err-compiled.ensures))

pub returns : goal.returns
returns c =
    brought_on c.args.circuit.qubits (graph_in c.args.plan.now.device.size (vec_items c.args.plan.now.device.joined)) (at (vec_items c.args.plan.now.layout)) (at (vec_items c.in_ok-compiled.compiled.layout))
    (vec_items c.args.circuit.gates) (vec_items c.tidy_unless.new.gates) (vec_items c.in_ok-compiled.compiled.gates) (vec_items c.tidy_unless-2.new.gates)
    c.tidy_unless.ensures
    (subst (λ (xs : List Gate). CarriesOut c.args.circuit.qubits (graph_in c.args.plan.now.device.size (vec_items c.args.plan.now.device.joined)) (at (vec_items c.args.plan.now.layout)) (at (vec_items c.in_ok-compiled.compiled.layout)) xs (vec_items c.in_ok-compiled.compiled.gates))
    c.deref-4.ensures.value c.in_ok-compiled.ensures)
    c.tidy_unless-2.ensures
