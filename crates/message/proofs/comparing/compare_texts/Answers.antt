use Rattle.std.proofs.Common.{List, vec_items, subst, Err, Result}
use Rattle.std.proofs.lemmas.Result.{err_from_is_err_and}
use Rattle.circuit.specs.declared.gate.Gate.{Gate}
use Rattle.circuit.specs.declared.refusal.Refusal.{Refusal}
use Rattle.equivalence.specs.declared.comparison.Comparison.{Comparison}
use Rattle.equivalence.specs.Compare.{Compares, refusal}
use Rattle.message.proofs.comparing.compare_texts.Goals as goal

pub returns-in_err-answer : goal.returns-in_err-answer
returns-in_err-answer c =
    let p = err_from_is_err_and c.from_residual-in_err-answer.result c.from_residual-in_err-answer.ensures.1 in
    let n = c.max-qubits.result in
    let r : Result Comparison Refusal = Err c.in_err-answer.field-0.0 in
    rw (p.1, p.2) (
      n,
      record {
        c = vec_items c.in_ok-c.c.gates;
        c_qubits = c.in_ok-c.c.qubits;
        c_said = c.in_ok-c.ensures;
        d = vec_items c.in_ok-d.d.gates;
        d_qubits = c.in_ok-d.d.qubits;
        d_said = c.in_ok-d.ensures;
        on = c.max-qubits.ensures;
        right =
            subst (λ (xs : List Gate). Compares (refusal n xs (vec_items c.in_ok-d.d.gates)) n xs (vec_items c.in_ok-d.d.gates) r) c.deref.ensures.value
            (subst (λ (ys : List Gate). Compares (refusal n c.deref.result.now ys) n c.deref.result.now ys r) c.deref-2.ensures.value c.in_err-answer.ensures);
      },
    )
