use Rattle.std.proofs.Common.{◌≡◌, ℕ, List, take, drop, Ok, vec_items, string_bytes, ap, ◌∙◌, subst, ap₂}
use Rattle.circuit.specs.declared.gate.Gate.{Gate}
use Rattle.job.specs.Plan.{plan_of, whole}
use Rattle.message.specs.Reading.{SaysOn}
use Rattle.message.specs.Statements.{printed}
use Rattle.message.specs.RoundTrip.{Tells}
use Rattle.message.proofs.compiling.compile_job.Goals as goal

pub returns : goal.returns
returns c =
    let front = c.split_at.ensures.front ∙ ap (λ (k : ℕ). take k c.args.job.now) c.text_length.ensures.exact in
    let back = c.split_at.ensures.back ∙ ap (λ (k : ℕ). drop k c.args.job.now) c.text_length.ensures.exact in
    record {
      qubits = c.in_ok-circuit.circuit.qubits;
      circuit = vec_items c.in_ok-circuit.circuit.gates;
      device = (whole c.in_ok-plan.plan).0;
      places = (whole c.in_ok-plan.plan).1;
      gates = vec_items c.in_ok-compiled.compiled.gates;
      final = vec_items c.in_ok-compiled.compiled.layout;
      asks = record {
        text = subst (λ (bs : List ℕ). SaysOn 256 bs c.in_ok-circuit.circuit.qubits (vec_items c.in_ok-circuit.circuit.gates)) front c.in_ok-circuit.ensures;
        plan = subst (λ (bs : List ℕ). plan_of bs ≡ Ok (whole c.in_ok-plan.plan)) back c.in_ok-plan.ensures;
      };
      carries = c.in_ok-compiled.ensures;
      text = c.in_ok-show_compiled.ensures.exact ∙ ap₂ (λ (gs : List Gate) (ps : List ℕ). printed gs ps) c.deref.ensures.value c.deref-2.ensures.value;
      told =
          subst (λ (ps : List ℕ). Tells (string_bytes c.in_ok-show_compiled.field-0) (vec_items c.in_ok-compiled.compiled.gates) ps) c.deref-2.ensures.value
          (subst (λ (gs : List Gate). Tells (string_bytes c.in_ok-show_compiled.field-0) gs c.deref-2.result.now) c.deref.ensures.value c.in_ok-show_compiled.ensures.told);
    }
