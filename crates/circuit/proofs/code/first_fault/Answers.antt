use Rattle.std.proofs.Common.{◌≡◌, ℕ, ◌+◌, ◌*◌, drop, sym, ap, ◌∙◌, arith}
use Rattle.std.proofs.lemmas.List.{length-drop}
use Rattle.circuit.proofs.Codes.{fault_next, fault_short, four_fault}
use Rattle.circuit.proofs.code.first_fault.Goals as goal
use Rattle.circuit.specs.Code.{fault_from}

pub returns-in-Some : goal.returns-in-Some
returns-in-Some c =
    sym (fault_next c.args.numbers.now (4 * c.loop-gate.gate) (omega arith) _ (sym c.in-Some.is ∙ c.fault_of.ensures ∙ four_fault c.args.numbers.now _ c.loop-gate.gate c.as_chunks.ensures.front (omega (arith, c.as_chunks.ensures.front_len)))) ∙ c.loop-gate.invariant

pub loop-gate-preserved : goal.loop-gate-preserved
loop-gate-preserved c =
    let next : 4 * (c.loop-gate.gate + 1) ≡ 4 * c.loop-gate.gate + 4 = omega arith in
    ap (λ (k : ℕ). fault_from k (drop k c.args.numbers.now)) next
    ∙ sym (fault_next c.args.numbers.now (4 * c.loop-gate.gate) (omega arith) _ (sym c.in_default.is ∙ c.fault_of.ensures ∙ four_fault c.args.numbers.now _ c.loop-gate.gate c.as_chunks.ensures.front (omega (arith, c.as_chunks.ensures.front_len))))
    ∙ c.loop-gate.invariant

pub returns : goal.returns
returns c =
    sym (fault_short (4 * c.loop-gate.gate) (drop (4 * c.loop-gate.gate) c.args.numbers.now) (omega (arith, length-drop (4 * c.loop-gate.gate) c.args.numbers.now))) ∙ c.loop-gate.invariant
