use Rattle.std.proofs.Common.{◌≡◌, ℕ, ◌+◌, Bool, cond, count_by, List, drop, get_or, arith, ◌∙◌}
use Rattle.std.proofs.lemmas.List.{at_drop_more, at_drop_all}
use Rattle.std.proofs.lemmas.List.Sums.{sum_by-cons}
use Rattle.circuit.specs.Circuit.{t_count}
use Rattle.circuit.specs.declared.gate.Gate.{Gate}
use Rattle.circuit.specs.declared.gate.Gate.TheVariants.{Phase}
use Rattle.summary.specs.Counts.{is_cnot, is_toffoli}
use Rattle.summary.proofs.tally.count.Goals as goal
use Rattle.summary.proofs.tally.count.Goals.{in-Phase, in-ControlledNot, in-Toffoli, in_default}

pub loop-gate-preserved : goal.loop-gate-preserved
unfolding t_count
loop-gate-preserved c =
    let gs : List Gate = c.args.gates.now in
    let i : ℕ = c.loop-gate.gate-index in
    let g : Gate = get_or gs i (Phase 0 0) in
    let counted = λ (p : Gate → Bool). at_drop_more (count_by p) gs i (Phase 0 0) c.loop-gate-test.true ∙ sum_by-cons (λ x. cond (p x) 1 0) g (drop (i + 1) gs) in
    let one = counted is_cnot in
    let two = counted is_toffoli in
    let three = at_drop_more t_count gs i (Phase 0 0) c.loop-gate-test.true in
    elim c.match-gate.branch [
      | in-Phase w ↦ grind arith
      | in-ControlledNot w ↦ grind arith
      | in-Toffoli w ↦ grind arith
      | in_default w ↦ grind arith
    ]

pub returns : goal.returns
unfolding t_count
returns c =
    let gs : List Gate = c.args.gates.now in
    let i : ℕ = c.loop-gate.gate-index in
    let one = at_drop_all (count_by is_cnot) gs i c.loop-gate-test.false in
    let two = at_drop_all (count_by is_toffoli) gs i c.loop-gate-test.false in
    let three = at_drop_all t_count gs i c.loop-gate-test.false in
    let a : c.loop-gate.cnots ≡ count_by is_cnot gs = omega arith in
    let b : c.loop-gate.toffolis ≡ count_by is_toffoli gs = omega arith in
    let d : c.loop-gate.t_count ≡ t_count gs = omega arith in
    cc
