use Rattle.std.proofs.Common.{◌≡◌, ℕ, ◌+◌, ◌^◌, List, ◌++◌, append-nil, get_or, take, sym, refl, subst, ap, ◌∙◌, arith, rules, pow_mono}
use Rattle.std.proofs.lemmas.List.{get_or-take, length-take, length-take-le}
use Rattle.std.proofs.Output.{has_written_append, has_written_of_eq}
use Rattle.std.specs.Fmt.{HasWritten}
use Rattle.amplitude.specs.Ring.{nought}
use Rattle.simulation.specs.Playing.{line, lines}
use Rattle.simulation.proofs.Lines.{line-more, line_none, line_some}
use Rattle.simulation.proofs.play.LinesDisplay.fmt.Goals as goal
use Rattle.simulation.proofs.play.LinesDisplay.fmt.Goals.{then-not-is_zero+in_ok-writeln, else-not-is_zero}

pub loop-number-init : goal.loop-number-init
unfolding lines
loop-number-init g c = search rules

pub loop-number-preserved : goal.loop-number-preserved
loop-number-preserved g c = λ p.
    let n = c.args.self.now.0.now.register.qubits in
    let amp = λ (k : ℕ). get_or c.args.self.now.0.now.amplitudes k nought in
    let k = c.loop-number.number in
    let a = get_or (take c.rows.result c.args.self.now.0.now.amplitudes) k nought in
    let there = ap (line n k) (get_or-take c.rows.result c.args.self.now.0.now.amplitudes k nought (omega (arith, length-take c.rows.result c.args.self.now.0.now.amplitudes))) in
    elim c.if-not-is_zero.branch [
      | then-not-is_zero+in_ok-writeln w ↦
          let more = line-more n k amp _ _ refl (ap (λ (xs : List ℕ). lines n amp k ++ xs) (line_some n k a _ c.is_zero.ensures w.if-not-is_zero.true ∙ there)) in
          subst (HasWritten g.W.Write.write_str_gives c.args.f.now (lines n amp (k + 1))) (sym w.f-is)
          (has_written_of_eq _ _ _ _ _ more (has_written_append _ _ _ _ _ _ (c.loop-number.invariant p) (search rules)))
      | else-not-is_zero w ↦
          let same = line-more n k amp _ _ refl (sym (append-nil (lines n amp k)) ∙ ap (λ (xs : List ℕ). lines n amp k ++ xs) (line_none n k a _ c.is_zero.ensures w.if-not-is_zero.false ∙ there)) in
          subst (HasWritten g.W.Write.write_str_gives c.args.f.now (lines n amp (k + 1))) (sym w.f-is) (has_written_of_eq _ _ _ _ _ same (c.loop-number.invariant p))
    ]

pub returns-clause-writes : goal.returns-clause-writes
returns-clause-writes g c = λ p e.
    let n = c.args.self.now.0.now.register.qubits in
    let amp = λ (k : ℕ). get_or c.args.self.now.0.now.amplitudes k nought in
    let all : c.loop-number.number ≡ 2 ^ n = omega (arith, length-take-le c.rows.result c.args.self.now.0.now.amplitudes (omega (arith, pow_mono {i = n} {j = 8} c.args.self.now.0.now.register.few)), c.rows.ensures) in
    has_written_of_eq _ _ _ _ _ (ap (lines n amp) all) (c.loop-number.invariant p)
