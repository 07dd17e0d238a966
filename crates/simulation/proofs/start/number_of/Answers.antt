use Rattle.std.proofs.Common.{ℕ, ◌+◌, ◌^◌, ◌<◌, sym, refl, ◌∙◌, subst, arith}
use Rattle.circuit.specs.Rows.{number}
use Rattle.circuit.proofs.Numbers.{number-below}
use Rattle.simulation.specs.Playing.{row_of}
use Rattle.simulation.proofs.Lines.{as_digit, number_more}
use Rattle.simulation.proofs.start.number_of.Goals as goal

pub loop-digit-init : goal.loop-digit-init
unfolding number
loop-digit-init c = (refl, omega arith)

pub loop-digit-preserved : goal.loop-digit-preserved
loop-digit-preserved c =
    let i = c.loop-digit.digit-index in
    let b = row_of c.args.digits.now in
    let e = number_more i c.loop-digit.number c.from.result b c.loop-digit.invariant.0 (c.from.ensures ∙ as_digit (b i)) in
    (e, subst (λ (x : ℕ). x < 2 ^ (i + 1)) (sym e) (number-below (i + 1) b))
