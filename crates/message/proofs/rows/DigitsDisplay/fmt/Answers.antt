use Rattle.std.proofs.Common.{◌++◌, ap, ◌∙◌, rules}
use Rattle.std.proofs.Output.{has_written_append, has_written_of_eq}
use Rattle.circuit.specs.Rows.{row}
use Rattle.message.specs.Answers.{digit, row_text}
use Rattle.message.proofs.RowDigits.{digit-more}
use Rattle.message.proofs.rows.DigitsDisplay.fmt.Goals as goal

pub loop-qubit-init : goal.loop-qubit-init
unfolding row_text
loop-qubit-init g c = search rules

pub loop-qubit-preserved : goal.loop-qubit-preserved
loop-qubit-preserved g c = λ p.
    let q = c.loop-qubit.qubit in
    let b = row c.args.self.now.register.qubits c.args.self.now.number in
    has_written_of_eq _ _ _ _ _ (ap (λ w. row_text q b ++ w) (c.digit.ensures ∙ ap digit c.has.ensures) ∙ digit-more q b)
    (has_written_append _ _ _ _ _ _ (c.loop-qubit.invariant p) (search rules))
