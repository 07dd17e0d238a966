use Rattle.std.specs.Fmt.{HasWritten, IsPlainFormatter}
use Rattle.circuit.specs.Rows.{row}
use Rattle.message.specs.Answers.{row_text}
use Rattle.message.proofs.rows.DigitsDisplay.fmt.Given as goal

abbrev pub invariant-loop-qubit : goal.invariant-loop-qubit
invariant-loop-qubit g l = IsPlainFormatter l.fn.f → HasWritten g.W.Write.write_str_gives l.fn.f (row_text l.qubit (row l.self.register.qubits l.self.number)) l.f
