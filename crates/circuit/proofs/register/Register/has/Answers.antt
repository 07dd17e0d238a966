use Rattle.std.proofs.Common.{ℕ, ◌/◌, eqb, sym, ap, ◌∙◌}
use Rattle.std.proofs.lemmas.Nat.{and_mask}
use Rattle.circuit.proofs.Numbers.{row_shift}
use Rattle.circuit.proofs.register.Register.has.Goals as goal
use Rattle.circuit.specs.Rows.{weight}

pub returns : goal.returns
returns c =
    ap (λ (x : ℕ). eqb x 1) (and_mask (c.args.number / weight c.args.self.qubits c.args.qubit) 1)
    ∙ sym (row_shift c.args.self.qubits c.args.number c.args.qubit c.requires)
