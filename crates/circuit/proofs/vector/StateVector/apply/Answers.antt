use Rattle.std.proofs.Common.{ℕ, ◌+◌, ◌^◌, sym, ap, ◌∙◌, subst, arith}
use Rattle.circuit.proofs.Pairs.{by, DoneBelow, here, partner-below, pair_within, swept_pair, swept_all}
use Rattle.circuit.proofs.Sweep.{swept_skip}
use Rattle.circuit.proofs.vector.StateVector.apply.Goals as goal
use Rattle.circuit.proofs.vector.StateVector.apply.Goals.{then-not-has, else-not-has}
use Rattle.circuit.specs.Circuit.{target}
use Rattle.circuit.specs.Rows.{row, state_of}
use Rattle.circuit.specs.declared.register.Register.{Register}
use Rattle.circuit.specs.declared.vector.StateVector.{StateVector}

pub bounds-self-row-then-not-has : goal.bounds-self-row-then-not-has
bounds-self-row-then-not-has c =
    partner-below c.args.self.now.register.qubits c.args.gate c.args.self.now.register.few c.requires.fit
    (here _ _ c.target-target.ensures c.weight-bit.ensures c.rows-row-end.ensures c.loop-row-test.true c.has.ensures c.if-not-has.true)

pub bounds-self-row-then-not-has-3 : goal.bounds-self-row-then-not-has-3
bounds-self-row-then-not-has-3 c =
    partner-below c.args.self.now.register.qubits c.args.gate c.args.self.now.register.few c.requires.fit
    (here _ _ c.target-target.ensures c.weight-bit.ensures c.rows-row-end.ensures c.loop-row-test.true c.has.ensures c.if-not-has.true)

pub pair-requires : goal.pair-requires
pair-requires c =
    let small = pair_within c.args.self.now.register.qubits c.args.gate c.requires.fit c.args.self.now.amplitudes c.loop-row.self.amplitudes
    (here _ _ c.target-target.ensures c.weight-bit.ensures c.rows-row-end.ensures c.loop-row-test.true c.has.ensures c.if-not-has.true)
    c.loop-row.invariant.1 (2 ^ 61) c.requires.small in
    record { fit = c.requires.fit; zero_small = small.0; one_small = small.1 }

pub loop-row-preserved : goal.loop-row-preserved
loop-row-preserved c =
    elim c.if-not-has.branch [
      | then-not-has w ↦ (
        ap (λ (s : StateVector). s.register) w.self-is ∙ c.loop-row.invariant.0,
        subst (λ (s : StateVector). DoneBelow c.args.self.now.register.qubits c.args.gate c.args.self.now.amplitudes (c.loop-row.row + 1) s.amplitudes) (sym w.self-is)
            (swept_pair c.args.self.now.register.qubits c.args.gate c.requires.fit c.args.self.now.amplitudes c.loop-row.self.amplitudes
            (here _ _ c.target-target.ensures c.weight-bit.ensures c.rows-row-end.ensures c.loop-row-test.true c.has.ensures w.if-not-has.true)
            c.loop-row.invariant.1 c.args.self.now.register.few c.loop-row.self.whole w.pair.result w.pair.ensures),
      )
      | else-not-has w ↦ (
        ap (λ (s : StateVector). s.register) w.self-is ∙ c.loop-row.invariant.0,
        subst (λ (s : StateVector). DoneBelow c.args.self.now.register.qubits c.args.gate c.args.self.now.amplitudes (c.loop-row.row + 1) s.amplitudes) (sym w.self-is)
            (swept_skip c.args.self.now.register.qubits (target c.args.gate) (by c.args.self.now.register.qubits c.args.gate) c.args.self.now.amplitudes c.loop-row.row c.loop-row.self.amplitudes c.loop-row.invariant.1
            (sym (ap (row c.args.self.now.register.qubits c.loop-row.row) c.target-target.ensures) ∙ sym c.has.ensures ∙ w.if-not-has.false)),
      )
    ]

pub returns : goal.returns
returns c =
    record {
      kept = c.loop-row.invariant.0;
      done = λ b. ap (λ (r : Register). state_of r.qubits c.loop-row.self.amplitudes b) c.loop-row.invariant.0
          ∙ swept_all c.args.self.now.register.qubits c.args.gate c.requires.fit c.args.self.now.amplitudes c.loop-row.self.amplitudes
          (subst (λ (k : ℕ). DoneBelow c.args.self.now.register.qubits c.args.gate c.args.self.now.amplitudes k c.loop-row.self.amplitudes) (omega arith) c.loop-row.invariant.1) b;
    }
