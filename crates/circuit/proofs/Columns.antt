-- The basis state as a vector, and that gates can be run from it.
use Rattle.std.proofs.Common.{◌≡◌, ℕ, ◌-◌, ◌^◌, ◌<◌, ◌≤◌, Bool, cond, eqb, List, reverse, get_or, set, replicate, sym, refl, ap, ◌∙◌, subst, inl, inr, arith, pow_mono}
use Rattle.std.proofs.lemmas.List.{length-replicate, get_or-set_same, get_or-set_other, get_or-replicate}
use Rattle.std.proofs.lemmas.Bool.{cases_eq, eq-eqb, ne_eqb}
use Rattle.amplitude.proofs.Bounds.{within_more}
use Rattle.amplitude.specs.Ring.{nought, unit, Within}
use Rattle.amplitude.specs.declared.Amplitude.{Amplitude}
use Rattle.circuit.proofs.Counts.{mixes-reverse, fit_reverse}
use Rattle.circuit.proofs.Growth.{basis-bounded, run-bounded}
use Rattle.circuit.proofs.Numbers.{number-below}
use Rattle.circuit.specs.Circuit.{Row, State, run, mixes, AllFit}
use Rattle.circuit.specs.Rows.{number, state_of, basis}
use Rattle.circuit.specs.Vector.{represented, Basis, Ready, Column}
use Rattle.circuit.specs.declared.gate.Gate.{Gate}
use Rattle.circuit.specs.declared.register.Register.{Register}
use Rattle.circuit.specs.declared.vector.StateVector.{StateVector}

module _ (n k : ℕ) (few : n ≤ 8) (inside : k < 2 ^ n) where
  blank : List Amplitude
  blank = replicate 256 nought

  at-number : (j : ℕ) → j < 256 → get_or (set blank k unit) j nought ≡ cond (eqb j k) unit nought
  unfolding blank
  at-number j l =
      elim (cases_eq j k) [
        | inl e ↦ subst (λ (i : ℕ). get_or (set blank k unit) i nought ≡ cond (eqb i k) unit nought) (sym e)
            (get_or-set_same blank k unit nought (omega (arith, length-replicate 256 nought, pow_mono few)) ∙ ap (λ (t : Bool). cond t unit nought) (sym (eq-eqb k k refl)))
        | inr ne ↦ get_or-set_other blank k j unit nought ne ∙ get_or-replicate 256 j nought nought l ∙ ap (λ (t : Bool). cond t unit nought) (sym (ne_eqb j k ne))
      ]

  pub basis-is : (b : Row) → state_of n (set (replicate 256 nought) k unit) b ≡ basis n k b
  unfolding blank state_of basis
  basis-is b = at-number (number n b) (omega (arith, number-below n b, pow_mono few))

pub basis-ready : (n k : ℕ) (gs : List Gate) (s : StateVector) → Basis n k s → AllFit n gs → mixes gs ≤ 60 → Ready gs s
basis-ready n k gs s b fit short =
    record {
      fit = subst (λ (m : ℕ). AllFit m gs) (sym b.qubits_are) fit;
      short = omega arith;
      room = λ r. subst (Within (2 ^ (61 - mixes gs))) (sym (b.is r))
          (within_more 1 (2 ^ (61 - mixes gs)) (basis n k r) (pow_mono {i = 0} {j = 61 - mixes gs} (omega arith)) (basis-bounded n k r));
    }

pub basis_ready_reversed : (n k : ℕ) (gs : List Gate) (s : StateVector) → Basis n k s → AllFit n gs → mixes gs ≤ 60 → Ready (reverse gs) s
basis_ready_reversed n k gs s b fit short = basis-ready n k (reverse gs) s b (fit_reverse n gs fit) (omega (arith, mixes-reverse gs))

-- gates run from a basis state
pub column_of : (n k : ℕ) (gs : List Gate) (s t : StateVector) → Basis n k s → t.register ≡ s.register → ((b : Row) → represented t b ≡ run gs (represented s) b) → Column gs n k t
column_of n k gs s t b kept done =
    record { qubits_are = ap (λ (r : Register). r.qubits) kept ∙ b.qubits_are; is = is; bounded = λ r. subst (Within (2 ^ mixes gs)) (sym (is r)) (run-bounded gs n k r) }
  where
    is : (r : Row) → represented t r ≡ run gs (basis n k) r
    is r = done r ∙ ap (λ (u : State). run gs u r) (λ i c. b.is c i)
