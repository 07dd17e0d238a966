-- That there is one turn.
use Rattle.std.proofs.Common.{◌≡◌, ℕ, zero, suc, ◌%◌, false, List, pos, sym, refl, ap, ◌∙◌, arith}
use mathlib.Core.Path.{fun_ext}
use native.Mathlib.Decide.{ℕ_discrete}
use Rattle.amplitude.proofs.RingLaws.{minus_self, rooted_injective, rooted-nought}
use Rattle.amplitude.specs.Ring.{nought, unit, rooted}
use Rattle.amplitude.specs.declared.Amplitude.{Amplitude}
use Rattle.circuit.proofs.Linear.{run-minus}
use Rattle.circuit.specs.Circuit.{Row, State, run, mixes, AllFit, AlikeBy}
use Rattle.circuit.specs.declared.gate.Gate.{Gate}
use Rattle.equivalence.proofs.Basis.{turn-told}
use Rattle.equivalence.proofs.Turning.{amplitude_discrete}
use Rattle.laws.proofs.Undo.{apart}

-- the turn is told, since no circuit brings all to nought
unit-not : unit ≡ nought → ⊥
unit-not e = let h : pos 1 ≡ pos 0 = ap (λ (x : Amplitude). x.one) e in let z : ◌≡◌ {A = ℕ} 1 0 = cc in omega arith

run-nought : (gs : List Gate) (b : Row) → run gs (λ _. nought) b ≡ nought
run-nought gs b =
    ap (λ (u : State). run gs u b) (fun_ext (λ (r : Row). sym (minus_self nought))) ∙ ap (λ (u : State). u b) (run-minus gs (λ _. nought) (λ _. nought)) ∙ minus_self (run gs (λ _. nought) b)

pub one-turn : (n : ℕ) (c d : List Gate) (t u : ℕ) → AllFit n d → AlikeBy c d t → AlikeBy c d u → t % 8 ≡ u % 8
one-turn n c d t u fd p q = go (ℕ_discrete (t % 8) (u % 8))
  where
    at : (t % 8 ≡ u % 8 → ⊥) → (b : Row) → Dec (rooted (mixes c) (run d (λ _. unit) b) ≡ nought) → run d (λ _. unit) b ≡ run d (λ _. nought) b
    at ne b (yes e) = rooted_injective (mixes c) (run d (λ _. unit) b) nought (e ∙ sym (rooted-nought (mixes c))) ∙ sym (run-nought d b)
    at ne b (no other) = absurd (ne (turn-told t u (rooted (mixes c) (run d (λ _. unit) b)) other (sym (p (λ _. unit) b) ∙ q (λ _. unit) b)))

    go : Dec (t % 8 ≡ u % 8) → t % 8 ≡ u % 8
    go (yes e) = e
    go (no ne) = absurd (unit-not (apart n d (λ _. unit) (λ _. nought) fd (λ b. at ne b (amplitude_discrete _ _)) (λ _. false)))
