-- How large amplitudes grow: a Hadamard doubles the bound, and no other gate changes it.
use Rattle.std.proofs.Common.{◌≡◌, ℕ, suc, ◌+◌, ◌^◌, Bool, true, false, cond, ◌&&◌, eqb, List, [], ◌∷◌, ap, subst, pow-suc, zero-add, arith}
use Rattle.amplitude.proofs.Bounds.{within_plus, within_minus, within_turned}
use Rattle.amplitude.specs.Ring.{nought, unit, plus, minus, turned, Within}
use Rattle.amplitude.specs.declared.Amplitude.{Amplitude}
use Rattle.circuit.specs.Circuit.{State, flipped, does, run, mixed, mixes}
use Rattle.circuit.specs.Rows.{number, basis}
use Rattle.circuit.specs.Vector.{Bounded}
use Rattle.circuit.specs.declared.gate.Gate.{Gate}
use Rattle.circuit.specs.declared.gate.Gate.TheVariants.{Phase, Hadamard, Not, ControlledNot, Toffoli}

either : (m : ℕ) (t : Bool) (x y : Amplitude) → Within m x → Within m y → Within m (cond t x y)
either m true x y h k = h
either m false x y h k = k

doubled : (k : ℕ) → 2 ^ k + 2 ^ k ≡ 2 ^ (1 + k)
doubled k = let e : suc k ≡ 1 + k = omega arith in omega (arith, pow-suc 2 k, ap (λ (x : ℕ). 2 ^ x) e)

pub bounded-does : (g : Gate) (k : ℕ) (s : State) → Bounded (2 ^ k) s → Bounded (2 ^ (mixed g + k)) (does g s)
unfolding does
bounded-does (Phase m q) k s h = rw zero-add (λ b. either (2 ^ k) (b q) (turned m (s b)) (s b) (within_turned (2 ^ k) m (s b) (h b)) (h b))
bounded-does (Hadamard q) k s h =
    subst (λ (x : ℕ). Bounded x (does (Hadamard q) s)) (doubled k)
    (λ b. either (2 ^ k + 2 ^ k) (b q) (minus (s (flipped q b)) (s b)) (plus (s b) (s (flipped q b)))
    (within_minus (2 ^ k) (s (flipped q b)) (s b) (h (flipped q b)) (h b)) (within_plus (2 ^ k) (s b) (s (flipped q b)) (h b) (h (flipped q b))))
bounded-does (Not q) k s h = rw zero-add (λ b. h (flipped q b))
bounded-does (ControlledNot c q) k s h = rw zero-add (λ b. either (2 ^ k) (b c) (s (flipped q b)) (s b) (h (flipped q b)) (h b))
bounded-does (Toffoli c d q) k s h = rw zero-add (λ b. either (2 ^ k) (b c && b d) (s (flipped q b)) (s b) (h (flipped q b)) (h b))

pub bounded-run : (gs : List Gate) (k : ℕ) (s : State) → Bounded (2 ^ k) s → Bounded (2 ^ (mixes gs + k)) (run gs s)
unfolding run mixes
bounded-run [] k s h = rw zero-add h
bounded-run (g ∷ gs) k s h =
    let e : mixes gs + (mixed g + k) ≡ mixed g + mixes gs + k = omega arith in
    subst (λ (n : ℕ). Bounded (2 ^ n) (run gs (does g s))) e (bounded-run gs (mixed g + k) (does g s) (bounded-does g k s h))

small : (t : Bool) → Within 1 (cond t unit nought)
small true = record { of_one = omega arith; of_w = omega arith; of_w2 = omega arith; of_w3 = omega arith }
small false = record { of_one = omega arith; of_w = omega arith; of_w2 = omega arith; of_w3 = omega arith }

pub basis-bounded : (n k : ℕ) → Bounded (2 ^ 0) (basis n k)
unfolding basis
basis-bounded n k b = small (eqb (number n b) k)

-- from a basis state
pub run-bounded : (gs : List Gate) (n k : ℕ) → Bounded (2 ^ mixes gs) (run gs (basis n k))
run-bounded gs n k =
    let e : mixes gs + 0 ≡ mixes gs = omega arith in
    subst (λ (m : ℕ). Bounded (2 ^ m) (run gs (basis n k))) e (bounded-run gs 0 (basis n k) (basis-bounded n k))
