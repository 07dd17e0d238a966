-- Rows of noughts and ones: flipping one, and the tests on it.
use Rattle.std.proofs.Common.{◌≡◌, ℕ, Bool, true, false, cond, not, eqb, refl, eq-eqb, ne_eqb}
use mathlib.Core.Path.{fun_ext}
use Rattle.circuit.specs.Circuit.{Row, flipped}

pub flipped-at : (q : ℕ) (b : Row) → flipped q b q ≡ not (b q)
unfolding flipped
flipped-at q b = rw (eq-eqb q q refl)

pub flipped_off : (q k : ℕ) (b : Row) → (k ≡ q → ⊥) → flipped q b k ≡ b k
unfolding flipped
flipped_off q k b h = rw (ne_eqb k q h)

not-not : (x : Bool) → not (not x) ≡ x
not-not true = refl
not-not false = refl

twice_at : (t x : Bool) → cond t (not (cond t (not x) x)) (cond t (not x) x) ≡ x
twice_at true x = not-not x
twice_at false x = refl

pub flipped_twice : (q : ℕ) (b : Row) → flipped q (flipped q b) ≡ b
unfolding flipped
flipped_twice q b = fun_ext (λ k. twice_at (eqb k q) (b k))

swap_at : (t u x : Bool) → cond t (not (cond u (not x) x)) (cond u (not x) x) ≡ cond u (not (cond t (not x) x)) (cond t (not x) x)
swap_at true true x = refl
swap_at true false x = refl
swap_at false true x = refl
swap_at false false x = refl

pub flipped_swap : (p q : ℕ) (b : Row) → flipped p (flipped q b) ≡ flipped q (flipped p b)
unfolding flipped
flipped_swap p q b = fun_ext (λ k. swap_at (eqb k p) (eqb k q) (b k))
