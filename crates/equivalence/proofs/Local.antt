-- States that depend on the first n qubits only, and that circuits of those keep them so.
use Rattle.std.proofs.Common.{◌≡◌, ℕ, suc, ◌<◌, Bool, true, false, cond, not, eqb, List, [], ◌∷◌, sym, refl, ap, ◌∙◌, arith, eq-eqb, eqb-true}
use mathlib.Core.Path.{fun_ext}
use borrow.Author.Tests.{eqb-false}
use Rattle.circuit.proofs.Kernel.{act, kern, does-is}
use Rattle.circuit.specs.Circuit.{Row, State, flipped, does, run, Fit, AllFit, target}
use Rattle.circuit.specs.declared.gate.Gate.{Gate}
use Rattle.circuit.specs.declared.gate.Gate.TheVariants.{Phase, Hadamard, Not, ControlledNot, Toffoli}

abbrev pub Agree : ℕ → Row → Row → Type 0
Agree n b b' = (j : ℕ) → j < n → b j ≡ b' j

abbrev pub Local : ℕ → State → Type 0
Local n s = (b b' : Row) → Agree n b b' → s b ≡ s b'

unfoldable pub set_bit : ℕ → Bool → Row → Row
set_bit k x b j = cond (eqb j k) x (b j)

pub set_own : (k : ℕ) (b : Row) (x : Bool) → b k ≡ x → set_bit k x b ≡ b
unfolding set_bit
set_own k b x e = fun_ext (λ j. at j (eqb j k) refl)
  where
    at : (j : ℕ) (t : Bool) → eqb j k ≡ t → cond t x (b j) ≡ b j
    at j true h = sym e ∙ ap b (sym (eqb-true j k h))
    at j false h = refl

pub set_at : (k : ℕ) (x : Bool) (b : Row) → set_bit k x b k ≡ x
unfolding set_bit
set_at k x b = rw (eq-eqb k k refl)

pub set_agree : (k : ℕ) (x : Bool) (b b' : Row) → Agree k b b' → Agree (suc k) (set_bit k x b) (set_bit k x b')
unfolding set_bit
set_agree k x b b' h j l = at (eqb j k) refl
  where
    at : (t : Bool) → eqb j k ≡ t → cond t x (b j) ≡ cond t x (b' j)
    at true e = refl
    at false e = let ne = eqb-false j k e in h j (omega arith)

flipped_agree : (n q : ℕ) (b b' : Row) → Agree n b b' → Agree n (flipped q b) (flipped q b')
unfolding flipped
flipped_agree n q b b' h j l = ap (λ x. cond (eqb j q) (not x) x) (h j l)

pub kern_agree : (n : ℕ) (g : Gate) → Fit n g → (b b' : Row) → Agree n b b' → kern g b ≡ kern g b'
kern_agree n (Phase m q) f b b' h = rw (h q f)
kern_agree n (Hadamard q) f b b' h = rw (h q f)
kern_agree n (Not q) f b b' h = refl
kern_agree n (ControlledNot c q) f b b' h = rw (h c f.0)
kern_agree n (Toffoli c d q) f b b' h = rw (h c f.0, h d f.1)

does_local : (n : ℕ) (g : Gate) → Fit n g → (s : State) → Local n s → Local n (does g s)
does_local n g f s l b b' h =
    does-is g s b
    ∙ (λ i. act (kern_agree n g f b b' h i) (l b b' h i) (l (flipped (target g) b) (flipped (target g) b') (flipped_agree n (target g) b b' h) i))
    ∙ sym (does-is g s b')

pub run_local : (n : ℕ) (gs : List Gate) → AllFit n gs → (s : State) → Local n s → Local n (run gs s)
unfolding run
run_local n [] _ s l = l
run_local n (g ∷ gs) (h, f) s l = run_local n gs f (does g s) (does_local n g h s l)
