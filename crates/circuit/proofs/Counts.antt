-- Hadamards, T gates and fitting, of a circuit after another and of one backwards.
use Rattle.std.proofs.Common.{◌≡◌, ℕ, ◌+◌, List, [], ◌∷◌, ◌++◌, reverse, sym, refl, ap, ◌∙◌, subst, arith}
use mathlib.Core.List.{reverse-cons}
use Rattle.circuit.specs.Circuit.{mixes, t_count, AllFit}
use Rattle.circuit.specs.declared.gate.Gate.{Gate}

pub mixes-append : (a b : List Gate) → mixes (a ++ b) ≡ mixes a + mixes b
unfolding mixes
mixes-append [] b = omega arith
mixes-append (g ∷ a) b = omega (arith, mixes-append a b)

pub t_count-append : (a b : List Gate) → t_count (a ++ b) ≡ t_count a + t_count b
unfolding t_count
t_count-append [] b = omega arith
t_count-append (g ∷ a) b = omega (arith, t_count-append a b)

pub mixes-reverse : (gs : List Gate) → mixes (reverse gs) ≡ mixes gs
unfolding mixes
mixes-reverse [] = refl
mixes-reverse (g ∷ gs) = ap mixes (reverse-cons g gs) ∙ omega (arith, mixes-append (reverse gs) (g ∷ []), mixes-reverse gs)

pub fit_append : (n : ℕ) (a b : List Gate) → AllFit n a → AllFit n b → AllFit n (a ++ b)
fit_append n [] b f g = g
fit_append n (x ∷ a) b f g = (f.0, fit_append n a b f.1 g)

pub fit_reverse : (n : ℕ) (gs : List Gate) → AllFit n gs → AllFit n (reverse gs)
fit_reverse n [] f = tt
fit_reverse n (g ∷ gs) f = subst (AllFit n) (sym (reverse-cons g gs)) (fit_append n (reverse gs) (g ∷ []) (fit_reverse n gs f.1) (f.0, tt))
