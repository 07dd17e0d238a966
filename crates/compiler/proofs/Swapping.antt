-- Three controlled NOTs are a swap of two places.
use Rattle.std.proofs.Common.{◌≡◌, ℕ, zero, suc, ◌<◌, Bool, true, not, ◌||◌, eqb, Decides, sym, refl, ap, ◌∙◌, arith}
use Rattle.std.proofs.lemmas.Bool.Decides.{nat_tests, same_from_decides, Decides-below_and, Decides-like}
use Rattle.circuit.specs.Circuit.{Row, State, run}
use Rattle.device.specs.Coupling.{Graph}
use Rattle.device.specs.Layout.{free, rest_0, seen, laid}
use Rattle.laws.specs.Rename.{other}
use Rattle.laws.proofs.TableOf.{exchanges}
use Rattle.compiler.specs.Route.{swapped, swap_gates, Exactly, SwapLays, SwapPlaced}

-- three controlled NOTs, each by the other, read from the row with the two places changed
swaps : (x y : ℕ) → (x ≡ y → ⊥) → (t : State) (b : Row) → run (swap_gates x y) t b ≡ t (λ k. b (other x y k))
unfolding swap_gates
swaps x y ne t b = exchanges x y ne t b

other-other : (x y k : ℕ) → other x y (other x y k) ≡ k
unfolding other
other-other x y k = grind (arith, nat_tests)

pub other-below : (m x y k : ℕ) → x < m → y < m → k < m → other x y k < m
unfolding other
other-below m x y k hx hy hk = grind (arith, nat_tests)

eqb-other : (x y j k : ℕ) → eqb (other x y j) (other x y k) ≡ eqb j k
unfolding other
eqb-other x y j k = grind (arith, nat_tests)

free_other : (n : ℕ) (p : ℕ → ℕ) (x y k : ℕ) → free n (swapped x y p) (other x y k) ≡ free n p k
unfolding free swapped
free_other zero p x y k = refl
free_other (suc n) p x y k = rw (eqb-other x y (p n) k, free_other n p x y k)

clear : ℕ → (ℕ → ℕ) → Row → ℕ → Bool
clear n p b k = not (free n p k) || not (b k)

decides_rest : (m n : ℕ) (p : ℕ → ℕ) (b : Row) → Decides (rest_0 m n p b) ((k : ℕ) → k < m → clear n p b k ≡ true)
unfolding rest_0 clear
decides_rest m n p b = Decides-below_and (clear n p b) (λ k. clear n p b k ≡ true) (λ j. rest_0 j n p b) (λ k. ((λ e. e), (λ e. e))) refl (λ _. refl) m

rest-other : (m n : ℕ) (p : ℕ → ℕ) (x y : ℕ) → x < m → y < m → (b : Row) → rest_0 m n p (λ k. b (other x y k)) ≡ rest_0 m n (swapped x y p) b
unfolding clear
rest-other m n p x y hx hy b =
    same_from_decides _ _ (decides_rest m n p (λ k. b (other x y k)))
    (Decides-like _
    (λ h k hk. rw (← free_other n p x y k) (h (other x y k) (other-below m x y k hx hy hk)))
    (λ h k hk. rw (← free_other n p x y (other x y k), other-other x y k) at (h (other x y k) (other-below m x y k hx hy hk)))
    (decides_rest m n (swapped x y p) b))

pub laid-moved : (n : ℕ) (d : Graph) (p : ℕ → ℕ) (x y : ℕ) → x < d.size → y < d.size → (s : State) (b : Row) → laid n d p s (λ k. b (other x y k)) ≡ laid n d (swapped x y p) s b
unfolding laid seen swapped
laid-moved n d p x y hx hy s b = rw (rest-other d.size n p x y hx hy b)

pub swap_lays : SwapLays
unfolding Exactly run
swap_lays n d p x y hx hy ne s b = swaps x y ne (laid n d p s) b ∙ laid-moved n d p x y hx hy s b

pub swap_placed : SwapPlaced
unfolding swapped
swap_placed n d p x y hx hy l = record {
  inside = λ k h. other-below d.size x y (p k) hx hy (l.inside k h);
  apart = λ j k hj hk e. l.apart j k hj hk (sym (other-other x y (p j)) ∙ (ap (other x y) e ∙ other-other x y (p k)));
}
