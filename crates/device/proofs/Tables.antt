-- Arrays that are made by a function of the index.
use Rattle.std.proofs.Common.{◌≡◌, ℕ, zero, suc, ◌+◌, ◌<◌, ◌≤◌, List, get_or, sym, subst, inl, inr, arith}
use Rattle.std.proofs.lemmas.Bool.{cases_eq}
use Rattle.std.specs.Array.{IsFromFnResult, IsFromFnResultFrom}
use Rattle.std.specs.Fn.{Called, Mut}

-- what holds of each call's result, where a call leaves the closure as it was, holds of each element
module _ {F B : Type 0} (g : Mut F (ℕ × Unit {0}) B) (P : ℕ → B → Type 0) (f : F) (each : (x : ℕ) (y : B) (q : F) → Called g f (x, tt) y q → (q ≡ f) × P x y) (ys : List B) (d : B) where
  made_from : (n i : ℕ) → IsFromFnResultFrom g f ys i n → (k : ℕ) → i ≤ k → k < i + n → P k (get_or ys k d)
  made_from zero i r k a b = absurd (omega arith)
  made_from (suc n) i (q, y, el, call, rest) k a b =
      let e = each i y q call in
      elim (cases_eq k i) [
        | inl s ↦ subst (λ j. P j (get_or ys j d)) (sym s) (subst (P i) (sym (el.1 d)) e.1)
        | inr s ↦ made_from n (i + 1) (subst (λ p. IsFromFnResultFrom g p ys (i + 1) n) e.0 rest) k (omega arith) (omega arith)
      ]

  pub made_by : (n : ℕ) → IsFromFnResult g f ys n → (k : ℕ) → k < n → P k (get_or ys k d)
  made_by n r k l = made_from n 0 r.each k (omega arith) (omega arith)
