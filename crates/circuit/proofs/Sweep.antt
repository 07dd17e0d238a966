-- A loop over the rows of n qubits that updates, at each row whose digit at q is 0, that row and the one with a 1 there.
use Rattle.std.proofs.Common.{◌≡◌, ℕ, ◌+◌, ◌^◌, ◌<◌, ◌≤◌, Bool, true, false, cond, ltb, ◌≢◌, List, length, get_or, set, sym, ap, ◌∙◌, subst, inl, inr, arith}
use Rattle.std.proofs.lemmas.List.{get_or-set_same, get_or-set_other, length-set}
use Rattle.std.proofs.lemmas.Bool.{lt-ltb, le-ltb, cases_eq, both_ways}
use Rattle.std.proofs.lemmas.Bool.Decides.{nat_tests}
use Rattle.amplitude.specs.Ring.{nought}
use Rattle.amplitude.specs.declared.Amplitude.{Amplitude}
use Rattle.circuit.proofs.Numbers.{row_more, more-below}
use Rattle.circuit.specs.Rows.{row, weight}

abbrev pub Two : Type 0
Two = Amplitude × Amplitude

pub both : {x y : Two} → x.0 ≡ y.0 → x.1 ≡ y.1 → x ≡ y
both e d = λ k. (e k, d k)

-- the amplitudes at a row and at the row with a 1 at q
abbrev pub at : ℕ → ℕ → List Amplitude → ℕ → Two
at n q xs k = (get_or xs k nought, get_or xs (k + weight n q) nought)

module _ (n q : ℕ) (f : ℕ → Two → Two) (old : List Amplitude) where
  -- the rows below r are done, the others as they were
  abbrev pub Swept : ℕ → List Amplitude → Type 0
  Swept r xs = (k : ℕ) → k < 2 ^ n → row n k q ≡ false → at n q xs k ≡ cond (ltb k r) (f k (at n q old k)) (at n q old k)

  pub swept_none : Swept 0 old
  swept_none k l h = ap (λ (t : Bool). cond t (f k (at n q old k)) (at n q old k)) (sym (le-ltb k 0 (omega arith)))

  -- what is not done yet is as it was
  pub swept-next : (r : ℕ) (xs : List Amplitude) → Swept r xs → r < 2 ^ n → row n r q ≡ false → at n q xs r ≡ at n q old r
  swept-next r xs s l h = s r l h ∙ ap (λ (t : Bool). cond t (f r (at n q old r)) (at n q old r)) (le-ltb r r (omega arith))

  later : (k r : ℕ) → (k ≡ r → ⊥) → ltb k r ≡ ltb k (r + 1)
  later k r h = grind (arith, nat_tests)

  pub swept_skip : (r : ℕ) (xs : List Amplitude) → Swept r xs → row n r q ≡ true → Swept (r + 1) xs
  swept_skip r xs s h k l z =
      s k l z ∙ ap (λ (t : Bool). cond t (f k (at n q old k)) (at n q old k)) (later k r (λ e. both_ways (row n k q) z (ap (λ (x : ℕ). row n x q) e ∙ h)))

  module _ (r : ℕ) (xs : List Amplitude) (s : Swept r xs) (long : 2 ^ n ≤ length xs) (low : r < 2 ^ n) (below : q < n) (h : row n r q ≡ false) (p : Two) (is : p ≡ f r (at n q xs r)) where
    next : List Amplitude
    next = set (set xs r p.0) (r + weight n q) p.1

    apart : (k : ℕ) → row n k q ≡ false → k ≢ r + weight n q
    apart k z e = both_ways (row n k q) z (ap (λ (x : ℕ). row n x q) e ∙ row_more n r q below h)

    at_row : at n q next r ≡ p
    unfolding next
    at_row =
        both
        (get_or-set_other (set xs r p.0) (r + weight n q) r p.1 nought (apart r h) ∙ get_or-set_same xs r p.0 nought (omega arith))
        (get_or-set_same (set xs r p.0) (r + weight n q) p.1 nought (omega (arith, length-set xs r p.0, more-below n r q below low h)))

    at_others : (k : ℕ) → row n k q ≡ false → k ≢ r → at n q next k ≡ at n q xs k
    unfolding next
    at_others k z ne =
        both
        (get_or-set_other (set xs r p.0) (r + weight n q) k p.1 nought (apart k z) ∙ get_or-set_other xs r k p.0 nought ne)
        (get_or-set_other (set xs r p.0) (r + weight n q) (k + weight n q) p.1 nought (λ e. ne (omega arith))
        ∙ get_or-set_other xs r (k + weight n q) p.0 nought (λ e. both_ways (row n r q) h (ap (λ (x : ℕ). row n x q) (sym e) ∙ row_more n k q below z)))

    here : at n q next r ≡ cond (ltb r (r + 1)) (f r (at n q old r)) (at n q old r)
    here =
        at_row ∙ is ∙ ap (f r) (swept-next r xs s low h)
        ∙ ap (λ (t : Bool). cond t (f r (at n q old r)) (at n q old r)) (sym (lt-ltb r (r + 1) (omega arith)))

    pub swept-more : Swept (r + 1) (set (set xs r p.0) (r + weight n q) p.1)
    unfolding next
    swept-more k l z =
        elim (cases_eq k r) [
          | inl e ↦ subst (λ (x : ℕ). at n q next x ≡ cond (ltb x (r + 1)) (f x (at n q old x)) (at n q old x)) (sym e) here
          | inr ne ↦ at_others k z ne ∙ s k l z ∙ ap (λ (t : Bool). cond t (f k (at n q old k)) (at n q old k)) (later k r ne)
        ]
