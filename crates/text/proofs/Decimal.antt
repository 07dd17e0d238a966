-- A number, digit by digit.
use Rattle.std.proofs.Common.{◌≡◌, ℕ, ◌+◌, ◌-◌, ◌*◌, ◌≤◌, Bool, true, false, cond, ◌&&◌, leb, List, [], ◌∷◌, length, Some, None, Option, Bor, Iter, sym, refl, ap, ◌∙◌, subst, arith}
use Rattle.std.proofs.lemmas.Fn.{fronts}
use Rattle.std.proofs.lemmas.Bool.Decides.{nat_tests}
use Rattle.std.proofs.lemmas.Bool.{cond_both, cond-true, le-leb, leb-true, leb-false}
use Rattle.std.specs.Iterator.{Yields}
use Rattle.std.specs.List.{FoldsTo}
use Rattle.std.specs.Option.{MatchOption}
use Rattle.text.specs.declared.token.Token.{Token}
use Rattle.text.specs.declared.token.Token.TheVariants.{Number, Other}
use Rattle.text.specs.Spelling.{digit, digits, value, number_of}
use Rattle.text.specs.Cut.{one_more}

abbrev goes_on : Option ℕ → (ℕ → Token) → Token
goes_on None f = Other
goes_on (Some n) f = f n

abbrev pub decimal : ℕ → List ℕ → Token
decimal n [] = Number n
decimal n (b ∷ bs) = goes_on (one_more n b) (λ m. decimal m bs)

value_grows : (n : ℕ) (w : List ℕ) → n ≤ value n w
value_grows n [] = omega arith
value_grows n (b ∷ w) = omega (arith, value_grows (10 * n + (b - 48)) w)

abbrev Valued : ℕ → List ℕ → Token
Valued n w = cond (digits w && leb (value n w) 255) (Number (value n w)) Other

valued_more : (d : Bool) (m : ℕ) (w : List ℕ) → (m ≤ 255 → decimal m w ≡ Valued m w) → goes_on (cond d (cond (leb m 255) (Some m) None) None) (λ k. decimal k w) ≡ cond ((d && digits w) && leb (value m w) 255) (Number (value m w)) Other
valued_more false m w ih = refl
valued_more true m w ih =
    cond_both (leb m 255) (Some m) None (λ o. goes_on o (λ k. decimal k w) ≡ Valued m w) (λ e. ih (leb-true _ _ e))
    (λ e. let big = value_grows m w in let small = leb-false _ _ e in grind (arith, nat_tests))

valued : (n : ℕ) (w : List ℕ) → n ≤ 255 → decimal n w ≡ Valued n w
valued n [] h = sym (cond-true _ _ _ (le-leb n 255 h))
valued n (b ∷ w) h = valued_more (digit b) (10 * n + (b - 48)) w (valued (10 * n + (b - 48)) w)

pub decimal-is : (w : List ℕ) → decimal 0 w ≡ number_of w
decimal-is w = valued 0 w (omega arith)

abbrev pub numbered : Option ℕ → Token
numbered None = Other
numbered (Some n) = Number n

module _ {F : Type 0} (f : F) (R : F × ℕ → Bor ℕ → F × ℕ → Type 0) (turn : (n : ℕ) (x : Bor ℕ) (q : F × ℕ) → R (f, n) x q → (q.0 ≡ f) × (one_more n x.now ≡ Some q.1)) where
  pub folded : (xs : List (Bor ℕ)) (s t : Iter ℕ) (n : ℕ) (q : F × ℕ) → Yields fronts s xs t → FoldsTo R (f, n) xs q → (q.0 ≡ f) × (decimal n s.rest.now ≡ decimal q.1 t.rest.now)
  folded [] s t n q y k = (sym (ap (λ p. p.0) k), λ i. decimal (k i).1 (y i).rest.now)
  folded (x ∷ xs) s t n q y k =
      let one = turn n x k.0 k.1 in
      let rest = folded xs y.0 t k.0.1 q y.2 (subst (λ p. FoldsTo R (p, k.0.1) xs q) one.0 k.2) in
      (rest.0, ap (decimal n) y.1 ∙ ap (λ o. goes_on o (λ m. decimal m y.0.rest.now)) one.1 ∙ rest.1)

none_left : (a : ℕ) (xs : List ℕ) → length xs ≡ 0 → decimal a xs ≡ Number a
none_left a [] e = refl
none_left a (x ∷ xs) e = absurd (omega arith)

-- a fold of digits that came to a, and then to an end or to a byte that is no more digit
pub stopped : {P : Type 0} {Q : Bor ℕ → Type 0} (o : Option (Bor ℕ)) (t u : Iter ℕ) (a : ℕ) (r : Option ℕ) → fronts t o u → (P → r ≡ Some a) → ((x : Bor ℕ) → Q x → (one_more a x.now ≡ None) × (r ≡ None)) → MatchOption o P Q → decimal a t.rest.now ≡ numbered r
stopped None t u a r y p q k = none_left a t.rest.now y.0 ∙ sym (ap numbered (p k))
stopped (Some x) t u a r y p q k = ap (decimal a) y ∙ ap (λ o. goes_on o (λ m. decimal m u.rest.now)) (q x k).0 ∙ sym (ap numbered (q x k).1)

pub as_number : (o : Option ℕ) (t : Token) → MatchOption o (t ≡ Other) (λ n. t ≡ Number n) → t ≡ numbered o
as_number None t e = e
as_number (Some n) t e = e
