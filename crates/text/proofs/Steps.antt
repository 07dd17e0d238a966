-- Reading, sign by sign.
use Rattle.std.proofs.Common.{◌≡◌, ℕ, ◌<◌, ◌≤◌, Bool, true, false, cond, ◌||◌, eqb, List, [], ◌∷◌, ◌++◌, length, take, sym, refl, ap, ◌∙◌, ⊎_elim, append-nil, arith, length-append}
use Rattle.std.proofs.lemmas.List.{take-append-le}
use Rattle.std.proofs.lemmas.Bool.{cases_lt, lt-ltb, le-ltb, cond-true, cond-false}
use Rattle.std.specs.List.{list_any}
use Rattle.text.specs.declared.token.Token.{Token}
use Rattle.text.specs.Cut.{Front}
use Rattle.text.specs.Program.{has}
use Rattle.text.specs.Reading.{runs, begins, finished, overlong, reading}

or-if : (a b : Bool) → (a || b) ≡ cond a true b
or-if true b = refl
or-if false b = refl

-- what `contains` answers
pub has_any : (q : ℕ) (ns : List ℕ) → list_any (λ n. eqb n q) ns ≡ has q ns
has_any q [] = refl
has_any q (n ∷ ns) = or-if (eqb n q) (list_any (λ m. eqb m q) ns) ∙ ap (cond (eqb n q) true) (has_any q ns)

module _ (limit : ℕ) where
  pub long : (ts : List Token) → 4096 < length ts → reading limit ts ≡ overlong (runs limit begins 0 (take 4096 ts))
  long ts h = cond-true _ _ _ (lt-ltb 4096 (length ts) h)

  pub short : (ts : List Token) → length ts ≤ 4096 → reading limit ts ≡ finished (length ts) (runs limit begins 0 ts)
  short ts h = cond-false _ _ _ (le-ltb 4096 (length ts) h)

  -- signs past those that are looked at change nothing
  pub reading_front : (all ts : List Token) → Front 4096 all ts → reading limit ts ≡ reading limit all
  reading_front all ts f =
      ⊎_elim
      (λ many. long ts many ∙ ap (λ r. overlong (runs limit begins 0 r)) (sym (ap (take 4096) (sym f.parts) ∙ take-append-le 4096 ts f.rest (omega arith)))
      ∙ sym (long all (omega (arith, ap length f.parts, length-append ts f.rest))))
      (λ few. ap (reading limit) (sym (append-nil ts) ∙ ap (λ r. ts ++ r) (sym (f.whole few)) ∙ f.parts))
      (cases_lt 4096 (length ts))
