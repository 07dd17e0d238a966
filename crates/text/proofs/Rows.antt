-- Rows that are kept up to a limit.
use Rattle.std.proofs.Common.{◌≡◌, ℕ, zero, suc, ◌+◌, ◌*◌, ◌<◌, ◌≤◌, max, false, List, [], ◌∷◌, ◌++◌, map, reverse, length, unwrap_or, fold, Some, None, sym, refl, ap, ◌∙◌, ⊎_elim, append_assoc, append-nil, suc-mul, mul_comm, add-one, arith, length-append}
use Rattle.std.proofs.lemmas.List.{map-append, reverse-append}
use Rattle.std.proofs.lemmas.List.Folds.{max_of_map}
use Rattle.std.proofs.lemmas.Bool.{cases_lt, lt-leb, le-leb, cond-true, cond-false}
use Rattle.std.specs.List.{reduce}
use Rattle.std.specs.Ordering.{max_by_ordering, nat_cmp}
use Rattle.circuit.specs.declared.gate.Gate.{Gate}
use Rattle.laws.specs.Undo.{undone, backwards}
use Rattle.laws.specs.Rename.{renamed, all_renamed}
use Rattle.text.specs.declared.statement.Brace.{Brace}
use Rattle.text.specs.declared.statement.Brace.TheVariants.{Undo, Times}
use Rattle.text.specs.Program.{repeated, span}
use Rattle.text.specs.Reading.{Row, capped, put, zero_times, made_of, factor, braced}

pub repeated_more : (n : ℕ) (gs : List Gate) → repeated n gs ++ gs ≡ repeated (n + 1) gs
repeated_more zero gs = sym (append-nil gs)
repeated_more (suc n) gs = rw add-one (append_assoc gs (repeated n gs) gs ∙ ap (λ r. gs ++ r) (repeated_more n gs ∙ ap (λ k. repeated k gs) (add-one n)))

length-repeated : (n : ℕ) (gs : List Gate) → length (repeated n gs) ≡ n * length gs
length-repeated zero gs = omega arith
length-repeated (suc n) gs = length-append gs (repeated n gs) ∙ omega (arith, length-repeated n gs, suc-mul n (length gs))

pub length-backwards : (gs : List Gate) → length (backwards gs) ≡ length gs
unfolding backwards
length-backwards [] = refl
length-backwards (g ∷ gs) = length-append (backwards gs) (undone g ∷ []) ∙ omega (arith, length-backwards gs)

pub length-renamed : (f : ℕ → ℕ) (gs : List Gate) → length (all_renamed f gs) ≡ length gs
unfolding all_renamed
length-renamed f [] = refl
length-renamed f (g ∷ gs) = omega (arith, length-renamed f gs)

pub length_made_of : (b : Brace) (gs : List Gate) → length (made_of b gs) ≡ length gs * factor b
length_made_of Undo gs = length-backwards gs ∙ omega arith
length_made_of (Times n) gs = length-repeated n gs ∙ mul_comm n (length gs)

-- what a reversed chain of gates gives
pub backwards-is : (gs : List Gate) → map undone (reverse gs) ≡ backwards gs
unfolding backwards
backwards-is [] = refl
backwards-is (g ∷ gs) = ap (map undone) (reverse-append (g ∷ []) gs) ∙ map-append undone (reverse gs) (g ∷ []) ∙ ap (λ r. r ++ undone g ∷ []) (backwards-is gs)

-- what a chain of gates with other qubits gives
pub all_renamed-is : (f : ℕ → ℕ) (gs : List Gate) → map (renamed f) gs ≡ all_renamed f gs
unfolding all_renamed
all_renamed-is f [] = refl
all_renamed-is f (g ∷ gs) = ap (λ r. renamed f g ∷ r) (all_renamed-is f gs)

spanned : (n : ℕ) (qs : List ℕ) → fold (λ a q. max a (q + 1)) n qs ≡ max n (span qs)
spanned n [] = omega arith
spanned n (q ∷ qs) = spanned (max n (q + 1)) qs ∙ omega arith

pub span-is : (qs : List ℕ) → unwrap_or (reduce (λ p z. max_by_ordering (nat_cmp p z) p z) (map (λ q. q + 1) qs)) 0 ≡ span qs
span-is qs = max_of_map (λ q. q + 1) qs ∙ spanned 0 qs ∙ omega arith

module _ (limit : ℕ) where
  pub cap_fits : (gs : List Gate) → length gs ≤ limit → capped limit gs ≡ Some gs
  cap_fits gs h = cond-true _ _ _ (le-leb (length gs) limit h)

  pub cap_over : (gs : List Gate) → limit < length gs → capped limit gs ≡ None
  cap_over gs h = cond-false _ _ _ (lt-leb (length gs) limit h)

  pub cap_none : capped limit [] ≡ Some []
  cap_none = cap_fits [] (omega arith)

  module _ (f : List Gate → List Gate) where
    pub put-left : (r s : Row) → r ≡ None → put limit f r s ≡ None
    put-left r s e = ap (λ q. put limit f q s) e

    pub put_right : (r s : Row) (gs : List Gate) → r ≡ Some gs → s ≡ None → put limit f r s ≡ None
    put_right r s gs e h = λ i. put limit f (e i) (h i)

    pub put_is : (r s : Row) (gs hs : List Gate) → r ≡ Some gs → s ≡ Some hs → put limit f r s ≡ capped limit (gs ++ f hs)
    put_is r s gs hs e h = λ i. put limit f (e i) (h i)

    pub put-over : (r s : Row) (gs hs : List Gate) → r ≡ Some gs → s ≡ Some hs → limit < length gs + length (f hs) → put limit f r s ≡ None
    put-over r s gs hs e h long = put_is r s gs hs e h ∙ cap_over (gs ++ f hs) (omega (arith, length-append gs (f hs)))

    pub put_good : (r s : Row) (gs hs : List Gate) → r ≡ Some gs → s ≡ Some hs → length gs + length (f hs) ≤ limit → put limit f r s ≡ Some (gs ++ f hs)
    put_good r s gs hs e h short = put_is r s gs hs e h ∙ cap_fits (gs ++ f hs) (omega (arith, length-append gs (f hs)))

    -- what is kept of two rows is enough for what is kept of both
    pub put-capped : (x gs : List Gate) → length gs ≤ length (f gs) → put limit f (capped limit x) (capped limit gs) ≡ capped limit (x ++ f gs)
    put-capped x gs grows =
        ⊎_elim
        (λ long. put-left (capped limit x) (capped limit gs) (cap_over x long) ∙ sym (cap_over (x ++ f gs) (omega (arith, length-append x (f gs)))))
        (λ short. ⊎_elim
        (λ many. put_right (capped limit x) (capped limit gs) x (cap_fits x short) (cap_over gs many) ∙ sym (cap_over (x ++ f gs) (omega (arith, length-append x (f gs)))))
        (λ few. put_is (capped limit x) (capped limit gs) x gs (cap_fits x short) (cap_fits gs few))
        (cases_lt limit (length gs)))
        (cases_lt limit (length x))

  pub braced-capped : (b : Brace) (x gs : List Gate) → braced limit b (capped limit x) (capped limit gs) ≡ capped limit (x ++ made_of b gs)
  braced-capped Undo x gs = put-capped backwards x gs (omega (arith, length-backwards gs))
  braced-capped (Times zero) x gs = ap (capped limit) (sym (append-nil x))
  braced-capped (Times (suc n)) x gs = put-capped (repeated (suc n)) x gs (omega (arith, length-append gs (repeated n gs)))

  pub braced-put : (b : Brace) (r s : Row) → zero_times b ≡ false → braced limit b r s ≡ put limit (made_of b) r s
  braced-put b r s e = cond-false _ _ _ e

-- what becomes of a row, by its length
pub ruleset row_lengths = (length-renamed, put-over, put_good, braced-put)
