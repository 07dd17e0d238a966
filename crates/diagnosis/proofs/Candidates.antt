-- Every sign is tried.
use Rattle.std.proofs.Common.{◌≡◌, ℕ, zero, suc, ◌+◌, ◌<◌, Bool, true, false, cond, List, [], ◌∷◌, ◌++◌, length, get_or, take, filter, map, add-one, refl, sym, ap, ◌∙◌, subst, ⊎_elim, append-nil, arith}
use mathlib.Core.Bool.{false≢true}
use Rattle.std.proofs.lemmas.List.Elements.{filter_more}
use Rattle.std.proofs.ByRecursion.{has_append_left, has_append_right, has_push, has_get_or, all-has, All-weaker, kept_by_passes}
use Rattle.std.proofs.lemmas.Bool.{cases_lt}
use Rattle.std.proofs.lemmas.List.FromFn.{map-range_with_len_more}
use Rattle.std.specs.List.{range_with_len}
use Rattle.std.specs.List.{ContainsAt as Has, AllByRecursion as All}
use Rattle.text.specs.declared.token.Token.{Token}
use Rattle.text.specs.declared.token.Token.TheVariants.{Turn, Of, Mix, Flip, If, Device, Joined, Lay, Undo, Times, Block, Call, On, Number, Open, Close, Semicolon, Other}
use Rattle.diagnosis.specs.Standing.{Sign, words, numbers}

pub numbers-are : (n : ℕ) → map Number (range_with_len 0 n) ≡ numbers n
unfolding numbers
numbers-are zero = refl
numbers-are (suc n) =
    ap (λ m. map Number (range_with_len 0 m)) (sym (add-one n)) ∙ map-range_with_len_more Number 0 n n (omega arith) ∙ ap (λ ts. ts ++ Number n ∷ []) (numbers-are n)

number-has : (m n : ℕ) → n < m → Has (numbers m) (Number n)
unfolding numbers
number-has zero n h = absurd (omega arith)
number-has (suc m) n h =
    ⊎_elim
    (λ lt. has_append_left (numbers m) (Number m ∷ []) (Number n) (number-has m n lt))
    (λ ge. let same : m ≡ n = omega arith in subst (λ k. Has (numbers m ++ Number m ∷ []) (Number k)) same (has_push (numbers m) (Number m)))
    (cases_lt n m)

word-has : (i : ℕ) → i < 17 → Has (words ++ numbers 256) (get_or words i Other)
unfolding words
word-has i h = has_append_left words (numbers 256) (get_or words i Other) (has_get_or words i Other h)

pub every_sign : (t : Token) → Sign t → Has (words ++ numbers 256) t
unfolding words
every_sign Turn h = word-has 0 (omega arith)
every_sign Of h = word-has 1 (omega arith)
every_sign Mix h = word-has 2 (omega arith)
every_sign Flip h = word-has 3 (omega arith)
every_sign If h = word-has 4 (omega arith)
every_sign Device h = word-has 5 (omega arith)
every_sign Joined h = word-has 6 (omega arith)
every_sign Lay h = word-has 7 (omega arith)
every_sign Undo h = word-has 8 (omega arith)
every_sign Times h = word-has 9 (omega arith)
every_sign Block h = word-has 10 (omega arith)
every_sign Call h = word-has 11 (omega arith)
every_sign On h = word-has 12 (omega arith)
every_sign (Number n) h = has_append_right words (numbers 256) (Number n) (number-has 256 n h)
every_sign Open h = word-has 13 (omega arith)
every_sign Close h = word-has 14 (omega arith)
every_sign Semicolon h = word-has 15 (omega arith)
every_sign Other h = word-has 16 (omega arith)

-- ---- what passes a test

pub kept_passes : {X : Type 0} (p : X → Bool) (xs : List X) (x : X) → Has (filter p xs) x → p x ≡ true
kept_passes p xs x h = all-has (λ y. p y ≡ true) (filter p xs) x (kept_by_passes p xs) h

kept_here : {X : Type 0} (b : Bool) (x : X) (ys : List X) → b ≡ true → Has (cond b (x ∷ ys) ys) x
kept_here true x ys e = has_append_left (x ∷ []) ys x (has_push [] x)
kept_here false x ys e = absurd (false≢true e)

kept_more : {X : Type 0} (b : Bool) (x y : X) (ys : List X) → Has ys y → Has (cond b (x ∷ ys) ys) y
kept_more true x y ys h = has_append_right (x ∷ []) ys y h
kept_more false x y ys h = h

kept-each : {X : Type 0} (p : X → Bool) (xs : List X) → All (λ x. p x ≡ true → Has (filter p xs) x) xs
kept-each p [] = tt
kept-each p (x ∷ xs) = (
  kept_here (p x) x (filter p xs),
  All-weaker (λ y. p y ≡ true → Has (filter p xs) y) (λ y. p y ≡ true → Has (filter p (x ∷ xs)) y) (λ y f e. kept_more (p x) x y (filter p xs) (f e)) xs (kept-each p xs),
)

pub kept-has : {X : Type 0} (p : X → Bool) (xs : List X) (x : X) → Has xs x → p x ≡ true → Has (filter p xs) x
kept-has p xs x h = all-has (λ y. p y ≡ true → Has (filter p xs) y) xs x (kept-each p xs) h

-- one more element is looked at
module _ {X : Type 0} (p : X → Bool) (xs : List X) (i : ℕ) (d : X) (inside : i < length xs) (out new : List X) (so_far : out ≡ filter p (take i xs)) where
  abbrev kept-one : Bool → List X
  kept-one b = filter p (take i xs) ++ cond b (get_or xs i d ∷ []) []

  pub kept_yes : p (get_or xs i d) ≡ true → new ≡ out ++ get_or xs i d ∷ [] → new ≡ filter p (take (i + 1) xs)
  kept_yes e f = f ∙ ap (λ r. r ++ get_or xs i d ∷ []) so_far ∙ sym (filter_more p xs i d inside ∙ ap kept-one e)

  pub kept_no : p (get_or xs i d) ≡ false → new ≡ out → new ≡ filter p (take (i + 1) xs)
  kept_no e f = f ∙ so_far ∙ sym (filter_more p xs i d inside ∙ ap kept-one e ∙ append-nil (filter p (take i xs)))
