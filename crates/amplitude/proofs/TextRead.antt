-- What is written of an amplitude is read back, part by part.
use Rattle.std.proofs.Common.{◌≡◌, ℕ, zero, suc, ◌+◌, ◌-◌, ◌/◌, ◌%◌, ◌^◌, ◌<◌, ◌≤◌, Bool, true, false, cond, ◌&&◌, eqb, List, [], ◌∷◌, ◌++◌, length, ℤ, pos, neg_ℤ, nat_abs, Some, None, codes, decimal, sym, refl, ap, ◌∙◌, subst, arith}
use lib.Signed.{lt_z}
use Rattle.std.proofs.lemmas.Fmt.{decimal_by_steps}
use Rattle.std.proofs.lemmas.Int.{ints}
use Rattle.std.proofs.lemmas.Bool.{and_parts, eqb-true}
use Rattle.std.proofs.lemmas.Bool.Decides.{nat_tests}
use Rattle.std.specs.Fmt.{digits}
use Rattle.amplitude.specs.declared.Amplitude.{Amplitude}
use Rattle.amplitude.specs.ReadBack.{Reading, ReadBack, TextTells, TextExamples, begin, monomial, more, read_amplitude, read_byte, read_bytes, total}
use Rattle.amplitude.specs.Ring.{nought, plus, turned}
use Rattle.amplitude.specs.Written.{factors, is_zero, multiple, part, parts, sign}
use Rattle.amplitude.proofs.RingLaws as ring

read-append : (r : Reading) (xs ys : List ℕ) → read_bytes r (xs ++ ys) ≡ read_bytes (read_bytes r xs) ys
read-append r [] ys = refl
read-append r (x ∷ xs) ys = read-append (read_byte r x) xs ys

-- a part of which the digits are read, and no more
abbrev counted : Amplitude → Bool → ℕ → Reading
counted s t n = record { sum = s; negative = t; factor = None; number = Some n }

read-digit : (r : Reading) (b : ℕ) → 48 ≤ b → b ≤ 57 → read_byte r b ≡ more r (b - 48)
read-digit r b l h = grind (arith, nat_tests)

abbrev Counts : ℕ → List ℕ → Type 0
Counts n bs = (s : Amplitude) (t : Bool) → read_bytes (begin s t) bs ≡ counted s t n

read-decimal : (n : ℕ) → n < 2 ^ 64 → Counts n (decimal n)
read-decimal = decimal_by_steps Counts
    (λ n l s t. read-digit (begin s t) (48 + n) (omega arith) (omega arith) ∙ ap (counted s t) (omega arith))
    (λ n ds l h s t.
    read-append (begin s t) ds ((48 + n % 10) ∷ []) ∙ ap (λ (r : Reading). read_byte r (48 + n % 10)) (h s t)
    ∙ read-digit (counted s t (n / 10)) (48 + n % 10) (omega arith) (omega arith) ∙ ap (counted s t) (omega arith))

-- these bytes are the power k of w, after a number and alone
record Raises (k : ℕ) (bs : List ℕ) : Type 0 where
  after : (s : Amplitude) (t : Bool) (n : ℕ) → total (read_bytes (counted s t n) bs) ≡ plus s (monomial t n k)
  alone : (s : Amplitude) (t : Bool) → 0 < length bs → total (read_bytes (begin s t) bs) ≡ plus s (monomial t 1 k)

read-multiple : (n k : ℕ) (bs : List ℕ) (s : Amplitude) (t : Bool) → Raises k bs → n < 2 ^ 64 → total (read_bytes (begin s t) (multiple n bs)) ≡ plus s (monomial t n k)
read-multiple n k [] s t p h = ap total (read-decimal n h s t) ∙ p.after s t n
read-multiple n k (b ∷ bs) s t p h = go (eqb n 1) refl
  where
    go : (one : Bool) → eqb n 1 ≡ one → total (read_bytes (begin s t) (cond one (b ∷ bs) (decimal n ++ (b ∷ bs)))) ≡ plus s (monomial t n k)
    go true e = p.alone s t (omega arith) ∙ ap (λ (m : ℕ). plus s (monomial t m k)) (sym (eqb-true n 1 e))
    go false e = ap total (read-append (begin s t) (decimal n) (b ∷ bs) ∙ ap (λ (r : Reading). read_bytes r (b ∷ bs)) (read-decimal n h s t)) ∙ p.after s t n

-- z times the power k of w
abbrev scaled : ℤ → ℕ → Amplitude
scaled z k = turned k (record { one = z; w = pos 0; w2 = pos 0; w3 = pos 0 })

scaled-zero : (k : ℕ) → scaled (pos 0) k ≡ nought
scaled-zero zero = refl
scaled-zero (suc k) = ap (turned 1) (scaled-zero k)

signed_is : (z : ℤ) → cond (lt_z z (pos 0)) (neg_ℤ (pos (nat_abs z))) (pos (nat_abs z)) ≡ z
signed_is z = grind (arith, ints)

pub is-zero-zero : (z : ℤ) → is_zero z ≡ true → z ≡ pos 0
is-zero-zero z e = let h = eqb-true (nat_abs z) 0 e in omega (arith, ints)

abbrev start : Reading
start = begin nought false

read-sign : (first t : Bool) (r : Reading) (xs : List ℕ) → (first ≡ true → r ≡ start) → read_bytes r (sign first t ++ xs) ≡ read_bytes (begin (total r) t) xs
read-sign true true r xs f = subst (λ (r : Reading). read_bytes r (sign true true ++ xs) ≡ read_bytes (begin (total r) true) xs) (sym (f refl)) refl
read-sign true false r xs f = subst (λ (r : Reading). read_bytes r xs ≡ read_bytes (begin (total r) false) xs) (sym (f refl)) refl
read-sign false true r xs f = refl
read-sign false false r xs f = refl

read-part : (first : Bool) (z : ℤ) (k : ℕ) (bs : List ℕ) (r : Reading) → (first ≡ true → r ≡ start) → Raises k bs → nat_abs z ≤ 2 ^ 63 → total (read_bytes r (part first z bs)) ≡ plus (total r) (scaled z k)
read-part first z k bs r f p h = go (is_zero z) refl
  where
    go : (none : Bool) → is_zero z ≡ none → total (read_bytes r (cond none [] (sign first (lt_z z (pos 0)) ++ multiple (nat_abs z) bs))) ≡ plus (total r) (scaled z k)
    go true e = sym (ring.plus_nought (total r)) ∙ ap (plus (total r)) (sym (scaled-zero k) ∙ ap (λ (y : ℤ). scaled y k) (sym (is-zero-zero z e)))
    go false e =
        ap total (read-sign first (lt_z z (pos 0)) r (multiple (nat_abs z) bs) f)
        ∙ read-multiple (nat_abs z) k bs (total r) (lt_z z (pos 0)) p (omega arith) ∙ ap (λ (y : ℤ). plus (total r) (scaled y k)) (signed_is z)

still-first : (first : Bool) (z : ℤ) (bs : List ℕ) (r : Reading) → (first ≡ true → r ≡ start) → (first && is_zero z) ≡ true → read_bytes r (part first z bs) ≡ start
still-first first z bs r f e = ap (λ (t : Bool). read_bytes r (cond t [] (sign first (lt_z z (pos 0)) ++ multiple (nat_abs z) bs))) (and_parts first (is_zero z) e).1 ∙ f (and_parts first (is_zero z) e).0

-- factors of the powers from k on, and their sum
abbrev Powers : ℕ → List (ℤ × List ℕ) → Type 0
Powers k [] = Unit {0}
Powers k (p ∷ ps) = Raises k p.1 × (nat_abs p.0 ≤ 2 ^ 63) × Powers (suc k) ps

abbrev summed : Amplitude → ℕ → List (ℤ × List ℕ) → Amplitude
summed s k [] = s
summed s k (p ∷ ps) = summed (plus s (scaled p.0 k)) (suc k) ps

read_none : (first : Bool) (r : Reading) → (first ≡ true → r ≡ start) → total (read_bytes r (cond first (codes "0") [])) ≡ total r
read_none true r f = subst (λ (r : Reading). total (read_bytes r (codes "0")) ≡ total r) (sym (f refl)) refl
read_none false r f = refl

read-parts : (first : Bool) (k : ℕ) (ps : List (ℤ × List ℕ)) (r : Reading) → (first ≡ true → r ≡ start) → Powers k ps → total (read_bytes r (parts first ps)) ≡ summed (total r) k ps
read-parts first k [] r f h = read_none first r f
read-parts first k (p ∷ ps) r f h =
    ap total (read-append r (part first p.0 p.1) (parts (first && is_zero p.0) ps))
    ∙ read-parts (first && is_zero p.0) (suc k) ps (read_bytes r (part first p.0 p.1)) (still-first first p.0 p.1 r f) h.2
    ∙ ap (λ (s : Amplitude). summed s (suc k) ps) (read-part first p.0 k p.1 r f h.0 h.1)

raises_0 : Raises 0 (codes "")
raises_0 = record { after = λ s t n. refl; alone = λ s t l. absurd (omega arith) }

raises_1 : Raises 1 (codes "w")
raises_1 = record { after = λ s t n. refl; alone = λ s t l. refl }

raises_2 : Raises 2 (codes "w^2")
raises_2 = record { after = λ s t n. refl; alone = λ s t l. refl }

raises_3 : Raises 3 (codes "w^3")
raises_3 = record { after = λ s t n. refl; alone = λ s t l. refl }

its_parts : (a : Amplitude) → plus (plus (plus (plus nought (scaled a.one 0)) (scaled a.w 1)) (scaled a.w2 2)) (scaled a.w3 3) ≡ a
its_parts a = ring.parts (omega (arith, ints))

pub read_back : ReadBack
read_back a h =
    read-parts true 0 (factors a) start (λ e. refl) (raises_0, h.of_one, (raises_1, h.of_w, (raises_2, h.of_w2, (raises_3, h.of_w3, tt))))
    ∙ its_parts a

pub text_tells : TextTells
text_tells a b h k e = sym (read_back a h) ∙ ap read_amplitude e ∙ read_back b k

pub text_examples : TextExamples
unfolding digits
text_examples = record { three_parts = refl; two_parts = refl; first_negative = refl; lone_w = refl; lone_one = refl; least = refl; zero = refl }
