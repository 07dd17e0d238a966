-- Numbers below 2 ^ n and rows of n qubits.
use Rattle.std.proofs.Common.{◌≡◌, ℕ, zero, suc, ◌+◌, ◌-◌, ◌*◌, ◌/◌, ◌%◌, ◌^◌, ◌<◌, ◌≤◌, Bool, true, false, cond, not, eqb, sym, refl, ap, ◌∙◌, subst, ap₂, inl, inr, pow-suc, div-one, arith}
use Rattle.std.proofs.lemmas.Nat.{shr-shr}
use Rattle.std.proofs.lemmas.Bool.{cases_eq, eqb-false, eq-eqb, ne_eqb}
use Rattle.std.proofs.lemmas.Bool.Decides.{nat_tests}
use Rattle.circuit.proofs.Flips.{flipped-at, flipped_off}
use Rattle.circuit.specs.Circuit.{Row, flipped}
use Rattle.circuit.specs.Rows.{number, row, weight}

-- the last qubit, and those before it
row_last : (n k : ℕ) → row (suc n) k n ≡ eqb (k % 2) 1
unfolding row
row_last n k = rw (eq-eqb n n refl)

row_before : (n k q : ℕ) → q < n → row (suc n) k q ≡ row n (k / 2) q
unfolding row
row_before n k q l = ap (λ (t : Bool). cond t (eqb (k % 2) 1) (row n (k / 2) q)) (ne_eqb q n (λ e. omega arith))

weight_last : (n : ℕ) → weight (suc n) n ≡ 1
weight_last n = let e : suc n - 1 - n ≡ 0 = omega arith in ap (λ (x : ℕ). 2 ^ x) e

weight-before : (n q : ℕ) → q < n → weight (suc n) q ≡ weight n q * 2
weight-before n q l = let e : suc n - 1 - q ≡ suc (n - 1 - q) = omega arith in ap (λ (x : ℕ). 2 ^ x) e ∙ pow-suc 2 (n - 1 - q)

-- what is so of the last qubit, and of any before it, is so of all
by_last : (P : ℕ → Type 0) (n : ℕ) → P n → ((q : ℕ) → q < n → P q) → (q : ℕ) → q < suc n → P q
by_last P n last before q l =
    elim (cases_eq q n) [
      | inl e ↦ subst P (sym e) last
      | inr ne ↦ before q (omega arith)
    ]

-- the digit of a qubit, by a shift
pub row_shift : (n k q : ℕ) → q < n → row n k q ≡ eqb (k / weight n q % 2) 1
row_shift zero k q l = absurd (omega arith)
row_shift (suc n) k q l =
    by_last (λ p. row (suc n) k p ≡ eqb (k / weight (suc n) p % 2) 1) n last
    (λ p m. row_before n k p m ∙ row_shift n (k / 2) p m ∙ ap (λ (x : ℕ). eqb (x % 2) 1) (halved p m)) q l
  where
    last : row (suc n) k n ≡ eqb (k / weight (suc n) n % 2) 1
    last = row_last n k ∙ ap (λ (x : ℕ). eqb (x % 2) 1) (sym (div-one k)) ∙ ap (λ (x : ℕ). eqb (k / x % 2) 1) (sym (weight_last n))

    halved : (p : ℕ) → p < n → k / 2 / weight n p ≡ k / weight (suc n) p
    halved p m = let e : 1 + (n - 1 - p) ≡ suc n - 1 - p = omega arith in shr-shr k 1 (n - 1 - p) ∙ ap (λ (x : ℕ). k / 2 ^ x) e

-- a qubit's weight more turns its digit
pub row_more : (n k q : ℕ) → q < n → row n k q ≡ false → row n (k + weight n q) q ≡ true
row_more zero k q l = absurd (omega arith)
row_more (suc n) k q l = by_last (λ p. row (suc n) k p ≡ false → row (suc n) (k + weight (suc n) p) p ≡ true) n last
    (λ p m h. row_before n (k + weight (suc n) p) p m ∙ ap (λ (x : ℕ). row n x p) (half p m) ∙ row_more n (k / 2) p m (sym (row_before n k p m) ∙ h)) q l
  where
    odd : eqb (k % 2) 1 ≡ false → eqb ((k + 1) % 2) 1 ≡ true
    odd h = grind (arith, nat_tests)

    last : row (suc n) k n ≡ false → row (suc n) (k + weight (suc n) n) n ≡ true
    last h = row_last n (k + weight (suc n) n) ∙ ap (λ (x : ℕ). eqb ((k + x) % 2) 1) (weight_last n) ∙ odd (sym (row_last n k) ∙ h)

    half : (p : ℕ) → p < n → (k + weight (suc n) p) / 2 ≡ k / 2 + weight n p
    half p m = omega (arith, weight-before n p m)

-- and stays below 2 ^ n
pub more-below : (n k q : ℕ) → q < n → k < 2 ^ n → row n k q ≡ false → k + weight n q < 2 ^ n
more-below zero k q l = absurd (omega arith)
more-below (suc n) k q l = by_last (λ p. k < 2 ^ suc n → row (suc n) k p ≡ false → k + weight (suc n) p < 2 ^ suc n) n last
    (λ p m s h. omega (arith, pow-suc 2 n, weight-before n p m, more-below n (k / 2) p m (omega (arith, pow-suc 2 n)) (sym (row_before n k p m) ∙ h))) q l
  where
    last : k < 2 ^ suc n → row (suc n) k n ≡ false → k + weight (suc n) n < 2 ^ suc n
    last s h = omega (arith, pow-suc 2 n, weight_last n, eqb-false (k % 2) 1 (sym (row_last n k) ∙ h))

one_at_most : (d : Bool) → cond d 1 0 ≤ 1
one_at_most true = omega arith
one_at_most false = omega arith

pub number-below : (n : ℕ) (b : Row) → number n b < 2 ^ n
unfolding number
number-below zero b = omega arith
number-below (suc n) b = omega (arith, pow-suc 2 n, number-below n b, one_at_most (b n))

low_digit : (d : Bool) (y : ℕ) → eqb ((2 * y + cond d 1 0) % 2) 1 ≡ d
low_digit true y = eq-eqb _ 1 (omega arith)
low_digit false y = ne_eqb _ 1 (λ e. omega arith)

high-digits : (d : Bool) (y : ℕ) → (2 * y + cond d 1 0) / 2 ≡ y
high-digits true y = omega arith
high-digits false y = omega arith

pub row_number : (n : ℕ) (b : Row) (k : ℕ) → k < n → row n (number n b) k ≡ b k
unfolding number
row_number zero b k h = absurd (omega arith)
row_number (suc n) b k h =
    by_last (λ p. row (suc n) (number (suc n) b) p ≡ b p) n (row_last n (number (suc n) b) ∙ low_digit (b n) (number n b))
    (λ p m. row_before n (number (suc n) b) p m ∙ ap (λ (x : ℕ). row n x p) (high-digits (b n) (number n b)) ∙ row_number n b p m) k h

pub number_same : (n : ℕ) (b c : Row) → ((k : ℕ) → k < n → b k ≡ c k) → number n b ≡ number n c
unfolding number
number_same zero b c h = refl
number_same (suc n) b c h = ap₂ (λ (d : Bool) (y : ℕ). 2 * y + cond d 1 0) (h n (omega arith)) (number_same n b c (λ k l. h k (omega arith)))

digit_value : (x : ℕ) → cond (eqb (x % 2) 1) 1 0 ≡ x % 2
digit_value x = grind (arith, nat_tests)

pub number-row : (n k : ℕ) → k < 2 ^ n → number n (row n k) ≡ k
unfolding number
number-row zero k h = omega arith
number-row (suc n) k h =
    ap₂ (λ (d : Bool) (y : ℕ). 2 * y + cond d 1 0) (row_last n k)
    (number_same n (row (suc n) k) (row n (k / 2)) (λ q l. row_before n k q l) ∙ number-row n (k / 2) (omega (arith, pow-suc 2 n)))
    ∙ omega (arith, digit_value k)

-- a row with a 1 in place of a 0 is the qubit's weight more
pub number-flipped : (n q : ℕ) (b : Row) → q < n → b q ≡ false → number n (flipped q b) ≡ number n b + weight n q
unfolding number
number-flipped zero q b l = absurd (omega arith)
number-flipped (suc n) q b l = by_last (λ p. b p ≡ false → number (suc n) (flipped p b) ≡ number (suc n) b + weight (suc n) p) n last
    (λ p m h. ap₂ (λ (d : Bool) (y : ℕ). 2 * y + cond d 1 0) (flipped_off p n b (λ e. omega arith)) (number-flipped n p b m h)
    ∙ sum p m (number n b) (cond (b n) 1 0)) q l
  where
    one_more : (y : ℕ) → 2 * y + 1 ≡ 2 * y + 0 + 1
    one_more y = omega arith

    last : b n ≡ false → number (suc n) (flipped n b) ≡ number (suc n) b + weight (suc n) n
    last h =
        ap₂ (λ (d : Bool) (y : ℕ). 2 * y + cond d 1 0) (flipped-at n b ∙ ap not h) (number_same n (flipped n b) b (λ k m. flipped_off n k b (λ e. omega arith)))
        ∙ one_more (number n b)
        ∙ ap₂ (λ (d : Bool) (w : ℕ). 2 * number n b + cond d 1 0 + w) (sym h) (sym (weight_last n))

    sum : (p : ℕ) → p < n → (y d : ℕ) → 2 * (y + weight n p) + d ≡ 2 * y + d + weight (suc n) p
    sum p m y d = omega (arith, weight-before n p m)
