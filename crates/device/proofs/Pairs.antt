-- Pairs of places in the order of their place in the list of wires.
use Rattle.std.proofs.Common.{◌≡◌, ℕ, ◌+◌, ◌*◌, ◌<◌, ◌≤◌, ◌⊎◌, Some, None, Option, MatchOption, sym, ap, subst, inl, inr, mul-le-mul_right, arith}
use Rattle.std.proofs.lemmas.Bool.{cases_order}
use Rattle.device.specs.Coupling.{Graph, Connected}
use Rattle.device.specs.Connect.{CutOff, CutOffTells, FirstNot}

-- what `find` gives over the places below n, in the words of the specification
pub first_not : (P : ℕ → Type 0) (n : ℕ) (r : Option ℕ) → MatchOption r ((k : ℕ) → 0 ≤ k → k < n → P k) (λ i. (0 ≤ i) × (i < n) × (P i → ⊥) × ((k : ℕ) → 0 ≤ k → k < i → P k)) → FirstNot P n r
first_not P n None h = λ k l. h k (omega arith) l
first_not P n (Some i) h = (h.1, h.2, λ k l. h.3 k (omega arith) l)

-- one pair before another: in a row before it, or in the same row
before : (n x y a b : ℕ) → b < n → x * n + y < a * n + b → (x < a) ⊎ ((x ≡ a) × (y < b))
before n x y a b hb h = elim (cases_order x a) [
  | inl e ↦ let q : x * n ≡ a * n = ap (λ i. i * n) e in inr (e, omega arith)
  | inr o ↦ elim o [
    | inl l ↦ inl l
    | inr g ↦ let k : a + 1 ≤ x = omega arith in absurd (omega (arith, mul-le-mul_right n k))
  ]
]

-- what holds in the rows before a, and in row a before b, holds of all pairs before this one
pub first_of_all : (n : ℕ) (P : ℕ → ℕ → Type 0) (a b : ℕ) → b < n → ((x y : ℕ) → x < a → y < n → P x y) → ((y : ℕ) → y < b → P a y) → (x y : ℕ) → x < n → y < n → x * n + y < a * n + b → P x y
first_of_all n P a b hb rows row x y hx hy h = elim (before n x y a b hb h) [
  | inl l ↦ rows x y l hy
  | inr e ↦ subst (λ i. P i y) (sym e.0) (row y e.1)
]

refutes : (d : Graph) (p : ℕ) → CutOff d p → Connected d → ⊥
refutes d p (a, b, e, s) c = elim s [
  | inl o ↦ o.differs (c.even a b o.a_inside o.b_inside)
  | inr o ↦ o.apart (c.way a b o.a_inside o.b_inside)
]

-- there is none before another
not-before : (d : Graph) (p q : ℕ) → CutOff d p → CutOff d q → p < q → ⊥
not-before d p q (a, b, e, inl s) (a1, b1, e1, inl s1) h = s.differs (s1.first a b s.a_inside s.b_inside (omega arith))
not-before d p q (a, b, e, inl s) (a1, b1, e1, inr s1) h = s.differs (s1.even a b s.a_inside s.b_inside)
not-before d p q (a, b, e, inr s) (a1, b1, e1, inl s1) h = s1.differs (s.even a1 b1 s1.a_inside s1.b_inside)
not-before d p q (a, b, e, inr s) (a1, b1, e1, inr s1) h = s.apart (s1.first a b s.a_inside s.b_inside (omega arith))

once : (d : Graph) (p q : ℕ) → CutOff d p → CutOff d q → p ≡ q
once d p q s t = elim (cases_order p q) [ inl e ↦ e | inr o ↦ elim o [ inl h ↦ absurd (not-before d p q s t h) | inr h ↦ absurd (not-before d q p t s h) ] ]

pub cut_off_tells : CutOffTells
cut_off_tells = record { refutes = refutes; once = once }
