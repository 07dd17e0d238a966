-- The checks of numbers: one step of each, and what it means to pass.
use Rattle.std.proofs.Common.{◌≡◌, ℕ, zero, suc, ◌+◌, ◌<◌, Bool, true, false, cond, not, eqb, ltb, List, [], ◌∷◌, ◌++◌, length, get_or, take, Some, None, Decides, Option, sym, refl, ap, ◌∙◌, subst, ap₂, inl, inr, append_assoc, add-zero, arith, length-append, below_more}
use Rattle.std.specs.List.{HoldsAt, list_any, enumerate_from, position_from}
use Rattle.std.proofs.Math.Seq.{take-append_seam}
use Rattle.std.proofs.lemmas.List.{length_push, get_or_push, get_or_default, get_or_append_left, get_or-append-add, append-nil}
use Rattle.std.proofs.lemmas.Bool.{cases_lt, and_parts, and_from, ltb-true, lt-ltb, not-true, cond-true}
use Rattle.std.proofs.lemmas.Bool.Decides.{Decides-by_or, Decides-eqb, Decides-not, not_from_Decides}
use Rattle.device.specs.Coupling.{Graph}
use Rattle.device.specs.Layout.{Placed, at}
use Rattle.device.specs.Checks.{beyond_from, fits, misplaced_from, LayoutTold}

cond_flip : (b : Bool) (u v : Option ℕ) → cond (not b) u v ≡ cond b v u
cond_flip true u v = refl
cond_flip false u v = refl

-- it is the first number of which the test fails
pub beyond_position : (limit i : ℕ) (xs : List ℕ) → position_from (λ x. not (ltb x limit)) i xs ≡ beyond_from limit i xs
unfolding beyond_from
beyond_position limit i [] = refl
beyond_position limit i (x ∷ xs) = cond_flip (ltb x limit) _ _ ∙ ap (λ r. cond (ltb x limit) r (Some i)) (beyond_position limit (i + 1) xs)

-- what stands under a test that must be true
under : (t : Bool) (o : Option ℕ) (i : ℕ) → cond t o (Some i) ≡ None → (t ≡ true) × (o ≡ None)
under true o i e = (refl, e)
under false o i e = let z : ◌≡◌ {A = ℕ} 0 1 = cc in absurd (omega arith)

-- if none is beyond, all are below
pub all-below : (limit i : ℕ) (xs : List ℕ) → beyond_from limit i xs ≡ None → (k : ℕ) → k < length xs → get_or xs k 0 < limit
unfolding beyond_from
all-below limit i [] e k h = absurd (omega arith)
all-below limit i (x ∷ xs) e zero h = ltb-true x limit (under _ _ i e).0
all-below limit i (x ∷ xs) e (suc k) h = all-below limit (i + 1) xs (under _ _ i e).1 k (omega arith)

-- whether a place is among others
among-told : (x : ℕ) (ys : List ℕ) → Decides (list_any (λ y. eqb y x) ys) ((k : ℕ) × (k < length ys) × HoldsAt (λ y. y ≡ x) ys k)
among-told x ys = Decides-by_or (λ y. eqb y x) (λ y. y ≡ x) (list_any (λ y. eqb y x)) (λ y. Decides-eqb y x) refl (λ _ _. refl) ys

-- it is the first place that does not fit behind those before it
pub misplaced_position : (size : ℕ) (all before ys : List ℕ) (i : ℕ) → length before ≡ i → before ++ ys ≡ all → position_from (λ p. not (fits size (take p.0 all) p.1)) i (enumerate_from i ys) ≡ misplaced_from size before i ys
unfolding misplaced_from
misplaced_position size all before [] i n e = refl
misplaced_position size all before (y ∷ ys) i n e =
    let t : take i all ≡ before = ap₂ take (sym n) (sym e) ∙ take-append_seam before (y ∷ ys) in
    let rest : Option ℕ = position_from (λ (p : ℕ × ℕ). not (fits size (take p.0 all) p.1)) (i + 1) (enumerate_from (i + 1) ys) in
    ap (λ zs. cond (not (fits size zs y)) (Some i) rest) t
    ∙ (cond_flip (fits size before y) _ _
    ∙ ap (λ r. cond (fits size before y) r (Some i)) (misplaced_position size all (before ++ (y ∷ [])) ys (i + 1) (length_push before y ∙ ap (λ k. k + 1) n) (append_assoc before (y ∷ []) ys ∙ e)))

-- one place more
module _ (d : Graph) (xs : List ℕ) (x : ℕ) (l : Placed (length xs) d (at xs)) (t : fits d.size xs x ≡ true) where
  abbrev ys : List ℕ
  ys = xs ++ (x ∷ [])

  here : get_or ys (length xs) 0 ≡ x
  here = get_or_push xs x 0 (length xs) refl

  there : (k : ℕ) → k < length xs → get_or ys k 0 ≡ get_or xs k 0
  there k h = get_or_append_left xs (x ∷ []) 0 k h

  inside-more : (k : ℕ) → k < length xs + 1 → get_or ys k 0 < d.size
  inside-more = below_more (λ k. get_or ys k 0 < d.size) (length xs)
      (λ k h. subst (λ v. v < d.size) (sym (there k h)) (l.inside k h))
      (subst (λ v. v < d.size) (sym here) (ltb-true x d.size (and_parts (ltb x d.size) (not (list_any (λ y. eqb y x) xs)) t).0))

  clash : (k m : ℕ) → k < length xs → m ≡ length xs → get_or ys k 0 ≡ get_or ys m 0 → ⊥
  clash k m h q e =
      not_from_Decides (list_any (λ y. eqb y x) xs) (among-told x xs) (not-true (list_any (λ y. eqb y x) xs) (and_parts (ltb x d.size) (not (list_any (λ y. eqb y x) xs)) t).1)
      (k, h, λ z. get_or_default xs k z 0 h ∙ (sym (there k h) ∙ (e ∙ (ap (λ i. get_or ys i 0) q ∙ here))))

  apart_more : (k m : ℕ) → k < length xs + 1 → m < length xs + 1 → get_or ys k 0 ≡ get_or ys m 0 → k ≡ m
  apart_more k m hk hm e = elim (cases_lt k (length xs)) [
    | inl a ↦ elim (cases_lt m (length xs)) [
      | inl b ↦ l.apart k m a b (sym (there k a) ∙ (e ∙ there m b))
      | inr b ↦ absurd (clash k m a (omega arith) e)
    ]
    | inr a ↦ elim (cases_lt m (length xs)) [
      | inl b ↦ absurd (clash m k b (omega arith) (sym e))
      | inr b ↦ omega arith
    ]
  ]

  placed-more : Placed (length (xs ++ (x ∷ []))) d (at (xs ++ (x ∷ [])))
  placed-more = subst (λ n. Placed n d (at ys)) (sym (length_push xs x)) (record { inside = inside-more; apart = apart_more })

-- none misplaced behind a layout: a layout
placed_on : (d : Graph) (xs ys : List ℕ) (i : ℕ) → Placed (length xs) d (at xs) → misplaced_from d.size xs i ys ≡ None → Placed (length (xs ++ ys)) d (at (xs ++ ys))
unfolding misplaced_from
placed_on d xs [] i l e = subst (λ zs. Placed (length zs) d (at zs)) (sym (append-nil xs)) l
placed_on d xs (y ∷ ys) i l e =
    let u = under (fits d.size xs y) _ i e in
    subst (λ zs. Placed (length zs) d (at zs)) (append_assoc xs (y ∷ []) ys) (placed_on d (xs ++ (y ∷ [])) ys (i + 1) (placed-more d xs y l u.0) u.1)

-- the next of a layout is there, and new
next_fits : (d : Graph) (xs : List ℕ) (y : ℕ) (ys : List ℕ) → Placed (length (xs ++ (y ∷ ys))) d (at (xs ++ (y ∷ ys))) → fits d.size xs y ≡ true
next_fits d xs y ys l =
    let zs : List ℕ = xs ++ (y ∷ ys) in
    let n : length zs ≡ length xs + suc (length ys) = length-append xs (y ∷ ys) in
    let q : get_or zs (length xs) 0 ≡ y = ap (λ i. get_or zs i 0) (sym (add-zero (length xs))) ∙ get_or-append-add xs (y ∷ ys) 0 0 in
    let below : y < d.size = subst (λ v. v < d.size) q (l.inside (length xs) (omega arith)) in
    let new : ((k : ℕ) × (k < length xs) × HoldsAt (λ z. z ≡ y) xs k) → ⊥ = λ w.
    let same : w.0 ≡ length xs = l.apart w.0 (length xs) (omega (arith, w.1)) (omega arith) (get_or_append_left xs (y ∷ ys) 0 w.0 w.1 ∙ (w.2 0 ∙ sym q)) in
    omega (arith, w.1) in
    and_from (ltb y d.size) (not (list_any (λ z. eqb z y) xs)) (lt-ltb y d.size below)
    ((Decides-not (list_any (λ z. eqb z y) xs) (among-told y xs)).1 new)

taken-on : (d : Graph) (xs ys : List ℕ) (i : ℕ) → Placed (length (xs ++ ys)) d (at (xs ++ ys)) → misplaced_from d.size xs i ys ≡ None
unfolding misplaced_from
taken-on d xs [] i l = refl
taken-on d xs (y ∷ ys) i l =
    cond-true (fits d.size xs y) _ _ (next_fits d xs y ys l)
    ∙ taken-on d (xs ++ (y ∷ [])) ys (i + 1) (subst (λ zs. Placed (length zs) d (at zs)) (sym (append_assoc xs (y ∷ []) ys)) l)

no_places : (d : Graph) → Placed 0 d (at [])
no_places d = record { inside = λ k h. absurd (omega arith); apart = λ k l h. absurd (omega arith) }

pub layout_told : LayoutTold
layout_told = record { placed = λ d places. placed_on d [] places 0 (no_places d); taken = λ d places. taken-on d [] places 0 }

pub placed_from : (d : Graph) (size : ℕ) (places : List ℕ) → d.size ≡ size → misplaced_from size [] 0 places ≡ None → Placed (length places) d (at places)
placed_from d size places e n = layout_told.placed d places (ap (λ s. misplaced_from s [] 0 places) e ∙ n)
