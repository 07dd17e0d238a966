-- The scan is right.
use Rattle.std.proofs.Common.{◌≡◌, ℕ, zero, suc, ◌%◌, ◌^◌, ◌<◌, ◌⊎◌, List, Some, None, Option, Ok, Err, Result, MatchResult, sym, refl, ap, ◌∙◌, subst, inl, inr, arith}
use native.Mathlib.Decide.{ℕ_discrete}
use Rattle.std.specs.Option.{unwrap_or}
use Rattle.amplitude.proofs.RingLaws.{turned_mod}
use Rattle.amplitude.specs.Ring.{turned}
use Rattle.circuit.specs.Circuit.{Same, AlikeBy, AllFit}
use Rattle.circuit.specs.declared.gate.Gate.{Gate}
use Rattle.equivalence.proofs.Basis.{basis-enough, basis_needed, turn-told}
use Rattle.amplitude.proofs.RingLaws.{turned-nought}
use Rattle.equivalence.proofs.Turning.{amplitude_discrete}
use Rattle.equivalence.specs.Compare.{Agrees, Earlier, Before, FirstPair, Answers}
use Rattle.equivalence.specs.Laws.{Decided}
use Rattle.equivalence.specs.Scan.{Tells, Told, entry}
use Rattle.equivalence.specs.declared.comparison.Comparison.TheVariants.{Alike}

-- the pairs before the next one are those before and this
before_next : (n at from : ℕ) (P : ℕ → ℕ → Type 0) → Before n at from P → P at from → Before n at (suc from) P
before_next n at from P h p i j hi hj e = grind arith

-- and at the end of a row those before the next row
row_ends : (n at : ℕ) (P : ℕ → ℕ → Type 0) → Before n at (2 ^ n) P → Before n (suc at) 0 P
row_ends n at P h i j hi hj e = grind arith

earlier_next : (i j at from : ℕ) → Earlier i j at from → Earlier i j at (suc from)
earlier_next i j at from e = grind arith

earlier_row : (i j at from : ℕ) → Earlier i j at from → Earlier i j (suc at) 0
earlier_row i j at from e = grind arith

module _ (n : ℕ) (c d : List Gate) where
  -- where all before are nought any turn does
  any_turn : (at from : ℕ) → Told n c d at from None → (t : ℕ) → Before n at from (Agrees n c d t)
  any_turn at from h t i j hi hj l = let p = h i j hi hj l in p.0 ∙ sym (ap (turned t) p.1 ∙ turned-nought t)

  -- the turn of all before, where one of them is not nought, is the only one
  only : (at from t : ℕ) → Told n c d at from (Some t) → (u : ℕ) → Before n at from (Agrees n c d u) → u % 8 ≡ t % 8
  only at from t (l, h, (i, j, hi, hj, e, ne)) u all = turn-told u t (entry n d c i j) ne (sym (all i j hi hj e) ∙ h i j hi hj e)

  module _ (at from : ℕ) (hat : at < 2 ^ n) (hfrom : from < 2 ^ n) where
    broken : ((t : ℕ) × (t < 8) × Before n at from (Agrees n c d t)) → ((t : ℕ) → t < 8 → Before n at from (Agrees n c d t) → Agrees n c d t at from → ⊥) → FirstPair n c d at from
    broken before none = record {
      at_fits = hat;
      from_fits = hfrom;
      before = before;
      here = λ t h a. here t h a;
      apart = λ e. here (e.turn % 8) (λ i j _ _ _. basis_needed n c d e i j) (basis_needed n c d e at from);
    }
      where
        below : (t i j : ℕ) → Agrees n c d t i j → Agrees n c d (t % 8) i j
        below t i j a = a ∙ sym (turned_mod t (entry n d c i j))

        here : (t : ℕ) → Before n at from (Agrees n c d t) → Agrees n c d t at from → ⊥
        here t h a = none (t % 8) (omega arith) (λ i j hi hj l. below t i j (h i j hi hj l)) (below t at from a)

    -- one pair more
    pub pair_told : (o : Option ℕ) → Told n c d at from o → (r : Result (Option ℕ) ℕ) → Tells from o (entry n c d at from) (entry n d c at from) r →
        MatchResult r (Told n c d at (suc from)) (FirstPair n c d at)
    pair_told None h (Ok None) s = before_next n at from _ h s
    pair_told None h (Ok (Some t)) (l, e, ne) = (
      l,
      before_next n at from (Agrees n c d t) (any_turn at from h t) e,
      (at, from, hat, hfrom, inr (refl, omega arith), λ z. ne (e ∙ ap (turned t) z ∙ turned-nought t, z)),
    )
    pair_told None h (Err j) (e, none) = subst (FirstPair n c d at) (sym e) (broken (0, omega arith, any_turn at from h 0) (λ t l _. none t l))
    pair_told (Some t) h (Ok o) (e, a) = subst (Told n c d at (suc from)) (sym e) (
      h.0,
      before_next n at from (Agrees n c d t) h.1 a,
      (h.2.0, h.2.1, h.2.2, h.2.3, earlier_next h.2.0 h.2.1 at from h.2.4, h.2.5),
    )
    pair_told (Some t) h (Err j) (e, ne) = subst (FirstPair n c d at) (sym e) (broken (t, h.0, h.1) off)
      where
        off : (u : ℕ) → u < 8 → Before n at from (Agrees n c d u) → Agrees n c d u at from → ⊥
        off u l all a = let l' = h.0 in let m = only at from t h u all in let f : u ≡ t = omega arith in ne (a ∙ ap (λ k. turned k (entry n d c at from)) f)

  -- no pair is before the first
  pub none_told : Told n c d 0 0 None
  none_told i j hi hj e = grind arith

  -- one row more
  pub row_told : (at : ℕ) (o : Option ℕ) → Told n c d at (2 ^ n) o → Told n c d (suc at) 0 o
  row_told at None h = row_ends n at _ h
  row_told at (Some t) h = (h.0, row_ends n at (Agrees n c d t) h.1, (h.2.0, h.2.1, h.2.2, h.2.3, earlier_row h.2.0 h.2.1 at (2 ^ n) h.2.4, h.2.5))

  -- all rows
  alike_by : AllFit n c → AllFit n d → (t : ℕ) → Before n (2 ^ n) 0 (Agrees n c d t) → AlikeBy c d t
  alike_by fc fd t h = basis-enough n c d t fc fd (λ at from ha hf. h at from ha hf (inl ha))

  pub all_told : AllFit n c → AllFit n d → (o : Option ℕ) → Told n c d (2 ^ n) 0 o → Answers n c d (Alike (unwrap_or o 0))
  all_told fc fd None h = (omega arith, alike_by fc fd 0 (any_turn (2 ^ n) 0 h 0))
  all_told fc fd (Some t) h = (h.0, alike_by fc fd t h.1)

module _ (P : ℕ → Type 0) (dec : (k : ℕ) → Dec (P k)) where
  below_all : (m : ℕ) → Dec ((k : ℕ) → k < m → P k)
  below_all zero = yes (λ k l. absurd (omega arith))
  below_all (suc m) = go (dec m) (below_all m)
    where
      go : Dec (P m) → Dec ((k : ℕ) → k < m → P k) → Dec ((k : ℕ) → k < suc m → P k)
      go (no ne) _ = no (λ h. ne (h m (omega arith)))
      go _ (no ne) = no (λ h. ne (λ k l. h k (omega arith)))
      go (yes p) (yes h) = yes (λ k l. at k l (ℕ_discrete k m))
        where
          at : (k : ℕ) → k < suc m → Dec (k ≡ m) → P k
          at k l (yes e) = subst P (sym e) p
          at k l (no ne) = h k (omega arith)

  below_some : (m : ℕ) → Dec ((k : ℕ) × (k < m) × P k)
  below_some zero = no (λ s. let l = s.1 in absurd (omega arith))
  below_some (suc m) = go (dec m) (below_some m)
    where
      go : Dec (P m) → Dec ((k : ℕ) × (k < m) × P k) → Dec ((k : ℕ) × (k < suc m) × P k)
      go (yes p) _ = yes (m, omega arith, p)
      go _ (yes (k, l, p)) = yes (k, omega arith, p)
      go (no ne) (no none) = no (λ s. at s.0 s.1 s.2 (ℕ_discrete s.0 m))
        where
          at : (k : ℕ) → k < suc m → P k → Dec (k ≡ m) → ⊥
          at k l p (yes e) = ne (subst P e p)
          at k l p (no other) = none (k, omega arith, p)

-- so it is decided, by the eight turns and all pairs
pub decided : Decided
decided n c d fc fd = go (below_some (λ t. (at : ℕ) → at < 2 ^ n → (from : ℕ) → from < 2 ^ n → Agrees n c d t at from) does 8)
  where
    does : (t : ℕ) → Dec ((at : ℕ) → at < 2 ^ n → (from : ℕ) → from < 2 ^ n → Agrees n c d t at from)
    does t = below_all (λ at. (from : ℕ) → from < 2 ^ n → Agrees n c d t at from) (λ at. below_all (Agrees n c d t at) (λ from. amplitude_discrete _ _) (2 ^ n)) (2 ^ n)

    go : Dec ((t : ℕ) × (t < 8) × ((at : ℕ) → at < 2 ^ n → (from : ℕ) → from < 2 ^ n → Agrees n c d t at from)) → Same c d ⊎ (Same c d → ⊥)
    go (yes (t, l, h)) = inl (record { turn = t; same = basis-enough n c d t fc fd (λ at from ha hf. h at ha from hf) })
    go (no none) = inr (λ e. none (e.turn % 8, omega arith, λ at _ from _. basis_needed n c d e at from))
