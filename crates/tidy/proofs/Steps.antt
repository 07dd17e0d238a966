-- The steps of the two loops.
use Rattle.std.proofs.Common.{◌≡◌, ℕ, ◌+◌, ◌-◌, ◌<◌, ◌≤◌, Bool, true, false, cond, List, [], ◌∷◌, reverse, length, get_or, drop, Some, None, Option, sym, ap, ◌∙◌, subst, arith}
use mathlib.Core.List.{reverse-reverse}
use lib.ListN.{length-reverse}
use Rattle.std.proofs.lemmas.List.{at_drop_more, drop-drop}
use Rattle.circuit.specs.declared.gate.Gate.{Gate}
use Rattle.tidy.proofs.Kept.{Kept, kept_on, swept_kept}
use Rattle.tidy.proofs.Normal.{swept-settled, swept_same}
use Rattle.tidy.specs.Engine.{start, partner, placed, inserted, swept}
use Rattle.tidy.specs.Promise.{AllSettled, Tidy}
use Rattle.tidy.specs.Table.{idle, reduced}
use Rattle.tidy.specs.declared.engine.Partner.{Partner}

-- what stands behind two circuits alike stands alike further behind
pub drops : (xs ys : List Gate) (n i : ℕ) → n ≤ i → drop n xs ≡ drop n ys → drop i xs ≡ drop i ys
drops xs ys n i l e =
    let k : i ≡ n + (i - n) = omega arith in
    ap (λ j. drop j xs) k ∙ sym (drop-drop (i - n) n xs) ∙ ap (drop (i - n)) e ∙ drop-drop (i - n) n ys ∙ ap (λ j. drop j ys) (sym k)

-- a gate more of a sweep over ys, read from xs, which is the same from there on
pub sweep_more : (xs ys : List Gate) (i : ℕ) (d : Gate) (t : ℕ) (done : List Gate) → i < length xs → drop i xs ≡ drop i ys →
    swept (inserted t (get_or xs i d) done).1 (inserted t (get_or xs i d) done).0 (drop (i + 1) ys) ≡ swept t done (drop i ys)
unfolding swept
sweep_more xs ys i d t done l e =
    ap (λ zs. swept (inserted t (get_or xs i d) done).1 (inserted t (get_or xs i d) done).0 zs) (sym (drops xs ys i (i + 1) (omega arith) e))
    ∙ sym (at_drop_more (swept t done) xs i d l) ∙ ap (swept t done) e

inserted_small : (t : ℕ) (g : Gate) (gs : List Gate) → t < 8 → (inserted t g gs).1 < 8
inserted_small t g gs l = go (idle g) (partner (start (reduced g)) gs)
  where
    go : (x : Bool) (o : Option Partner) → (cond x (gs, t) (placed t (reduced g) gs o)).1 < 8
    go true o = l
    go false None = l
    go false (Some p) = omega arith

swept_small : (t : ℕ) (done gs : List Gate) → t < 8 → (swept t done gs).1 < 8
unfolding swept
swept_small t done [] l = l
swept_small t done (g ∷ gs) l = swept_small (inserted t g done).1 (inserted t g done).0 gs (inserted_small t g done l)

-- d is what the whole has become, with a turn by t
pub record Standing (whole d : List Gate) (t : ℕ) : Type 0 where
  pub keeps : Kept 0 t (reverse whole) (reverse d)
  pub same : Tidy whole → (d ≡ whole) × (t ≡ 0)
  pub small : t < 8

-- one sweep, from c to d
module _ (whole c d : List Gate) (t u : ℕ) (row : reverse d ≡ (swept t [] c).0) (turn : u ≡ (swept t [] c).1) where
  sweep_kept : Kept 0 t (reverse whole) (reverse c) → Kept 0 u (reverse whole) (reverse d)
  sweep_kept k =
      kept_on k (subst (λ (r : List Gate). Kept t u (reverse c) r) (sym row)
      (subst (λ v. Kept t v (reverse c) (swept t [] c).0) (sym turn) (swept_kept t [] c)))

  sweep_same : c ≡ whole → t ≡ 0 → Tidy whole → (d ≡ whole) × (u ≡ 0)
  sweep_same e z a =
      let b : Tidy c = subst Tidy (sym e) a in
      let s = swept_same t [] c b in
      (sym (reverse-reverse d) ∙ ap reverse (row ∙ ap (λ (r : List Gate × ℕ). r.0) s) ∙ reverse-reverse c ∙ e, turn ∙ ap (λ (r : List Gate × ℕ). r.1) s ∙ z)

  pub sweep_stands : Standing whole c t → Standing whole d u
  sweep_stands s =
      record { keeps = sweep_kept s.keeps; same = λ a. sweep_same (s.same a).0 (s.same a).1 a; small = subst (λ v. v < 8) (sym turn) (swept_small t [] c s.small) }

-- if a sweep took nothing away, nothing is left to do
pub sweep_settled : (c d : List Gate) (t : ℕ) → reverse d ≡ (swept t [] c).0 → length d ≡ length c → Tidy d
sweep_settled c d t row e =
    let f : length (swept t [] c).0 ≡ length c + 0 = ap length (sym row) ∙ length-reverse d ∙ e ∙ omega arith in
    subst AllSettled (sym row) (swept-settled t [] c tt f)
