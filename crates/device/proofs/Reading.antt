-- The lists that a tree's hops are read as.
use Rattle.std.proofs.Common.{◌≡◌, ℕ, zero, suc, ◌+◌, ◌<◌, ◌≤◌, true, false, List, take, length, get_or, set, replicate, Some, None, Option, MatchOption, is_some, sym, refl, ap, ◌∙◌, subst, inl, inr, length-set, get_or-set_other, arith}
use Rattle.std.proofs.lemmas.List.{get_or-map, get_or-take, take-map, map-set, length-map, length-take-le}
use Rattle.std.specs.List.{AllWithin, HoldsAt}
use Rattle.device.specs.Connect.{FirstNot}
use Rattle.device.specs.Coupling.{Graph}
use Rattle.device.specs.Hops.{IsTree, far, next, distances, nexts}
use Rattle.device.specs.Trees.{Grown, Spread, Closed}
use Rattle.device.specs.declared.hop.Hop.{Hop}
use Rattle.device.specs.declared.tree.Tree.{Tree}
use Rattle.std.proofs.lemmas.Bool.{cases_eq}
use Rattle.device.proofs.Growth.{blank, grown_one, closed-one, grown_more, spread_more}

-- one place's entries
pub far_at : (hops : List (Option Hop)) (k : ℕ) → k < length hops → get_or (distances hops) k 0 ≡ far (get_or hops k None)
far_at hops k h = get_or-map far hops k None 0 h

pub next_at : (hops : List (Option Hop)) (k : ℕ) → k < length hops → get_or (nexts hops) k 0 ≡ next (get_or hops k None)
next_at hops k h = get_or-map next hops k None 0 h

pub wide : (d : Graph) (a : ℕ) (hops : List (Option Hop)) → Grown d a (distances hops) (nexts hops) → length hops ≡ 16
wide d a hops g = sym (length-map hops far) ∙ g.wide

-- a place that has a hop is reached, and one that has none is not
far_some : (o : Option Hop) → is_some o ≡ true → far o < 255
far_some None h = cc
far_some (Some hop) h = let s : hop.distance < 16 = hop.short in omega arith

far_none : (o : Option Hop) → is_some o ≡ false → far o ≡ 255
far_none None h = refl
far_none (Some hop) h = cc

pub told_reached : (hops : List (Option Hop)) (k : ℕ) (o : Option Hop) → k < length hops → is_some (get_or hops k o) ≡ true → get_or (distances hops) k 0 < 255
told_reached hops k o l h = let e = get_or-map far hops k o 0 l in omega (arith, e, far_some (get_or hops k o) h)

pub told_unreached : (hops : List (Option Hop)) (k : ℕ) (o : Option Hop) → k < length hops → is_some (get_or hops k o) ≡ false → get_or (distances hops) k 0 ≡ 255
told_unreached hops k o l h = get_or-map far hops k o 0 l ∙ far_none (get_or hops k o) h

pub distance_at : (hops : List (Option Hop)) (k : ℕ) (o : Option Hop) (hop : Hop) → k < length hops → get_or hops k o ≡ Some hop → get_or (distances hops) k 0 ≡ hop.distance
distance_at hops k o hop l h = get_or-map far hops k o 0 l ∙ ap far h

pub none_at : (hops : List (Option Hop)) (k : ℕ) (o : Option Hop) → k < length hops → get_or hops k o ≡ None → get_or (distances hops) k 0 ≡ 255
none_at hops k o l h = get_or-map far hops k o 0 l ∙ ap far h

-- the first place that has no hop is the first that is not reached
pub first_gap : (hops : List (Option Hop)) (r : Option ℕ)
    → MatchOption r (AllWithin (λ o. is_some o ≡ true) hops 0 (length hops)) (λ i. (i < length hops) × HoldsAt (λ o. is_some o ≡ false) hops i × AllWithin (λ o. is_some o ≡ true) hops 0 i)
    → FirstNot (λ b. get_or (distances hops) b 0 < 255) (length hops) r
first_gap hops None h = λ k l. told_reached hops k None l (h k None (omega arith) l)
first_gap hops (Some b) h =
    (h.0, λ r. omega (arith, told_unreached hops b None h.0 (h.1 None)), λ k l. told_reached hops k None (omega (arith, h.0)) (h.2 k None (omega arith) l))

-- and so it is among the first n
within : (hops : List (Option Hop)) (n k : ℕ) → k < n → get_or (distances (take n hops)) k 0 ≡ get_or (distances hops) k 0
within hops n k h = ap (λ (xs : List ℕ). get_or xs k 0) (sym (take-map far n hops)) ∙ get_or-take n (distances hops) k 0 h

pub first_gap_in : (hops : List (Option Hop)) (n : ℕ) (r : Option ℕ) → n ≤ length hops
    → FirstNot (λ b. get_or (distances (take n hops)) b 0 < 255) (length (take n hops)) r → FirstNot (λ b. get_or (distances hops) b 0 < 255) n r
first_gap_in hops n None l h = λ k b. omega (arith, within hops n k b, h k (omega (arith, length-take-le n hops l)))
first_gap_in hops n (Some b) l h =
    let t = length-take-le n hops l in
    let c : b < n = omega (arith, t, h.0) in
    (c, λ u. h.1 (omega (arith, within hops n b c)), λ k j. omega (arith, within hops n k (omega arith), h.2 k j))

grown_like : (d : Graph) (a : ℕ) (far far1 up up1 : List ℕ) → far ≡ far1 → up ≡ up1 → Grown d a far1 up1 → Grown d a far up
grown_like d a far far1 up up1 e f g = subst (λ (xs : List ℕ). Grown d a xs up) (sym e) (subst (λ (ys : List ℕ). Grown d a far1 ys) (sym f) g)

-- a hop given to a place that is there
within-set : (d : Graph) (hops : List (Option Hop)) (y : ℕ) (o : Option Hop) → y < d.size → ((k : ℕ) → far (get_or hops k None) < 255 → k < d.size) → (k : ℕ) → far (get_or (set hops y o) k None) < 255 → k < d.size
within-set d hops y o hy i k h = elim (cases_eq k y) [ inl e ↦ omega arith | inr n ↦ i k (subst (λ v. far v < 255) (get_or-set_other hops y k o None n) h) ]

none_there : (n k : ℕ) → get_or {A = Option Hop} (replicate n None) k None ≡ None
none_there zero k = refl
none_there (suc n) zero = refl
none_there (suc n) (suc k) = none_there n k

-- the root gets its hop first
module _ (d : Graph) (a : ℕ) (le : d.size ≤ 16) (ha : a < d.size) (hop : Hop) (here : hop.distance ≡ 0) where
  abbrev first : List (Option Hop)
  first = set (replicate 16 None) a (Some hop)

  far-first : distances first ≡ set blank a 0
  far-first = map-set far (replicate 16 None) a (Some hop) ∙ ap (λ v. set blank a v) here

  pub tree_first : IsTree d (record { root = a; hops = first })
  tree_first = record {
    grown = grown_like d a _ _ _ _ far-first refl (grown_one d a le ha (nexts first) (length-map first next ∙ length-set (replicate 16 None) a (Some hop)));
    within = within-set d (replicate 16 None) a (Some hop) ha (λ k h. absurd (omega (arith, ap far (none_there 16 k))));
  }

  pub closed_first : Closed d (distances first) 0
  closed_first = subst (λ (fs : List ℕ). Closed d fs 0) (sym far-first) (closed-one d a le ha)

-- one more place gets its hop
module _ (d : Graph) (tree : Tree) (i : IsTree d tree) (le : d.size ≤ 16)
    (x y : ℕ) (hx : x < d.size) (hy : y < d.size) (fx : get_or (distances tree.hops) x 0 < 255) (fy : get_or (distances tree.hops) y 0 ≡ 255) (jn : d.joined x y ≡ true)
    (hop : Hop) (one : get_or (distances tree.hops) x 0 + 1 ≡ hop.distance) (to : hop.toward ≡ x) where
  abbrev hops : List (Option Hop)
  hops = tree.hops

  far-set : distances (set hops y (Some hop)) ≡ set (distances hops) y (get_or (distances hops) x 0 + 1)
  far-set = map-set far hops y (Some hop) ∙ ap (λ v. set (distances hops) y v) (sym one)

  next_set : nexts (set hops y (Some hop)) ≡ set (nexts hops) y x
  next_set = map-set next hops y (Some hop) ∙ ap (λ v. set (nexts hops) y v) to

  pub tree_hop : IsTree d (record { root = tree.root; hops = set hops y (Some hop) })
  tree_hop = record {
    grown = grown_like d tree.root _ _ _ _ far-set next_set (grown_more d tree.root (distances hops) (nexts hops) i.grown le x y hx hy fx fy jn);
    within = within-set d hops y (Some hop) hy i.within;
  }

  pub spread_hop : (was : List ℕ) → get_or was x 0 < 255 → Spread d was (distances hops) x y → Spread d was (distances (set hops y (Some hop))) x (y + 1)
  spread_hop was hw sp = subst (λ (fs : List ℕ). Spread d was fs x (y + 1)) (sym far-set) (spread_more d tree.root (distances hops) (nexts hops) i.grown le x y hx hy fx fy jn was hw sp)
