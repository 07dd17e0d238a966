-- How far two places of a device are apart.
use Rattle.std.proofs.Common.{◌≡◌, ℕ, ◌+◌, ◌<◌, true, List, [], length, Option, get_or, sym, ap, ◌∙◌, subst, arith}
use Rattle.device.specs.Coupling.{Graph, Connected}
use Rattle.device.specs.Distances.{AllGrown, Nearer, apart, onward}
use Rattle.device.specs.Hops.{distances, nexts}
use Rattle.device.specs.Trees.{Grown}
use Rattle.device.specs.declared.hop.Hop.{Hop}
use Rattle.device.specs.declared.ways.Ways.{Ways}
use Rattle.device.proofs.Growth.{reached_most, way-reached, hop, last_hop}
use Rattle.device.proofs.Reading.{far_at, next_at, wide}

-- the tree from a, which is there
module _ (d : Graph) (w : Ways) (all : AllGrown d w) (a : ℕ) (ha : a < d.size) where
  abbrev row : List (Option Hop)
  row = get_or w.hops a []

  tree : Grown d a (distances row) (nexts row)
  tree = all.each a ha

  long : (y : ℕ) → y < d.size → y < length row
  long y hy = omega (arith, all.small, wide d a row tree)

  pub apart_at : (y : ℕ) → y < d.size → apart w a y ≡ get_or (distances row) y 0
  apart_at y hy = sym (far_at row y (long y hy))

  onward_at : (y : ℕ) → y < d.size → onward w a y ≡ get_or (nexts row) y 0
  onward_at y hy = sym (next_at row y (long y hy))

  -- the next place on the way is nearer
  next_nearer : (b : ℕ) → b < d.size → 0 < apart w a b → apart w a b < 255 → Nearer d w a b (onward w a b)
  next_nearer b hb z u =
      let s = apart_at b hb in
      let h = hop d a (distances row) (nexts row) tree b hb (omega (arith, s)) (omega (arith, s)) in
      subst (Nearer d w a b) (sym (onward_at b hb)) (record {
        inside = h.inside;
        joined = h.linked;
        less = ap (λ i. i + 1) (apart_at _ h.inside) ∙ (h.less ∙ sym s);
        moves = h.moves;
        away = h.away;
        short = λ t. h.short (omega (arith, s));
      })

pub nearer : (d : Graph) (w : Ways) → AllGrown d w → (a b : ℕ) → 0 < apart w a b → apart w a b < 255 → Nearer d w a b (onward w a b)
nearer d w all a b z u = let p = all.within a b u in next_nearer d w all a p.0 b p.1 z u

-- of a connected device
module _ (d : Graph) (w : Ways) (all : AllGrown d w) (cd : Connected d) (a b : ℕ) (ha : a < d.size) (hb : b < d.size) where
  abbrev steps : List ℕ
  steps = distances (get_or w.hops a [])

  at : apart w a b ≡ get_or steps b 0
  at = apart_at d w all a ha b hb

  reached : get_or steps b 0 < 255
  reached = way-reached d a steps _ (all.each a ha) (all.shut a ha) b (cd.way a b ha hb)

  -- fifteen steps at most
  pub apart_low : apart w a b < 16
  apart_low = omega (arith, at, (all.each a ha).low b hb reached, reached_most steps, (all.each a ha).wide)

  -- two places are one step apart at least, and two if they are not joined
  pub apart-one : (a ≡ b → ⊥) → 0 < apart w a b
  apart-one ne = let z : get_or steps b 0 ≡ 0 → ⊥ = λ e. ne (sym ((all.each a ha).only b hb e)) in omega (arith, at)

  pub apart-two : (a ≡ b → ⊥) → (d.joined a b ≡ true → ⊥) → 1 < apart w a b
  apart-two ne nj =
      let z : get_or steps b 0 ≡ 0 → ⊥ = λ e. ne (sym ((all.each a ha).only b hb e)) in
      let o : get_or steps b 0 ≡ 1 → ⊥ = λ e. nj (last_hop d a steps _ (all.each a ha) b hb e) in
      omega (arith, at)
