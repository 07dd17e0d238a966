-- Two qubits brought together on a connected device, by its trees of shortest ways.
use Rattle.std.proofs.Common.{◌≡◌, ℕ, ◌+◌, ◌<◌, ◌≤◌, false, sym, ap₂, ◌∙◌, arith}
use Rattle.std.proofs.Math.Logic.{∥∥₁_elim}
use Rattle.std.proofs.Math.Bridge.{le_prop}
use Rattle.std.proofs.Props.{props}
use Rattle.std.proofs.lemmas.Bool.{both_ways}
use Rattle.laws.specs.Rename.{other}
use Rattle.device.specs.Coupling.{Graph, Connected}
use Rattle.device.specs.Distances.{AllGrown, apart, onward}
use Rattle.device.specs.Layout.{Placed}
use Rattle.device.specs.declared.ways.Ways.{Ways}
use Rattle.device.proofs.Distant.{apart_low, apart-one, apart-two, nearer}
use Rattle.compiler.specs.Swaps.{Affordable}
use Rattle.compiler.proofs.Doings.{other-here, other_away}

module _ (d : Graph) (w : Ways) (connected : ∥ Connected d ∥₁) (grown : ∥ AllGrown d w ∥₁) where
  -- what has one proof at most follows from what merely holds
  follows : {P : Type 0} → IsProp P → (Connected d → AllGrown d w → P) → P
  follows p f = ∥∥₁_elim connected p (λ cd. ∥∥₁_elim grown p (f cd))

  -- fifteen steps at most
  pub is_low : (a b : ℕ) → a < d.size → b < d.size → apart w a b < 16
  is_low a b ha hb = follows le_prop (λ cd all. apart_low d w all cd a b ha hb)

  -- two qubits that are not joined are two steps apart at least
  pub is_far : {n : ℕ} {p : ℕ → ℕ} {a b : ℕ} (x y : ℕ) → Placed n d p → (x < n) × (y < n) × (x ≡ y → ⊥) → a ≡ p x → b ≡ p y → false ≡ d.joined a b → 1 < apart w (p x) (p y)
  is_far {p = p} x y l two ha hb nj =
      follows le_prop (λ cd all. apart-two d w all cd (p x) (p y) (l.inside x two.0) (l.inside y two.1) (λ e. two.2 (l.apart x y two.0 two.1 e)) (λ e. both_ways _ (sym (nj ∙ ap₂ d.joined ha hb)) e))

  -- and two qubits one step at least
  pub is_apart : {n : ℕ} {p : ℕ → ℕ} (x y : ℕ) → Placed n d p → (x < n) × (y < n) × (x ≡ y → ⊥) → 0 < apart w (p x) (p y)
  is_apart {p = p} x y l two = follows le_prop (λ cd all. apart-one d w all cd (p x) (p y) (l.inside x two.0) (l.inside y two.1) (λ e. two.2 (l.apart x y two.0 two.1 e)))

  -- joined the same both ways
  pub is_even : (a b : ℕ) → a < d.size → b < d.size → d.joined a b ≡ d.joined b a
  is_even a b ha hb = follows (Prim.hlevel props) (λ cd all. cd.even a b ha hb)

  straight : (a b made : ℕ) → a < d.size → b < d.size → 1 < apart w a b → made + apart w a b ≤ 15 → Connected d → AllGrown d w → Affordable d w a b made (onward w a b) b
  straight a b made ha hb far enough cd all =
      let y = onward w a b in
      let h = nearer d w all a b (omega arith) (omega (arith, apart_low d w all cd a b ha hb)) in
      let e : apart w (other y b a) (other y b b) ≡ apart w a y = ap₂ (apart w) (other_away y b a (λ u. h.short far (sym u)) (λ u. h.away (sym u))) (other-here y b) in
      record {
        x_inside = h.inside;
        y_inside = hb;
        differs = h.moves;
        joined = h.joined;
        enough = omega (arith, e, h.less, enough);
      }

  -- one step of b straight toward a can be made
  pub straight_affordable : (a b made : ℕ) → (a < d.size) × (b < d.size) → 1 < apart w a b → made + apart w a b ≤ 15 → Affordable d w a b made (onward w a b) b
  straight_affordable a b made (ha, hb) far enough = follows (Prim.hlevel props) (straight a b made ha hb far enough)
