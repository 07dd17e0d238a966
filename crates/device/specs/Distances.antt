-- The trees of shortest ways from all places, as the code holds them.
use Rattle.std.specs.Prelude.{◌≡◌, ℕ, ◌+◌, ◌<◌, ◌≤◌, true, ◌≢◌, List, [], None, Option, slice_index_or}
use Rattle.device.specs.Coupling.{Graph}
use Rattle.device.specs.Hops.{far, next, distances, nexts}
use Rattle.device.specs.Trees.{Grown, Shut}
use Rattle.device.specs.declared.hop.Hop.{Hop}
use Rattle.device.specs.declared.ways.Ways.{Ways}

-- the hop of b in the tree from a, none if no way leads
abbrev pub hop_at : Ways → ℕ → ℕ → Option Hop
hop_at w a b = slice_index_or (slice_index_or w.hops a []) b None

-- how far two places are apart, 255 if no way leads
abbrev pub apart : Ways → ℕ → ℕ → ℕ
apart w a b = far (hop_at w a b)

-- the next place on the way from b to a, 0 if no way leads
abbrev pub onward : Ways → ℕ → ℕ → ℕ
onward w a b = next (hop_at w a b)

-- y is joined to b and one step nearer to a
pub record Nearer (d : Graph) (w : Ways) (a b y : ℕ) : Type 0 where
  pub inside : y < d.size
  pub joined : d.joined y b ≡ true
  pub less : apart w a y + 1 ≡ apart w a b
  pub moves : y ≢ b
  pub away : b ≢ a
  pub short : 1 < apart w a b → y ≢ a

-- the hops of the tree from a, none if a is not there
pub record TreeFrom (d : Graph) (a : ℕ) (hops : List (Option Hop)) : Type 0 where
  pub within : (k : ℕ) → far (slice_index_or hops k None) < 255 → (a < d.size) × (k < d.size)
  pub grown : a < d.size → Grown d a (distances hops) (nexts hops)
  pub shut : a < d.size → Shut d (distances hops)

-- row a is the tree from a, and no way leads to or from a place that is not there
pub record AllGrown (d : Graph) (w : Ways) : Type 0 where
  pub small : d.size ≤ 16
  pub within : (a b : ℕ) → apart w a b < 255 → (a < d.size) × (b < d.size)
  pub each : (a : ℕ) → a < d.size → Grown d a (distances (slice_index_or w.hops a [])) (nexts (slice_index_or w.hops a []))
  pub shut : (a : ℕ) → a < d.size → Shut d (distances (slice_index_or w.hops a []))
