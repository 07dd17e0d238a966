-- A tree of shortest ways from a root: how far each place is, 255 where it is not reached, and the next place toward the root.
use Rattle.std.specs.Prelude.{◌≡◌, ℕ, ◌+◌, ◌<◌, ◌≤◌, true, cond, ◌⊎◌, List, [], ◌∷◌, length, ◌==◌, slice_index}
use Rattle.device.specs.Coupling.{Graph}

-- how many places are reached
abbrev pub reached : List ℕ → ℕ
reached [] = 0
reached (x ∷ xs) = cond (x == 255) 0 1 + reached xs

-- each place that is reached leads toward the root a, by places that are joined
pub record Grown (d : Graph) (a : ℕ) (far up : List ℕ) : Type 0 where
  pub wide : length far ≡ 16
  pub high : length up ≡ 16
  pub at : a < d.size
  pub root : slice_index far a ≡ 0
  pub only : (x : ℕ) → x < d.size → slice_index far x ≡ 0 → x ≡ a
  pub low : (x : ℕ) → x < d.size → slice_index far x < 255 → slice_index far x < reached far
  pub inside : (x : ℕ) → x < d.size → 0 < slice_index far x → slice_index far x < 255 → slice_index up x < d.size
  pub linked : (x : ℕ) → x < d.size → 0 < slice_index far x → slice_index far x < 255 → d.joined (slice_index up x) x ≡ true
  pub step : (x : ℕ) → x < d.size → 0 < slice_index far x → slice_index far x < 255 → slice_index far (slice_index up x) + 1 ≡ slice_index far x

-- the neighbours of x below y are reached now, one step farther than x if they were not before
pub record Spread (d : Graph) (was far : List ℕ) (x y : ℕ) : Type 0 where
  pub kept : (k : ℕ) → k < d.size → slice_index was k < 255 → slice_index far k ≡ slice_index was k
  pub new : (k : ℕ) → k < d.size → slice_index far k < 255 → (slice_index far k ≡ slice_index was k) ⊎ (slice_index far k ≡ slice_index was x + 1)
  pub near : (k : ℕ) → k < y → d.joined x k ≡ true → slice_index far k < 255

-- what is reached in fewer than e steps has all its neighbours reached
pub record Closed (d : Graph) (far : List ℕ) (e : ℕ) : Type 0 where
  pub shut : (x y : ℕ) → x < d.size → y < d.size → slice_index far x < e → d.joined x y ≡ true → slice_index far y < 255
  pub edge : (x : ℕ) → x < d.size → slice_index far x < 255 → slice_index far x ≤ e

-- what is reached has all its neighbours reached
abbrev pub Shut : Graph → List ℕ → Type 0
Shut d far = (x k : ℕ) → x < d.size → k < d.size → slice_index far x < 255 → d.joined x k ≡ true → slice_index far k < 255
