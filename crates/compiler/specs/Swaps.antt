-- Swaps on the way to a controlled NOT.
use Rattle.std.specs.Prelude.{◌≡◌, ℕ, ◌+◌, ◌<◌, ◌≤◌, true, ◌≢◌}
use Rattle.laws.specs.Rename.{other}
use Rattle.device.specs.Coupling.{Graph}
use Rattle.device.specs.Distances.{apart}
use Rattle.device.specs.declared.ways.Ways.{Ways}

-- a swap of two joined places x and y after which what lay at a and b can still be brought together: with those made before, by fourteen swaps
pub record Affordable (d : Graph) (w : Ways) (a b made x y : ℕ) : Type 0 where
  pub x_inside : x < d.size
  pub y_inside : y < d.size
  pub differs : x ≢ y
  pub joined : d.joined x y ≡ true
  pub enough : made + apart w (other x y a) (other x y b) ≤ 14
