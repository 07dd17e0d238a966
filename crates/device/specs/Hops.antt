-- A tree as the code holds it, read as lists: how far each place is from the root, and the next place on the way to it.
use Rattle.std.specs.Prelude.{ℕ, ◌<◌, List, map, Some, None, Option, slice_index_or}
use Rattle.device.specs.Coupling.{Graph}
use Rattle.device.specs.Trees.{Grown}
use Rattle.device.specs.declared.hop.Hop.{Hop}
use Rattle.device.specs.declared.tree.Tree.{Tree}

-- 255 where no way leads
abbrev pub far : Option Hop → ℕ
far None = 255
far (Some hop) = hop.distance

-- 0 where no way leads
abbrev pub next : Option Hop → ℕ
next None = 0
next (Some hop) = hop.toward

abbrev pub distances : List (Option Hop) → List ℕ
distances hops = map far hops

abbrev pub nexts : List (Option Hop) → List ℕ
nexts hops = map next hops

-- it is grown, and leads to no place that is not there
pub record IsTree (d : Graph) (tree : Tree) : Type 0 where
  pub grown : Grown d tree.root (distances tree.hops) (nexts tree.hops)
  pub within : (k : ℕ) → far (slice_index_or tree.hops k None) < 255 → k < d.size
