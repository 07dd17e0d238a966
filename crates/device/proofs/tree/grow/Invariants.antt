use Rattle.std.proofs.Common.{◌≡◌}
use Rattle.device.specs.Board.{graph_of}
use Rattle.device.specs.Hops.{IsTree, distances}
use Rattle.device.specs.Trees.{Closed}
use Rattle.device.proofs.tree.grow.Given as goal

abbrev pub invariant-loop-level : goal.invariant-loop-level
invariant-loop-level l = IsTree (graph_of l.device) l.tree × (l.tree.root ≡ l.root) × Closed (graph_of l.device) (distances l.tree.hops) l.level
