use Rattle.std.proofs.Common.{◌≡◌}
use Rattle.device.specs.Board.{graph_of}
use Rattle.device.specs.Hops.{IsTree, distances}
use Rattle.device.specs.Trees.{Spread}
use Rattle.device.proofs.tree.spread.Given as goal

abbrev pub invariant-loop-y : goal.invariant-loop-y
invariant-loop-y l = IsTree (graph_of l.device) l.tree × (l.tree.root ≡ l.initial.tree.root) × Spread (graph_of l.device) (distances l.initial.tree.hops) (distances l.tree.hops) l.x l.y
