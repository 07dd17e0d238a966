use Rattle.std.proofs.Common.{◌≡◌, false}
use Rattle.device.specs.Board.{graph_of}
use Rattle.device.specs.Hops.{IsTree, distances}
use Rattle.device.proofs.Growth.{Bare, Swept}
use Rattle.device.proofs.tree.sweep.Given as goal

abbrev pub invariant-loop-x : goal.invariant-loop-x
invariant-loop-x l = IsTree (graph_of l.device) l.tree × (l.tree.root ≡ l.initial.tree.root) × Swept (graph_of l.device) (distances l.tree.hops) l.level l.x × (l.any ≡ false → Bare (graph_of l.device) (distances l.tree.hops) l.level l.x)
