use Rattle.std.proofs.Common.{ℕ, ◌<◌}
use Rattle.device.specs.Board.{graph_of}
use Rattle.device.specs.Coupling.{Way}
use Rattle.device.proofs.connect.reaching.Given as goal

abbrev pub invariant-loop-a : goal.invariant-loop-a
invariant-loop-a l = (x y : ℕ) → x < l.a → y < l.device.size → Way (graph_of l.device) x y
