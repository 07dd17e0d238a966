use Rattle.std.proofs.Common.{◌≡◌, ℕ, ◌<◌}
use Rattle.device.specs.Board.{wired}
use Rattle.device.proofs.connect.even.Given as goal

abbrev pub invariant-loop-a : goal.invariant-loop-a
invariant-loop-a l = (x y : ℕ) → x < l.a → y < l.device.size → wired l.device x y ≡ wired l.device y x
