use Rattle.std.proofs.Common.{◌+◌, ◌-◌, ◌*◌, ◌≤◌, [], length, get_or}
use Rattle.device.specs.Board.{graph_of}
use Rattle.device.specs.Distances.{apart}
use Rattle.device.specs.Layout.{at}
use Rattle.compiler.specs.Emits.{Emitted}
use Rattle.compiler.proofs.router.Router.bring.Given as goal

abbrev pub invariant-loop-place : goal.invariant-loop-place
invariant-loop-place g l = Emitted (length l.initial.place) (graph_of l.self.device.now) (at l.initial.place) (at l.place) [] l.initial.room l.room (12 * l.made)
    × (l.made + apart l.self.ways (get_or l.place l.control 0) (get_or l.place l.target 0) ≤ 15)

abbrev pub decreases-loop-place : goal.decreases-loop-place
decreases-loop-place g l = 15 - l.made
