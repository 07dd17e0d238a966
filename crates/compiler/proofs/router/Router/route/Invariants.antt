use Rattle.std.proofs.Common.{◌≤◌, length, take}
use Rattle.device.specs.Board.{graph_of}
use Rattle.device.specs.Layout.{at}
use Rattle.compiler.specs.Emits.{Emitted, costs}
use Rattle.compiler.proofs.router.Router.route.Given as goal

abbrev pub invariant-loop-i : goal.invariant-loop-i
invariant-loop-i g l =
    Emitted (length l.initial.place) (graph_of l.self.device.now) (at l.initial.place) (at l.place) (take l.i l.gates) l.initial.room l.room l.k
    × (l.k ≤ costs (take l.i l.gates))
