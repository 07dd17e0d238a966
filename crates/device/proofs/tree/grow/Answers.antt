use Rattle.std.proofs.Common.{refl, arith}
use Rattle.device.specs.Board.{graph_of}
use Rattle.device.specs.Hops.{distances, nexts}
use Rattle.device.proofs.Growth.{all-shut}
use Rattle.device.proofs.Reading.{tree_first, closed_first}
use Rattle.device.proofs.tree.grow.Goals as goal

pub loop-level-init : goal.loop-level-init
loop-level-init c =
    let d = graph_of c.args.device.now in
    (tree_first d c.args.root (omega arith) c.requires _ refl, refl, closed_first d c.args.root (omega arith) c.requires _ refl)

pub returns-after-loop-level-clause-shut : goal.returns-after-loop-level-clause-shut
returns-after-loop-level-clause-shut c =
    let i = c.loop-level.invariant in
    let tree = c.loop-level.tree in
    all-shut (graph_of c.args.device.now) tree.root (distances tree.hops) (nexts tree.hops) i.0.grown c.loop-level.level c.loop-level-test.false i.2
