use Rattle.std.proofs.Common.{◌≡◌, ◌*◌, ◌≤◌, length, take}
use Rattle.compiler.specs.Emits.{over}
use Rattle.compiler.specs.Expand.{expanded}
use Rattle.compiler.proofs.decomposition.decompose.Given as goal

abbrev pub invariant-loop-gate : goal.invariant-loop-gate
invariant-loop-gate l =
    (l.out ≡ over (expanded (take l.gate-index l.gates)) l.initial.out)
    × (l.count ≡ length (expanded (take l.gate-index l.gates)))
    × (l.count ≤ 15 * l.gate-index)
