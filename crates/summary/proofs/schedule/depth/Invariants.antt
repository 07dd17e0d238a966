use Rattle.std.proofs.Common.{◌≡◌, ℕ, ◌≤◌, max, drop}
use Rattle.summary.specs.Depth.{listed, earliest, steps, depth}
use Rattle.summary.proofs.schedule.depth.Given as goal

abbrev pub invariant-loop-gate : goal.invariant-loop-gate
invariant-loop-gate l =
    (max l.steps (steps (earliest (listed l.timetable.free) (drop l.gate-index l.gates))) ≡ depth l.gates)
    × ((k : ℕ) → listed l.timetable.free k ≤ l.gate-index)
