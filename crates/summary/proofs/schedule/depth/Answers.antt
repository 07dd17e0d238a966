use Rattle.std.proofs.Common.{ℕ, ◌+◌, ◌≤◌, List, get_or, drop, ap, arith}
use mathlib.Core.Path.{fun_ext}
use Rattle.std.proofs.lemmas.List.{at_drop_more, at_drop_all}
use Rattle.circuit.specs.declared.gate.Gate.{Gate}
use Rattle.circuit.specs.declared.gate.Gate.TheVariants.{Phase}
use Rattle.summary.specs.Depth.{listed, ready, earliest, steps}
use Rattle.summary.proofs.Schedules.{ready_by, freed_by}
use Rattle.summary.proofs.schedule.depth.Goals as goal

pub loop-gate-init : goal.loop-gate-init
loop-gate-init c =
    let same = ap (λ (f : ℕ → ℕ). steps (earliest f c.args.gates.now)) (fun_ext c.new-timetable.ensures) in
    (omega arith, λ k. omega (arith, c.new-timetable.ensures k))

pub place-requires : goal.place-requires
place-requires c =
    let g : Gate = get_or c.args.gates.now c.loop-gate.gate-index (Phase 0 0) in
    omega (arith, ready_by (listed c.loop-gate.timetable.free) g c.loop-gate.gate-index (λ k _. c.loop-gate.invariant.1 k))

pub loop-gate-preserved : goal.loop-gate-preserved
unfolding earliest steps
loop-gate-preserved c =
    let gs : List Gate = c.args.gates.now in
    let i : ℕ = c.loop-gate.gate-index in
    let g : Gate = get_or gs i (Phase 0 0) in
    let free : ℕ → ℕ = listed c.loop-gate.timetable.free in
    let inv = c.loop-gate.invariant in
    let begun : ready free g ≤ i = ready_by free g i (λ k _. inv.1 k) in
    let same = ap (λ (f : ℕ → ℕ). steps (earliest f (drop (i + 1) gs))) (fun_ext c.place.ensures.free) in
    let more = at_drop_more (λ (hs : List Gate). steps (earliest free hs)) gs i (Phase 0 0) c.loop-gate-test.true in
    (omega arith, λ k. omega (arith, c.place.ensures.free k, freed_by free g k i (i + 1) begun (λ _. omega arith) (omega (arith, inv.1 k))))

pub returns : goal.returns
unfolding earliest steps
returns c =
    let none = at_drop_all (λ (hs : List Gate). steps (earliest (listed c.loop-gate.timetable.free) hs)) c.args.gates.now c.loop-gate.gate-index c.loop-gate-test.false in
    omega arith
