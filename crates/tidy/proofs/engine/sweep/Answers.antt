use Rattle.std.proofs.Common.{◌+◌, reverse, take, arith, ◌∙◌}
use Rattle.circuit.specs.declared.gate.Gate.TheVariants.{Phase}
use Rattle.tidy.proofs.Steps.{drops, sweep_more}
use Rattle.tidy.proofs.engine.sweep.Goals as goal

pub loop-i-preserved : goal.loop-i-preserved
loop-i-preserved c =
    let more = sweep_more c.loop-i.gates c.args.gates.now c.loop-i.i (Phase 0 0) c.loop-i.done.turn (reverse (take c.loop-i.done.len c.loop-i.gates)) (omega arith) c.loop-i.invariant.1 in (
      cc,
      drops c.insert-done.new.gates c.loop-i.gates (c.loop-i.done.len + 1) (c.loop-i.i + 1) (omega arith) c.insert-done.ensures.rest
          ∙ drops c.loop-i.gates c.args.gates.now c.loop-i.i (c.loop-i.i + 1) (omega arith) c.loop-i.invariant.1,
      omega arith,
    )
