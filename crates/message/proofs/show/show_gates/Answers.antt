use Rattle.std.proofs.Common.{ℕ, List, ◌++◌, codes, sym, ap₂, ◌∙◌}
use Rattle.std.proofs.ByRecursion.{All-more}
use Rattle.circuit.specs.declared.gate.Gate.{Gate}
use Rattle.circuit.specs.declared.gate.Gate.TheVariants.{Phase}
use Rattle.message.specs.RoundTrip.{Small}
use Rattle.message.specs.Statements.{statement}
use Rattle.message.proofs.Pieces.{pieces_more}
use Rattle.message.proofs.show.show_gates.Goals as goal

pub loop-gate-preserved : goal.loop-gate-preserved
loop-gate-preserved c =
    let i = c.loop-gate.gate-index in (
      c.in_ok-writeln.ensures.bytes ∙ ap₂ (λ (done : List ℕ) (gate : Gate). done ++ (statement gate ++ codes "\n")) c.loop-gate.invariant.0 c.new-statement.ensures.gate
          ∙ sym (pieces_more (λ gate. statement gate ++ codes "\n") c.args.gates.now i (Phase 0 0) c.loop-gate-test.true),
      All-more Small c.args.gates.now i (Phase 0 0) c.loop-gate-test.true c.loop-gate.invariant.1 c.new-statement.ensures.small,
    )
