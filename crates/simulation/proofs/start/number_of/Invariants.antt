use Rattle.std.proofs.Common.{◌≡◌, ◌^◌, ◌<◌}
use Rattle.circuit.specs.Rows.{number}
use Rattle.simulation.specs.Playing.{row_of}
use Rattle.simulation.proofs.start.number_of.Given as goal

abbrev pub invariant-loop-digit : goal.invariant-loop-digit
invariant-loop-digit l = (l.number ≡ number l.digit-index (row_of l.digits)) × (l.number < 2 ^ l.digit-index)
