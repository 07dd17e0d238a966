use Rattle.std.proofs.Common.{◌≡◌, take, string_bytes}
use Rattle.message.specs.RoundTrip.{AllSmall}
use Rattle.message.specs.Statements.{statements}
use Rattle.message.proofs.show.show_gates.Given as goal

abbrev pub invariant-loop-gate : goal.invariant-loop-gate
invariant-loop-gate l = (string_bytes l.out ≡ statements (take l.gate-index l.gates)) × AllSmall (take l.gate-index l.gates)
