use Rattle.std.proofs.Common.{◌≡◌, ◌*◌, drop}
use Rattle.circuit.proofs.code.first_fault.Given as goal
use Rattle.circuit.specs.Code.{fault_from}

-- what is left gives the same
abbrev pub invariant-loop-gate : goal.invariant-loop-gate
invariant-loop-gate l = fault_from (4 * l.gate) (drop (4 * l.gate) l.numbers) ≡ fault_from 0 l.numbers
