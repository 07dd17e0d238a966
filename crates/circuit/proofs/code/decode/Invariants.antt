use Rattle.std.proofs.Common.{◌≡◌, ◌*◌, ◌++◌, take, drop}
use Rattle.circuit.proofs.code.decode.Given as goal
use Rattle.circuit.specs.Code.{gates_in}

-- what is written and what is left are all the gates
abbrev pub invariant-loop-i : goal.invariant-loop-i
invariant-loop-i l = take l.i l.gates ++ gates_in (drop (4 * l.i) l.numbers) ≡ gates_in l.numbers
