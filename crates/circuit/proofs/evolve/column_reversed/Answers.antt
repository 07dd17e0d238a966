use Rattle.std.proofs.Common.{reverse}
use Rattle.circuit.proofs.Columns.{basis_ready_reversed, column_of}
use Rattle.circuit.proofs.evolve.column_reversed.Goals as goal

pub run_reversed-requires : goal.run_reversed-requires
run_reversed-requires c =
    basis_ready_reversed c.args.register.qubits c.args.number c.args.gates.now c.basis-state.result c.basis-state.ensures c.requires.fit c.requires.short

pub returns : goal.returns
returns c =
    column_of c.args.register.qubits c.args.number (reverse c.args.gates.now) c.basis-state.result _ c.basis-state.ensures c.run_reversed.ensures.kept
    c.run_reversed.ensures.done
