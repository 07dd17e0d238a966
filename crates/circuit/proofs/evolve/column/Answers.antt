use Rattle.circuit.proofs.Columns.{basis-ready, column_of}
use Rattle.circuit.proofs.evolve.column.Goals as goal

pub run-requires : goal.run-requires
run-requires c =
    basis-ready c.args.register.qubits c.args.number c.args.gates.now c.basis-state.result c.basis-state.ensures c.requires.fit c.requires.short

pub returns : goal.returns
returns c =
    column_of c.args.register.qubits c.args.number c.args.gates.now c.basis-state.result _ c.basis-state.ensures c.run.ensures.kept c.run.ensures.done
