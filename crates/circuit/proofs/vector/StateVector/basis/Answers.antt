use Rattle.std.proofs.Common.{refl}
use Rattle.circuit.proofs.Columns.{basis-is}
use Rattle.circuit.proofs.vector.StateVector.basis.Goals as goal

pub returns : goal.returns
returns c = record { qubits_are = refl; is = basis-is c.args.register.qubits c.args.number c.args.register.few c.requires }
