use Rattle.std.proofs.Common.{refl}
use Rattle.std.proofs.lemmas.Iterator.{YieldsList-from_slice}
use Rattle.circuit.proofs.vector.StateVector.run.Goals as goal

pub run_each-requires : goal.run_each-requires
run_each-requires c κs = ((refl, tt), (tt, (tt, (c.args.gates.now, (YieldsList-from_slice _ c.iter.ensures.rest).runs, c.requires))))

pub returns-clause-done : goal.returns-clause-done
returns-clause-done c = c.run_each.ensures.done c.args.gates.now (YieldsList-from_slice _ c.iter.ensures.rest).runs c.requires
