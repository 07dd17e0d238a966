use Rattle.std.proofs.Common.{reverse, refl, ap, ◌∙◌}
use Rattle.std.proofs.lemmas.Iterator.Adapters.{YieldsList-from_rev_slice}
use Rattle.std.specs.Slice.Iter.{iter_rest}
use Rattle.circuit.proofs.vector.StateVector.run_reversed.Goals as goal

pub run_each-requires : goal.run_each-requires
run_each-requires c κs = ((refl, tt), (tt, (tt, (reverse c.args.gates.now, (YieldsList-from_rev_slice c.args.gates.now (ap iter_rest c.rev.ensures.source ∙ c.iter.ensures.rest)).runs, c.requires))))

pub returns-clause-done : goal.returns-clause-done
returns-clause-done c = c.run_each.ensures.done (reverse c.args.gates.now) (YieldsList-from_rev_slice c.args.gates.now (ap iter_rest c.rev.ensures.source ∙ c.iter.ensures.rest)).runs c.requires
