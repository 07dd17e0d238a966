use Rattle.compiler.proofs.Emit.{emit_gate}
use Rattle.compiler.proofs.router.Router.step.Goals as goal

pub returns-clause-done : goal.returns-clause-done
returns-clause-done g c = emit_gate c.write.new.room c.args.gate c.renamed.result c.requires.fits c.make_way-k.ensures.can c.renamed.ensures c.write.ensures c.make_way-k.ensures.done
