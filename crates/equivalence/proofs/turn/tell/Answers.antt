use Rattle.amplitude.specs.Ring.{nought}
use Rattle.equivalence.proofs.Turning.{same_amplitudes}
use Rattle.equivalence.proofs.turn.tell.Goals as goal

pub returns-in-None : goal.returns-in-None
returns-in-None c = rw c.in-None.is (same_amplitudes c.args.x nought c.if-eq.ensures, same_amplitudes c.args.y nought c.if-eq-2.ensures)
