use Rattle.amplitude.proofs.RingLaws.{ring_laws}
use Rattle.amplitude.proofs.ring_stands.Goals as goal

pub returns : goal.returns
returns c = ring_laws
