use Rattle.std.proofs.Common.{rules}
use Rattle.amplitude.proofs.RingLaws.{parts}
use Rattle.amplitude.proofs.Amplitude.plus.Goals as goal

pub returns : goal.returns
returns c = parts (search rules, search rules, search rules, search rules)
