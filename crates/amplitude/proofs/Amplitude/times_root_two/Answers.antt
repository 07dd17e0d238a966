use Rattle.std.proofs.Common.{arith}
use borrow.Author.Differences.{ints}
use Rattle.amplitude.proofs.RingLaws.{parts}
use Rattle.amplitude.proofs.Amplitude.times_root_two.Goals as goal

pub returns : goal.returns
returns c = parts (omega (arith, ints), omega (arith, ints), omega (arith, ints), grind (arith, ints))
