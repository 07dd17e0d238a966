use Rattle.std.proofs.Common.{◌≡◌, ◌-◌, ◌^◌}
use Rattle.amplitude.specs.Ring.{rooted, Within}
use Rattle.amplitude.proofs.Amplitude.rooted.Given as goal

abbrev pub invariant-loop-done : goal.invariant-loop-done
invariant-loop-done l = (l.result ≡ rooted l._done l.initial.result) × Within (2 ^ (61 - (l.times - l._done))) l.result
