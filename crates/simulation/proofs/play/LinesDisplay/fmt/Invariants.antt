use Rattle.std.proofs.Common.{get_or}
use Rattle.std.specs.Fmt.{HasWritten, IsPlainFormatter}
use Rattle.amplitude.specs.Ring.{nought}
use Rattle.simulation.specs.Playing.{lines}
use Rattle.simulation.proofs.play.LinesDisplay.fmt.Given as goal

abbrev pub invariant-loop-number : goal.invariant-loop-number
invariant-loop-number g l =
    IsPlainFormatter l.fn.f → HasWritten g.W.Write.write_str_gives l.fn.f (lines l.register.qubits (λ k. get_or l.self.0.now.amplitudes k nought) l.number) l.f
