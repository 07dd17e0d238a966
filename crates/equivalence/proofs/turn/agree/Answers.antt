use Rattle.std.proofs.Common.{◌≡◌, ◌↔◌, IsTrue, subst}
use Rattle.amplitude.specs.declared.Amplitude.{Amplitude}
use Rattle.equivalence.proofs.Turning.{eq_decides}
use Rattle.equivalence.proofs.turn.agree.Goals as goal

pub returns : goal.returns
returns c = subst (λ (z : Amplitude). IsTrue c.eq.result ↔ (c.args.x ≡ z)) c.turned.ensures (eq_decides c.eq.result c.args.x c.turned.result c.eq.ensures)
