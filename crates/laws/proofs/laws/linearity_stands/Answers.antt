use Rattle.std.proofs.Common.{ap}
use Rattle.circuit.specs.Circuit.{State}
use Rattle.circuit.proofs.Linear.{run-plus, run-turned, run-rooted}
use Rattle.laws.proofs.laws.linearity_stands.Goals as goal

pub returns : goal.returns
returns c = record { sums = λ gs s t b. ap (λ (u : State). u b) (run-plus gs s t); turns = run-turned; roots = run-rooted }
