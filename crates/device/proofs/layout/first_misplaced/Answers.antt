use Rattle.std.proofs.Common.{ℕ, Bool, not, [], take, refl, ◌∙◌, rules, tests}
use Rattle.std.specs.List.{enumerate_from}
use Rattle.std.proofs.lemmas.Iterator.{YieldsList-from_slice}
use Rattle.std.proofs.lemmas.Iterator.Adapters.{position_from-zero}
use Rattle.std.proofs.lemmas.Iterator.Consumers.{YieldsList-from_enumerate}
use Rattle.std.proofs.lemmas.Iterator.Search.{position_from_yields_List}
use Rattle.device.specs.Checks.{fits}
use Rattle.device.proofs.Places.{misplaced_position}
use Rattle.device.proofs.layout.first_misplaced.Goals as goal

pub returns : goal.returns
returns c =
    let xs = c.args.places.now in
    let test : ℕ × ℕ → Bool = λ p. not (fits c.args.size (take p.0 xs) p.1) in
    position_from_yields_List test _ _ c.position.result c.position.ensures.ran (YieldsList-from_enumerate (YieldsList-from_slice xs cc) cc) (λ x b q k. search (rules, tests))
    ∙ (position_from-zero test (enumerate_from 0 xs) ∙ misplaced_position c.args.size xs [] xs 0 refl refl)
