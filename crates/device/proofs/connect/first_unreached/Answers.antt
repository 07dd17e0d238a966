use Rattle.std.proofs.Common.{◌≡◌, true, false, is_some, rules, tests}
use Rattle.std.proofs.lemmas.Iterator.{IsFirst-from_position, YieldsList-from_slice}
use Rattle.device.proofs.Reading.{first_gap}
use Rattle.device.proofs.connect.first_unreached.Goals as goal

pub returns : goal.returns
returns c =
    let hops = c.args.hops.now in
    first_gap hops c.position.result (IsFirst-from_position _ _ c.position.result (λ o. is_some o ≡ false) (λ o. is_some o ≡ true) c.position.ensures.ran (YieldsList-from_slice hops cc) (λ x q k. search (rules, tests)) (λ x q k. search (rules, tests)))
