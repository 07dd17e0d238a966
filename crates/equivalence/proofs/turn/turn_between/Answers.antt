use Rattle.std.proofs.Common.{◌≡◌, ◌≢◌, ℕ, ◌<◌, ◌≤◌, Some, None, Option, MatchOption, arith, rules}
use Rattle.std.proofs.lemmas.Iterator.{first_from_Range}
use Rattle.amplitude.specs.Ring.{turned}
use Rattle.equivalence.proofs.turn.turn_between.Goals as goal

below_eight : (Yes No After : ℕ → Type 0) (r : Option ℕ) → MatchOption r ((t : ℕ) → 0 ≤ t → t < 8 → No t) (λ t. (0 ≤ t) × (t < 8) × Yes t × After t) → MatchOption r ((t : ℕ) → t < 8 → No t) (λ t. (t < 8) × Yes t)
below_eight Yes No After None h = λ t l. h t (omega arith) l
below_eight Yes No After (Some t) h = (h.1, h.2)

pub returns : goal.returns
returns c =
    below_eight _ _ _ c.find.result
    (first_from_Range _ _ _ _ (λ t. c.args.x ≡ turned t c.args.y) (λ t. c.args.x ≢ turned t c.args.y) c.find.ensures.ran (λ t f called. search rules) (λ t f called. (search rules, search rules)))
