use Rattle.std.proofs.Common.{◌++◌, codes, decimal, sym, ap, rules}
use Rattle.std.proofs.Output.{has_written_append, has_written_of_eq}
use Rattle.message.proofs.Pieces.{pieces_more}
use Rattle.message.proofs.show.AtTheEndDisplay.fmt.Goals as goal

pub loop-place-preserved : goal.loop-place-preserved
loop-place-preserved g c = λ p.
    has_written_of_eq _ _ _ _ _ (sym (ap (λ w. codes "at the end" ++ w) (pieces_more (λ q. codes " " ++ decimal q) c.args.self.now.0.now c.loop-place.place-index 0 c.loop-place-test.true)))
    (has_written_append _ _ _ _ _ _ (c.loop-place.invariant p) (search rules))
