use Rattle.std.proofs.Common.{◌++◌, map, take, codes, decimal}
use Rattle.std.specs.Fmt.{HasWritten, IsPlainFormatter}
use Rattle.std.specs.List.{concat}
use Rattle.message.proofs.show.AtTheEndDisplay.fmt.Given as goal

abbrev pub invariant-loop-place : goal.invariant-loop-place
invariant-loop-place g l =
    IsPlainFormatter l.fn.f → HasWritten g.W.Write.write_str_gives l.fn.f (codes "at the end" ++ concat (map (λ p. codes " " ++ decimal p) (take l.place-index l.place-items))) l.f
