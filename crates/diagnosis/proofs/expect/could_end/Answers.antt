use Rattle.std.proofs.Common.{take}
use Rattle.diagnosis.proofs.Next.{end_is}
use Rattle.diagnosis.proofs.expect.could_end.Goals as goal

pub returns : goal.returns
returns c = λ ts spelled. end_is (take c.args.sign ts) _ _ c.is_some_and.ensures (c.in_ok-reader.ensures ts spelled)
