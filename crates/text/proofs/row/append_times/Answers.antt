use Rattle.std.proofs.Common.{◌++◌, ap, ◌∙◌, append_assoc}
use Rattle.std.proofs.lemmas.Slice.{pushed}
use Rattle.text.specs.Program.{repeated}
use Rattle.text.proofs.Rows.{repeated_more}
use Rattle.text.proofs.row.append_times.Goals as goal

pub loop-preserved : goal.loop-preserved
loop-preserved c =
    pushed c.args.inner.now c.loop.invariant c.in_ok-extend_from_slice.was c.extend_from_slice.ensures.items
    ∙ append_assoc c.args.row.now.items (repeated c.loop.counter c.args.inner.now) c.args.inner.now
    ∙ ap (λ r. c.args.row.now.items ++ r) (repeated_more c.loop.counter c.args.inner.now)
