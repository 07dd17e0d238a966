use Rattle.std.proofs.Common.{rules}
use Rattle.std.proofs.Output.{has_written_append}
use Rattle.summary.specs.Text.{counts_text}
use Rattle.summary.proofs.table.rows.Goals as goal

-- each line after those before it
pub returns : goal.returns
unfolding counts_text
returns g c p k =
    let a = c.row.ensures p (search rules) in
    let b = c.row-2.ensures a.plain (search rules) in
    let d = c.row-3.ensures b.plain (search rules) in
    let e = c.row-4.ensures d.plain (search rules) in
    let f = c.row-5.ensures e.plain (search rules) in
    let h = c.row-6.ensures f.plain k in
    has_written_append _ _ _ _ _ _ (has_written_append _ _ _ _ _ _ (has_written_append _ _ _ _ _ _ (has_written_append _ _ _ _ _ _ (has_written_append _ _ _ _ _ _ a b) d) e) f) h
