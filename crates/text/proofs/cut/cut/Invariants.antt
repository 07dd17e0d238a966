use Rattle.std.proofs.Common.{◌≡◌, ◌≤◌, [], ◌++◌, drop, vec_items}
use Rattle.std.specs.List.{between}
use Rattle.text.specs.Cut.{cut}
use Rattle.text.proofs.cut.cut.Given as goal

abbrev pub invariant-loop-i : goal.invariant-loop-i
invariant-loop-i l = (l.start ≤ l.i) × (vec_items l.out ++ cut (between l.start l.i l.text) (drop l.i l.text) ≡ cut [] l.text)
