use Rattle.std.proofs.Common.{◌≡◌, drop}
use Rattle.text.specs.Reading.{view, runs, begins}
use Rattle.text.proofs.reader.run.Given as goal

abbrev pub invariant-loop-i : goal.invariant-loop-i
invariant-loop-i l = runs l.limit (view l.reader) l.i (drop l.i l.tokens) ≡ runs l.limit begins 0 l.tokens
