use Rattle.std.proofs.Common.{◌≡◌, ◌++◌, vec_items}
use Rattle.text.specs.Program.{repeated}
use Rattle.text.proofs.row.append_times.Given as goal

abbrev pub invariant-loop : goal.invariant-loop
invariant-loop l = vec_items l.row ≡ vec_items l.initial.row ++ repeated l.counter l.inner
