use Rattle.std.proofs.Common.{◌≡◌, ◌≤◌, length, reverse}
use Rattle.std.specs.Iterator.Adapters.{rev_source, enumerate_source, enumerate_count}
use Rattle.std.specs.Slice.Iter.{iter_rest}
use Rattle.tidy.specs.Engine.{partner}
use Rattle.tidy.proofs.engine.find.Given as goal

abbrev pub invariant-loop-at : goal.invariant-loop-at
invariant-loop-at l =
    (partner l.carried (reverse (iter_rest (enumerate_source (rev_source l.at-iterator)))) ≡ partner l.initial.carried (reverse l.gates))
    × (enumerate_count (rev_source l.at-iterator) ≡ 0)
    × (length (iter_rest (enumerate_source (rev_source l.at-iterator))) ≤ length l.gates)
