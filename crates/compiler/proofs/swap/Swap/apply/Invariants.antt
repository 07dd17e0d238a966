use Rattle.std.proofs.Common.{◌≡◌, ℕ, ◌<◌, ◌≤◌, get_or}
use Rattle.laws.specs.Rename.{other}
use Rattle.compiler.proofs.swap.Swap.apply.Given as goal

abbrev pub invariant-loop-p : goal.invariant-loop-p
invariant-loop-p l = ((k : ℕ) → k < l.p-index → get_or l.place k 0 ≡ other l.self.x l.self.y (get_or l.initial.place k 0)) × ((k : ℕ) → l.p-index ≤ k → get_or l.place k 0 ≡ get_or l.initial.place k 0)
