use Rattle.std.proofs.Common.{◌≡◌, ℕ, zero, suc, replicate, refl}
use Rattle.summary.specs.Depth.{listed}
use Rattle.summary.proofs.schedule.Timetable.new.Goals as goal

blank : (n k : ℕ) → listed (replicate n 0) k ≡ 0
blank zero k = refl
blank (suc n) zero = refl
blank (suc n) (suc k) = blank n k

pub returns : goal.returns
returns c = blank 256
