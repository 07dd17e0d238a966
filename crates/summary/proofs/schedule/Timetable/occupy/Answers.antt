use Rattle.std.proofs.Common.{◌≡◌, ℕ, ◌<◌, cond, eqb, List, length, get_or, set, arith}
use Rattle.std.proofs.lemmas.List.{get_or-set_same, get_or-set_other, length-set}
use Rattle.std.proofs.lemmas.Bool.Decides.{nat_tests}
use Rattle.laws.specs.Rename.{about}
use Rattle.summary.proofs.schedule.Timetable.occupy.Goals as goal
use Rattle.summary.proofs.schedule.Timetable.occupy.Goals.{in-ControlledNot, in-Toffoli, in_default}

set_is : (xs : List ℕ) (i e k : ℕ) → i < length xs → get_or (set xs i e) k 0 ≡ cond (eqb k i) e (get_or xs k 0)
set_is xs i e k l = grind (arith, nat_tests, get_or-set_same xs i e 0 l, get_or-set_other xs i k e 0)

pub returns : goal.returns
unfolding about
returns c k =
    let old = c.args.self.now.free in
    let end = c.args.end in
    let last = set_is c.match-gate.self.free c.from-2.result end k in
    elim c.match-gate.branch [
      | in-ControlledNot w ↦ let one = set_is old w.from.result end k in grind (arith, nat_tests, length-set)
      | in-Toffoli w ↦
          let one = set_is old w.from-in-Toffoli.result end k in
          let two = set_is (set old w.from-in-Toffoli.result end) w.from-in-Toffoli-2.result end k in
          grind (arith, nat_tests, length-set)
      | in_default w ↦ grind (arith, nat_tests)
    ]
