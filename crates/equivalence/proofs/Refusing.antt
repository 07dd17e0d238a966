-- What it says that no refusal applies.
use Rattle.std.proofs.Common.{◌≡◌, ℕ, ◌≤◌, List, length, None, arith}
use Rattle.std.proofs.lemmas.Bool.Decides.{nat_tests}
use Rattle.circuit.specs.declared.gate.Gate.{Gate}
use Rattle.circuit.proofs.Codes.{fit_from_misfit, mixes_count}
use Rattle.std.proofs.lemmas.List.Sums.{count_by-le-length}
use Rattle.circuit.specs.Circuit.{mixes}
use Rattle.equivalence.specs.Compare.{refusal}
use Rattle.equivalence.specs.Scan.{Able}

pub mixes_length : (gs : List Gate) → mixes gs ≤ length gs
mixes_length gs = rw mixes_count (count_by-le-length _ gs)

pub unrefused : (n : ℕ) (c d : List Gate) → refusal n c d ≡ None → Able n c d
unrefused n c d e = record {
  some = grind (arith, nat_tests);
  few = grind (arith, nat_tests);
  fit_c = fit_from_misfit n 0 c (grind (arith, nat_tests));
  fit_d = fit_from_misfit n 0 d (grind (arith, nat_tests));
  short = grind (arith, nat_tests);
}
