-- A circuit that is not refused can be played.
use Rattle.std.proofs.Common.{◌≡◌, ℕ, ◌≤◌, Bool, true, ◌&&◌, eqb, leb, List, length, None, Option, arith}
use Rattle.std.proofs.lemmas.Bool.Decides.{nat_tests}
use Rattle.circuit.specs.declared.gate.Gate.{Gate}
use Rattle.circuit.specs.declared.refusal.Refusal.{Refusal}
use Rattle.circuit.specs.declared.refusal.Refusal.TheVariants.{Qubits, Length, Mixes}
use Rattle.circuit.specs.declared.refusal.Refusal.TheVariants as variant
use Rattle.circuit.specs.Circuit.{mixes, AllFit}
use Rattle.circuit.specs.Refusals.{or_else, unless, at_place, misfit_from}
use Rattle.circuit.proofs.Codes.{fit_from_misfit}
use Rattle.circuit.proofs.Unrefused.{or-none, unless-none, at_none}
use Rattle.simulation.specs.Refuses.{refusal}

pub record Playable (n : ℕ) (ds : List Bool) (gs : List Gate) : Type 0 where
  pub few : n ≤ 8
  pub long : length ds ≡ n
  pub fit : AllFit n gs
  pub short : mixes gs ≤ 60

pub playable : (n : ℕ) (ds : List Bool) (gs : List Gate) → refusal n ds gs ≡ None → Playable n ds gs
playable n ds gs e = record {
  few = grind (arith, nat_tests, in_range);
  long = grind (arith, nat_tests, as_long);
  fit = fit_from_misfit n 0 gs (at_none variant.Gate (misfit_from n 0 gs) of_gates.0);
  short = grind (arith, nat_tests, few-mixes);
}
  where
    too_many : Option Refusal
    too_many = unless (leb (mixes gs) 60) (Mixes (mixes gs))

    from_gates : Option Refusal
    from_gates = or_else (at_place variant.Gate (misfit_from n 0 gs)) too_many

    all : (unless (leb 1 n && leb n 8) (Qubits 0) ≡ None) × (or_else (unless (eqb (length ds) n) (Length 0)) from_gates ≡ None)
    all = or-none (unless (leb 1 n && leb n 8) (Qubits 0)) (or_else (unless (eqb (length ds) n) (Length 0)) from_gates) e

    of_row : (unless (eqb (length ds) n) (Length 0) ≡ None) × (from_gates ≡ None)
    of_row = or-none (unless (eqb (length ds) n) (Length 0)) from_gates all.1

    of_gates : (at_place variant.Gate (misfit_from n 0 gs) ≡ None) × (too_many ≡ None)
    of_gates = or-none (at_place variant.Gate (misfit_from n 0 gs)) too_many of_row.1

    in_range : (leb 1 n && leb n 8) ≡ true
    in_range = unless-none (leb 1 n && leb n 8) (Qubits 0) all.0

    as_long : eqb (length ds) n ≡ true
    as_long = unless-none (eqb (length ds) n) (Length 0) of_row.0

    few-mixes : leb (mixes gs) 60 ≡ true
    few-mixes = unless-none (leb (mixes gs) 60) (Mixes (mixes gs)) of_gates.1
