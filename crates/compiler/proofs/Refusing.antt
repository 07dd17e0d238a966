-- What is known of a circuit that passes the checks.
use Rattle.std.proofs.Common.{◌≡◌, ℕ, ◌*◌, ◌≤◌, ◌&&◌, eqb, ltb, leb, List, [], length, Some, None, Option, Result, sym, ◌∙◌, arith}
use Rattle.std.proofs.lemmas.Bool.{eqb-true, leb-true, le-leb}
use Rattle.circuit.proofs.Codes.{fit_from_misfit, misfit_from-fit}
use Rattle.circuit.proofs.Unrefused.{or-none, unless-none, at_none}
use Rattle.circuit.specs.Circuit.{AllFit}
use Rattle.circuit.specs.Refusals.{or_else, unless, at_place, misfit_from}
use Rattle.circuit.specs.declared.gate.Gate.{Gate}
use Rattle.circuit.specs.declared.refusal.Refusal.{Refusal}
use Rattle.circuit.specs.declared.refusal.Refusal.TheVariants.{Qubits, Length, Number, Layout}
use Rattle.circuit.specs.declared.refusal.Refusal.TheVariants as refusal
use Rattle.device.specs.Checks.{beyond_from, misplaced_from}
use Rattle.compiler.specs.Refuses.{sizes_refused, circuit_refused, Outcome, Compiles}

pub record Passed (n size : ℕ) (place : List ℕ) (gs : List Gate) : Type 0 where
  pub long : length place ≡ n
  pub few : length gs ≤ 256
  pub fit : AllFit n gs
  pub placed : misplaced_from size [] 0 place ≡ None

pub passed : (n size : ℕ) (joined place : List ℕ) (gs : List Gate) (out : ℕ) → circuit_refused n size joined place gs out ≡ None → Passed n size place gs
passed n size joined place gs out e =
    let a = or-none (sizes_refused n size (length joined) (length place) (leb (length gs) 256) out) _ e in
    let first = or-none (unless (ltb 0 n) (Qubits 0)) _ a.0 in
    let second = or-none (unless (leb n size && leb size 16) (Qubits 1)) _ first.1 in
    let third = or-none (unless (eqb (length joined) (size * size)) (Length 0)) _ second.1 in
    let fourth = or-none (unless (eqb (length place) n) (Length 1)) _ third.1 in
    let fifth = or-none (unless (leb (length gs) 256) (Length 2)) (unless (eqb out n) (Length 4)) fourth.1 in
    let b = or-none (at_place Number (beyond_from 2 0 joined)) _ a.1 in
    let g = or-none (at_place refusal.Gate (misfit_from n 0 gs)) (at_place Layout (misplaced_from size [] 0 place)) b.1 in
    record {
      long = eqb-true (length place) n (unless-none (eqb (length place) n) (Length 1) fourth.0);
      few = leb-true (length gs) 256 (unless-none (leb (length gs) 256) (Length 2) fifth.0);
      fit = fit_from_misfit n 0 gs (at_none refusal.Gate (misfit_from n 0 gs) g.0);
      placed = at_none Layout (misplaced_from size [] 0 place) g.1;
    }

-- a circuit that is not longer and fits passes where another passed
pub still-passed : (n size : ℕ) (joined place : List ℕ) (gs cs : List Gate) (out : ℕ) → circuit_refused n size joined place gs out ≡ None → length cs ≤ length gs → AllFit n cs → circuit_refused n size joined place cs out ≡ None
still-passed n size joined place gs cs out e brief fit =
    let p = passed n size joined place gs out e in
    let few : leb (length cs) 256 ≡ leb (length gs) 256 = le-leb (length cs) 256 (omega (arith, p.few)) ∙ sym (le-leb (length gs) 256 p.few) in
    let fits : misfit_from n 0 cs ≡ misfit_from n 0 gs = misfit_from-fit n 0 cs fit ∙ sym (misfit_from-fit n 0 gs p.fit) in
    ◌∙◌ {b = circuit_refused n size joined place gs out}
    (λ i. or_else (sizes_refused n size (length joined) (length place) (few i) out) (or_else (at_place Number (beyond_from 2 0 joined)) (or_else (at_place refusal.Gate (fits i)) (at_place Layout (misplaced_from size [] 0 place)))))
    e

pub not_refused : (o : Option Refusal) (n size : ℕ) (joined place : List ℕ) (gs : List Gate) (room room1 out out1 : List ℕ) (r : Result ℕ Refusal)
    → o ≡ None → Outcome n size joined place gs room room1 out out1 r → Compiles o n size joined place gs room room1 out out1 r
not_refused (Some f) n size joined place gs room room1 out out1 r e h = absurd (let z : ◌≡◌ {A = ℕ} 0 1 = cc in omega arith)
not_refused None n size joined place gs room room1 out out1 r e h = h
