-- What carries out a circuit, with another put in for the circuit and another for the device's gates.
use Rattle.std.proofs.Common.{◌≡◌, ℕ, ◌+◌, List, sym, ap, ◌∙◌, arith}
use mathlib.Core.Path.{fun_ext, ◌≡⟨◌⟩◌, ◌∎}
use Rattle.amplitude.proofs.RingLaws.{turned_add, rooted-rooted, rooted_turned, rooted_injective}
use Rattle.amplitude.specs.Ring.{turned, rooted}
use Rattle.circuit.specs.Circuit.{Row, State, run, mixes, Same}
use Rattle.circuit.specs.declared.gate.Gate.{Gate}
use Rattle.device.specs.Coupling.{Graph}
use Rattle.device.specs.Layout.{laid}
use Rattle.laws.proofs.Same.{same_back}
use Rattle.compiler.specs.Onward.{CarriedOnward}
use Rattle.compiler.specs.Promise.{DoneBy}
use Rattle.amplitude.proofs.RingLaws.{rooted-nought, turned-nought}
use Rattle.compiler.proofs.Roots.{laid_through}

-- the device's gates es in the place of ds
by_same : (n : ℕ) (d : Graph) (p q : ℕ → ℕ) (cs ds es : List Gate) → Same es ds → DoneBy n d p q cs ds → DoneBy n d p q cs es
by_same n d p q cs ds es w m = record { turn = w.turn + m.turn; same = λ s b. rooted_injective (mixes ds) _ _ (at s b) }
  where
    at : (s : State) (b : Row) →
        rooted (mixes ds) (rooted (mixes cs) (run es (laid n d p s) b)) ≡ rooted (mixes ds) (turned (w.turn + m.turn) (rooted (mixes es) (laid n d q (run cs s) b)))
    at s b =
        rooted (mixes ds) (rooted (mixes cs) (run es (laid n d p s) b)) ≡⟨ rooted-rooted (mixes ds) (mixes cs) (run es (laid n d p s) b) ⟩
        rooted (mixes cs) (rooted (mixes ds) (run es (laid n d p s) b)) ≡⟨ ap (rooted (mixes cs)) (w.same (laid n d p s) b) ⟩
        rooted (mixes cs) (turned w.turn (rooted (mixes es) (run ds (laid n d p s) b))) ≡⟨ rooted_turned (mixes cs) w.turn (rooted (mixes es) (run ds (laid n d p s) b)) ⟩
        turned w.turn (rooted (mixes cs) (rooted (mixes es) (run ds (laid n d p s) b))) ≡⟨ ap (turned w.turn) (rooted-rooted (mixes cs) (mixes es) (run ds (laid n d p s) b)) ⟩
        turned w.turn (rooted (mixes es) (rooted (mixes cs) (run ds (laid n d p s) b))) ≡⟨ ap (λ x. turned w.turn (rooted (mixes es) x)) (m.same s b) ⟩
        turned w.turn (rooted (mixes es) (turned m.turn (rooted (mixes ds) (laid n d q (run cs s) b)))) ≡⟨ ap (turned w.turn) (rooted_turned (mixes es) m.turn (rooted (mixes ds) (laid n d q (run cs s) b))) ⟩
        turned w.turn (turned m.turn (rooted (mixes es) (rooted (mixes ds) (laid n d q (run cs s) b)))) ≡⟨ sym (turned_add w.turn m.turn (rooted (mixes es) (rooted (mixes ds) (laid n d q (run cs s) b)))) ⟩
        turned (w.turn + m.turn) (rooted (mixes es) (rooted (mixes ds) (laid n d q (run cs s) b))) ≡⟨ ap (turned (w.turn + m.turn)) (rooted-rooted (mixes es) (mixes ds) (laid n d q (run cs s) b)) ⟩
        turned (w.turn + m.turn) (rooted (mixes ds) (rooted (mixes es) (laid n d q (run cs s) b))) ≡⟨ sym (rooted_turned (mixes ds) (w.turn + m.turn) (rooted (mixes es) (laid n d q (run cs s) b))) ⟩
        rooted (mixes ds) (turned (w.turn + m.turn) (rooted (mixes es) (laid n d q (run cs s) b))) ∎

-- the circuit gs in the place of cs
of_same : (n : ℕ) (d : Graph) (p q : ℕ → ℕ) (gs cs es : List Gate) → Same cs gs → DoneBy n d p q cs es → DoneBy n d p q gs es
of_same n d p q gs cs es w m = record { turn = m.turn + w.turn; same = λ s b. rooted_injective (mixes cs) _ _ (at s b) }
  where
    laid_same : (s : State) (b : Row) → rooted (mixes gs) (laid n d q (run cs s) b) ≡ turned w.turn (rooted (mixes cs) (laid n d q (run gs s) b))
    laid_same s b =
        sym (laid_through n d q (rooted (mixes gs)) (rooted-nought (mixes gs)) (run cs s) b)
        ∙ ap (λ (r : State). laid n d q r b) (fun_ext (w.same s))
        ∙ laid_through n d q (λ a. turned w.turn (rooted (mixes cs) a)) (ap (turned w.turn) (rooted-nought (mixes cs)) ∙ turned-nought w.turn) (run gs s) b

    at : (s : State) (b : Row) →
        rooted (mixes cs) (rooted (mixes gs) (run es (laid n d p s) b)) ≡ rooted (mixes cs) (turned (m.turn + w.turn) (rooted (mixes es) (laid n d q (run gs s) b)))
    at s b =
        rooted (mixes cs) (rooted (mixes gs) (run es (laid n d p s) b)) ≡⟨ rooted-rooted (mixes cs) (mixes gs) (run es (laid n d p s) b) ⟩
        rooted (mixes gs) (rooted (mixes cs) (run es (laid n d p s) b)) ≡⟨ ap (rooted (mixes gs)) (m.same s b) ⟩
        rooted (mixes gs) (turned m.turn (rooted (mixes es) (laid n d q (run cs s) b))) ≡⟨ rooted_turned (mixes gs) m.turn (rooted (mixes es) (laid n d q (run cs s) b)) ⟩
        turned m.turn (rooted (mixes gs) (rooted (mixes es) (laid n d q (run cs s) b))) ≡⟨ ap (turned m.turn) (rooted-rooted (mixes gs) (mixes es) (laid n d q (run cs s) b)) ⟩
        turned m.turn (rooted (mixes es) (rooted (mixes gs) (laid n d q (run cs s) b))) ≡⟨ ap (λ x. turned m.turn (rooted (mixes es) x)) (laid_same s b) ⟩
        turned m.turn (rooted (mixes es) (turned w.turn (rooted (mixes cs) (laid n d q (run gs s) b)))) ≡⟨ ap (turned m.turn) (rooted_turned (mixes es) w.turn (rooted (mixes cs) (laid n d q (run gs s) b))) ⟩
        turned m.turn (turned w.turn (rooted (mixes es) (rooted (mixes cs) (laid n d q (run gs s) b)))) ≡⟨ sym (turned_add m.turn w.turn (rooted (mixes es) (rooted (mixes cs) (laid n d q (run gs s) b)))) ⟩
        turned (m.turn + w.turn) (rooted (mixes es) (rooted (mixes cs) (laid n d q (run gs s) b))) ≡⟨ ap (turned (m.turn + w.turn)) (rooted-rooted (mixes es) (mixes cs) (laid n d q (run gs s) b)) ⟩
        turned (m.turn + w.turn) (rooted (mixes cs) (rooted (mixes es) (laid n d q (run gs s) b))) ≡⟨ sym (rooted_turned (mixes cs) (m.turn + w.turn) (rooted (mixes es) (laid n d q (run gs s) b))) ⟩
        rooted (mixes cs) (turned (m.turn + w.turn) (rooted (mixes es) (laid n d q (run gs s) b))) ∎

pub carried_onward : CarriedOnward
carried_onward n d p q gs cs ds es u l m w can k = record {
  can = can;
  placed = m.placed;
  done = of_same n d p q gs cs es (same_back gs cs u) (by_same n d p q cs ds es (same_back ds es w) m.done);
  cheap = omega (arith, l, k, m.cheap);
}
