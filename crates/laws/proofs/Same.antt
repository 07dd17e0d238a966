-- To be the same but for a turn of the whole: reflexive, symmetric, transitive, and kept in the midst of others.
use Rattle.std.proofs.Common.{◌≡◌, ◌+◌, ◌*◌, List, ◌++◌, sym, refl, ap, ◌∙◌, add_comm}
use mathlib.Core.Path.{fun_ext, ◌≡⟨◌⟩◌, ◌∎}
use Rattle.amplitude.proofs.RingLaws.{turned_add, turned_back, rooted_add, rooted-rooted, rooted_turned, rooted_injective}
use Rattle.amplitude.specs.Ring.{turned, rooted}
use Rattle.circuit.proofs.Counts.{mixes-append}
use Rattle.circuit.proofs.Linear.{turned_linear, rooted_linear, run_linear, run-append}
use Rattle.circuit.specs.Circuit.{Row, State, run, mixes, Same}
use Rattle.circuit.specs.declared.gate.Gate.{Gate}
use Rattle.laws.specs.Laws.{SameSelf, SameBack, SameOn, InTheMidst}

pub same_self : SameSelf
same_self c = record { turn = 0; same = λ s b. refl }

pub same_back : SameBack
same_back c d e = record { turn = 7 * e.turn; same = λ s b. sym (ap (turned (7 * e.turn)) (e.same s b) ∙ turned_back e.turn (rooted (mixes c) (run d s b))) }

pub same-on : SameOn
same-on c d e p q = record { turn = p.turn + q.turn; same = λ s b. rooted_injective (mixes d) _ _ (at s b) }
  where
    at : (s : State) (b : Row) → rooted (mixes d) (rooted (mixes e) (run c s b)) ≡ rooted (mixes d) (turned (p.turn + q.turn) (rooted (mixes c) (run e s b)))
    at s b =
        rooted (mixes d) (rooted (mixes e) (run c s b)) ≡⟨ rooted-rooted (mixes d) (mixes e) (run c s b) ⟩
        rooted (mixes e) (rooted (mixes d) (run c s b)) ≡⟨ ap (rooted (mixes e)) (p.same s b) ⟩
        rooted (mixes e) (turned p.turn (rooted (mixes c) (run d s b))) ≡⟨ rooted_turned (mixes e) p.turn (rooted (mixes c) (run d s b)) ⟩
        turned p.turn (rooted (mixes e) (rooted (mixes c) (run d s b))) ≡⟨ ap (turned p.turn) (rooted-rooted (mixes e) (mixes c) (run d s b)) ⟩
        turned p.turn (rooted (mixes c) (rooted (mixes e) (run d s b))) ≡⟨ ap (λ x. turned p.turn (rooted (mixes c) x)) (q.same s b) ⟩
        turned p.turn (rooted (mixes c) (turned q.turn (rooted (mixes d) (run e s b)))) ≡⟨ ap (turned p.turn) (rooted_turned (mixes c) q.turn (rooted (mixes d) (run e s b))) ⟩
        turned p.turn (turned q.turn (rooted (mixes c) (rooted (mixes d) (run e s b)))) ≡⟨ sym (turned_add p.turn q.turn (rooted (mixes c) (rooted (mixes d) (run e s b)))) ⟩
        turned (p.turn + q.turn) (rooted (mixes c) (rooted (mixes d) (run e s b))) ≡⟨ ap (turned (p.turn + q.turn)) (rooted-rooted (mixes c) (mixes d) (run e s b)) ⟩
        turned (p.turn + q.turn) (rooted (mixes d) (rooted (mixes c) (run e s b))) ≡⟨ sym (rooted_turned (mixes d) (p.turn + q.turn) (rooted (mixes c) (run e s b))) ⟩
        rooted (mixes d) (turned (p.turn + q.turn) (rooted (mixes c) (run e s b))) ∎

same-before : (a c d : List Gate) → Same c d → Same (a ++ c) (a ++ d)
same-before a c d e = record { turn = e.turn; same = at }
  where
    at : (s : State) (b : Row) → rooted (mixes (a ++ d)) (run (a ++ c) s b) ≡ turned e.turn (rooted (mixes (a ++ c)) (run (a ++ d) s b))
    at s b =
        rw (mixes-append a d, mixes-append a c, run-append a c s, run-append a d s)
        (rooted_add (mixes a) (mixes d) (run c (run a s) b)
        ∙ ap (rooted (mixes a)) (e.same (run a s) b)
        ∙ rooted_turned (mixes a) e.turn (rooted (mixes c) (run d (run a s) b))
        ∙ ap (turned e.turn) (sym (rooted_add (mixes a) (mixes c) (run d (run a s) b))))

same_after : (c d e : List Gate) → Same c d → Same (c ++ e) (d ++ e)
same_after c d e p = record { turn = p.turn; same = at }
  where
    after : (s : State) (b : Row) → rooted (mixes d) (run e (run c s) b) ≡ turned p.turn (rooted (mixes c) (run e (run d s) b))
    after s b =
        ap (λ (u : State). u b)
        (sym (run_linear (rooted (mixes d)) (rooted_linear (mixes d)) e (run c s))
        ∙ ap (run e) (fun_ext (p.same s))
        ∙ run_linear (turned p.turn) (turned_linear p.turn) e (λ b. rooted (mixes c) (run d s b))
        ∙ ap {B = State} (λ (u : State) b. turned p.turn (u b)) (run_linear (rooted (mixes c)) (rooted_linear (mixes c)) e (run d s)))

    at : (s : State) (b : Row) → rooted (mixes (d ++ e)) (run (c ++ e) s b) ≡ turned p.turn (rooted (mixes (c ++ e)) (run (d ++ e) s b))
    at s b =
        rw (mixes-append d e, mixes-append c e, run-append c e s, run-append d e s, add_comm (mixes d) (mixes e), add_comm (mixes c) (mixes e))
        (rooted_add (mixes e) (mixes d) (run e (run c s) b)
        ∙ ap (rooted (mixes e)) (after s b)
        ∙ rooted_turned (mixes e) p.turn (rooted (mixes c) (run e (run d s) b))
        ∙ ap (turned p.turn) (sym (rooted_add (mixes e) (mixes c) (run e (run d s) b))))

pub in_the_midst : InTheMidst
in_the_midst a c d e p = same-before a (c ++ e) (d ++ e) (same_after c d e p)
