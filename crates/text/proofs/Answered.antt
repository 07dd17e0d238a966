-- A reader that answers as the reference does answers by what texts say.
use Rattle.std.proofs.Common.{◌≡◌, ℕ, List, [], Ok, Err, vec_items, Result, sym, ap, ◌∙◌, subst, inl, inr}
use Rattle.circuit.specs.declared.failure.Failure.{Failure}
use Rattle.circuit.specs.declared.failure.Failure.TheVariants.{Memory, Refused}
use Rattle.text.specs.declared.program.Circuit.{Circuit}
use Rattle.text.specs.declared.token.Token.{Token}
use Rattle.text.specs.Cut.{cut, Front}
use Rattle.text.specs.Program.{Answers, AnswersText}
use Rattle.text.specs.Reading.{State, reading, Runs, Settles}
use Rattle.text.specs.Spelling.{Spells}
use Rattle.text.proofs.Spelt.{cut-is}
use Rattle.text.proofs.Steps.{reading_front}
use Rattle.text.proofs.Faults.{whole, whole_says, whole-over, unread}

module _ (limit : ℕ) (bs : List ℕ) (ts : List Token) (front : Front 4096 (cut [] bs) ts) where
  all_of : (us : List Token) → Spells bs us → reading limit us ≡ reading limit ts
  all_of us s = ap (reading limit) (cut-is bs us s) ∙ sym (reading_front limit (cut [] bs) ts front)

  pub answers_error : (e : Failure) → Runs (Err e) (reading limit ts) → AnswersText limit bs (Err e)
  answers_error Memory h us s = tt
  answers_error (Refused r) h us s = let u = unread limit us r (all_of us s ∙ h) in subst (λ q. Answers limit us (Err (Refused q))) (sym u.1) (inl u.2)

  pub answers_settled : (s : State) → reading limit ts ≡ Ok s → (r : Result Circuit Failure) → Settles s r → AnswersText limit bs r
  answers_settled s e (Ok c) h us sp =
      let y = whole_says limit us s (vec_items c.gates) (whole limit us s (all_of us sp ∙ e)) h.0 in
      (y.0, h.1 ∙ sym y.1)
  answers_settled s e (Err Memory) h us sp = tt
  answers_settled s e (Err (Refused r)) h us sp =
      subst (λ q. Answers limit us (Err (Refused q))) (sym h.1) (inr (whole-over limit us s (whole limit us s (all_of us sp ∙ e)) h.0))
