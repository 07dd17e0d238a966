-- There is one right answer.
use Rattle.std.proofs.Common.{◌≡◌, ℕ, ◌⊎◌, List, Some, None, Option, Ok, Err, Result, sym, refl, ap, ◌∙◌, ap₂, inl, inr, arith}
use Rattle.circuit.specs.declared.gate.Gate.{Gate}
use Rattle.circuit.specs.declared.refusal.Refusal.{Refusal}
use Rattle.circuit.specs.Code.{gates_in}
use Rattle.circuit.specs.Circuit.{AllFit}
use Rattle.equivalence.specs.declared.comparison.Comparison.{Comparison}
use Rattle.equivalence.specs.declared.comparison.Comparison.TheVariants.{Alike, Different}
use Rattle.equivalence.specs.Compare.{refusal, refusal_in_numbers, Earlier, FirstPair, Answers, Compares, OneAnswer, OneAnswerInNumbers}
use Rattle.equivalence.proofs.Refusing.{unrefused}
use Rattle.equivalence.proofs.Turns.{one-turn}

-- pairs go in one order
earlier_on : (a f a' f' a'' f'' : ℕ) → Earlier a f a' f' → Earlier a' f' a'' f'' → Earlier a f a'' f''
earlier_on a f a' f' a'' f'' h h' = grind arith

in_order : (a f a' f' : ℕ) → Earlier a f a' f' ⊎ (Earlier a' f' a f ⊎ ((a ≡ a') × (f ≡ f')))
in_order a f a' f' = grind arith

module _ (n : ℕ) (c d : List Gate) where
  not_earlier : (a f a' f' : ℕ) → FirstPair n c d a f → FirstPair n c d a' f' → Earlier a f a' f' → ⊥
  not_earlier a f a' f' p q e =
      p.here q.before.0 (λ x y hx hy l. q.before.2 x y hx hy (earlier_on x y a f a' f' l e)) (q.before.2 a f p.at_fits p.from_fits e)

  one_pair : (a f a' f' : ℕ) → FirstPair n c d a f → FirstPair n c d a' f' → Different a f ≡ Different a' f'
  one_pair a f a' f' p q = go (in_order a f a' f')
    where
      go : Earlier a f a' f' ⊎ (Earlier a' f' a f ⊎ ((a ≡ a') × (f ≡ f'))) → Different a f ≡ Different a' f'
      go (inl e) = absurd (not_earlier a f a' f' p q e)
      go (inr (inl e)) = absurd (not_earlier a' f' a f q p e)
      go (inr (inr e)) = ap₂ Different e.0 e.1

  one_of : AllFit n d → (r r' : Comparison) → Answers n c d r → Answers n c d r' → r ≡ r'
  one_of fit (Alike t) (Alike u) p q = let l = p.0 in let l' = q.0 in let e = one-turn n c d t u fit p.1 q.1 in let f : t ≡ u = omega arith in ap Alike f
  one_of fit (Alike t) (Different a f) p q = absurd (q.apart (record { turn = t; same = p.1 }))
  one_of fit (Different a f) (Alike t) p q = absurd (p.apart (record { turn = t; same = q.1 }))
  one_of fit (Different a f) (Different a' f') p q = one_pair a f a' f' p q

  one : (o : Option Refusal) → (o ≡ None → AllFit n d) → (r r' : Result Comparison Refusal) → Compares o n c d r → Compares o n c d r' → r ≡ r'
  one (Some f) fit r r' p q = p ∙ sym q
  one None fit (Ok r) (Ok r') p q = ap Ok (one_of (fit refl) r r' p q)
  one None fit (Ok r) (Err f) p q = absurd q
  one None fit (Err f) r' p q = absurd p

pub one_answer : OneAnswer
one_answer n c d r r' p q = one n c d (refusal n c d) (λ e. (unrefused n c d e).fit_d) r r' p q

pub one_answer_in_numbers : OneAnswerInNumbers
one_answer_in_numbers n c d r r' p q =
    one n (gates_in c) (gates_in d) (refusal_in_numbers n c d)
    (λ e. (unrefused n (gates_in c) (gates_in d) (grind arith)).fit_d) r r' p q
