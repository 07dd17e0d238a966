-- Why a text is refused, case by case.
use Rattle.std.proofs.Common.{◌≡◌, ℕ, ◌<◌, ◌≤◌, Bool, true, false, cond, not, ◌&&◌, List, [], ◌∷◌, length, get_or, take, find, slice_get, Some, None, Option, MatchOption, Ok, Err, sym, refl, ap, ◌∙◌}
use Rattle.std.proofs.lemmas.Bool.{le-leb, lt-leb, cond-true, cond-false}
use Rattle.circuit.specs.declared.refusal.Refusal.{Refusal}
use Rattle.message.specs.Where.{in_word}
use Rattle.text.specs.Spelling.{digit, class}
use Rattle.text.specs.declared.token.Token.{Token}
use Rattle.text.specs.declared.token.Token.TheVariants.{Other}
use Rattle.text.specs.Reading.{State, runs, begins}
use Rattle.diagnosis.specs.declared.fault.Fault.TheVariants.{TooManySigns, EndsTooSoon, Unexpected}
use Rattle.diagnosis.specs.Faults.{digits_from, too_large, fault_next, fault_after, fault_at}

module _ (limit : ℕ) (bs : List ℕ) (signs : List Token) (i : ℕ) where
  pub at_end : length signs ≤ i → EndsTooSoon ≡ fault_at limit bs signs i
  at_end h = sym (cond-true _ _ _ (le-leb (length signs) i h))

  pub too_long : i < length signs → 4096 ≤ i → TooManySigns ≡ fault_at limit bs signs i
  too_long h many = sym (cond-false _ _ _ (lt-leb (length signs) i h) ∙ cond-true _ _ _ (le-leb 4096 i many))

  module _ (inside : i < length signs) (few : i < 4096) where
    abbrev there : Token
    there = get_or signs i Other

    after_is : fault_at limit bs signs i ≡ fault_after limit (too_large bs i there) (runs 0 begins 0 (take i signs)) there
    after_is = cond-false _ _ _ (lt-leb (length signs) i inside) ∙ cond-false _ _ _ (lt-leb 4096 i few)

    pub next-is : (s : State) → runs 0 begins 0 (take i signs) ≡ Ok s → fault_next limit (too_large bs i there) s there ≡ fault_at limit bs signs i
    next-is s e = sym (after_is ∙ ap (λ r. fault_after limit (too_large bs i there) r there) e)

    pub before-is : (r : Refusal) → runs 0 begins 0 (take i signs) ≡ Err r → Unexpected ≡ fault_at limit bs signs i
    before-is r e = sym (after_is ∙ ap (λ q. fault_after limit (too_large bs i there) q there) e)

-- ---- a word of digits

abbrev pub starts : Option ℕ → Bool
starts None = false
starts (Some b) = digit b

abbrev pub ends : Option ℕ → Bool
ends None = true
ends (Some b) = not (in_word (class b))

pub started : (o : Option ℕ) (r : Bool) → MatchOption o (r ≡ false) (λ b. r ≡ digit b) → r ≡ starts o
started None r e = e
started (Some b) r e = e

pub ended : (o : Option ℕ) (r : Bool) → MatchOption o (r ≡ true) (λ b. r ≡ not (in_word (class b))) → r ≡ ends o
ended None r e = e
ended (Some b) r e = e

after-digits : (bs : List ℕ) → ends (find (λ b. not (digit b)) bs) ≡ digits_from true bs
unfolding digits_from
after-digits [] = refl
after-digits (b ∷ bs) =
    elim (digit b) as (λ t. ends (cond (not t) (Some b) (find (λ c. not (digit c)) bs)) ≡ cond t (digits_from true bs) (not (in_word (class b))))
    [ true ↦ after-digits bs | false ↦ refl ]

pub digits-are : (bs : List ℕ) → (starts (slice_get bs 0) && ends (find (λ b. not (digit b)) bs)) ≡ digits_from false bs
unfolding digits_from
digits-are [] = refl
digits-are (b ∷ bs) =
    elim (digit b) as (λ t. (t && ends (cond (not t) (Some b) (find (λ c. not (digit c)) bs))) ≡ cond t (digits_from true bs) false)
    [ true ↦ after-digits bs | false ↦ refl ]
