-- Lines and their numbers, one after another.
use Rattle.std.proofs.Common.{◌≡◌, ℕ, ◌+◌, ◌<◌, Bool, true, false, cond, ◌==◌, List, [], ◌∷◌, ◌++◌, length, get_or, drop, Some, Err, Option, Result, sym, refl, ap, ap₂, ◌∙◌, subst, append_assoc, append-nil, zero-add, arith}
use Rattle.std.proofs.lemmas.List.{at_drop_more}
use Rattle.std.proofs.lemmas.List.FromFn.{get_or-enumerate_from, length-enumerate_from}
use Rattle.std.specs.List.{enumerate_from, onto_first, slice_split}
use Rattle.text.specs.Cut.{cut}
use Rattle.text.specs.declared.token.Token.{Token}
use Rattle.job.specs.declared.error.PlanError.{PlanError}
use Rattle.job.specs.declared.error.PlanError.TheVariants.{Memory, Line, NoDevice, NoLayout}
use Rattle.job.specs.Builders.{Follows}
use Rattle.job.specs.Plan.{Known, Answers, and_then, numbers, does, says, lines, goes_on, follow, ended}

abbrev pub before : List ℕ → Option (List ℕ) → Option (List ℕ)
before ms o = and_then o (λ ns. Some (ms ++ ns))

-- by the first sign and the numbers behind it
pub says_by : (ts : List Token) (t : Token) (us : List Token) (s : Known) (o : Option (List ℕ)) → ts ≡ t ∷ us → o ≡ numbers us → says ts s ≡ and_then o (λ ns. does t ns s)
says_by ts t us s o e f = ap (λ xs. says xs s) e ∙ ap (λ p. and_then p (λ ns. does t ns s)) (sym f)

-- a line that is not taken
failed : (e : PlanError) (k : ℕ) (s n : Known) (l : List ℕ) (ls : List (List ℕ)) → Follows {T = Unit {0}} (Err e) k n (says (cut [] l) s) → Answers (Err e) (ended (follow k (l ∷ ls) s))
failed Memory k s n l ls h = tt
failed (Line j) k s n l ls h = ap (λ o. ended (goes_on o k (follow (k + 1) ls))) h.1 ∙ ap (λ m. Err (Line m)) (sym h.0)
failed NoDevice k s n l ls h = absurd h
failed NoLayout k s n l ls h = absurd h

-- a line so far goes before the first part
abbrev ahead : List ℕ → List (List ℕ) → List (List ℕ)
ahead l [] = l ∷ []
ahead l (p ∷ ps) = (l ++ p) ∷ ps

ahead-more : (l : List ℕ) (b : ℕ) (ps : List (List ℕ)) → ahead (l ++ b ∷ []) ps ≡ ahead l (onto_first b ps)
ahead-more l b [] = refl
ahead-more l b (p ∷ ps) = ap (λ x. x ∷ ps) (append_assoc l (b ∷ []) p)

ahead_onto : (b : ℕ) (ps : List (List ℕ)) → ahead [] (onto_first b ps) ≡ onto_first b ps
ahead_onto b [] = refl
ahead_onto b (p ∷ ps) = refl

abbrev pub parts : List ℕ → List (List ℕ)
parts bs = slice_split (λ b. b == 10) bs

ahead-none : (bs : List ℕ) → ahead [] (parts bs) ≡ parts bs
ahead-none [] = refl
ahead-none (b ∷ bs) =
    elim (b == 10) as (λ (t : Bool). ahead [] (cond t ([] ∷ parts bs) (onto_first b (parts bs))) ≡ cond t ([] ∷ parts bs) (onto_first b (parts bs)))
    [ true ↦ refl | false ↦ ahead_onto b (parts bs) ]

lines_ahead : (l bs : List ℕ) → lines l bs ≡ ahead l (parts bs)
lines_ahead l [] = ap (λ x. x ∷ []) (sym (append-nil l))
lines_ahead l (b ∷ bs) =
    elim (b == 10) as (λ (t : Bool). cond t (l ∷ lines [] bs) (lines (l ++ b ∷ []) bs) ≡ ahead l (cond t ([] ∷ parts bs) (onto_first b (parts bs)))) [
      | true ↦ ap₂ (λ (x : List ℕ) (xs : List (List ℕ)). x ∷ xs) (sym (append-nil l)) (lines_ahead [] bs ∙ ahead-none bs)
      | false ↦ lines_ahead (l ++ b ∷ []) bs ∙ ahead-more l b (parts bs)
    ]

-- the lines are what newlines part
pub lines-are : (bs : List ℕ) → lines [] bs ≡ parts bs
lines-are bs = lines_ahead [] bs ∙ ahead-none bs

-- line k of some lines, with its number
abbrev pub Turn : List (List ℕ) → ℕ → ℕ → List ℕ → Type 0
Turn ls k at l = (k < length (enumerate_from 0 ls)) × ((at, l) ≡ get_or (enumerate_from 0 ls) k (at, l))

module _ (ls : List (List ℕ)) (k at : ℕ) (l : List ℕ) (turn : Turn ls k at l) (s n : Known) where
  more : k < length ls
  more = omega (arith, turn.0, length-enumerate_from 0 ls)

  both : ◌≡◌ {A = ℕ × List ℕ} (at, l) (0 + k, get_or ls k l)
  both = turn.1 ∙ get_or-enumerate_from 0 ls k (at, l) more

  number : at ≡ k
  number = ap (λ (p : ℕ × List ℕ). p.0) both ∙ zero-add k

  from_here : follow k (drop k ls) s ≡ follow at (l ∷ drop (k + 1) ls) s
  from_here = at_drop_more (λ xs. follow k xs s) ls k l more ∙ ap₂ (λ (j : ℕ) (x : List ℕ). follow j (x ∷ drop (k + 1) ls) s) (sym number) (sym (ap (λ (p : ℕ × List ℕ). p.1) both))

  pub line-done : says (cut [] l) s ≡ Some n → follow (k + 1) (drop (k + 1) ls) n ≡ follow k (drop k ls) s
  line-done f = ap (λ j. follow (j + 1) (drop (k + 1) ls) n) (sym number) ∙ sym (from_here ∙ ap (λ o. goes_on o at (follow (at + 1) (drop (k + 1) ls))) f)

  pub line-fails : (e : PlanError) → Follows {T = Unit {0}} (Err e) at n (says (cut [] l) s) → Answers (Err e) (ended (follow k (drop k ls) s))
  line-fails e h = subst (λ (o : Result Known PlanError). Answers (Err e) (ended o)) (sym from_here) (failed e at s n l (drop (k + 1) ls) h)
