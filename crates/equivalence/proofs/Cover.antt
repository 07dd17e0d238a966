-- What goes over to sums, differences and turns is true of every state if it is of those that are 1 at one row and 0 elsewhere.
use Rattle.std.proofs.Common.{◌≡◌, ℕ, zero, suc, Bool, true, false, cond, not, List, ℤ, pos, negsuc, sym, refl, ap, ◌∙◌, subst, ap₂, arith}
use mathlib.Core.Path.{fun_ext}
use Rattle.std.proofs.lemmas.Int.{ints}
use Rattle.amplitude.proofs.RingLaws.{parts, plus_comm, plus_nought, minus_self, turned_plus, turned-minus, turned-turned, rooted_plus, rooted-minus, rooted_turned, turned-nought}
use Rattle.amplitude.specs.Ring.{nought, unit, plus, minus, turned, rooted}
use Rattle.amplitude.specs.declared.Amplitude.{Amplitude}
use Rattle.circuit.proofs.Linear.{run-plus, run-minus, run-turned}
use Rattle.circuit.specs.Circuit.{Row, State, run, mixes, AllFit}
use Rattle.circuit.specs.declared.gate.Gate.{Gate}
use Rattle.equivalence.proofs.Local.{Local, set_bit, set_own, set_agree}
use Rattle.laws.proofs.Rename.{put, put-below, run_there, all_renamed_id}

-- what goes over to sums, differences and turns
pub record Closed (Q : State → Type 0) : Type 0 where
  pub on-plus : (s t : State) → Q s → Q t → Q (λ b. plus (s b) (t b))
  pub on-minus : (s t : State) → Q s → Q t → Q (λ b. minus (s b) (t b))
  pub on-turned : (m : ℕ) (s : State) → Q s → Q (λ b. turned m (s b))

-- every amplitude is made of the unit by these
unfoldable whole : ℤ → Amplitude
whole z = record { one = z; w = pos 0; w2 = pos 0; w3 = pos 0 }

more-whole : (n : ℕ) → plus unit (whole (pos n)) ≡ whole (pos (suc n))
unfolding whole
more-whole n = parts (omega (arith, ints))

minus-whole : (n : ℕ) → minus nought (whole (pos (suc n))) ≡ whole (negsuc n)
unfolding whole
minus-whole n = parts (omega (arith, ints))

made : (a : Amplitude) → plus (whole a.one) (plus (turned 1 (whole a.w)) (plus (turned 2 (whole a.w2)) (turned 3 (whole a.w3)))) ≡ a
unfolding whole
made a = parts (omega (arith, ints))

module _ (Q : State → Type 0) (C : Closed Q) (h : Q (λ b. unit)) where
  at-nought : Q (λ b. nought)
  at-nought = subst (λ x. Q (λ b. x)) (minus_self unit) (C.on-minus (λ b. unit) (λ b. unit) h h)

  at-pos : (n : ℕ) → Q (λ b. whole (pos n))
  at-pos zero = unfold whole in at-nought
  at-pos (suc n) = subst (λ x. Q (λ b. x)) (more-whole n) (C.on-plus (λ b. unit) (λ b. whole (pos n)) h (at-pos n))

  at-whole : (z : ℤ) → Q (λ b. whole z)
  at-whole (pos n) = at-pos n
  at-whole (negsuc n) = subst (λ x. Q (λ b. x)) (minus-whole n) (C.on-minus (λ b. nought) (λ b. whole (pos (suc n))) at-nought (at-pos (suc n)))

  span : (a : Amplitude) → Q (λ b. a)
  span a =
      subst (λ x. Q (λ b. x)) (made a)
      (C.on-plus _ _ (at-whole a.one)
      (C.on-plus _ _ (C.on-turned 1 _ (at-whole a.w))
      (C.on-plus _ _ (C.on-turned 2 _ (at-whole a.w2)) (C.on-turned 3 _ (at-whole a.w3)))))

-- each state that is one at one row of n and nought elsewhere
abbrev pub Each : ℕ → (State → Type 0) → Type 0
Each zero Q = Q (λ b. unit)
Each (suc k) Q = Each k (λ u. Q (λ b. cond (b k) (u b) nought)) × Each k (λ u. Q (λ b. cond (not (b k)) (u b) nought))

nought-plus : plus nought nought ≡ nought
nought-plus = plus_nought nought

pub masked_plus : (t : Bool) (x y : Amplitude) → plus (cond t x nought) (cond t y nought) ≡ cond t (plus x y) nought
masked_plus true x y = refl
masked_plus false x y = nought-plus

pub masked_minus : (t : Bool) (x y : Amplitude) → minus (cond t x nought) (cond t y nought) ≡ cond t (minus x y) nought
masked_minus true x y = refl
masked_minus false x y = minus_self nought

pub masked_turned : (t : Bool) (m : ℕ) (x : Amplitude) → turned m (cond t x nought) ≡ cond t (turned m x) nought
masked_turned true m x = refl
masked_turned false m x = turned-nought m

closed_masked : (Q : State → Type 0) → Closed Q → (p : Row → Bool) → Closed (λ u. Q (λ b. cond (p b) (u b) nought))
closed_masked Q C p = record {
  on-plus = λ s t hs ht. subst Q (fun_ext (λ b. masked_plus (p b) (s b) (t b))) (C.on-plus (λ b. cond (p b) (s b) nought) (λ b. cond (p b) (t b) nought) hs ht);
  on-minus = λ s t hs ht. subst Q (fun_ext (λ b. masked_minus (p b) (s b) (t b))) (C.on-minus (λ b. cond (p b) (s b) nought) (λ b. cond (p b) (t b) nought) hs ht);
  on-turned = λ m s hs. subst Q (fun_ext (λ b. masked_turned (p b) m (s b))) (C.on-turned m (λ b. cond (p b) (s b) nought) hs);
}

split : (k : ℕ) (s : State) (b : Row) → plus (cond (b k) (s (set_bit k true b)) nought) (cond (not (b k)) (s (set_bit k false b)) nought) ≡ s b
split k s b = at (b k) refl
  where
    at : (t : Bool) → b k ≡ t → plus (cond t (s (set_bit k true b)) nought) (cond (not t) (s (set_bit k false b)) nought) ≡ s b
    at true e = plus_nought (s (set_bit k true b)) ∙ ap s (set_own k b true e)
    at false e = plus_comm nought (s (set_bit k false b)) ∙ plus_nought (s (set_bit k false b)) ∙ ap s (set_own k b false e)

pub cover : (n : ℕ) (Q : State → Type 0) → Closed Q → Each n Q → (s : State) → Local n s → Q s
cover zero Q C h s l = subst Q (fun_ext (λ b. l (λ _. false) b (λ j k. absurd (omega arith)))) (span Q C h (s (λ _. false)))
cover (suc n) Q C h s l =
    subst Q (fun_ext (split n s))
    (C.on-plus (λ b. cond (b n) (s (set_bit n true b)) nought) (λ b. cond (not (b n)) (s (set_bit n false b)) nought)
    (cover n (λ u. Q (λ b. cond (b n) (u b) nought)) (closed_masked Q C (λ b. b n)) h.0 (λ b. s (set_bit n true b)) (λ b b' e. l _ _ (set_agree n true b b' e)))
    (cover n (λ u. Q (λ b. cond (not (b n)) (u b) nought)) (closed_masked Q C (λ b. not (b n))) h.1 (λ b. s (set_bit n false b)) (λ b b' e. l _ _ (set_agree n false b b' e))))

-- the same but for a turn, at a state
abbrev pub At : List Gate → List Gate → ℕ → State → Type 0
At c d t s = (b : Row) → rooted (mixes d) (run c s b) ≡ turned t (rooted (mixes c) (run d s b))

pub at-closed : (c d : List Gate) (t : ℕ) → Closed (At c d t)
at-closed c d t = record {
  on-plus = λ s s' h h' b. ap (λ (u : State). rooted (mixes d) (u b)) (run-plus c s s') ∙ rooted_plus (mixes d) (run c s b) (run c s' b) ∙ ap₂ plus (h b) (h' b)
      ∙ sym (ap (λ (u : State). turned t (rooted (mixes c) (u b))) (run-plus d s s') ∙ ap (turned t) (rooted_plus (mixes c) (run d s b) (run d s' b)) ∙ turned_plus t (rooted (mixes c) (run d s b)) (rooted (mixes c) (run d s' b)));
  on-minus = λ s s' h h' b. ap (λ (u : State). rooted (mixes d) (u b)) (run-minus c s s') ∙ rooted-minus (mixes d) (run c s b) (run c s' b) ∙ ap₂ minus (h b) (h' b)
      ∙ sym (ap (λ (u : State). turned t (rooted (mixes c) (u b))) (run-minus d s s') ∙ ap (turned t) (rooted-minus (mixes c) (run d s b) (run d s' b)) ∙ turned-minus t (rooted (mixes c) (run d s b)) (rooted (mixes c) (run d s' b)));
  on-turned = λ m s h b. ap (rooted (mixes d)) (run-turned m c s b) ∙ rooted_turned (mixes d) m (run c s b) ∙ ap (turned m) (h b)
      ∙ sym (ap (λ x. turned t (rooted (mixes c) x)) (run-turned m d s b) ∙ ap (turned t) (rooted_turned (mixes c) m (run d s b)) ∙ turned-turned t m (rooted (mixes c) (run d s b)));
}

-- an arbitrary state, at a row, is a local one
pub at_any : (n : ℕ) (c d : List Gate) → AllFit n c → AllFit n d → (t : ℕ) → ((s : State) → Local n s → At c d t s) → (s : State) → At c d t s
at_any n c d fc fd t h s b =
    ap (rooted (mixes d)) (there c fc) ∙ h (λ r. s (put (λ k. k) n r b)) (λ r r' e. ap s (fun_ext (put-below (λ k. k) n r r' b e))) b ∙ sym (ap (λ x. turned t (rooted (mixes c) x)) (there d fd))
  where
    there : (gs : List Gate) → AllFit n gs → run gs s b ≡ run gs (λ r. s (put (λ k. k) n r b)) b
    there gs f = ap (λ (xs : List Gate). run xs s b) (sym (all_renamed_id gs)) ∙ run_there (λ k. k) n (λ k l _ _ e. e) gs f s b
