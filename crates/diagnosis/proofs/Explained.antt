-- The fault that is found is that of the text.
use Rattle.std.proofs.Common.{◌≡◌, ℕ, zero, suc, ◌+◌, ◌<◌, ◌≤◌, Bool, true, false, cond, List, [], ◌∷◌, ◌++◌, length, get_or, take, drop, Ok, Err, Result, sym, refl, ap, ◌∙◌, subst, arith, length-append, take-append-drop}
use mathlib.Core.Bool.{false≢true}
use Rattle.std.proofs.lemmas.List.{length-take-le, take_more}
use Rattle.std.proofs.lemmas.Bool.{cond-true, cond-false, and_parts}
use Rattle.circuit.specs.declared.gate.Gate.{Gate}
use Rattle.circuit.specs.declared.gate.Gate.TheVariants.{Phase, Hadamard, Not, ControlledNot, Toffoli}
use Rattle.circuit.specs.declared.refusal.Refusal.{Refusal}
use Rattle.text.specs.declared.token.Token.{Token}
use Rattle.text.specs.declared.token.Token.TheVariants.{Turn, Of, Mix, Flip, If, Device, Joined, Lay, Undo, Times, Block, Call, On, Number, Open, Close, Semicolon, Other}
use Rattle.text.specs.Accept.{accepts}
use Rattle.text.specs.Move.{is}
use Rattle.text.specs.Program.{Program, nothing, gate, next, times, undo, call, Source, written, blocks_written, text_of, checks_of, AllTrue, Begins, Unread, Single, Over}
use Rattle.text.specs.Reading.{State, runs, begins}
use Rattle.text.specs.Spelling.{Spells}
use Rattle.text.proofs.Said.{over-source}
use Rattle.text.proofs.Spelt.{cut-is}
use Rattle.diagnosis.specs.declared.fault.Fault.{Fault}
use Rattle.diagnosis.specs.declared.fault.Fault.TheVariants.{TooManyGates, NumberTooLarge}
use Rattle.diagnosis.specs.Faults.{digits_from, too_large, fault_of, fault_at}
use Rattle.diagnosis.specs.Meaning.{Wrong, Explains, Diagnosed}
use Rattle.diagnosis.proofs.Causes.{at_end, too_long, next-is}
use Rattle.diagnosis.proofs.Next.{not_false, next-begins, next-stops, begins_less, refused_begins}
use Rattle.diagnosis.proofs.Wrongs.{wrong_of}

not_true : (b : Bool) → (b ≡ true → ⊥) → b ≡ false
not_true true h = absurd (h refl)
not_true false h = refl

-- ---- a reader has read what some text begins with

reads : (us : List Token) (r : Result State Refusal) → runs 0 begins 0 us ≡ r → Begins us → (s : State) × (runs 0 begins 0 us ≡ Ok s)
reads us (Ok s) e b = (s, e)
reads us (Err r) e b = absurd (refused_begins us r e b)

-- ---- a text that says too many gates

spelt-some : (g : Gate) → 0 < length (written (gate g))
spelt-some (Phase m q) = omega arith
spelt-some (Hadamard q) = omega arith
spelt-some (Not q) = omega arith
spelt-some (ControlledNot c q) = omega arith
spelt-some (Toffoli c d q) = omega arith

single-some : (p : Program) → Single p → 0 < length (written p)
single-some nothing h = absurd h
single-some (gate g) h = spelt-some g
single-some (next p q) h = absurd h
single-some (times n p) h = omega arith
single-some (undo p) h = omega arith
single-some (call k qs) h = omega arith

all_front : (k : ℕ) (bs : List Bool) → AllTrue bs → AllTrue (take k bs)
all_front zero bs a = tt
all_front (suc k) [] a = tt
all_front (suc k) (b ∷ bs) a = (a.0, all_front k bs a.1)

-- of a source itself; that of texts is of what begins
front_begins : (s : Source) (ts : List Token) (k : ℕ) → text_of s ≡ ts → AllTrue (checks_of s) → length ts ≤ 4096 → k ≤ length ts → Begins (take k ts)
front_begins s ts k e a brief within = record {
  more = drop k ts;
  source = s;
  text = e ∙ sym (take-append-drop k ts);
  fine = all_front (length (take k ts)) (checks_of s) a;
  brief = omega (arith, length-take-le k ts within);
}

is-other : (t : Token) → is t Other ≡ true → t ≡ Other
is-other Turn e = absurd (false≢true e)
is-other Of e = absurd (false≢true e)
is-other Mix e = absurd (false≢true e)
is-other Flip e = absurd (false≢true e)
is-other If e = absurd (false≢true e)
is-other Device e = absurd (false≢true e)
is-other Joined e = absurd (false≢true e)
is-other Lay e = absurd (false≢true e)
is-other Undo e = absurd (false≢true e)
is-other Times e = absurd (false≢true e)
is-other Block e = absurd (false≢true e)
is-other Call e = absurd (false≢true e)
is-other On e = absurd (false≢true e)
is-other (Number n) e = absurd (false≢true e)
is-other Open e = absurd (false≢true e)
is-other Close e = absurd (false≢true e)
is-other Semicolon e = absurd (false≢true e)
is-other Other e = refl

module _ (limit : ℕ) (bs : List ℕ) (ts : List Token) (i : ℕ) where
  abbrev us : List Token
  us = take i ts

  abbrev t : Token
  t = get_or ts i Other

  one_more : i < length ts → take (i + 1) ts ≡ us ++ t ∷ []
  one_more h = take_more ts i Other h

  short : i < length ts → i < 4096 → length us < 4096
  short h few = omega (arith, length-take-le i ts (omega arith))

  -- a sign that some text goes on with is taken
  taken : (s : State) → runs 0 begins 0 us ≡ Ok s → Begins (us ++ t ∷ []) → accepts s t ≡ true
  taken s e b = not_false (accepts s t) (λ n. next-stops us s t e n b)

  over-is : Over limit ts i → fault_at limit bs ts i ≡ TooManyGates limit
  over-is o =
      let inside : i < length ts = omega (arith, o.place, single-some o.statement o.single, ap length (sym o.text), length-append (blocks_written o.blocks) (written o.before), length-append (blocks_written o.blocks) (written o.before ++ (written o.statement ++ written o.after)), length-append (written o.before) (written o.statement ++ written o.after), length-append (written o.statement) (written o.after)) in
      let few : i < 4096 = omega (arith, o.brief) in
      let here = subst Begins (one_more inside) (front_begins (over-source limit o) ts (i + 1) o.text o.fine o.brief (omega arith)) in
      let r = reads us (runs 0 begins 0 us) refl (begins_less us t here) in
      sym (next-is limit bs ts i inside few r.0 r.1) ∙ cond-true _ _ _ (taken r.0 r.1 here)

  wrong_large : (s : State) (large : Bool) → too_large bs i t ≡ large → Wrong us t (fault_of s t) → Wrong us t (cond large NumberTooLarge (fault_of s t))
  wrong_large s true e w = is-other t (and_parts (is t Other) (digits_from false (drop _ bs)) e).0
  wrong_large s false e w = w

  -- one that no text goes on with is not
  not_taken : (s : State) → runs 0 begins 0 us ≡ Ok s → Unread ts i → i < length ts → i < 4096 → accepts s t ≡ false
  not_taken s e u inside few = not_true (accepts s t) (λ b. u.stops inside (subst Begins (sym (one_more inside)) (next-begins us s t e (short inside few) b)))

  sign_read : (s : State) → runs 0 begins 0 us ≡ Ok s → Unread ts i → i < length ts → i < 4096 → Wrong us t (fault_at limit bs ts i)
  sign_read s e u inside few =
      let off = not_taken s e u inside few in
      subst (Wrong us t) (sym (cond-false _ _ _ off) ∙ next-is limit bs ts i inside few s e) (wrong_large s (too_large bs i t) refl (wrong_of us s t e (short inside few) off))

  sign-is : Unread ts i → i < length ts → i < 4096 → Wrong us t (fault_at limit bs ts i)
  sign-is u inside few = let r = reads us (runs 0 begins 0 us) refl u.begins in sign_read r.0 r.1 u inside few

  explains : Explains limit ts i (fault_at limit bs ts i)
  explains = record {
    over = over-is;
    ends = λ u e. sym (at_end limit bs ts i (omega arith));
    long = λ u inside many. sym (too_long limit bs ts i inside many);
    sign = sign-is;
  }

-- a text has one row of signs
pub diagnosed : (limit : ℕ) (bs : List ℕ) (signs : List Token) (i : ℕ) → Spells bs signs → (f : Fault) → f ≡ fault_at limit bs signs i → (ts : List Token) → Spells bs ts → Diagnosed limit bs ts i f
diagnosed limit bs signs i spelled f e ts s =
    let same = e ∙ ap (λ us. fault_at limit bs us i) (cut-is bs signs spelled ∙ sym (cut-is bs ts s)) in
    record { exact = same; explains = subst (Explains limit ts i) (sym same) (explains limit bs ts i) }
