-- What a reader takes next is what a text can go on with.
use Rattle.std.proofs.Common.{◌≡◌, ℕ, zero, suc, ◌+◌, ◌<◌, ◌≤◌, Bool, true, false, List, [], ◌∷◌, ◌++◌, length, take, is_some, Some, None, Ok, Err, filter, Option, MatchOption, sym, refl, ap, ◌∙◌, subst, true≢false, append_assoc, ⊎_elim, arith, length-append}
use mathlib.Core.Bool.{false≢true}
use Rattle.std.proofs.lemmas.Bool.{cases_lt, cond-true, cond-false}
use Rattle.circuit.specs.declared.refusal.Refusal.{Refusal}
use Rattle.circuit.specs.declared.refusal.Refusal.TheVariants.{Text}
use Rattle.text.specs.declared.reader.Reader.{Reader}
use Rattle.text.specs.declared.token.Token.{Token}
use Rattle.text.specs.Accept.{accepts}
use Rattle.text.specs.Program.{known, checks, blocks_checks, AllTrue, checks_of, Begins}
use Rattle.text.specs.Reading.{State, view, step, follow, runs, begins, finished, complete}
use Rattle.text.specs.Spelling.{Spells}
use Rattle.text.proofs.Accepts.{accepts_any}
use Rattle.text.proofs.Said.{differ, final, source-read, not-begun}
use Rattle.text.proofs.Sound.{come}
use Rattle.text.proofs.Begun.{begins_come}
use Rattle.text.proofs.Faults.{whole}
use Rattle.text.proofs.Parts.{all_append}
use Rattle.text.proofs.Spelt.{cut-is}
use Rattle.text.proofs.Steps.{short}
use Rattle.text.proofs.Written.{then, runs_append}
use Rattle.diagnosis.specs.Front.{Reads, ReadsFew}
use Rattle.diagnosis.specs.Standing.{CouldFollow, Readable, IsReadable, words, numbers}
use Rattle.diagnosis.proofs.Candidates.{every_sign, kept_passes, kept-has}

some_is : (o : Option State) → is_some o ≡ true → (s : State) × (o ≡ Some s)
some_is None e = absurd (false≢true e)
some_is (Some s) e = (s, refl)

none_is : (o : Option State) → is_some o ≡ false → o ≡ None
none_is None e = refl
none_is (Some s) e = absurd (true≢false e)

pub not_false : (b : Bool) → (b ≡ false → ⊥) → b ≡ true
not_false true h = refl
not_false false h = absurd (h refl)

-- a reader that has read signs, and one more
one_more : (us : List Token) (s : State) (t : Token) → runs 0 begins 0 us ≡ Ok s → runs 0 begins 0 (us ++ t ∷ []) ≡ follow (step 0 (0 + length us) s t) (0 + length us) (λ n. Ok n)
one_more us s t e = runs_append 0 begins 0 us (t ∷ []) ∙ ap (λ q. then q (λ n. runs 0 n (0 + length us) (t ∷ []))) e

pub next-begins : (us : List Token) (s : State) (t : Token) → runs 0 begins 0 us ≡ Ok s → length us < 4096 → accepts s t ≡ true → Begins (us ++ t ∷ [])
next-begins us s t e brief a =
    let m = some_is (step 0 (0 + length us) s t) (accepts_any 0 (0 + length us) s t ∙ a) in
    let f : runs 0 begins 0 (us ++ t ∷ []) ≡ Ok m.0 = one_more us s t e ∙ ap (λ o. follow o (0 + length us) (λ n. Ok n)) m.1 in
    begins_come 0 m.0 (us ++ t ∷ []) (omega (arith, length-append us (t ∷ []))) (come 0 (us ++ t ∷ []) m.0 f)

pub next-stops : (us : List Token) (s : State) (t : Token) → runs 0 begins 0 us ≡ Ok s → accepts s t ≡ false → Begins (us ++ t ∷ []) → ⊥
next-stops us s t e a b =
    let m = none_is (step 0 (0 + length us) s t) (accepts_any 0 (0 + length us) s t ∙ a) in
    let f : runs 0 begins 0 (us ++ t ∷ []) ≡ Err (Text (0 + length us)) = one_more us s t e ∙ ap (λ o. follow o (0 + length us) (λ n. Ok n)) m in
    not-begun 0 (us ++ t ∷ []) (0 + length us) f (omega (arith, length-append us (t ∷ []))) b

-- ---- signs that are refused begin no text

record RefusedAt (r : Refusal) (n : ℕ) : Type 0 where
  place : ℕ
  is : r ≡ Text place
  inside : place < n

refused_inside : (s : State) (i : ℕ) (ts : List Token) (r : Refusal) → runs 0 s i ts ≡ Err r → RefusedAt r (i + length ts)
refused_inside s i [] r e = absurd (differ (runs 0 s i []) s r refl e)
refused_inside s i (t ∷ ts) r e = go (step 0 i s t) refl e (λ n g. refused_inside n (i + 1) ts r g) where
  go : (o : Option State) → step 0 i s t ≡ o → follow o i (λ n. runs 0 n (i + 1) ts) ≡ Err r → ((n : State) → runs 0 n (i + 1) ts ≡ Err r → RefusedAt r (i + 1 + length ts)) → RefusedAt r (i + length (t ∷ ts))
  go None f h ih = record { place = i; is = (let z : Text i ≡ r = cc in sym z); inside = omega arith }
  go (Some n) f h ih = let d = ih n h in record { place = d.place; is = d.is; inside = omega (arith, d.inside) }

all_less : (k : ℕ) (bs : List Bool) → AllTrue (take (suc k) bs) → AllTrue (take k bs)
all_less zero bs a = tt
all_less (suc k) [] a = tt
all_less (suc k) (b ∷ bs) a = (a.0, all_less k bs a.1)

pub begins_less : (us : List Token) (t : Token) → Begins (us ++ t ∷ []) → Begins us
begins_less us t b =
    let n : length (us ++ t ∷ []) ≡ suc (length us) = omega (arith, length-append us (t ∷ [])) in
    record {
      more = t ∷ b.more;
      source = b.source;
      text = b.text ∙ append_assoc us (t ∷ []) b.more;
      fine = all_less (length us) (checks_of b.source) (subst (λ k. AllTrue (take k (checks_of b.source))) n b.fine);
      brief = omega (arith, b.brief);
    }

pub refused_begins : (us : List Token) (r : Refusal) → runs 0 begins 0 us ≡ Err r → Begins us → ⊥
refused_begins us r e b =
    let d = refused_inside begins 0 us r e in
    not-begun 0 us d.place (e ∙ ap Err d.is) (omega (arith, d.inside)) b

-- ---- the two answers

-- a text has one row of signs
pub by_front : (P : List Token → Type 0) (bs : List ℕ) (signs front : List Token) (i : ℕ) → Spells bs signs → front ≡ take i signs → P front → (ts : List Token) → Spells bs ts → P (take i ts)
by_front P bs signs front i s e h ts t = subst P (e ∙ ap (take i) (cut-is bs signs s ∙ sym (cut-is bs ts t))) h

pub reads_few : (most : ℕ) (us : List Token) (o : Option Reader) → length us ≤ most → Reads us o → ReadsFew most us o
reads_few most us (Some r) h e = (h, e)
reads_few most us None h e = λ _. e

module _ (us : List Token) where
  stand_full : 4096 ≤ length us → CouldFollow us []
  stand_full full = record {
    may = λ t h. absurd (omega (arith, h.1));
    all = λ t _ b. absurd (omega (arith, b.brief, length-append us (t ∷ [])));
  }

  stand_refused : (r : Refusal) → runs 0 begins 0 us ≡ Err r → CouldFollow us []
  stand_refused r e = record {
    may = λ t h. absurd (omega (arith, h.1));
    all = λ t _ b. absurd (refused_begins us r e (begins_less us t b));
  }

  pub stand_read : (s : State) → runs 0 begins 0 us ≡ Ok s → length us < 4096 → CouldFollow us (filter (accepts s) (words ++ numbers 256))
  stand_read s e brief = record {
    may = λ t h. next-begins us s t e brief (kept_passes (accepts s) (words ++ numbers 256) t h);
    all = λ t small b. kept-has (accepts s) (words ++ numbers 256) t (every_sign t small) (not_false (accepts s t) (λ no. next-stops us s t e no b));
  }

  pub stand_none : ReadsFew 4095 us None → CouldFollow us []
  stand_none h = ⊎_elim (λ few. let e = h (omega arith) in stand_refused e.0 e.1) stand_full (cases_lt (length us) 4096)

  end_full : 4096 < length us → IsReadable us false
  end_full full = record { may = λ e. absurd (false≢true e); all = λ b. absurd (omega (arith, b.brief)) }

  source-reads : Readable us → (s : State) × (finished (length us) (runs 0 begins 0 us) ≡ Ok s)
  source-reads b = (final 0 b.source, sym (short 0 us b.brief) ∙ source-read 0 b.source us b.text b.fine b.brief)

  end_refused : (r : Refusal) → runs 0 begins 0 us ≡ Err r → IsReadable us false
  end_refused r e = record {
    may = λ f. absurd (false≢true f);
    all = λ b. let x = source-reads b in absurd (differ _ x.0 r x.1 (ap (finished (length us)) e));
  }

  pub end_read : (s : State) → runs 0 begins 0 us ≡ Ok s → length us ≤ 4096 → IsReadable us (complete s)
  end_read s e brief = record {
    may = λ f.
        let w = whole 0 us s (short 0 us brief ∙ ap (finished (length us)) e ∙ cond-true _ _ _ f) in
        record { source = record { blocks = w.blocks; program = w.program }; text = w.text; fine = all_append (blocks_checks w.blocks) (checks 256 (known w.blocks) w.program) w.fine-blocks w.fine; brief = brief };
    all = λ b. let x = source-reads b in not_false (complete s) (λ no. differ _ x.0 (Text (length us)) x.1 (ap (finished (length us)) e ∙ cond-false _ _ _ no));
  }

  pub end_none : ReadsFew 4096 us None → IsReadable us false
  end_none h = ⊎_elim end_full (λ few. let e = h few in end_refused e.0 e.1) (cases_lt 4096 (length us))

  pub end_is : (o : Option Reader) (b : Bool) → MatchOption o (b ≡ false) (λ r. b ≡ complete (view r)) → ReadsFew 4096 us o → IsReadable us b
  end_is None b e h = subst (IsReadable us) (sym e) (end_none h)
  end_is (Some r) b e h = subst (IsReadable us) (sym e) (end_read (view r) h.1 h.0)
