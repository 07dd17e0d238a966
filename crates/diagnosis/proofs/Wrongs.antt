-- What is said of a sign that cannot come next holds of it.
use Rattle.std.proofs.Common.{◌≡◌, ℕ, ◌<◌, Bool, true, false, cond, ◌&&◌, eqb, ltb, List, [], ◌∷◌, length, is_some, Some, None, Ok, Option, sym, refl, ap, ◌∙◌, true≢false, arith}
use mathlib.Core.Bool.{false≢true}
use Rattle.std.proofs.lemmas.Bool.{ltb-true, ltb-false, eqb-true, cond-false}
use Rattle.text.specs.declared.token.Token.{Token}
use Rattle.text.specs.declared.token.Token.TheVariants.{Turn, Of, Mix, Flip, If, Device, Joined, Lay, Undo, Times, Block, Call, On, Number, Open, Close, Semicolon, Other}
use Rattle.text.specs.declared.statement.Part.{Part}
use Rattle.text.specs.declared.statement.Part.TheVariants.{Start, TurnBy, TurnOf, TurnQubit, MixQubit, FlipQubit, FlipMore, FlipIf, FlipTwo, Ends, UndoOpens, TimesWord, TimesOpens, CallBlock, CallOn, Naming, BlockNumber, BlockOf, BlockSize, BlockOpens}
use Rattle.text.specs.declared.statement.Move.{Move}
use Rattle.text.specs.declared.statement.Move.TheVariants as move
use Rattle.text.specs.Accept.{accepts, size_of}
use Rattle.text.specs.Move.{number_in, is, moved, on_number}
use Rattle.text.specs.Reading.{State, Held, room_in, left, closes, is_start, no_braces, outside, place, act, complete, runs, begins}
use Rattle.text.proofs.Accepts.{settles-some}
use Rattle.diagnosis.specs.declared.fault.Fault.{Fault}
use Rattle.diagnosis.specs.declared.fault.Fault.TheVariants.{NotNext, NoBlock, NoQubit, Twice, TooManyQubits, TooFewQubits}
use Rattle.diagnosis.specs.Faults.{unbegun, misnamed, fault_in, fault_of}
use Rattle.diagnosis.specs.Faults as faults
use Rattle.diagnosis.specs.Meaning.{May, Wrong}
use Rattle.diagnosis.proofs.Next.{not_false, next-begins, next-stops, end_read}

-- ---- by the kind of a sign

module _ (us : List Token) where
  by_number : (t : Token) (f : ℕ → Fault) → ((q : ℕ) → t ≡ Number q → Wrong us t (f q)) → Wrong us t (faults.on_number (number_in t) f)
  by_number Turn f h = tt
  by_number Of f h = tt
  by_number Mix f h = tt
  by_number Flip f h = tt
  by_number If f h = tt
  by_number Device f h = tt
  by_number Joined f h = tt
  by_number Lay f h = tt
  by_number Undo f h = tt
  by_number Times f h = tt
  by_number Block f h = tt
  by_number Call f h = tt
  by_number On f h = tt
  by_number (Number n) f h = h n refl
  by_number Open f h = tt
  by_number Close f h = tt
  by_number Semicolon f h = tt
  by_number Other f h = tt

  by_semicolon : (t : Token) (a b : Fault) → (t ≡ Semicolon → Wrong us t a) → Wrong us t b → Wrong us t (cond (is t Semicolon) a b)
  by_semicolon Turn a b h k = k
  by_semicolon Of a b h k = k
  by_semicolon Mix a b h k = k
  by_semicolon Flip a b h k = k
  by_semicolon If a b h k = k
  by_semicolon Device a b h k = k
  by_semicolon Joined a b h k = k
  by_semicolon Lay a b h k = k
  by_semicolon Undo a b h k = k
  by_semicolon Times a b h k = k
  by_semicolon Block a b h k = k
  by_semicolon Call a b h k = k
  by_semicolon On a b h k = k
  by_semicolon (Number n) a b h k = k
  by_semicolon Open a b h k = k
  by_semicolon Close a b h k = k
  by_semicolon Semicolon a b h k = h refl
  by_semicolon Other a b h k = k

module _ (us : List Token) (s : State) (t : Token) (read : runs 0 begins 0 us ≡ Ok s) (brief : length us < 4096) where
  abbrev room : ℕ
  room = room_in s.inside

  -- whether a sign is taken where a part of a statement has been read
  abbrev taken : Part → Token → Bool
  taken p u = is_some (act 0 s (moved (place s) p u))

  -- a number that passes a test is taken, and no other
  passes : (b : Bool) (q : ℕ) (f : ℕ → Move) → is_some (act 0 s (on_number (cond b (Some q) None) f)) ≡ true → b ≡ true
  passes true q f e = refl
  passes false q f e = e

  fails : (b : Bool) (q : ℕ) (f : ℕ → Move) → is_some (act 0 s (f q)) ≡ true → is_some (act 0 s (on_number (cond b (Some q) None) f)) ≡ false → b ≡ false
  fails true q f some e = absurd (true≢false (sym some ∙ e))
  fails false q f some e = refl

  full : (b : Bool) (k q : ℕ) → ltb (length s.names) (size_of s k) ≡ false → is_some (act 0 s (on_number (cond b (Some q) None) (λ m. move.Name k m))) ≡ true → ⊥
  full true k q e h = false≢true (sym (ap is_some (cond-false _ _ _ e)) ∙ h)
  full false k q e h = false≢true h

  next_one : (b : Bool) → is_some (act 0 s (cond b (move.Go BlockOf) move.Refuse)) ≡ true → b ≡ true
  next_one true e = refl
  next_one false e = e

  shut : (hs : List Held) (inside : Option ℕ) → s.inside ≡ inside → is_some (closes 0 s hs) ≡ false → (no_braces hs && outside inside) ≡ true
  shut [] None e h = refl
  shut [] (Some n) e h = absurd (true≢false (sym (ap (λ o. is_some (left s o)) e) ∙ h))
  shut (x ∷ hs) inside e h = absurd (true≢false h)

  module _ (p : Part) (at : s.part ≡ p) where
    takes : (u : Token) → accepts s u ≡ taken p u
    takes u = settles-some 0 (act 0 s (moved (place s) s.part u)) ∙ ap (λ q. taken q u) at

    may : (u : Token) → taken p u ≡ true → May us u
    may u e = next-begins us s u read brief (takes u ∙ e)

    yes : (u : Token) → May us u → taken p u ≡ true
    yes u b = not_false (taken p u) (λ n. next-stops us s u read (takes u ∙ n) b)

  wrong_start : s.part ≡ Start → (u : Token) → taken Start u ≡ false → Wrong us u (unbegun u)
  wrong_start at Turn e = tt
  wrong_start at Of e = tt
  wrong_start at Mix e = tt
  wrong_start at Flip e = tt
  wrong_start at If e = tt
  wrong_start at Device e = may Start at Turn refl
  wrong_start at Joined e = may Start at Turn refl
  wrong_start at Lay e = may Start at Turn refl
  wrong_start at Undo e = tt
  wrong_start at Times e = tt
  wrong_start at Block e = (refl, may Start at Turn refl)
  wrong_start at Call e = tt
  wrong_start at On e = tt
  wrong_start at (Number n) e = tt
  wrong_start at Open e = tt
  wrong_start at Close e =
      let ended : complete s ≡ true = ap (λ q. (is_start q && no_braces s.braces) && outside s.inside) at ∙ shut s.braces s.inside refl e in
      (refl, (end_read us s read (omega arith)).may ended)
  wrong_start at Semicolon e = tt
  wrong_start at Other e = tt

  -- a number where a qubit is to stand
  wrong_qubit : (p : Part) → s.part ≡ p → (f : ℕ → Move) → ((m : ℕ) → is_some (act 0 s (f m)) ≡ true) → ((m : ℕ) → taken p (Number m) ≡ is_some (act 0 s (on_number (cond (ltb m room) (Some m) None) f))) → taken p t ≡ false → Wrong us t (faults.no_qubit s t)
  wrong_qubit p at f some same off =
      by_number us t (λ q. NoQubit q room)
      (λ q e. (
        e,
        ltb-false q room (fails (ltb q room) q f (some q) (sym (same q) ∙ ap (taken p) (sym e) ∙ off)),
        λ m b. ltb-true m room (passes (ltb m room) m f (sym (same m) ∙ yes p at (Number m) b)),
      ))

  -- a number that a call does not take
  wrong_name : (k : ℕ) → s.part ≡ Naming k → (q : ℕ) → t ≡ Number q → (b c : Bool) → ltb q room ≡ b → ltb (length s.names) (size_of s k) ≡ c → Wrong us t (cond b (cond c (Twice q) (TooManyQubits k (size_of s k))) (NoQubit q room))
  wrong_name k at q e true true f g = e
  wrong_name k at q e true false f g = λ m b. full (ltb m room) k m g (yes (Naming k) at (Number m) b)
  wrong_name k at q e false c f g = (e, ltb-false q room f, λ m b. ltb-true m room (passes (ltb m room) m (λ x. move.Name k x) (yes (Naming k) at (Number m) b)))

  wrong_in : (p : Part) → s.part ≡ p → taken p t ≡ false → Wrong us t (fault_in s t p)
  wrong_in Start at off = wrong_start at t off
  wrong_in TurnBy at off = tt
  wrong_in (TurnOf m) at off = tt
  wrong_in (TurnQubit m) at off = wrong_qubit (TurnQubit m) at _ (λ _. refl) (λ _. refl) off
  wrong_in MixQubit at off = wrong_qubit MixQubit at _ (λ _. refl) (λ _. refl) off
  wrong_in FlipQubit at off = wrong_qubit FlipQubit at _ (λ _. refl) (λ _. refl) off
  wrong_in (FlipMore q) at off = tt
  wrong_in (FlipIf q) at off = wrong_qubit (FlipIf q) at _ (λ _. refl) (λ _. refl) off
  wrong_in (FlipTwo c q) at off = wrong_qubit (FlipTwo c q) at _ (λ _. refl) (λ _. refl) off
  wrong_in (Ends g) at off = tt
  wrong_in UndoOpens at off = tt
  wrong_in (TimesWord n) at off = tt
  wrong_in (TimesOpens n) at off = tt
  wrong_in CallBlock at off =
      by_number us t NoBlock
      (λ k e.
      let past = ltb-false k (length s.blocks) (fails (ltb k (length s.blocks)) k (λ x. move.Go (CallOn x)) refl (ap (taken CallBlock) (sym e) ∙ off)) in
      (e, λ m b. let within = ltb-true m (length s.blocks) (passes (ltb m (length s.blocks)) m (λ x. move.Go (CallOn x)) (yes CallBlock at (Number m) b)) in omega arith))
  wrong_in (CallOn k) at off = tt
  wrong_in (Naming k) at off =
      by_semicolon us t (TooFewQubits k (size_of s k)) (faults.on_number (number_in t) (misnamed s k)) (λ e. e)
      (by_number us t (misnamed s k) (λ q e. wrong_name k at q e (ltb q room) (ltb (length s.names) (size_of s k)) refl refl))
  wrong_in BlockNumber at off =
      by_number us t (λ k. NotNext (length s.blocks))
      (λ k e m b. eqb-true m (length s.blocks) (next_one (eqb m (length s.blocks)) (yes BlockNumber at (Number m) b)))
  wrong_in BlockOf at off = tt
  wrong_in BlockSize at off = tt
  wrong_in (BlockOpens n) at off = tt

  pub wrong_of : accepts s t ≡ false → Wrong us t (fault_of s t)
  wrong_of off = wrong_in s.part refl (sym (takes s.part refl t) ∙ off)
