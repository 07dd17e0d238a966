-- Where a text is refused.
use Rattle.std.proofs.Common.{◌≡◌, ℕ, zero, suc, ◌+◌, ◌<◌, ◌≤◌, max, Bool, true, ltb, ◌⊎◌, List, [], ◌∷◌, ◌++◌, length, take, drop, Some, None, Ok, Err, Option, Result, sym, refl, ap, ◌∙◌, subst, inl, inr, ⊎_elim, append_assoc, append-nil, arith, take-append-drop}
use mathlib.Core.Bool.{false≢true}
use Rattle.std.proofs.lemmas.List.{length-take-le, take-take, take_all}
use Rattle.std.proofs.lemmas.Bool.{cases_lt, cases_order, cond_both, ltb-false, and_parts}
use Rattle.circuit.specs.declared.gate.Gate.{Gate}
use Rattle.circuit.specs.declared.refusal.Refusal.{Refusal}
use Rattle.circuit.specs.declared.refusal.Refusal.TheVariants.{Text}
use Rattle.text.specs.declared.token.Token.{Token}
use Rattle.text.specs.Program.{Program, Blocks, Source, blocks_written, written, text_of, flat, known, checks, blocks_checks, checks_of, AllTrue, width, Says, Begins, Unread, Over, Refuses, SaysOne, RefusesOne, SaysOrRefuses}
use Rattle.text.specs.Reading.{State, Held, Row, capped, room_in, is_start, no_braces, outside, between, complete, step, follow, runs, begins, finished, ended, overlong, reading}
use Rattle.text.proofs.Rows.{cap_fits, cap_over}
use Rattle.text.proofs.Steps.{long, short}
use Rattle.text.proofs.Said.{differ, final, source-read, not-begun, over-source, over-read, over-fits, over-row, said_read, said_row}
use Rattle.text.proofs.Parts.{all_append, start_is}
use Rattle.text.proofs.Sound.{Came, Placed, Come, size-at, come}
use Rattle.text.proofs.Begun.{begins_come}

module _ (limit : ℕ) where
  -- ---- where a text may end

  -- what a text has come to that can be read
  pub record Whole (s : State) (ts : List Token) : Type 0 where
    pub blocks : Blocks
    pub program : Program
    pub text : blocks_written blocks ++ written program ≡ ts
    pub fine-blocks : AllTrue (blocks_checks blocks)
    pub fine : AllTrue (checks 256 (known blocks) program)
    pub row : capped limit (flat (known blocks) program) ≡ s.row
    pub wide : width program ≡ s.wide
    pub placed : Placed limit blocks None program s.fits
    pub brief : length ts ≤ 4096

  whole_from : (s : State) (ts : List Token) (bs : Blocks) (hs : List Held) (inside : Option ℕ) → no_braces hs ≡ true → outside inside ≡ true → AllTrue (blocks_checks bs) → Came limit bs inside hs s.row s.wide s.fits ts → length ts ≤ 4096 → Whole s ts
  whole_from s ts bs [] None e f a c brief = record { blocks = bs; program = c.0; text = c.2; fine-blocks = a; fine = c.1; row = c.3; wide = c.4; placed = c.5; brief = brief }
  whole_from s ts bs [] (Some n) e f a c brief = absurd (false≢true f)
  whole_from s ts bs (h ∷ hs) inside e f a c brief = absurd (false≢true e)

  whole_come : (s : State) (ts : List Token) → Come limit s ts → complete s ≡ true → length ts ≤ 4096 → Whole s ts
  whole_come s ts c e brief =
      let two = and_parts (between s) (outside s.inside) e in
      let one = and_parts (is_start s.part) (no_braces s.braces) two.0 in
      let all : c.read ≡ ts = sym (append-nil c.read) ∙ ap (λ r. c.read ++ r) (sym (start_is (room_in s.inside) (length s.blocks) (size-at limit c.bs) s.fresh s.names s.part one.0)) ∙ c.text in
      whole_from s ts c.bs s.braces s.inside one.1 two.1 c.fine (subst (Came limit c.bs s.inside s.braces s.row s.wide s.fits) all c.came) brief

  abbrev Oks : (State → Type 0) → Result State Refusal → Type 0
  Oks P (Ok s) = P s
  Oks P (Err r) = Unit {0}

  finished-whole : (ts : List Token) (r : Result State Refusal) → length ts ≤ 4096 → runs limit begins 0 ts ≡ r → Oks (λ s. Whole s ts) (finished (length ts) r)
  finished-whole ts (Ok s) brief e = cond_both (complete s) (Ok s) (Err (Text (length ts))) (Oks (λ n. Whole n ts)) (λ f. whole_come s ts (come limit ts s e) f brief) (λ f. tt)
  finished-whole ts (Err r) brief e = tt

  overlong-whole : (ts : List Token) (r : Result State Refusal) → Oks (λ s. Whole s ts) (overlong r)
  overlong-whole ts (Ok s) = tt
  overlong-whole ts (Err r) = tt

  pub whole : (ts : List Token) (s : State) → reading limit ts ≡ Ok s → Whole s ts
  whole ts s e =
      subst (Oks (λ n. Whole n ts)) e
      (cond_both (ltb 4096 (length ts)) _ _ (Oks (λ n. Whole n ts))
      (λ _. overlong-whole ts _)
      (λ f. finished-whole ts (runs limit begins 0 ts) (ltb-false 4096 (length ts) f) refl))

  abbrev source_of : {s : State} {ts : List Token} → Whole s ts → Source
  source_of w = record { blocks = w.blocks; program = w.program }

  some-none : (r : Row) (gs : List Gate) → r ≡ Some gs → r ≡ None → ⊥
  some-none r gs p q = let z : ◌≡◌ {A = ℕ} 0 1 = cc in omega arith

  -- a row within the limit is what the text says
  pub whole_says : (ts : List Token) (s : State) (gs : List Gate) → Whole s ts → s.row ≡ Some gs → (y : Says limit ts gs) × (width y.source.program ≡ s.wide)
  whole_says ts s gs w e =
      let all = flat (known w.blocks) w.program in
      ⊎_elim
      (λ many. absurd (some-none s.row gs e (sym w.row ∙ cap_over limit all many)))
      (λ few.
      let same : all ≡ gs = (let both = sym (cap_fits limit all few) ∙ w.row ∙ e in cc) in
      (record { source = source_of w; text = w.text; fine = all_append (blocks_checks w.blocks) _ w.fine-blocks w.fine; gates = same; few = subst (λ l. length l ≤ limit) same few; brief = w.brief }, w.wide))
      (cases_lt limit (length all))

  -- and one that is not says too much
  pub whole-over : (ts : List Token) (s : State) → Whole s ts → s.row ≡ None → Over limit ts s.fits
  whole-over ts s w e =
      ⊎_elim
      (λ within. absurd (some-none s.row (flat (known w.blocks) w.program) (sym w.row ∙ cap_fits limit (flat (known w.blocks) w.program) within.0) e))
      (λ past. record {
        blocks = w.blocks;
        before = past.before;
        statement = past.statement;
        after = past.rest;
        single = past.single;
        text = ap (λ r. blocks_written w.blocks ++ r) past.text ∙ w.text;
        fine = all_append (blocks_checks w.blocks) _ w.fine-blocks past.fine;
        few = past.few;
        many = past.many;
        place = past.place;
        brief = w.brief;
      })
      w.placed

  -- ---- signs after the one that is refused are not looked at, and those before it are taken

  record Stopped (s : State) (k : ℕ) (r : Refusal) (ts : List Token) : Type 0 where
    far : ℕ
    is : r ≡ Text (k + far)
    inside : far < length ts
    last : State
    before : runs limit s k (take far ts) ≡ Ok last
    same : runs limit s k (take (suc far) ts) ≡ Err r

  stopped_at : (s : State) (k : ℕ) (r : Refusal) (t : Token) (ts : List Token) (o : Option State) → step limit k s t ≡ o → ((n : State) → runs limit n (k + 1) ts ≡ Err r → Stopped n (k + 1) r ts) → follow o k (λ n. runs limit n (k + 1) ts) ≡ Err r → Stopped s k r (t ∷ ts)
  stopped_at s k r t ts None e ih h = record {
    far = 0;
    is = (let z : Text k ≡ r = cc in sym z ∙ ap Text (omega arith));
    inside = omega arith;
    last = s;
    before = refl;
    same = ap (λ o. follow o k (λ n. runs limit n (k + 1) [])) e ∙ h;
  }
  stopped_at s k r t ts (Some n) e ih h =
      let d = ih n h in
      record {
        far = suc d.far;
        is = d.is ∙ ap Text (omega arith);
        inside = omega (arith, d.inside);
        last = d.last;
        before = ap (λ o. follow o k (λ m. runs limit m (k + 1) (take d.far ts))) e ∙ d.before;
        same = ap (λ o. follow o k (λ m. runs limit m (k + 1) (take (suc d.far) ts))) e ∙ d.same;
      }

  stopped : (s : State) (k : ℕ) (r : Refusal) (ts : List Token) → runs limit s k ts ≡ Err r → Stopped s k r ts
  stopped s k r [] h = absurd (differ (runs limit s k []) s r refl h)
  stopped s k r (t ∷ ts) h = stopped_at s k r t ts (step limit k s t) refl (λ n g. stopped n (k + 1) r ts g) h

  abbrev pub UnreadAt : List Token → Refusal → Type 0
  UnreadAt ts r = (i : ℕ) × (r ≡ Text i) × Unread ts i

  -- refused at one of the first signs
  refused_within : (ts : List Token) (n : ℕ) (r : Refusal) → n ≤ length ts → n ≤ 4096 → runs limit begins 0 (take n ts) ≡ Err r → UnreadAt ts r
  refused_within ts n r inside brief h =
      let d = stopped begins 0 r (take n ts) h in
      let near : d.far < n = omega (arith, d.inside, length-take-le n ts inside) in
      let front = subst (λ us. runs limit begins 0 us ≡ Ok d.last) (take-take d.far n ts (omega arith)) d.before in
      let next_one : suc d.far ≡ d.far + 1 = omega arith in
      let there : r ≡ Text d.far = d.is ∙ ap Text (omega arith) in
      let bad = subst (λ us. runs limit begins 0 us ≡ Err r) (take-take (suc d.far) n ts (omega arith) ∙ ap (λ k. take k ts) next_one) d.same ∙ ap Err there in (
        d.far,
        there,
        record {
          inside = omega arith;
          begins = begins_come limit d.last (take d.far ts) (omega (arith, length-take-le d.far ts (omega arith))) (come limit (take d.far ts) d.last front);
          stops = λ _ b. not-begun limit (take (d.far + 1) ts) d.far bad (omega (arith, length-take-le (d.far + 1) ts (omega arith))) b;
          ends = λ e. absurd (omega arith);
        },
      )

  -- refused at its end
  refused_end : (ts : List Token) (s : State) (r : Refusal) → length ts ≤ 4096 → runs limit begins 0 ts ≡ Ok s → ended (length ts) s ≡ Err r → UnreadAt ts r
  refused_end ts s r brief e h =
      let there : r ≡ Text (length ts) = cond_both (complete s) (Ok s) (Err (Text (length ts))) (λ q. q ≡ Err r → r ≡ Text (length ts)) (λ _ g. absurd (differ (Ok s) s r refl g)) (λ _ g. cc) h in (
        length ts,
        there,
        record {
          inside = omega arith;
          begins = subst Begins (sym (take_all (length ts) ts (omega arith))) (begins_come limit s ts brief (come limit ts s e));
          stops = λ lt. absurd (omega arith);
          ends = λ _ x w a. differ (reading limit ts) (final limit x) r (source-read limit x ts w a brief) (short limit ts brief ∙ ap (finished (length ts)) e ∙ h);
        },
      )

  -- refused for its length
  refused_over : (ts : List Token) (s : State) → 4096 < length ts → runs limit begins 0 (take 4096 ts) ≡ Ok s → Unread ts 4096
  refused_over ts s many e = record {
    inside = omega arith;
    begins = begins_come limit s (take 4096 ts) (omega (arith, length-take-le 4096 ts (omega arith))) (come limit (take 4096 ts) s e);
    stops = λ _ b. absurd (omega (arith, b.brief, length-take-le (4096 + 1) ts (omega arith)));
    ends = λ e. absurd (omega arith);
  }

  by_end : (ts : List Token) (q : Result State Refusal) (r : Refusal) → length ts ≤ 4096 → runs limit begins 0 ts ≡ q → finished (length ts) q ≡ Err r → UnreadAt ts r
  by_end ts (Ok s) r brief e h = refused_end ts s r brief e h
  by_end ts (Err f) r brief e h = refused_within ts (length ts) r (omega arith) brief (ap (runs limit begins 0) (take_all (length ts) ts (omega arith)) ∙ e ∙ (let z : f ≡ r = cc in ap Err z))

  by_length : (ts : List Token) (q : Result State Refusal) (r : Refusal) → 4096 < length ts → runs limit begins 0 (take 4096 ts) ≡ q → overlong q ≡ Err r → UnreadAt ts r
  by_length ts (Ok s) r many e h = (4096, (let z : Text 4096 ≡ r = cc in sym z), refused_over ts s many e)
  by_length ts (Err f) r many e h = refused_within ts 4096 r (omega arith) (omega arith) (e ∙ (let z : f ≡ r = cc in ap Err z))

  pub unread : (ts : List Token) (r : Refusal) → reading limit ts ≡ Err r → UnreadAt ts r
  unread ts r h =
      ⊎_elim
      (λ many. by_length ts (runs limit begins 0 (take 4096 ts)) r many refl (sym (long limit ts many) ∙ h))
      (λ brief. by_end ts (runs limit begins 0 ts) r brief refl (sym (short limit ts brief) ∙ h))
      (cases_lt 4096 (length ts))

-- ---- one place only

all_take_any : (k : ℕ) (bs : List Bool) → AllTrue bs → AllTrue (take k bs)
all_take_any zero bs a = tt
all_take_any (suc k) [] a = tt
all_take_any (suc k) (b ∷ bs) a = (a.0, all_take_any k bs a.1)

all_take : (k m : ℕ) (bs : List Bool) → k ≤ m → AllTrue (take m bs) → AllTrue (take k bs)
all_take k m bs h a = subst AllTrue (take-take k m bs h) (all_take_any k (take m bs) a)

front_begins : (k : ℕ) (ts : List Token) → k ≤ length ts → Begins ts → Begins (take k ts)
front_begins k ts h b =
    let n = length-take-le k ts h in
    record {
      more = drop k ts ++ b.more;
      source = b.source;
      text = b.text ∙ ap (λ r. r ++ b.more) (sym (take-append-drop k ts)) ∙ append_assoc (take k ts) (drop k ts) b.more;
      fine = subst (λ m. AllTrue (take m (checks_of b.source))) (sym n) (all_take k (length ts) (checks_of b.source) h b.fine);
      brief = omega (arith, b.brief, n);
    }

unread_before : (ts : List Token) (i j : ℕ) → Unread ts i → Unread ts j → i < j → ⊥
unread_before ts i j u v lt =
    u.stops (omega (arith, v.inside))
    (subst Begins (take-take (i + 1) j ts (omega arith)) (front_begins (i + 1) (take j ts) (omega (arith, length-take-le j ts v.inside)) v.begins))

-- what can be read is not refused
unread_source : (ts : List Token) (i : ℕ) (s : Source) → Unread ts i → text_of s ≡ ts → AllTrue (checks_of s) → length ts ≤ 4096 → ⊥
unread_source ts i s u e a brief =
    ⊎_elim
    (λ lt. u.stops lt (front_begins (i + 1) ts (omega arith) (record { more = []; source = s; text = e ∙ sym (append-nil ts); fine = all_take_any (length ts) (checks_of s) a; brief = brief })))
    (λ ge. u.ends (omega (arith, u.inside)) s e a)
    (cases_lt i (length ts))

unread_one : (ts : List Token) (i j : ℕ) → Unread ts i → Unread ts j → i ≡ j
unread_one ts i j u v = ⊎_elim (λ e. e) (λ r. absurd (⊎_elim (λ lt. unread_before ts i j u v lt) (λ gt. unread_before ts j i v u gt) r)) (cases_order i j)

unread_over : (limit : ℕ) (ts : List Token) (i j : ℕ) → Unread ts i → Over limit ts j → ⊥
unread_over limit ts i j u o = unread_source ts i (over-source limit o) u o.text o.fine o.brief

same_state : (r : Result State Refusal) (s t : State) → r ≡ Ok s → r ≡ Ok t → s ≡ t
same_state r s t p q = let z : s ≡ t = cc in z

over-one : (limit : ℕ) (ts : List Token) (i j : ℕ) → Over limit ts i → Over limit ts j → i ≡ j
over-one limit ts i j o p =
    sym (over-fits limit ts i o) ∙ ap (λ s. s.fits) (same_state (reading limit ts) _ _ (over-read limit ts i o) (over-read limit ts j p)) ∙ over-fits limit ts j p

pub refuses_one : RefusesOne
refuses_one limit ts i j =
    ⊎_elim
    (λ u. ⊎_elim (λ v. unread_one ts i j u v) (λ p. absurd (unread_over limit ts i j u p)))
    (λ o. ⊎_elim (λ v. absurd (unread_over limit ts j i v o)) (λ p. over-one limit ts i j o p))

same_some : (r : Row) (gs hs : List Gate) → r ≡ Some gs → r ≡ Some hs → gs ≡ hs
same_some r gs hs p q = let z : gs ≡ hs = cc in z

pub says-one : SaysOne
says-one limit ts gs hs s r =
    let same = same_state (reading limit ts) _ _ (said_read limit ts gs s) (said_read limit ts hs r) in
    let wide : max 0 (width s.source.program) ≡ max 0 (width r.source.program) = ap (λ x. x.wide) same in
    (same_some (final limit s.source).row gs hs (said_row limit ts gs s) (ap (λ x. x.row) same ∙ said_row limit ts hs r), omega arith)

not-both : (limit : ℕ) (ts : List Token) (gs : List Gate) (i : ℕ) → Says limit ts gs → Refuses limit ts i → ⊥
not-both limit ts gs i s =
    ⊎_elim (λ u. unread_source ts i s.source u s.text s.fine s.brief)
    (λ o. let same = same_state (reading limit ts) _ _ (said_read limit ts gs s) (over-read limit ts i o) in
    some-none limit (final limit s.source).row gs (said_row limit ts gs s) (ap (λ x. x.row) same ∙ over-row limit ts i o))

by_row : (limit : ℕ) (ts : List Token) (s : State) (r : Row) → Whole limit s ts → s.row ≡ r → ((gs : List Gate) × Says limit ts gs) ⊎ ((i : ℕ) × Refuses limit ts i)
by_row limit ts s (Some gs) w e = inl (gs, (whole_says limit ts s gs w e).0)
by_row limit ts s None w e = inr (s.fits, inr (whole-over limit ts s w e))

either : (limit : ℕ) (ts : List Token) (q : Result State Refusal) → reading limit ts ≡ q → ((gs : List Gate) × Says limit ts gs) ⊎ ((i : ℕ) × Refuses limit ts i)
either limit ts (Ok s) e = by_row limit ts s s.row (whole limit ts s e) refl
either limit ts (Err r) e = let u = unread limit ts r e in inr (u.0, inl u.2)

pub says_or_refuses : SaysOrRefuses
says_or_refuses = ((λ limit ts. either limit ts (reading limit ts) refl), not-both)
