-- What is read is what the text says.
use Rattle.std.proofs.Common.{◌≡◌, ℕ, ◌+◌, ◌<◌, ◌≤◌, max, true, false, cond, ◌&&◌, eqb, ltb, ◌⊎◌, List, [], ◌∷◌, ◌++◌, map, length, get_or, Some, None, Ok, Err, Option, Result, sym, refl, ap, ◌∙◌, subst, inl, inr, ⊎_elim, append_assoc, append-nil, arith, length-append}
use mathlib.Core.Bool.{false≢true}
use Rattle.std.proofs.lemmas.List.{length-map, map_push}
use Rattle.std.proofs.lemmas.Bool.{cases_lt, cond_both, ltb-true, and_from, not_from_false}
use Rattle.circuit.specs.declared.gate.Gate.{Gate}
use Rattle.circuit.specs.declared.refusal.Refusal.{Refusal}
use Rattle.laws.specs.Rename.{all_renamed}
use Rattle.text.specs.declared.token.Token.{Token}
use Rattle.text.specs.declared.token.Token.TheVariants as token
use Rattle.text.specs.declared.statement.Part.{Part}
use Rattle.text.specs.declared.statement.Part.TheVariants.{Naming}
use Rattle.text.specs.declared.statement.Brace.{Brace}
use Rattle.text.specs.declared.statement.Brace.TheVariants as brace
use Rattle.text.specs.declared.statement.Move.{Move}
use Rattle.text.specs.declared.statement.Move.TheVariants as move
use Rattle.text.specs.Program.{Program, nothing, gate, next, times, undo, call, Blocks, none, and, spelt, written, count, blocks_written, Known, unknown, flat, known, gate_checks, has, checks, blocks_checks, AllTrue, width, Single}
use Rattle.text.specs.Move.{moved}
use Rattle.text.specs.Reading.{State, Held, Row, no_block, capped, put, room_in, place, goes_to, said, opened, entered, over_with, made_of, braced, left, closes, closed, named, called, act, is_start, no_braces, fitting, settles, step, follow, runs, begins}
use Rattle.text.proofs.Rows.{cap_none, cap_fits, cap_over, put-capped, braced-capped, length-renamed}
use Rattle.text.proofs.Written.{kept, kept_at, fit-after, count-known}
use Rattle.text.proofs.Parts.{all_append, differ_more, differ_all, opening, so_far, FinePart, Told, tells}

-- what stands before the statements that are read now: blocks, and the beginning of one that is open
abbrev pub head : Blocks → Option ℕ → List Token
head bs None = blocks_written bs
head bs (Some n) = blocks_written bs ++ (token.Block ∷ token.Number (count bs) ∷ token.Of ∷ token.Number n ∷ token.Open ∷ [])

-- ---- braces as programs

abbrev pub program_of : Brace → Program → Program
program_of brace.Undo p = undo p
program_of (brace.Times n) p = times n p

pub written_of : (b : Brace) (p : Program) → written (program_of b p) ≡ opening b ++ (written p ++ token.Close ∷ [])
written_of brace.Undo p = refl
written_of (brace.Times n) p = refl

flat_of : (ks : List Known) (b : Brace) (p : Program) → flat ks (program_of b p) ≡ made_of b (flat ks p)
flat_of ks brace.Undo p = refl
flat_of ks (brace.Times n) p = refl

width_of : (b : Brace) (p : Program) → width (program_of b p) ≡ width p
width_of brace.Undo p = refl
width_of (brace.Times n) p = refl

single_of : (b : Brace) (p : Program) → Single (program_of b p)
single_of brace.Undo p = tt
single_of (brace.Times n) p = tt

checks_of-brace : (n : ℕ) (ks : List Known) (b : Brace) (p : Program) → AllTrue (checks n ks p) → AllTrue (checks n ks (program_of b p))
checks_of-brace n ks brace.Undo p a = (refl, (refl, all_append (checks n ks p) (true ∷ []) a (refl, tt)))
checks_of-brace n ks (brace.Times m) p a = (refl, (refl, (refl, all_append (checks n ks p) (true ∷ []) a (refl, tt))))

-- ---- what has been read up to there: the braces that are open, each with a program before it

module _ (limit : ℕ) where
  module _ (bs : Blocks) (inside : Option ℕ) where
    -- the program p says too many gates, from a statement on that begins after so many signs
    pub record Past (p : Program) (fits : ℕ) : Type 0 where
      pub before : Program
      pub statement : Program
      pub rest : Program
      pub single : Single statement
      pub text : written (next before (next statement rest)) ≡ written p
      pub fine : AllTrue (checks (room_in inside) (known bs) (next before (next statement rest)))
      pub few : length (flat (known bs) before) ≤ limit
      pub many : limit < length (flat (known bs) before ++ flat (known bs) statement)
      pub place : fits ≡ length (head bs inside ++ written before)
      pub long : limit < length (flat (known bs) p)

    abbrev pub Placed : Program → ℕ → Type 0
    Placed p fits = ((length (flat (known bs) p) ≤ limit) × (fits ≡ length (head bs inside ++ written p))) ⊎ Past p fits

    abbrev pub Came : List Held → Row → ℕ → ℕ → List Token → Type 0
    Came [] row wide fits ts = (p : Program) × AllTrue (checks (room_in inside) (known bs) p) × (head bs inside ++ written p ≡ ts) × (capped limit (flat (known bs) p) ≡ row) × (width p ≡ wide) × Placed p fits
    Came (h ∷ hs) row wide fits ts = (us : List Token) × (p : Program) × (w : ℕ) × Came hs h.before w fits us × AllTrue (checks (room_in inside) (known bs) p) × (us ++ (opening h.brace ++ written p) ≡ ts) × (capped limit (flat (known bs) p) ≡ row) × (max w (width p) ≡ wide)

    -- a statement q makes the row new of the row old
    abbrev Makes : Program → Row → Row → Type 0
    Makes q old new = (x : List Gate) → capped limit x ≡ old → capped limit (x ++ flat (known bs) q) ≡ new

    placed-more : (p q : Program) (row : Row) (fits j : ℕ) → AllTrue (checks (room_in inside) (known bs) p) → AllTrue (checks (room_in inside) (known bs) q) → Single q → capped limit (flat (known bs) p ++ flat (known bs) q) ≡ row → j ≡ length (head bs inside ++ (written p ++ written q)) → Placed p fits → Placed (next p q) (cond (fitting row) j fits)
    placed-more p q row fits j a b single e at (inl w) =
        let ks = known bs in
        ⊎_elim
        (λ many. inr (record {
          before = p;
          statement = q;
          rest = nothing;
          single = single;
          text = ap (λ r. written p ++ r) (append-nil (written q));
          fine = all_append (checks (room_in inside) ks p) (checks (room_in inside) ks q ++ []) a (all_append (checks (room_in inside) ks q) [] b tt);
          few = w.0;
          many = many;
          long = many;
          place = ap (λ r. cond (fitting r) j fits) (sym e ∙ cap_over limit (flat ks p ++ flat ks q) many) ∙ w.1;
        }))
        (λ few. inl (few, ap (λ r. cond (fitting r) j fits) (sym e ∙ cap_fits limit (flat ks p ++ flat ks q) few) ∙ at))
        (cases_lt limit (length (flat ks p ++ flat ks q)))
    placed-more p q row fits j a b single e at (inr c) =
        let ks = known bs in
        let n = room_in inside in
        let many : limit < length (flat ks p ++ flat ks q) = omega (arith, c.long, length-append (flat ks p) (flat ks q)) in
        inr (record {
          before = c.before;
          statement = c.statement;
          rest = next c.rest q;
          single = c.single;
          text = ap (λ r. written c.before ++ r) (sym (append_assoc (written c.statement) (written c.rest) (written q))) ∙ sym (append_assoc (written c.before) (written c.statement ++ written c.rest) (written q)) ∙ ap (λ r. r ++ written q) c.text;
          fine = subst AllTrue (append_assoc (checks n ks c.before) (checks n ks c.statement ++ checks n ks c.rest) (checks n ks q) ∙ ap (λ r. checks n ks c.before ++ r) (append_assoc (checks n ks c.statement) (checks n ks c.rest) (checks n ks q))) (all_append (checks n ks (next c.before (next c.statement c.rest))) (checks n ks q) c.fine b);
          few = c.few;
          many = c.many;
          long = many;
          place = ap (λ r. cond (fitting r) j fits) (sym e ∙ cap_over limit (flat ks p ++ flat ks q) many) ∙ c.place;
        })

    add : (hs : List Held) (row new : Row) (wide fits j : ℕ) (ts us : List Token) → Came hs row wide fits ts → (q : Program) → Single q → AllTrue (checks (room_in inside) (known bs) q) → Makes q row new → ts ++ written q ≡ us → j ≡ length us → Came hs new (max wide (width q)) (fit-after limit hs new j fits) us
    add [] row new wide fits j ts us c q single b makes e at =
        let text : head bs inside ++ (written c.0 ++ written q) ≡ us = sym (append_assoc (head bs inside) (written c.0) (written q)) ∙ ap (λ r. r ++ written q) c.2 ∙ e in
        let n = room_in inside in (
          next c.0 q,
          all_append (checks n (known bs) c.0) (checks n (known bs) q) c.1 b,
          text,
          makes (flat (known bs) c.0) c.3,
          ap (λ w. max w (width q)) c.4,
          placed-more c.0 q new fits j c.1 b single (makes (flat (known bs) c.0) c.3) (at ∙ ap length (sym text)) c.5,
        )
    add (h ∷ hs) row new wide fits j ts us c q single b makes e at =
        let n = room_in inside in
        let w : max c.2 (max (width c.1) (width q)) ≡ max wide (width q) = omega (arith, c.7) in (
          c.0,
          next c.1 q,
          c.2,
          c.3,
          all_append (checks n (known bs) c.1) (checks n (known bs) q) c.4 b,
          ap (λ r. c.0 ++ r) (sym (append_assoc (opening h.brace) (written c.1) (written q))) ∙ sym (append_assoc c.0 (opening h.brace ++ written c.1) (written q)) ∙ ap (λ r. r ++ written q) c.5 ∙ e,
          makes (flat (known bs) c.1) c.6,
          w,
        )

    opens : (hs : List Held) (row : Row) (wide fits : ℕ) (ts us : List Token) (b : Brace) → Came hs row wide fits ts → ts ++ opening b ≡ us → Came (record { brace = b; before = row } ∷ hs) (Some []) wide fits us
    opens hs row wide fits ts us b c e =
        let w : max wide 0 ≡ wide = omega arith in
        (ts, nothing, wide, c, tt, ap (λ r. ts ++ r) (append-nil (opening b)) ∙ e, cap_none limit, w)

    shuts : (h : Held) (hs : List Held) (row : Row) (wide fits j : ℕ) (ts : List Token) → Came (h ∷ hs) row wide fits ts → j ≡ length (ts ++ token.Close ∷ []) → Came hs (braced limit h.brace h.before row) wide (fit-after limit hs (braced limit h.brace h.before row) j fits) (ts ++ token.Close ∷ [])
    shuts h hs row wide fits j ts c at =
        let b = h.brace in
        let q = program_of b c.1 in
        let new = braced limit b h.before row in
        let text : c.0 ++ written q ≡ ts ++ token.Close ∷ [] = ap (λ r. c.0 ++ r) (written_of b c.1 ∙ sym (append_assoc (opening b) (written c.1) (token.Close ∷ []))) ∙ sym (append_assoc c.0 (opening b ++ written c.1) (token.Close ∷ [])) ∙ ap (λ r. r ++ token.Close ∷ []) c.5 in
        let makes : Makes q h.before new = λ x e. ap (λ gs. capped limit (x ++ gs)) (flat_of (known bs) b c.1) ∙ sym (braced-capped limit b x (flat (known bs) c.1)) ∙ (λ i. braced limit b (e i) (c.6 i)) in
        let w : max c.2 (width q) ≡ wide = ap (max c.2) (width_of b c.1) ∙ c.7 in
        subst (λ k. Came hs new k (fit-after limit hs new j fits) (ts ++ token.Close ∷ [])) w
        (add hs h.before new c.2 fits j c.0 (ts ++ token.Close ∷ []) c.3 q (single_of b c.1) (checks_of-brace (room_in inside) (known bs) b c.1 c.4) makes text at)

  abbrev pub size-at : Blocks → ℕ → ℕ
  size-at bs k = (get_or (known bs) k unknown).size

  -- a state to which signs have come
  pub record Come (s : State) (ts : List Token) : Type 0 where
    pub bs : Blocks
    pub fine : AllTrue (blocks_checks bs)
    pub blocks : map (kept limit) (known bs) ≡ s.blocks
    pub read : List Token
    pub came : Came bs s.inside s.braces s.row s.wide s.fits read
    pub text : read ++ so_far (room_in s.inside) (length s.blocks) (size-at bs) s.fresh s.names s.part ≡ ts
    pub part : FinePart (room_in s.inside) (length s.blocks) (size-at bs) s.fresh s.names s.part
    pub fresh : s.fresh ≡ true → (s.inside ≡ None) × (s.braces ≡ []) × (read ≡ blocks_written bs) × (s.row ≡ Some []) × (s.wide ≡ 0)

  abbrev Each : (State → Type 0) → Option State → Type 0
  Each P None = Unit {0}
  Each P (Some s) = P s

  module _ (s : State) (ts : List Token) (u : Token) (i : ℕ) (c : Come s ts) (next_place : i + 1 ≡ length (ts ++ u ∷ [])) where
    abbrev now : State → Type 0
    now m = Come m (ts ++ u ∷ [])

    abbrev far : Part → List Token
    far = so_far (room_in s.inside) (length s.blocks) (size-at c.bs) s.fresh s.names

    -- what the signs of a statement are with one more
    whole : (ws : List Token) → ws ≡ far s.part ++ u ∷ [] → c.read ++ ws ≡ ts ++ u ∷ []
    whole ws e = ap (λ r. c.read ++ r) e ∙ sym (append_assoc c.read (far s.part) (u ∷ [])) ∙ ap (λ r. r ++ u ∷ []) c.text

    go_come : (p : Part) → far p ≡ far s.part ++ u ∷ [] → is_start p ≡ false → FinePart (room_in s.inside) (length s.blocks) (size-at c.bs) s.fresh s.names p → Each now (settles i (Some (goes_to p s)))
    go_come p e st f =
        let still : s.fits ≡ cond ((is_start p && no_braces s.braces) && fitting s.row) (i + 1) s.fits = sym (ap (λ b. cond ((b && no_braces s.braces) && fitting s.row) (i + 1) s.fits) st) in
        record {
          bs = c.bs;
          fine = c.fine;
          blocks = c.blocks;
          read = c.read;
          came = subst (λ k. Came c.bs s.inside s.braces s.row s.wide k c.read) still c.came;
          text = whole (far p) e;
          part = f;
          fresh = c.fresh;
        }

    -- a statement that is over
    over_come : (q : Program) (new : Row) → Single q → AllTrue (checks (room_in s.inside) (known c.bs) q) → Makes c.bs s.inside q s.row new → c.read ++ written q ≡ ts ++ u ∷ [] → Each now (settles i (Some (over_with s new (width q))))
    over_come q new single a makes e = record {
      bs = c.bs;
      fine = c.fine;
      blocks = c.blocks;
      read = ts ++ u ∷ [];
      came = add c.bs s.inside s.braces s.row new s.wide s.fits (i + 1) c.read (ts ++ u ∷ []) c.came q single a makes e next_place;
      text = append-nil (ts ++ u ∷ []);
      part = refl;
      fresh = λ f. absurd (false≢true f);
    }

    say_come : (g : Gate) → spelt g ≡ far s.part ++ u ∷ [] → AllTrue (gate_checks (room_in s.inside) g) → Each now (settles i (Some (said limit g s)))
    say_come g e a =
        over_come (gate g) (put limit (λ hs. g ∷ hs) s.row (Some [])) tt a
        (λ x r. sym (put-capped limit (λ hs. g ∷ hs) x [] (omega arith)) ∙ (λ t. put limit (λ hs. g ∷ hs) (r t) (cap_none limit t)))
        (whole (spelt g) e)

    open_come : (b : Brace) → opening b ≡ far s.part ++ u ∷ [] → Each now (settles i (Some (opened b s)))
    open_come b e = record {
      bs = c.bs;
      fine = c.fine;
      blocks = c.blocks;
      read = ts ++ u ∷ [];
      came = opens c.bs s.inside s.braces s.row s.wide s.fits c.read (ts ++ u ∷ []) b c.came (whole (opening b) e);
      text = append-nil (ts ++ u ∷ []);
      part = refl;
      fresh = λ f. absurd (false≢true f);
    }

    call_come : (k : ℕ) → s.part ≡ Naming k → u ≡ token.Semicolon → Each now (settles i (called limit k s))
    call_come k p v =
        let n = room_in s.inside in
        let ks = known c.bs in
        let f : List Gate → List Gate = all_renamed (λ q. get_or s.names q 0) in
        let good = subst (λ r. FinePart n (length s.blocks) (size-at c.bs) s.fresh s.names r) p c.part in
        let known-all : length s.blocks ≡ length ks = ap length (sym c.blocks) ∙ length-map ks (kept limit) in
        let some : ltb k (length ks) ≡ true = ap (ltb k) (sym known-all) ∙ good.0 in
        let b : get_or s.blocks k no_block ≡ kept limit (get_or ks k unknown) = ap (λ l. get_or l k no_block) (sym c.blocks) ∙ kept_at limit ks k (ltb-true k (length ks) some) in
        cond_both (ltb k (length s.blocks)) _ None (λ o. Each now (settles i o))
        (λ _. cond_both (eqb (length s.names) (get_or s.blocks k no_block).size) _ None (λ o. Each now (settles i o))
        (λ e. over_come (call k s.names) (put limit f s.row (get_or s.blocks k no_block).row) tt
        (refl, (some, (refl, differ_all n (size-at c.bs k) [] s.names good.1 (ap (λ x. eqb (length s.names) x.size) (sym b) ∙ e))))
        (λ x r. sym (put-capped limit f x (get_or ks k unknown).row (omega (arith, length-renamed (λ q. get_or s.names q 0) (get_or ks k unknown).row))) ∙ (λ t. put limit f (r t) (sym b t).row))
        (whole (written (call k s.names)) (λ t. far (sym p t) ++ sym v t ∷ [])))
        (λ _. tt))
        (λ _. tt)

    name_come : (k q : ℕ) → s.part ≡ Naming k → u ≡ token.Number q → ltb q (room_in s.inside) ≡ true → Each now (settles i (named k q s))
    name_come k q p v below =
        let n = room_in s.inside in
        let ks = known c.bs in
        let good = subst (λ r. FinePart n (length s.blocks) (size-at c.bs) s.fresh s.names r) p c.part in
        let known-all : length s.blocks ≡ length ks = ap length (sym c.blocks) ∙ length-map ks (kept limit) in
        let some : ltb k (length ks) ≡ true = ap (ltb k) (sym known-all) ∙ good.0 in
        let b : get_or s.blocks k no_block ≡ kept limit (get_or ks k unknown) = ap (λ l. get_or l k no_block) (sym c.blocks) ∙ kept_at limit ks k (ltb-true k (length ks) some) in
        cond_both (ltb (length s.names) (get_or s.blocks k no_block).size) _ None (λ o. Each now (settles i o))
        (λ e. cond_both (has q s.names) None _ (λ o. Each now (settles i o))
        (λ _. tt)
        (λ h. record {
          bs = c.bs;
          fine = c.fine;
          blocks = c.blocks;
          read = c.read;
          came = c.came;
          text = whole (token.Call ∷ token.Number k ∷ token.On ∷ map token.Number (s.names ++ q ∷ [])) (ap (λ l. token.Call ∷ token.Number k ∷ token.On ∷ l) (map_push token.Number s.names q) ∙ (λ t. far (sym p t) ++ sym v t ∷ []));
          part = (good.0, differ_more n (size-at c.bs k) [] s.names q good.1 (and_from _ _ below (and_from _ _ (ap (λ x. ltb (length s.names) x.size) (sym b) ∙ e) (not_from_false _ h))));
          fresh = c.fresh;
        }))
        (λ _. tt)

    -- the beginning of a block
    enter_come : (n : ℕ) → token.Block ∷ token.Number (length s.blocks) ∷ token.Of ∷ token.Number n ∷ token.Open ∷ [] ≡ far s.part ++ u ∷ [] → s.fresh ≡ true → Each now (settles i (Some (entered n s)))
    enter_come n e f =
        let clean = c.fresh f in
        let us = ts ++ u ∷ [] in
        let number : count c.bs ≡ length s.blocks = count-known c.bs ∙ sym (ap length (sym c.blocks) ∙ length-map (known c.bs) (kept limit)) in
        let text : head c.bs (Some n) ++ [] ≡ us = append-nil (head c.bs (Some n)) ∙ (λ t. sym clean.2 t ++ (token.Block ∷ token.Number (number t) ∷ token.Of ∷ token.Number n ∷ token.Open ∷ [])) ∙ whole _ e in
        let base : Came c.bs (Some n) [] (Some []) 0 (i + 1) us = (nothing, tt, text, cap_none limit, refl, inl (omega arith, next_place ∙ ap length (sym text))) in
        record {
          bs = c.bs;
          fine = c.fine;
          blocks = c.blocks;
          read = us;
          came =
              subst (λ hs. Came c.bs (Some n) hs s.row s.wide (cond (no_braces hs && fitting s.row) (i + 1) s.fits) us) (sym clean.1)
              (subst (λ r. Came c.bs (Some n) [] r s.wide (cond (fitting r) (i + 1) s.fits) us) (sym clean.3)
              (subst (λ w. Came c.bs (Some n) [] (Some []) w (i + 1) us) (sym clean.4) base));
          text = append-nil us;
          part = refl;
          fresh = λ g. absurd (false≢true g);
        }

    -- the end of one
    left_come : (o : Option ℕ) → s.braces ≡ [] → Came c.bs o [] s.row s.wide s.fits ts → u ≡ token.Close → Each now (settles i (left s o))
    left_come None br came v = tt
    left_come (Some n) br came v =
        let p = came.0 in
        let ks = known c.bs in
        let us = ts ++ u ∷ [] in
        let opening-block = token.Block ∷ token.Number (count c.bs) ∷ token.Of ∷ token.Number n ∷ token.Open ∷ [] in
        let text : blocks_written (and c.bs n p) ≡ us =
        sym (append_assoc (blocks_written c.bs) opening-block (written p ++ token.Close ∷ [])) ∙ sym (append_assoc (blocks_written c.bs ++ opening-block) (written p) (token.Close ∷ [])) ∙ (λ t. came.2 t ++ sym v t ∷ []) in
        record {
          bs = and c.bs n p;
          fine = all_append (blocks_checks c.bs) _ c.fine (refl, (refl, (refl, (refl, (refl, all_append (checks n ks p) (true ∷ []) came.1 (refl, tt))))));
          blocks = map_push (kept limit) ks (record { size = n; row = flat ks p }) ∙ (λ t. c.blocks t ++ record { size = n; row = came.3 t } ∷ []);
          read = us;
          came =
              subst (λ hs. Came (and c.bs n p) None hs (Some []) 0 (cond (no_braces hs && true) (i + 1) s.fits) us) (sym br)
              (nothing, tt, append-nil (blocks_written (and c.bs n p)) ∙ text, cap_none limit, refl, inl (omega arith, next_place ∙ ap length (sym (append-nil (blocks_written (and c.bs n p)) ∙ text))));
          text = append-nil us;
          part = refl;
          fresh = λ _. (refl, br, sym text, refl, refl);
        }

    closes_come : (hs : List Held) → s.braces ≡ hs → Came c.bs s.inside hs s.row s.wide s.fits ts → u ≡ token.Close → Each now (settles i (closes limit s hs))
    closes_come [] e came v = left_come s.inside e came v
    closes_come (h ∷ hs) e came v = record {
      bs = c.bs;
      fine = c.fine;
      blocks = c.blocks;
      read = ts ++ u ∷ [];
      came = subst (λ t. Came c.bs s.inside hs (braced limit h.brace h.before s.row) s.wide (fit-after limit hs (braced limit h.brace h.before s.row) (i + 1) s.fits) (ts ++ t ∷ [])) (sym v)
          (shuts c.bs s.inside h hs s.row s.wide s.fits (i + 1) ts came (next_place ∙ ap (λ t. length (ts ++ t ∷ [])) v));
      text = append-nil (ts ++ u ∷ []);
      part = refl;
      fresh = λ f. absurd (false≢true f);
    }

    close_come : far s.part ≡ [] → u ≡ token.Close → Each now (settles i (closed limit s))
    close_come e v =
        let all : c.read ≡ ts = sym (append-nil c.read) ∙ ap (λ r. c.read ++ r) (sym e) ∙ c.text in
        closes_come s.braces refl (subst (Came c.bs s.inside s.braces s.row s.wide s.fits) all c.came) v

    act_come : (m : Move) → Told (room_in s.inside) (length s.blocks) (size-at c.bs) s.fresh s.names s.part u m → Each now (settles i (act limit s m))
    act_come (move.Go p) h = go_come p h.0 h.1 h.2
    act_come (move.Say g) h = say_come g h.0 h.1
    act_come (move.Open b) h = open_come b h
    act_come (move.Enter n) h = enter_come n h.0 h.1
    act_come move.Close h = close_come h.0 h.1
    act_come (move.Name k q) h = name_come k q h.0 h.1 h.2
    act_come (move.Call k) h = call_come k h.0 h.1
    act_come move.Refuse h = tt

    step_come : Each now (step limit i s u)
    step_come = act_come (moved (place s) s.part u) (tells (room_in s.inside) (length s.blocks) (size-at c.bs) s.fresh s.names s.part u c.part)

  abbrev pub Oks : {T : Type 0} → (T → Type 0) → Result T Refusal → Type 0
  Oks P (Ok s) = P s
  Oks P (Err r) = Unit {0}

  oks_follow : (P Q : State → Type 0) (o : Option State) (i : ℕ) (f : State → Result State Refusal) → Each P o → ((n : State) → P n → Oks Q (f n)) → Oks Q (follow o i f)
  oks_follow P Q None i f e h = tt
  oks_follow P Q (Some n) i f e h = h n e

  runs_come : (ts us : List Token) (s : State) (i : ℕ) → i ≡ length us → Come s us → Oks (λ n. Come n (us ++ ts)) (runs limit s i ts)
  runs_come [] us s i e c = subst (Come s) (sym (append-nil us)) c
  runs_come (u ∷ ts) us s i e c =
      let at : i + 1 ≡ length (us ++ u ∷ []) = omega (arith, length-append us (u ∷ [])) in
      oks_follow (λ n. Come n (us ++ u ∷ [])) _ (step limit i s u) i _ (step_come s us u i c at)
      (λ n d. subst (λ r. Oks (λ m. Come m r) (runs limit n (i + 1) ts)) (append_assoc us (u ∷ []) ts) (runs_come ts (us ++ u ∷ []) n (i + 1) at d))

  first : Come begins []
  first = record {
    bs = none;
    fine = tt;
    blocks = refl;
    read = [];
    came = (nothing, tt, refl, cap_none limit, refl, inl (omega arith, refl));
    text = refl;
    part = refl;
    fresh = λ _. (refl, refl, refl, refl, refl);
  }

  pub come : (ts : List Token) (s : State) → runs limit begins 0 ts ≡ Ok s → Come s ts
  come ts s e = subst (Oks (λ n. Come n ts)) e (runs_come ts [] begins 0 refl first)
