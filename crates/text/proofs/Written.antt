-- What is written is read back, up to the first sign that may not stand.
use Rattle.std.proofs.Common.{◌≡◌, ℕ, suc, ◌+◌, ◌<◌, max, Bool, true, false, cond, not, ◌&&◌, eqb, ltb, List, [], ◌∷◌, ◌++◌, map, length, get_or, Some, None, Ok, Err, Option, Result, sym, refl, ap, ◌∙◌, append_assoc, append-nil, arith, length-append}
use Rattle.std.proofs.lemmas.List.{length-map, get_or-map}
use Rattle.std.proofs.lemmas.Bool.{lt-ltb, ltb-true, cond-true}
use Rattle.circuit.specs.declared.gate.Gate.{Gate}
use Rattle.circuit.specs.declared.gate.Gate.TheVariants.{Phase, Hadamard, Not, ControlledNot, Toffoli}
use Rattle.circuit.specs.declared.refusal.Refusal.{Refusal}
use Rattle.circuit.specs.declared.refusal.Refusal.TheVariants.{Text}
use Rattle.laws.specs.Rename.{all_renamed}
use Rattle.text.specs.declared.token.Token.{Token}
use Rattle.text.specs.declared.token.Token.TheVariants as token
use Rattle.text.specs.declared.statement.Part.{Part}
use Rattle.text.specs.declared.statement.Part.TheVariants.{Start, TurnQubit, MixQubit, FlipQubit, FlipMore, FlipIf, FlipTwo, Ends, CallBlock, CallOn, Naming}
use Rattle.text.specs.declared.statement.Brace.{Brace}
use Rattle.text.specs.declared.statement.Brace.TheVariants.{Undo, Times}
use Rattle.text.specs.declared.statement.Move.TheVariants as move
use Rattle.text.specs.Move.{on_number}
use Rattle.text.specs.Program.{Program, nothing, gate, next, times, undo, call, Blocks, none, and, spelt, written, count, blocks_written, Known, unknown, flat, known, gate_checks, has, names_checks, checks, blocks_checks, span, reach, width}
use Rattle.text.specs.Reading.{State, Held, Kept, Row, no_block, capped, put, room_in, goes_to, over_with, made_of, no_braces, fitting, named, settle, settles, act, step, follow, runs}
use Rattle.text.proofs.Rows.{cap_none, put-capped, braced-capped, length-renamed}

-- ---- runs of signs one after another

abbrev pub then : Result State Refusal → (State → Result State Refusal) → Result State Refusal
then (Ok s) f = f s
then (Err r) f = Err r

then_follow : (o : Option State) (i : ℕ) (f g : State → Result State Refusal) → then (follow o i f) g ≡ follow o i (λ s. then (f s) g)
then_follow None i f g = refl
then_follow (Some s) i f g = refl

follow-same : (o : Option State) (i : ℕ) (f g : State → Result State Refusal) → ((s : State) → f s ≡ g s) → follow o i f ≡ follow o i g
follow-same None i f g h = refl
follow-same (Some s) i f g h = h s

pub runs_append : (limit : ℕ) (s : State) (i : ℕ) (ts us : List Token) → runs limit s i (ts ++ us) ≡ then (runs limit s i ts) (λ n. runs limit n (i + length ts) us)
runs_append limit s i [] us = ap (λ k. runs limit s k us) (omega arith)
runs_append limit s i (t ∷ ts) us =
    follow-same (step limit i s t) i _ _ (λ n. runs_append limit n (i + 1) ts us ∙ ap (λ k. then (runs limit n (i + 1) ts) (λ m. runs limit m k us)) (omega arith))
    ∙ sym (then_follow (step limit i s t) i (λ n. runs limit n (i + 1) ts) (λ m. runs limit m (i + length (t ∷ ts)) us))

-- r, unless a sign may not stand: then the first of those is refused
abbrev pub guard : ℕ → List Bool → Result State Refusal → Result State Refusal
guard i [] r = r
guard i (b ∷ bs) r = cond b (guard (i + 1) bs r) (Err (Text i))

guard_append : (i : ℕ) (cs bs : List Bool) (r : Result State Refusal) → guard i (cs ++ bs) r ≡ guard i cs (guard (i + length cs) bs r)
guard_append i [] bs r = ap (λ k. guard k bs r) (omega arith)
guard_append i (a ∷ cs) bs r = ap (λ q. cond a q (Err (Text i))) (guard_append (i + 1) cs bs r ∙ ap (λ k. guard (i + 1) cs (guard k bs r)) (omega arith))

then_guard : (i : ℕ) (bs : List Bool) (s : State) (f : State → Result State Refusal) → then (guard i bs (Ok s)) f ≡ guard i bs (f s)
then_guard i [] s f = refl
then_guard i (true ∷ bs) s f = then_guard (i + 1) bs s f
then_guard i (false ∷ bs) s f = refl

-- two pieces of text, each read up to its first fault
pub both_read : (limit : ℕ) (s : State) (i : ℕ) (ts us : List Token) (cs bs : List Bool) (m : State) (r : Result State Refusal) → length cs ≡ length ts → runs limit s i ts ≡ guard i cs (Ok m) → runs limit m (i + length ts) us ≡ guard (i + length ts) bs r → runs limit s i (ts ++ us) ≡ guard i (cs ++ bs) r
both_read limit s i ts us cs bs m r same first second =
    runs_append limit s i ts us
    ∙ ap (λ q. then q (λ n. runs limit n (i + length ts) us)) first
    ∙ then_guard i cs m (λ n. runs limit n (i + length ts) us)
    ∙ ap (guard i cs) (second ∙ ap (λ k. guard (i + k) bs r) (sym same))
    ∙ sym (guard_append i cs bs r)

-- ---- cs many checks cs signs

length-names : (n size : ℕ) (ns qs : List ℕ) → length (names_checks n size ns qs) ≡ length (map token.Number qs ++ token.Semicolon ∷ [])
length-names n size ns [] = refl
length-names n size ns (q ∷ qs) = ap suc (length-names n size (ns ++ q ∷ []) qs)

length-gate : (n : ℕ) (g : Gate) → length (gate_checks n g) ≡ length (spelt g)
length-gate n (Phase m q) = refl
length-gate n (Hadamard q) = refl
length-gate n (Not q) = refl
length-gate n (ControlledNot c q) = refl
length-gate n (Toffoli c d q) = refl

pub length-checks : (n : ℕ) (ks : List Known) (p : Program) → length (checks n ks p) ≡ length (written p)
length-checks n ks nothing = refl
length-checks n ks (gate g) = length-gate n g
length-checks n ks (next p q) = length-append (checks n ks p) (checks n ks q) ∙ (λ i. length-checks n ks p i + length-checks n ks q i) ∙ sym (length-append (written p) (written q))
length-checks n ks (times m p) = omega (arith, length-checks n ks p, length-append (checks n ks p) (true ∷ []), length-append (written p) (token.Close ∷ []))
length-checks n ks (undo p) = omega (arith, length-checks n ks p, length-append (checks n ks p) (true ∷ []), length-append (written p) (token.Close ∷ []))
length-checks n ks (call k qs) = omega (arith, length-names n (get_or ks k unknown).size [] qs)

pub length-blocks : (bs : Blocks) → length (blocks_checks bs) ≡ length (blocks_written bs)
length-blocks none = refl
length-blocks (and bs n p) =
    omega (
      arith,
      length-blocks bs,
      length-checks n (known bs) p,
      length-append (checks n (known bs) p) (true ∷ []),
      length-append (written p) (token.Close ∷ []),
      length-append (blocks_checks bs) (true ∷ true ∷ true ∷ true ∷ true ∷ (checks n (known bs) p ++ true ∷ [])),
      length-append (blocks_written bs) (token.Block ∷ token.Number (count bs) ∷ token.Of ∷ token.Number n ∷ token.Open ∷ (written p ++ token.Close ∷ [])),
    )

pub count-known : (bs : Blocks) → count bs ≡ length (known bs)
count-known none = refl
count-known (and bs n p) = omega (arith, count-known bs, length-append (known bs) (record { size = n; row = flat (known bs) p } ∷ []))

-- the place after signs
abbrev ending : ℕ → List Token → ℕ
ending i [] = i
ending i (t ∷ ts) = ending (i + 1) ts

ending_is : (i : ℕ) (ts : List Token) → ending i ts ≡ i + length ts
ending_is i [] = omega arith
ending_is i (t ∷ ts) = ending_is (i + 1) ts ∙ omega arith

module _ (limit : ℕ) where
  -- what is kept of a block
  abbrev pub kept : Known → Kept
  kept k = record { size = k.size; row = capped limit k.row }

  pub kept_at : (ks : List Known) (k : ℕ) → k < length ks → get_or (map kept ks) k no_block ≡ kept (get_or ks k unknown)
  kept_at ks k h = get_or-map kept ks k unknown no_block h

  -- between statements
  abbrev pub at : List Kept → Option ℕ → List Held → Row → Bool → ℕ → ℕ → State
  at bs inside hs row fresh wide fits = record { part = Start; braces = hs; row = row; names = []; blocks = bs; inside = inside; fresh = fresh; wide = wide; fits = fits }

  abbrev pub fit-after : List Held → Row → ℕ → ℕ → ℕ
  fit-after hs row j fits = cond (no_braces hs && fitting row) j fits

  -- one sign, by a test
  step-number : (b : Bool) (q : ℕ) (to : ℕ → Part) (s : State) (j : ℕ) (f : State → Result State Refusal) → follow (settles j (act limit s (on_number (cond b (Some q) None) (λ n. move.Go (to n))))) j f ≡ cond b (f (settle j (goes_to (to q) s))) (Err (Text j))
  step-number true q to s j f = refl
  step-number false q to s j f = refl

  step_name : (b : Bool) (k q : ℕ) (s : State) (j : ℕ) (f : State → Result State Refusal) → follow (settles j (act limit s (on_number (cond b (Some q) None) (λ n. move.Name k n)))) j f ≡ cond b (follow (settles j (named k q s)) j f) (Err (Text j))
  step_name true k q s j f = refl
  step_name false k q s j f = refl

  step-two : (a b : Bool) (n : State) (j : ℕ) (f : State → Result State Refusal) → follow (settles j (cond a (cond b None (Some n)) None)) j f ≡ cond (a && not b) (f (settle j n)) (Err (Text j))
  step-two true true n j f = refl
  step-two true false n j f = refl
  step-two false b n j f = refl

  step-one : (a : Bool) (n : State) (j : ℕ) (f : State → Result State Refusal) → follow (settles j (cond a (Some n) None)) j f ≡ cond a (f (settle j n)) (Err (Text j))
  step-one true n j f = refl
  step-one false n j f = refl

  cond-and : (a b : Bool) (x e : Result State Refusal) → cond a (cond b x e) e ≡ cond (a && b) x e
  cond-and true b x e = refl
  cond-and false b x e = refl

  if_true : (b : Bool) (x y e : Result State Refusal) → (b ≡ true → x ≡ y) → cond b x e ≡ cond b y e
  if_true true x y e h = h refl
  if_true false x y e h = refl

  module _ (bs : List Kept) (inside : Option ℕ) (hs : List Held) (row : Row) (fresh : Bool) (wide fits i : ℕ) where
    abbrev here : State
    here = at bs inside hs row fresh wide fits

    abbrev said-gate : Gate → ℕ → State
    said-gate g j = at bs inside hs (put limit (λ gs. g ∷ gs) row (Some [])) false (max wide (reach g)) (fit-after hs (put limit (λ gs. g ∷ gs) row (Some [])) j fits)

    -- a gate's signs do what saying the gate does
    gate-read : (g : Gate) → runs limit here i (spelt g) ≡ guard i (gate_checks (room_in inside) g) (Ok (said-gate g (ending i (spelt g))))
    gate-read (Phase m q) = step-number (ltb q (room_in inside)) q (λ n. Ends (Phase m n)) (goes_to (TurnQubit m) here) (i + 1 + 1 + 1) (λ n. runs limit n (i + 1 + 1 + 1 + 1) (token.Semicolon ∷ []))
    gate-read (Hadamard q) = step-number (ltb q (room_in inside)) q (λ n. Ends (Hadamard n)) (goes_to MixQubit here) (i + 1) (λ n. runs limit n (i + 1 + 1) (token.Semicolon ∷ []))
    gate-read (Not q) = step-number (ltb q (room_in inside)) q FlipMore (goes_to FlipQubit here) (i + 1) (λ n. runs limit n (i + 1 + 1) (token.Semicolon ∷ []))
    gate-read (ControlledNot c q) =
        step-number (ltb q (room_in inside)) q FlipMore (goes_to FlipQubit here) (i + 1) (λ n. runs limit n (i + 1 + 1) (token.If ∷ token.Number c ∷ token.Semicolon ∷ []))
        ∙ ap (λ r. cond (ltb q (room_in inside)) r (Err (Text (i + 1))))
        (step-number (ltb c (room_in inside)) c (λ n. FlipTwo n q) (goes_to (FlipIf q) here) (i + 1 + 1 + 1) (λ n. runs limit n (i + 1 + 1 + 1 + 1) (token.Semicolon ∷ [])))
    gate-read (Toffoli c d q) =
        step-number (ltb q (room_in inside)) q FlipMore (goes_to FlipQubit here) (i + 1) (λ n. runs limit n (i + 1 + 1) (token.If ∷ token.Number c ∷ token.Number d ∷ token.Semicolon ∷ []))
        ∙ ap (λ r. cond (ltb q (room_in inside)) r (Err (Text (i + 1))))
        (step-number (ltb c (room_in inside)) c (λ n. FlipTwo n q) (goes_to (FlipIf q) here) (i + 1 + 1 + 1) (λ n. runs limit n (i + 1 + 1 + 1 + 1) (token.Number d ∷ token.Semicolon ∷ []))
        ∙ ap (λ r. cond (ltb c (room_in inside)) r (Err (Text (i + 1 + 1 + 1))))
        (step-number (ltb d (room_in inside)) d (λ n. Ends (Toffoli c n q)) (goes_to (FlipTwo c q) here) (i + 1 + 1 + 1 + 1) (λ n. runs limit n (i + 1 + 1 + 1 + 1 + 1) (token.Semicolon ∷ []))))

    abbrev naming : ℕ → List ℕ → State
    naming k ns = record { part = Naming k; braces = hs; row = row; names = ns; blocks = bs; inside = inside; fresh = fresh; wide = wide; fits = fits }

    abbrev called-row : ℕ → List ℕ → Row
    called-row k ns = put limit (all_renamed (λ q. get_or ns q 0)) row (get_or bs k no_block).row

    abbrev said-call : ℕ → List ℕ → ℕ → State
    said-call k ns j = at bs inside hs (called-row k ns) false (max wide (span ns)) (fit-after hs (called-row k ns) j fits)

    names-read : (k : ℕ) → k < length bs → (ns qs : List ℕ) (m : ℕ) → runs limit (naming k ns) m (map token.Number qs ++ token.Semicolon ∷ []) ≡ guard m (names_checks (room_in inside) (get_or bs k no_block).size ns qs) (Ok (said-call k (ns ++ qs) (ending m (map token.Number qs ++ token.Semicolon ∷ []))))
    names-read k some ns [] m =
        ap (λ o. follow (settles m o) m (λ n. Ok n)) (cond-true _ _ _ (lt-ltb k (length bs) some))
        ∙ step-one (eqb (length ns) (get_or bs k no_block).size) (over_with (naming k ns) (called-row k ns) (span ns)) m (λ n. Ok n)
        ∙ ap (λ l. cond (eqb (length ns) (get_or bs k no_block).size) (Ok (said-call k l (m + 1))) (Err (Text m))) (sym (append-nil ns))
    names-read k some ns (q ∷ qs) m =
        let size = (get_or bs k no_block).size in
        let go : State → Result State Refusal = λ n. runs limit n (m + 1) (map token.Number qs ++ token.Semicolon ∷ []) in
        step_name (ltb q (room_in inside)) k q (naming k ns) m go
        ∙ ap (λ r. cond (ltb q (room_in inside)) r (Err (Text m))) (step-two (ltb (length ns) size) (has q ns) (naming k (ns ++ q ∷ [])) m go)
        ∙ cond-and (ltb q (room_in inside)) (ltb (length ns) size && not (has q ns)) (go (naming k (ns ++ q ∷ []))) (Err (Text m))
        ∙ ap (λ r. cond (ltb q (room_in inside) && (ltb (length ns) size && not (has q ns))) r (Err (Text m)))
        (names-read k some (ns ++ q ∷ []) qs (m + 1)
        ∙ ap (λ l. guard (m + 1) (names_checks (room_in inside) size (ns ++ q ∷ []) qs) (Ok (said-call k l (ending (m + 1) (map token.Number qs ++ token.Semicolon ∷ []))))) (append_assoc ns (q ∷ []) qs))

  -- ---- programs

  abbrev pub fresh-after : Program → Bool → Bool
  fresh-after nothing f = f
  fresh-after (next p q) f = fresh-after q (fresh-after p f)
  fresh-after p f = false

  module _ (ks : List Known) where
    -- after x, read from the sign i on
    abbrev pub fits_after : List Held → List Gate → Program → ℕ → ℕ → ℕ
    fits_after hs x nothing fits i = fits
    fits_after hs x (next p q) fits i = fits_after hs (x ++ flat ks p) q (fits_after hs x p fits i) (i + length (written p))
    fits_after hs x (gate g) fits i = fit-after hs (capped limit (x ++ g ∷ [])) (i + length (spelt g)) fits
    fits_after hs x (times n p) fits i = fit-after hs (capped limit (x ++ flat ks (times n p))) (i + length (written (times n p))) fits
    fits_after hs x (undo p) fits i = fit-after hs (capped limit (x ++ flat ks (undo p))) (i + length (written (undo p))) fits
    fits_after hs x (call k qs) fits i = fit-after hs (capped limit (x ++ flat ks (call k qs))) (i + length (written (call k qs))) fits

    fits-still : (h : Held) (hs : List Held) (x : List Gate) (p : Program) (fits i : ℕ) → fits_after (h ∷ hs) x p fits i ≡ fits
    fits-still h hs x (next p q) fits i = fits-still h hs (x ++ flat ks p) q (fits_after (h ∷ hs) x p fits i) (i + length (written p)) ∙ fits-still h hs x p fits i
    fits-still h hs x p fits i = refl

    module _ (inside : Option ℕ) where
      abbrev pub after : List Held → List Gate → Program → Bool → ℕ → ℕ → ℕ → State
      after hs x p fresh wide fits i = at (map kept ks) inside hs (capped limit (x ++ flat ks p)) (fresh-after p fresh) (max wide (width p)) (fits_after hs x p fits i)

      abbrev Reads : Program → Type 0
      Reads p = (hs : List Held) (x : List Gate) (fresh : Bool) (wide fits i : ℕ) → runs limit (at (map kept ks) inside hs (capped limit x) fresh wide fits) i (written p) ≡ guard i (checks (room_in inside) ks p) (Ok (after hs x p fresh wide fits i))

      brace-reads : (b : Brace) (p : Program) → Reads p → (hs : List Held) (x : List Gate) (wide fits i : ℕ) → runs limit (at (map kept ks) inside (record { brace = b; before = capped limit x } ∷ hs) (Some []) false wide fits) i (written p ++ token.Close ∷ []) ≡ guard i (checks (room_in inside) ks p ++ true ∷ []) (Ok (at (map kept ks) inside hs (capped limit (x ++ made_of b (flat ks p))) false (max wide (width p)) (fit-after hs (capped limit (x ++ made_of b (flat ks p))) (i + length (written p) + 1) fits)))
      brace-reads b p read hs x wide fits i =
          let hs' = record { brace = b; before = capped limit x } ∷ hs in
          both_read limit _ i (written p) (token.Close ∷ []) (checks (room_in inside) ks p) (true ∷ []) (after hs' [] p false wide fits i) _ (length-checks (room_in inside) ks p)
          (ap (λ r. runs limit (at (map kept ks) inside hs' r false wide fits) i (written p)) (sym (cap_none limit)) ∙ read hs' [] false wide fits i)
          (λ j. Ok (at (map kept ks) inside hs (braced-capped limit b x (flat ks p) j) false (max wide (width p)) (fit-after hs (braced-capped limit b x (flat ks p) j) (i + length (written p) + 1) (fits-still (record { brace = b; before = capped limit x }) hs [] p fits i j))))

      call-read : (k : ℕ) (qs : List ℕ) (hs : List Held) (x : List Gate) (fresh : Bool) (wide fits i : ℕ) → k < length ks → runs limit (naming (map kept ks) inside hs (capped limit x) fresh wide fits i k []) (i + 1 + 1 + 1) (map token.Number qs ++ token.Semicolon ∷ []) ≡ guard (i + 1 + 1 + 1) (names_checks (room_in inside) (get_or ks k unknown).size [] qs) (Ok (after hs x (call k qs) fresh wide fits i))
      call-read k qs hs x fresh wide fits i some =
          let b = kept_at ks k some in
          let f : List Gate → List Gate = all_renamed (λ q. get_or qs q 0) in
          let row : put limit f (capped limit x) (get_or (map kept ks) k no_block).row ≡ capped limit (x ++ f (get_or ks k unknown).row) = ap (λ r. put limit f (capped limit x) r.row) b ∙ put-capped limit f x (get_or ks k unknown).row (omega (arith, length-renamed (λ q. get_or qs q 0) (get_or ks k unknown).row)) in
          names-read (map kept ks) inside hs (capped limit x) fresh wide fits i k (omega (arith, length-map ks kept)) [] qs (i + 1 + 1 + 1)
          ∙ (λ j. guard (i + 1 + 1 + 1) (names_checks (room_in inside) (b j).size [] qs) (Ok (at (map kept ks) inside hs (row j) false (max wide (span qs)) (fit-after hs (row j) (ending_is i (written (call k qs)) j) fits))))

      pub reads : (p : Program) → Reads p
      reads nothing hs x fresh wide fits i = λ j. Ok (at (map kept ks) inside hs (capped limit (sym (append-nil x) j)) fresh (let e : wide ≡ max wide 0 = omega arith in e j) fits)
      reads (gate g) hs x fresh wide fits i =
          let row : put limit (λ gs. g ∷ gs) (capped limit x) (Some []) ≡ capped limit (x ++ g ∷ []) = ap (put limit (λ gs. g ∷ gs) (capped limit x)) (sym (cap_none limit)) ∙ put-capped limit (λ gs. g ∷ gs) x [] (omega arith) in
          gate-read (map kept ks) inside hs (capped limit x) fresh wide fits i g
          ∙ (λ j. guard i (gate_checks (room_in inside) g) (Ok (at (map kept ks) inside hs (row j) false (max wide (reach g)) (fit-after hs (row j) (ending_is i (spelt g) j) fits))))
      reads (next p q) hs x fresh wide fits i =
          both_read limit _ i (written p) (written q) (checks (room_in inside) ks p) (checks (room_in inside) ks q) (after hs x p fresh wide fits i) _ (length-checks (room_in inside) ks p)
          (reads p hs x fresh wide fits i)
          (reads q hs (x ++ flat ks p) (fresh-after p fresh) (max wide (width p)) (fits_after hs x p fits i) (i + length (written p))
          ∙ (λ j. guard (i + length (written p)) (checks (room_in inside) ks q) (Ok (at (map kept ks) inside hs (capped limit (append_assoc x (flat ks p) (flat ks q) j)) (fresh-after (next p q) fresh) (let e : max (max wide (width p)) (width q) ≡ max wide (max (width p) (width q)) = omega arith in e j) (fits_after hs x (next p q) fits i)))))
      reads (times n p) hs x fresh wide fits i =
          let e : i + 1 + 1 + 1 + length (written p) + 1 ≡ i + length (written (times n p)) = omega (arith, length-append (written p) (token.Close ∷ [])) in
          brace-reads (Times n) p (reads p) hs x wide fits (i + 1 + 1 + 1)
          ∙ ap (λ k. guard (i + 1 + 1 + 1) (checks (room_in inside) ks p ++ true ∷ []) (Ok (at (map kept ks) inside hs (capped limit (x ++ flat ks (times n p))) false (max wide (width p)) (fit-after hs (capped limit (x ++ flat ks (times n p))) k fits)))) e
      reads (undo p) hs x fresh wide fits i =
          let e : i + 1 + 1 + length (written p) + 1 ≡ i + length (written (undo p)) = omega (arith, length-append (written p) (token.Close ∷ [])) in
          brace-reads Undo p (reads p) hs x wide fits (i + 1 + 1)
          ∙ ap (λ k. guard (i + 1 + 1) (checks (room_in inside) ks p ++ true ∷ []) (Ok (at (map kept ks) inside hs (capped limit (x ++ flat ks (undo p))) false (max wide (width p)) (fit-after hs (capped limit (x ++ flat ks (undo p))) k fits)))) e
      reads (call k qs) hs x fresh wide fits i =
          step-number (ltb k (length (map kept ks))) k CallOn (goes_to CallBlock (at (map kept ks) inside hs (capped limit x) fresh wide fits)) (i + 1) (λ n. runs limit n (i + 1 + 1) (token.On ∷ (map token.Number qs ++ token.Semicolon ∷ [])))
          ∙ ap (λ b. cond b (runs limit (naming (map kept ks) inside hs (capped limit x) fresh wide fits i k []) (i + 1 + 1 + 1) (map token.Number qs ++ token.Semicolon ∷ [])) (Err (Text (i + 1)))) (ap (ltb k) (length-map ks kept))
          ∙ if_true (ltb k (length ks)) _ _ (Err (Text (i + 1))) (λ t. call-read k qs hs x fresh wide fits i (ltb-true k (length ks) t))
