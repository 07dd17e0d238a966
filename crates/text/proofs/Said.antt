-- What a text says is what is read of it.
use Rattle.std.proofs.Common.{◌≡◌, ℕ, zero, suc, ◌+◌, ◌<◌, ◌≤◌, Bool, true, false, cond, List, [], ◌∷◌, ◌++◌, map, length, take, Some, None, Ok, Err, Result, sym, refl, ap, ◌∙◌, append_assoc, arith, length-append}
use mathlib.Core.Bool.{false≢true}
use Rattle.std.proofs.lemmas.List.{length-map, map_push}
use Rattle.std.proofs.lemmas.Bool.{eq-eqb, cond-true}
use Rattle.circuit.specs.declared.gate.Gate.{Gate}
use Rattle.circuit.specs.declared.refusal.Refusal.{Refusal}
use Rattle.circuit.specs.declared.refusal.Refusal.TheVariants.{Text}
use Rattle.text.specs.declared.token.Token.{Token}
use Rattle.text.specs.declared.token.Token.TheVariants as token
use Rattle.text.specs.Program.{Program, nothing, gate, next, times, undo, call, Blocks, none, and, Source, written, count, blocks_written, text_of, Known, flat, known, checks, blocks_checks, checks_of, AllTrue, Says, Begins, Single, Over}
use Rattle.text.specs.Reading.{State, capped, fitting, runs, begins, finished, reading}
use Rattle.text.proofs.Rows.{cap_none, cap_fits, cap_over}
use Rattle.text.proofs.Steps.{short}
use Rattle.text.proofs.Written.{then, runs_append, guard, both_read, length-checks, length-blocks, count-known, kept, at, fit-after, fits_after, after, reads}

pub differ : {T : Type 0} (r : Result T Refusal) (x : T) (f : Refusal) → r ≡ Ok x → r ≡ Err f → ⊥
differ r x f p q = let z : ◌≡◌ {A = ℕ} 0 1 = cc in omega arith

guard_all : (i : ℕ) (bs : List Bool) (r : Result State Refusal) → AllTrue bs → guard i bs r ≡ r
guard_all i [] r a = refl
guard_all i (b ∷ bs) r a = cond-true _ _ _ a.0 ∙ guard_all (i + 1) bs r a.1

guard_late : (i j : ℕ) (bs : List Bool) (x : State) → guard i bs (Ok x) ≡ Err (Text j) → i ≤ j
guard_late i j [] x h = absurd (differ (Ok x) x (Text j) refl h)
guard_late i j (true ∷ bs) x h = omega (arith, guard_late (i + 1) j bs x h)
guard_late i j (false ∷ bs) x h = let z : i ≡ j = cc in omega arith

-- the fault is behind the signs that may stand
guard_front : (i j m : ℕ) (bs : List Bool) (x : State) → AllTrue (take m bs) → guard i bs (Ok x) ≡ Err (Text j) → i + m ≤ j
guard_front i j zero bs x a h = omega (arith, guard_late i j bs x h)
guard_front i j (suc m) [] x a h = absurd (differ (Ok x) x (Text j) refl h)
guard_front i j (suc m) (true ∷ bs) x a h = omega (arith, guard_front (i + 1) j m bs x a.1 h)
guard_front i j (suc m) (false ∷ bs) x a h = absurd (false≢true a.0)

module _ (limit : ℕ) where
  abbrev fresh_state : List Known → ℕ → State
  fresh_state ks j = at limit (map (kept limit) ks) None [] (Some []) true 0 j

  block_read : (ks : List Known) (k n : ℕ) (p : Program) (i fits : ℕ) → k ≡ length ks → runs limit (fresh_state ks fits) i (token.Block ∷ token.Number k ∷ token.Of ∷ token.Number n ∷ token.Open ∷ (written p ++ token.Close ∷ [])) ≡ guard i (true ∷ true ∷ true ∷ true ∷ true ∷ (checks n ks p ++ true ∷ [])) (Ok (fresh_state (ks ++ record { size = n; row = flat ks p } ∷ []) (i + length (token.Block ∷ token.Number k ∷ token.Of ∷ token.Number n ∷ token.Open ∷ (written p ++ token.Close ∷ [])))))
  block_read ks k n p i fits e =
      let j = i + 1 + 1 + 1 + 1 + 1 in
      let more : j + length (written p) + 1 ≡ i + length (token.Block ∷ token.Number k ∷ token.Of ∷ token.Number n ∷ token.Open ∷ (written p ++ token.Close ∷ [])) = omega (arith, length-append (written p) (token.Close ∷ [])) in
      rw (eq-eqb k (length (map (kept limit) ks)) (e ∙ sym (length-map ks (kept limit))))
      (both_read limit (at limit (map (kept limit) ks) (Some n) [] (Some []) false 0 j) j (written p) (token.Close ∷ []) (checks n ks p) (true ∷ []) (after limit ks (Some n) [] [] p false 0 j j) _ (length-checks n ks p)
      (ap (λ r. runs limit (at limit (map (kept limit) ks) (Some n) [] r false 0 j) j (written p)) (sym (cap_none limit)) ∙ reads limit ks (Some n) p [] [] false 0 j j)
      (λ t. Ok (at limit (sym (map_push (kept limit) ks (record { size = n; row = flat ks p })) t) None [] (Some []) true 0 (more t))))

  blocks-read : (bs : Blocks) → runs limit begins 0 (blocks_written bs) ≡ guard 0 (blocks_checks bs) (Ok (fresh_state (known bs) (length (blocks_written bs))))
  blocks-read none = refl
  blocks-read (and bs n p) =
      let this = token.Block ∷ token.Number (count bs) ∷ token.Of ∷ token.Number n ∷ token.Open ∷ (written p ++ token.Close ∷ []) in
      let whole : 0 + length (blocks_written bs) + length this ≡ length (blocks_written bs ++ this) = omega (arith, length-append (blocks_written bs) this) in
      both_read limit begins 0 (blocks_written bs) this (blocks_checks bs) _ (fresh_state (known bs) (length (blocks_written bs))) _ (length-blocks bs) (blocks-read bs)
      (block_read (known bs) (count bs) n p (0 + length (blocks_written bs)) (length (blocks_written bs)) (count-known bs)
      ∙ ap (λ k. guard (0 + length (blocks_written bs)) (true ∷ true ∷ true ∷ true ∷ true ∷ (checks n (known bs) p ++ true ∷ [])) (Ok (fresh_state (known (and bs n p)) k))) whole)

  -- what a text comes to
  abbrev pub final : Source → State
  final s = after limit (known s.blocks) None [] [] s.program true 0 (length (blocks_written s.blocks)) (0 + length (blocks_written s.blocks))

  pub source-runs : (s : Source) → runs limit begins 0 (text_of s) ≡ guard 0 (checks_of s) (Ok (final s))
  source-runs s =
      let j = length (blocks_written s.blocks) in
      both_read limit begins 0 (blocks_written s.blocks) (written s.program) (blocks_checks s.blocks) (checks 256 (known s.blocks) s.program) (fresh_state (known s.blocks) j) (Ok (final s)) (length-blocks s.blocks) (blocks-read s.blocks)
      (ap (λ r. runs limit (at limit (map (kept limit) (known s.blocks)) None [] r true 0 j) (0 + j) (written s.program)) (sym (cap_none limit)) ∙ reads limit (known s.blocks) None s.program [] [] true 0 j (0 + j))

  pub source-read : (s : Source) (ts : List Token) → text_of s ≡ ts → AllTrue (checks_of s) → length ts ≤ 4096 → reading limit ts ≡ Ok (final s)
  source-read s ts e a brief =
      short limit ts brief ∙ ap (λ us. finished (length ts) (runs limit begins 0 us)) (sym e) ∙ ap (finished (length ts)) (source-runs s ∙ guard_all 0 (checks_of s) (Ok (final s)) a)

  -- what is refused begins no text
  pub not-begun : (ts : List Token) (j : ℕ) → runs limit begins 0 ts ≡ Err (Text j) → j < length ts → Begins ts → ⊥
  not-begun ts j h inside b =
      let bad : runs limit begins 0 (text_of b.source) ≡ Err (Text j) = ap (runs limit begins 0) b.text ∙ runs_append limit begins 0 ts b.more ∙ ap (λ q. then q (λ n. runs limit n (0 + length ts) b.more)) h in
      let late = guard_front 0 j (length ts) (checks_of b.source) (final b.source) b.fine (sym (source-runs b.source) ∙ bad) in
      omega arith

  -- ---- where the gates become too many

  module _ (ks : List Known) where
    fit_none : (y : List Gate) (j fits : ℕ) → limit < length y → fit-after limit [] (capped limit y) j fits ≡ fits
    fit_none y j fits h = ap (λ r. cond (fitting r) j fits) (cap_over limit y h)

    fit-some : (y : List Gate) (j fits : ℕ) → length y ≤ limit → fit-after limit [] (capped limit y) j fits ≡ j
    fit-some y j fits h = ap (λ r. cond (fitting r) j fits) (cap_fits limit y h)

    pub fits_past : (x : List Gate) (p : Program) (fits i : ℕ) → limit < length x → fits_after limit ks [] x p fits i ≡ fits
    fits_past x nothing fits i h = refl
    fits_past x (gate g) fits i h = fit_none (x ++ g ∷ []) _ fits (omega (arith, length-append x (g ∷ [])))
    fits_past x (next p q) fits i h = fits_past (x ++ flat ks p) q _ _ (omega (arith, length-append x (flat ks p))) ∙ fits_past x p fits i h
    fits_past x (times n p) fits i h = fit_none (x ++ flat ks (times n p)) _ fits (omega (arith, length-append x (flat ks (times n p))))
    fits_past x (undo p) fits i h = fit_none (x ++ flat ks (undo p)) _ fits (omega (arith, length-append x (flat ks (undo p))))
    fits_past x (call k qs) fits i h = fit_none (x ++ flat ks (call k qs)) _ fits (omega (arith, length-append x (flat ks (call k qs))))

    pub fits-single : (x : List Gate) (p : Program) (fits i : ℕ) → Single p → limit < length (x ++ flat ks p) → fits_after limit ks [] x p fits i ≡ fits
    fits-single x nothing fits i s h = absurd s
    fits-single x (gate g) fits i s h = fit_none (x ++ g ∷ []) _ fits h
    fits-single x (next p q) fits i s h = absurd s
    fits-single x (times n p) fits i s h = fit_none (x ++ flat ks (times n p)) _ fits h
    fits-single x (undo p) fits i s h = fit_none (x ++ flat ks (undo p)) _ fits h
    fits-single x (call k qs) fits i s h = fit_none (x ++ flat ks (call k qs)) _ fits h

    pub fits_within : (x : List Gate) (p : Program) (fits i : ℕ) → length (x ++ flat ks p) ≤ limit → fits ≡ i → fits_after limit ks [] x p fits i ≡ i + length (written p)
    fits_within x nothing fits i h e = omega arith
    fits_within x (gate g) fits i h e = fit-some (x ++ g ∷ []) _ fits h
    fits_within x (next p q) fits i h e =
        let long = ap length (append_assoc x (flat ks p) (flat ks q)) in
        let parts = length-append (x ++ flat ks p) (flat ks q) in
        fits_within (x ++ flat ks p) q (fits_after limit ks [] x p fits i) (i + length (written p)) (omega arith) (fits_within x p fits i (omega arith) e)
        ∙ omega (arith, length-append (written p) (written q))
    fits_within x (times n p) fits i h e = fit-some (x ++ flat ks (times n p)) _ fits h
    fits_within x (undo p) fits i h e = fit-some (x ++ flat ks (undo p)) _ fits h
    fits_within x (call k qs) fits i h e = fit-some (x ++ flat ks (call k qs)) _ fits h

  abbrev pub over-source : {ts : List Token} {i : ℕ} → Over limit ts i → Source
  over-source o = record { blocks = o.blocks; program = next o.before (next o.statement o.after) }

  pub over-read : (ts : List Token) (i : ℕ) (o : Over limit ts i) → reading limit ts ≡ Ok (final (over-source o))
  over-read ts i o = source-read (over-source o) ts o.text o.fine o.brief

  pub over-fits : (ts : List Token) (i : ℕ) (o : Over limit ts i) → (final (over-source o)).fits ≡ i
  over-fits ts i o =
      let ks = known o.blocks in
      let j = length (blocks_written o.blocks) in
      fits_past ks (flat ks o.before ++ flat ks o.statement) o.after _ _ o.many
      ∙ fits-single ks (flat ks o.before) o.statement _ _ o.single o.many
      ∙ fits_within ks [] o.before j (0 + j) o.few (omega arith)
      ∙ omega (arith, o.place, length-append (blocks_written o.blocks) (written o.before))

  pub over-row : (ts : List Token) (i : ℕ) (o : Over limit ts i) → (final (over-source o)).row ≡ None
  over-row ts i o =
      let ks = known o.blocks in
      cap_over limit (flat ks o.before ++ (flat ks o.statement ++ flat ks o.after))
      (omega (arith, o.many, length-append (flat ks o.before) (flat ks o.statement), length-append (flat ks o.before) (flat ks o.statement ++ flat ks o.after), length-append (flat ks o.statement) (flat ks o.after)))

  pub said_read : (ts : List Token) (gs : List Gate) (s : Says limit ts gs) → reading limit ts ≡ Ok (final s.source)
  said_read ts gs s = source-read s.source ts s.text s.fine s.brief

  pub said_row : (ts : List Token) (gs : List Gate) (s : Says limit ts gs) → (final s.source).row ≡ Some gs
  said_row ts gs s = ap (capped limit) s.gates ∙ cap_fits limit gs s.few
