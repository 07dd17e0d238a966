-- What has been read can be gone on with.
use Rattle.std.proofs.Common.{◌≡◌, ℕ, ◌+◌, ◌≤◌, Bool, true, eqb, ltb, List, [], ◌∷◌, ◌++◌, length, get_or, take, Some, None, Option, sym, refl, ap, ◌∙◌, subst, append_assoc, append-nil, arith, length-append}
use lib.Seq.{take-append_seam}
use Rattle.std.proofs.lemmas.List.{length-map}
use Rattle.circuit.specs.declared.gate.Gate.{Gate}
use Rattle.circuit.specs.declared.gate.Gate.TheVariants.{Phase, Hadamard, Not, ControlledNot, Toffoli}
use Rattle.text.specs.declared.token.Token.{Token}
use Rattle.text.specs.declared.token.Token.TheVariants as token
use Rattle.text.specs.declared.token.Token.TheVariants.{Number, Open, Close, Semicolon}
use Rattle.text.specs.declared.statement.Part.{Part}
use Rattle.text.specs.declared.statement.Part.TheVariants.{Start, TurnBy, TurnOf, TurnQubit, MixQubit, FlipQubit, FlipMore, FlipIf, FlipTwo, Ends, UndoOpens, TimesWord, TimesOpens, CallBlock, CallOn, Naming, BlockNumber, BlockOf, BlockSize, BlockOpens}
use Rattle.text.specs.declared.statement.Brace.{Brace}
use Rattle.text.specs.declared.statement.Brace.TheVariants as brace
use Rattle.text.specs.Program.{Program, nothing, gate, next, times, undo, call, Blocks, and, Source, written, count, blocks_written, text_of, Known, unknown, known, gate_checks, checks, blocks_checks, checks_of, AllTrue, Begins}
use Rattle.text.specs.Reading.{State, Held, Row, room_in}
use Rattle.text.proofs.Written.{kept, length-checks, length-blocks, count-known}
use Rattle.text.proofs.Parts.{all_append, names_front, but_end, opening, so_far, FinePart}
use Rattle.text.proofs.Sound.{head, program_of, Came, Come, size-at}

-- a program's signs begin with us, each of which may stand
abbrev Begun : ℕ → List Known → Program → List Token → Type 0
Begun n ks q us = (more : List Token) × (front : List Bool) × (rest : List Bool) × (written q ≡ us ++ more) × (checks n ks q ≡ front ++ rest) × (length front ≡ length us) × AllTrue front

module _ (n : ℕ) (ks : List Known) where
  begun-next : (p q : Program) (us : List Token) → AllTrue (checks n ks p) → Begun n ks q us → Begun n ks (next p q) (written p ++ us)
  begun-next p q us a b = (
    b.0,
    checks n ks p ++ b.1,
    b.2,
    ap (λ r. written p ++ r) b.3 ∙ sym (append_assoc (written p) us b.0),
    ap (λ r. checks n ks p ++ r) b.4 ∙ sym (append_assoc (checks n ks p) b.1 b.2),
    length-append (checks n ks p) b.1 ∙ (λ i. length-checks n ks p i + b.5 i) ∙ sym (length-append (written p) us),
    all_append (checks n ks p) b.1 a b.6,
  )

  begun-brace : (x : Brace) (q : Program) (us : List Token) → Begun n ks q us → Begun n ks (program_of x q) (opening x ++ us)
  begun-brace brace.Undo q us b = (
    b.0 ++ Close ∷ [],
    true ∷ true ∷ b.1,
    b.2 ++ true ∷ [],
    ap (λ r. token.Undo ∷ Open ∷ r) (ap (λ r. r ++ Close ∷ []) b.3 ∙ append_assoc us b.0 (Close ∷ [])),
    ap (λ r. true ∷ true ∷ r) (ap (λ r. r ++ true ∷ []) b.4 ∙ append_assoc b.1 b.2 (true ∷ [])),
    omega (arith, b.5),
    (refl, (refl, b.6)),
  )
  begun-brace (brace.Times m) q us b = (
    b.0 ++ Close ∷ [],
    true ∷ true ∷ true ∷ b.1,
    b.2 ++ true ∷ [],
    ap (λ r. Number m ∷ token.Times ∷ Open ∷ r) (ap (λ r. r ++ Close ∷ []) b.3 ∙ append_assoc us b.0 (Close ∷ [])),
    ap (λ r. true ∷ true ∷ true ∷ r) (ap (λ r. r ++ true ∷ []) b.4 ∙ append_assoc b.1 b.2 (true ∷ [])),
    omega (arith, b.5),
    (refl, (refl, (refl, b.6))),
  )

  gate_front : (g : Gate) → AllTrue (gate_checks n g) → Begun n ks (gate g) (but_end g)
  gate_front (Phase m q) a = (Semicolon ∷ [], true ∷ true ∷ true ∷ ltb q n ∷ [], true ∷ [], refl, refl, refl, (refl, (refl, (refl, (a.1.1.1.0, tt)))))
  gate_front (Hadamard q) a = (Semicolon ∷ [], true ∷ ltb q n ∷ [], true ∷ [], refl, refl, refl, (refl, (a.1.0, tt)))
  gate_front (Not q) a = (Semicolon ∷ [], true ∷ ltb q n ∷ [], true ∷ [], refl, refl, refl, (refl, (a.1.0, tt)))
  gate_front (ControlledNot c q) a = (Semicolon ∷ [], true ∷ ltb q n ∷ true ∷ ltb c n ∷ [], true ∷ [], refl, refl, refl, (refl, (a.1.0, (refl, (a.1.1.1.0, tt)))))
  gate_front (Toffoli c d q) a = (Semicolon ∷ [], true ∷ ltb q n ∷ true ∷ ltb c n ∷ ltb d n ∷ [], true ∷ [], refl, refl, refl, (refl, (a.1.0, (refl, (a.1.1.1.0, (a.1.1.1.1.0, tt))))))

pub begins_from : (s : Source) (ts more : List Token) (front rest : List Bool) → text_of s ≡ ts ++ more → checks_of s ≡ front ++ rest → length front ≡ length ts → AllTrue front → length ts ≤ 4096 → Begins ts
begins_from s ts more front rest e f same a brief = record {
  more = more;
  source = s;
  text = e;
  brief = brief;
  fine = subst AllTrue (sym (ap (take (length ts)) f ∙ ap (λ k. take k (front ++ rest)) (sym same) ∙ take-append_seam front rest)) a;
}

-- inside of braces that are open
module _ (limit : ℕ) (bs : Blocks) (inside : Option ℕ) where
  begun_frames : (hs : List Held) (row : Row) (wide fits : ℕ) (ts : List Token) → Came limit bs inside hs row wide fits ts → (q : Program) (us : List Token) → Begun (room_in inside) (known bs) q us → (r : Program) × (vs : List Token) × Begun (room_in inside) (known bs) r vs × (head bs inside ++ vs ≡ ts ++ us)
  begun_frames [] row wide fits ts c q us b = (
    next c.0 q,
    written c.0 ++ us,
    begun-next (room_in inside) (known bs) c.0 q us c.1 b,
    sym (append_assoc (head bs inside) (written c.0) us) ∙ ap (λ r. r ++ us) c.2,
  )
  begun_frames (h ∷ hs) row wide fits ts c q us b =
      let inner = begun-brace (room_in inside) (known bs) h.brace (next c.1 q) (written c.1 ++ us) (begun-next (room_in inside) (known bs) c.1 q us c.4 b) in
      let outer = begun_frames hs h.before c.2 fits c.0 c.3 (program_of h.brace (next c.1 q)) (opening h.brace ++ (written c.1 ++ us)) inner in (
        outer.0,
        outer.1,
        outer.2,
        outer.3 ∙ ap (λ r. c.0 ++ r) (sym (append_assoc (opening h.brace) (written c.1) us)) ∙ sym (append_assoc c.0 (opening h.brace ++ written c.1) us) ∙ ap (λ r. r ++ us) c.5,
      )

-- inside of a block that is open
begun-inside : (bs : Blocks) (inside : Option ℕ) (r : Program) (vs ts : List Token) → AllTrue (blocks_checks bs) → Begun (room_in inside) (known bs) r vs → head bs inside ++ vs ≡ ts → length ts ≤ 4096 → Begins ts
begun-inside bs None r vs ts a b e brief =
    begins_from (record { blocks = bs; program = r }) ts b.0 (blocks_checks bs ++ b.1) b.2
    (ap (λ l. blocks_written bs ++ l) b.3 ∙ sym (append_assoc (blocks_written bs) vs b.0) ∙ ap (λ l. l ++ b.0) e)
    (ap (λ l. blocks_checks bs ++ l) b.4 ∙ sym (append_assoc (blocks_checks bs) b.1 b.2))
    (omega (arith, length-append (blocks_checks bs) b.1, length-blocks bs, b.5, ap length (sym e) ∙ length-append (blocks_written bs) vs))
    (all_append (blocks_checks bs) b.1 a b.6) brief
begun-inside bs (Some n) r vs ts a b e brief =
    let opening-block = token.Block ∷ Number (count bs) ∷ token.Of ∷ Number n ∷ Open ∷ [] in
    let five = true ∷ true ∷ true ∷ true ∷ true ∷ [] in
    begins_from (record { blocks = and bs n r; program = nothing }) ts (b.0 ++ Close ∷ []) ((blocks_checks bs ++ five) ++ b.1) (b.2 ++ true ∷ [])
    (append-nil (blocks_written (and bs n r)) ∙ ap (λ l. blocks_written bs ++ (opening-block ++ (l ++ Close ∷ []))) b.3
    ∙ sym (append_assoc (blocks_written bs) opening-block ((vs ++ b.0) ++ Close ∷ [])) ∙ ap (λ l. (blocks_written bs ++ opening-block) ++ l) (append_assoc vs b.0 (Close ∷ []))
    ∙ sym (append_assoc (blocks_written bs ++ opening-block) vs (b.0 ++ Close ∷ [])) ∙ ap (λ l. l ++ (b.0 ++ Close ∷ [])) e)
    (append-nil (blocks_checks (and bs n r)) ∙ ap (λ l. blocks_checks bs ++ (five ++ (l ++ true ∷ []))) b.4
    ∙ sym (append_assoc (blocks_checks bs) five ((b.1 ++ b.2) ++ true ∷ [])) ∙ ap (λ l. (blocks_checks bs ++ five) ++ l) (append_assoc b.1 b.2 (true ∷ []))
    ∙ sym (append_assoc (blocks_checks bs ++ five) b.1 (b.2 ++ true ∷ [])))
    (omega (arith, length-append (blocks_checks bs ++ five) b.1, length-append (blocks_checks bs) five, length-blocks bs, b.5, ap length (sym e) ∙ length-append (blocks_written bs ++ opening-block) vs, length-append (blocks_written bs) opening-block))
    (all_append (blocks_checks bs ++ five) b.1 (all_append (blocks_checks bs) five a (refl, (refl, (refl, (refl, (refl, tt)))))) b.6) brief

module _ (limit : ℕ) (s : State) (ts : List Token) (brief : length ts ≤ 4096) (c : Come limit s ts) where
  abbrev n : ℕ
  n = room_in s.inside

  abbrev ks : List Known
  ks = known c.bs

  -- a statement that is not over
  statement : (q : Program) (us : List Token) → c.read ++ us ≡ ts → Begun n ks q us → Begins ts
  statement q us e b =
      let f = begun_frames limit c.bs s.inside s.braces s.row s.wide s.fits c.read c.came q us b in
      begun-inside c.bs s.inside f.0 f.1 ts c.fine f.2 (f.3 ∙ e) brief

  -- the beginning of a block
  block : (m : ℕ) (us more : List Token) (front rest : List Bool) → s.fresh ≡ true → c.read ++ us ≡ ts → token.Block ∷ Number (length ks) ∷ token.Of ∷ Number m ∷ Open ∷ Close ∷ [] ≡ us ++ more → true ∷ true ∷ true ∷ true ∷ true ∷ true ∷ [] ≡ front ++ rest → length front ≡ length us → AllTrue front → Begins ts
  block m us more front rest f e written-so checked-so same a =
      let clean = c.fresh f in
      let whole : blocks_written c.bs ++ us ≡ ts = ap (λ r. r ++ us) (sym clean.2) ∙ e in
      begins_from (record { blocks = and c.bs m nothing; program = nothing }) ts more (blocks_checks c.bs ++ front) rest
      (append-nil (blocks_written (and c.bs m nothing)) ∙ ap (λ k. blocks_written c.bs ++ (token.Block ∷ Number k ∷ token.Of ∷ Number m ∷ Open ∷ Close ∷ [])) (count-known c.bs)
      ∙ ap (λ r. blocks_written c.bs ++ r) written-so ∙ sym (append_assoc (blocks_written c.bs) us more) ∙ ap (λ r. r ++ more) whole)
      (append-nil (blocks_checks (and c.bs m nothing)) ∙ ap (λ r. blocks_checks c.bs ++ r) checked-so ∙ sym (append_assoc (blocks_checks c.bs) front rest))
      (omega (arith, length-append (blocks_checks c.bs) front, length-blocks c.bs, ap length (sym whole) ∙ length-append (blocks_written c.bs) us))
      (all_append (blocks_checks c.bs) front c.fine a) brief

  by_part : (p : Part) → c.read ++ so_far n (length ks) (size-at limit c.bs) s.fresh s.names p ≡ ts → FinePart n (length ks) (size-at limit c.bs) s.fresh s.names p → Begins ts
  by_part Start e h = statement nothing [] e ([], [], [], refl, refl, refl, tt)
  by_part TurnBy e h = statement (gate (Phase 0 0)) _ e (Number 0 ∷ token.Of ∷ Number 0 ∷ Semicolon ∷ [], true ∷ [], true ∷ true ∷ ltb 0 n ∷ true ∷ [], refl, refl, refl, (refl, tt))
  by_part (TurnOf m) e h = statement (gate (Phase m 0)) _ e (token.Of ∷ Number 0 ∷ Semicolon ∷ [], true ∷ true ∷ [], true ∷ ltb 0 n ∷ true ∷ [], refl, refl, refl, (refl, (refl, tt)))
  by_part (TurnQubit m) e h = statement (gate (Phase m 0)) _ e (Number 0 ∷ Semicolon ∷ [], true ∷ true ∷ true ∷ [], ltb 0 n ∷ true ∷ [], refl, refl, refl, (refl, (refl, (refl, tt))))
  by_part MixQubit e h = statement (gate (Hadamard 0)) _ e (Number 0 ∷ Semicolon ∷ [], true ∷ [], ltb 0 n ∷ true ∷ [], refl, refl, refl, (refl, tt))
  by_part FlipQubit e h = statement (gate (Not 0)) _ e (Number 0 ∷ Semicolon ∷ [], true ∷ [], ltb 0 n ∷ true ∷ [], refl, refl, refl, (refl, tt))
  by_part (FlipMore q) e h = statement (gate (Not q)) _ e (Semicolon ∷ [], true ∷ ltb q n ∷ [], true ∷ [], refl, refl, refl, (refl, (h.1, tt)))
  by_part (FlipIf q) e h = statement (gate (ControlledNot 0 q)) _ e (Number 0 ∷ Semicolon ∷ [], true ∷ ltb q n ∷ true ∷ [], ltb 0 n ∷ true ∷ [], refl, refl, refl, (refl, (h.1, (refl, tt))))
  by_part (FlipTwo d q) e h = statement (gate (ControlledNot d q)) _ e (Semicolon ∷ [], true ∷ ltb q n ∷ true ∷ ltb d n ∷ [], true ∷ [], refl, refl, refl, (refl, (h.1, (refl, (h.2, tt)))))
  by_part (Ends g) e h = statement (gate g) (but_end g) e (gate_front n ks g h.1)
  by_part UndoOpens e h = statement (undo nothing) _ e (Open ∷ Close ∷ [], true ∷ [], true ∷ true ∷ [], refl, refl, refl, (refl, tt))
  by_part (TimesWord m) e h = statement (times m nothing) _ e (token.Times ∷ Open ∷ Close ∷ [], true ∷ [], true ∷ true ∷ true ∷ [], refl, refl, refl, (refl, tt))
  by_part (TimesOpens m) e h = statement (times m nothing) _ e (Open ∷ Close ∷ [], true ∷ true ∷ [], true ∷ true ∷ [], refl, refl, refl, (refl, (refl, tt)))
  by_part CallBlock e h = statement (call 0 []) _ e (Number 0 ∷ token.On ∷ Semicolon ∷ [], true ∷ [], ltb 0 (length ks) ∷ true ∷ eqb 0 (get_or ks 0 unknown).size ∷ [], refl, refl, refl, (refl, tt))
  by_part (CallOn b) e h = statement (call b []) _ e (token.On ∷ Semicolon ∷ [], true ∷ ltb b (length ks) ∷ [], true ∷ eqb 0 (get_or ks b unknown).size ∷ [], refl, refl, refl, (refl, (h.1, tt)))
  by_part (Naming b) e h =
      let f = names_front n (get_or ks b unknown).size [] s.names h.1 in
      statement (call b s.names) _ e (Semicolon ∷ [], true ∷ ltb b (length ks) ∷ true ∷ f.0, f.1 ∷ [], refl, ap (λ r. true ∷ ltb b (length ks) ∷ true ∷ r) f.2, omega (arith, f.3), (refl, (h.0, (refl, f.4))))
  by_part BlockNumber e h = block 0 _ (Number (length ks) ∷ token.Of ∷ Number 0 ∷ Open ∷ Close ∷ []) (true ∷ []) (true ∷ true ∷ true ∷ true ∷ true ∷ []) h.1 e refl refl refl (refl, tt)
  by_part BlockOf e h = block 0 _ (token.Of ∷ Number 0 ∷ Open ∷ Close ∷ []) (true ∷ true ∷ []) (true ∷ true ∷ true ∷ true ∷ []) h.1 e refl refl refl (refl, (refl, tt))
  by_part BlockSize e h = block 0 _ (Number 0 ∷ Open ∷ Close ∷ []) (true ∷ true ∷ true ∷ []) (true ∷ true ∷ true ∷ []) h.1 e refl refl refl (refl, (refl, (refl, tt)))
  by_part (BlockOpens m) e h = block m _ (Open ∷ Close ∷ []) (true ∷ true ∷ true ∷ true ∷ []) (true ∷ true ∷ []) h.1 e refl refl refl (refl, (refl, (refl, (refl, tt))))

  pub begins_come : Begins ts
  begins_come =
      let known-all : length s.blocks ≡ length ks = ap length (sym c.blocks) ∙ length-map ks (kept limit) in
      by_part s.part (subst (λ k. c.read ++ so_far n k (size-at limit c.bs) s.fresh s.names s.part ≡ ts) known-all c.text)
      (subst (λ k. FinePart n k (size-at limit c.bs) s.fresh s.names s.part) known-all c.part)
