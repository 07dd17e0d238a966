-- What has been read of a statement, and what a move tells of the sign that made it.
use Rattle.std.proofs.Common.{◌≡◌, ℕ, Bool, true, false, cond, not, ◌&&◌, eqb, ltb, List, [], ◌∷◌, ◌++◌, map, length, sym, refl, ap, ◌∙◌, subst, append_assoc, append-nil, arith}
use mathlib.Core.Bool.{false≢true}
use Rattle.std.proofs.lemmas.Bool.{cond_both, eqb-true}
use Rattle.circuit.specs.declared.gate.Gate.{Gate}
use Rattle.circuit.specs.declared.gate.Gate.TheVariants.{Phase, Hadamard, Not, ControlledNot, Toffoli}
use Rattle.text.specs.declared.token.Token.{Token}
use Rattle.text.specs.declared.token.Token.TheVariants.{Turn, Of, Mix, Flip, If, Device, Joined, Lay, Undo, Times, Block, Call, On, Number, Open, Close, Semicolon, Other}
use Rattle.text.specs.declared.statement.Part.{Part}
use Rattle.text.specs.declared.statement.Part.TheVariants.{Start, TurnBy, TurnOf, TurnQubit, MixQubit, FlipQubit, FlipMore, FlipIf, FlipTwo, Ends, UndoOpens, TimesWord, TimesOpens, CallBlock, CallOn, Naming, BlockNumber, BlockOf, BlockSize, BlockOpens}
use Rattle.text.specs.declared.statement.Brace.{Brace}
use Rattle.text.specs.declared.statement.Brace.TheVariants as brace
use Rattle.text.specs.declared.statement.Move.{Move}
use Rattle.text.specs.declared.statement.Move.TheVariants as move
use Rattle.text.specs.declared.statement.Place.{Place}
use Rattle.text.specs.Program.{spelt, gate_checks, has, names_checks, AllTrue}
use Rattle.text.specs.Move.{number_in, below, on_number, word, is, moved}
use Rattle.text.specs.Reading.{is_start}

pub all_append : (xs ys : List Bool) → AllTrue xs → AllTrue ys → AllTrue (xs ++ ys)
all_append [] ys a b = b
all_append (x ∷ xs) ys a b = (a.0, all_append xs ys a.1 b)

-- ---- the qubits of a call

abbrev may_name : ℕ → ℕ → List ℕ → ℕ → Bool
may_name n size ns q = ltb q n && (ltb (length ns) size && not (has q ns))

-- the qubits qs may stand in a call after ns
abbrev pub Differ : ℕ → ℕ → List ℕ → List ℕ → Type 0
Differ n size ns [] = Unit {0}
Differ n size ns (q ∷ qs) = (may_name n size ns q ≡ true) × Differ n size (ns ++ q ∷ []) qs

pub differ_more : (n size : ℕ) (ns qs : List ℕ) (q : ℕ) → Differ n size ns qs → may_name n size (ns ++ qs) q ≡ true → Differ n size ns (qs ++ q ∷ [])
differ_more n size ns [] q d e = (ap (λ l. may_name n size l q) (sym (append-nil ns)) ∙ e, tt)
differ_more n size ns (r ∷ qs) q d e = (d.0, differ_more n size (ns ++ r ∷ []) qs q d.1 (ap (λ l. may_name n size l q) (append_assoc ns (r ∷ []) qs) ∙ e))

pub differ_all : (n size : ℕ) (ns qs : List ℕ) → Differ n size ns qs → eqb (length (ns ++ qs)) size ≡ true → AllTrue (names_checks n size ns qs)
differ_all n size ns [] d e = (ap (λ l. eqb (length l) size) (sym (append-nil ns)) ∙ e, tt)
differ_all n size ns (q ∷ qs) d e = (d.0, differ_all n size (ns ++ q ∷ []) qs d.1 (ap (λ l. eqb (length l) size) (append_assoc ns (q ∷ []) qs) ∙ e))

-- all of them but the mark at the end
pub names_front : (n size : ℕ) (ns qs : List ℕ) → Differ n size ns qs → (front : List Bool) × (b : Bool) × (names_checks n size ns qs ≡ front ++ b ∷ []) × (length front ≡ length (map Number qs)) × AllTrue front
names_front n size ns [] d = ([], eqb (length ns) size, refl, refl, tt)
names_front n size ns (q ∷ qs) d =
    let r = names_front n size (ns ++ q ∷ []) qs d.1 in
    (may_name n size ns q ∷ r.0, r.1, ap (λ l. may_name n size ns q ∷ l) r.2, omega (arith, r.3), (d.0, r.4))

-- ---- what has been read of a statement

abbrev pub but_end : Gate → List Token
but_end (Phase m q) = Turn ∷ Number m ∷ Of ∷ Number q ∷ []
but_end (Hadamard q) = Mix ∷ Number q ∷ []
but_end (Not q) = Flip ∷ Number q ∷ []
but_end (ControlledNot c q) = Flip ∷ Number q ∷ If ∷ Number c ∷ []
but_end (Toffoli c d q) = Flip ∷ Number q ∷ If ∷ Number c ∷ Number d ∷ []

pub ends : (g : Gate) → spelt g ≡ but_end g ++ Semicolon ∷ []
ends (Phase m q) = refl
ends (Hadamard q) = refl
ends (Not q) = refl
ends (ControlledNot c q) = refl
ends (Toffoli c d q) = refl

abbrev pub opening : Brace → List Token
opening brace.Undo = Undo ∷ Open ∷ []
opening (brace.Times n) = Number n ∷ Times ∷ Open ∷ []

-- where n qubits are and k blocks are known, with the sizes of the blocks and the qubits that a call has named
module _ (n k : ℕ) (size : ℕ → ℕ) (fresh : Bool) (ns : List ℕ) where
  abbrev pub so_far : Part → List Token
  so_far Start = []
  so_far TurnBy = Turn ∷ []
  so_far (TurnOf m) = Turn ∷ Number m ∷ []
  so_far (TurnQubit m) = Turn ∷ Number m ∷ Of ∷ []
  so_far MixQubit = Mix ∷ []
  so_far FlipQubit = Flip ∷ []
  so_far (FlipMore q) = Flip ∷ Number q ∷ []
  so_far (FlipIf q) = Flip ∷ Number q ∷ If ∷ []
  so_far (FlipTwo c q) = Flip ∷ Number q ∷ If ∷ Number c ∷ []
  so_far (Ends g) = but_end g
  so_far UndoOpens = Undo ∷ []
  so_far (TimesWord m) = Number m ∷ []
  so_far (TimesOpens m) = Number m ∷ Times ∷ []
  so_far CallBlock = Call ∷ []
  so_far (CallOn b) = Call ∷ Number b ∷ []
  so_far (Naming b) = Call ∷ Number b ∷ On ∷ map Number ns
  so_far BlockNumber = Block ∷ []
  so_far BlockOf = Block ∷ Number k ∷ []
  so_far BlockSize = Block ∷ Number k ∷ Of ∷ []
  so_far (BlockOpens m) = Block ∷ Number k ∷ Of ∷ Number m ∷ []

  -- what its numbers have been found to be
  abbrev pub FinePart : Part → Type 0
  FinePart (FlipMore q) = (ns ≡ []) × (ltb q n ≡ true)
  FinePart (FlipIf q) = (ns ≡ []) × (ltb q n ≡ true)
  FinePart (FlipTwo c q) = (ns ≡ []) × (ltb q n ≡ true) × (ltb c n ≡ true)
  FinePart (Ends g) = (ns ≡ []) × AllTrue (gate_checks n g)
  FinePart (CallOn b) = (ns ≡ []) × (ltb b k ≡ true)
  FinePart (Naming b) = (ltb b k ≡ true) × Differ n (size b) [] ns
  FinePart BlockNumber = (ns ≡ []) × (fresh ≡ true)
  FinePart BlockOf = (ns ≡ []) × (fresh ≡ true)
  FinePart BlockSize = (ns ≡ []) × (fresh ≡ true)
  FinePart (BlockOpens m) = (ns ≡ []) × (fresh ≡ true)
  FinePart p = ns ≡ []

  abbrev pub Told : Part → Token → Move → Type 0
  Told p u (move.Go r) = (so_far r ≡ so_far p ++ u ∷ []) × (is_start r ≡ false) × FinePart r
  Told p u (move.Say g) = (spelt g ≡ so_far p ++ u ∷ []) × AllTrue (gate_checks n g)
  Told p u (move.Open b) = opening b ≡ so_far p ++ u ∷ []
  Told p u (move.Enter m) = (Block ∷ Number k ∷ Of ∷ Number m ∷ Open ∷ [] ≡ so_far p ++ u ∷ []) × (fresh ≡ true)
  Told p u move.Close = (so_far p ≡ []) × (u ≡ Close)
  Told p u (move.Name b q) = (p ≡ Naming b) × (u ≡ Number q) × (ltb q n ≡ true)
  Told p u (move.Call b) = (p ≡ Naming b) × (u ≡ Semicolon)
  Told p u move.Refuse = Unit {0}

  by_number : (p : Part) (u : Token) (f : ℕ → Move) → ((m : ℕ) → Told p (Number m) (f m)) → Told p u (on_number (number_in u) f)
  by_number p (Number m) f h = h m
  by_number p u f h = tt

  by_below : (p : Part) (u : Token) (r : ℕ) (f : ℕ → Move) → ((m : ℕ) → ltb m r ≡ true → Told p (Number m) (f m)) → Told p u (on_number (below r (number_in u)) f)
  by_below p (Number m) r f h = cond_both (ltb m r) _ _ (λ o. Told p (Number m) (on_number o f)) (λ e. h m e) (λ e. tt)
  by_below p u r f h = tt

  abbrev called_by : ℕ → Token
  called_by w =
      cond (eqb w 0) Turn (cond (eqb w 1) Of (cond (eqb w 2) Mix (cond (eqb w 3) Flip (cond (eqb w 4) If
      (cond (eqb w 5) Device (cond (eqb w 6) Joined (cond (eqb w 7) Lay (cond (eqb w 9) Semicolon (cond (eqb w 10) Other
      (cond (eqb w 11) Undo (cond (eqb w 12) Times (cond (eqb w 13) Block (cond (eqb w 14) Call (cond (eqb w 15) On (cond (eqb w 16) Open Close)))))))))))))))

  named-word : (u : Token) → (word u ≡ 8 → ⊥) → called_by (word u) ≡ u
  named-word (Number m) h = absurd (h refl)
  named-word u h = refl

  is_same : (u w : Token) → (word w ≡ 8 → ⊥) → is u w ≡ true → u ≡ w
  is_same u w ne e =
      let same = eqb-true (word u) (word w) e in
      sym (named-word u (λ q. ne (sym same ∙ q))) ∙ ap called_by same ∙ named-word w ne

  by_word : (p : Part) (u w : Token) (m e : Move) → (word w ≡ 8 → ⊥) → Told p w m → Told p u e → Told p u (cond (is u w) m e)
  by_word p u w m e ne h j = cond_both (is u w) m e (Told p u) (λ b. subst (λ v. Told p v m) (sym (is_same u w ne b)) h) (λ b. j)

  abbrev here : Place
  here = record { room = n; known = k; fresh = fresh }

  pub tells : (p : Part) (u : Token) → FinePart p → Told p u (moved here p u)
  tells Start Turn h = (refl, refl, h)
  tells Start Mix h = (refl, refl, h)
  tells Start Flip h = (refl, refl, h)
  tells Start Undo h = (refl, refl, h)
  tells Start Block h = cond_both fresh (move.Go BlockNumber) move.Refuse (Told Start Block) (λ e. (refl, refl, (h, e))) (λ e. tt)
  tells Start Call h = (refl, refl, h)
  tells Start (Number m) h = (refl, refl, h)
  tells Start Close h = (refl, refl)
  tells Start u h = tt
  tells TurnBy u h = by_number TurnBy u _ (λ m. (refl, refl, h))
  tells (TurnOf m) u h = by_word (TurnOf m) u Of _ move.Refuse (λ q. omega arith) (refl, refl, h) tt
  tells (TurnQubit m) u h = by_below (TurnQubit m) u n _ (λ q e. (refl, refl, (h, (refl, (refl, (refl, (e, (refl, tt))))))))
  tells MixQubit u h = by_below MixQubit u n _ (λ q e. (refl, refl, (h, (refl, (e, (refl, tt))))))
  tells FlipQubit u h = by_below FlipQubit u n _ (λ q e. (refl, refl, (h, e)))
  tells (FlipMore q) u h = by_word (FlipMore q) u Semicolon _ _ (λ q. omega arith) (refl, (refl, (h.1, (refl, tt)))) (by_word (FlipMore q) u If _ move.Refuse (λ q. omega arith) (refl, refl, h) tt)
  tells (FlipIf q) u h = by_below (FlipIf q) u n _ (λ c e. (refl, refl, (h.0, h.1, e)))
  tells (FlipTwo c q) u h =
      by_word (FlipTwo c q) u Semicolon _ _ (λ q. omega arith) (refl, (refl, (h.1, (refl, (h.2, (refl, tt))))))
      (by_below (FlipTwo c q) u n _ (λ d e. (refl, refl, (h.0, (refl, (h.1, (refl, (h.2, (e, (refl, tt))))))))))
  tells (Ends g) u h = by_word (Ends g) u Semicolon (move.Say g) move.Refuse (λ q. omega arith) (ends g, h.1) tt
  tells UndoOpens u h = by_word UndoOpens u Open _ move.Refuse (λ q. omega arith) refl tt
  tells (TimesWord m) u h = by_word (TimesWord m) u Times _ move.Refuse (λ q. omega arith) (refl, refl, h) tt
  tells (TimesOpens m) u h = by_word (TimesOpens m) u Open _ move.Refuse (λ q. omega arith) refl tt
  tells CallBlock u h = by_below CallBlock u k _ (λ b e. (refl, refl, (h, e)))
  tells (CallOn b) u h = by_word (CallOn b) u On _ move.Refuse (λ q. omega arith) (ap (λ l. Call ∷ Number b ∷ On ∷ map Number l) h.0, refl, (h.1, subst (Differ n (size b) []) (sym h.0) tt)) tt
  tells (Naming b) u h = by_word (Naming b) u Semicolon _ _ (λ q. omega arith) (refl, refl) (by_below (Naming b) u n _ (λ q e. (refl, refl, e)))
  tells BlockNumber u h = by_number BlockNumber u _ (λ m. cond_both (eqb m k) (move.Go BlockOf) move.Refuse (Told BlockNumber (Number m)) (λ e. (ap (λ j. Block ∷ Number j ∷ []) (sym (eqb-true m k e)), refl, h)) (λ e. tt))
  tells BlockOf u h = by_word BlockOf u Of _ move.Refuse (λ q. omega arith) (refl, refl, h) tt
  tells BlockSize u h = by_number BlockSize u _ (λ m. (refl, refl, h))
  tells (BlockOpens m) u h = by_word (BlockOpens m) u Open _ move.Refuse (λ q. omega arith) (refl, h.1) tt

  pub start_is : (p : Part) → is_start p ≡ true → so_far p ≡ []
  start_is Start e = refl
  start_is p e = absurd (false≢true e)
