-- A text spells the tokens that it is cut into.
use Rattle.std.proofs.Common.{◌≡◌, ℕ, List, [], ◌∷◌, ◌++◌, sym, refl, ap, ◌∙◌, subst, append_assoc, append-nil, arith}
use Rattle.text.specs.declared.token.Token.{Token}
use Rattle.text.specs.declared.token.Class.{Class}
use Rattle.text.specs.declared.token.Class.TheVariants.{Alphanumeric, Blank, Mark}
use Rattle.text.specs.Cut.{flushed, by_class, cut}
use Rattle.text.specs.Spelling.{class, word_of, Run, Stops, Spells, ends, blank, mark, word, SpellsOne}

cut_word : (u w bs : List ℕ) → Run w → cut u (w ++ bs) ≡ cut (u ++ w) bs
cut_word u [] bs h = ap (λ v. cut v bs) (sym (append-nil u))
cut_word u (b ∷ w) bs h =
    ap (λ c. by_class c (flushed u) (cut [] (w ++ bs)) (cut (u ++ b ∷ []) (w ++ bs))) h.0
    ∙ cut_word (u ++ b ∷ []) w bs h.1 ∙ ap (λ v. cut v bs) (append_assoc u (b ∷ []) w)

stop_by : (c : Class) (t : Token) (rest on none : List Token) → (c ≡ Alphanumeric → ⊥) → by_class c (t ∷ []) rest on ≡ t ∷ by_class c [] rest none
stop_by Alphanumeric t rest on none h = absurd (h refl)
stop_by Blank t rest on none h = refl
stop_by (Mark m) t rest on none h = refl

cut_stop : (b : ℕ) (w bs : List ℕ) → Stops bs → cut (b ∷ w) bs ≡ word_of (b ∷ w) ∷ cut [] bs
cut_stop b w [] h = refl
cut_stop b w (d ∷ bs) h = stop_by (class d) (word_of (b ∷ w)) (cut [] bs) (cut (b ∷ (w ++ d ∷ [])) bs) (cut (d ∷ []) bs) h

pub cut-is : (bs : List ℕ) (ts : List Token) → Spells bs ts → ts ≡ cut [] bs
cut-is bs ts ends = refl
cut-is bs ts (blank {b = b} {bs = rest} e s) = cut-is rest ts s ∙ sym (ap (λ c. by_class c [] (cut [] rest) (cut (b ∷ []) rest)) e)
cut-is bs ts (mark {b = b} {t = t} {bs = rest} {ts = us} e s) = ap (λ r. t ∷ r) (cut-is rest us s) ∙ sym (ap (λ c. by_class c [] (cut [] rest) (cut (b ∷ []) rest)) e)
cut-is bs ts (word b w {bs = rest} {ts = us} p stop s) = ap (λ r. word_of (b ∷ w) ∷ r) (cut-is rest us s) ∙ sym (cut_word [] (b ∷ w) rest p ∙ cut_stop b w rest stop)

plain_more : (w : List ℕ) (b : ℕ) → Run w → class b ≡ Alphanumeric → Run (w ++ b ∷ [])
plain_more [] b h e = (e, tt)
plain_more (x ∷ w) b h e = (h.0, plain_more w b h.1 e)

-- one more byte: between words, and after a word that is not over
Both : List ℕ → Type 0
Both bs = Spells bs (cut [] bs) × ((b : ℕ) (w : List ℕ) → Run (b ∷ w) → Spells (b ∷ (w ++ bs)) (cut (b ∷ w) bs))

between : (d : ℕ) (bs : List ℕ) (c : Class) → class d ≡ c → Both bs → Spells (d ∷ bs) (by_class c [] (cut [] bs) (cut (d ∷ []) bs))
unfolding Both
between d bs Alphanumeric e ih = ih.1 d [] (e, tt)
between d bs Blank e ih = blank e ih.0
between d bs (Mark t) e ih = mark e ih.0

within : (d : ℕ) (bs : List ℕ) (b : ℕ) (w : List ℕ) → Run (b ∷ w) → (c : Class) → class d ≡ c → Both bs → Spells (b ∷ (w ++ d ∷ bs)) (by_class c (word_of (b ∷ w) ∷ []) (cut [] bs) (cut (b ∷ (w ++ d ∷ [])) bs))
unfolding Both
within d bs b w p Alphanumeric e ih = subst (λ r. Spells (b ∷ r) (cut (b ∷ (w ++ d ∷ [])) bs)) (append_assoc w (d ∷ []) bs) (ih.1 b (w ++ d ∷ []) (p.0, plain_more w d p.1 e))
within d bs b w p Blank e ih = word b w p (λ q. let z : ◌≡◌ {A = ℕ} 0 1 = cc in omega arith) (blank e ih.0)
within d bs b w p (Mark t) e ih = word b w p (λ q. let z : ◌≡◌ {A = ℕ} 0 1 = cc in omega arith) (mark e ih.0)

both : (bs : List ℕ) → Both bs
unfolding Both
both [] = (ends, λ b w p. word b w p tt ends)
both (d ∷ bs) = (between d bs (class d) refl (both bs), λ b w p. within d bs b w p (class d) refl (both bs))

pub cut-spells : (bs : List ℕ) → Spells bs (cut [] bs)
unfolding Both
cut-spells bs = (both bs).0

pub spells_one : SpellsOne
spells_one bs = (cut [] bs, cut-spells bs, λ us s. cut-is bs us s)
