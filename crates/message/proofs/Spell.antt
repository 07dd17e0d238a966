-- What is written of a circuit spells the signs that say it.
use Rattle.std.proofs.Common.{◌≡◌, ℕ, ◌<◌, ◌≤◌, List, [], ◌∷◌, ◌++◌, length, codes, decimal, sym, refl, ap, ◌∙◌, subst, append_assoc, arith}
use Rattle.std.proofs.lemmas.Bool.{lt-ltb}
use Rattle.circuit.specs.declared.gate.Gate.{Gate}
use Rattle.circuit.specs.declared.gate.Gate.TheVariants.{Phase, Hadamard, Not, ControlledNot, Toffoli}
use Rattle.text.specs.declared.token.Token.{Token}
use Rattle.text.specs.declared.token.Token.TheVariants.{Turn, Of, Mix, Flip, If, Number, Semicolon}
use Rattle.text.specs.declared.token.Class.TheVariants.{Alphanumeric, Blank, Mark}
use Rattle.text.specs.Program.{Known, Says, none, spelt, written, flat, gate_checks, checks}
use Rattle.text.specs.Program as program
use Rattle.text.proofs.Parts.{all_append}
use Rattle.text.specs.Spelling.{word_of, Run, Stops, Spells, ends, blank, mark, word}
use Rattle.text.proofs.Spelt.{cut-is}
use Rattle.message.specs.Statements.{statement}
use Rattle.message.specs.RoundTrip.{Small, AllSmall, row, StatementSpells, StatementsSpell, ReadBack, LineRead}
use Rattle.message.proofs.Figures.{number_word}

pub blank-stops : Blank ≡ Alphanumeric → ⊥
blank-stops e = cc

mark-stops : (t : Token) → Mark t ≡ Alphanumeric → ⊥
mark-stops t e = cc

-- letters and digits, one at least
abbrev pub Word : List ℕ → Type 0
Word [] = ⊥
Word (b ∷ w) = Run (b ∷ w)

pub word_then : (w : List ℕ) {bs : List ℕ} {ts : List Token} → Word w → Stops bs → Spells bs ts → Spells (w ++ bs) (word_of w ∷ ts)
word_then [] r stop s = absurd r
word_then (b ∷ w) r stop s = word b w r stop s

-- a word, and a blank behind it
pub word_more : (w : List ℕ) {bs : List ℕ} {ts : List Token} → Word w → Spells bs ts → Spells (w ++ 32 ∷ bs) (word_of w ∷ ts)
word_more w r s = word_then w r blank-stops (blank refl s)

-- a number with a semicolon behind it, or a blank
number_last : (n : ℕ) → n < 256 → Spells (decimal n ++ codes ";") (Number n ∷ Semicolon ∷ [])
number_last n h = number_word n h (mark-stops Semicolon) (mark refl ends)

number_more : (n : ℕ) {bs : List ℕ} {ts : List Token} → n < 256 → Spells bs ts → Spells (decimal n ++ 32 ∷ bs) (Number n ∷ ts)
number_more n h s = number_word n h blank-stops (blank refl s)

turn-word : {bs : List ℕ} {ts : List Token} → Spells bs ts → Spells (codes "turn " ++ bs) (Turn ∷ ts)
turn-word s = word_more (codes "turn") (refl, (refl, (refl, (refl, tt)))) s

mix_word : {bs : List ℕ} {ts : List Token} → Spells bs ts → Spells (codes "mix " ++ bs) (Mix ∷ ts)
mix_word s = word_more (codes "mix") (refl, (refl, (refl, tt))) s

flip_word : {bs : List ℕ} {ts : List Token} → Spells bs ts → Spells (codes "flip " ++ bs) (Flip ∷ ts)
flip_word s = word_more (codes "flip") (refl, (refl, (refl, (refl, tt)))) s

if_word : {bs : List ℕ} {ts : List Token} → Spells bs ts → Spells (codes "if " ++ bs) (If ∷ ts)
if_word s = word_more (codes "if") (refl, (refl, tt)) s

of_word : {bs : List ℕ} {ts : List Token} → Spells bs ts → Spells (codes "of " ++ bs) (Of ∷ ts)
of_word s = word_more (codes "of") (refl, (refl, tt)) s

pub statement-spells : StatementSpells
statement-spells (Phase m q) h = turn-word (number_more m h.0 (of_word (number_last q h.1)))
statement-spells (Hadamard q) h = mix_word (number_last q h)
statement-spells (Not q) h = flip_word (number_last q h)
statement-spells (ControlledNot c q) h = flip_word (number_more q h.1 (if_word (number_last c h.0)))
statement-spells (Toffoli c d q) h = flip_word (number_more q h.2 (if_word (number_more c h.0 (number_last d h.1))))

-- one text behind another
stops-append : (xs bs : List ℕ) → Stops xs → Stops bs → Stops (xs ++ bs)
stops-append [] bs p q = q
stops-append (x ∷ xs) bs p q = p

spells-append : {xs bs : List ℕ} {ts us : List Token} → Spells xs ts → Stops bs → Spells bs us → Spells (xs ++ bs) (ts ++ us)
spells-append ends p s = s
spells-append (blank e r) p s = blank e (spells-append r p s)
spells-append (mark e r) p s = mark e (spells-append r p s)
spells-append {bs = bs} {us = us} (word b w {bs = rest} {ts = ts} run stop r) p s =
    subst (λ x. Spells (b ∷ x) (word_of (b ∷ w) ∷ (ts ++ us))) (sym (append_assoc w rest bs)) (word b w run (stops-append rest bs stop p) (spells-append r p s))

-- a line, and what comes behind it
pub line-more : (g : Gate) {bs : List ℕ} {ts : List Token} → Small g → Spells bs ts → Spells ((statement g ++ codes "\n") ++ bs) (spelt g ++ ts)
line-more g {bs = bs} {ts = ts} h s = subst (λ x. Spells x (spelt g ++ ts)) (sym (append_assoc (statement g) (codes "\n") bs)) (spells-append (statement-spells g h) blank-stops (blank refl s))

pub statements_spell : StatementsSpell
statements_spell [] h = ends
statements_spell (g ∷ gs) h = line-more g h.0 (statements_spell gs h.1)

-- a row of gates, as a program, says those gates, with qubits that may stand there
flat-row : (ks : List Known) (gs : List Gate) → flat ks (row gs) ≡ gs
flat-row ks [] = refl
flat-row ks (g ∷ gs) = ap (λ hs. g ∷ hs) (flat-row ks gs)

gate-fine : (g : Gate) → Small g → program.AllTrue (gate_checks 256 g)
gate-fine (Phase m q) h = (refl, (refl, (refl, (lt-ltb q 256 h.1, (refl, tt)))))
gate-fine (Hadamard q) h = (refl, (lt-ltb q 256 h, (refl, tt)))
gate-fine (Not q) h = (refl, (lt-ltb q 256 h, (refl, tt)))
gate-fine (ControlledNot c q) h = (refl, (lt-ltb q 256 h.1, (refl, (lt-ltb c 256 h.0, (refl, tt)))))
gate-fine (Toffoli c d q) h = (refl, (lt-ltb q 256 h.2, (refl, (lt-ltb c 256 h.0, (lt-ltb d 256 h.1, (refl, tt))))))

row_fine : (ks : List Known) (gs : List Gate) → AllSmall gs → program.AllTrue (checks 256 ks (row gs))
row_fine ks [] h = tt
row_fine ks (g ∷ gs) h = all_append (gate_checks 256 g) (checks 256 ks (row gs)) (gate-fine g h.0) (row_fine ks gs h.1)

row-says : (limit : ℕ) (gs : List Gate) → AllSmall gs → length gs ≤ limit → length (written (row gs)) ≤ 4096 → Says limit (written (row gs)) gs
row-says limit gs h few brief = record {
  source = record { blocks = none; program = row gs };
  text = refl;
  fine = row_fine [] gs h;
  gates = flat-row [] gs;
  few = few;
  brief = brief;
}

pub read_back : ReadBack
read_back limit gs h few brief = (written (row gs), statements_spell gs h, row-says limit gs h few brief)

-- two readings of one text
pub one-reading : {bs : List ℕ} {ts us : List Token} → Spells bs ts → Spells bs us → ts ≡ us
one-reading {bs = bs} {ts = ts} {us = us} s t = cut-is bs ts s ∙ sym (cut-is bs us t)

brief : (g : Gate) → length (spelt g ++ []) ≤ 4096
brief (Phase m q) = omega arith
brief (Hadamard q) = omega arith
brief (Not q) = omega arith
brief (ControlledNot c q) = omega arith
brief (Toffoli c d q) = omega arith

pub line_read : LineRead
line_read g h = (spelt g ++ [], spells-append (statement-spells g h) blank-stops (blank refl ends), row-says 1 (g ∷ []) (h, tt) (omega arith) (brief g))
