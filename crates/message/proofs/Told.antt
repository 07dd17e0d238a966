-- What is printed tells the gates and the layout.
use Rattle.std.proofs.Common.{◌≡◌, ℕ, Bool, true, false, cond, List, [], ◌∷◌, ◌++◌, map, length, get_or, drop, codes, decimal, sym, refl, ap, ◌∙◌, subst, ap₂, append_assoc, arith}
use Rattle.std.proofs.ByRecursion.{All-weaker}
use Rattle.std.specs.List.{concat}
use Rattle.circuit.specs.declared.gate.Gate.{Gate}
use Rattle.circuit.specs.declared.gate.Gate.TheVariants.{Phase, Hadamard, Not, ControlledNot, Toffoli}
use Rattle.text.specs.declared.token.Token.{Token}
use Rattle.text.specs.declared.token.Token.TheVariants.{Turn, Mix, Number, Semicolon, Other}
use Rattle.text.specs.Move.{is}
use Rattle.text.specs.Program.{spelt, written}
use Rattle.text.specs.Spelling.{Stops, Spells, ends, blank}
use Rattle.message.specs.Statements.{statement, statements, at_the_end, printed}
use Rattle.message.specs.Reading.{SaysIn}
use Rattle.message.specs.RoundTrip.{Small, AllSmall, AllBytes, row, LayoutTold, PrintTells}
use Rattle.message.proofs.Figures.{number_word}
use Rattle.message.proofs.Spell.{blank-stops, word_then, word_more, line-more, line_read, one-reading}

abbrev places : List ℕ → List ℕ
places ps = concat (map (λ p. codes " " ++ decimal p) ps)

-- the signs of the line: three words, and the numbers
abbrev ending : List ℕ → List Token
ending ps = Other ∷ (Other ∷ (Other ∷ map Number ps))

places_stop : (ps : List ℕ) → Stops (places ps ++ codes "\n")
places_stop [] = blank-stops
places_stop (p ∷ ps) = blank-stops

places_spell : (ps : List ℕ) → AllBytes ps → Spells (places ps ++ codes "\n") (map Number ps)
places_spell [] h = blank refl ends
places_spell (p ∷ ps) h =
    subst (λ x. Spells (32 ∷ x) (Number p ∷ map Number ps)) (sym (append_assoc (decimal p) (places ps) (codes "\n")))
    (blank refl (number_word p h.0 (places_stop ps) (places_spell ps h.1)))

layout-spells : (ps : List ℕ) → AllBytes ps → Spells (at_the_end ps) (ending ps)
layout-spells ps h =
    word_more (codes "at") (refl, (refl, tt)) (word_more (codes "the") (refl, (refl, (refl, tt)))
    (word_then (codes "end") (refl, (refl, (refl, tt))) (places_stop ps) (places_spell ps h)))

print_spells : (gs : List Gate) (ps : List ℕ) → AllSmall gs → AllBytes ps → Spells (printed gs ps) (written (row gs) ++ ending ps)
print_spells [] ps h b = layout-spells ps b
print_spells (g ∷ gs) ps h b =
    subst (λ x. Spells x (written (row (g ∷ gs)) ++ ending ps)) (sym (append_assoc (statement g ++ codes "\n") (statements gs) (at_the_end ps)))
    (subst (λ x. Spells ((statement g ++ codes "\n") ++ (statements gs ++ at_the_end ps)) x) (sym (append_assoc (spelt g) (written (row gs)) (ending ps)))
    (line-more g h.0 (print_spells gs ps h.1 b)))

-- the numbers of signs
abbrev number : Token → ℕ
number (Number n) = n
number _ = 0

numbers : (ps : List ℕ) → map number (map Number ps) ≡ ps
numbers [] = refl
numbers (p ∷ ps) = ap (λ r. p ∷ r) (numbers ps)

layout-one : (ps qs : List ℕ) → ending ps ≡ ending qs → ps ≡ qs
layout-one ps qs e = sym (numbers ps) ∙ ap (λ ts. map number (drop 3 ts)) e ∙ numbers qs

pub layout-told : LayoutTold
layout-told ps qs p q e = layout-one ps qs (one-reading (layout-spells ps p) (subst (λ x. Spells x (ending qs)) (sym e) (layout-spells qs q)))

-- a sign that no gate is said with
abbrev strange : Token → Bool
strange Other = true
strange _ = false

-- the signs before the first such, and those from it on
abbrev before : List Token → List Token
before [] = []
before (t ∷ ts) = cond (strange t) [] (t ∷ before ts)

abbrev from : List Token → List Token
from [] = []
from (t ∷ ts) = cond (strange t) (t ∷ ts) (from ts)

before-gate : (g : Gate) (ts : List Token) → before (spelt g ++ ts) ≡ spelt g ++ before ts
before-gate (Phase m q) ts = refl
before-gate (Hadamard q) ts = refl
before-gate (Not q) ts = refl
before-gate (ControlledNot c q) ts = refl
before-gate (Toffoli c d q) ts = refl

from_gate : (g : Gate) (ts : List Token) → from (spelt g ++ ts) ≡ from ts
from_gate (Phase m q) ts = refl
from_gate (Hadamard q) ts = refl
from_gate (Not q) ts = refl
from_gate (ControlledNot c q) ts = refl
from_gate (Toffoli c d q) ts = refl

before_ending : (gs : List Gate) (ps : List ℕ) → before (written (row gs) ++ ending ps) ≡ written (row gs)
before_ending [] ps = refl
before_ending (g ∷ gs) ps =
    ap before (append_assoc (spelt g) (written (row gs)) (ending ps)) ∙ before-gate g (written (row gs) ++ ending ps) ∙ ap (λ ts. spelt g ++ ts) (before_ending gs ps)

from_ending : (gs : List Gate) (ps : List ℕ) → from (written (row gs) ++ ending ps) ≡ ending ps
from_ending [] ps = refl
from_ending (g ∷ gs) ps = ap from (append_assoc (spelt g) (written (row gs)) (ending ps)) ∙ from_gate g (written (row gs) ++ ending ps) ∙ from_ending gs ps

-- the gate of the first statement of a row, and the signs behind it
abbrev sign : List Token → ℕ → ℕ
sign ts k = number (get_or ts k Other)

abbrev first-gate : List Token → Gate
first-gate ts =
    cond (is (get_or ts 0 Other) Turn) (Phase (sign ts 1) (sign ts 3))
    (cond (is (get_or ts 0 Other) Mix) (Hadamard (sign ts 1))
    (cond (is (get_or ts 2 Other) Semicolon) (Not (sign ts 1))
    (cond (is (get_or ts 4 Other) Semicolon) (ControlledNot (sign ts 3) (sign ts 1)) (Toffoli (sign ts 3) (sign ts 4) (sign ts 1)))))

abbrev behind : List Token → List Token
behind ts =
    cond (is (get_or ts 0 Other) Turn) (drop 5 ts)
    (cond (is (get_or ts 0 Other) Mix) (drop 3 ts)
    (cond (is (get_or ts 2 Other) Semicolon) (drop 3 ts)
    (cond (is (get_or ts 4 Other) Semicolon) (drop 5 ts) (drop 6 ts))))

first-is : (g : Gate) (ts : List Token) → first-gate (spelt g ++ ts) ≡ g
first-is (Phase m q) ts = refl
first-is (Hadamard q) ts = refl
first-is (Not q) ts = refl
first-is (ControlledNot c q) ts = refl
first-is (Toffoli c d q) ts = refl

behind-is : (g : Gate) (ts : List Token) → behind (spelt g ++ ts) ≡ ts
behind-is (Phase m q) ts = refl
behind-is (Hadamard q) ts = refl
behind-is (Not q) ts = refl
behind-is (ControlledNot c q) ts = refl
behind-is (Toffoli c d q) ts = refl

never_empty : (g : Gate) (ts : List Token) → [] ≡ spelt g ++ ts → ⊥
never_empty (Phase m q) ts e = omega (arith, ap length e)
never_empty (Hadamard q) ts e = omega (arith, ap length e)
never_empty (Not q) ts e = omega (arith, ap length e)
never_empty (ControlledNot c q) ts e = omega (arith, ap length e)
never_empty (Toffoli c d q) ts e = omega (arith, ap length e)

-- what is written says one row of gates
written_one : (gs hs : List Gate) → written (row gs) ≡ written (row hs) → gs ≡ hs
written_one [] [] e = refl
written_one [] (h ∷ hs) e = absurd (never_empty h (written (row hs)) e)
written_one (g ∷ gs) [] e = absurd (never_empty g (written (row gs)) (sym e))
written_one (g ∷ gs) (h ∷ hs) e =
    ap₂ {C = List Gate} (λ x xs. x ∷ xs)
    (sym (first-is g (written (row gs))) ∙ ap first-gate e ∙ first-is h (written (row hs)))
    (written_one gs hs (sym (behind-is g (written (row gs))) ∙ ap behind e ∙ behind-is h (written (row hs))))

told : (gs hs : List Gate) (ps qs : List ℕ) → AllSmall gs → AllSmall hs → AllBytes ps → AllBytes qs → printed gs ps ≡ printed hs qs → (hs ≡ gs) × (qs ≡ ps)
told gs hs ps qs small small₁ bytes bytes₁ e =
    let same : written (row hs) ++ ending qs ≡ written (row gs) ++ ending ps = one-reading (subst (λ x. Spells x (written (row hs) ++ ending qs)) (sym e) (print_spells hs qs small₁ bytes₁)) (print_spells gs ps small bytes) in (
      written_one hs gs (sym (before_ending hs qs) ∙ ap before same ∙ before_ending gs ps),
      layout-one qs ps (sym (from_ending hs qs) ∙ ap from same ∙ from_ending gs ps),
    )

pub print_tells : PrintTells
print_tells gs ps small bytes = record {
  lines = All-weaker Small (λ g. SaysIn 1 (statement g ++ codes "\n") (g ∷ [])) line_read gs small;
  only = λ hs qs small₁ bytes₁ e. told gs hs ps qs small small₁ bytes bytes₁ e;
}
