-- How a text is cut into its signs, byte by byte.
use Rattle.std.specs.Prelude.{◌≡◌, ℕ, ◌+◌, ◌-◌, ◌*◌, ◌≤◌, cond, List, [], ◌∷◌, ◌++◌, length, Some, None, Option, nat_le}
use Rattle.text.specs.declared.token.Token.{Token}
use Rattle.text.specs.declared.token.Class.{Class}
use Rattle.text.specs.declared.token.Class.TheVariants.{Alphanumeric, Blank, Mark}
use Rattle.text.specs.Spelling.{digit, class, word_of}

-- one more digit, up to 255
abbrev pub one_more : ℕ → ℕ → Option ℕ
one_more n b = cond (digit b) (cond (nat_le (10 * n + (b - 48)) 255) (Some (10 * n + (b - 48))) None) None

-- the sign of a word, if there is one
abbrev pub flushed : List ℕ → List Token
flushed [] = []
flushed (b ∷ bs) = word_of (b ∷ bs) ∷ []

-- what a byte after a word does: word is that of the word before it, rest that of what follows, and on what comes if the word goes on
abbrev pub by_class : Class → List Token → List Token → List Token → List Token
by_class Alphanumeric word rest on = on
by_class Blank word rest on = word ++ rest
by_class (Mark t) word rest on = word ++ t ∷ rest

-- the signs of a text; the first argument is the word so far
abbrev pub cut : List ℕ → List ℕ → List Token
cut w [] = flushed w
cut w (b ∷ bs) = by_class (class b) (flushed w) (cut [] bs) (cut (w ++ b ∷ []) bs)

-- ts are the first of these signs: all of them, or more than so many
pub record Front (most : ℕ) (all ts : List Token) : Type 0 where
  pub rest : List Token
  pub parts : ts ++ rest ≡ all
  pub whole : length ts ≤ most → rest ≡ []
