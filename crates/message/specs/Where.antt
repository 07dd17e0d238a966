-- Where a sign stands in a text: its byte, its line and its column.
use Rattle.std.specs.Prelude.{◌≡◌, ℕ, zero, suc, ◌+◌, ◌-◌, ◌≤◌, Bool, true, false, cond, not, ◌&&◌, List, [], ◌∷◌, length, take, ◌==◌, nat_lt, get_or}
use Rattle.text.specs.declared.token.Class.{Class}
use Rattle.text.specs.declared.token.Class.TheVariants.{Alphanumeric, Blank, Mark}
use Rattle.text.specs.Cut.{cut}
use Rattle.message.specs.declared.locate.Position.{Position}
use Rattle.text.specs.Spelling.{class}

-- a sign begins here: it is the one that is looked for, or one fewer is left
abbrev pub begins_here : ℕ → (ℕ → ℕ) → ℕ
begins_here zero on = 0
begins_here (suc i) on = suc (on i)

-- a byte begins a sign: it is a mark, or a letter or a digit that does not go on with a word
abbrev pub begins : Class → Bool → Bool
begins Alphanumeric inside = not inside
begins Blank inside = false
begins (Mark t) inside = true

abbrev pub in_word : Class → Bool
in_word Alphanumeric = true
in_word Blank = false
in_word (Mark t) = false

-- a sign begins at byte i of a text
abbrev pub begins_sign : List ℕ → ℕ → Bool
begins_sign bs i = begins (class (get_or bs i 0)) (nat_lt 0 i && in_word (class (get_or bs (i - 1) 0)))

abbrev pub by_kind : Class → Bool → ℕ → (Bool → ℕ → ℕ) → ℕ
by_kind c inside i on = cond (begins c inside) (begins_here i (on (in_word c))) (suc (on (in_word c) i))

-- how many bytes stand before sign i, all of them if there are not so many signs; the first argument says that the byte before is part of a word
unfoldable pub start_of : Bool → ℕ → List ℕ → ℕ
start_of inside i [] = 0
start_of inside i (b ∷ bs) = by_kind (class b) inside i (λ within j. start_of within j bs)

-- so many signs stand before it
abbrev pub Starts : Type 0
Starts = (bs : List ℕ) (i : ℕ) → i ≤ length (cut [] bs) → length (cut [] (take (start_of false i bs) bs)) ≡ i

-- a number that each byte changes in turn
unfoldable pub after : (ℕ → ℕ → ℕ) → ℕ → List ℕ → ℕ
after f k [] = k
after f k (b ∷ bs) = after f (f k b) bs

-- line and column of what comes after some bytes, where the first of them stands at this line and column
abbrev pub line_after : ℕ → List ℕ → ℕ
line_after l bs = after (λ k b. cond (b == 10) (k + 1) k) l bs

abbrev pub column_after : ℕ → List ℕ → ℕ
column_after l bs = after (λ k b. cond (b == 10) 1 (k + 1)) l bs

-- where sign i of a text stands
pub record Stands (i : ℕ) (text : List ℕ) (p : Position) : Type 0 where
  pub byte : p.byte ≡ start_of false i text
  pub line : p.line ≡ line_after 1 (take p.byte text)
  pub column : p.column ≡ column_after 1 (take p.byte text)
