-- How signs are spelled in bytes, by words, marks and blanks.
use Rattle.std.specs.Prelude.{◌≡◌, ℕ, ◌+◌, ◌-◌, ◌*◌, Bool, true, cond, ◌&&◌, ◌||◌, List, [], ◌∷◌, ◌++◌, codes, ◌==◌, nat_le, ◌≢◌}
use Rattle.std.specs.Str.{bytes_eq}
use Rattle.text.specs.declared.token.Token.{Token}
use Rattle.text.specs.declared.token.Token.TheVariants.{Turn, Of, Mix, Flip, If, Device, Joined, Lay, Undo, Times, Block, Call, On, Number, Open, Close, Semicolon, Other}
use Rattle.text.specs.declared.token.Class.{Class}
use Rattle.text.specs.declared.token.Class.TheVariants.{Alphanumeric, Blank, Mark}

abbrev pub digit : ℕ → Bool
digit b = nat_le 48 b && nat_le b 57

abbrev pub letter : ℕ → Bool
letter b = (nat_le 65 b && nat_le b 90) || (nat_le 97 b && nat_le b 122)

-- space, tab, newline, carriage return
abbrev pub blank_byte : ℕ → Bool
blank_byte b = b == 32 || b == 9 || b == 10 || b == 13

-- letters and digits make words, blanks part them, and any other byte is a sign of its own
abbrev pub class : ℕ → Class
class b = cond (blank_byte b) Blank (cond (digit b || letter b) Alphanumeric (cond (b == 59) (Mark Semicolon) (cond (b == 123) (Mark Open) (cond (b == 125) (Mark Close) (Mark Other)))))

abbrev pub digits : List ℕ → Bool
digits [] = true
digits (b ∷ bs) = digit b && digits bs

-- the number that n becomes with these digits after it
abbrev pub value : ℕ → List ℕ → ℕ
value n [] = n
value n (b ∷ bs) = value (10 * n + (b - 48)) bs

-- a number up to 255, of digits alone
abbrev pub number_of : List ℕ → Token
number_of w = cond (digits w && nat_le (value 0 w) 255) (Number (value 0 w)) Other

-- the sign that a run of letters and digits is
abbrev pub word_of : List ℕ → Token
word_of w =
    cond (bytes_eq w (codes "turn")) Turn
    (cond (bytes_eq w (codes "of")) Of
    (cond (bytes_eq w (codes "mix")) Mix
    (cond (bytes_eq w (codes "flip")) Flip
    (cond (bytes_eq w (codes "if")) If
    (cond (bytes_eq w (codes "device")) Device
    (cond (bytes_eq w (codes "joined")) Joined
    (cond (bytes_eq w (codes "lay")) Lay
    (cond (bytes_eq w (codes "undo")) Undo
    (cond (bytes_eq w (codes "times")) Times
    (cond (bytes_eq w (codes "block")) Block
    (cond (bytes_eq w (codes "call")) Call
    (cond (bytes_eq w (codes "on")) On (number_of w)))))))))))))

-- every byte is a letter or a digit
abbrev pub Run : List ℕ → Type 0
Run [] = Unit {0}
Run (b ∷ bs) = (class b ≡ Alphanumeric) × Run bs

-- a word ends here
abbrev pub Stops : List ℕ → Type 0
Stops [] = Unit {0}
Stops (b ∷ bs) = class b ≢ Alphanumeric

-- these bytes spell these signs
pub data Spells : List ℕ → List Token → Type 0 where
  ends : Spells [] []
  blank : {b : ℕ} {bs : List ℕ} {ts : List Token} → class b ≡ Blank → Spells bs ts → Spells (b ∷ bs) ts
  mark : {b : ℕ} {t : Token} {bs : List ℕ} {ts : List Token} → class b ≡ Mark t → Spells bs ts → Spells (b ∷ bs) (t ∷ ts)
  word : (b : ℕ) (w : List ℕ) {bs : List ℕ} {ts : List Token} → Run (b ∷ w) → Stops bs → Spells bs ts → Spells (b ∷ (w ++ bs)) (word_of (b ∷ w) ∷ ts)

-- every text spells one row of signs, and one only
abbrev pub SpellsOne : Type 0
SpellsOne = (bs : List ℕ) → (ts : List Token) × Spells bs ts × ((us : List Token) → Spells bs us → us ≡ ts)
