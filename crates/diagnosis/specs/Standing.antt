-- Which signs could stand at a place of a text, and whether it could end there.
use Rattle.std.specs.Prelude.{◌≡◌, ℕ, zero, suc, ◌<◌, ◌≤◌, Bool, true, List, [], ◌∷◌, ◌++◌, length, take, Some, None, Option}
use Rattle.std.specs.List.{ContainsAt as Has}
use Rattle.text.specs.declared.token.Token.{Token}
use Rattle.text.specs.declared.token.Token.TheVariants.{Turn, Of, Mix, Flip, If, Device, Joined, Lay, Undo, Times, Block, Call, On, Number, Open, Close, Semicolon, Other}
use Rattle.text.specs.Move.{number_in}
use Rattle.text.specs.Program.{Source, text_of, checks_of, AllTrue, Begins}
use Rattle.text.specs.Spelling.{Spells}

-- ---- what could stand there

abbrev pub Byte : Option ℕ → Type 0
Byte None = Unit {0}
Byte (Some n) = n < 256

-- a sign that can be spelled: a number is at most 255
abbrev pub Sign : Token → Type 0
Sign t = Byte (number_in t)

-- after the signs us some text that can be read goes on with each of these signs, and with no other
pub record CouldFollow (us out : List Token) : Type 0 where
  pub may : (t : Token) → Has out t → Begins (us ++ t ∷ [])
  pub all : (t : Token) → Sign t → Begins (us ++ t ∷ []) → Has out t

-- the signs that could stand at the place i of a text of these bytes
abbrev pub CouldStand : List ℕ → ℕ → List Token → Type 0
CouldStand bs i out = (ts : List Token) → Spells bs ts → CouldFollow (take i ts) out

-- ---- whether it could end there

-- a text that can be read, however many gates it says
pub record Readable (ts : List Token) : Type 0 where
  pub source : Source
  pub text : text_of source ≡ ts
  pub fine : AllTrue (checks_of source)
  pub brief : length ts ≤ 4096

-- whether these signs are a text that can be read
pub record IsReadable (us : List Token) (b : Bool) : Type 0 where
  pub may : b ≡ true → Readable us
  pub all : Readable us → b ≡ true

-- whether a text of these bytes could end before the place i
abbrev pub CouldEnd : List ℕ → ℕ → Bool → Type 0
CouldEnd bs i b = (ts : List Token) → Spells bs ts → IsReadable (take i ts) b

-- ---- every sign

-- words and marks, and what is neither
unfoldable pub words : List Token
words = Turn ∷ Of ∷ Mix ∷ Flip ∷ If ∷ Device ∷ Joined ∷ Lay ∷ Undo ∷ Times ∷ Block ∷ Call ∷ On ∷ Open ∷ Close ∷ Semicolon ∷ Other ∷ []

-- the numbers below n
unfoldable pub numbers : ℕ → List Token
numbers zero = []
numbers (suc n) = numbers n ++ Number n ∷ []
