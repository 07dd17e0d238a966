-- Where the text of a job ends and its device begins.
use Rattle.std.specs.Prelude.{ℕ, suc, ◌-◌, Bool, true, false, cond, not, ◌&&◌, ◌||◌, List, [], ◌∷◌, codes, ◌==◌, get_or, drop}
use Rattle.text.specs.Spelling.{digit, letter}

-- space, tab, carriage return
abbrev pub space : ℕ → Bool
space b = b == 32 || b == 9 || b == 13

-- no letter or digit goes on here
abbrev pub ends_word : List ℕ → Bool
ends_word [] = true
ends_word (b ∷ bs) = not (digit b || letter b)

-- these bytes begin with a word
abbrev pub begins : List ℕ → List ℕ → Bool
begins [] bs = ends_word bs
begins (w ∷ ws) [] = false
begins (w ∷ ws) (b ∷ bs) = b == w && begins ws bs

-- the first word of a line is `device`
abbrev pub device_line : List ℕ → Bool
device_line [] = false
device_line (b ∷ bs) = cond (space b) (device_line bs) (begins (codes "device") (b ∷ bs))

-- a line starts at byte i of a job
abbrev pub starts_line : List ℕ → ℕ → Bool
starts_line bs i = i == 0 || get_or bs (i - 1) 0 == 10

-- and its first word is `device`
abbrev pub starts_device : List ℕ → ℕ → Bool
starts_device bs i = starts_line bs i && device_line (drop i bs)

-- how many bytes stand before the first such line; the first argument says that a line starts here
abbrev pub text_length : Bool → List ℕ → ℕ
text_length start [] = 0
text_length true (b ∷ bs) = cond (device_line (b ∷ bs)) 0 (suc (text_length (b == 10) bs))
text_length false (b ∷ bs) = suc (text_length (b == 10) bs)
