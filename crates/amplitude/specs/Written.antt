-- How an amplitude is written: its parts that are not 0, as in 1 + w - w^3.
use Rattle.std.specs.Prelude.{ℕ, Bool, true, cond, ◌&&◌, List, [], ◌∷◌, ◌++◌, ℤ, pos, codes, decimal, ◌==◌, int_lt, unsigned_abs}
use Rattle.amplitude.specs.declared.Amplitude.{Amplitude}

-- the sign of a part: before the first one only a minus is written
abbrev pub sign : Bool → Bool → List ℕ
sign first negative = cond first (cond negative (codes "-") (codes "")) (cond negative (codes " - ") (codes " + "))

-- so many times a power of w; 1 is left out, unless there is no w
abbrev pub multiple : ℕ → List ℕ → List ℕ
multiple n [] = decimal n
multiple n (b ∷ bs) = cond (n == 1) (b ∷ bs) (decimal n ++ (b ∷ bs))

abbrev pub is_zero : ℤ → Bool
is_zero z = unsigned_abs z == 0

-- a factor with its power of w; a part that is 0 is left out
abbrev pub part : Bool → ℤ → List ℕ → List ℕ
part first z power = cond (is_zero z) [] (sign first (int_lt z (pos 0)) ++ multiple (unsigned_abs z) power)

-- parts one after another, the first of those that are written marked so; 0 if none is
abbrev pub parts : Bool → List (ℤ × List ℕ) → List ℕ
parts first [] = cond first (codes "0") []
parts first (p ∷ ps) = part first p.0 p.1 ++ parts (first && is_zero p.0) ps

-- the factors of an amplitude, each with its power of w
abbrev pub factors : Amplitude → List (ℤ × List ℕ)
factors a = (a.one, codes "") ∷ (a.w, codes "w") ∷ (a.w2, codes "w^2") ∷ (a.w3, codes "w^3") ∷ []

abbrev pub amplitude_text : Amplitude → List ℕ
amplitude_text a = parts true (factors a)
