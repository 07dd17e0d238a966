-- What a program prints of itself, by its first argument.
use Rattle.std.specs.Prelude.{List, ℕ, cond, codes, Some, None, Option}
use Rattle.std.specs.Str.{bytes_eq}

-- the page that a word asks for, if it asks for one
abbrev pub asked : List ℕ → List ℕ → List ℕ → Option (List ℕ)
asked help version word = cond (bytes_eq word (codes "--help")) (Some help) (cond (bytes_eq word (codes "--version")) (Some version) None)
