-- How the answers of a comparison are written.
use Rattle.std.specs.Prelude.{ℕ, zero, suc, Bool, cond, List, [], ◌∷◌, ◌++◌, codes, decimal}
use Rattle.circuit.specs.Circuit.{Row}
use Rattle.circuit.specs.Rows.{row}

-- how a bit is written
abbrev pub digit : Bool → List ℕ
digit t = cond t 49 48 ∷ []

-- the first n digits of a row, qubit 0 first
unfoldable pub row_text : ℕ → Row → List ℕ
row_text zero b = []
row_text (suc n) b = row_text n b ++ digit (b n)

-- the circuits are the same, the second turned by t eighths
abbrev pub alike_text : ℕ → List ℕ
alike_text t = codes "alike, turn " ++ (decimal t ++ codes "\n")

-- they differ at a row of n qubits, begun from another
abbrev pub different_text : ℕ → ℕ → ℕ → List ℕ
different_text n at from = codes "different at " ++ (row_text n (row n at) ++ (codes " from " ++ (row_text n (row n from) ++ codes "\n")))
