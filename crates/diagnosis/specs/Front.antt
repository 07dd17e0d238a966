-- A reader after some signs.
use Rattle.std.specs.Prelude.{◌≡◌, ℕ, ◌≤◌, List, length, Some, None, Ok, Err, Option}
use Rattle.circuit.specs.declared.refusal.Refusal.{Refusal}
use Rattle.text.specs.declared.reader.Reader.{Reader}
use Rattle.text.specs.declared.token.Token.{Token}
use Rattle.text.specs.Reading.{view, runs, begins}

-- the reader after these signs, or none if it does not take them all
abbrev pub Reads : List Token → Option Reader → Type 0
Reads ts (Some r) = runs 0 begins 0 ts ≡ Ok (view r)
Reads ts None = (f : Refusal) × (runs 0 begins 0 ts ≡ Err f)

-- the same of at most so many signs
abbrev pub ReadsFew : ℕ → List Token → Option Reader → Type 0
ReadsFew most ts (Some r) = (length ts ≤ most) × Reads ts (Some r)
ReadsFew most ts None = length ts ≤ most → Reads ts None
