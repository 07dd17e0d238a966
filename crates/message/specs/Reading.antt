-- What bytes say as a text.
use Rattle.std.specs.Prelude.{◌≡◌, ℕ, List}
use Rattle.circuit.specs.declared.gate.Gate.{Gate}
use Rattle.circuit.specs.declared.refusal.Refusal.{Refusal}
use Rattle.circuit.specs.declared.refusal.Refusal.TheVariants.{Text}
use Rattle.text.specs.declared.token.Token.{Token}
use Rattle.text.specs.Program.{Refuses, Says, width}
use Rattle.text.specs.Spelling.{Spells}

-- these bytes are a text that says these gates
abbrev pub SaysIn : ℕ → List ℕ → List Gate → Type 0
SaysIn limit bytes gs = (ts : List Token) × Spells bytes ts × Says limit ts gs

-- and it names n qubits
pub record SaysOn (limit : ℕ) (bytes : List ℕ) (n : ℕ) (gs : List Gate) : Type 0 where
  pub signs : List Token
  pub spells : Spells bytes signs
  pub says : Says limit signs gs
  pub on : n ≡ width says.source.program

-- these bytes are a text that is refused so: with number 9, at a sign
abbrev pub RefusedIn : ℕ → List ℕ → Refusal → Type 0
RefusedIn limit bytes f = (ts : List Token) × (i : ℕ) × Spells bytes ts × Refuses limit ts i × (f ≡ Text i)
