-- What is written of a circuit is read as that circuit. Each is a statement whose proof is owed.
use Rattle.std.specs.Prelude.{◌≡◌, ℕ, ◌<◌, ◌≤◌, List, [], ◌∷◌, ◌++◌, length, codes}
use Rattle.std.specs.List.{AllByRecursion}
use Rattle.circuit.specs.declared.gate.Gate.{Gate}
use Rattle.circuit.specs.declared.gate.Gate.TheVariants.{Phase, Hadamard, Not, ControlledNot, Toffoli}
use Rattle.text.specs.Program.{Program, nothing, gate, next, spelt, written}
use Rattle.text.specs.Spelling.{Spells}
use Rattle.message.specs.Reading.{SaysIn}
use Rattle.message.specs.Statements.{statement, statements, at_the_end, printed}

-- every number of a gate is a byte
abbrev pub Small : Gate → Type 0
Small (Phase m q) = (m < 256) × (q < 256)
Small (Hadamard q) = q < 256
Small (Not q) = q < 256
Small (ControlledNot c q) = (c < 256) × (q < 256)
Small (Toffoli c d q) = (c < 256) × (d < 256) × (q < 256)

abbrev pub AllSmall : List Gate → Type 0
AllSmall gs = AllByRecursion Small gs

-- the same of the places of a layout
abbrev pub AllBytes : List ℕ → Type 0
AllBytes ps = AllByRecursion (λ p. p < 256) ps

-- a row of gates as a program: a statement for each
abbrev pub row : List Gate → Program
row [] = nothing
row (g ∷ gs) = next (gate g) (row gs)

-- a statement spells the signs that say its gate
abbrev pub StatementSpells : Type 0
StatementSpells = (g : Gate) → Small g → Spells (statement g) (spelt g)

abbrev pub StatementsSpell : Type 0
StatementsSpell = (gs : List Gate) → AllSmall gs → Spells (statements gs) (written (row gs))

-- what is written of a circuit is read as that circuit
abbrev pub ReadBack : Type 0
ReadBack = (limit : ℕ) (gs : List Gate) → AllSmall gs → length gs ≤ limit → length (written (row gs)) ≤ 4096 → SaysIn limit (statements gs) gs

-- each line by itself says its gate
abbrev pub LineRead : Type 0
LineRead = (g : Gate) → Small g → SaysIn 1 (statement g ++ codes "\n") (g ∷ [])

-- this text tells these gates and this layout: each line of it by itself says its gate, and it is printed of no others
pub record Tells (out : List ℕ) (gs : List Gate) (ps : List ℕ) : Type 0 where
  pub lines : AllByRecursion (λ g. SaysIn 1 (statement g ++ codes "\n") (g ∷ [])) gs
  pub only : (hs : List Gate) (qs : List ℕ) → AllSmall hs → AllBytes qs → out ≡ printed hs qs → (hs ≡ gs) × (qs ≡ ps)

-- the line of a layout tells the layout
abbrev pub LayoutTold : Type 0
LayoutTold = (ps qs : List ℕ) → AllBytes ps → AllBytes qs → at_the_end ps ≡ at_the_end qs → ps ≡ qs

-- what is printed tells the gates and the layout
abbrev pub PrintTells : Type 0
PrintTells = (gs : List Gate) (ps : List ℕ) → AllSmall gs → AllBytes ps → Tells (printed gs ps) gs ps
