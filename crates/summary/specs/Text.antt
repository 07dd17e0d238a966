-- The table as a text, by its codes.
use Rattle.std.specs.Prelude.{ℕ, ◌^◌, ◌-◌, List, [], ◌∷◌, ◌++◌, codes, Some, Option}
use Rattle.std.specs.Fmt.{decimal, format_spec, option_append, styled_decimal, styled_text}
use Rattle.summary.specs.declared.table.Summary.{Summary}
use Rattle.summary.specs.declared.tally.Counts.{Counts}

-- what stands at the left of a column so wide, and at the right of one
abbrev pub left : ℕ → List ℕ → List ℕ
left width text = styled_text (format_spec 32 1 0 width (2 ^ 64 - 1)) text

abbrev pub right : ℕ → List ℕ → List ℕ
right width text = styled_text (format_spec 32 3 0 width (2 ^ 64 - 1)) text

abbrev pub number : ℕ → ℕ → List ℕ
number width n = styled_decimal (format_spec 32 3 0 width (2 ^ 64 - 1)) n

-- a line: a name, what stands in the column of the circuit before, and what in that of the circuit after
abbrev pub line : List ℕ → Option (List ℕ) → Option (List ℕ) → Option (List ℕ)
line name before after = option_append (Some (left 20 name)) (option_append before (option_append after (Some (10 ∷ []))))

-- the line above the columns
abbrev pub heading : List ℕ
heading = left 20 [] ++ (right 7 (codes "before") ++ (right 8 (codes "after") ++ (10 ∷ [])))

-- a line of two numbers
abbrev pub numbers : List ℕ → ℕ → ℕ → List ℕ
numbers name before after = left 20 name ++ (number 7 before ++ (number 8 after ++ (10 ∷ [])))

-- the lines of two circuits' counts
unfoldable pub counts_text : Counts → Counts → List ℕ
counts_text before after =
    numbers (codes "gates") before.gates after.gates
    ++ numbers (codes "flips by another") before.cnots after.cnots
    ++ numbers (codes "flips by two others") before.toffolis after.toffolis
    ++ numbers (codes "odd turns") before.t_count after.t_count
    ++ numbers (codes "mixes") before.hadamards after.hadamards
    ++ numbers (codes "depth") before.depth after.depth

-- the table, and under it how often two qubits were exchanged
abbrev pub table_text : Summary → List ℕ
table_text s = heading ++ counts_text s.before s.after ++ (codes "exchanges " ++ decimal s.swaps)
