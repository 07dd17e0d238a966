-- How the amplitudes of a circuit that begins from a row are written.
use Rattle.std.specs.Prelude.{ℕ, zero, suc, ◌+◌, ◌^◌, Bool, false, cond, List, [], ◌++◌, codes, decimal, ◌==◌, slice_index_or, unsigned_abs}
use Rattle.amplitude.specs.declared.Amplitude.{Amplitude}
use Rattle.amplitude.specs.Written.{amplitude_text}
use Rattle.circuit.specs.declared.gate.Gate.{Gate}
use Rattle.circuit.specs.Circuit.{Row, mixes}
use Rattle.circuit.specs.Rows.{row, number, amplitude}
use Rattle.message.specs.Answers.{row_text}

-- the row that is given digit by digit, qubit 0 first
abbrev pub row_of : List Bool → Row
row_of ds q = slice_index_or ds q false

-- an amplitude is 0
abbrev pub is_nought : Amplitude → Bool
is_nought a = unsigned_abs a.one + unsigned_abs a.w + unsigned_abs a.w2 + unsigned_abs a.w3 == 0

-- the line of a row of n qubits, by its number; there is none where the amplitude is 0
abbrev pub line : ℕ → ℕ → Amplitude → List ℕ
line n at a = cond (is_nought a) [] (row_text n (row n at) ++ (codes ": " ++ (amplitude_text a ++ codes "\n")))

-- the lines of the first k rows
unfoldable pub lines : ℕ → (ℕ → Amplitude) → ℕ → List ℕ
lines n amp zero = []
lines n amp (suc k) = lines n amp k ++ line n k (amp k)

-- what is printed of gates on n qubits that begin from a row
abbrev pub played : ℕ → List Bool → List Gate → List ℕ
played n ds gs = lines n (amplitude n gs (number n (row_of ds))) (2 ^ n) ++ (codes "with " ++ (decimal (mixes gs) ++ codes " mixes\n"))
