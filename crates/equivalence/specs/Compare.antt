-- What it is to compare two circuits: when that is refused, and what an answer says.
use Rattle.std.specs.Prelude.{◌≡◌, ℕ, ◌+◌, ◌%◌, ◌^◌, ◌<◌, ◌&&◌, ◌⊎◌, List, length, Some, None, Option, Ok, Err, Result, ◌==◌, nat_le}
use Rattle.amplitude.specs.Ring.{turned, rooted}
use Rattle.circuit.specs.declared.gate.Gate.{Gate}
use Rattle.circuit.specs.declared.refusal.Refusal.{Refusal}
use Rattle.circuit.specs.declared.refusal.Refusal.TheVariants.{Qubits, Length, Number, Mixes}
use Rattle.circuit.specs.declared.refusal.Refusal.TheVariants as variant
use Rattle.circuit.specs.Circuit.{mixes, AlikeBy, Same}
use Rattle.circuit.specs.Rows.{amplitude}
use Rattle.circuit.specs.Code.{gates_in, fault_from}
use Rattle.circuit.specs.Refusals.{or_else, unless, at_place, misfit_from}
use Rattle.equivalence.specs.declared.comparison.Comparison.{Comparison}
use Rattle.equivalence.specs.declared.comparison.Comparison.TheVariants.{Alike, Different}

-- the first refusal that applies to two circuits on n qubits
abbrev pub refusal : ℕ → List Gate → List Gate → Option Refusal
refusal n c d =
    or_else (unless (nat_le 1 n && nat_le n 8) (Qubits 0))
    (or_else (unless (nat_le (length c) 1024) (Length 0))
    (or_else (unless (nat_le (length d) 1024) (Length 1))
    (or_else (at_place variant.Gate (misfit_from n 0 c))
    (or_else (at_place variant.Gate (misfit_from n 0 d))
    (unless (nat_le (mixes c + mixes d) 60) (Mixes (mixes c + mixes d)))))))

-- for circuits in numbers, four a gate: the first that applies before their gates are looked at
abbrev pub refusal_of_numbers : ℕ → List ℕ → List ℕ → Option Refusal
refusal_of_numbers n c d =
    or_else (unless (nat_le 1 n && nat_le n 8) (Qubits 0))
    (or_else (unless (length c % 4 == 0 && nat_le (length c) 4096) (Length 0))
    (or_else (unless (length d % 4 == 0 && nat_le (length d) 4096) (Length 1))
    (or_else (at_place Number (fault_from 0 c)) (at_place Number (fault_from 0 d)))))

-- and the first that applies
abbrev pub refusal_in_numbers : ℕ → List ℕ → List ℕ → Option Refusal
refusal_in_numbers n c d = or_else (refusal_of_numbers n c d) (refusal n (gates_in c) (gates_in d))

-- both circuits give the same amplitude at a row from a row, the second turned by t eighths, each with as many roots of two as the other has Hadamards
abbrev pub Agrees : ℕ → List Gate → List Gate → ℕ → ℕ → ℕ → Type 0
Agrees n c d t at from = rooted (mixes d) (amplitude n c from at) ≡ turned t (rooted (mixes c) (amplitude n d from at))

-- in the order of reading: row by row, and in a row from the first to the last
abbrev pub Earlier : ℕ → ℕ → ℕ → ℕ → Type 0
Earlier at from at' from' = (at < at') ⊎ ((at ≡ at') × (from < from'))

-- so it is at all pairs that are earlier than one
abbrev pub Before : ℕ → ℕ → ℕ → (ℕ → ℕ → Type 0) → Type 0
Before n at from P = (at' from' : ℕ) → at' < 2 ^ n → from' < 2 ^ n → Earlier at' from' at from → P at' from'

-- the pair is the first that shows a difference: one turn does for all earlier ones, and none for those and this
pub record FirstPair (n : ℕ) (c d : List Gate) (at from : ℕ) : Type 0 where
  pub at_fits : at < 2 ^ n
  pub from_fits : from < 2 ^ n
  pub before : (t : ℕ) × (t < 8) × Before n at from (Agrees n c d t)
  pub here : (t : ℕ) → Before n at from (Agrees n c d t) → Agrees n c d t at from → ⊥
  pub apart : Same c d → ⊥

-- what an answer says
abbrev pub Answers : ℕ → List Gate → List Gate → Comparison → Type 0
Answers n c d (Alike t) = (t < 8) × AlikeBy c d t
Answers n c d (Different at from) = FirstPair n c d at from

-- what comes of comparing, given the first refusal that applies
abbrev pub Compares : Option Refusal → ℕ → List Gate → List Gate → Result Comparison Refusal → Type 0
Compares (Some f) n c d r = r ≡ Err f
Compares None n c d (Ok r) = Answers n c d r
Compares None n c d (Err f) = ⊥

-- there is one right answer
abbrev pub OneAnswer : Type 0
OneAnswer =
    (n : ℕ) (c d : List Gate) (r r' : Result Comparison Refusal) → Compares (refusal n c d) n c d r → Compares (refusal n c d) n c d r' → r ≡ r'

-- and for circuits in numbers
abbrev pub OneAnswerInNumbers : Type 0
OneAnswerInNumbers =
    (n : ℕ) (c d : List ℕ) (r r' : Result Comparison Refusal) → Compares (refusal_in_numbers n c d) n (gates_in c) (gates_in d) r → Compares (refusal_in_numbers n c d) n (gates_in c) (gates_in d) r' → r ≡ r'
