-- What the program `compare` answers to the bytes of two texts.
use Rattle.std.specs.Prelude.{◌≡◌, ℕ, max, List, Ok, Err, vec_items, string_bytes, Result, String}
use Rattle.std.specs.declared.alloc.Global.{Global}
use Rattle.circuit.specs.declared.gate.Gate.{Gate}
use Rattle.circuit.specs.declared.failure.Failure.{Failure}
use Rattle.circuit.specs.declared.failure.Failure.TheVariants as failure
use Rattle.circuit.specs.declared.refusal.Refusal.{Refusal}
use Rattle.text.specs.declared.program.Circuit.{Circuit}
use Rattle.equivalence.specs.declared.comparison.Comparison.{Comparison}
use Rattle.equivalence.specs.declared.comparison.Comparison.TheVariants.{Alike, Different}
use Rattle.equivalence.specs.Compare.{Compares, refusal}
use Rattle.message.specs.declared.comparing.CompareError.{CompareError}
use Rattle.message.specs.declared.comparing.CompareError.TheVariants as error
use Rattle.message.specs.declared.comparing.Side.{Side}
use Rattle.message.specs.declared.comparing.Side.TheVariants.{First, Second}
use Rattle.message.specs.Reading.{SaysIn, SaysOn, RefusedIn}
use Rattle.message.specs.Answers.{alike_text, different_text}

-- a failure of reading, with the side
abbrev pub on_side : Side → Failure → CompareError
on_side side failure.Memory = error.Memory
on_side side (failure.Refused f) = error.Text side f

-- one text, of at most 1024 gates
abbrev pub SideRead : Side → List ℕ → Result Circuit CompareError → Type 0
SideRead side bytes (Ok c) = SaysOn 1024 bytes c.qubits (vec_items c.gates)
SideRead side bytes (Err error.Memory) = Unit {0}
SideRead side bytes (Err (error.Text at f)) = (at ≡ side) × RefusedIn 1024 bytes f
SideRead side bytes (Err (error.Refused f)) = ⊥

-- what is written of an answer on n qubits
abbrev pub Written : ℕ → Comparison → List ℕ → Type 0
Written n (Alike t) out = out ≡ alike_text t
Written n (Different at from) out = out ≡ different_text n at from

-- the texts say circuits, and this is the right answer to whether they are the same, or the refusal to tell, on the n qubits of both together
pub record Answered (first second : List ℕ) (answer : Result Comparison Refusal) (n : ℕ) : Type 0 where
  pub c : List Gate
  pub c_qubits : ℕ
  pub c_said : SaysOn 1024 first c_qubits c
  pub d : List Gate
  pub d_qubits : ℕ
  pub d_said : SaysOn 1024 second d_qubits d
  pub on : n ≡ max c_qubits d_qubits
  pub right : Compares (refusal n c d) n c d answer

-- the first text is looked at before the second, and both before the circuits
abbrev pub Compared : List ℕ → List ℕ → Result (String Global) CompareError → Type 0
Compared first second (Ok s) = (answer : Comparison) × (n : ℕ) × Answered first second (Ok answer) n × Written n answer (string_bytes s)
Compared first second (Err error.Memory) = Unit {0}
Compared first second (Err (error.Text First f)) = RefusedIn 1024 first f
Compared first second (Err (error.Text Second f)) = ((c : List Gate) × SaysIn 1024 first c) × RefusedIn 1024 second f
Compared first second (Err (error.Refused f)) = (n : ℕ) × Answered first second (Err f) n
