-- What is turned away, by the first check that fails, and what comes of what is not.
use Rattle.std.specs.Prelude.{◌≡◌, ℕ, ◌*◌, ◌%◌, ◌<◌, ◌≤◌, Bool, ◌&&◌, List, [], length, Some, None, Ok, Err, Option, Result, ◌==◌, nat_le, nat_lt}
use Rattle.circuit.specs.Code.{gates_in, fault_from}
use Rattle.circuit.specs.Refusals.{or_else, unless, at_place, misfit_from}
use Rattle.circuit.specs.declared.gate.Gate.{Gate}
use Rattle.circuit.specs.declared.refusal.Refusal.{Refusal}
use Rattle.circuit.specs.declared.refusal.Refusal.TheVariants.{Qubits, Length, Number, Layout, Device, Room, Mixes, Text}
use Rattle.circuit.specs.declared.refusal.Refusal.TheVariants as refusal
use Rattle.device.specs.Checks.{beyond_from, misplaced_from}
use Rattle.device.specs.Connect.{CutOff}
use Rattle.device.specs.Coupling.{Connected, graph_in}
use Rattle.device.specs.Layout.{at}
use Rattle.compiler.specs.Promise.{Filled}

-- checks 1 and 2: how many qubits, and how long the lists are; few says that there are not too many gates
abbrev pub sizes_refused : (n size joined place : ℕ) → Bool → (out : ℕ) → Option Refusal
sizes_refused n size joined place few out =
    or_else (unless (nat_lt 0 n) (Qubits 0))
    (or_else (unless (nat_le n size && nat_le size 16) (Qubits 1))
    (or_else (unless (joined == size * size) (Length 0))
    (or_else (unless (place == n) (Length 1))
    (or_else (unless few (Length 2))
    (unless (out == n) (Length 4))))))

-- checks 1 to 5 of a circuit; out is how long the list for the final layout is
abbrev pub circuit_refused : ℕ → ℕ → List ℕ → List ℕ → List Gate → ℕ → Option Refusal
circuit_refused n size joined place gs out =
    or_else (sizes_refused n size (length joined) (length place) (nat_le (length gs) 256) out)
    (or_else (at_place Number (beyond_from 2 0 joined))
    (or_else (at_place refusal.Gate (misfit_from n 0 gs))
    (at_place Layout (misplaced_from size [] 0 place))))

-- checks 1 to 3 that a circuit in numbers has of its own
abbrev pub own_refused : ℕ → ℕ → List ℕ → ℕ → List ℕ → ℕ → Option Refusal
own_refused n size joined place gates out =
    or_else (sizes_refused n size (length joined) place (length gates % 4 == 0 && nat_le (length gates) 1024) out)
    (or_else (at_place Number (beyond_from 2 0 joined))
    (at_place Number (fault_from 0 gates)))

-- checks 1 to 5 of a circuit in numbers: its own, and then those of the circuit
abbrev pub numbers_refused : ℕ → ℕ → List ℕ → List ℕ → List ℕ → ℕ → Option Refusal
numbers_refused n size joined place gates out =
    or_else (own_refused n size joined (length place) gates out) (circuit_refused n size joined place (gates_in gates) out)

-- a room that is always enough: three hundred numbers for each number of the circuit
abbrev pub enough : List Gate → ℕ
enough gs = 300 * (4 * length gs)

-- what comes of a circuit that passes the checks 1 to 5; where it is refused, nothing is written
abbrev pub Outcome : (n size : ℕ) (joined place : List ℕ) (gs : List Gate) (room room₁ out out₁ : List ℕ) → Result ℕ Refusal → Type 0
Outcome n size joined place gs room room₁ out out₁ (Ok k) = Connected (graph_in size joined) × (enough gs ≤ length room) × Filled n (graph_in size joined) (at place) (at out₁) gs room room₁ k
Outcome n size joined place gs room room₁ out out₁ (Err (Device p)) = CutOff (graph_in size joined) p × (room₁ ≡ room) × (out₁ ≡ out)
Outcome n size joined place gs room room₁ out out₁ (Err (Room k)) = Connected (graph_in size joined) × (length room < enough gs) × (k ≡ length room) × (room₁ ≡ room) × (out₁ ≡ out)
Outcome n size joined place gs room room₁ out out₁ (Err _) = ⊥

-- what comes of any circuit: the first check that fails is told, and nothing is written
abbrev pub Compiles : Option Refusal → (n size : ℕ) (joined place : List ℕ) (gs : List Gate) (room room₁ out out₁ : List ℕ) → Result ℕ Refusal → Type 0
Compiles (Some f) n size joined place gs room room₁ out out₁ r = (r ≡ Err f) × (room₁ ≡ room) × (out₁ ≡ out)
Compiles None n size joined place gs room room₁ out out₁ r = Outcome n size joined place gs room room₁ out out₁ r
