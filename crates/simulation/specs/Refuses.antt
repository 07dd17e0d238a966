-- When a circuit that begins from a row is refused, and what is answered.
use Rattle.std.specs.Prelude.{◌≡◌, ℕ, Bool, ◌&&◌, List, length, Some, None, Ok, Err, string_bytes, Option, Result, String, ◌==◌, nat_le}
use Rattle.std.specs.declared.alloc.Global.{Global}
use Rattle.circuit.specs.declared.gate.Gate.{Gate}
use Rattle.circuit.specs.declared.refusal.Refusal.{Refusal}
use Rattle.circuit.specs.declared.refusal.Refusal.TheVariants.{Qubits, Length, Mixes}
use Rattle.circuit.specs.declared.refusal.Refusal.TheVariants as variant
use Rattle.circuit.specs.Circuit.{mixes}
use Rattle.circuit.specs.Refusals.{or_else, unless, at_place, misfit_from}
use Rattle.circuit.specs.declared.failure.Failure.{Failure}
use Rattle.circuit.specs.declared.failure.Failure.TheVariants.{Memory, Refused}
use Rattle.simulation.specs.Playing.{played}

-- the first refusal that applies to gates on n qubits that begin from a row
abbrev pub refusal : ℕ → List Bool → List Gate → Option Refusal
refusal n ds gs =
    or_else (unless (nat_le 1 n && nat_le n 8) (Qubits 0))
    (or_else (unless (length ds == n) (Length 0))
    (or_else (at_place variant.Gate (misfit_from n 0 gs))
    (unless (nat_le (mixes gs) 60) (Mixes (mixes gs)))))

-- what is answered: the amplitudes as text, or the first refusal that applies
abbrev pub Plays : ℕ → List Bool → List Gate → Result (String Global) Failure → Type 0
Plays n ds gs (Ok s) = (refusal n ds gs ≡ None) × (string_bytes s ≡ played n ds gs)
Plays n ds gs (Err Memory) = Unit {0}
Plays n ds gs (Err (Refused f)) = refusal n ds gs ≡ Some f
