-- What a reader's answer tells of the bytes of a text.
use Rattle.std.proofs.Common.{ℕ, List, Ok, Err, vec_items, refl}
use Rattle.circuit.specs.declared.gate.Gate as gate
use Rattle.circuit.specs.declared.refusal.Refusal.{Refusal}
use Rattle.circuit.specs.declared.refusal.Refusal.TheVariants.{Text}
use Rattle.circuit.specs.declared.failure.Failure.TheVariants as failure
use Rattle.text.specs.declared.program.Circuit.{Circuit}
use Rattle.text.specs.Program.{AnswersText}
use Rattle.text.proofs.Spelt.{spells_one}
use Rattle.message.specs.Reading.{SaysIn, SaysOn, RefusedIn}

pub read_ok : (limit : ℕ) (bytes : List ℕ) (c : Circuit) → AnswersText limit bytes (Ok c) → SaysOn limit bytes c.qubits (vec_items c.gates)
read_ok limit bytes c a =
    let t = spells_one bytes in
    record { signs = t.0; spells = t.1; says = (a t.0 t.1).0; on = (a t.0 t.1).1 }

pub said : (limit n : ℕ) (bytes : List ℕ) (gs : List gate.Gate) → SaysOn limit bytes n gs → SaysIn limit bytes gs
said limit n bytes gs s = (s.signs, s.spells, s.says)

pub read_refused : (limit : ℕ) (bytes : List ℕ) (f : Refusal) → AnswersText limit bytes (Err (failure.Refused f)) → RefusedIn limit bytes f
read_refused limit bytes (Text i) a = let t = spells_one bytes in (t.0, i, t.1, a t.0 t.1, refl)
read_refused limit bytes _ a = let t = spells_one bytes in absurd (a t.0 t.1)
