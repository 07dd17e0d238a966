-- What it says that a check refuses nothing.
use Rattle.std.proofs.Common.{◌≡◌, ℕ, Bool, true, false, Some, None, Option, refl, arith}
use Rattle.circuit.specs.declared.refusal.Refusal.{Refusal}
use Rattle.circuit.specs.Refusals.{or_else, unless, at_place}

pub or-none : (o rest : Option Refusal) → or_else o rest ≡ None → (o ≡ None) × (rest ≡ None)
or-none None rest e = (refl, e)
or-none (Some f) rest e = absurd (grind arith)

pub unless-none : (t : Bool) (f : Refusal) → unless t f ≡ None → t ≡ true
unless-none true f e = refl
unless-none false f e = absurd (grind arith)

pub at_none : (f : ℕ → Refusal) (o : Option ℕ) → at_place f o ≡ None → o ≡ None
at_none f None e = refl
at_none f (Some p) e = absurd (grind arith)
