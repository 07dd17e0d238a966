-- What reading a text and comparing two circuits tell of the bytes of two texts.
use Rattle.std.proofs.Common.{◌≡◌, ℕ, List, Ok, Err, Result, refl, sym, subst}
use Rattle.std.specs.Result.{MatchResult}
use Rattle.text.specs.declared.program.Circuit.{Circuit}
use Rattle.message.specs.declared.comparing.CompareError.{CompareError}
use Rattle.circuit.specs.declared.failure.Failure.{Failure}
use Rattle.circuit.specs.declared.failure.Failure.TheVariants as failure
use Rattle.text.specs.Program.{AnswersText}
use Rattle.message.specs.declared.comparing.Side.{Side}
use Rattle.message.specs.Compared.{SideRead, on_side}
use Rattle.message.proofs.Readings.{read_ok, read_refused}

pub side_failure : (side : Side) (bytes : List ℕ) (e : Failure) → AnswersText 1024 bytes (Err e) → SideRead side bytes (Err (on_side side e))
side_failure side bytes failure.Memory a = tt
side_failure side bytes (failure.Refused f) a = (refl, read_refused 1024 bytes f a)

pub side_read : (side : Side) (bytes : List ℕ) (o : Result Circuit Failure) (r : Result Circuit CompareError) → AnswersText 1024 bytes o → MatchResult o (λ c. r ≡ Ok c) (λ e. r ≡ Err (on_side side e)) → SideRead side bytes r
side_read side bytes (Ok c) r a m = subst (SideRead side bytes) (sym m) (read_ok 1024 bytes c a)
side_read side bytes (Err e) r a m = subst (SideRead side bytes) (sym m) (side_failure side bytes e a)
