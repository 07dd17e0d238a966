-- A row's digits, one after another.
use Rattle.std.proofs.Common.{◌≡◌, ℕ, ◌+◌, ◌++◌, sym, ap, add-one}
use Rattle.circuit.specs.Circuit.{Row}
use Rattle.message.specs.Answers.{digit, row_text}

pub digit-more : (q : ℕ) (b : Row) → row_text q b ++ digit (b q) ≡ row_text (q + 1) b
unfolding row_text
digit-more q b = ap (λ k. row_text k b) (sym (add-one q))
