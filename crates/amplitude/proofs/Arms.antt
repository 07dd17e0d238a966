-- What the arms of a turn give: parts that went through 64 bits unharmed, for the eighths past a multiple of eight.
use Rattle.std.proofs.Common.{◌≡◌, ℕ, ◌%◌, ◌^◌, ◌≤◌, ℤ, pos, ◌-ℤ◌, nat_abs, sym, ap, ◌∙◌, arith, w64, to_z, of_z}
use borrow.Author.Differences.{ints}
use Rattle.amplitude.specs.declared.Amplitude.{Amplitude}
use Rattle.amplitude.specs.Ring.{turned}
use Rattle.amplitude.proofs.RingLaws.{turned_mod}

abbrev word : ℤ → ℤ
word z = to_z w64 (of_z w64 z)

pub kept : (z : ℤ) → nat_abs z ≤ 2 ^ 61 → word z ≡ z
kept z h = omega (arith, ints)

pub kept_neg : (z : ℤ) → nat_abs z ≤ 2 ^ 61 → word (pos 0 -ℤ word z) ≡ pos 0 -ℤ z
kept_neg z h = omega (arith, ints)

pub twice : (z : ℤ) → pos 0 -ℤ (pos 0 -ℤ z) ≡ z
twice z = omega (arith, ints)

pub arm : (m k : ℕ) (a r : Amplitude) → m % 8 ≡ k → r ≡ turned k a → r ≡ turned m a
arm m k a r e h = h ∙ ap (λ (n : ℕ). turned n a) (sym e) ∙ turned_mod m a
