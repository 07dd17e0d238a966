-- How large the parts of sums, differences and turned amplitudes are.
use Rattle.std.proofs.Common.{ℕ, zero, suc, ◌+◌, ◌≤◌, ℤ, pos, ◌-ℤ◌, nat_abs, arith}
use borrow.Author.Differences.{ints}
use Rattle.amplitude.specs.declared.Amplitude.{Amplitude}
use Rattle.amplitude.specs.Ring.{plus, minus, turned, rooted, Within}

pub within_plus : (m : ℕ) (a b : Amplitude) → Within m a → Within m b → Within (m + m) (plus a b)
within_plus m a b h k = record { of_one = omega (arith, ints); of_w = omega (arith, ints); of_w2 = omega (arith, ints); of_w3 = omega (arith, ints) }

pub within_minus : (m : ℕ) (a b : Amplitude) → Within m a → Within m b → Within (m + m) (minus a b)
within_minus m a b h k = record { of_one = omega (arith, ints); of_w = omega (arith, ints); of_w2 = omega (arith, ints); of_w3 = omega (arith, ints) }

pub within_turned : (m n : ℕ) (a : Amplitude) → Within m a → Within m (turned n a)
within_turned m zero a h = h
within_turned m (suc n) a h =
    let k = within_turned m n a h in
    record { of_one = negated (turned n a).w3 k.of_w3; of_w = k.of_one; of_w2 = k.of_w; of_w3 = k.of_w2 }
  where
    negated : (z : ℤ) → nat_abs z ≤ m → nat_abs (pos 0 -ℤ z) ≤ m
    negated z l = omega (arith, ints)

pub within_more : (m n : ℕ) (a : Amplitude) → m ≤ n → Within m a → Within n a
within_more m n a l h =
    record { of_one = omega arith; of_w = omega arith; of_w2 = omega arith; of_w3 = omega arith }

pub within_rooted : (m : ℕ) (a : Amplitude) → Within m a → Within (m + m) (rooted 1 a)
within_rooted m a h = within_minus m (turned 1 a) (turned 3 a) (within_turned m 1 a h) (within_turned m 3 a h)
