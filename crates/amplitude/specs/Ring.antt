-- Whole numbers with an eighth root of one: one + w·w + w2·w² + w3·w³, where w⁴ is -1.
use Rattle.std.specs.Prelude.{ℕ, zero, suc, ◌≤◌, pos, ◌+ℤ◌, ◌-ℤ◌, unsigned_abs}
use Rattle.amplitude.specs.declared.Amplitude.{Amplitude}

abbrev pub nought : Amplitude
nought = record { one = pos 0; w = pos 0; w2 = pos 0; w3 = pos 0 }

abbrev pub unit : Amplitude
unit = record { one = pos 1; w = pos 0; w2 = pos 0; w3 = pos 0 }

abbrev pub plus : Amplitude → Amplitude → Amplitude
plus a b = record { one = a.one +ℤ b.one; w = a.w +ℤ b.w; w2 = a.w2 +ℤ b.w2; w3 = a.w3 +ℤ b.w3 }

abbrev pub minus : Amplitude → Amplitude → Amplitude
minus a b = record { one = a.one -ℤ b.one; w = a.w -ℤ b.w; w2 = a.w2 -ℤ b.w2; w3 = a.w3 -ℤ b.w3 }

-- times w, so many times
abbrev pub turned : ℕ → Amplitude → Amplitude
turned zero a = a
turned (suc n) a = record { one = pos 0 -ℤ (turned n a).w3; w = (turned n a).one; w2 = (turned n a).w; w3 = (turned n a).w2 }

-- times the root of two, which is w - w³, so many times
abbrev pub rooted : ℕ → Amplitude → Amplitude
rooted zero a = a
rooted (suc n) a = minus (turned 1 (rooted n a)) (turned 3 (rooted n a))

-- each of the four parts is at most m, either way
pub record Within (m : ℕ) (a : Amplitude) : Type 0 where
  pub of_one : unsigned_abs a.one ≤ m
  pub of_w : unsigned_abs a.w ≤ m
  pub of_w2 : unsigned_abs a.w2 ≤ m
  pub of_w3 : unsigned_abs a.w3 ≤ m
