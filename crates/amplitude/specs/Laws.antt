-- The laws of amplitudes, as a statement whose proof is owed.
use Rattle.std.specs.Prelude.{◌≡◌, ℕ, ◌+◌, ◌%◌}
use Rattle.amplitude.specs.declared.Amplitude.{Amplitude}
use Rattle.amplitude.specs.Ring.{nought, plus, minus, turned, rooted}

pub record RingLaws : Type 0 where
  pub plus_comm : (a b : Amplitude) → plus a b ≡ plus b a
  pub plus_assoc : (a b c : Amplitude) → plus (plus a b) c ≡ plus a (plus b c)
  pub plus_nought : (a : Amplitude) → plus a nought ≡ a
  pub minus_self : (a : Amplitude) → minus a a ≡ nought
  pub turned_plus : (n : ℕ) (a b : Amplitude) → turned n (plus a b) ≡ plus (turned n a) (turned n b)
  pub turned_8 : (a : Amplitude) → turned 8 a ≡ a
  pub turned_add : (m n : ℕ) (a : Amplitude) → turned (m + n) a ≡ turned m (turned n a)
  pub turned_mod : (n : ℕ) (a : Amplitude) → turned (n % 8) a ≡ turned n a
  pub rooted_plus : (n : ℕ) (a b : Amplitude) → rooted n (plus a b) ≡ plus (rooted n a) (rooted n b)
  pub rooted_turned : (n m : ℕ) (a : Amplitude) → rooted n (turned m a) ≡ turned m (rooted n a)
  pub rooted_add : (m n : ℕ) (a : Amplitude) → rooted (m + n) a ≡ rooted m (rooted n a)
  -- the root of two, twice, doubles
  pub rooted_2 : (a : Amplitude) → rooted 2 a ≡ plus a a
  pub rooted_injective : (n : ℕ) (a b : Amplitude) → rooted n a ≡ rooted n b → a ≡ b
