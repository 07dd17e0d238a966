-- The laws of amplitudes.
use Rattle.std.proofs.Common.{◌≡◌, ℕ, zero, suc, ◌+◌, ◌*◌, ◌/◌, ◌%◌, sym, refl, ap, ◌∙◌, add_comm, suc-add, zero-add, mul-suc, arith}
use Rattle.std.proofs.lemmas.Int.{ints}
use Rattle.amplitude.specs.declared.Amplitude.{Amplitude}
use Rattle.amplitude.specs.Laws.{RingLaws}
use Rattle.amplitude.specs.Ring.{nought, plus, minus, turned, rooted}

-- an amplitude is its four parts
pub parts : {a b : Amplitude} → (a.one ≡ b.one) × (a.w ≡ b.w) × (a.w2 ≡ b.w2) × (a.w3 ≡ b.w3) → a ≡ b
parts e = λ k. record { one = e.0 k; w = e.1 k; w2 = e.2 k; w3 = e.3 k }

pub plus_comm : (a b : Amplitude) → plus a b ≡ plus b a
plus_comm a b = parts (omega (arith, ints))

pub plus_assoc : (a b c : Amplitude) → plus (plus a b) c ≡ plus a (plus b c)
plus_assoc a b c = parts (omega (arith, ints))

pub plus_nought : (a : Amplitude) → plus a nought ≡ a
plus_nought a = parts (omega (arith, ints))

pub minus_self : (a : Amplitude) → minus a a ≡ nought
minus_self a = parts (omega (arith, ints))

-- for one step, on fields
turned_plus1 : (a b : Amplitude) → turned 1 (plus a b) ≡ plus (turned 1 a) (turned 1 b)
turned_plus1 a b = parts (omega (arith, ints))

turned_minus1 : (a b : Amplitude) → turned 1 (minus a b) ≡ minus (turned 1 a) (turned 1 b)
turned_minus1 a b = parts (omega (arith, ints))

rooted_plus1 : (a b : Amplitude) → rooted 1 (plus a b) ≡ plus (rooted 1 a) (rooted 1 b)
rooted_plus1 a b = parts (omega (arith, ints))

rooted_minus1 : (a b : Amplitude) → rooted 1 (minus a b) ≡ minus (rooted 1 a) (rooted 1 b)
rooted_minus1 a b = parts (omega (arith, ints))

rooted_turned1 : (a : Amplitude) → rooted 1 (turned 1 a) ≡ turned 1 (rooted 1 a)
rooted_turned1 a = parts (omega (arith, ints))

pub turned_8 : (a : Amplitude) → turned 8 a ≡ a
turned_8 a = parts (omega (arith, ints))

pub rooted_2 : (a : Amplitude) → rooted 2 a ≡ plus a a
rooted_2 a = parts (omega (arith, ints))

plus_twice : (a b : Amplitude) → plus a a ≡ plus b b → a ≡ b
plus_twice a b e =
    let o = ap (λ (x : Amplitude). x.one) e in
    let p = ap (λ (x : Amplitude). x.w) e in
    let q = ap (λ (x : Amplitude). x.w2) e in
    let r = ap (λ (x : Amplitude). x.w3) e in
    parts (omega (arith, ints))

-- a step more
pub turned-suc : (n : ℕ) (a : Amplitude) → turned (suc n) a ≡ turned 1 (turned n a)
turned-suc n a = refl

pub rooted-suc : (n : ℕ) (a : Amplitude) → rooted (suc n) a ≡ rooted 1 (rooted n a)
rooted-suc n a = refl

pub turned_plus : (n : ℕ) (a b : Amplitude) → turned n (plus a b) ≡ plus (turned n a) (turned n b)
turned_plus zero a b = refl
turned_plus (suc n) a b = ap (turned 1) (turned_plus n a b) ∙ turned_plus1 (turned n a) (turned n b)

pub turned-minus : (n : ℕ) (a b : Amplitude) → turned n (minus a b) ≡ minus (turned n a) (turned n b)
turned-minus zero a b = refl
turned-minus (suc n) a b = ap (turned 1) (turned-minus n a b) ∙ turned_minus1 (turned n a) (turned n b)

pub turned_add : (m n : ℕ) (a : Amplitude) → turned (m + n) a ≡ turned m (turned n a)
turned_add zero n a = rw zero-add
turned_add (suc m) n a = rw suc-add (ap (turned 1) (turned_add m n a))

pub turned-turned : (m n : ℕ) (a : Amplitude) → turned m (turned n a) ≡ turned n (turned m a)
turned-turned m n a = sym (turned_add m n a) ∙ ap (λ k. turned k a) (add_comm m n) ∙ turned_add n m a

turned_8s : (k : ℕ) (a : Amplitude) → turned (8 * k) a ≡ a
turned_8s zero a = refl
turned_8s (suc k) a = rw mul-suc (turned_add (8 * k) 8 a ∙ ap (turned (8 * k)) (turned_8 a) ∙ turned_8s k a)

pub turned_mod : (n : ℕ) (a : Amplitude) → turned (n % 8) a ≡ turned n a
turned_mod n a = let e : 8 * (n / 8) + n % 8 ≡ n = omega arith in sym (turned_8s (n / 8) (turned (n % 8) a)) ∙ sym (turned_add (8 * (n / 8)) (n % 8) a) ∙ ap (λ k. turned k a) e

pub turned_back : (m : ℕ) (a : Amplitude) → turned (7 * m) (turned m a) ≡ a
turned_back m a = let e : 7 * m + m ≡ 8 * m = omega arith in sym (turned_add (7 * m) m a) ∙ ap (λ k. turned k a) e ∙ turned_8s m a

pub rooted_plus : (n : ℕ) (a b : Amplitude) → rooted n (plus a b) ≡ plus (rooted n a) (rooted n b)
rooted_plus zero a b = refl
rooted_plus (suc n) a b = ap (rooted 1) (rooted_plus n a b) ∙ rooted_plus1 (rooted n a) (rooted n b)

pub rooted-minus : (n : ℕ) (a b : Amplitude) → rooted n (minus a b) ≡ minus (rooted n a) (rooted n b)
rooted-minus zero a b = refl
rooted-minus (suc n) a b = ap (rooted 1) (rooted-minus n a b) ∙ rooted_minus1 (rooted n a) (rooted n b)

rooted-1-turned : (m : ℕ) (a : Amplitude) → rooted 1 (turned m a) ≡ turned m (rooted 1 a)
rooted-1-turned zero a = refl
rooted-1-turned (suc m) a = ap (rooted 1) (turned-suc m a) ∙ rooted_turned1 (turned m a) ∙ ap (turned 1) (rooted-1-turned m a) ∙ sym (turned-suc m (rooted 1 a))

pub rooted_turned : (n m : ℕ) (a : Amplitude) → rooted n (turned m a) ≡ turned m (rooted n a)
rooted_turned zero m a = refl
rooted_turned (suc n) m a =
    rooted-suc n (turned m a) ∙ ap (rooted 1) (rooted_turned n m a) ∙ rooted-1-turned m (rooted n a) ∙ ap (turned m) (sym (rooted-suc n a))

pub rooted_add : (m n : ℕ) (a : Amplitude) → rooted (m + n) a ≡ rooted m (rooted n a)
rooted_add zero n a = rw zero-add
rooted_add (suc m) n a = rw suc-add (ap (rooted 1) (rooted_add m n a))

pub rooted-rooted : (m n : ℕ) (a : Amplitude) → rooted m (rooted n a) ≡ rooted n (rooted m a)
rooted-rooted m n a = sym (rooted_add m n a) ∙ ap (λ k. rooted k a) (add_comm m n) ∙ rooted_add n m a

rooted_1_injective : (a b : Amplitude) → rooted 1 a ≡ rooted 1 b → a ≡ b
rooted_1_injective a b e = plus_twice a b (sym (rooted_2 a) ∙ ap (rooted 1) e ∙ rooted_2 b)

pub rooted_injective : (n : ℕ) (a b : Amplitude) → rooted n a ≡ rooted n b → a ≡ b
rooted_injective zero a b e = e
rooted_injective (suc n) a b e = rooted_injective n a b (rooted_1_injective (rooted n a) (rooted n b) e)

pub ring_laws : RingLaws
ring_laws = record { plus_comm = plus_comm; plus_assoc = plus_assoc; plus_nought = plus_nought; minus_self = minus_self; turned_plus = turned_plus; turned_8 = turned_8; turned_add = turned_add; turned_mod = turned_mod; rooted_plus = rooted_plus; rooted_turned = rooted_turned; rooted_add = rooted_add; rooted_2 = rooted_2; rooted_injective = rooted_injective }

-- nought turned, and nought times roots, is nought
pub turned-nought : (m : ℕ) → turned m nought ≡ nought
turned-nought zero = refl
turned-nought (suc m) = ap (turned 1) (turned-nought m)

pub rooted-nought : (m : ℕ) → rooted m nought ≡ nought
rooted-nought zero = refl
rooted-nought (suc m) = ap (rooted 1) (rooted-nought m)
