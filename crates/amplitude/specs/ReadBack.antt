-- What a text says of an amplitude, byte by byte, and that what is written is read back. Each statement's proof is owed.
use Rattle.std.specs.Prelude.{◌≡◌, ℕ, ◌+◌, ◌-◌, ◌*◌, ◌^◌, Bool, true, false, cond, ◌&&◌, List, [], ◌∷◌, ℤ, pos, negsuc, neg_ℤ, Some, None, codes, Option, ◌==◌, nat_le}
use Rattle.std.specs.Option.{unwrap_or}
use Rattle.amplitude.specs.declared.Amplitude.{Amplitude}
use Rattle.amplitude.specs.Ring.{Within, nought, plus, turned}
use Rattle.amplitude.specs.Written.{amplitude_text}

-- the sum of the parts that have ended; and of the part that has not: its sign, its factor once a w is read, and the number its digits make up
pub record Reading : Type 0 where
  pub sum : Amplitude
  pub negative : Bool
  pub factor : Option ℕ
  pub number : Option ℕ

-- a new part
abbrev pub begin : Amplitude → Bool → Reading
begin sum negative = record { sum = sum; negative = negative; factor = None; number = None }

-- one more digit of the number
abbrev pub more : Reading → ℕ → Reading
more r d = record { sum = r.sum; negative = r.negative; factor = r.factor; number = Some (10 * unwrap_or r.number 0 + d) }

-- a w: the number before it is the factor, 1 if there is none
abbrev pub raise : Reading → Reading
raise r = record { sum = r.sum; negative = r.negative; factor = Some (unwrap_or r.number 1); number = None }

-- a whole number times a power of w
abbrev pub monomial : Bool → ℕ → ℕ → Amplitude
monomial negative n k = turned k (record { one = cond negative (neg_ℤ (pos n)) (pos n); w = pos 0; w2 = pos 0; w3 = pos 0 })

-- the sum with the last part, in which a number after a w is the power, 1 if there is none
abbrev pub total : Reading → Amplitude
total r = plus r.sum (elim r.factor [ None ↦ monomial r.negative (unwrap_or r.number 0) 0 | Some n ↦ monomial r.negative n (unwrap_or r.number 1) ])

-- + (43) and - (45) end the part before them, w is 119, and digits begin at 48; blanks and ^ are passed over
abbrev pub read_byte : Reading → ℕ → Reading
read_byte r b =
    cond (b == 43) (begin (total r) false)
    (cond (b == 45) (begin (total r) true)
    (cond (b == 119) (raise r)
    (cond (nat_le 48 b && nat_le b 57) (more r (b - 48)) r)))

abbrev pub read_bytes : Reading → List ℕ → Reading
read_bytes r [] = r
read_bytes r (b ∷ bs) = read_bytes (read_byte r b) bs

abbrev pub read_amplitude : List ℕ → Amplitude
read_amplitude bs = total (read_bytes (begin nought false) bs)

-- what is written of an amplitude is read as that amplitude
abbrev pub ReadBack : Type 0
ReadBack = (a : Amplitude) → Within (2 ^ 63) a → read_amplitude (amplitude_text a) ≡ a

-- different amplitudes have different texts
abbrev pub TextTells : Type 0
TextTells = (a b : Amplitude) → Within (2 ^ 63) a → Within (2 ^ 63) b → amplitude_text a ≡ amplitude_text b → a ≡ b

-- an amplitude with these factors has this text
abbrev WrittenSo : ℤ → ℤ → ℤ → ℤ → List ℕ → Type 0
WrittenSo one w w2 w3 bs = amplitude_text (record { one = one; w = w; w2 = w2; w3 = w3 }) ≡ bs

-- negsuc n is -(n + 1)
pub record TextExamples : Type 0 where
  pub three_parts : WrittenSo (pos 1) (pos 1) (pos 0) (negsuc 0) (codes "1 + w - w^3")
  pub two_parts : WrittenSo (pos 2) (pos 0) (negsuc 2) (pos 0) (codes "2 - 3w^2")
  pub first_negative : WrittenSo (negsuc 1) (pos 0) (pos 1) (pos 0) (codes "-2 + w^2")
  pub lone_w : WrittenSo (pos 0) (negsuc 0) (pos 0) (pos 0) (codes "-w")
  pub lone_one : WrittenSo (negsuc 0) (pos 0) (pos 0) (pos 0) (codes "-1")
  pub least : WrittenSo (pos 0) (pos 0) (pos 0) (negsuc (2 ^ 63 - 1)) (codes "-9223372036854775808w^3")
  pub zero : WrittenSo (pos 0) (pos 0) (pos 0) (pos 0) (codes "0")
