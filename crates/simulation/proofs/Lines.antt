-- Rows digit by digit, and lines one after another.
use Rattle.std.proofs.Common.{◌≡◌, ℕ, zero, suc, ◌+◌, ◌*◌, ◌^◌, ◌<◌, Bool, true, false, cond, List, [], ◌++◌, codes, get_or, sym, refl, ap, ◌∙◌, ap₂, add-one, arith}
use Rattle.amplitude.specs.declared.Amplitude.{Amplitude}
use Rattle.amplitude.specs.Ring.{nought}
use Rattle.circuit.specs.declared.gate.Gate.{Gate}
use Rattle.circuit.specs.declared.vector.StateVector.{StateVector}
use Rattle.circuit.specs.Circuit.{Row}
use Rattle.circuit.specs.Rows.{row, number, state_of, amplitude}
use Rattle.circuit.specs.Vector.{Column}
use Rattle.circuit.proofs.Numbers.{number-row}
use Rattle.std.specs.Int.{from_bool}
use Rattle.amplitude.specs.Written.{amplitude_text}
use Rattle.message.specs.Answers.{row_text}
use Rattle.simulation.specs.Playing.{is_nought, line, lines}

-- one digit more
pub number_more : (n m d : ℕ) (b : Row) → m ≡ number n b → d ≡ cond (b n) 1 0 → 2 * m + d ≡ number (n + 1) b
unfolding number
number_more n m d b e f = ap₂ (λ (x y : ℕ). 2 * x + y) e f ∙ ap (λ (k : ℕ). number k b) (sym (add-one n))

-- one line more
pub line-more : (n k : ℕ) (amp : ℕ → Amplitude) (done next : List ℕ) → done ≡ lines n amp k → next ≡ done ++ line n k (amp k) → next ≡ lines n amp (k + 1)
unfolding lines
line-more n k amp done next d e = e ∙ ap (λ (xs : List ℕ). xs ++ line n k (amp k)) d ∙ ap (lines n amp) (sym (add-one k))

-- a row whose amplitude is 0 has no line, and each other one its own
pub line_none : (n k : ℕ) (a : Amplitude) (t : Bool) → t ≡ is_nought a → t ≡ true → [] ≡ line n k a
line_none n k a t e h = ap (λ (u : Bool). cond u [] (row_text n (row n k) ++ (codes ": " ++ (amplitude_text a ++ codes "\n")))) (sym h ∙ e)

pub line_some : (n k : ℕ) (a : Amplitude) (t : Bool) → t ≡ is_nought a → t ≡ false → row_text n (row n k) ++ (codes ": " ++ (amplitude_text a ++ codes "\n")) ≡ line n k a
line_some n k a t e h = ap (λ (u : Bool). cond u [] (row_text n (row n k) ++ (codes ": " ++ (amplitude_text a ++ codes "\n")))) (sym h ∙ e)

pub as_digit : (b : Bool) → from_bool b ≡ cond b 1 0
as_digit true = refl
as_digit false = refl

-- lines of the same amplitudes are the same
lines_same : (n : ℕ) (f g : ℕ → Amplitude) (k : ℕ) → ((j : ℕ) → j < k → f j ≡ g j) → lines n f k ≡ lines n g k
unfolding lines
lines_same n f g zero h = refl
lines_same n f g (suc k) h =
    ap₂ (λ (xs ys : List ℕ). xs ++ ys) (lines_same n f g k (λ j l. h j (omega arith))) (ap (line n k) (h k (omega arith)))

-- the vector has the amplitudes of the circuit
pub lines_of : (n : ℕ) (gs : List Gate) (from : ℕ) (s : StateVector) → Column gs n from s
    → lines s.register.qubits (λ k. get_or s.amplitudes k nought) (2 ^ s.register.qubits) ≡ lines n (amplitude n gs from) (2 ^ n)
unfolding amplitude state_of
lines_of n gs from s c =
    ap (λ (m : ℕ). lines m (λ k. get_or s.amplitudes k nought) (2 ^ m)) c.qubits_are
    ∙ lines_same n (λ k. get_or s.amplitudes k nought) (amplitude n gs from) (2 ^ n)
    (λ j l. ap (λ (i : ℕ). get_or s.amplitudes i nought) (sym (number-row n j l)) ∙ ap (λ (m : ℕ). get_or s.amplitudes (number m (row n j)) nought) (sym c.qubits_are) ∙ c.is (row n j))
