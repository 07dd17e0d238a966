-- A circuit goes sum by sum, and commutes with whatever does so on amplitudes and commutes with a turn.
use Rattle.std.proofs.Common.{◌≡◌, ℕ, List, [], ◌∷◌, ◌++◌, sym, refl, ap, ◌∙◌, ap₂, arith}
use mathlib.Core.Path.{fun_ext}
use Rattle.std.proofs.lemmas.Int.{ints}
use Rattle.amplitude.proofs.RingLaws.{parts, turned_plus, turned-minus, turned-turned, rooted_plus, rooted-minus, rooted_turned}
use Rattle.amplitude.specs.Ring.{plus, minus, turned, rooted}
use Rattle.amplitude.specs.declared.Amplitude.{Amplitude}
use Rattle.circuit.proofs.Kernel.{Kern, keep, other, sum, diff, act, kern, does-is}
use Rattle.circuit.specs.Circuit.{Row, State, flipped, does, run, target}
use Rattle.circuit.specs.declared.gate.Gate.{Gate}

pub record Linear (T : Amplitude → Amplitude) : Type 0 where
  pub on-plus : (a b : Amplitude) → T (plus a b) ≡ plus (T a) (T b)
  pub on-minus : (a b : Amplitude) → T (minus a b) ≡ minus (T a) (T b)
  pub on-turned : (m : ℕ) (a : Amplitude) → T (turned m a) ≡ turned m (T a)

pub turned_linear : (n : ℕ) → Linear (turned n)
turned_linear n = record { on-plus = turned_plus n; on-minus = turned-minus n; on-turned = turned-turned n }

pub rooted_linear : (n : ℕ) → Linear (rooted n)
rooted_linear n = record { on-plus = rooted_plus n; on-minus = rooted-minus n; on-turned = rooted_turned n }

pub act_linear : (T : Amplitude → Amplitude) → Linear T → (k : Kern) (x y : Amplitude) → act k (T x) (T y) ≡ T (act k x y)
act_linear T L (keep m) x y = sym (L.on-turned m x)
act_linear T L other x y = refl
act_linear T L sum x y = sym (L.on-plus x y)
act_linear T L diff x y = sym (L.on-minus y x)

pub does_linear : (T : Amplitude → Amplitude) → Linear T → (g : Gate) (s : State) → does g (λ c. T (s c)) ≡ (λ b. T (does g s b))
does_linear T L g s =
    fun_ext (λ b. does-is g (λ c. T (s c)) b ∙ act_linear T L (kern g b) (s b) (s (flipped (target g) b)) ∙ ap T (sym (does-is g s b)))

pub run_linear : (T : Amplitude → Amplitude) → Linear T → (gs : List Gate) (s : State) → run gs (λ c. T (s c)) ≡ (λ b. T (run gs s b))
unfolding run
run_linear T L [] s = refl
run_linear T L (g ∷ gs) s = ap (run gs) (does_linear T L g s) ∙ run_linear T L gs (does g s)

-- two sums, joined either way
plus-plus : (a b c d : Amplitude) → plus (plus a b) (plus c d) ≡ plus (plus a c) (plus b d)
plus-plus a b c d = parts (omega (arith, ints))

minus_plus : (a b c d : Amplitude) → minus (plus a b) (plus c d) ≡ plus (minus a c) (minus b d)
minus_plus a b c d = parts (omega (arith, ints))

pub minus_minus : (a b c d : Amplitude) → minus (minus a b) (minus c d) ≡ minus (minus a c) (minus b d)
minus_minus a b c d = parts (omega (arith, ints))

pub act-plus : (k : Kern) (x x' y y' : Amplitude) → act k (plus x x') (plus y y') ≡ plus (act k x y) (act k x' y')
act-plus (keep m) x x' y y' = turned_plus m x x'
act-plus other x x' y y' = refl
act-plus sum x x' y y' = plus-plus x x' y y'
act-plus diff x x' y y' = minus_plus y y' x x'

pub act-minus : (k : Kern) (x x' y y' : Amplitude) → act k (minus x x') (minus y y') ≡ minus (act k x y) (act k x' y')
act-minus (keep m) x x' y y' = turned-minus m x x'
act-minus other x x' y y' = refl
act-minus sum x x' y y' = sym (minus_plus x y x' y')
act-minus diff x x' y y' = minus_minus y y' x x'

does-plus : (g : Gate) (s t : State) → does g (λ c. plus (s c) (t c)) ≡ (λ b. plus (does g s b) (does g t b))
does-plus g s t = fun_ext (λ b. does-is g (λ c. plus (s c) (t c)) b
    ∙ act-plus (kern g b) (s b) (t b) (s (flipped (target g) b)) (t (flipped (target g) b))
    ∙ sym (ap₂ plus (does-is g s b) (does-is g t b)))

pub run-plus : (gs : List Gate) (s t : State) → run gs (λ c. plus (s c) (t c)) ≡ (λ b. plus (run gs s b) (run gs t b))
unfolding run
run-plus [] s t = refl
run-plus (g ∷ gs) s t = ap (run gs) (does-plus g s t) ∙ run-plus gs (does g s) (does g t)

does-minus : (g : Gate) (s t : State) → does g (λ c. minus (s c) (t c)) ≡ (λ b. minus (does g s b) (does g t b))
does-minus g s t = fun_ext (λ b. does-is g (λ c. minus (s c) (t c)) b
    ∙ act-minus (kern g b) (s b) (t b) (s (flipped (target g) b)) (t (flipped (target g) b))
    ∙ sym (ap₂ minus (does-is g s b) (does-is g t b)))

pub run-minus : (gs : List Gate) (s t : State) → run gs (λ c. minus (s c) (t c)) ≡ (λ b. minus (run gs s b) (run gs t b))
unfolding run
run-minus [] s t = refl
run-minus (g ∷ gs) s t = ap (run gs) (does-minus g s t) ∙ run-minus gs (does g s) (does g t)

pub run-append : (a b : List Gate) (s : State) → run (a ++ b) s ≡ run b (run a s)
unfolding run
run-append [] b s = refl
run-append (g ∷ a) b s = run-append a b (does g s)

pub run-turned : (m : ℕ) (gs : List Gate) (s : State) (b : Row) → run gs (λ c. turned m (s c)) b ≡ turned m (run gs s b)
run-turned m gs s b = ap (λ (u : State). u b) (run_linear (turned m) (turned_linear m) gs s)

pub run-rooted : (m : ℕ) (gs : List Gate) (s : State) (b : Row) → run gs (λ c. rooted m (s c)) b ≡ rooted m (run gs s b)
run-rooted m gs s b = ap (λ (u : State). u b) (run_linear (rooted m) (rooted_linear m) gs s)
