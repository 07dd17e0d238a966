-- A circuit and then itself backwards is nothing, but for a root of two counted twice for each mix.
use Rattle.std.proofs.Common.{◌≡◌, ℕ, ◌+◌, ◌*◌, ◌%◌, Bool, true, false, cond, not, ◌&&◌, List, [], ◌∷◌, sym, refl, ap, ◌∙◌, arith}
use mathlib.Core.Path.{fun_ext}
use Rattle.std.proofs.lemmas.Int.{ints}
use Rattle.amplitude.proofs.RingLaws.{parts, turned_mod, turned_back, rooted_add, rooted_2, rooted_injective}
use Rattle.amplitude.specs.Ring.{plus, minus, turned, rooted}
use Rattle.amplitude.specs.declared.Amplitude.{Amplitude}
use Rattle.circuit.proofs.Flips.{flipped-at, flipped_off, flipped_twice}
use Rattle.circuit.proofs.Linear.{rooted_linear, does_linear, run-append}
use Rattle.circuit.specs.Circuit.{Row, State, flipped, does, run, mixed, mixes, Fit, AllFit}
use Rattle.circuit.specs.declared.gate.Gate.{Gate}
use Rattle.circuit.specs.declared.gate.Gate.TheVariants.{Phase, Hadamard, Not, ControlledNot, Toffoli}
use Rattle.laws.specs.Laws.{Undoes, Apart}
use Rattle.laws.specs.Undo.{undone, backwards}

-- where the mix is undone at a qubit that is 1, and at one that is 0
at_1 : (x y : Amplitude) → minus (plus y x) (minus y x) ≡ plus x x
at_1 x y = parts (omega (arith, ints))

at-0 : (x y : Amplitude) → plus (plus x y) (minus x y) ≡ plus x x
at-0 x y = parts (omega (arith, ints))

pub hadamard_twice : (t : Bool) (x y x' : Amplitude) → x' ≡ x →
    cond t (minus (cond (not t) (minus x' y) (plus y x')) (cond t (minus y x) (plus x y))) (plus (cond t (minus y x) (plus x y)) (cond (not t) (minus x' y) (plus y x'))) ≡ plus x x
hadamard_twice true x y x' e = rw e (at_1 x y)
hadamard_twice false x y x' e = rw e (at-0 x y)

phased : (t : Bool) (m : ℕ) (x : Amplitude) → cond t (turned (7 * m % 8) (cond t (turned m x) x)) (cond t (turned m x) x) ≡ x
phased true m x = turned_mod (7 * m) (turned m x) ∙ turned_back m x
phased false m x = refl

pub ifs : (t : Bool) (x y z : Amplitude) → z ≡ x → cond t (cond t z y) (cond t y x) ≡ x
ifs true x y z e = e
ifs false x y z e = refl

pub undone-does : (n : ℕ) (g : Gate) → Fit n g → (s : State) (b : Row) → does (undone g) (does g s) b ≡ rooted (2 * mixed g) (s b)
unfolding does undone
undone-does n (Phase m q) h s b = phased (b q) m (s b)
undone-does n (Hadamard q) h s b = rw (flipped-at q b) (hadamard_twice (b q) (s b) (s (flipped q b)) (s (flipped q (flipped q b))) (ap s (flipped_twice q b)) ∙ sym (rooted_2 (s b)))
undone-does n (Not q) h s b = ap s (flipped_twice q b)
undone-does n (ControlledNot c q) h s b = rw (flipped_off q c b h.2) (ifs (b c) (s b) (s (flipped q b)) (s (flipped q (flipped q b))) (ap s (flipped_twice q b)))
undone-does n (Toffoli c d q) h s b =
    rw (flipped_off q c b h.4, flipped_off q d b h.5) (ifs (b c && b d) (s b) (s (flipped q b)) (s (flipped q (flipped q b))) (ap s (flipped_twice q b)))

twice : (g : Gate) (gs : List Gate) → 2 * mixes gs + 2 * mixed g ≡ 2 * mixes (g ∷ gs)
unfolding mixes
twice g gs = omega arith

undo-run : (n : ℕ) (gs : List Gate) → AllFit n gs → (s : State) → run (backwards gs) (run gs s) ≡ (λ b. rooted (2 * mixes gs) (s b))
unfolding run backwards mixes
undo-run n [] _ s = refl
undo-run n (g ∷ gs) (h, f) s = fun_ext (λ b.
    ap (λ (u : State). u b) (run-append (backwards gs) (undone g ∷ []) (run gs (does g s)))
    ∙ ap (λ (u : State). does (undone g) u b) (undo-run n gs f (does g s))
    ∙ ap (λ (u : State). u b) (does_linear (rooted (2 * mixes gs)) (rooted_linear (2 * mixes gs)) (undone g) (does g s))
    ∙ ap (rooted (2 * mixes gs)) (undone-does n g h s b)
    ∙ sym (rooted_add (2 * mixes gs) (2 * mixed g) (s b))
    ∙ ap (λ k. rooted k (s b)) (twice g gs))

pub undoes : Undoes
undoes n gs s b f = ap (λ (u : State). u b) (run-append gs (backwards gs) s ∙ undo-run n gs f s)

pub apart : Apart
apart n gs s t f e b =
    rooted_injective (2 * mixes gs) (s b) (t b)
    (sym (ap (λ (u : State). u b) (undo-run n gs f s)) ∙ ap (λ (u : State). run (backwards gs) u b) (fun_ext e) ∙ ap (λ (u : State). u b) (undo-run n gs f t))
