-- What does a circuit on a device does each that is the same.
use Rattle.std.proofs.Common.{◌≡◌, ℕ, zero, suc, Bool, true, false, cond, sym, refl, ap, ◌∙◌}
use mathlib.Core.Path.{fun_ext}
use Rattle.amplitude.specs.Ring.{nought, turned, rooted}
use Rattle.amplitude.specs.declared.Amplitude.{Amplitude}
use Rattle.circuit.specs.Circuit.{Row, State, run, mixes}
use Rattle.device.specs.Coupling.{Graph}
use Rattle.device.specs.Layout.{rest_0, seen, laid}
use Rattle.compiler.specs.Route.{Exactly, DoneThrough}
use Rattle.amplitude.proofs.RingLaws.{rooted-nought, turned-nought}

-- what leaves nought alone goes with laying out
pub laid_through : (n : ℕ) (d : Graph) (q : ℕ → ℕ) (T : Amplitude → Amplitude) → T nought ≡ nought → (s : State) (b : Row) → laid n d q (λ c. T (s c)) b ≡ T (laid n d q s b)
unfolding laid
laid_through n d q T e s b = go (rest_0 d.size n q b)
  where
    go : (r : Bool) → cond r (T (s (seen n q b))) nought ≡ T (cond r (s (seen n q b)) nought)
    go true = refl
    go false = sym e

pub done-through : DoneThrough
unfolding Exactly
done-through n d p q gs es ds w m = record {
  turn = w.turn;
  same = λ s b.
      ap (rooted (mixes gs)) (m.exact s b)
      ∙ sym (laid_through n d q (rooted (mixes gs)) (rooted-nought (mixes gs)) (run es s) b)
      ∙ ap (λ (r : State). laid n d q r b) (fun_ext (w.same s))
      ∙ laid_through n d q (λ a. turned w.turn (rooted (mixes es) a)) (ap (turned w.turn) (rooted-nought (mixes es)) ∙ turned-nought w.turn) (run gs s) b
      ∙ ap (λ k. turned w.turn (rooted k (laid n d q (run gs s) b))) (sym m.roots);
}
