use Rattle.std.proofs.Common.{◌≡◌, ℕ, ◌≤◌, List, [], ◌++◌, reverse, length, take, drop, sym, refl, subst, arith, length-append}
use Rattle.std.proofs.lemmas.List.{take_all, take-append-le, length-take}
use Rattle.circuit.specs.declared.gate.Gate.{Gate}
use Rattle.tidy.proofs.Kept.{kept_refl}
use Rattle.tidy.proofs.Normal.{tidied}
use Rattle.tidy.proofs.Steps.{Standing, sweep_stands, sweep_settled}
use Rattle.tidy.specs.Engine.{swept}
use Rattle.tidy.specs.Promise.{Tidy}
use Rattle.tidy.proofs.pass.settle.Goals as goal

-- the first n of xs swept, which puts ys in their place, the first m of which are left
module _ (whole xs ys : List Gate) (t u n m : ℕ) (row : reverse (take m ys) ≡ (swept t [] (take n xs)).0) (turn : u ≡ (swept t [] (take n xs)).1) (few : m ≤ length ys) where
  stands : Standing whole (take n xs) t → Standing whole (take m (ys ++ drop n xs)) u × (m ≤ length (ys ++ drop n xs))
  stands s =
      (subst (λ d. Standing whole d u) (sym (take-append-le m ys (drop n xs) few)) (sweep_stands whole (take n xs) (take m ys) t u row turn s), omega (arith, length-append ys (drop n xs)))

  settled : n ≤ length xs → m ≡ n → Tidy (take m (ys ++ drop n xs))
  settled l e = subst Tidy (sym (take-append-le m ys (drop n xs) few)) (sweep_settled (take n xs) (take m ys) t row (omega (arith, length-take m ys, length-take n xs)))

pub loop-best-init : goal.loop-best-init
loop-best-init c =
    let gs : List Gate = c.args.gates.now in
    (subst (λ d. Standing gs d 0) (sym (take_all (length gs) gs (omega arith))) (record { keeps = kept_refl 0 (reverse gs); same = λ t. (refl, refl); small = omega arith }), omega arith)

pub loop-best-preserved : goal.loop-best-preserved
loop-best-preserved c =
    stands c.args.gates.now c.loop-best.gates c.sweep-next.new.gates c.loop-best.best.turn c.sweep-next.result.turn c.loop-best.best.len c.sweep-next.result.len
    c.sweep-next.ensures.row c.sweep-next.ensures.turn (omega arith) c.loop-best.invariant.0

pub returns-then-next-best : goal.returns-then-next-best
returns-then-next-best c =
    let w =
    stands c.args.gates.now c.loop-best.gates c.sweep-next.new.gates c.loop-best.best.turn c.sweep-next.result.turn c.loop-best.best.len c.sweep-next.result.len
    c.sweep-next.ensures.row c.sweep-next.ensures.turn (omega arith) c.loop-best.invariant.0 in
    record {
      done = tidied _ _ _ w.0.keeps;
      tidy = settled c.args.gates.now c.loop-best.gates c.sweep-next.new.gates c.loop-best.best.turn c.sweep-next.result.turn c.loop-best.best.len c.sweep-next.result.len
          c.sweep-next.ensures.row c.sweep-next.ensures.turn (omega arith) c.loop-best.invariant.1 (omega arith);
      few = w.1;
      small = w.0.small;
      again = w.0.same;
    }
