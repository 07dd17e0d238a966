-- A gate after another: what is left to run.
use Rattle.std.proofs.Common.{◌≡◌, ℕ, ◌+◌, ◌-◌, ◌^◌, ◌≤◌, List, [], ◌∷◌, sym, ap, ◌∙◌, subst, Bor, Option, None, Some, arith, pow_mono}
use Rattle.amplitude.proofs.Bounds.{within_more}
use Rattle.circuit.proofs.Growth.{bounded-does}
use Rattle.circuit.specs.Circuit.{Row, State, does, run, mixed, mixes, AllFit}
use Rattle.circuit.specs.Vector.{represented, Bounded, Gives, Ready}
use Rattle.circuit.specs.declared.gate.Gate.{Gate}
use Rattle.circuit.specs.declared.register.Register.{Register}
use Rattle.circuit.specs.declared.vector.StateVector.{StateVector}

pub ready_small : (gs : List Gate) (s : StateVector) → Ready gs s → Bounded (2 ^ 61) (represented s)
ready_small gs s r b = within_more (2 ^ (61 - mixes gs)) (2 ^ 61) (represented s b) (pow_mono {i = 61 - mixes gs} {j = 61} (omega arith)) (r.room b)

-- the gates left can be run, and give the state that is wanted
pub record Left (wanted : State) (gs : List Gate) (s : StateVector) : Type 0 where
  pub ready : Ready gs s
  pub gives : run gs (represented s) ≡ wanted

-- what room there was for the Hadamards left is there for those left afterwards
room-left : (g : Gate) (gs : List Gate) → mixes (g ∷ gs) ≤ 61 → (mixes gs ≤ 61) × (mixed g + (61 - mixes (g ∷ gs)) ≡ 61 - mixes gs)
unfolding mixes
room-left g gs h = (omega arith, omega arith)

module _ (wanted : State) (g : Gate) (gs : List Gate) (s t : StateVector) (left : Left wanted (g ∷ gs) s) (same : t.register ≡ s.register) (done : (b : Row) → represented t b ≡ does g (represented s) b) where
  became : represented t ≡ does g (represented s)
  became = λ i b. done b i

  pub left-next : Left wanted gs t
  unfolding run
  left-next =
      record {
        ready = record {
          fit = subst (λ (r : Register). AllFit r.qubits gs) (sym same) left.ready.fit.1;
          short = (room-left g gs left.ready.short).0;
          room = subst (λ (m : ℕ). Bounded (2 ^ m) (represented t)) (room-left g gs left.ready.short).1
              (subst (Bounded (2 ^ (mixed g + (61 - mixes (g ∷ gs))))) (sym became) (bounded-does g (61 - mixes (g ∷ gs)) (represented s) left.ready.room));
        };
        gives = ap (run gs) became ∙ left.gives;
      }

pub left-none : (wanted : State) (s : StateVector) → Left wanted [] s → represented s ≡ wanted
unfolding run
left-none wanted s left = left.gives

-- the gates left are those that the iterator is still to give
pub record ToCome (wanted : State) {I : Type 0} (steps : I → Option (Bor Gate) → I → Type 0) (i : I) (s : StateVector) : Type 0 where
  pub gates : List Gate
  pub gives : Gives steps i gates
  pub left : Left wanted gates s

module _ (wanted : State) {I : Type 0} {steps : I → Option (Bor Gate) → I → Type 0} (i j : I) (s : StateVector) where
  -- a gate that comes is the first of those left
  pub come : (g : Bor Gate) → steps i (Some g) j → ToCome wanted steps i s → (gs : List Gate) × Gives steps j gs × Left wanted (g.now ∷ gs) s
  come g step to = by to.gates to.gives to.left
    where
      by : (all : List Gate) → Gives steps i all → Left wanted all s → (gs : List Gate) × Gives steps j gs × Left wanted (g.now ∷ gs) s
      by [] gives left = absurd (gives g j step)
      by (h ∷ gs) gives left = let is = gives.1 g j step in (gs, is.1, subst (λ (x : Gate). Left wanted (x ∷ gs) s) (sym is.0) left)

  pub come-none : steps i None j → ToCome wanted steps i s → represented s ≡ wanted
  come-none step to = by to.gates to.gives to.left
    where
      by : (all : List Gate) → Gives steps i all → Left wanted all s → represented s ≡ wanted
      by [] gives left = left-none wanted s left
      by (h ∷ gs) gives left = absurd (gives.0 j step)
