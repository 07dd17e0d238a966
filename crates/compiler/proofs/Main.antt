-- Every circuit can be done on every connected device that is large enough.
use Rattle.std.proofs.Common.{◌≡◌, ℕ, ◌+◌, ◌%◌, List, [], ◌∷◌, ◌++◌, refl, ◌∙◌, ap₂, add-zero, arith}
use Rattle.circuit.specs.Circuit.{Fit, AllFit, worth, t_count}
use Rattle.circuit.specs.declared.gate.Gate.{Gate}
use Rattle.circuit.specs.declared.gate.Gate.TheVariants.{Phase, Hadamard, Not, ControlledNot, Toffoli}
use Rattle.device.specs.Coupling.{Graph}
use Rattle.compiler.specs.Expand.{expansion, expanded, ExpandedSame, ExpandedPlain}
use Rattle.compiler.specs.Promise.{CarriesOut, Compilable}
use Rattle.compiler.specs.Route.{Doing, Plain, AllPlain}
use Rattle.compiler.proofs.Roots.{done-through}
use Rattle.compiler.proofs.Toffoli.{expanded_alike}
use Rattle.circuit.proofs.Counts.{fit_append, t_count-append}
use Rattle.compiler.proofs.Doings.{routed}

worth-expansion : (g : Gate) → t_count (expansion g) ≡ worth g
unfolding t_count
worth-expansion (Phase m q) = add-zero (m % 2)
worth-expansion (Hadamard q) = refl
worth-expansion (Not q) = refl
worth-expansion (ControlledNot c q) = refl
worth-expansion (Toffoli a b c) = refl

t_count-expanded : (gs : List Gate) → t_count (expanded gs) ≡ t_count gs
unfolding t_count expanded
t_count-expanded [] = refl
t_count-expanded (g ∷ gs) = t_count-append (expansion g) (expanded gs) ∙ ap₂ ◌+◌ (worth-expansion g) (t_count-expanded gs)

-- the fifteen fit where the one does
expansion-fit : (n : ℕ) (g : Gate) → Fit n g → AllFit n (expansion g)
expansion-fit n (Phase m q) f = (f, tt)
expansion-fit n (Hadamard q) f = (f, tt)
expansion-fit n (Not q) f = (f, tt)
expansion-fit n (ControlledNot c q) f = (f, tt)
expansion-fit n (Toffoli a b c) (ha, hb, hc, ab, ac, bc) =
    (hc, ((hb, hc, bc), (hc, ((ha, hc, ac), (hc, ((hb, hc, bc), (hc, ((ha, hc, ac), (hb, (hc, (hc, ((ha, hb, ab), (ha, (hb, ((ha, hb, ab), tt)))))))))))))))

pub expanded-fit : (n : ℕ) (gs : List Gate) → AllFit n gs → AllFit n (expanded gs)
unfolding expanded
expanded-fit n [] fits = tt
expanded-fit n (g ∷ gs) (f, fs) = fit_append n (expansion g) (expanded gs) (expansion-fit n g f) (expanded-fit n gs fs)

expansion-plain : (g : Gate) → AllPlain (expansion g)
expansion-plain (Phase m q) = (tt, tt)
expansion-plain (Hadamard q) = (tt, tt)
expansion-plain (Not q) = (tt, tt)
expansion-plain (ControlledNot c q) = (tt, tt)
expansion-plain (Toffoli a b c) = (tt, (tt, (tt, (tt, (tt, (tt, (tt, (tt, (tt, (tt, (tt, (tt, (tt, (tt, (tt, tt)))))))))))))))

plain-append : (gs hs : List Gate) → AllPlain gs → AllPlain hs → AllPlain (gs ++ hs)
plain-append [] hs u v = v
plain-append (g ∷ gs) hs (k, ks) v = (k, plain-append gs hs ks v)

all_plain : (gs : List Gate) → AllPlain (expanded gs)
unfolding expanded
all_plain [] = tt
all_plain (g ∷ gs) = plain-append (expansion g) (expanded gs) (expansion-plain g) (all_plain gs)

pub expanded-same : ExpandedSame
expanded-same n gs fits = record { same = expanded_alike n gs fits; fit = expanded-fit n gs fits; turns = t_count-expanded gs; plain = all_plain gs }

plain-expansion : (g : Gate) → Plain g → expansion g ≡ g ∷ []
plain-expansion (Phase m q) k = refl
plain-expansion (Hadamard q) k = refl
plain-expansion (Not q) k = refl
plain-expansion (ControlledNot c q) k = refl
plain-expansion (Toffoli a b c) k = absurd k

pub expanded-plain : ExpandedPlain
unfolding expanded
expanded-plain [] plain = refl
expanded-plain (g ∷ gs) (k, ks) = ap₂ ◌++◌ (plain-expansion g k) (expanded-plain gs ks)

-- what does the expanded circuit carries the circuit out
pub carried : (n : ℕ) (d : Graph) (p q : ℕ → ℕ) (gs ds : List Gate) → AllFit n gs → Doing n d p q (expanded gs) ds → CarriesOut n d p q gs ds
carried n d p q gs ds fits m = record {
  can = m.can;
  placed = m.placed;
  done = done-through n d p q gs (expanded gs) ds (record { turn = 0; same = expanded_alike n gs fits }) m;
  cheap = omega (arith, m.turns, t_count-expanded gs);
}

pub compiled : Compilable
compiled n d p gs fits cd l =
    let m = routed n d p (expanded gs) (expanded-fit n gs fits) (all_plain gs) cd l in
    (m.0, m.1, carried n d p m.1 gs m.0 fits m.2)
