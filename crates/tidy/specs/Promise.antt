-- What is promised of tidying.
use Rattle.std.specs.Prelude.{◌≡◌, ℕ, ◌≤◌, true, false, List, [], ◌∷◌, ◌++◌, reverse, length, Some, None, Option}
use Rattle.circuit.specs.Circuit.{mixes, t_count, AllFit, AlikeBy}
use Rattle.circuit.specs.declared.gate.Gate.{Gate}
use Rattle.device.specs.Coupling.{Graph, AllCan}
use Rattle.tidy.specs.Engine.{maybe, start, partner}
use Rattle.tidy.specs.Rules.{rule, passed}
use Rattle.tidy.specs.Table.{commutes, idle, reduced}
use Rattle.tidy.specs.declared.rules.Carried.{Carried}

-- d is c, which is turned by t eighths more, and no worse
pub record Tidied (t : ℕ) (c d : List Gate) : Type 0 where
  pub same : AlikeBy c d t
  pub brief : length d ≤ length c
  pub cheap : t_count d ≤ t_count c
  pub mixing : mixes d ≤ mixes c
  pub fit : (n : ℕ) → AllFit n c → AllFit n d
  pub can : (graph : Graph) → AllCan graph c → AllCan graph d

-- nothing can be done about a gate that comes after others, newest first
pub record Settled (g : Gate) (gs : List Gate) : Type 0 where
  pub busy : idle g ≡ false
  pub least : reduced g ≡ g
  pub alone : partner (start g) gs ≡ None

abbrev pub AllSettled : List Gate → Type 0
AllSettled [] = Unit {0}
AllSettled (g ∷ gs) = Settled g gs × AllSettled gs

-- a circuit in which nothing can be done anywhere
abbrev pub Tidy : List Gate → Type 0
Tidy gs = AllSettled (reverse gs)

-- each gate changes places with g
abbrev pub AllChange : Gate → List Gate → Type 0
AllChange g [] = Unit {0}
AllChange g (h ∷ hs) = (commutes h g ≡ true) × AllChange g hs

-- in a tidy circuit no rule joins two gates, side by side or with gates between that change places with the second
abbrev pub NoRule : Type 0
NoRule = (a m e : List Gate) (h g : Gate) → Tidy (a ++ (h ∷ (m ++ (g ∷ e)))) → AllChange g m → rule h g ≡ None

-- nor with gates between that change places with the first
abbrev pub NoRuleBefore : Type 0
NoRuleBefore = (a m e : List Gate) (h g : Gate) → Tidy (a ++ (h ∷ (m ++ (g ∷ e)))) → AllChange h m → rule h g ≡ None

-- a gate on its way back through others, newest first
abbrev pub through : Carried → List Gate → Option Carried
through c [] = Some c
through c (h ∷ hs) = maybe (passed h c) (λ d. through d hs) None

-- nor after a gate's way back, flips of a turn's qubit on it too
abbrev pub NoWay : Type 0
NoWay = (a m e : List Gate) (h g : Gate) (d : Carried) → Tidy (a ++ (h ∷ (m ++ (g ∷ e)))) → through (start g) (reverse m) ≡ Some d → rule h d.gate ≡ None
