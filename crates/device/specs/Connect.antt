-- What shows that a device is not connected.
use Rattle.std.specs.Prelude.{◌≡◌, ℕ, ◌+◌, ◌*◌, ◌<◌, ◌⊎◌, Some, None, Option, ◌≢◌}
use Rattle.device.specs.Coupling.{Graph, Way, Connected}
use Rattle.device.specs.declared.connect.Fault.{Fault}
use Rattle.device.specs.declared.connect.Fault.TheVariants.{OneWay, Apart}

-- the first number below n of which P does not hold, if there is one
abbrev pub FirstNot : (ℕ → Type 0) → ℕ → Option ℕ → Type 0
FirstNot P n None = (y : ℕ) → y < n → P y
FirstNot P n (Some b) = (b < n) × (P b → ⊥) × ((y : ℕ) → y < b → P y)

-- joined the same both ways
abbrev pub Even : Graph → Type 0
Even d = (x y : ℕ) → x < d.size → y < d.size → d.joined x y ≡ d.joined y x

-- joined one way only, and the first such pair
pub record IsOneWay (d : Graph) (a b : ℕ) : Type 0 where
  pub a_inside : a < d.size
  pub b_inside : b < d.size
  pub differs : d.joined a b ≢ d.joined b a
  pub first : (x y : ℕ) → x < d.size → y < d.size → x * d.size + y < a * d.size + b → d.joined x y ≡ d.joined y x

-- all are joined the same both ways, no way leads from a to b, and it is the first such pair
pub record NoWay (d : Graph) (a b : ℕ) : Type 0 where
  pub a_inside : a < d.size
  pub b_inside : b < d.size
  pub even : Even d
  pub apart : Way d a b → ⊥
  pub first : (x y : ℕ) → x < d.size → y < d.size → x * d.size + y < a * d.size + b → Way d x y

abbrev pub Shows : Graph → Fault → Type 0
Shows d (OneWay a b) = IsOneWay d a b
Shows d (Apart a b) = NoWay d a b

-- the pair that shows it stands at place p of the list of wires
abbrev pub CutOff : Graph → ℕ → Type 0
CutOff d p = (a : ℕ) × (b : ℕ) × (p ≡ a * d.size + b) × (IsOneWay d a b ⊎ NoWay d a b)

-- such a device is not connected, and there is one such place
pub record CutOffTells : Type 0 where
  pub refutes : (d : Graph) (p : ℕ) → CutOff d p → Connected d → ⊥
  pub once : (d : Graph) (p q : ℕ) → CutOff d p → CutOff d q → p ≡ q
