-- What a builder of plans holds, and what its methods answer.
use Rattle.std.specs.Prelude.{◌≡◌, ℕ, List, Some, None, Ok, Err, vec_items, Option, Result, Vec}
use Rattle.std.specs.declared.alloc.Global.{Global}
use Rattle.job.specs.declared.builder.Builder.{Builder}
use Rattle.job.specs.declared.error.PlanError.{PlanError}
use Rattle.job.specs.declared.error.PlanError.TheVariants.{Memory, Line, NoDevice, NoLayout}
use Rattle.job.specs.declared.grid.Grid.{Grid}
use Rattle.job.specs.Plan.{Table, Known}

-- the device that a grid is
abbrev pub table : Grid → Table
table g = record { size = g.size; joined = vec_items g.joined }

-- the same, if there is one
abbrev pub tabled : Option Grid → Option Table
tabled None = None
tabled (Some g) = Some (table g)

-- the numbers of a row, if there is one
abbrev pub items : Option (Vec ℕ Global) → Option (List ℕ)
items None = None
items (Some v) = Some (vec_items v)

-- what a builder knows
abbrev pub view : Builder → Known
view b = record { device = tabled b.device; layout = items b.layout }

-- what a method answers to the line k, by what the line makes of what is known
abbrev pub Follows : {T : Type 0} → Result T PlanError → ℕ → Known → Option Known → Type 0
Follows (Ok x) k s o = o ≡ Some s
Follows (Err Memory) k s o = Unit {0}
Follows (Err (Line j)) k s o = (j ≡ k) × (o ≡ None)
Follows (Err NoDevice) k s o = ⊥
Follows (Err NoLayout) k s o = ⊥
