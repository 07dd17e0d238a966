-- Checks of numbers before anything is made of them.
use Rattle.std.specs.Prelude.{◌≡◌, ℕ, ◌+◌, Bool, cond, not, ◌&&◌, List, [], ◌∷◌, ◌++◌, length, Some, None, Option, ◌==◌, nat_lt}
use Rattle.std.specs.List.{list_any}
use Rattle.device.specs.Coupling.{Graph}
use Rattle.device.specs.Layout.{Placed, at}

-- the first number from the i-th on that is not below a limit
unfoldable pub beyond_from : ℕ → ℕ → List ℕ → Option ℕ
beyond_from limit i [] = None
beyond_from limit i (x ∷ xs) = cond (nat_lt x limit) (beyond_from limit (i + 1) xs) (Some i)

-- a place that is below size, and none of those before it
abbrev pub fits : ℕ → List ℕ → ℕ → Bool
fits size before x = nat_lt x size && not (list_any (λ y. y == x) before)

-- the first qubit from the i-th on whose place does not fit
unfoldable pub misplaced_from : ℕ → List ℕ → ℕ → List ℕ → Option ℕ
misplaced_from size before i [] = None
misplaced_from size before i (x ∷ xs) = cond (fits size before x) (misplaced_from size (before ++ (x ∷ [])) (i + 1) xs) (Some i)

-- a list of places is a layout exactly if none is misplaced
pub record LayoutTold : Type 0 where
  pub placed : (d : Graph) (places : List ℕ) → misplaced_from d.size [] 0 places ≡ None → Placed (length places) d (at places)
  pub taken : (d : Graph) (places : List ℕ) → Placed (length places) d (at places) → misplaced_from d.size [] 0 places ≡ None
