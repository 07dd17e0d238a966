-- How the rules are applied. Circuits stand newest first here: the gate that is done last comes first.
use Rattle.std.specs.Prelude.{ℕ, ◌+◌, ◌%◌, cond, List, [], ◌∷◌, length, Some, None, Option, ◌==◌}
use Rattle.circuit.specs.declared.gate.Gate.{Gate}
use Rattle.tidy.specs.Rules.{rule, passed}
use Rattle.tidy.specs.Table.{idle, reduced}
use Rattle.tidy.specs.declared.engine.Partner.{Partner}
use Rattle.tidy.specs.declared.rules.Carried.{Carried}

abbrev pub maybe : {A B : Type 0} → Option A → (A → B) → B → B
maybe None f b = b
maybe (Some a) f b = f a

-- a gate that sets out
abbrev pub start : Gate → Carried
start g = record { gate = g; turn = 0 }

-- the nearest gate that a rule joins it with, on its way back; `at` counts the gates before that one
unfoldable pub partner : Carried → List Gate → Option Partner
partner c [] = None
partner c (h ∷ hs) =
    maybe (rule h c.gate) (λ k. Some (record { at = length hs; gate = k; turn = c.turn }))
    (maybe (passed h c) (λ d. partner d hs) None)

-- another gate in the place that has so many before it
unfoldable pub put : ℕ → Gate → List Gate → List Gate
put n g [] = []
put n g (h ∷ hs) = cond (length hs == n) (g ∷ hs) (h ∷ put n g hs)

-- a gate joined with its partner if it has one; the number is the turn of the whole
abbrev pub placed : ℕ → Gate → List Gate → Option Partner → List Gate × ℕ
placed t g gs None = (g ∷ gs, t)
placed t g gs (Some p) = (put p.at p.gate gs, (t + p.turn) % 8)

-- one gate more; a turn by whole eights is dropped
abbrev pub inserted : ℕ → Gate → List Gate → List Gate × ℕ
inserted t g gs = cond (idle g) (gs, t) (placed t (reduced g) gs (partner (start (reduced g)) gs))

-- all gates of a circuit, oldest first, one after the other
unfoldable pub swept : ℕ → List Gate → List Gate → List Gate × ℕ
swept t done [] = (done, t)
swept t done (g ∷ gs) = swept (inserted t g done).1 (inserted t g done).0 gs
