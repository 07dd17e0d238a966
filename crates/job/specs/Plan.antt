-- The device and the layout that the lines behind the text of a job give.
use Rattle.std.specs.Prelude.{◌≡◌, ℕ, ◌+◌, ◌*◌, cond, ◌&&◌, List, [], ◌∷◌, ◌++◌, replicate, Some, None, Ok, Err, vec_items, Option, Result, ◌==◌, nat_lt, slice_set}
use Rattle.text.specs.declared.token.Token.{Token}
use Rattle.text.specs.declared.token.Token.TheVariants.{Device, Joined, Lay}
use Rattle.text.specs.Cut.{cut}
use Rattle.text.specs.Move.{number_in}
use Rattle.job.specs.declared.error.PlanError.{PlanError}
use Rattle.job.specs.declared.error.PlanError.TheVariants.{Memory, Line, NoDevice, NoLayout}
use Rattle.job.specs.declared.plan.Plan.{Plan}

-- a device: how many places it has, and in size rows of size numbers a 1 for each two that are joined, else 0
pub record Table : Type 0 where
  pub size : ℕ
  pub joined : List ℕ

-- what lines have given so far
pub record Known : Type 0 where
  pub device : Option Table
  pub layout : Option (List ℕ)

-- nothing yet
abbrev pub nothing : Known
nothing = record { device = None; layout = None }

-- goes on with what is there
abbrev pub and_then : {A B : Type 0} → Option A → (A → Option B) → Option B
and_then None f = None
and_then (Some a) f = f a

-- what has been given already is not given again
abbrev pub once : {A B : Type 0} → Option A → Option B → Option B
once None o = o
once (Some a) o = None

-- the numbers that signs are, if all of them are numbers
abbrev pub numbers : List Token → Option (List ℕ)
numbers [] = Some []
numbers (t ∷ ts) = and_then (number_in t) (λ n. and_then (numbers ts) (λ ns. Some (n ∷ ns)))

-- the number of a row of one
abbrev pub one : List ℕ → Option ℕ
one [] = None
one (a ∷ []) = Some a
one (a ∷ b ∷ ns) = None

-- the numbers of a row of two
abbrev pub two : List ℕ → Option (ℕ × ℕ)
two [] = None
two (a ∷ []) = None
two (a ∷ b ∷ []) = Some (a, b)
two (a ∷ b ∷ c ∷ ns) = None

-- so many places, none joined
abbrev pub apart : ℕ → Table
apart n = record { size = n; joined = replicate (n * n) 0 }

-- a and b joined, both ways
abbrev pub wired : ℕ → ℕ → Table → Table
wired a b d = record { size = d.size; joined = slice_set (slice_set d.joined (a * d.size + b) 1) (b * d.size + a) 1 }

-- `device N`
abbrev pub on_device : List ℕ → Known → Option Known
on_device ns s = once s.device (and_then (one ns) (λ n. Some (record { device = Some (apart n); layout = s.layout })))

-- `joined A B`, of places of the device that is known
abbrev pub on_joined : List ℕ → Known → Option Known
on_joined ns s = and_then s.device (λ d. and_then (two ns) (λ p. cond (nat_lt p.0 d.size && nat_lt p.1 d.size) (Some (record { device = Some (wired p.0 p.1 d); layout = s.layout })) None))

-- `lay P P ..`
abbrev pub on_lay : List ℕ → Known → Option Known
on_lay ns s = once s.layout (Some (record { device = s.device; layout = Some ns }))

-- what a line makes of what is known, by its first sign and the numbers behind it; none if it is at fault
abbrev pub does : Token → List ℕ → Known → Option Known
does Device ns s = on_device ns s
does Joined ns s = on_joined ns s
does Lay ns s = on_lay ns s
does _ ns s = None

-- a line without signs is passed over
abbrev pub says : List Token → Known → Option Known
says [] s = Some s
says (t ∷ ts) s = and_then (numbers ts) (λ ns. does t ns s)

-- the lines of some bytes, which newlines part; the first argument is the line so far
abbrev pub lines : List ℕ → List ℕ → List (List ℕ)
lines l [] = l ∷ []
lines l (b ∷ bs) = cond (b == 10) (l ∷ lines [] bs) (lines (l ++ b ∷ []) bs)

-- goes on if line k is not at fault
abbrev pub goes_on : Option Known → ℕ → (Known → Result Known PlanError) → Result Known PlanError
goes_on None k f = Err (Line k)
goes_on (Some s) k f = f s

-- what lines make of what is known, one after another, up to the first that is at fault; the first of them is line k
abbrev pub follow : ℕ → List (List ℕ) → Known → Result Known PlanError
follow k [] s = Ok s
follow k (l ∷ ls) s = goes_on (says (cut [] l) s) k (follow (k + 1) ls)

-- the device and the layout, if both are known
abbrev pub both : Option Table → Option (List ℕ) → Result (Table × List ℕ) PlanError
both None ps = Err NoDevice
both (Some d) None = Err NoLayout
both (Some d) (Some ps) = Ok (d, ps)

-- the same after all lines, or the fault of one
abbrev pub ended : Result Known PlanError → Result (Table × List ℕ) PlanError
ended (Ok s) = both s.device s.layout
ended (Err e) = Err e

-- the plan that some bytes give, or what is wrong with them
abbrev pub plan_of : List ℕ → Result (Table × List ℕ) PlanError
plan_of bs = ended (follow 0 (lines [] bs) nothing)

-- what a plan holds
abbrev pub whole : Plan → Table × List ℕ
whole p = (record { size = p.device.size; joined = vec_items p.device.joined }, vec_items p.layout)

-- a reader answers just that, unless memory fails
abbrev pub Answers : Result Plan PlanError → Result (Table × List ℕ) PlanError → Type 0
Answers (Ok p) o = o ≡ Ok (whole p)
Answers (Err Memory) o = Unit {0}
Answers (Err (Line k)) o = o ≡ Err (Line k)
Answers (Err NoDevice) o = o ≡ Err NoDevice
Answers (Err NoLayout) o = o ≡ Err NoLayout
