-- A reader's state, and what signs make of it.
use Rattle.std.specs.Prelude.{◌≡◌, ℕ, zero, suc, ◌+◌, max, Bool, true, false, cond, ◌&&◌, List, [], ◌∷◌, ◌++◌, map, reverse, length, take, Some, None, Ok, Err, vec_items, option_map, Option, Result, ◌==◌, nat_le, nat_lt, slice_index, slice_index_or}
use Rattle.circuit.specs.declared.gate.Gate.{Gate}
use Rattle.circuit.specs.declared.refusal.Refusal.{Refusal}
use Rattle.circuit.specs.declared.refusal.Refusal.TheVariants.{Text}
use Rattle.laws.specs.Undo.{backwards}
use Rattle.laws.specs.Rename.{all_renamed}
use Rattle.text.specs.declared.token.Token.{Token}
use Rattle.circuit.specs.declared.failure.Failure.{Failure}
use Rattle.circuit.specs.declared.failure.Failure.TheVariants.{Memory, Refused}
use Rattle.text.specs.declared.statement.Part.{Part}
use Rattle.text.specs.declared.statement.Part.TheVariants.{Start, Naming}
use Rattle.text.specs.declared.statement.Brace.{Brace}
use Rattle.text.specs.declared.statement.Brace.TheVariants.{Undo, Times}
use Rattle.text.specs.declared.statement.Move.{Move}
use Rattle.text.specs.declared.statement.Move.TheVariants as move
use Rattle.text.specs.declared.statement.Place.{Place}
use Rattle.text.specs.declared.row.Row.{Row as RowKept}
use Rattle.text.specs.declared.reader.Frame.{Frame}
use Rattle.text.specs.declared.reader.Block.{Block}
use Rattle.text.specs.declared.reader.Reader.{Reader}
use Rattle.text.specs.declared.program.Circuit.{Circuit}
use Rattle.text.specs.Move.{moved}
use Rattle.text.specs.Program.{repeated, has, span, reach}

-- a row of gates, or none if there are more of them than the limit
abbrev pub Row : Type 0
Row = Option (List Gate)

abbrev pub capped : ℕ → List Gate → Row
capped limit gs = cond (nat_le (length gs) limit) (Some gs) None

-- a row, and after it what f makes of another
abbrev pub put : ℕ → (List Gate → List Gate) → Row → Row → Row
put limit f None r = None
put limit f (Some gs) None = None
put limit f (Some gs) (Some hs) = capped limit (gs ++ f hs)

abbrev pub row_of : RowKept → Row
row_of r = option_map vec_items r.gates

-- a brace that is open: what it does with the row inside, and the row before it
pub record Held : Type 0 where
  pub brace : Brace
  pub before : Row

-- a block that has been read
pub record Kept : Type 0 where
  pub size : ℕ
  pub row : Row

abbrev pub no_block : Kept
no_block = record { size = 0; row = Some [] }

-- what has been read of a statement; the braces that are open, the innermost first; the row after the last of them; the qubits that a call has named; the blocks
-- that have been read; how many qubits the block that is open has; whether one more block may come; one more than the largest qubit named; and how many signs had
-- been read when the row last was within the limit
pub record State : Type 0 where
  pub part : Part
  pub braces : List Held
  pub row : Row
  pub names : List ℕ
  pub blocks : List Kept
  pub inside : Option ℕ
  pub fresh : Bool
  pub wide : ℕ
  pub fits : ℕ

abbrev pub held : Frame → Held
held f = record { brace = f.brace; before = row_of f.before }

abbrev pub kept_as : Block → Kept
kept_as b = record { size = b.size; row = row_of b.row }

abbrev pub view : Reader → State
view r = record { part = r.part; braces = map held (reverse (vec_items r.braces)); row = row_of r.row; names = vec_items r.names; blocks = map kept_as (vec_items r.blocks); inside = r.inside; fresh = r.fresh; wide = r.wide; fits = r.fits }

-- outside of blocks there are the qubits 0 to 255
abbrev pub room_in : Option ℕ → ℕ
room_in None = 256
room_in (Some n) = n

abbrev pub place : State → Place
place s = record { room = room_in s.inside; known = length s.blocks; fresh = s.fresh }

abbrev pub goes_to : Part → State → State
goes_to p s = record { part = p; braces = s.braces; row = s.row; names = s.names; blocks = s.blocks; inside = s.inside; fresh = s.fresh; wide = s.wide; fits = s.fits }

-- where a statement comes next, or a block too
abbrev pub started : Bool → State → State
started fresh s = record { part = Start; braces = s.braces; row = s.row; names = []; blocks = s.blocks; inside = s.inside; fresh = fresh; wide = s.wide; fits = s.fits }

-- once a statement is over
abbrev pub over_with : State → Row → ℕ → State
over_with s r w = record { part = Start; braces = s.braces; row = r; names = []; blocks = s.blocks; inside = s.inside; fresh = false; wide = max s.wide w; fits = s.fits }

abbrev pub said : ℕ → Gate → State → State
said limit g s = over_with s (put limit (λ hs. g ∷ hs) s.row (Some [])) (reach g)

abbrev pub opened : Brace → State → State
opened b s = record { part = Start; braces = record { brace = b; before = s.row } ∷ s.braces; row = Some []; names = []; blocks = s.blocks; inside = s.inside; fresh = false; wide = s.wide; fits = s.fits }

abbrev pub entered : ℕ → State → State
entered n s = record { part = Start; braces = s.braces; row = s.row; names = []; blocks = s.blocks; inside = Some n; fresh = false; wide = s.wide; fits = s.fits }

abbrev pub zero_times : Brace → Bool
zero_times Undo = false
zero_times (Times zero) = true
zero_times (Times (suc n)) = false

-- what a pair of braces makes of the row inside, and how many times as long that is
abbrev pub made_of : Brace → List Gate → List Gate
made_of Undo gs = backwards gs
made_of (Times n) gs = repeated n gs

abbrev pub factor : Brace → ℕ
factor Undo = 1
factor (Times n) = n

abbrev pub braced : ℕ → Brace → Row → Row → Row
braced limit b before inner = cond (zero_times b) before (put limit (made_of b) before inner)

-- the end of a block
abbrev pub left : State → Option ℕ → Option State
left s None = None
left s (Some n) = Some (record { part = Start; braces = s.braces; row = Some []; names = []; blocks = s.blocks ++ record { size = n; row = s.row } ∷ []; inside = None; fresh = true; wide = 0; fits = s.fits })

abbrev pub closes : ℕ → State → List Held → Option State
closes limit s [] = left s s.inside
closes limit s (h ∷ hs) = Some (record { part = Start; braces = hs; row = braced limit h.brace h.before s.row; names = []; blocks = s.blocks; inside = s.inside; fresh = false; wide = s.wide; fits = s.fits })

abbrev pub closed : ℕ → State → Option State
closed limit s = closes limit s s.braces

-- one more qubit of a call: no more than the block has, and none twice
abbrev pub named : ℕ → ℕ → State → Option State
named k q s =
    cond (nat_lt (length s.names) (slice_index_or s.blocks k no_block).size)
    (cond (has q s.names) None (Some (record { part = Naming k; braces = s.braces; row = s.row; names = s.names ++ q ∷ []; blocks = s.blocks; inside = s.inside; fresh = s.fresh; wide = s.wide; fits = s.fits })))
    None

-- the block k, if a call that has named so many qubits may end
abbrev pub callable : List Kept → ℕ → ℕ → Option Kept
callable bs n k = cond (nat_lt k (length bs)) (cond (n == (slice_index_or bs k no_block).size) (Some (slice_index_or bs k no_block)) None) None

abbrev pub called : ℕ → ℕ → State → Option State
called limit k s =
    cond (nat_lt k (length s.blocks))
    (cond (length s.names == (slice_index_or s.blocks k no_block).size)
    (Some (over_with s (put limit (all_renamed (λ q. slice_index s.names q)) s.row (slice_index_or s.blocks k no_block).row) (span s.names)))
    None)
    None

abbrev pub act : ℕ → State → Move → Option State
act limit s (move.Go p) = Some (goes_to p s)
act limit s (move.Say g) = Some (said limit g s)
act limit s (move.Open b) = Some (opened b s)
act limit s (move.Enter n) = Some (entered n s)
act limit s move.Close = closed limit s
act limit s (move.Name k q) = named k q s
act limit s (move.Call k) = called limit k s
act limit s move.Refuse = None

abbrev pub is_start : Part → Bool
is_start Start = true
is_start p = false

abbrev pub no_braces : List Held → Bool
no_braces [] = true
no_braces (h ∷ hs) = false

abbrev pub fitting : Row → Bool
fitting None = false
fitting (Some gs) = true

-- no statement and no brace of statements is open
abbrev pub between : State → Bool
between s = is_start s.part && no_braces s.braces

-- the same, with a row that is within the limit
abbrev pub settled : State → Bool
settled s = between s && fitting s.row

abbrev pub settle : ℕ → State → State
settle at s = record { part = s.part; braces = s.braces; row = s.row; names = s.names; blocks = s.blocks; inside = s.inside; fresh = s.fresh; wide = s.wide; fits = cond (settled s) (at + 1) s.fits }

abbrev pub settles : ℕ → Option State → Option State
settles at None = None
settles at (Some s) = Some (settle at s)

-- what the sign at a place makes of a state
abbrev pub step : ℕ → ℕ → State → Token → Option State
step limit at s t = settles at (act limit s (moved (place s) s.part t))

-- what a call that took the sign at a place answers, by what the sign makes of the state
abbrev pub Follows : {T : Type 0} → Result T Failure → ℕ → State → Option State → Type 0
Follows (Ok x) at s o = o ≡ Some s
Follows (Err Memory) at s o = Unit {0}
Follows (Err (Refused r)) at s o = (r ≡ Text at) × (o ≡ None)

abbrev pub begins : State
begins = record { part = Start; braces = []; row = Some []; names = []; blocks = []; inside = None; fresh = true; wide = 0; fits = 0 }

-- a state, or the place of the sign that is refused
abbrev pub follow : Option State → ℕ → (State → Result State Refusal) → Result State Refusal
follow None i f = Err (Text i)
follow (Some s) i f = f s

-- what signs make of a state, the first of which has the place i
abbrev pub runs : ℕ → State → ℕ → List Token → Result State Refusal
runs limit s i [] = Ok s
runs limit s i (t ∷ ts) = follow (step limit i s t) i (λ n. runs limit n (i + 1) ts)

abbrev pub outside : Option ℕ → Bool
outside None = true
outside (Some n) = false

-- whether the text may end here
abbrev pub complete : State → Bool
complete s = between s && outside s.inside

abbrev pub ended : ℕ → State → Result State Refusal
ended at s = cond (complete s) (Ok s) (Err (Text at))

abbrev pub finished : ℕ → Result State Refusal → Result State Refusal
finished at (Ok s) = ended at s
finished at (Err r) = Err r

-- the first sign past 4096 of them, unless one is refused sooner
abbrev pub overlong : Result State Refusal → Result State Refusal
overlong (Ok s) = Err (Text 4096)
overlong (Err r) = Err r

-- what a text comes to, however many gates it says, or where it cannot be read
abbrev pub reading : ℕ → List Token → Result State Refusal
reading limit ts = cond (nat_lt 4096 (length ts)) (overlong (runs limit begins 0 (take 4096 ts))) (finished (length ts) (runs limit begins 0 ts))

-- what a reader answers, unless memory fails
abbrev pub Runs : Result Reader Failure → Result State Refusal → Type 0
Runs (Ok v) o = o ≡ Ok (view v)
Runs (Err Memory) o = Unit {0}
Runs (Err (Refused r)) o = o ≡ Err r

abbrev pub Settles : State → Result Circuit Failure → Type 0
Settles s (Ok c) = (s.row ≡ Some (vec_items c.gates)) × (c.qubits ≡ s.wide)
Settles s (Err Memory) = Unit {0}
Settles s (Err (Refused r)) = (s.row ≡ None) × (r ≡ Text s.fits)
