-- What the program `compile` answers to the bytes of a job.
use Rattle.std.specs.Prelude.{◌≡◌, ℕ, ◌+◌, true, cond, ◌⊎◌, List, [], ◌∷◌, take, drop, Some, None, Ok, Err, vec_items, string_bytes, Result, String, ◌==◌}
use Rattle.std.specs.declared.alloc.Global.{Global}
use Rattle.circuit.specs.declared.gate.Gate.{Gate}
use Rattle.circuit.specs.declared.refusal.Refusal.{Refusal}
use Rattle.circuit.specs.declared.refusal.Refusal.TheVariants.{Device}
use Rattle.circuit.specs.declared.failure.Failure.{Failure}
use Rattle.circuit.specs.declared.failure.Failure.TheVariants as failure
use Rattle.text.specs.declared.program.Circuit.{Circuit}
use Rattle.device.specs.Connect.{CutOff}
use Rattle.device.specs.Coupling.{graph_in}
use Rattle.device.specs.Layout.{at}
use Rattle.compiler.specs.Promise.{CarriesOut}
use Rattle.compiler.specs.Refuses.{circuit_refused}
use Rattle.tidy.specs.Promise.{Tidied}
use Rattle.job.specs.declared.error.PlanError.{PlanError}
use Rattle.job.specs.declared.error.PlanError.TheVariants as plan
use Rattle.job.specs.declared.plan.Plan.{Plan}
use Rattle.job.specs.Plan.{Table, plan_of, whole}
use Rattle.job.specs.Split.{text_length}
use Rattle.message.specs.declared.compiling.Compiled.{Compiled}
use Rattle.message.specs.declared.compiling.JobError.{JobError}
use Rattle.message.specs.declared.compiling.JobError.TheVariants.{Memory, Refused, Line, NoDevice, NoLayout}
use Rattle.message.specs.Reading.{SaysIn, SaysOn, RefusedIn}
use Rattle.message.specs.Statements.{printed}
use Rattle.message.specs.RoundTrip.{Tells}

-- a job is a text, and lines that give a device and a layout
abbrev pub text_of : List ℕ → List ℕ
text_of job = take (text_length true job) job

abbrev pub lines_of : List ℕ → List ℕ
lines_of job = drop (text_length true job) job

-- it asks to bring these gates, on n qubits, onto this device, laid out so
pub record Asks (job : List ℕ) (n : ℕ) (gs : List Gate) (d : Table) (places : List ℕ) : Type 0 where
  pub text : SaysOn 256 (text_of job) n gs
  pub plan : plan_of (lines_of job) ≡ Ok (d, places)

-- a circuit of n qubits that is turned away, by the first check that fails: of the sizes, the numbers, the gates and the layout, or of the device
abbrev pub TurnedAway : ℕ → Table → List ℕ → List Gate → Refusal → Type 0
TurnedAway n d places gs f =
    (circuit_refused n d.size d.joined places gs n ≡ Some f)
    ⊎ ((circuit_refused n d.size d.joined places gs n ≡ None) × ((p : ℕ) × (f ≡ Device p) × CutOff (graph_in d.size d.joined) p))

-- THE MAIN PROMISE, from the bytes of a job to the bytes that are printed: these are device gates and a final layout that carry the circuit out
pub record Prints (job out : List ℕ) : Type 0 where
  pub qubits : ℕ
  pub circuit : List Gate
  pub device : Table
  pub places : List ℕ
  pub gates : List Gate
  pub final : List ℕ
  pub asks : Asks job qubits circuit device places
  pub carries : CarriesOut qubits (graph_in device.size device.joined) (at places) (at final) circuit gates
  pub text : out ≡ printed gates final
  -- and what is printed tells them
  pub told : Tells out gates final

-- how many newlines there are
abbrev pub newlines : List ℕ → ℕ
newlines [] = 0
newlines (b ∷ bs) = cond (b == 10) 1 0 + newlines bs

-- the number of line k behind the text, counted from 1 over the whole job
abbrev pub numbered : List ℕ → ℕ → ℕ
numbered text k = newlines text + k + 1

abbrev pub text_error : Failure → JobError
text_error failure.Memory = Memory
text_error (failure.Refused f) = Refused f

abbrev pub plan_error : List ℕ → PlanError → JobError
plan_error text plan.Memory = Memory
plan_error text (plan.Line k) = Line (numbered text k)
plan_error text plan.NoDevice = NoDevice
plan_error text plan.NoLayout = NoLayout

-- the text of a job, of at most 256 gates
abbrev pub TextRead : List ℕ → Result Circuit JobError → Type 0
TextRead bytes (Ok c) = SaysOn 256 bytes c.qubits (vec_items c.gates)
TextRead bytes (Err Memory) = Unit {0}
TextRead bytes (Err (Refused f)) = RefusedIn 256 bytes f
TextRead bytes (Err _) = ⊥

-- the lines behind it
abbrev pub LinesRead : List ℕ → List ℕ → Result Plan JobError → Type 0
LinesRead text lines (Ok p) = plan_of lines ≡ Ok (whole p)
LinesRead text lines (Err Memory) = Unit {0}
LinesRead text lines (Err (Refused f)) = ⊥
LinesRead text lines (Err (Line n)) = (k : ℕ) × (plan_of lines ≡ Err (plan.Line k)) × (n ≡ numbered text k)
LinesRead text lines (Err NoDevice) = plan_of lines ≡ Err plan.NoDevice
LinesRead text lines (Err NoLayout) = plan_of lines ≡ Err plan.NoLayout

-- tidied, or left as it was: the same circuit, and no worse
abbrev pub Improved : List Gate → List Gate → Type 0
Improved gs cs = (t : ℕ) × Tidied t gs cs

-- a circuit of n qubits brought onto the device of a plan
abbrev pub Brought : ℕ → List Gate → Table → List ℕ → Result Compiled JobError → Type 0
Brought n gs d places (Ok c) = CarriesOut n (graph_in d.size d.joined) (at places) (at (vec_items c.layout)) gs (vec_items c.gates)
Brought n gs d places (Err Memory) = Unit {0}
Brought n gs d places (Err (Refused f)) = TurnedAway n d places gs f
Brought n gs d places (Err _) = ⊥

-- the text is looked at before the lines behind it, and both before the circuit and the device
abbrev pub Answers : List ℕ → Result (String Global) JobError → Type 0
Answers job (Ok s) = Prints job (string_bytes s)
Answers job (Err Memory) = Unit {0}
Answers job (Err (Refused f)) = RefusedIn 256 (text_of job) f ⊎ ((n : ℕ) × (gs : List Gate) × (d : Table) × (places : List ℕ) × Asks job n gs d places × TurnedAway n d places gs f)
Answers job (Err (Line n)) = ((gs : List Gate) × SaysIn 256 (text_of job) gs) × ((k : ℕ) × (plan_of (lines_of job) ≡ Err (plan.Line k)) × (n ≡ numbered (text_of job) k))
Answers job (Err NoDevice) = ((gs : List Gate) × SaysIn 256 (text_of job) gs) × (plan_of (lines_of job) ≡ Err plan.NoDevice)
Answers job (Err NoLayout) = ((gs : List Gate) × SaysIn 256 (text_of job) gs) × (plan_of (lines_of job) ≡ Err plan.NoLayout)
