-- What is said of a refusal, its number, its place and what it means, and of an error.
use Rattle.std.specs.Prelude.{ℕ, List, ◌++◌, codes, decimal}
use Rattle.circuit.specs.declared.refusal.Refusal.{Refusal}
use Rattle.circuit.specs.declared.refusal.Refusal.TheVariants.{Qubits, Length, Number, Gate, Layout, Device, Room, Mixes, Text}
use Rattle.circuit.specs.Refusals.{number, place}
use Rattle.message.specs.declared.comparing.CompareError.{CompareError}
use Rattle.message.specs.declared.comparing.CompareError.TheVariants as comparing
use Rattle.message.specs.declared.compiling.JobError.{JobError}
use Rattle.message.specs.declared.compiling.JobError.TheVariants as compiling

-- what its place counts
abbrev pub counted : Refusal → List ℕ
counted (Length p) = codes "list "
counted (Gate p) = codes "gate "
counted (Layout p) = codes "qubit "
counted (Text p) = codes "sign "
counted _ = codes ""

abbrev pub meaning : Refusal → List ℕ
meaning (Qubits p) = codes "no qubit, or more than are taken"
meaning (Length p) = codes "it is not as long as it should be"
meaning (Number p) = codes "a number that should not stand there"
meaning (Gate p) = codes "a qubit that is not there, or one twice"
meaning (Layout p) = codes "a place that is not there, or one twice"
meaning (Device p) = codes "two places that are joined one way only, or with no way between them"
meaning (Room p) = codes "too little room"
meaning (Mixes p) = codes "more than 60 mixes in the two together"
meaning (Text p) = codes "the text cannot be read, or says too many gates"

abbrev pub reason : Refusal → List ℕ
reason r = codes "refused " ++ (decimal (number r) ++ (codes " at " ++ (counted r ++ (decimal (place r) ++ (codes ": " ++ meaning r)))))

-- why nothing comes of a job
abbrev pub job_error_text : JobError → List ℕ
job_error_text compiling.Memory = codes "out of memory"
job_error_text (compiling.Refused f) = reason f
job_error_text (compiling.Line n) = codes "no line of a job, or one that cannot stand here"
job_error_text compiling.NoDevice = codes "no line gives a device"
job_error_text compiling.NoLayout = codes "no line gives a layout"

-- why two texts are not compared; which of them is refused is not said
abbrev pub compare_error_text : CompareError → List ℕ
compare_error_text comparing.Memory = codes "out of memory"
compare_error_text (comparing.Text side f) = reason f
compare_error_text (comparing.Refused f) = reason f
