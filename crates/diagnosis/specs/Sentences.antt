-- What is said of a fault.
use Rattle.std.specs.Prelude.{ℕ, cond, List, ◌++◌, codes, decimal, ◌==◌}
use Rattle.diagnosis.specs.declared.fault.Fault.{Fault}
use Rattle.diagnosis.specs.declared.fault.Fault.TheVariants.{TooManySigns, TooManyGates, EndsTooSoon, NumberTooLarge, NotNext, NoBlock, NoQubit, Twice, TooManyQubits, TooFewQubits, NotOpened, LateBlock, JobLine, Unexpected}

-- so many qubits
abbrev pub noun : ℕ → List ℕ
noun n = cond (n == 1) (codes "qubit") (codes "qubits")

abbrev pub sentence : Fault → List ℕ
sentence TooManySigns = codes "a text has at most 4096 signs"
sentence (TooManyGates limit) = codes "with this statement the text says more than " ++ (decimal limit ++ codes " gates")
sentence EndsTooSoon = codes "the text ends too soon"
sentence NumberTooLarge = codes "a number is at most 255"
sentence (NotNext k) = codes "the next block is " ++ decimal k
sentence (NoBlock k) = codes "no block " ++ (decimal k ++ codes " stands before this call")
sentence (NoQubit q n) = codes "there is no qubit " ++ (decimal q ++ (codes " here: this block has only " ++ (decimal n ++ (codes " " ++ noun n))))
sentence (Twice q) = codes "a call names qubit " ++ (decimal q ++ codes " twice")
sentence (TooManyQubits k n) = codes "block " ++ (decimal k ++ (codes " has only " ++ (decimal n ++ (codes " " ++ noun n))))
sentence (TooFewQubits k n) = codes "block " ++ (decimal k ++ (codes " has " ++ (decimal n ++ (codes " " ++ noun n))))
sentence NotOpened = codes "this brace was not opened"
sentence LateBlock = codes "blocks stand before all other statements"
sentence JobLine = codes "device, joined and lay stand behind the text, from a line that begins with device on"
sentence Unexpected = codes "this cannot stand here"
