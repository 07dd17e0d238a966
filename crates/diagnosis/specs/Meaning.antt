-- What a fault says of a text.
use Rattle.std.specs.Prelude.{◌≡◌, ℕ, ◌<◌, ◌≤◌, List, [], ◌∷◌, ◌++◌, length, take, slice_index_or}
use Rattle.text.specs.declared.token.Token.{Token}
use Rattle.text.specs.declared.token.Token.TheVariants.{Turn, Block, Number, Close, Semicolon, Other}
use Rattle.text.specs.Program.{Begins, Unread, Over}
use Rattle.diagnosis.specs.declared.fault.Fault.{Fault}
use Rattle.diagnosis.specs.declared.fault.Fault.TheVariants.{TooManySigns, TooManyGates, EndsTooSoon, NumberTooLarge, NotNext, NoBlock, NoQubit, Twice, TooManyQubits, TooFewQubits, NotOpened, LateBlock, JobLine, Unexpected}
use Rattle.diagnosis.specs.Faults.{fault_at}
use Rattle.diagnosis.specs.Standing.{Readable}

-- some text that can be read begins with us, and then has the sign t
abbrev pub May : List Token → Token → Type 0
May us t = Begins (us ++ t ∷ [])

-- what a fault says of a sign t that cannot come after us
abbrev pub Wrong : List Token → Token → Fault → Type 0
Wrong us t TooManySigns = ⊥
Wrong us t (TooManyGates limit) = ⊥
Wrong us t EndsTooSoon = ⊥
Wrong us t NumberTooLarge = t ≡ Other
Wrong us t (NotNext k) = (m : ℕ) → May us (Number m) → m ≡ k
Wrong us t (NoBlock k) = (t ≡ Number k) × ((m : ℕ) → May us (Number m) → m < k)
Wrong us t (NoQubit q n) = (t ≡ Number q) × (n ≤ q) × ((m : ℕ) → May us (Number m) → m < n)
Wrong us t (Twice q) = t ≡ Number q
Wrong us t (TooManyQubits k n) = (m : ℕ) → May us (Number m) → ⊥
Wrong us t (TooFewQubits k n) = t ≡ Semicolon
Wrong us t NotOpened = (t ≡ Close) × Readable us
Wrong us t LateBlock = (t ≡ Block) × May us Turn
Wrong us t JobLine = May us Turn
Wrong us t Unexpected = Unit {0}

-- what a fault says of a text that is refused at the place i: it says too many gates, or ends too soon, or is too long, or the sign there is wrong
pub record Explains (limit : ℕ) (ts : List Token) (i : ℕ) (f : Fault) : Type 0 where
  pub over : Over limit ts i → f ≡ TooManyGates limit
  pub ends : Unread ts i → i ≡ length ts → f ≡ EndsTooSoon
  pub long : Unread ts i → i < length ts → 4096 ≤ i → f ≡ TooManySigns
  pub sign : Unread ts i → i < length ts → i < 4096 → Wrong (take i ts) (slice_index_or ts i Other) f

-- the fault of a text of these bytes and signs at the place i, by what a reader has read before it and by what the text says
pub record Diagnosed (limit : ℕ) (bs : List ℕ) (ts : List Token) (i : ℕ) (f : Fault) : Type 0 where
  pub exact : f ≡ fault_at limit bs ts i
  pub explains : Explains limit ts i f
