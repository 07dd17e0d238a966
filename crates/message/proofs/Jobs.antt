-- What the parts of compiling a job tell of the whole.
use Rattle.std.proofs.Common.{◌≡◌, ℕ, ◌*◌, ◌≤◌, List, ◌++◌, length, take, drop, Some, None, Ok, Err, Option, Result, sym, refl, ap, ◌∙◌, subst, inl, inr, arith}
use Rattle.std.proofs.lemmas.List.{take_at}
use Rattle.circuit.specs.Code.{gates_in}
use Rattle.circuit.specs.declared.gate.Gate.{Gate}
use Rattle.circuit.specs.declared.refusal.Refusal.{Refusal}
use Rattle.circuit.specs.declared.refusal.Refusal.TheVariants.{Device, Room}
use Rattle.circuit.specs.Circuit.{Same}
use Rattle.circuit.specs.declared.failure.Failure.{Failure}
use Rattle.circuit.specs.declared.failure.Failure.TheVariants as failure
use Rattle.text.specs.Program.{AnswersText}
use Rattle.device.specs.Coupling.{Graph, graph_in}
use Rattle.device.specs.Layout.{at}
use Rattle.compiler.specs.Promise.{CarriesOut, Filled}
use Rattle.compiler.specs.Refuses.{Compiles, circuit_refused, enough}
use Rattle.compiler.proofs.Onward.{carried_onward}
use Rattle.compiler.proofs.Refusing.{passed, still-passed}
use Rattle.job.specs.Plan.{Table}
use Rattle.message.specs.declared.compiling.JobError.{JobError}
use Rattle.message.specs.declared.compiling.JobError.TheVariants as job
use Rattle.message.specs.Compiled.{TextRead, Brought, Improved, TurnedAway, text_error}
use Rattle.message.proofs.Readings.{read_refused}

pub text_unread : (bytes : List ℕ) (e : Failure) → AnswersText 256 bytes (Err e) → TextRead bytes (Err (text_error e))
text_unread bytes failure.Memory a = tt
text_unread bytes (failure.Refused f) a = read_refused 256 bytes f a

-- a list that was lent whole and written is what was written
pub lent : {A : Type 0} (len : ℕ) (xs items : List A) → len ≡ length xs → take len (xs ++ drop (length xs) items) ≡ xs
lent len xs items e = take_at xs (drop (length xs) items) len (sym e)

-- a device and a circuit that are asked for
abbrev pub Job : Type 0
Job = ℕ × List ℕ × List ℕ × List Gate

module _ (n : ℕ) (room room₁ out out₁ : List ℕ) where
  abbrev Made : Job → Result ℕ Refusal → Type 0
  Made t r = Compiles (circuit_refused n t.0 t.1 t.2 t.3 (length out)) n t.0 t.1 t.2 t.3 room room₁ out out₁ r

  module _ (size : ℕ) (joined places : List ℕ) (gs : List Gate) (long : length out ≡ n) (roomy : enough gs ≤ length room) where
    refused : (o : Option Refusal) → circuit_refused n size joined places gs n ≡ o → (f : Refusal) → Compiles o n size joined places gs room room₁ out out₁ (Err f) → TurnedAway n (record { size = size; joined = joined }) places gs f
    refused (Some g) e f a = let same : g ≡ f = cc a.0 in inl (e ∙ ap Some same)
    refused None e (Device p) a = inr (e, (p, refl, a.0))
    refused None e (Room k) a = absurd (omega (arith, a.1))
    refused None e _ a = absurd a

    filled : (o : Option Refusal) (k : ℕ) → Compiles o n size joined places gs room room₁ out out₁ (Ok k) → Filled n (graph_in size joined) (at places) (at out₁) gs room room₁ k
    filled (Some g) k a = cc a.0
    filled None k a = a.2

    pub turned_away : (t : Job) → t ≡ (size, joined, places, gs) → (f : Refusal) → Made t (Err f) → TurnedAway n (record { size = size; joined = joined }) places gs f
    turned_away t e f a =
        refused (circuit_refused n size joined places gs n) refl f
        (subst (λ (l : ℕ). Compiles (circuit_refused n size joined places gs l) n size joined places gs room room₁ out out₁ (Err f)) long
        (subst (λ (u : Job). Made u (Err f)) e a))

    pub carried : (t : Job) → t ≡ (size, joined, places, gs) → (k : ℕ) → Made t (Ok k) → (ds : List Gate) (final : List ℕ) → ds ≡ gates_in (take (4 * k) room₁) → final ≡ out₁ → CarriesOut n (graph_in size joined) (at places) (at final) gs ds
    carried t e k a ds final d f =
        subst (λ (xs : List ℕ). CarriesOut n (graph_in size joined) (at places) (at xs) gs ds) (sym f)
        (subst (λ (es : List Gate). CarriesOut n (graph_in size joined) (at places) (at out₁) gs es) (sym d)
        (filled (circuit_refused n size joined places gs (length out)) k (subst (λ (u : Job). Made u (Ok k)) e a)).carries)

pub checked : (n : ℕ) (t u : Job) → t ≡ u → circuit_refused n t.0 t.1 t.2 t.3 n ≡ None → circuit_refused n u.0 u.1 u.2 u.3 n ≡ None
checked n t u e h = subst (λ (v : Job). circuit_refused n v.0 v.1 v.2 v.3 n ≡ None) e h

same-circuit : (gs cs : List Gate) → Improved gs cs → Same gs cs
same-circuit gs cs (t, k) = record { turn = t; same = k.same }

pub brought_on : (n : ℕ) (g : Graph) (p q : ℕ → ℕ) (gs cs ds es : List Gate) → Improved gs cs → CarriesOut n g p q cs ds → Improved ds es → CarriesOut n g p q gs es
brought_on n g p q gs cs ds es before c after =
    carried_onward n g p q gs cs ds es (same-circuit gs cs before) before.1.cheap c (same-circuit ds es after) (after.1.can g c.can) after.1.cheap

module _ (n : ℕ) (gs cs : List Gate) (d : Table) (places : List ℕ) (e : circuit_refused n d.size d.joined places gs n ≡ None) (before : Improved gs cs) where
  passes : circuit_refused n d.size d.joined places cs n ≡ None
  passes = still-passed n d.size d.joined places gs cs n e before.1.brief (before.1.fit n (passed n d.size d.joined places gs n e).fit)

  away : (f : Refusal) → TurnedAway n d places cs f → TurnedAway n d places gs f
  away f (inl x) = cc (passes, x)
  away f (inr x) = inr (e, x.1)

  pub still_brought : (r : JobError) → Brought n cs d places (Err r) → Brought n gs d places (Err r)
  still_brought (job.Refused f) a = away f a
  still_brought _ a = a
