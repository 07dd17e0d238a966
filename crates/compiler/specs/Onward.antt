-- From what is carried out to what is the same before and after.
use Rattle.std.specs.Prelude.{ℕ, ◌≤◌, List}
use Rattle.circuit.specs.declared.gate.Gate.{Gate}
use Rattle.circuit.specs.Circuit.{t_count, Same}
use Rattle.device.specs.Coupling.{Graph, AllCan}
use Rattle.compiler.specs.Promise.{CarriesOut}

-- if ds carries out cs, then es that is the same on the device carries out gs that is the same circuit, where neither step takes more T gates
abbrev pub CarriedOnward : Type 0
CarriedOnward =
    (n : ℕ) (d : Graph) (p q : ℕ → ℕ) (gs cs ds es : List Gate) → Same gs cs → t_count cs ≤ t_count gs → CarriesOut n d p q cs ds →
    Same ds es → AllCan d es → t_count es ≤ t_count ds → CarriesOut n d p q gs es
