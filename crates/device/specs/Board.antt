-- A device as the code holds it, and the graph that it is.
use Rattle.std.specs.Prelude.{ℕ, Bool, false, ◌&&◌, [], nat_lt, slice_index_or}
use Rattle.device.specs.Coupling.{Graph}
use Rattle.device.specs.declared.device.Device.{Device}

-- places outside the device are joined to nothing
abbrev pub wired : Device → ℕ → ℕ → Bool
wired d a b = nat_lt a d.size && (nat_lt b d.size && slice_index_or (slice_index_or d.joined a []) b false)

abbrev pub graph_of : Device → Graph
graph_of d = record { size = d.size; joined = wired d }
