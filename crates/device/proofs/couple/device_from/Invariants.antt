use Rattle.std.proofs.Common.{◌≡◌, ℕ, ◌<◌, false, [], length, get_or}
use Rattle.device.specs.Coupling.{graph_in}
use Rattle.device.proofs.couple.device_from.Given as goal

abbrev pub invariant-loop-a : goal.invariant-loop-a
invariant-loop-a l = (length l.wires-items ≡ 16) × ((x : ℕ) → x < l.a → (k : ℕ) → k < 16 → get_or (get_or l.wires-items x []) k false ≡ (graph_in l.size l.joined).joined x k)
