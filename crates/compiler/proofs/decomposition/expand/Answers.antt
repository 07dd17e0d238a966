use Rattle.std.proofs.Common.{length, ap, arith, length-take}
use Rattle.compiler.proofs.decomposition.expand.Goals as goal

pub copy_from_slice-requires : goal.copy_from_slice-requires
copy_from_slice-requires c = simp length-take (omega (arith, ap length c.fifteen.ensures))
