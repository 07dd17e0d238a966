use Rattle.std.proofs.Common.{◌∙◌, w64, rules}
use Rattle.std.proofs.Output.{has_written_of_eq}
use Rattle.std.proofs.lemmas.Int.{to_z-of_z}
use Rattle.amplitude.proofs.TextShow.{four_parts}
use Rattle.amplitude.proofs.show.AmplitudeDisplay.fmt.Goals as goal

pub returns-clause-writes : goal.returns-clause-writes
returns-clause-writes g c =
    λ p ok. has_written_of_eq g.W.Write.write_str_gives _ _ _ _
    (four_parts c.args.self.now _ _ _ _ _ _ _ _ _ _ c.if-eq.ensures
    (to_z-of_z w64 c.args.self.now.one (search rules))
    (c.then-w.ensures.factor ∙ to_z-of_z w64 c.args.self.now.w (search rules))
    (c.then-w2.ensures.factor ∙ to_z-of_z w64 c.args.self.now.w2 (search rules))
    (c.then-w3.ensures.factor ∙ to_z-of_z w64 c.args.self.now.w3 (search rules))
    c.then-w.ensures.first c.then-w2.ensures.first c.then-w3.ensures.first
    c.then-w.ensures.power c.then-w2.ensures.power c.then-w3.ensures.power)
    (c.write.ensures.writes p ok)
