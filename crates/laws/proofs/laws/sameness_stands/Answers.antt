use Rattle.laws.proofs.Same.{same_self, same_back, same-on, in_the_midst}
use Rattle.laws.proofs.Rename.{renamed-same}
use Rattle.laws.proofs.laws.sameness_stands.Goals as goal

pub returns : goal.returns
returns c = record { reflexive = same_self; symmetric = same_back; transitive = same-on; midst = in_the_midst; renamed = renamed-same }
