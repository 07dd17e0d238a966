use Rattle.std.proofs.Common.{ap, ◌∙◌}
use Rattle.text.specs.Program.{has}
use Rattle.text.proofs.Steps.{has_any}
use Rattle.text.proofs.reader.Reader.has_named.Goals as goal

pub returns : goal.returns
returns c = c.contains.ensures.value ∙ has_any c.args.q _ ∙ ap (has c.args.q) c.deref.ensures.value
