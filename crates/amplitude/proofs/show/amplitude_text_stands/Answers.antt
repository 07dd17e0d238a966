use Rattle.amplitude.proofs.TextRead.{read_back, text_examples, text_tells}
use Rattle.amplitude.proofs.show.amplitude_text_stands.Goals as goal

pub returns : goal.returns
returns c = record { read = read_back; tells = text_tells; examples = text_examples }
