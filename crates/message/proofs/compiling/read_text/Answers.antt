use Rattle.std.proofs.lemmas.Result.{err_from_is_err_and}
use Rattle.message.proofs.Readings.{read_ok}
use Rattle.message.proofs.Jobs.{text_unread}
use Rattle.message.proofs.compiling.read_text.Goals as goal

pub returns-in_err-read : goal.returns-in_err-read
returns-in_err-read c =
    let p = err_from_is_err_and c.from_residual.result c.from_residual.ensures.1 in
    rw (p.1, p.2) (text_unread c.args.text.now c.in_err-read.field-0.0 c.in_err-read.ensures)

pub returns : goal.returns
returns c = read_ok 256 c.args.text.now c.in_ok-read.field-0 c.in_ok-read.ensures
