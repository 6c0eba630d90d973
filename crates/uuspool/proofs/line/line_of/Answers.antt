use Rattle.std.proofs.Common.{map}
use Rattle.std.proofs.lemmas.Result.{err_from_is_err_and}
use Rattle.std.specs.String.{string_bytes}
use Rattle.uuspool.proofs.LineLemmas.{fault_answer}
use Rattle.uuspool.proofs.line.line_of.Goals as goal

pub returns-in_err-line_of : goal.returns-in_err-line_of
returns-in_err-line_of c =
    let (f, is, same) = err_from_is_err_and c.from_residual.result c.from_residual.ensures.1 in
    rw (is, same) (fault_answer (map string_bytes c.args.words.now) c.in_err-line_of.field-0.0 c.in_err-line_of.ensures)
