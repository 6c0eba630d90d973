use Rattle.std.proofs.Common.{arith}
use Rattle.std.proofs.lemmas.Str.Pattern.{split_once_first}
use Rattle.uu_request.proofs.WordLemmas.{is_cut}
use Rattle.uu_request.proofs.unpacking.cut.Goals as goal

pub returns : goal.returns
returns c = is_cut c.args.text.now c.split_once.result (split_once_first 33 c.args.text.now c.split_once.result c.split_once.ensures.cases (omega arith))
