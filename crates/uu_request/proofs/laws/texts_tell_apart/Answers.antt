use Rattle.uu_request.proofs.TextLemmas.{told_apart}
use Rattle.uu_request.proofs.laws.texts_tell_apart.Goals as goal

pub returns : goal.returns
returns c = told_apart
