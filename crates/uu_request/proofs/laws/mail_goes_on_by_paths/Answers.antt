use Rattle.uu_request.proofs.PathLemmas.{by_path, is_path}
use Rattle.uu_request.proofs.laws.mail_goes_on_by_paths.Goals as goal

pub returns : goal.returns
returns c = λ system address is_system word. (is_path system address is_system word, λ it. by_path system address it.0 it.1)
