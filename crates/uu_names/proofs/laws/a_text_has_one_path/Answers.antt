use Rattle.uu_names.proofs.PathScan.{one_path}
use Rattle.uu_names.proofs.laws.a_text_has_one_path.Goals as goal

pub returns : goal.returns
returns c = λ path other form form' same.
    let cut = one_path other path form' form same in
    λ i. record { sites = cut.0 i; local_part = cut.1 i }
