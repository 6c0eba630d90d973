use Rattle.uu_store.proofs.NoLinks.{no_links}
use Rattle.uu_store.proofs.laws.first_versions_have_no_links.Goals as goal

pub returns : goal.returns
returns c v database s early enc = no_links v database s early enc
