use Rattle.std.proofs.Common.{Bor, List, map, subst, ℕ}
use Rattle.uu_bundle.specs.Internal.Forms.{IsReadAs, IsStated, stated_words}
use Rattle.uu_bundle.proofs.Records.{no_stated}
use Rattle.uu_bundle.proofs.record.job_at.Goals as goal

pub returns-in-None : goal.returns-in-None
returns-in-None c =
    let words : List (List ℕ) = map (λ (word : Bor (List ℕ)). word.now) c.args.words.now in
    no_stated c.args.heading.now words c.args.text.now (subst (IsReadAs IsStated stated_words words) c.in-None.is c.in_ok-stated.ensures)
