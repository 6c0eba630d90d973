use Rattle.std.proofs.Common.{ℕ, suc, ◌<◌, List, [], length, map, take, subst, sym, add-one, arith, Bor}
use Rattle.uu_line.specs.Internal.Entries.{most_job}
use Rattle.uu_line.specs.Lines.{AreNumbers}
use Rattle.uu_line.proofs.LineLemmas.{each_number, numbers_next}
use Rattle.uu_line.proofs.values.jobs_of.Goals as goal

abbrev nothing : Bor (List ℕ)
nothing = record { ref_ptr = (0, 0); now = [] }

pub number_of-requires : goal.number_of-requires
number_of-requires c =
    let inside : c.loop-text.text-index < length c.args.texts.now = omega arith in
    each_number (λ text. text.now) c.args.texts.now c.loop-text.text-index nothing most_job inside c.requires

pub loop-text-preserved : goal.loop-text-preserved
loop-text-preserved c =
    let inside : c.loop-text.text-index < length c.args.texts.now = omega arith in
    rw add-one (subst (AreNumbers 32 (take (suc c.loop-text.text-index) (map (λ text. text.now) c.args.texts.now))) (sym c.in_ok-push.ensures.items)
    (numbers_next 32 (λ text. text.now) c.args.texts.now c.loop-text.text-index nothing c.loop-text.jobs.items c.number_of.result inside c.loop-text.invariant c.number_of.ensures))
