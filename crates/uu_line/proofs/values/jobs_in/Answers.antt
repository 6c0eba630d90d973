use Rattle.std.proofs.Common.{◌≡◌, ◌∙◌, ap, subst, sym, [], IfOk, map, unwrap_or, codes}
use Rattle.clap.specs.Words.{found_of, rows_of}
use Rattle.clap.proofs.WalkLemmas.{raw_values-rows}
use Rattle.uu_line.specs.Internal.Entries.{AreNumbersUpTo, most_job}
use Rattle.uu_line.specs.Lines.{texts_at}
use Rattle.uu_line.specs.Lines.{AreNumbers}
use Rattle.uu_line.proofs.values.jobs_in.Goals as goal

pub jobs_of-requires : goal.jobs_of-requires
jobs_of-requires c =
    let found = found_of c.args.given.now in
    let same : map (λ s. s.now) c.in-Some.texts.now ≡ texts_at (codes "job") (rows_of found) = ap (λ o. unwrap_or o []) (c.in-Some.ensures ∙ raw_values-rows found (codes "job")) in
    subst (AreNumbersUpTo most_job) (sym same) c.requires

pub returns-in-Some-clause-jobs : goal.returns-in-Some-clause-jobs
returns-in-Some-clause-jobs c =
    let found = found_of c.args.given.now in
    let same : map (λ s. s.now) c.in-Some.texts.now ≡ texts_at (codes "job") (rows_of found) = ap (λ o. unwrap_or o []) (c.in-Some.ensures ∙ raw_values-rows found (codes "job")) in
    subst (λ texts. IfOk c.jobs_of.result (AreNumbers 32 texts)) same c.jobs_of.ensures.jobs

pub returns-in-None-clause-jobs : goal.returns-in-None-clause-jobs
returns-in-None-clause-jobs c =
    let found = found_of c.args.given.now in
    let same : [] ≡ texts_at (codes "job") (rows_of found) = ap (λ o. unwrap_or o []) (c.in-None.ensures ∙ raw_values-rows found (codes "job")) in
    subst (λ texts. AreNumbers 32 texts c.from_vec.result) same (subst (AreNumbers 32 []) (sym (c.from_vec.ensures ∙ c.new.ensures.items)) tt)
