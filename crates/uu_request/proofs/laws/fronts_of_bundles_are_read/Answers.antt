use Rattle.std.proofs.Common.{◌∙◌, ap, map}
use Rattle.std.proofs.lemmas.List.{map-append}
use Rattle.uu_request.specs.Carried.{packed_job, refused_job, told_job}
use Rattle.uu_request.proofs.FrontLemmas.{IsFirst, first_read}
use Rattle.uu_request.proofs.laws.fronts_of_bundles_are_read.Goals as goal

pub returns : goal.returns
returns c = λ whole read front cut is_whole is_front is_read.
    let first : IsFirst whole read =
    first_read c.cut_bundles_are_fronts.ensures.front c.written_bundles_are_read.ensures c.a_text_has_one_bundle.ensures whole read front cut is_whole is_front is_read in record {
      from = ap (λ heading. heading.from) first.heading;
      to = ap (λ heading. heading.to) first.heading;
      below = ap (λ heading. heading.below) first.heading;
      grade = ap (λ heading. heading.grade) first.heading;
      has = record { rest = map told_job first.told; is = ap (map told_job) first.has ∙ map-append told_job read.has first.told };
      refused = record { rest = map refused_job first.more; is = ap (map refused_job) first.refused ∙ map-append refused_job read.refused first.more };
      jobs = record { rest = map packed_job first.left; is = ap (map packed_job) first.jobs ∙ map-append packed_job read.jobs first.left };
    }
