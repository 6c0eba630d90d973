use Rattle.std.proofs.Common.{Bor, List, Option, option_map, subst, ℕ}
use Rattle.uu_bundle.specs.Internal.Forms.{IsReadFrom}
use Rattle.uu_bundle.specs.Texts.{IsHeading, IsRecord, heading_text, record_text}
use Rattle.uu_bundle.specs.declared.bundle.Heading.{Heading}
use Rattle.uu_bundle.specs.declared.bundle.Record.{Record}
use Rattle.uu_bundle.proofs.Progress.{begun_here, front_is, front_of, has_kept, job_kept, read_whole, refused_kept, shorter}
use Rattle.uu_bundle.proofs.reading.read_bundle.Goals as goal

abbrev heading_cut : Option (Heading × Bor (List ℕ)) → Option (Heading × List ℕ)
heading_cut read = option_map (λ cut. (cut.0, cut.1.now)) read

abbrev record_cut : Option (Record × Bor (List ℕ)) → Option (Record × List ℕ)
record_cut read = option_map (λ cut. (cut.0, cut.1.now)) read

pub loop-jobs-init : goal.loop-jobs-init
loop-jobs-init c =
    begun_here c.args.text.now c.in-Some.heading c.in-Some.behind.now c.new-has.result.items c.new-refused.result.items c.new-jobs.result.items
    (subst (λ read. IsReadFrom IsHeading heading_text c.args.text.now (heading_cut read)) c.in-Some.is c.in_ok-heading.ensures) c.new-has.ensures.items c.new-refused.ensures.items c.new-jobs.ensures.items

pub loop-jobs-preserved-in_ok-push-in-Has : goal.loop-jobs-preserved-in_ok-push-in-Has
loop-jobs-preserved-in_ok-push-in-Has c =
    has_kept c.args.text.now c.in-Some.heading c.loop-jobs.rest.now c.in-Some-2.after.now c.loop-jobs.has.items c.push.new.self.items c.loop-jobs.refused.items c.loop-jobs.jobs.items c.in-Some-2.record c.in-Has.told c.loop-jobs.invariant
    (subst (λ read. IsReadFrom (IsRecord c.in-Some.heading) record_text c.loop-jobs.rest.now (record_cut read)) c.in-Some-2.is c.in_ok-record.ensures) c.in-Has.is c.in_ok-push-in-Has.ensures.items

pub loop-jobs-smaller-in_ok-push-in-Has : goal.loop-jobs-smaller-in_ok-push-in-Has
loop-jobs-smaller-in_ok-push-in-Has c =
    shorter c.in-Some.heading c.in-Some-2.record c.loop-jobs.rest.now c.in-Some-2.after.now
    (subst (λ read. IsReadFrom (IsRecord c.in-Some.heading) record_text c.loop-jobs.rest.now (record_cut read)) c.in-Some-2.is c.in_ok-record.ensures)

pub loop-jobs-preserved-in_ok-push-in-No : goal.loop-jobs-preserved-in_ok-push-in-No
loop-jobs-preserved-in_ok-push-in-No c =
    refused_kept c.args.text.now c.in-Some.heading c.loop-jobs.rest.now c.in-Some-2.after.now c.loop-jobs.has.items c.loop-jobs.refused.items c.push-in-No.new.self.items c.loop-jobs.jobs.items c.in-Some-2.record c.in-No.one c.loop-jobs.invariant
    (subst (λ read. IsReadFrom (IsRecord c.in-Some.heading) record_text c.loop-jobs.rest.now (record_cut read)) c.in-Some-2.is c.in_ok-record.ensures) c.in-No.is c.in_ok-push-in-No.ensures.items

pub loop-jobs-smaller-in_ok-push-in-No : goal.loop-jobs-smaller-in_ok-push-in-No
loop-jobs-smaller-in_ok-push-in-No c =
    shorter c.in-Some.heading c.in-Some-2.record c.loop-jobs.rest.now c.in-Some-2.after.now
    (subst (λ read. IsReadFrom (IsRecord c.in-Some.heading) record_text c.loop-jobs.rest.now (record_cut read)) c.in-Some-2.is c.in_ok-record.ensures)

pub loop-jobs-preserved : goal.loop-jobs-preserved
loop-jobs-preserved c =
    job_kept c.args.text.now c.in-Some.heading c.loop-jobs.rest.now c.in-Some-2.after.now c.loop-jobs.has.items c.loop-jobs.refused.items c.loop-jobs.jobs.items c.push-in-Job.new.self.items c.in-Some-2.record c.in-Job.job c.loop-jobs.invariant
    (subst (λ read. IsReadFrom (IsRecord c.in-Some.heading) record_text c.loop-jobs.rest.now (record_cut read)) c.in-Some-2.is c.in_ok-record.ensures) c.in-Job.is c.in_ok-push-in-Job.ensures.items

pub loop-jobs-smaller : goal.loop-jobs-smaller
loop-jobs-smaller c =
    shorter c.in-Some.heading c.in-Some-2.record c.loop-jobs.rest.now c.in-Some-2.after.now
    (subst (λ read. IsReadFrom (IsRecord c.in-Some.heading) record_text c.loop-jobs.rest.now (record_cut read)) c.in-Some-2.is c.in_ok-record.ensures)

pub stop_of-stopped-requires : goal.stop_of-stopped-requires
stop_of-stopped-requires c = (
  front_of c.args.text.now c.in-Some.heading c.loop-jobs.rest.now c.loop-jobs.has.items c.loop-jobs.refused.items c.loop-jobs.jobs.items c.loop-jobs.invariant,
  front_is c.args.text.now c.in-Some.heading c.loop-jobs.rest.now c.loop-jobs.has.items c.loop-jobs.refused.items c.loop-jobs.jobs.items c.loop-jobs.invariant,
)

pub returns : goal.returns
returns c =
    let front = front_of c.args.text.now c.in-Some.heading c.loop-jobs.rest.now c.loop-jobs.has.items c.loop-jobs.refused.items c.loop-jobs.jobs.items c.loop-jobs.invariant in
    let read = subst (λ read. IsReadFrom IsHeading heading_text c.args.text.now (heading_cut read)) c.in-Some.is c.in_ok-heading.ensures in
    read_whole c.args.text.now
    (record {
      from = c.in-Some.heading.from;
      to = c.in-Some.heading.to;
      spool = c.in-Some.heading.spool;
      below = c.in-Some.heading.below;
      grade = c.in-Some.heading.grade;
      has = c.from_vec.result;
      refused = c.from_vec-2.result;
      jobs = c.from_vec-3.result;
      stopped = c.stop_of-stopped.result;
    }) c.loop-jobs.rest.now c.loop-jobs.has.items c.loop-jobs.refused.items c.loop-jobs.jobs.items read.1 c.loop-jobs.invariant
    (subst (λ next. IsReadFrom (IsRecord c.in-Some.heading) record_text c.loop-jobs.rest.now (record_cut next)) c.in_default-2.is c.in_ok-record.ensures)
    c.from_vec.ensures c.from_vec-2.ensures c.from_vec-3.ensures
    (c.stop_of-stopped.ensures front (front_is c.args.text.now c.in-Some.heading c.loop-jobs.rest.now c.loop-jobs.has.items c.loop-jobs.refused.items c.loop-jobs.jobs.items c.loop-jobs.invariant))
