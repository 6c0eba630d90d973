use Rattle.std.proofs.Common.{drop, inl, inr, subst}
use Rattle.clap.specs.Words.{found_of, rows_of}
use Rattle.uu_line.specs.Internal.Entries.{HaveTexts, subcommands, texts_of}
use Rattle.uu_line.specs.Lines.{MeansAnswer, MeansDone, MeansFailed, MeansForget, MeansPack, MeansSettle, MeansTask, MeansUnpack}
use Rattle.uu_line.proofs.LineLemmas.{found_later, task_meant}
use Rattle.uu_line.proofs.entered.call_task_in.Goals as goal

pub failed_in-requires : goal.failed_in-requires
failed_in-requires c = subst (λ name. HaveTexts (texts_of name) (rows_of (found_of c.args.given.now))) c.in-failed.is c.requires.entered.texts

pub returns-in-failed : goal.returns-in-failed
returns-in-failed c =
    let rows = rows_of (found_of c.args.given.now) in
    task_meant (MeansFailed rows) (MeansTask c.args.name.now rows) c.failed_in.result (λ meant means. inr (inr (inr (inr (inr (inr (inr (inr (inr (inr (inr (inr (inr (inr (inr (inr (inl (c.in-failed.is, means)))))))))))))))))) c.failed_in.ensures

pub done_in-requires : goal.done_in-requires
done_in-requires c = record { texts = subst (λ name. HaveTexts (texts_of name) (rows_of (found_of c.args.given.now))) c.in-done.is c.requires.entered.texts; numbers = c.requires.entered.jobs }

pub returns-in-done : goal.returns-in-done
returns-in-done c =
    let rows = rows_of (found_of c.args.given.now) in
    task_meant (MeansDone rows) (MeansTask c.args.name.now rows) c.done_in.result (λ meant means. inr (inr (inr (inr (inr (inr (inr (inr (inr (inr (inr (inr (inr (inr (inr (inr (inr (inl (c.in-done.is, means))))))))))))))))))) c.done_in.ensures

pub forget_in-requires : goal.forget_in-requires
forget_in-requires c = record { texts = subst (λ name. HaveTexts (texts_of name) (rows_of (found_of c.args.given.now))) c.in-forget.is c.requires.entered.texts; number = c.requires.entered.jobs }

pub returns-in-forget : goal.returns-in-forget
returns-in-forget c =
    let rows = rows_of (found_of c.args.given.now) in
    task_meant (MeansForget rows) (MeansTask c.args.name.now rows) c.forget_in.result (λ meant means. inr (inr (inr (inr (inr (inr (inr (inr (inr (inr (inr (inr (inr (inr (inr (inr (inr (inr (inl (c.in-forget.is, means)))))))))))))))))))) c.forget_in.ensures

pub pack_in-requires : goal.pack_in-requires
pack_in-requires c = record { texts = subst (λ name. HaveTexts (texts_of name) (rows_of (found_of c.args.given.now))) c.in-pack.is c.requires.entered.texts; number = c.requires.entered.jobs; size = c.requires.entered.sizes }

pub returns-in-pack : goal.returns-in-pack
returns-in-pack c =
    let rows = rows_of (found_of c.args.given.now) in
    task_meant (MeansPack rows) (MeansTask c.args.name.now rows) c.pack_in.result (λ meant means. inr (inr (inr (inr (inr (inr (inr (inr (inr (inr (inr (inr (inr (inr (inr (inr (inr (inr (inr (inl (c.in-pack.is, means))))))))))))))))))))) c.pack_in.ensures

pub unpack_in-requires : goal.unpack_in-requires
unpack_in-requires c = subst (λ name. HaveTexts (texts_of name) (rows_of (found_of c.args.given.now))) c.in-unpack.is c.requires.entered.texts

pub returns-in-unpack : goal.returns-in-unpack
returns-in-unpack c =
    let rows = rows_of (found_of c.args.given.now) in
    task_meant (MeansUnpack rows) (MeansTask c.args.name.now rows) c.unpack_in.result (λ meant means. inr (inr (inr (inr (inr (inr (inr (inr (inr (inr (inr (inr (inr (inr (inr (inr (inr (inr (inr (inr (inl (c.in-unpack.is, means)))))))))))))))))))))) c.unpack_in.ensures

pub settle_in-requires : goal.settle_in-requires
settle_in-requires c = subst (λ name. HaveTexts (texts_of name) (rows_of (found_of c.args.given.now))) c.in-settle.is c.requires.entered.texts

pub returns-in-settle : goal.returns-in-settle
returns-in-settle c =
    let rows = rows_of (found_of c.args.given.now) in
    task_meant (MeansSettle rows) (MeansTask c.args.name.now rows) c.settle_in.result (λ meant means. inr (inr (inr (inr (inr (inr (inr (inr (inr (inr (inr (inr (inr (inr (inr (inr (inr (inr (inr (inr (inr (inl (c.in-settle.is, means))))))))))))))))))))))) c.settle_in.ensures

pub answer_in-requires : goal.answer_in-requires
answer_in-requires c = record { texts = subst (λ name. HaveTexts (texts_of name) (rows_of (found_of c.args.given.now))) c.in-answer.is c.requires.entered.texts; number = c.requires.entered.jobs; size = c.requires.entered.sizes }

pub returns-in-answer : goal.returns-in-answer
returns-in-answer c =
    let rows = rows_of (found_of c.args.given.now) in
    task_meant (MeansAnswer rows) (MeansTask c.args.name.now rows) c.answer_in.result (λ meant means. inr (inr (inr (inr (inr (inr (inr (inr (inr (inr (inr (inr (inr (inr (inr (inr (inr (inr (inr (inr (inr (inr (inl (c.in-answer.is, means)))))))))))))))))))))))) c.answer_in.ensures

pub site_task_in-requires : goal.site_task_in-requires
site_task_in-requires c = record {
  entered = c.requires.entered;
  later = found_later c.args.name.now 7 (drop 16 subcommands) (c.in_default.not-failed, (c.in_default.not-done, (c.in_default.not-forget, (c.in_default.not-pack, (c.in_default.not-unpack, (c.in_default.not-settle, (c.in_default.not-answer, tt))))))) c.requires.later;
}
