use Rattle.std.proofs.Common.{◌∙◌, []}
use Rattle.uu_schema.specs.declared.fault.StoreKind.TheVariants.{Database}
use Rattle.uuspool.proofs.AnswerLemmas.{as_broken_off}
use Rattle.uuspool.proofs.RoutingLemmas.{texts_are_readable}
use Rattle.uuspool.proofs.ServedLemmas.{never_failed}
use Rattle.uuspool.proofs.mailing.mail_by_map.Goals as goal

pub returns : goal.returns
returns g c =
    let was = c.in_ok-systems.ensures in
    record {
      asked = record {
        marked = was.marked.0;
        noted = λ clean s shown known kind same.
            let (text, among, unreadable) = c.in-Err.ensures.fault c.in_default.not-Memory in
            absurd (texts_are_readable s.entries text _ shown.encodes.holds.good.hosts (c.deref-2.ensures.value ∙ (was.answer clean s shown).1) among unreadable);
        answer = λ clean s shown known. tt;
        clean = was.asked.clean;
        ran = as_broken_off [] c.args.spool.now c.systems_and_entries.new.spool [] Database was.ran;
        failed = never_failed _ was.marked.0;
      };
      told = tt;
    }
