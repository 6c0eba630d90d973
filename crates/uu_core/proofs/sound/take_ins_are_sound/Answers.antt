use Rattle.std.proofs.Common.{All, map, subst, arith}
use Rattle.std.proofs.lemmas.List.Elements.{All-cons, All-map}
use Rattle.uu_names.proofs.Basics.{all_from_take, all_more}
use Rattle.uu_core.specs.declared.command.Command.TheVariants.{Forget}
use Rattle.uu_core.specs.declared.take_in.Offered.{Offered}
use Rattle.uu_core.specs.TakeIns.{offering}
use Rattle.uu_core.specs.WellFormed.{IsCommand}
use Rattle.uu_core.proofs.sound.take_ins_are_sound.Goals as goal

pub loop-offered-preserved : goal.loop-offered-preserved
loop-offered-preserved c =
    let from = c.args.it.now.from in
    all_more (λ (offered : Offered). IsCommand (offering from offered)) c.as_slice-offered-items.result.now c.loop-offered.offered-index c.offered-item.result c.loop-offered-test.true c.offered-item.is
    c.loop-offered.invariant (c.offered_is_sound.ensures from c.name_is_sound.ensures)

pub returns : goal.returns
returns c =
    let from = c.args.it.now.from in
    let all : All (λ (offered : Offered). IsCommand (offering from offered)) c.args.it.now.jobs = subst (All (λ (offered : Offered). IsCommand (offering from offered))) c.as_slice-offered-items.ensures
    (all_from_take (λ (offered : Offered). IsCommand (offering from offered)) c.as_slice-offered-items.result.now c.loop-offered.offered-index (omega arith) c.loop-offered.invariant) in
    All-cons IsCommand (Forget from c.args.it.now.below) (map (offering from) c.args.it.now.jobs) c.number_is_sound.ensures (All-map IsCommand (offering from) c.args.it.now.jobs all)
