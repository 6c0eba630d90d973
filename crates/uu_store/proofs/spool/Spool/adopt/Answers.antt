use Rattle.std.proofs.Common.{Err, sym, ap, subst}
use Rattle.sqlite.specs.Held.{state}
use Rattle.uu_schema.specs.Encoded.{Leaves}
use Rattle.uu_adopt.specs.Adoption.{StopsAs}
use Rattle.uu_core.specs.State.{empty}
use Rattle.uu_adopt.proofs.Settling.{adopt_creates, adopt_migrates}
use Rattle.uu_store.specs.Adopted.{IsAdoptedSpool}
use Rattle.uu_store.proofs.Ending.{clean_before}
use Rattle.uu_schema.specs.declared.fault.StoreFault.TheVariants.{Foreign}
use Rattle.uu_adopt.proofs.Inspecting.{read_as, taken_as, refused_as, same_as, stops_as, unmade_as, not_ok, same_fault}
use Rattle.uu_store.proofs.Adopting.{adopted_as, turned_away_as, remembers}
use Rattle.uu_store.proofs.spool.Spool.adopt.Goals as goal

pub returns-in-Ok-clause-adopted : goal.returns-in-Ok-clause-adopted
returns-in-Ok-clause-adopted g c =
    let a = state g.S.Store c.args.conn in
    let b = state g.S.Store c.adopt_database.new.conn in
    let spool = c.over.result in
    let same = c.over.ensures.connection in
    record {
      adopted = adopted_as g.S.Store c.args.conn c.adopt_database.new.conn spool same c.over.ensures.usable (rw c.in-Ok.is at c.adopt_database.ensures.adopts.spared) (rw c.in-Ok.is at c.adopt_database.ensures.adopts.migrates) (rw c.in-Ok.is at c.adopt_database.ensures.adopts.creates) c.adopt_database.ensures.adopts.clean;
      encoded_before = λ v clean stands. read_as a b v (rw c.in-Ok.is at (c.adopt_database.ensures.adopts.inspected v)) (clean_before spool c.adopt_database.new.conn same clean) stands;
      adopted_by_tables = rw c.in-Ok.is at c.adopt_database.ensures.adopted;
      stop_when_adopted = λ clean rests. subst (λ h. StopsAs a (state g.S.Store h)) (sym same)
          (stops_as a b c.adopt_database.result (g.met.S.Store.settled c.args.conn.store) (clean_before spool c.adopt_database.new.conn same clean) rests c.adopt_database.ensures.adopts.spared c.adopt_database.ensures.adopts.migrates c.adopt_database.ensures.adopts.creates);
      stop_when_created = λ clean rests stands. subst (λ h. Leaves (state g.S.Store h) empty) (sym same)
          (adopt_creates a b (g.met.S.Store.settled c.adopt_database.new.conn.store) (clean_before spool c.adopt_database.new.conn same clean) rests (rw c.in-Ok.is at c.adopt_database.ensures.adopts.creates) stands);
      stop_when_migrated = λ clean rests v early s enc. subst (λ h. Leaves (state g.S.Store h) s) (sym same)
          (adopt_migrates v a b (g.met.S.Store.settled c.adopt_database.new.conn.store) (clean_before spool c.adopt_database.new.conn same clean) rests (rw c.in-Ok.is at (c.adopt_database.ensures.adopts.migrates v early)) s enc);
    }

pub returns-in-Err-clause-handed_back : goal.returns-in-Err-clause-handed_back
returns-in-Err-clause-handed_back g c =
    let a = state g.S.Store c.args.conn in
    let b = state g.S.Store c.adopt_database.new.conn in
    let settles = g.met.S.Store.settled c.args.conn.store in
    record {
      spool_never_refused = λ clean v s enc. taken_as a b v c.in-Err.fault (rw c.in-Err.is at (c.adopt_database.ensures.adopts.inspected v)) clean s enc;
      empty_never_refused = rw c.in-Err.is at c.adopt_database.ensures.empty_never_refused;
      foreign_encodes_no_state = λ clean v stands is. refused_as a b v c.in-Err.fault (rw c.in-Err.is at (c.adopt_database.ensures.adopts.inspected v)) clean stands is;
      newer_names_a_later_version = λ clean v stands is. (rw c.in-Err.is at (c.adopt_database.ensures.adopts.inspected v)).newer clean stands (ap Err is);
      refusal_changes_nothing = λ clean rests. same_as a b c.in-Err.fault (rw c.in-Err.is at c.adopt_database.ensures.adopts.spared) (rw c.in-Err.is at c.adopt_database.ensures.adopts.creates)
          (rw c.in-Err.is at c.adopt_database.ensures.empty_never_refused) (rw c.in-Err.is at c.adopt_database.ensures.never_failed) clean rests;
      stop_when_turned_away = λ clean rests. stops_as a b c.adopt_database.result settles clean rests c.adopt_database.ensures.adopts.spared c.adopt_database.ensures.adopts.migrates c.adopt_database.ensures.adopts.creates;
      stop_when_refused = λ clean rests. unmade_as a b c.in-Err.fault settles (rw c.in-Err.is at c.adopt_database.ensures.adopts.unmade) clean rests;
      turned_away = turned_away_as g.S.Store c.args.conn c.adopt_database.new.conn c.adopt_database.result settles c.adopt_database.ensures.adopts.spared c.adopt_database.ensures.adopts.migrates c.adopt_database.ensures.adopts.creates c.adopt_database.ensures.adopts.clean;
    }

pub returns-in-Ok-clause-remembers : goal.returns-in-Ok-clause-remembers
returns-in-Ok-clause-remembers g c =
    let taken : IsAdoptedSpool c.args.conn c.over.result = returns-in-Ok-clause-adopted g c in
    remembers c.args.conn c.over.result taken.adopted (λ s before stretches led. c.no_answered_command_is_lost_over.ensures.commands s before stretches c.args.conn led)
    (λ s before stretches new number led acknowledged. c.no_answered_command_is_lost_over.ensures.jobs s before stretches c.args.conn new number led acknowledged)
    (λ s before stretches key new number led acknowledged. c.no_answered_command_is_lost_over.ensures.keys s before stretches c.args.conn key new number led acknowledged)

pub returns-in-Ok-clause-other_is_foreign : goal.returns-in-Ok-clause-other_is_foreign
returns-in-Ok-clause-other_is_foreign g c other = absurd (not_ok c.adopt_database.result tt (c.adopt_database.ensures.other other).0 c.in-Ok.is)

pub returns-in-Err-clause-other_is_foreign : goal.returns-in-Err-clause-other_is_foreign
returns-in-Err-clause-other_is_foreign g c other =
    let it = c.adopt_database.ensures.other other in
    (same_fault c.adopt_database.result c.in-Err.fault Foreign c.in-Err.is it.0, it.1)
