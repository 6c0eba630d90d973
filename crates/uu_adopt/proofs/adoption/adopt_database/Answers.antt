use Rattle.std.proofs.Common.{refl, ◌∙◌}
use Rattle.sqlite.specs.Held.{state}
use Rattle.uu_adopt.proofs.Adopting.{adopts_none, adopts_some, adopts_other}
use Rattle.uu_adopt.proofs.Creating.{found_is, none_or_other, some_or_other, some_or_none, taken_none, taken_some}
use Rattle.uu_adopt.proofs.adoption.adopt_database.Goals as goal

pub returns-in-Nothing-clause-adopts : goal.returns-in-Nothing-clause-adopts
returns-in-Nothing-clause-adopts g c =
    let a = state g.S.Store c.args.conn.now in
    adopts_none a (state g.S.Store c.create_tables.new.conn) c.create_tables.result (found_is a c.schema.result.now c.inspect_schema.result c.schema.ensures.value c.inspect_schema.ensures ∙ c.in-Nothing.is) c.create_tables.ensures.makes

pub returns-in-Spool-clause-adopts : goal.returns-in-Spool-clause-adopts
returns-in-Spool-clause-adopts g c =
    let a = state g.S.Store c.args.conn.now in
    adopts_some a (state g.S.Store c.adopt_spool.new.conn) c.in-Spool.tables c.adopt_spool.result (found_is a c.schema.result.now c.inspect_schema.result c.schema.ensures.value c.inspect_schema.ensures ∙ c.in-Spool.is) c.adopt_spool.ensures.adopts

pub returns-in-Other-clause-adopts : goal.returns-in-Other-clause-adopts
returns-in-Other-clause-adopts g c =
    let a = state g.S.Store c.args.conn.now in
    adopts_other a (found_is a c.schema.result.now c.inspect_schema.result c.schema.ensures.value c.inspect_schema.ensures ∙ c.in-Other.is)

pub returns-in-Nothing-clause-adopted : goal.returns-in-Nothing-clause-adopted
returns-in-Nothing-clause-adopted g c =
    let a = state g.S.Store c.args.conn.now in
    taken_none a.now.schema c.create_tables.result (found_is a c.schema.result.now c.inspect_schema.result c.schema.ensures.value c.inspect_schema.ensures ∙ c.in-Nothing.is)

pub returns-in-Spool-clause-adopted : goal.returns-in-Spool-clause-adopted
returns-in-Spool-clause-adopted g c =
    let a = state g.S.Store c.args.conn.now in
    taken_some a.now.schema c.in-Spool.tables c.adopt_spool.result (found_is a c.schema.result.now c.inspect_schema.result c.schema.ensures.value c.inspect_schema.ensures ∙ c.in-Spool.is) c.adopt_spool.ensures.half

pub returns-in-Nothing-clause-other : goal.returns-in-Nothing-clause-other
returns-in-Nothing-clause-other g c other =
    let a = state g.S.Store c.args.conn.now in
    absurd (none_or_other a.now.schema (found_is a c.schema.result.now c.inspect_schema.result c.schema.ensures.value c.inspect_schema.ensures ∙ c.in-Nothing.is) other)

pub returns-in-Spool-clause-other : goal.returns-in-Spool-clause-other
returns-in-Spool-clause-other g c other =
    let a = state g.S.Store c.args.conn.now in
    absurd (some_or_other a.now.schema c.in-Spool.tables (found_is a c.schema.result.now c.inspect_schema.result c.schema.ensures.value c.inspect_schema.ensures ∙ c.in-Spool.is) other)

pub returns-in-Other-clause-other : goal.returns-in-Other-clause-other
returns-in-Other-clause-other g c other = (refl, refl)

pub returns-in-Spool-clause-empty_never_refused : goal.returns-in-Spool-clause-empty_never_refused
returns-in-Spool-clause-empty_never_refused g c none =
    let a = state g.S.Store c.args.conn.now in
    absurd (some_or_none a.now.schema c.in-Spool.tables (found_is a c.schema.result.now c.inspect_schema.result c.schema.ensures.value c.inspect_schema.ensures ∙ c.in-Spool.is) none)

pub returns-in-Other-clause-empty_never_refused : goal.returns-in-Other-clause-empty_never_refused
returns-in-Other-clause-empty_never_refused g c none =
    let a = state g.S.Store c.args.conn.now in
    absurd (none_or_other a.now.schema none (found_is a c.schema.result.now c.inspect_schema.result c.schema.ensures.value c.inspect_schema.ensures ∙ c.in-Other.is))
