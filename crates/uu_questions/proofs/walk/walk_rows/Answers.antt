use Rattle.std.proofs.Common.{◌≡◌, rules, [], ◌∷◌, ◌++◌, Ok, inl, refl, subst, ◌∙◌, arith}
use Rattle.sqlite.specs.Given.{IsRefused}
use Rattle.sqlite.specs.Held.{state}
use Rattle.sqlite.specs.Values.{bound}
use Rattle.sqlite.proofs.Callers.{begun_plain, unchanged_then}
use Rattle.uu_questions.specs.Walks.{Walks, AsksAndWalks}
use Rattle.uu_questions.proofs.WalkLemmas.{plain_here, refused, refused_by, commits_nothing, asked, failed, walked, err_of, on_ok_of, then_refused, survives_on, took_more}
use Rattle.uu_questions.proofs.walk.walk_rows.Goals as goal

pub returns-in_err-rows : goal.returns-in_err-rows
returns-in_err-rows g c =
    let sql = c.args.sql.now in
    let params = bound c.args.params.now in
    let old = state g.S.Store c.args.conn.now in
    let new = state g.S.Store c.query.follows.lender-at-none in
    let held = c.query.follows.holds-at-none in
    let it : IsRefused g.S.Store sql params c.args.conn.now c.query.result c.query.follows.lender-at-none = search rules in
    record {
      idle = it.mode;
      walks = failed g.T.RowTaker.takes sql params old new c.args.taker.now c.args.taker.now c.from_residual.result c.from_residual.ensures.0
          (asked old new (λ clean stands. refused sql params old new c.requires stands _ (err_of _ c.query.result _ c.in_err-rows.was (it.err clean))) (commits_nothing sql params old new c.requires it.survives));
    }

pub rows-init : goal.rows-init
rows-init g c =
    let made = c.in_ok-rows.ensures in
    let old = state g.S.Store c.args.conn.now in
    let now = state g.S.Store c.in_ok-rows.rows.conn.now in
    let params = bound c.args.params.now in (
      refl,
      made.mode,
      commits_nothing c.args.sql.now params old now c.requires made.survives,
      λ clean stands. let b = begun_plain g.S.Store _ _ c.args.conn.now _ (plain_here c.args.sql.now params old now c.requires stands) (made.begun clean) in ([], b.0, b.1, refl),
    )

pub returns-in_err-row : goal.returns-in_err-row
returns-in_err-row g c =
    let same : c.next.follows.lender-at-none.conn.now ≡ c.conn-in_err-row-1.given.0 = search rules in
    let moved = c.next.follows.holds-at-none in
    let old = state g.S.Store c.args.conn.now in
    let mid = state g.S.Store c.rows.rows.conn.now in
    let now = state g.S.Store c.next.follows.lender-at-none.conn.now in
    let it : Walks g.T.RowTaker.takes c.args.sql.now (bound c.args.params.now) old now c.args.taker.now c.rows.taker c.from_residual-in_err-row.result =
    failed g.T.RowTaker.takes c.args.sql.now (bound c.args.params.now) old now c.args.taker.now c.rows.taker c.from_residual-in_err-row.result c.from_residual-in_err-row.ensures.0
    (asked old now
    (λ clean stands. let was = c.rows.invariant.3 (omega (arith, moved.survives.clean)) stands in then_refused old mid now was.2 (refused_by mid now _ (err_of _ c.next.result _ c.in_err-row.was (moved.kept clean))))
    (survives_on old mid now _ c.rows.invariant.2 moved.survives)) in
    subst (λ h. AsksAndWalks {T = Unit {0}} g.S.Store g.T.RowTaker.takes c.args.sql.now (bound c.args.params.now) c.args.conn.now h c.args.taker.now c.rows.taker c.from_residual-in_err-row.result) same (record { idle = λ before. moved.mode (c.rows.invariant.1 before); walks = it })

pub returns-in_default : goal.returns-in_default
returns-in_default g c =
    let same : c.next.follows.lender-at-none.conn.now ≡ c.conn-in_default-1.given.0 = search rules in
    let moved = c.next.follows.holds-at-none in
    let sql = c.args.sql.now in
    let params = bound c.args.params.now in
    let old = state g.S.Store c.args.conn.now in
    let mid = state g.S.Store c.rows.rows.conn.now in
    let now = state g.S.Store c.next.follows.lender-at-none.conn.now in
    let it : Walks g.T.RowTaker.takes sql params old now c.args.taker.now c.rows.taker (Ok tt) =
    walked g.T.RowTaker.takes sql params old mid now c.args.taker.now c.rows.taker c.requires (survives_on old mid now _ c.rows.invariant.2 moved.survives)
    (λ clean stands.
    let was = c.rows.invariant.3 (omega (arith, moved.survives.clean)) stands in
    let shown = (rw (c.in_ok-row.was, c.in_default.is) at (moved.ok clean)) sql params was.0 was.1 in
    (was.0, was.2, on_ok_of _ c.next.result _ c.in_ok-row.was (moved.same clean), shown, was.3)) in
    subst (λ h. AsksAndWalks {T = Unit {0}} g.S.Store g.T.RowTaker.takes sql params c.args.conn.now h c.args.taker.now c.rows.taker (Ok tt)) same (record { idle = λ before. moved.mode (c.rows.invariant.1 before); walks = it })

pub returns-in_err-take : goal.returns-in_err-take
returns-in_err-take g c =
    let same : c.next.follows.lender-at-none.conn.now ≡ c.conn-in_err-take-1.given.0 = search rules in
    let moved = c.next.follows.holds-at-none in
    let old = state g.S.Store c.args.conn.now in
    let mid = state g.S.Store c.rows.rows.conn.now in
    let now = state g.S.Store c.next.follows.lender-at-none.conn.now in
    let it : Walks g.T.RowTaker.takes c.args.sql.now (bound c.args.params.now) old now c.args.taker.now c.take.new.self c.from_residual-in_err-take.result =
    failed g.T.RowTaker.takes c.args.sql.now (bound c.args.params.now) old now c.args.taker.now c.take.new.self c.from_residual-in_err-take.result c.from_residual-in_err-take.ensures.0
    (asked old now
    (λ clean stands. let was = c.rows.invariant.3 (omega (arith, moved.survives.clean)) stands in inl (unchanged_then old mid now was.2 (on_ok_of _ c.next.result _ c.in_ok-row.was (moved.same clean))))
    (survives_on old mid now _ c.rows.invariant.2 moved.survives)) in
    subst (λ h. AsksAndWalks {T = Unit {0}} g.S.Store g.T.RowTaker.takes c.args.sql.now (bound c.args.params.now) c.args.conn.now h c.args.taker.now c.take.new.self c.from_residual-in_err-take.result) same (record { idle = λ before. moved.mode (c.rows.invariant.1 before); walks = it })

pub rows-preserved : goal.rows-preserved
rows-preserved g c =
    let moved = c.next.follows.holds-at-none in
    let sql = c.args.sql.now in
    let params = bound c.args.params.now in
    let old = state g.S.Store c.args.conn.now in
    let mid = state g.S.Store c.rows.rows.conn.now in
    let now = state g.S.Store c.next.follows.lender-at-none.conn.now in (
      moved.same_reference ∙ c.rows.invariant.0,
      (λ idle. moved.mode (c.rows.invariant.1 idle)),
      survives_on old mid now _ c.rows.invariant.2 moved.survives,
      λ clean stands.
          let was = c.rows.invariant.3 (omega (arith, moved.survives.clean)) stands in
          let more = (rw (c.in_ok-row.was, c.in-Some.is) at (moved.ok clean)) sql params was.0 was.1 in
          (was.0 ++ c.in-Some.row.now ∷ [], more, unchanged_then old mid now was.2 (on_ok_of _ c.next.result _ c.in_ok-row.was (moved.same clean)), took_more g.T.RowTaker.takes was.0 c.in-Some.row.now c.args.taker.now c.rows.taker c.take.new.self was.3 c.in_ok-take.ensures),
    )
