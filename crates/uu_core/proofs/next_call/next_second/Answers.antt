-- The first second, else the first minute as whose second 0 the system may be called.
use Rattle.std.proofs.Common.{◌≡◌, ◌∙◌, List, ◌+◌, ◌/◌, ◌&&◌, ◌==◌, not, leb, length, cond, min, max, ap, sym, arith, false}
use Rattle.std.specs.Int.{div_ceil}
use Rattle.std.specs.List.{list_any}
use Rattle.std.proofs.lemmas.Result.{IfOk-weaker}
use Rattle.uu_times.specs.Moment.{last_second}
use Rattle.uu_times.specs.declared.system.Line.{Line}
use Rattle.uu_core.specs.Due.{is_within}
use Rattle.uu_core.specs.NextCalls.{free_from, limit_by, limit_in}
use Rattle.uu_core.specs.Waiting.{is_held}
use Rattle.uu_core.specs.declared.system.SystemRow.{SystemRow}
use Rattle.uu_core.proofs.NextCallLemmas.{capped, first_second, never_open}
use Rattle.uu_core.proofs.next_call.next_second.Goals as goal

pub returns-clause-second : goal.returns-clause-second
returns-clause-second c =
    let zone = c.args.weeks.now.zone.now in
    let row = c.args.row.now in
    let now = c.args.at.now.second in
    let end : c.free_from.result ≡ min (free_from row.call now) 18446744073709551615 =
    c.free_from.ensures ∙ ap (λ (r : SystemRow). min (free_from r.call now) 18446744073709551615) c.row.view_is in
    let free : c.min-free.result ≡ min (free_from row.call now) last_second =
    c.min-free.ensures ∙ capped c.free_from.result (free_from row.call now) 18446744073709551615 end (omega arith) in
    let from : c.first_minute-from.result ≡ cond (is_held row.call now) (max (now / 60 + 1) (div_ceil c.min-free.result 60)) (now / 60 + 1) =
    c.first_minute-from.ensures ∙ ap (λ (r : SystemRow). cond (is_held r.call now) (max (now / 60 + 1) (div_ceil c.min-free.result 60)) (now / 60 + 1)) c.row.view_is in
    let not_now : is_within (limit_in zone row now) c.args.grade ≡ false =
    ap (λ week. is_within (limit_by row now week) c.args.grade) (sym c.requires.week) ∙ sym c.may_be_called.ensures ∙ c.if-may_be_called.false in
    IfOk-weaker c.first_open.result _ _ (first_second zone row c.args.grade now c.min-free.result c.min-last.result c.first_minute-from.result not_now free c.min-last.ensures from)
    c.first_open.ensures.open

pub returns-then-not-is_ever_open_for-clause-second : goal.returns-then-not-is_ever_open_for-clause-second
returns-then-not-is_ever_open_for-clause-second c =
    let has = λ (lines : List Line). list_any (λ (line : Line). leb c.args.grade line.grade && not (length line.windows == 0)) lines in
    never_open c.args.weeks.now.zone.now c.args.row.now c.args.grade c.args.at.now.second
    (sym (ap (λ (r : SystemRow). has r.def.lines) c.row.view_is) ∙ sym (ap has c.as_slice.ensures) ∙ sym c.is_ever_open_for.ensures ∙ c.if-not-is_ever_open_for.true)
