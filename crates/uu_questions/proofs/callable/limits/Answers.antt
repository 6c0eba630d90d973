-- One more system.
use Rattle.std.proofs.Common.{◌≡◌, ◌||◌, ◌&&◌, ◌+◌, take, nat_cmp, sym, ap, ◌∙◌, arith}
use Rattle.std.specs.BTreeMap.{get}
use Rattle.std.specs.Cmp.Lexicographic.{slice_cmp}
use Rattle.uu_core.specs.declared.system.SystemRow.{SystemRow}
use Rattle.uu_core.specs.State.{is_system, same_text}
use Rattle.uu_core.specs.Due.{limit_now, is_within, may_be_called}
use Rattle.uu_core.proofs.DueLemmas.{limits_more, not_more}
use Rattle.uu_questions.proofs.callable.limits.Goals as goal
use Rattle.uu_questions.proofs.callable.limits.Goals.{in-Some+in_ok-lower, in_default}

pub loop-row-preserved : goal.loop-row-preserved
loop-row-preserved c name grade =
    let row = c.row-item.result in
    let old = may_be_called (take c.loop-row.row-index c.args.rows.now) c.args.at.now name grade in
    let e = limits_more c.args.rows.now c.loop-row.row-index row c.args.at.now name grade (omega arith) in
    let here : may_be_called (take (c.loop-row.row-index + 1) c.args.rows.now) c.args.at.now name grade ≡ (old || (is_system name row && is_within (limit_now row c.args.at.now) grade)) =
    e ∙ ap (λ (r : SystemRow). old || (is_system name r && is_within (limit_now r c.args.at.now) grade)) (sym c.row-item.is) in
    elim c.match-limit_now.branch [
      | in-Some+in_ok-lower w ↦
          let same = ap (λ (r : SystemRow). same_text r.def.name name) c.row.view_is in
          let within = ap (λ o. is_within o grade) w.in-Some.ensures in
          ap (λ m. is_within (get (slice_cmp nat_cmp) m name) grade) w.limits-is ∙ w.in_ok-lower.ensures name grade
          ∙ (λ k. c.loop-row.invariant name grade k || (same k && within k)) ∙ sym here
      | in_default w ↦
          ap (λ m. is_within (get (slice_cmp nat_cmp) m name) grade) w.limits-is ∙ c.loop-row.invariant name grade
          ∙ sym (here ∙ not_more old (is_system name row) (limit_now row c.args.at.now) grade (sym c.limit_now.ensures ∙ w.in_default.is))
    ]
