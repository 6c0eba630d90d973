-- Each job is listed or passed as in the walk.
use Rattle.std.proofs.Common.{◌≡◌, ◌<◌, ◌&&◌, ◌+◌, ◌++◌, ◌∷◌, [], take, drop, map, length, get_or, List, None, true, not, cond, nat_cmp, Bor, IsPermutation, sym, ap, subst, ◌∙◌, arith, append-nil}
use Rattle.std.specs.BTreeMap.{get}
use Rattle.std.specs.Cmp.Lexicographic.{slice_cmp, texts_ties}
use Rattle.std.proofs.lemmas.List.{take_more, drop_all, length-map, get_or-map}
use Rattle.uu_names.proofs.Basics.{and_first}
use Rattle.uu_core.specs.declared.job.JobHead.{JobHead}
use Rattle.uu_core.specs.Due.{is_within, may_be_called, may_go, due_of, AreDue, AreInOrder}
use Rattle.uu_core.proofs.DueLemmas.{is_next, walk, walk_after, is_called_before, free_listed, free_passed, step_listed, step_passed, walk_is_due}
use Rattle.uu_core.proofs.due.choose.Goals as goal
use Rattle.uu_core.proofs.due.choose.Goals.{then-is_free+in_ok-list, else-is_free}

pub loop-job-preserved : goal.loop-job-preserved
loop-job-preserved c =
    let rows = c.args.rows.now in
    let at = c.args.at.now in
    let now = λ (job : Bor JobHead). job.now in
    let items = c.deref-job-items.result.now in
    let all = map now items in
    let i = c.loop-job.job-index in
    let job = c.job-item.result.now in
    let count : length all ≡ length items = length-map items now in
    let within : i < length all = omega arith in
    let job_is : get_or all i job ≡ job = get_or-map now items i c.job-item.result job (omega arith) ∙ ap now (sym c.job-item.is) in
    let next : is_next rows at (take i all) job ≡ c.is_free.result = sym (c.is_free.ensures ∙ c.loop-job.invariant.free job.system job.grade) in
    let next_there : is_next rows at (take i all) (get_or all i job) ≡ c.is_free.result = ap (is_next rows at (take i all)) job_is ∙ next in
    let seen : take i all ++ job ∷ [] ≡ take (i + 1) all = ap (λ j. take i all ++ j ∷ []) (sym job_is) ∙ sym (take_more all i job within) in
    elim c.if-is_free.branch [
      | then-is_free+in_ok-list w ↦
          let may : may_go rows at job ≡ true = and_first (may_go rows at job) _ (next ∙ w.if-is_free.true) in
          let due : w.list.new.dues.items ≡ c.loop-job.dues.items ++ due_of (get_or all i job) ∷ [] =
          w.in_ok-list.ensures ∙ ap (λ j. c.loop-job.dues.items ++ due_of j ∷ []) (sym job_is) in
          record {
            free = λ name grade.
                let tied = ap (λ t. cond t None (get (slice_cmp nat_cmp) c.loop-job.free name)) (sym (texts_ties job.system name)) in
                ap (λ m. is_within (get (slice_cmp nat_cmp) m name) grade) w.free-is
                ∙ free_listed rows at (take i all) job name grade (get (slice_cmp nat_cmp) c.loop-job.free name) _ (c.loop-job.invariant.free name grade) (w.remove.ensures.updates.0 name ∙ tied) may
                ∙ ap (λ s. may_be_called rows at name grade && not (is_called_before rows at s name)) seen;
            listed =
                ap (λ v. v.items ++ walk_after rows at (take (i + 1) all) (drop (i + 1) all)) w.dues-is
                ∙ ap (λ d. d ++ walk_after rows at (take (i + 1) all) (drop (i + 1) all)) due
                ∙ step_listed rows at all i job c.loop-job.dues.items (walk rows all at) within (next_there ∙ w.if-is_free.true) c.loop-job.invariant.listed;
          }
      | else-is_free w ↦ record {
        free = λ name grade.
            ap (λ m. is_within (get (slice_cmp nat_cmp) m name) grade) w.free-is
            ∙ c.loop-job.invariant.free name grade
            ∙ ap (λ b. may_be_called rows at name grade && not b) (sym (free_passed rows at (take i all) job name grade (next ∙ w.if-is_free.false)))
            ∙ ap (λ s. may_be_called rows at name grade && not (is_called_before rows at s name)) seen;
        listed =
            ap (λ v. v.items ++ walk_after rows at (take (i + 1) all) (drop (i + 1) all)) w.dues-is
            ∙ step_passed rows at all i job c.loop-job.dues.items (walk rows all at) within (next_there ∙ w.if-is_free.false) c.loop-job.invariant.listed;
      }
    ]

pub returns : goal.returns
returns c distinct =
    let rows = c.args.rows.now in
    let at = c.args.at.now in
    let now = λ (job : Bor JobHead). job.now in
    let items = c.deref-job-items.result.now in
    let all = map now items in
    let i = c.loop-job.job-index in
    let count : length all ≡ length items = length-map items now in
    let past : drop i all ≡ [] = drop_all i all (omega arith) in
    let walked : c.loop-job.dues.items ≡ walk rows all at =
    sym (append-nil c.loop-job.dues.items) ∙ ap (λ t. c.loop-job.dues.items ++ walk_after rows at (take i all) t) (sym past) ∙ c.loop-job.invariant.listed in
    let same = subst (λ (l : List (Bor JobHead)). IsPermutation c.args.jobs.now (map now l)) (sym c.deref-job-items.ensures.value) c.in_ok-ordered.ensures.same in
    let order = subst (λ (l : List (Bor JobHead)). AreInOrder (map now l)) (sym c.deref-job-items.ensures.value) (c.in_ok-ordered.ensures.order distinct) in
    subst (AreDue rows c.args.jobs.now at) (sym walked) (walk_is_due rows at c.args.jobs.now all same order)
