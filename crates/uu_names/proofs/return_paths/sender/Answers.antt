-- What is read is a leading line, and a leading line is read as what it says.
use Rattle.std.proofs.Common.{◌≡◌, ◌+◌, ◌-◌, ◌<◌, ◌==◌, true, false, length, nat_eq, sym, ap, ◌∙◌, position, arith}
use Rattle.std.specs.List.{suffix_len, ends_with}
use Rattle.std.proofs.lemmas.Bool.Decides.{nat_tests}
use Rattle.std.proofs.lemmas.List.Sums.{suffix_len-le-length}
use Rattle.std.proofs.lemmas.Bool.{both_ways}
use Rattle.std.proofs.lemmas.Option.{none-some}
use Rattle.uu_names.specs.Name.{is_site_name}
use Rattle.uu_names.specs.ReturnPath.{is_no_space}
use Rattle.uu_names.proofs.PathScan.{form_some}
use Rattle.uu_names.proofs.ReturnSenders.{leading_from, is_read, ReadsAs, reads_as, remote}
use Rattle.uu_names.proofs.return_paths.sender.Goals as goal
use Rattle.uu_names.proofs.return_paths.sender.Goals.{then-is_empty-via-then-is_empty, then-is_empty-via-else-is_empty+then-not-ends_with, then-is_empty-via-else-is_empty+else-not-ends_with+then-not-is_site_name}

pub overflow_sub-back : goal.overflow_sub-back
overflow_sub-back c = omega (arith, c.last_word_len.ensures, suffix_len-le-length is_no_space c.split_at.result.1.now)

pub returns-in_err-rest : goal.returns-in_err-rest
returns-in_err-rest c =
    rw c.from_residual.ensures
    (λ sender leading. both_ways _ c.in_err-rest.ensures.cases (is_read c.args.marker.now c.args.line.now sender leading).starts)

pub returns-in_err-user_len : goal.returns-in_err-user_len
returns-in_err-user_len c =
    rw c.from_residual-in_err-user_len.ensures
    (λ sender leading.
    let r = is_read c.args.marker.now c.args.line.now sender leading in
    let rest = c.in_ok-rest.ensures.cases.1 ∙ r.rest in
    none-some _ (c.in_err-user_len.ensures ∙ ap (position (λ b. b == 32)) rest ∙ r.space))

pub returns-then-is_empty : goal.returns-then-is_empty
returns-then-is_empty c sender leading =
    let r = is_read c.args.marker.now c.args.line.now sender leading in
    let k = length c.split_at.result.1.now - c.last_word_len.result in
    let len : k + suffix_len is_no_space c.split_at.result.1.now ≡ length c.split_at.result.1.now = omega (arith, c.last_word_len.ensures, suffix_len-le-length is_no_space c.split_at.result.1.now) in
    let same : ReadsAs c.split_at.result.0.now c.split_at-2.result.0.now c.split_at-2.result.1.now sender r.front =
    reads_as c.args.marker.now c.args.line.now c.in_ok-rest.rest.now _ _ _ _ c.in_ok-user_len.user_len k sender r c.in_ok-rest.ensures.cases.1 c.in_ok-user_len.ensures c.split_at.ensures.front c.split_at.ensures.back len c.split_at-2.ensures.front c.split_at-2.ensures.back in
    elim c.then-is_empty.branch [
      | then-is_empty-via-then-is_empty w ↦
          let none : length c.split_at.result.0.now ≡ 0 = grind (arith, nat_tests, c.is_empty.ensures, w.if-is_empty.true) in
          omega (arith, none, ap length same.same_user, form_some is_no_space sender.user leading.user)
      | then-is_empty-via-else-is_empty+then-not-ends_with w ↦
          both_ways _ (sym w.ends_with.ensures.value ∙ w.if-not-ends_with.true) (ap (λ t. ends_with nat_eq t remote) same.same_front ∙ r.ends)
      | then-is_empty-via-else-is_empty+else-not-ends_with+then-not-is_site_name w ↦
          both_ways _ (sym w.is_site_name.ensures ∙ w.if-not-is_site_name.true) (ap is_site_name same.same_site ∙ leading.site)
    ]

pub returns : goal.returns
returns c =
    let some : 0 < length c.split_at.result.0.now = grind (arith, nat_tests, c.is_empty.ensures, c.if-is_empty.false) in
    leading_from c.args.marker.now c.args.line.now c.in_ok-rest.rest.now _ _ _ _ c.in_ok-user_len.user_len (length c.split_at.result.1.now - c.last_word_len.result)
    c.in_ok-rest.ensures.cases.0 c.in_ok-rest.ensures.cases.1 c.in_ok-user_len.ensures c.split_at.ensures.front c.split_at.ensures.back c.split_at-2.ensures.front c.split_at-2.ensures.back
    some (sym c.ends_with.ensures.value ∙ c.if-not-ends_with.false) (sym c.is_site_name.ensures ∙ c.if-not-is_site_name.false)
