use Rattle.std.proofs.Common.{◌≡◌, ◌<◌, ◌≤◌, ◌+◌, ◌++◌, OnOk, List, ℕ, ap, arith, drop, length, subst, take, ◌∙◌}
use Rattle.uu_times.specs.Printed.{time_text}
use Rattle.uu_times.proofs.PrintedText.{never_text, some-text, extended}
use Rattle.uu_times.proofs.printed.push_windows.Goals as goal

pub returns-then-start-len : goal.returns-then-start-len
returns-then-start-len c =
    let old = c.args.text.now.items in
    let list = c.push_week.new.text.items in
    let start : c.len-start.result ≡ length old = omega arith in
    let longer : length old < length list = omega arith in
    some-text old list c.remove.new.self.items c.args.ranges.now c.in_ok-push_week.ensures longer
    (c.remove.ensures.by_index.2 ∙ ap (λ (n : ℕ). take n list ++ drop (n + 1) list) start)

pub returns-else-start-len : goal.returns-else-start-len
returns-else-start-len c =
    let list = c.push_week.new.text.items in
    let short : length list ≤ length c.args.text.now.items = omega arith in
    let never = never_text c.args.text.now.items list c.args.ranges.now c.in_ok-push_week.ensures short in
    subst (λ (old : List ℕ). OnOk c.extend_from_slice.result (c.extend_from_slice.new.self.items ≡ old ++ time_text c.args.ranges.now)) never.0
    (extended c.extend_from_slice.result list c.extend_from_slice.new.self.items _ _ c.extend_from_slice.ensures.items never.1)
