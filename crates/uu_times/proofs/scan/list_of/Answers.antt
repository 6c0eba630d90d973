use Rattle.std.proofs.Common.{◌+◌, ◌++◌, drop, ap, option_to_list, ◌∙◌, sym, Ok, arith}
use Rattle.uu_times.specs.Internal.Scan.{list_of}
use Rattle.uu_times.specs.Grammar.{lower}
use Rattle.uu_times.proofs.ScanSteps.{stops_at, goes_on, ends_without, ends_with, resumes, kept, pushed}
use Rattle.uu_times.proofs.scan.list_of.Goals as goal
use Rattle.uu_times.proofs.scan.list_of.Goals.{in_default-simple, in-Some-simple+in_ok-push}

pub returns-in_default : goal.returns-in_default
returns-in_default c =
    stops_at c.loop-at.simples.items c.loop-at.place c.args.text.now c.loop-at.at c.to_ascii_lowercase-letter.result (list_of c.args.text.now)
    (omega arith) c.loop-at.invariant c.to_ascii_lowercase-letter.ensures.value (sym c.in_default.is ∙ c.step.ensures)

pub loop-at-preserved : goal.loop-at-preserved
loop-at-preserved c =
    let rest = goes_on c.loop-at.simples.items c.loop-at.place c.in-Some.found c.args.text.now c.loop-at.at c.to_ascii_lowercase-letter.result (list_of c.args.text.now)
    (omega arith) c.loop-at.invariant c.to_ascii_lowercase-letter.ensures.value c.in-Some.ensures in
    let items = c.loop-at.simples.items in
    let front = items ++ option_to_list c.in-Some.found.simple in
    let left = lower (drop (c.loop-at.at + 1) c.args.text.now) in
    elim c.match-found.branch [
      | in_default-simple w ↦
          resumes front c.match-found.simples.items c.match-found.place c.in-Some.found.next (c.loop-at.at + 1) left (list_of c.args.text.now)
          (ap (λ v. v.items) w.simples-is ∙ kept items c.in-Some.found.simple w.in_default-simple.is) w.place-is rest
      | in-Some-simple+in_ok-push w ↦
          resumes front c.match-found.simples.items c.match-found.place c.in-Some.found.next (c.loop-at.at + 1) left (list_of c.args.text.now)
          (ap (λ v. v.items) w.simples-is ∙ w.in_ok-push.ensures.items ∙ pushed items c.in-Some.found.simple w.in-Some-simple.simple w.in-Some-simple.is) w.place-is rest
    ]

pub returns-in-None : goal.returns-in-None
returns-in-None c =
    ends_without c.loop-at.simples.items c.loop-at.place c.args.text.now c.loop-at.at (list_of c.args.text.now) c.loop-at-test.false (omega arith)
    c.loop-at.invariant c.in-None.ensures

pub returns-in_ok-push-in-Some-simple_at : goal.returns-in_ok-push-in-Some-simple_at
returns-in_ok-push-in-Some-simple_at c =
    ends_with c.loop-at.simples.items c.loop-at.place c.args.text.now c.loop-at.at c.in-Some-simple_at.simple (list_of c.args.text.now) c.loop-at-test.false
    c.loop-at.invariant c.in-Some-simple_at.ensures ∙ ap Ok (sym c.in_ok-push-in-Some-simple_at.ensures.items)
