use Rattle.std.proofs.Common.{◌+◌, ◌∷◌, ℕ, List, ap, sym, ◌∙◌, arith}
use Rattle.std.specs.Str.Lines.{lines}
use Rattle.uu_times.specs.Lines.{Numbered, joined}
use Rattle.uu_times.specs.Internal.Reading.{lines_read}
use Rattle.uu_times.proofs.ReadingLemmas.{reads_on, takes_fault, passed-on, reads-end, empty_if}
use Rattle.uu_times.proofs.sys_file.Reader.read_lines.Goals as goal

pub returns-in_err-read_line : goal.returns-in_err-read_line
returns-in_err-read_line c =
    let number = c.loop-rest.number in
    let all = joined number (lines c.loop-rest.rest.now) in
    let more = joined (number + c.in_ok-first.first.count) (lines c.in_ok-first.first.rest.now) in
    passed-on c.from_residual-in_err-read_line.result _ (lines_read c.args.self.now (joined 1 (lines c.args.text.now))) _ c.from_residual-in_err-read_line.ensures.1
    (takes_fault _ c.loop-rest.self c.read_line.new.self _ number c.deref.result.now all more (lines_read c.args.self.now (joined 1 (lines c.args.text.now)))
    (c.in_ok-first.ensures.line number ∙ ap (λ (line : List ℕ). let first : Numbered = record { number = number; line = line } in first ∷ more) (sym c.deref.ensures.value))
    c.in_err-read_line.ensures c.loop-rest.invariant.0)

pub loop-rest-preserved : goal.loop-rest-preserved
loop-rest-preserved c =
    let number = c.loop-rest.number in
    let all = joined number (lines c.loop-rest.rest.now) in
    let more = joined (number + c.in_ok-first.first.count) (lines c.in_ok-first.first.rest.now) in (
      reads_on c.loop-rest.self c.read_line.new.self number c.deref.result.now all more (lines_read c.args.self.now (joined 1 (lines c.args.text.now)))
          (c.in_ok-first.ensures.line number ∙ ap (λ (line : List ℕ). let first : Numbered = record { number = number; line = line } in first ∷ more) (sym c.deref.ensures.value))
          c.in_ok-read_line.ensures c.loop-rest.invariant.0,
      omega (arith, c.in_ok-first.ensures.shorter),
      omega arith,
    )

pub returns : goal.returns
returns c =
    sym (reads-end c.loop-rest.self c.loop-rest.number c.loop-rest.rest.now (lines_read c.args.self.now (joined 1 (lines c.args.text.now)))
    (empty_if c.loop-rest.rest.now (sym c.is_empty.ensures ∙ c.loop-rest-test.false)) c.loop-rest.invariant.0)
