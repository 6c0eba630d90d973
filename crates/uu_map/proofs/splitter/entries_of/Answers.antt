use Rattle.std.proofs.Common.{◌≡◌, ◌&&◌, ap, sym, ◌∙◌, true, false, rules, drop}
use Rattle.uu_map.specs.Split.{is_newline, begins_line, begins_entry}
use Rattle.uu_map.proofs.Splits.{found_goes_on, found_begins, line_next, line_same, begins_line_next}
use Rattle.uu_map.proofs.splitter.entries_of.Goals as goal
use Rattle.uu_map.proofs.splitter.entries_of.Goals.{then-begins_line+then-begins_entry+in_ok-end_entry, else-begins_line, else-begins_line-via-then-begins_line+else-begins_entry, else-begins_line-via-else-begins_line, then-begins_line-2, else-begins_line-2}

pub loop-at-preserved : goal.loop-at-preserved
loop-at-preserved c =
    let text = c.args.text.now in
    let at = c.loop-at.at in
    let old = c.loop-at.invariant in
    record {
      found = elim c.if-begins_line.branch [
        | then-begins_line+then-begins_entry+in_ok-end_entry w ↦
            let here : (begins_line text at && begins_entry (drop at text)) ≡ true =
            ap (λ b. b && begins_entry (drop at text)) (sym old.begins ∙ w.if-begins_line.true) ∙ (sym (w.begins_entry.ensures ∙ ap begins_entry c.split_at.ensures.back) ∙ w.if-begins_entry.true) in
            rw (w.entries-is, w.start-is, w.in_ok-end_entry.ensures) (found_begins text c.loop-at.entries.items c.loop-at.start at c.loop-at.line c.loop-at-test.true here old.line old.found)
        | else-begins_line w ↦
            let not_here : (begins_line text at && begins_entry (drop at text)) ≡ false =
            elim w.else-begins_line.branch [
              | else-begins_line-via-then-begins_line+else-begins_entry w' ↦ ap (λ b. b && begins_entry (drop at text)) (sym old.begins ∙ w'.if-begins_line.true) ∙ (sym (w'.begins_entry.ensures ∙ ap begins_entry c.split_at.ensures.back) ∙ w'.if-begins_entry.false)
              | else-begins_line-via-else-begins_line w' ↦ ap (λ b. b && begins_entry (drop at text)) (sym old.begins ∙ w'.if-begins_line.false)
            ] in
            rw (w.entries-is, w.start-is) (found_goes_on text c.loop-at.entries.items c.loop-at.start at c.loop-at-test.true not_here old.found)
      ];
      line = elim c.if-begins_line-2.branch [
        | then-begins_line-2 w ↦ w.line-is ∙ line_next text at c.loop-at.line c.loop-at-test.true (ap is_newline w.if-begins_line-2.true) old.line
        | else-begins_line-2 w ↦ w.line-is ∙ line_same text at c.loop-at.line c.loop-at-test.true (search rules) old.line
      ];
      begins = begins_line_next text at;
    }
