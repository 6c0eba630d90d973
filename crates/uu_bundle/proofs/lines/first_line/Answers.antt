use Rattle.uu_bundle.proofs.Cuts.{a_line, no_line}
use Rattle.uu_bundle.proofs.lines.first_line.Goals as goal

pub returns-in-empty : goal.returns-in-empty
returns-in-empty c =
    no_line c.args.text.now c.split_at.result.1.now c.len_before.result c.len_before.ensures.value c.split_at.ensures.back_len c.in-empty.len_below

pub returns-in-len1-up : goal.returns-in-len1-up
returns-in-len1-up c =
    a_line c.args.text.now c.split_at.result.0.now c.split_at.result.1.now c.len_before.result c.len_before.ensures.value
    c.split_at.ensures.front c.split_at.ensures.back c.split_at.ensures.back_len c.in-len1-up.len_at_least
