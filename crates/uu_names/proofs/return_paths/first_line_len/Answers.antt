-- The first line ends at the first line feed, or at the end.
use Rattle.uu_names.proofs.ReturnLines.{raw_lines-some, raw_lines-none}
use Rattle.uu_names.proofs.return_paths.first_line_len.Goals as goal

pub returns-in-Some-clause-line : goal.returns-in-Some-clause-line
returns-in-Some-clause-line c = raw_lines-some c.args.text.now c.in-Some.at c.in-Some.ensures

pub returns-in-None-clause-line : goal.returns-in-None-clause-line
returns-in-None-clause-line c = raw_lines-none c.args.text.now c.in-None.ensures c.requires
