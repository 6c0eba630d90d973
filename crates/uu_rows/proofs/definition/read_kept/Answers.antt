use Rattle.std.proofs.Common.{◌∙◌, ap, arith, length}
use Rattle.uu_times.specs.SysFile.{sys_file_of}
use Rattle.uu_rows.proofs.Definitions.{kept_read, kept_short}
use Rattle.uu_rows.proofs.definition.read_kept.Goals as goal

pub returns-then-bytes-gt-MAX_TEXT-clause-bad : goal.returns-then-bytes-gt-MAX_TEXT-clause-bad
returns-then-bytes-gt-MAX_TEXT-clause-bad c def good refused text = omega (arith, ap length text, kept_short def good)

pub returns-clause-kept : goal.returns-clause-kept
returns-clause-kept c def good text = c.read_one.ensures.kept def (ap sys_file_of text ∙ kept_read def good)

pub returns-clause-bad : goal.returns-clause-bad
returns-clause-bad c def good refused text = c.read_one.ensures.bad def refused (ap sys_file_of text ∙ kept_read def good)
