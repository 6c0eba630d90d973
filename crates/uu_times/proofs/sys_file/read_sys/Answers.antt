use Rattle.std.proofs.Common.{subst}
use Rattle.uu_times.specs.Fault.{AnswersUnlessMemory}
use Rattle.uu_times.proofs.FileLemmas.{file_agrees}
use Rattle.uu_times.proofs.sys_file.read_sys.Goals as goal

pub returns : goal.returns
returns c = subst (AnswersUnlessMemory c.read_file.result) (file_agrees c.args.text.now) c.read_file.ensures
