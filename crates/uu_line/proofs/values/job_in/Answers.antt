use Rattle.std.proofs.Common.{codes}
use Rattle.clap.specs.Words.{found_of, rows_of}
use Rattle.uu_line.specs.Internal.Entries.{most_job}
use Rattle.uu_line.proofs.LineLemmas.{first_number}
use Rattle.uu_line.proofs.values.job_in.Goals as goal

pub number_of-requires : goal.number_of-requires
number_of-requires c = first_number (codes "job") (rows_of (found_of c.args.given.now)) most_job c.text_in.result.now c.text_in.ensures c.requires.number

pub returns : goal.returns
returns c = (c.text_in.result.now, c.text_in.ensures, c.number_of.ensures)
