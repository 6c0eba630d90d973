use Rattle.uu_times.specs.Tables.{time_of}
use Rattle.uu_times.proofs.StringLemmas.{time_means, read_string, refused_string}
use Rattle.uu_times.proofs.laws.time_strings_are_read.Goals as goal

pub returns : goal.returns
returns c = record {
  read = λ tables line text. read_string tables text (time_of tables line text) (time_means tables line text);
  refused = λ tables line text. refused_string tables text (time_of tables line text) (time_means tables line text);
}
