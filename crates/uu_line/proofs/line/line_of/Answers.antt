use Rattle.std.proofs.Common.{map}
use Rattle.std.specs.String.{string_bytes}
use Rattle.uu_line.proofs.LineLemmas.{answers_words, found_taken, refuses_words}
use Rattle.uu_line.proofs.line.line_of.Goals as goal

pub line_in-requires : goal.line_in-requires
line_in-requires c = found_taken (map string_bytes c.args.words.now) c.in-Ok.matches c.in-Ok.ensures.entries

pub returns-in-Ok : goal.returns-in-Ok
returns-in-Ok c = answers_words (map string_bytes c.args.words.now) c.in-Ok.matches c.line_in.result c.in-Ok.ensures.entries c.line_in.ensures

pub returns-in-Err : goal.returns-in-Err
returns-in-Err c = refuses_words (map string_bytes c.args.words.now) c.in-Err.fault c.in-Err.ensures.refused
