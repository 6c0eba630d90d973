use Rattle.std.proofs.Common.{◌<◌}
use Rattle.std.proofs.lemmas.Str.{encode_ascii}
use Rattle.uu_report.proofs.Letters.{letter_below}
use Rattle.uu_report.proofs.jobs.letter.Goals as goal

pub returns : goal.returns
returns c =
    let ascii : c.as_byte.result < 128 = letter_below c.args.grade c.as_byte.result c.as_byte.ensures.letter in
    rw (c.from.ensures, c.as_byte.ensures.letter) (encode_ascii c.as_byte.result ascii)
