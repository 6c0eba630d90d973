use Rattle.std.proofs.Common.{◌≡◌, ◌∙◌, sym, subst, arith}
use Rattle.std.proofs.lemmas.Fmt.{parse-decimal}
use Rattle.std.specs.Fmt.{decimal}
use Rattle.std.specs.Str.{IsUtf8}
use Rattle.uu_seal.proofs.Reading.{decimal_is_utf8, numeral_is, space_at}
use Rattle.uu_seal.proofs.opening.size_in.Goals as goal

pub returns-in_default : goal.returns-in_default
returns-in_default c = λ size behind small is.
    let digits = c.len_before-digits.ensures.value ∙ space_at size c.args.line.now behind (omega arith) is in
    let numeral : c.split_at.result.0.now ≡ decimal size = numeral_is size c.args.line.now c.split_at.result.0.now behind c.len_before-digits.result digits is c.split_at.ensures.front in
    absurd (c.in_default.ensures.cases.0 (subst IsUtf8 (sym numeral) (decimal_is_utf8 size (omega arith))))

pub returns-in-Ok-parse : goal.returns-in-Ok-parse
returns-in-Ok-parse c = λ size behind small is.
    let digits = c.len_before-digits.ensures.value ∙ space_at size c.args.line.now behind (omega arith) is in
    let numeral : c.split_at.result.0.now ≡ decimal size = numeral_is size c.args.line.now c.split_at.result.0.now behind c.len_before-digits.result digits is c.split_at.ensures.front in
    let read = parse-decimal 32 size c.in-Ok.numeral.now c.parse.result small (omega arith) (c.in-Ok.ensures.cases.0 ∙ numeral) c.parse.ensures.value.0 in
    cc

pub returns-in-Err : goal.returns-in-Err
returns-in-Err c = λ size behind small is.
    let digits = c.len_before-digits.ensures.value ∙ space_at size c.args.line.now behind (omega arith) is in
    let numeral : c.split_at.result.0.now ≡ decimal size = numeral_is size c.args.line.now c.split_at.result.0.now behind c.len_before-digits.result digits is c.split_at.ensures.front in
    let read = parse-decimal 32 size c.in-Ok.numeral.now c.parse.result small (omega arith) (c.in-Ok.ensures.cases.0 ∙ numeral) c.parse.ensures.value.0 in
    cc
