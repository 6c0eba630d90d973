use Rattle.std.proofs.Common.{◌≡◌, ap, sym, ◌∙◌, true}
use Rattle.std.proofs.lemmas.Bool.Decides.{Decides-eqb}
use Rattle.std.proofs.lemmas.Fmt.{parse-decimal}
use Rattle.std.proofs.lemmas.Slice.Eq.{slice_eq-Decides}
use Rattle.std.specs.Fmt.{decimal}
use Rattle.uu_bundle.proofs.words.number_in.Goals as goal

pub returns-in_default : goal.returns-in_default
returns-in_default c = λ n fits same.
    let read = parse-decimal 64 n c.args.numeral.now c.parse.result fits fits same c.parse.ensures.value.0 in cc

pub returns : goal.returns
returns c = λ n fits same.
    let read = parse-decimal 64 n c.args.numeral.now c.parse.result fits fits same c.parse.ensures.value.0 in
    let count_is : c.in-Ok.number ≡ n = cc in
    let written : c.as_str.result.now ≡ decimal c.in-Ok.number = c.as_str.ensures.value ∙ c.in_ok-written.ensures.ok in
    let equal : c.eq.result ≡ true = (slice_eq-Decides Decides-eqb c.as_str.result.now c.args.numeral.now c.eq.result c.eq.ensures).1 (written ∙ ap decimal count_is ∙ sym same) in cc
