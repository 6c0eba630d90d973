-- Each piece is what its definition says of the date's parts.
use Rattle.std.proofs.Common.{◌≡◌, ◌/◌, ◌%◌, ap, ◌∙◌, FitsSigned, w16, arith}
use Rattle.std.proofs.lemmas.Int.{to_z-of_z, ints}
use Rattle.std.specs.Prelude.{unsigned_abs}
use Rattle.jiff_core.specs.Date.{weekday_of}
use Rattle.uu_names.specs.Envelope.{day_name, two_digits}
use Rattle.uu_names.proofs.envelopes.append_date.Goals as goal

pub returns : goal.returns
returns c =
    let local = c.args.local.now in
    let fits : FitsSigned w16 local.date.year = omega (arith, ints) in
    let year : c.unsigned_abs-year.result ≡ unsigned_abs local.date.year = c.unsigned_abs-year.ensures.value ∙ ap unsigned_abs (to_z-of_z w16 _ fits) in
    let day : c.day_name.result ≡ day_name (weekday_of local.date) = c.day_name.ensures ∙ ap day_name c.weekday.ensures in
    let century : c.two_digits-4.result ≡ two_digits (unsigned_abs local.date.year / 100) = c.two_digits-4.ensures ∙ ap (λ n. two_digits (n / 100)) year in
    let rest : c.two_digits-5.result ≡ two_digits (unsigned_abs local.date.year % 100) = c.two_digits-5.ensures ∙ ap (λ n. two_digits (n % 100)) year in
    rw (day, c.month_name.ensures, c.two_places.ensures, c.two_digits.ensures, c.two_digits-2.ensures, c.two_digits-3.ensures, century, rest) at c.append.ensures
