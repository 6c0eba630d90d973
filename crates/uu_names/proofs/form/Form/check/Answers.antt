-- The first byte that doesn't pass decides, or, if there is none, the length does.
use Rattle.std.proofs.Common.{◌<◌, ◌≤◌, length, arith}
use Rattle.std.proofs.lemmas.Bool.Decides.{nat_tests}
use Rattle.uu_names.specs.Internal.Form.{allows, limit_of, bad_at}
use Rattle.uu_names.proofs.NameLemmas.{checked_text-at, checked_text_long, checked_text-ok}
use Rattle.uu_names.proofs.form.Form.check.Goals as goal

pub returns-in-Some : goal.returns-in-Some
returns-in-Some c =
    rw c.bad_at.ensures (checked_text-at (allows c.args.self) (limit_of c.args.self) (bad_at c.args.self) c.args.bytes.now c.in-Some.at c.in-Some.ensures)

pub returns-in-None-2 : goal.returns-in-None-2
returns-in-None-2 c =
    let long : limit_of c.args.self < length c.args.bytes.now = omega (arith, c.if-bytes-limit.true, c.limit.ensures) in
    checked_text_long (allows c.args.self) (limit_of c.args.self) (bad_at c.args.self) c.args.bytes.now c.in-None.ensures (grind (arith, nat_tests, c.if-is_empty.ensures)) long

pub returns-in-None-3 : goal.returns-in-None-3
returns-in-None-3 c =
    let short : length c.args.bytes.now ≤ limit_of c.args.self = omega (arith, c.if-bytes-limit.false, c.limit.ensures) in
    checked_text-ok (allows c.args.self) (limit_of c.args.self) (bad_at c.args.self) c.args.bytes.now c.in-None.ensures (grind (arith, nat_tests, c.if-is_empty.ensures)) short
