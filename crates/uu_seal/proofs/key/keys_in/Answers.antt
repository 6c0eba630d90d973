use Rattle.std.proofs.Common.{◌≡◌, ◌≤◌, length, ap, [], arith}
use Rattle.std.proofs.lemmas.Grind.{common_steps}
use Rattle.std.proofs.lemmas.List.{nil_from_length}
use Rattle.uu_seal.proofs.KeyFiles.{all_read, bad_rest, begun, no_key, no_line, one_more}
use Rattle.uu_seal.proofs.key.keys_in.Goals as goal

pub loop-rest-init : goal.loop-rest-init
loop-rest-init c =
    begun c.args.text.now c.new-keys.result.items c.new-keys.ensures.items
    (λ none. let some : 1 ≤ length c.args.text.now = grind (arith, common_steps, c.is_empty.ensures, c.if-is_empty.false) in omega (arith, ap length none))

pub returns-in_default : goal.returns-in_default
returns-in_default c =
    let some : 1 ≤ length c.loop-rest.rest.now = grind (arith, common_steps, c.is_empty-in-loop-rest.ensures, c.loop-rest-test.true) in
    bad_rest c.args.text.now c.loop-rest.rest.now c.loop-rest.keys.items c.loop-rest.invariant (no_line c.loop-rest.rest.now some c.in_default.ensures)

pub returns-in_default-key_of : goal.returns-in_default-key_of
returns-in_default-key_of c =
    let some : 1 ≤ length c.loop-rest.rest.now = grind (arith, common_steps, c.is_empty-in-loop-rest.ensures, c.loop-rest-test.true) in
    bad_rest c.args.text.now c.loop-rest.rest.now c.loop-rest.keys.items c.loop-rest.invariant
    (no_key c.loop-rest.rest.now c.in-Some.line.now c.in-Some.behind.now some c.in-Some.ensures.0 c.in-Some.ensures.1 c.in_default-key_of.ensures)

pub loop-rest-preserved : goal.loop-rest-preserved
loop-rest-preserved c =
    one_more c.args.text.now c.loop-rest.rest.now c.in-Some.line.now c.in-Some.behind.now c.loop-rest.keys.items c.push.new.self.items c.in-Some-key_of.key c.loop-rest.invariant c.in-Some.ensures.0 c.in-Some.ensures.1
    c.in-Some-key_of.ensures c.in_ok-push.ensures.items

pub returns : goal.returns
returns c =
    let none : c.loop-rest.rest.now ≡ [] = nil_from_length c.loop-rest.rest.now (grind (arith, common_steps, c.is_empty-in-loop-rest.ensures, c.loop-rest-test.false)) in
    all_read c.args.text.now c.loop-rest.rest.now c.loop-rest.keys.items c.from_vec.result c.loop-rest.invariant none c.from_vec.ensures
