use Rattle.std.proofs.Common.{◌≡◌, suc, ◌+◌, ◌<◌, ◌≤◌, Err, Ok, arith, cond, drop, get_or, length, subst, sym}
use Rattle.uu_bundle.specs.Bundles.{most_bundle, text_with_jobs}
use Rattle.uuspool.specs.Bundles.{most_of, parcels_for}
use Rattle.uuspool.specs.Internal.Asked.{AreThere}
use Rattle.uuspool.proofs.AskedLemmas.{asked_as, asked_goes_on}
use Rattle.uuspool.proofs.BundleLemmas.{Adding, Adds, all_added, as_many, asked_for_one, number_at, one_added}
use Rattle.uuspool.proofs.Places.{at_place}
use Rattle.uuspool.proofs.bundles.add_jobs.Goals as goal

pub loop-number-preserved : goal.loop-number-preserved
loop-number-preserved g c = λ jobs are.
    let i = c.loop-number.number-index in
    let from = c.args.own.now in
    let it = c.args.packing.now in
    let start = c.args.text.now.items in
    let room = c.loop-number.room in
    let text = c.loop-number.text.items in
    let more = c.add_one.new.text.items in
    let number = get_or c.args.numbers.now i 0 in
    let within : i < length jobs = omega (arith, c.loop-number-test.true, as_many c.args.numbers.now jobs are) in
    let job = (at_place jobs i within).0 in
    let on : i + 1 ≡ suc i = omega arith in
    asked_as (AreThere jobs) (λ s added. Adds from it start jobs i room text s × Adding from it start jobs room text more job s added) c.args.spool.now c.add_one.new.spool
    (λ s done. Adds from it start jobs (i + 1) c.limit_of-room.result more s) c.in_ok-add_one.field-0 tt
    (λ s shown known was.
    subst (λ n. Adds from it start jobs n c.limit_of-room.result more s) (sym on)
    (subst (λ r. Adds from it start jobs (suc i) r more s) (sym c.limit_of-room.ensures)
    (subst (λ b. cond b (text_with_jobs (most_of it) (most_of it) more (parcels_for from it (drop (suc i) jobs))) more ≡ text_with_jobs most_bundle (most_of it) start (parcels_for from it jobs)) c.if-not-branch.false
    (one_added from it start jobs i room text more within s c.in_ok-add_one.field-0 was.0 was.1))))
    (asked_for_one from it start jobs i room text more number c.args.spool.now c.loop-number.spool c.add_one.new.spool (Ok c.in_ok-add_one.field-0) within
    (number_at c.args.numbers.now jobs i within are) (c.loop-number.invariant jobs are) (c.in_ok-add_one.ensures job))

pub returns-then-not-branch : goal.returns-then-not-branch
returns-then-not-branch g c = λ jobs are.
    let i = c.loop-number.number-index in
    let from = c.args.own.now in
    let it = c.args.packing.now in
    let start = c.args.text.now.items in
    let room = c.loop-number.room in
    let text = c.loop-number.text.items in
    let more = c.add_one.new.text.items in
    let number = get_or c.args.numbers.now i 0 in
    let within : i < length jobs = omega (arith, c.loop-number-test.true, as_many c.args.numbers.now jobs are) in
    let job = (at_place jobs i within).0 in
    asked_as (AreThere jobs) (λ s added. Adds from it start jobs i room text s × Adding from it start jobs room text more job s added) c.args.spool.now c.add_one.new.spool
    (λ s done. more ≡ text_with_jobs most_bundle (most_of it) start (parcels_for from it jobs)) c.in_ok-add_one.field-0 tt
    (λ s shown known was.
    subst (λ b. cond b (text_with_jobs (most_of it) (most_of it) more (parcels_for from it (drop (suc i) jobs))) more ≡ text_with_jobs most_bundle (most_of it) start (parcels_for from it jobs)) c.if-not-branch.true
    (one_added from it start jobs i room text more within s c.in_ok-add_one.field-0 was.0 was.1))
    (asked_for_one from it start jobs i room text more number c.args.spool.now c.loop-number.spool c.add_one.new.spool (Ok c.in_ok-add_one.field-0) within
    (number_at c.args.numbers.now jobs i within are) (c.loop-number.invariant jobs are) (c.in_ok-add_one.ensures job))

pub returns-in_err-add_one : goal.returns-in_err-add_one
returns-in_err-add_one g c = λ jobs are.
    let i = c.loop-number.number-index in
    let from = c.args.own.now in
    let it = c.args.packing.now in
    let start = c.args.text.now.items in
    let room = c.loop-number.room in
    let text = c.loop-number.text.items in
    let more = c.add_one.new.text.items in
    let number = get_or c.args.numbers.now i 0 in
    let within : i < length jobs = omega (arith, c.loop-number-test.true, as_many c.args.numbers.now jobs are) in
    let job = (at_place jobs i within).0 in
    asked_goes_on (AreThere jobs) (λ s added. Adds from it start jobs i room text s × Adding from it start jobs room text more job s added) (λ s done. more ≡ text_with_jobs most_bundle (most_of it) start (parcels_for from it jobs)) c.args.spool.now c.add_one.new.spool
    c.from_residual.result c.in_err-add_one.field-0.0 c.from_residual.ensures.1
    (asked_for_one from it start jobs i room text more number c.args.spool.now c.loop-number.spool c.add_one.new.spool (Err c.in_err-add_one.field-0.0) within
    (number_at c.args.numbers.now jobs i within are) (c.loop-number.invariant jobs are) (c.in_err-add_one.ensures job))

pub returns : goal.returns
returns g c = λ jobs are.
    let i = c.loop-number.number-index in
    let from = c.args.own.now in
    let it = c.args.packing.now in
    let start = c.args.text.now.items in
    let room = c.loop-number.room in
    let text = c.loop-number.text.items in
    let past : length jobs ≤ i = omega (arith, c.loop-number-test.false, as_many c.args.numbers.now jobs are) in
    asked_as (AreThere jobs) (λ s done. Adds from it start jobs i room text s) c.args.spool.now c.loop-number.spool
    (λ s done. text ≡ text_with_jobs most_bundle (most_of it) start (parcels_for from it jobs)) tt tt
    (λ s shown known adds. all_added from it start jobs i room text s past adds) (c.loop-number.invariant jobs are)
