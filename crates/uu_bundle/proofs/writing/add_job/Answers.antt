use Rattle.std.proofs.Common.{◌≡◌, ◌∙◌, ◌++◌, ◌∷◌, [], ap, arith, codes, refl, sym, true, false, ℕ}
use Rattle.uu_bundle.specs.Bundles.{is_within_limits, parcel_of}
use Rattle.uu_bundle.specs.Texts.{job_words, line_text}
use Rattle.uu_bundle.proofs.Pieces.{added_not, added_there, appended, job_text, none_no_room, none_over, some_room, within_bytes}
use Rattle.uu_bundle.proofs.writing.add_job.Goals as goal

pub returns-then-not-is_within_limits-clause-added : goal.returns-then-not-is_within_limits-clause-added
returns-then-not-is_within_limits-clause-added c =
    let job = parcel_of c.args.from.now c.args.to.now c.args.spool.now c.args.head.now c.args.bytes.now in
    let over : is_within_limits job ≡ false = sym (c.is_within_limits.ensures c.args.from.now c.args.to.now c.args.spool.now) ∙ c.if-not-is_within_limits.true in
    (added_not c.args.most c.args.text.now.items c.args.text.now.items job (none_over c.args.most c.args.text.now.items job over) refl).0

pub returns-then-not-is_within_limits-clause-text : goal.returns-then-not-is_within_limits-clause-text
returns-then-not-is_within_limits-clause-text c =
    let job = parcel_of c.args.from.now c.args.to.now c.args.spool.now c.args.head.now c.args.bytes.now in
    let over : is_within_limits job ≡ false = sym (c.is_within_limits.ensures c.args.from.now c.args.to.now c.args.spool.now) ∙ c.if-not-is_within_limits.true in
    (added_not c.args.most c.args.text.now.items c.args.text.now.items job (none_over c.args.most c.args.text.now.items job over) refl).1

pub overflow_add-len-2 : goal.overflow_add-len-2
overflow_add-len-2 c =
    let job = parcel_of c.args.from.now c.args.to.now c.args.spool.now c.args.head.now c.args.bytes.now in
    let within : is_within_limits job ≡ true = sym (c.is_within_limits.ensures c.args.from.now c.args.to.now c.args.spool.now) ∙ c.if-not-is_within_limits.false in
    omega (arith, within_bytes job within)

pub overflow_add-len-3 : goal.overflow_add-len-3
overflow_add-len-3 c =
    let job = parcel_of c.args.from.now c.args.to.now c.args.spool.now c.args.head.now c.args.bytes.now in
    let within : is_within_limits job ≡ true = sym (c.is_within_limits.ensures c.args.from.now c.args.to.now c.args.spool.now) ∙ c.if-not-is_within_limits.false in
    omega (arith, within_bytes job within)

pub overflow_add-len-4 : goal.overflow_add-len-4
overflow_add-len-4 c =
    let job = parcel_of c.args.from.now c.args.to.now c.args.spool.now c.args.head.now c.args.bytes.now in
    let within : is_within_limits job ≡ true = sym (c.is_within_limits.ensures c.args.from.now c.args.to.now c.args.spool.now) ∙ c.if-not-is_within_limits.false in
    omega (arith, within_bytes job within)

pub returns-then-len-bytes-clause-added : goal.returns-then-len-bytes-clause-added
returns-then-len-bytes-clause-added c =
    let job = parcel_of c.args.from.now c.args.to.now c.args.spool.now c.args.head.now c.args.bytes.now in
    let said = λ (mark : ℕ). line_text (codes "job") (job_words (record { number = job.number; mark = mark; grade = job.grade; user = job.user; kind = job.kind; bytes = job.bytes })) ++ 10 ∷ [] in
    let line : c.in_ok-line.line.items ≡ said job.mark = c.in_ok-line.ensures c.args.bytes.now refl ∙ ap said c.in_ok-mark.ensures in
    (added_not c.args.most c.args.text.now.items c.args.text.now.items job (none_no_room c.args.most c.args.text.now.items job c.in_ok-line.line.items (job_text job c.in_ok-line.line.items line) (omega arith)) refl).0

pub returns-then-len-bytes-clause-text : goal.returns-then-len-bytes-clause-text
returns-then-len-bytes-clause-text c =
    let job = parcel_of c.args.from.now c.args.to.now c.args.spool.now c.args.head.now c.args.bytes.now in
    let said = λ (mark : ℕ). line_text (codes "job") (job_words (record { number = job.number; mark = mark; grade = job.grade; user = job.user; kind = job.kind; bytes = job.bytes })) ++ 10 ∷ [] in
    let line : c.in_ok-line.line.items ≡ said job.mark = c.in_ok-line.ensures c.args.bytes.now refl ∙ ap said c.in_ok-mark.ensures in
    (added_not c.args.most c.args.text.now.items c.args.text.now.items job (none_no_room c.args.most c.args.text.now.items job c.in_ok-line.line.items (job_text job c.in_ok-line.line.items line) (omega arith)) refl).1

pub returns-clause-added : goal.returns-clause-added
returns-clause-added c =
    let job = parcel_of c.args.from.now c.args.to.now c.args.spool.now c.args.head.now c.args.bytes.now in
    let within : is_within_limits job ≡ true = sym (c.is_within_limits.ensures c.args.from.now c.args.to.now c.args.spool.now) ∙ c.if-not-is_within_limits.false in
    let said = λ (mark : ℕ). line_text (codes "job") (job_words (record { number = job.number; mark = mark; grade = job.grade; user = job.user; kind = job.kind; bytes = job.bytes })) ++ 10 ∷ [] in
    let line : c.in_ok-line.line.items ≡ said job.mark = c.in_ok-line.ensures c.args.bytes.now refl ∙ ap said c.in_ok-mark.ensures in
    sym (some_room c.args.most c.args.text.now.items job c.in_ok-line.line.items within (job_text job c.in_ok-line.line.items line) (omega arith))

pub returns-clause-text : goal.returns-clause-text
returns-clause-text c =
    let job = parcel_of c.args.from.now c.args.to.now c.args.spool.now c.args.head.now c.args.bytes.now in
    let within : is_within_limits job ≡ true = sym (c.is_within_limits.ensures c.args.from.now c.args.to.now c.args.spool.now) ∙ c.if-not-is_within_limits.false in
    let said = λ (mark : ℕ). line_text (codes "job") (job_words (record { number = job.number; mark = mark; grade = job.grade; user = job.user; kind = job.kind; bytes = job.bytes })) ++ 10 ∷ [] in
    let line : c.in_ok-line.line.items ≡ said job.mark = c.in_ok-line.ensures c.args.bytes.now refl ∙ ap said c.in_ok-mark.ensures in
    let whole = job_text job c.in_ok-line.line.items line in
    let first : c.extend_from_slice.new.self.items ≡ c.args.text.now.items ++ c.in_ok-line.line.items =
    c.in_ok-extend_from_slice.ensures.items ∙ ap (λ t. c.args.text.now.items ++ t) c.deref.ensures.value in
    let second : c.extend_from_slice-2.new.self.items ≡ (c.args.text.now.items ++ c.in_ok-line.line.items) ++ c.args.bytes.now =
    c.in_ok-extend_from_slice-2.ensures.items ∙ ap (λ t. t ++ c.args.bytes.now) first in
    (added_there c.args.most c.args.text.now.items c.push.new.self.items job (some_room c.args.most c.args.text.now.items job c.in_ok-line.line.items within whole (omega arith))
    (c.in_ok-push.ensures.items ∙ ap (λ t. t ++ 10 ∷ []) second ∙ appended c.args.text.now.items c.in_ok-line.line.items c.args.bytes.now _ whole)).1
