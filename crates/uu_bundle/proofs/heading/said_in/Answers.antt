use Rattle.std.proofs.Common.{◌<◌, ◌^◌, Bor, IsTrue, List, [], get_or, map, subst, ℕ}
use Rattle.std.specs.Fmt.{decimal}
use Rattle.uu_names.specs.Grade.{grade_count}
use Rattle.uu_names.specs.Name.{is_site_name, is_word}
use Rattle.uu_core.specs.Marks.{marks_end}
use Rattle.uu_bundle.specs.Internal.Forms.{IsReadAs}
use Rattle.uu_bundle.specs.Texts.{grade_text}
use Rattle.uu_bundle.proofs.Records.{said_of, six}
use Rattle.uu_bundle.proofs.heading.said_in.Goals as goal

abbrev none : Bor (List ℕ)
none = record { ref_ptr = (0, 0); now = [] }

pub returns : goal.returns
returns c =
    let word = λ (i : ℕ). (get_or c.args.words.now i none).now in
    said_of (map (λ (word : Bor (List ℕ)). word.now) c.args.words.now) (word 0) (word 1) (word 2) (word 3) (word 4) (word 5)
    (record { from = c.in-Some.from; to = c.in-Some-2.to; spool = c.in-Some-3.spool; below = c.in-Some-4.below; grade = c.in-Some-grade_in.grade; sum = c.in-Some-5.sum })
    (six c.args.words.now none c.in-len6.len_at_least c.in-len6.len_below)
    (subst (IsReadAs (λ name. IsTrue (is_site_name name)) (λ name. name) (word 0)) c.in-Some.is c.in_ok-from.ensures)
    (subst (IsReadAs (λ name. IsTrue (is_site_name name)) (λ name. name) (word 1)) c.in-Some-2.is c.in_ok-to.ensures)
    (subst (IsReadAs (λ name. IsTrue (is_word name)) (λ name. name) (word 2)) c.in-Some-3.is c.in_ok-spool.ensures)
    (subst (IsReadAs (λ n. n < 2 ^ 32) decimal (word 3)) c.in-Some-4.is c.in_ok-below.ensures)
    (subst (IsReadAs (λ grade. grade < grade_count) grade_text (word 4)) c.in-Some-grade_in.is c.grade_in.ensures)
    (subst (IsReadAs (λ n. n < marks_end) decimal (word 5)) c.in-Some-5.is c.in_ok-sum.ensures)
