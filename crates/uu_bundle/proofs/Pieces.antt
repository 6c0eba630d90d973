-- What is appended, piece by piece.
use Rattle.std.proofs.Common.{◌≡◌, ◌∙◌, ap, sym, ℕ, List, [], ◌∷◌, ◌++◌, append_assoc, append-nil, codes, length, length-append, true, false, cond, ◌&&◌, ◌+◌, ◌<◌, ◌≤◌, arith}
use Rattle.std.proofs.lemmas.List.Concat.{flat_map-append}
use borrow.Author.Tests.{leb-true}
use Rattle.std.specs.Prelude.{nat_le}
use Rattle.uu_core.specs.State.{most_bytes}
use Rattle.std.proofs.lemmas.Bool.Decides.{nat_tests}
use Rattle.std.proofs.lemmas.Bool.{and_from, and_parts, and_right}
use Rattle.uu_bundle.specs.Bundles.{has_room, is_short, is_within_limits, takes_job, text_with_job}
use Rattle.uu_bundle.specs.Texts.{job_words, line_text, record_text, spaced_words}
use Rattle.uu_bundle.specs.declared.bundle.Parcel.{Parcel}
use Rattle.uu_bundle.specs.declared.bundle.Record.TheVariants.{Job}

-- one word more
word_step : (text word : List ℕ) (words : List (List ℕ)) (rest : List ℕ) → (text ++ 32 ∷ word) ++ (spaced_words words ++ rest) ≡ text ++ (spaced_words (word ∷ words) ++ rest)
word_step text word words rest = append_assoc text (32 ∷ word) (spaced_words words ++ rest) ∙ ap (λ t. text ++ t) (sym (append_assoc (32 ∷ word) (spaced_words words) rest))

-- one word more at the end of a line
pub line_more : (first : List ℕ) (words : List (List ℕ)) (word : List ℕ) → line_text first words ++ 32 ∷ word ≡ line_text first (words ++ word ∷ [])
line_more first words word =
    append_assoc first (spaced_words words) (32 ∷ word)
    ∙ ap (λ t. first ++ t) (ap (λ t. spaced_words words ++ t) (sym (append-nil (32 ∷ word))) ∙ sym (flat_map-append (λ w. 32 ∷ w) words (word ∷ [])))

pub marked_front : (spool from to user number bytes : List ℕ) (words : List (List ℕ))
    → ((((((((spool ++ codes "\njob") ++ 32 ∷ from) ++ 32 ∷ to) ++ 32 ∷ user) ++ 32 ∷ number) ++ spaced_words words) ++ 10 ∷ []) ++ bytes)
    ≡ spool ++ 10 ∷ (line_text (codes "job") (from ∷ to ∷ user ∷ number ∷ words) ++ 10 ∷ bytes)
marked_front spool from to user number bytes words =
    let a = spool ++ codes "\njob" in
    let b = a ++ 32 ∷ from in
    let d = b ++ 32 ∷ to in
    let e = d ++ 32 ∷ user in
    let f = e ++ 32 ∷ number in
    append_assoc (f ++ spaced_words words) (10 ∷ []) bytes ∙ append_assoc f (spaced_words words) (10 ∷ bytes)
    ∙ word_step e number words (10 ∷ bytes) ∙ word_step d user (number ∷ words) (10 ∷ bytes) ∙ word_step b to (user ∷ number ∷ words) (10 ∷ bytes)
    ∙ word_step a from (to ∷ user ∷ number ∷ words) (10 ∷ bytes)
    ∙ append_assoc spool (codes "\njob") (spaced_words (from ∷ to ∷ user ∷ number ∷ words) ++ 10 ∷ bytes)

pub heading_front : (from to spool below grade sum : List ℕ)
    → (line_text (codes "bundle") (from ∷ to ∷ spool ∷ below ∷ grade ∷ []) ++ 32 ∷ sum) ++ 10 ∷ [] ≡ line_text (codes "bundle") (from ∷ to ∷ spool ∷ below ∷ grade ∷ sum ∷ []) ++ 10 ∷ []
heading_front from to spool below grade sum = ap (λ t. t ++ 10 ∷ []) (line_more (codes "bundle") (from ∷ to ∷ spool ∷ below ∷ grade ∷ []) sum)

-- the line of a job
pub job_front : (number mark grade user size : List ℕ) (kinds : List (List ℕ))
    → ((codes "job" ++ spaced_words (number ∷ mark ∷ grade ∷ user ∷ size ∷ [])) ++ spaced_words kinds) ++ 10 ∷ [] ≡ line_text (codes "job") (number ∷ mark ∷ grade ∷ user ∷ size ∷ kinds) ++ 10 ∷ []
job_front number mark grade user size kinds =
    let five = number ∷ mark ∷ grade ∷ user ∷ size ∷ [] in
    ap (λ t. t ++ 10 ∷ [])
    (append_assoc (codes "job") (spaced_words five) (spaced_words kinds) ∙ ap (λ t. codes "job" ++ t) (sym (flat_map-append (λ w. 32 ∷ w) five kinds)))

pub job_made : (number mark grade user size a b g u s : List ℕ) (kinds : List (List ℕ)) (one two three : List ℕ) → one ≡ codes "job" ++ spaced_words (a ∷ b ∷ g ∷ u ∷ s ∷ []) → two ≡ one ++ spaced_words kinds
    → three ≡ two ++ 10 ∷ [] → a ≡ number → b ≡ mark → g ≡ grade → u ≡ user → s ≡ size → three ≡ line_text (codes "job") (number ∷ mark ∷ grade ∷ user ∷ size ∷ kinds) ++ 10 ∷ []
job_made number mark grade user size a b g u s kinds one two three first second third of_a of_b of_g of_u of_s =
    third ∙ ap (λ t. t ++ 10 ∷ []) (second ∙ ap (λ t. t ++ spaced_words kinds) first)
    ∙ ap (λ w. ((codes "job" ++ spaced_words (w ∷ b ∷ g ∷ u ∷ s ∷ [])) ++ spaced_words kinds) ++ 10 ∷ []) of_a
    ∙ ap (λ w. ((codes "job" ++ spaced_words (number ∷ w ∷ g ∷ u ∷ s ∷ [])) ++ spaced_words kinds) ++ 10 ∷ []) of_b
    ∙ ap (λ w. ((codes "job" ++ spaced_words (number ∷ mark ∷ w ∷ u ∷ s ∷ [])) ++ spaced_words kinds) ++ 10 ∷ []) of_g
    ∙ ap (λ w. ((codes "job" ++ spaced_words (number ∷ mark ∷ grade ∷ w ∷ s ∷ [])) ++ spaced_words kinds) ++ 10 ∷ []) of_u
    ∙ ap (λ w. ((codes "job" ++ spaced_words (number ∷ mark ∷ grade ∷ user ∷ w ∷ [])) ++ spaced_words kinds) ++ 10 ∷ []) of_s
    ∙ job_front number mark grade user size kinds

-- ---- room

-- the text of a job is its line, its bytes and a line end
pub job_text : (job : Parcel) (line : List ℕ) → line ≡ line_text (codes "job") (job_words job) ++ 10 ∷ [] → record_text (Job job) ≡ (line ++ job.bytes) ++ 10 ∷ []
job_text job line is =
    sym (append_assoc (line_text (codes "job") (job_words job)) (10 ∷ []) (job.bytes ++ 10 ∷ [])) ∙ ap (λ t. t ++ (job.bytes ++ 10 ∷ [])) (sym is) ∙ sym (append_assoc line job.bytes (10 ∷ []))

size_of : (job : Parcel) (line : List ℕ) → record_text (Job job) ≡ (line ++ job.bytes) ++ 10 ∷ [] → length (record_text (Job job)) ≡ length line + length job.bytes + 1
size_of job line is = ap length is ∙ length-append (line ++ job.bytes) (10 ∷ []) ∙ ap (λ n. n + 1) (length-append line job.bytes)

pub within_bytes : (job : Parcel) → is_within_limits job ≡ true → length job.bytes ≤ most_bytes
within_bytes job within = leb-true (length job.bytes) most_bytes (and_parts (nat_le 1 job.number && is_short job.kind) (nat_le (length job.bytes) most_bytes) within).1

pub none_over : (most : ℕ) (text : List ℕ) (job : Parcel) → is_within_limits job ≡ false → takes_job most text job ≡ false
none_over most text job over = rw over

pub room_is : (most : ℕ) (text : List ℕ) (job : Parcel) (n : ℕ) → length (record_text (Job job)) ≡ n → length text + n + 4 ≤ most → has_room most text job ≡ true
room_is most text job n size fits = grind (arith, nat_tests)

room_not : (most : ℕ) (text : List ℕ) (job : Parcel) (n : ℕ) → length (record_text (Job job)) ≡ n → most < length text + n + 4 → has_room most text job ≡ false
room_not most text job n size over = grind (arith, nat_tests)

pub none_no_room : (most : ℕ) (text : List ℕ) (job : Parcel) (line : List ℕ) → record_text (Job job) ≡ (line ++ job.bytes) ++ 10 ∷ [] → most < length text + length line + length job.bytes + 1 + 4 → takes_job most text job ≡ false
none_no_room most text job line is over = and_right (is_within_limits job) (has_room most text job) (room_not most text job (length line + length job.bytes + 1) (size_of job line is) (omega arith))

pub some_room : (most : ℕ) (text : List ℕ) (job : Parcel) (line : List ℕ) → is_within_limits job ≡ true → record_text (Job job) ≡ (line ++ job.bytes) ++ 10 ∷ [] → length text + length line + length job.bytes + 1 + 4 ≤ most → takes_job most text job ≡ true
some_room most text job line within is fits = and_from (is_within_limits job) (has_room most text job) within (room_is most text job (length line + length job.bytes + 1) (size_of job line is) (omega arith))

-- what is added, and that it is
pub added_not : (most : ℕ) (text new : List ℕ) (job : Parcel) → takes_job most text job ≡ false → new ≡ text → (false ≡ takes_job most text job) × (new ≡ text_with_job most text job)
added_not most text new job is same = (sym is, same ∙ ap (λ b. cond b (text ++ record_text (Job job)) text) (sym is))

pub added_there : (most : ℕ) (text new : List ℕ) (job : Parcel) → takes_job most text job ≡ true → new ≡ text ++ record_text (Job job) → (true ≡ takes_job most text job) × (new ≡ text_with_job most text job)
added_there most text new job is same = (sym is, same ∙ ap (λ b. cond b (text ++ record_text (Job job)) text) (sym is))

pub appended : (text line bytes whole : List ℕ) → whole ≡ (line ++ bytes) ++ 10 ∷ [] → ((text ++ line) ++ bytes) ++ 10 ∷ [] ≡ text ++ whole
appended text line bytes whole is =
    ap (λ t. t ++ 10 ∷ []) (append_assoc text line bytes) ∙ append_assoc text (line ++ bytes) (10 ∷ []) ∙ ap (λ t. text ++ t) (sym is)
