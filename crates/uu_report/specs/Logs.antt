-- What the log of a site says about a change: a line for each part of the answer. The form is this
-- project's choice.
use Rattle.std.specs.Prelude.{ℕ, ◌==◌, ◌&&◌, nat_le, List, [], ◌∷◌, ◌++◌, codes, drop, length, map, slice_get, unwrap_or, if◌then◌else◌}
use Rattle.std.specs.Fmt.{decimal}
use Rattle.std.specs.List.{flat_map, slice_split}
use Rattle.std.specs.Str.{bytes_eq}
use Rattle.std.specs.String.{string_bytes}
use Rattle.uu_report.specs.declared.logged.Change.{Change}
use Rattle.uu_report.specs.declared.logged.Form.{Form}
use Rattle.uu_report.specs.declared.logged.Form.TheVariants.{One, Load, Map, Settle, Unpack}

-- ---- lines

-- a byte as the log shows it: a printable one of ASCII as it is, any other as `?`
abbrev pub shown : ℕ → ℕ
shown byte = if nat_le 32 byte && nat_le byte 126 then byte else 63

-- and in a field, which has no space: a space as `-`
abbrev pub shown_in_field : ℕ → ℕ
shown_in_field byte = if byte == 32 then 45 else shown byte

abbrev pub field : List ℕ → List ℕ
field text = 32 ∷ map shown_in_field text

-- a line: the moment, the system, the user, the job, how it ended, and the words that asked for it
abbrev pub log_line : List ℕ → List ℕ → List ℕ → List ℕ → List ℕ → List ℕ → List ℕ
log_line moment system user job how words =
    moment ++ (field system ++ (field user ++ (field job ++ (field how ++ 32 ∷ (map shown words ++ 10 ∷ [])))))

-- ---- the words of an answer

abbrev pub lines_of : List ℕ → List (List ℕ)
lines_of text = slice_split (λ byte. byte == 10) text

abbrev pub words_of : List ℕ → List (List ℕ)
words_of line = slice_split (λ byte. byte == 32) line

-- the word at this place, empty beyond the last
abbrev pub word_at : List (List ℕ) → ℕ → List ℕ
word_at words place = unwrap_or (slice_get words place) []

-- The line of an answer that says how the whole change ended. That of `map` begins with the name of a
-- host, and says nothing of the others.
abbrev pub first_line : Form → List (List ℕ) → List ℕ
first_line Map lines = []
first_line form lines = word_at lines 0

-- ---- changes

-- what stands for no system and for no job
abbrev pub none : List ℕ
none = codes "-"

-- The words of a change with the key of a neighbour's job, so that the job can be followed from site
-- to site. The sender's own name stands before what is said of the whole bundle, which has no key.
abbrev pub words_under : Change → List ℕ → List ℕ
words_under it number =
    if bytes_eq number (string_bytes it.system) then string_bytes it.words
    else string_bytes it.words ++ (codes " --once=" ++ (string_bytes it.system ++ 33 ∷ number))

module _ (moment : List ℕ) (it : Change) where
  -- a line about this system and job
  abbrev pub line_about : List ℕ → List ℕ → List ℕ → List ℕ → List ℕ
  line_about system job how words = log_line moment system (string_bytes it.user) job how words

  -- a line about this job, of the system of the change
  abbrev pub job_line : List ℕ → List ℕ → List ℕ
  job_line how job = line_about (string_bytes it.system) job how (string_bytes it.words)

  -- a line for each job that the words name, or one without a job
  abbrev pub ended_lines : List ℕ → List ℕ
  ended_lines how = if length it.jobs.items == 0 then job_line how none else flat_map (λ job. job_line how (decimal job)) it.jobs.items

  -- an answer in one line: `job JOB`, `refused WHY`, or done
  abbrev pub one_lines : List (List ℕ) → List ℕ
  one_lines words =
      if bytes_eq (word_at words 0) (codes "job") then job_line (codes "done") (word_at words 1)
      else if bytes_eq (word_at words 0) (codes "refused") then ended_lines (word_at words 1)
      else ended_lines (codes "done")

  -- a line of the answer to `load`: `SYSTEM done`
  abbrev pub load_lines : List (List ℕ) → List ℕ
  load_lines words =
      if bytes_eq (word_at words 1) (codes "done") then line_about (word_at words 0) none (codes "done") (string_bytes it.words) else []

  -- a line of the answer to `map`: `entry LINE refused WHY`, or `HOST done`, which has no line here
  abbrev pub map_lines : List (List ℕ) → List ℕ
  map_lines words = if bytes_eq (word_at words 2) (codes "refused") then job_line (word_at words 3) none else []

  -- a line of the answer to `settle`: `SYSTEM refused JOB WHY`, or `SYSTEM JOB ..`
  abbrev pub settle_lines : List (List ℕ) → List ℕ
  settle_lines words =
      if bytes_eq (word_at words 1) (codes "refused") then job_line (word_at words 3) (word_at words 2)
      else flat_map (job_line (codes "done")) (drop 1 words)

  -- a line of the answer to `unpack`: `NUMBER job JOB` or `NUMBER refused WHY`
  abbrev pub unpack_lines : List (List ℕ) → List ℕ
  unpack_lines words =
      if bytes_eq (word_at words 1) (codes "job")
      then line_about (string_bytes it.system) (word_at words 2) (codes "done") (words_under it (word_at words 0))
      else if bytes_eq (word_at words 1) (codes "refused")
      then line_about (string_bytes it.system) none (word_at words 2) (words_under it (word_at words 0))
      else []

  -- a line of an answer in several lines
  abbrev pub part_lines : Form → List ℕ → List ℕ
  part_lines One line = []
  part_lines Load line = load_lines (words_of line)
  part_lines Map line = map_lines (words_of line)
  part_lines Settle line = settle_lines (words_of line)
  part_lines Unpack line = unpack_lines (words_of line)

  abbrev pub parts_lines : List ℕ → List ℕ
  parts_lines answer = flat_map (part_lines it.form) (lines_of answer)

  -- the lines for an answer: those of its parts or, if there are none, those of its first line
  abbrev pub answered_lines : List ℕ → List ℕ
  answered_lines answer =
      if length (parts_lines answer) == 0 then one_lines (words_of (first_line it.form (lines_of answer))) else parts_lines answer
