-- What is printed for the replies to a line's commands, and the line's status. All of it is this
-- project's choice.
use Rattle.std.specs.Prelude.{ℕ, List, [], ◌∷◌, ◌++◌, codes, if◌then◌else◌}
use Rattle.std.specs.Fmt.{decimal}
use Rattle.std.specs.List.{flat_map, list_any, zip}
use Rattle.uu_core.specs.declared.command.Reply.{Reply}
use Rattle.uu_core.specs.declared.subject.Subject.{Subject}
use Rattle.uu_core.specs.declared.subject.Subject.TheVariants.{Line, Site, Entry, Parcel}
use Rattle.uu_report.specs.Replies.{reply_text, is_refused}
use Rattle.uu_report.specs.Reports.{skipped_text}

-- the text of a subject before its reply: a site's name, an entry's line in the input, a
-- neighbour's job's number there
abbrev pub subject_text : Subject → List ℕ
subject_text Line = []
subject_text (Site name) = name ++ 32 ∷ []
subject_text (Entry line) = codes "entry " ++ decimal line ++ 32 ∷ []
subject_text (Parcel number) = decimal number ++ 32 ∷ []

abbrev pub answer_text : Subject → Reply → List ℕ
answer_text subject reply = subject_text subject ++ reply_text reply

-- the replies in order, each after its subject
abbrev pub answers_text : List Subject → List Reply → List ℕ
answers_text subjects replies = flat_map (λ p. answer_text p.0 p.1) (zip subjects replies)

-- the same, and, once every command was answered, the lines of the input that were skipped
abbrev pub output_text : List Subject → List ℕ → List Reply → List ℕ
output_text subjects skipped replies = answers_text subjects replies ++ flat_map skipped_text skipped

-- the status of a line: 1 if a command was refused
abbrev pub replies_status : List Reply → ℕ
replies_status replies = if list_any is_refused replies then 1 else 0
