-- The lines that the sites on a message's way have put before it, and the path back to its sender
-- (RFC 976).
use Rattle.std.specs.Prelude.{◌≡◌, ◌⊎◌, ℕ, Bool, not, List, [], ◌∷◌, ◌++◌, ◌==◌, codes, length, IsTrue, if◌then◌else◌, map, take, ◌-◌, nat_eq, ⊤}
use Rattle.std.specs.List.{concat, onto_first, join_with_byte, ends_with}
use Rattle.std.specs.Str.{byte}
use Rattle.std.specs.Str.Lines.{strip_carriage_return}
use Rattle.uu_names.specs.declared.fault.NameFault.{NameFault}
use Rattle.uu_names.specs.declared.fault.NameFault.TheVariants.{BadGrade, BadName, BadPath, BadWord, NoEnvelope, TooLong, Memory}
use Rattle.uu_names.specs.Name.{has_form, is_site_name}
use Rattle.uu_names.specs.Path.{IsPathText, IsPathFault}
use Rattle.uu_names.specs.Text.{line_feed}

-- the lines of a text, each with its line feed, which the last may lack
abbrev pub raw_lines : List ℕ → List (List ℕ)
raw_lines [] = []
raw_lines (b ∷ bs) = if b == line_feed then (b ∷ []) ∷ raw_lines bs else onto_first b (raw_lines bs)

-- a line without its line feed, and without a carriage return directly before that
abbrev pub content : List ℕ → List ℕ
content line =
    if ends_with nat_eq line (line_feed ∷ []) then strip_carriage_return (take (length line - 1) line) else line

abbrev pub is_no_space : ℕ → Bool
is_no_space b = not (b == byte " ")

-- what a leading line says: who sent the message, and which site handed it on
pub record Sender : Type 0 where
  pub user : List ℕ
  pub site : List ℕ

-- nothing, or a space and any bytes
abbrev pub IsSpaced : List ℕ → Type 0
IsSpaced text = (text ≡ []) ⊎ ((more : List ℕ) × (text ≡ byte " " ∷ more))

-- A leading line: a marker, a user of one byte or more without a space, nothing or a space and any
-- bytes, and ` remote from ` and a site name. A site name has no space, so this ` remote from ` is
-- the last one of the line.
pub record IsLeadingLine (marker line : List ℕ) (sender : Sender) : Type 0 where
  pub between : List ℕ
  pub text : line ≡ marker ++ (sender.user ++ (between ++ (codes " remote from " ++ sender.site)))
  pub user : IsTrue (has_form is_no_space sender.user)
  pub spaced : IsSpaced between
  pub site : IsTrue (is_site_name sender.site)

-- the first line of the text begins with `From `, and each other with `>From `
abbrev pub first_marker : List ℕ
first_marker = codes "From "

abbrev pub later_marker : List ℕ
later_marker = codes ">From "

-- these lines, one after another, are leading lines and say this
abbrev pub AreLeadingLines : List ℕ → List (List ℕ) → List Sender → Type 0
AreLeadingLines marker [] [] = ⊤
AreLeadingLines marker [] (sender ∷ senders) = ⊥
AreLeadingLines marker (line ∷ lines) [] = ⊥
AreLeadingLines marker (line ∷ lines) (sender ∷ senders) = IsLeadingLine marker (content line) sender × AreLeadingLines later_marker lines senders

-- the marker of the line after those of these senders
abbrev pub next_marker : List Sender → List ℕ
next_marker [] = first_marker
next_marker (sender ∷ senders) = later_marker

-- the next line isn't a leading line
abbrev pub Stops : List ℕ → List (List ℕ) → Type 0
Stops marker [] = ⊤
Stops marker (line ∷ lines) = (sender : Sender) → ¬ IsLeadingLine marker (content line) sender

-- The leading lines of a text: the longest run of them from the top. The body starts after it.
pub record HasLeadingLines (text : List ℕ) (senders : List Sender) (body : ℕ) : Type 0 where
  pub leading : List (List ℕ)
  pub others : List (List ℕ)
  pub lines : raw_lines text ≡ leading ++ others
  pub say : AreLeadingLines first_marker leading senders
  pub longest : Stops (next_marker senders) others
  pub start : body ≡ length (concat leading)

-- the last sender's user, if there is a sender
abbrev pub last_user : Sender → List Sender → List ℕ
last_user sender [] = sender.user
last_user sender (next ∷ senders) = last_user next senders

-- the way back: the sites in order, and the user of the last line, joined by `!`
abbrev pub way_back : Sender → List Sender → List ℕ
way_back sender senders =
    join_with_byte (byte "!") (map (λ s. s.site) (sender ∷ senders) ++ last_user sender senders ∷ [])

-- reading the return path gives this path and the offset of the body
pub record IsReturnPath (text path : List ℕ) (body : ℕ) : Type 0 where
  pub first : Sender
  pub others : List Sender
  pub lines : HasLeadingLines text (first ∷ others) body
  pub is_path : IsPathText path
  pub is_text : path ≡ way_back first others

-- there are leading lines, but the way back isn't a path
pub record HasBadWay (text : List ℕ) (fault : NameFault) : Type 0 where
  pub first : Sender
  pub others : List Sender
  pub body : ℕ
  pub lines : HasLeadingLines text (first ∷ others) body
  pub fault_of : IsPathFault (way_back first others) fault

-- why a text has no return path
abbrev pub IsReturnFault : List ℕ → NameFault → Type 0
IsReturnFault text NoEnvelope = HasLeadingLines text [] 0
IsReturnFault text (BadPath at) = HasBadWay text (BadPath at)
IsReturnFault text TooLong = HasBadWay text TooLong
IsReturnFault text Memory = ⊤
IsReturnFault text BadGrade = ⊥
IsReturnFault text (BadName at) = ⊥
IsReturnFault text (BadWord at) = ⊥
