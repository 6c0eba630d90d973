-- Readers against writers.
use Rattle.std.specs.Prelude.{◌≡◌, ◌≢◌, ◌<◌, ◌≤◌, ◌^◌, ◌==◌, ◌||◌, ℕ, Bool, not, List, [], ◌∷◌, ◌++◌, Option, Some, None, All, IsTrue, length}
use Rattle.std.specs.List.{list_all}
use Rattle.std.specs.Fmt.{decimal}
use Rattle.uu_names.specs.Grade.{grade_count}
use Rattle.uu_names.specs.Name.{is_site_name, is_word, is_word_byte}
use Rattle.uu_core.specs.Marks.{marks_end}
use Rattle.uu_core.specs.State.{IsKind, most_arguments, most_bytes}
use Rattle.uu_bundle.specs.Texts.{IsParcel, grade_text, job_words, kind_words, line_text, spaced_words}
use Rattle.uu_bundle.specs.declared.bundle.Heading.{Heading}
use Rattle.uu_bundle.specs.declared.bundle.Parcel.{Parcel}
use Rattle.uu_bundle.specs.declared.heading.Said.{Said}
use Rattle.uu_bundle.specs.declared.record.Stated.{Stated}

-- the value with P whose text this is was read, or none if there is no such value
abbrev pub IsReadAs : {V T : Type 0} → (V → Type 0) → (V → T) → T → Option V → Type 0
IsReadAs {V} P write text None = (value : V) → P value → text ≢ write value
IsReadAs P write text (Some value) = (text ≡ write value) × P value

-- the value with P whose text begins this one was read, with the text after it; or none if there is
-- no such value
abbrev pub IsReadFrom : {V : Type 0} → (V → Type 0) → (V → List ℕ) → List ℕ → Option (V × List ℕ) → Type 0
IsReadFrom {V} P write text None = (value : V) (behind : List ℕ) → P value → text ≢ write value ++ behind
IsReadFrom P write text (Some read) = (text ≡ write read.0 ++ read.1) × P read.0

-- ---- words

-- the source and the target of a file
abbrev pub AreFiles : List ℕ × List ℕ → Type 0
AreFiles files = IsTrue (is_word files.0) × IsTrue (is_word files.1)

abbrev pub file_words : List ℕ × List ℕ → List (List ℕ)
file_words files = files.0 ∷ files.1 ∷ []

-- a command and its arguments
abbrev pub IsExecution : List ℕ × List (List ℕ) → Type 0
IsExecution execution =
    IsTrue (is_word execution.0) × All (λ word. IsTrue (is_word word)) execution.1 × (length execution.1 ≤ most_arguments)

abbrev pub execution_words : List ℕ × List (List ℕ) → List (List ℕ)
execution_words execution = execution.0 ∷ execution.1

-- ---- lines

-- each byte of each word is one of words
abbrev pub are_plain : List (List ℕ) → Bool
are_plain words = list_all (list_all is_word_byte) words

-- no line end
abbrev pub has_no_end : List ℕ → Bool
has_no_end text = list_all (λ byte. not (byte == 10)) text

-- no space and no line end
abbrev pub is_bare_byte : ℕ → Bool
is_bare_byte byte = not (byte == 32 || byte == 10)

abbrev pub are_bare : List (List ℕ) → Bool
are_bare words = list_all (list_all is_bare_byte) words

-- the words of the first line, and the text after it; none if the text doesn't begin with a line of
-- plain words
abbrev pub HasFirstWords : List ℕ → Option (List (List ℕ) × List ℕ) → Type 0
HasFirstWords text None =
    (first : List ℕ) (words : List (List ℕ)) (behind : List ℕ) → IsTrue (are_plain (first ∷ words)) → text ≢ line_text first words ++ 10 ∷ behind
HasFirstWords text (Some (words, behind)) = (32 ∷ text ≡ spaced_words words ++ 10 ∷ behind) × IsTrue (are_bare words)

-- ---- the first line

abbrev pub said_words : Said → List (List ℕ)
said_words said = said.from ∷ said.to ∷ said.spool ∷ decimal said.below ∷ grade_text said.grade ∷ decimal said.sum ∷ []

pub record IsSaid (said : Said) : Type 0 where
  pub from : IsTrue (is_site_name said.from)
  pub to : IsTrue (is_site_name said.to)
  pub spool : IsTrue (is_word said.spool)
  pub below : said.below < 2 ^ 32
  pub grade : said.grade < grade_count
  pub sum : said.sum < marks_end

-- ---- the line of a job

abbrev pub stated_words : Stated → List (List ℕ)
stated_words stated =
    decimal stated.number ∷ decimal stated.mark ∷ grade_text stated.grade ∷ stated.user ∷ decimal stated.size ∷ kind_words stated.kind

pub record IsStated (stated : Stated) : Type 0 where
  pub some : 1 ≤ stated.number
  pub number : stated.number < 2 ^ 32
  pub mark : stated.mark < marks_end
  pub grade : stated.grade < grade_count
  pub user : IsTrue (is_word stated.user)
  pub size : stated.size ≤ most_bytes
  pub kind : IsKind stated.kind

-- the job's text after the words of its line
abbrev pub behind_line : Parcel → List ℕ
behind_line job = job.bytes ++ 10 ∷ []

-- the job that its line describes was read, with its bytes, and the text after it
abbrev pub IsParcelAt : Heading → Stated → List ℕ → Option (Parcel × List ℕ) → Type 0
IsParcelAt heading stated = IsReadFrom (λ job. IsParcel heading job × (job_words job ≡ stated_words stated)) behind_line

-- the job whose line has these words was read, with its bytes, and the text after it
abbrev pub IsJobAt : Heading → List (List ℕ) → List ℕ → Option (Parcel × List ℕ) → Type 0
IsJobAt heading words = IsReadFrom (λ job. IsParcel heading job × (words ≡ job_words job)) behind_line
