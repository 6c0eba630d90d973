-- Site names and words (their bytes and lengths are this project's choice).
use Rattle.std.specs.Prelude.{ℕ, Bool, ◌||◌, ◌&&◌, List, ◌==◌, nat_le, length, if◌then◌else◌, Result, Ok, Err}
use Rattle.std.specs.List.{list_all, prefix_len}
use Rattle.std.specs.Char.{is_ascii_alphanumeric, is_ascii_graphic}
use Rattle.std.specs.Str.{byte}
use Rattle.uu_names.specs.declared.fault.NameFault.{NameFault}
use Rattle.uu_names.specs.declared.fault.NameFault.TheVariants.{BadName, BadWord, TooLong}

-- a byte of a site name: a letter or a digit of ASCII, `-`, `_` or `.`
abbrev pub is_site_byte : ℕ → Bool
is_site_byte b = is_ascii_alphanumeric b || b == byte "-" || b == byte "_" || b == byte "."

-- a byte of a word: 0x21 to 0x7E, the printable characters of ASCII without the space
abbrev pub is_word_byte : ℕ → Bool
is_word_byte b = is_ascii_graphic b

-- one byte or more, each of which passes
abbrev pub has_form : (ℕ → Bool) → List ℕ → Bool
has_form passes text = nat_le 1 (length text) && list_all passes text

-- the most bytes of a site name, and of a word
abbrev pub most_name : ℕ
most_name = 63

abbrev pub most_word : ℕ
most_word = 255

-- a site name is 1 to 63 such bytes; case is kept and compared
abbrev pub is_site_name : List ℕ → Bool
is_site_name text = has_form is_site_byte text && nat_le (length text) most_name

-- a word is 1 to 255 such bytes
abbrev pub is_word : List ℕ → Bool
is_word text = has_form is_word_byte text && nat_le (length text) most_word

-- What a text is, if each of its bytes has to pass and their number has a limit. The form of the
-- whole text is checked before its length. A text of another form is refused at the first byte that
-- doesn't pass, the empty text at 0.
abbrev pub checked_text : (ℕ → Bool) → ℕ → (ℕ → NameFault) → List ℕ → Result (List ℕ) NameFault
checked_text passes limit bad_at text =
    if has_form passes text then (if nat_le (length text) limit then Ok text else Err TooLong) else Err (bad_at (prefix_len passes text))

-- what a text is as a site name
abbrev pub site_name_of : List ℕ → Result (List ℕ) NameFault
site_name_of = checked_text is_site_byte most_name BadName

-- what a text is as a word
abbrev pub word_of : List ℕ → Result (List ℕ) NameFault
word_of = checked_text is_word_byte most_word BadWord
