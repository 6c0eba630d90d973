-- The two forms of a text without blanks: a site name and a word (their bytes and lengths are this
-- project's choice).
use Rattle.std.specs.Prelude.{ℕ, Bool, List, Result}
use Rattle.uu_names.specs.declared.fault.NameFault.{NameFault}
use Rattle.uu_names.specs.declared.fault.NameFault.TheVariants.{BadName, BadWord}
use Rattle.uu_names.specs.declared.form.Form.{Form}
use Rattle.uu_names.specs.declared.form.Form.TheVariants.{SiteName, Word}
use Rattle.uu_names.specs.Name.{is_site_byte, is_word_byte, most_name, most_word, checked_text}

-- the bytes that a text of the form may have
abbrev pub allows : Form → ℕ → Bool
allows SiteName = is_site_byte
allows Word = is_word_byte

-- the most bytes of such a text
abbrev pub limit_of : Form → ℕ
limit_of SiteName = most_name
limit_of Word = most_word

-- why a text of another form is refused
abbrev pub bad_at : Form → ℕ → NameFault
bad_at SiteName = BadName
bad_at Word = BadWord

-- what a text is when it is read in the form
abbrev pub text_of : Form → List ℕ → Result (List ℕ) NameFault
text_of form = checked_text (allows form) (limit_of form) (bad_at form)
