-- Texts of a line that aren't what they have to be.
use Rattle.std.specs.Prelude.{◌≡◌, [], ◌∷◌, Err}
use Rattle.clap.specs.Words.{Text}
use Rattle.uu_names.specs.declared.fault.NameFault.{NameFault}
use Rattle.uu_line.specs.Lines.{IsBadAddress, grade_of, origin_of, site_of, word_of}
use Rattle.uu_line.specs.declared.fault.LineFault.TheVariants.{Name}
use Rattle.uu_line.specs.declared.misread.Wanted.{Wanted}
use Rattle.uu_line.specs.declared.misread.Wanted.TheVariants as wanted

-- if the text has to be this, it has this fault
abbrev pub IsMisread : Wanted → Text → NameFault → Type 0
IsMisread wanted.System text fault = site_of text ≡ Err (Name fault)
IsMisread wanted.Word text fault = word_of text ≡ Err (Name fault)
IsMisread wanted.Grade text fault = grade_of text ≡ Err (Name fault)
IsMisread wanted.Address text fault = IsBadAddress (text ∷ []) fault
IsMisread wanted.Origin text fault = origin_of text ≡ Err (Name fault)
