-- The columns of a job that say what it is for.
use Rattle.std.specs.Prelude.{◌≡◌, ℕ, List, ⊤}
use Rattle.std.specs.List.{join_with_byte}
use Rattle.uu_names.specs.Text.{space}
use Rattle.uu_core.specs.declared.job.Kind.{Kind}
use Rattle.uu_core.specs.declared.job.Kind.TheVariants.{Send, Request, Execute}
use Rattle.uu_schema.specs.Cells.{kind_number, first_word, second_word}
use Rattle.uu_statements.specs.declared.words.KindColumns.{KindColumns}

-- the text is the arguments of this kind, if it has any
abbrev pub AreArguments : Kind → List ℕ → Type 0
AreArguments (Send source target) text = ⊤
AreArguments (Request source target) text = ⊤
AreArguments (Execute command arguments) text = text ≡ join_with_byte space arguments

-- they are those of this kind
pub record AreKindColumns (kind : Kind) (columns : KindColumns) : Type 0 where
  pub number : columns.kind ≡ kind_number kind
  pub first : columns.first_word.now ≡ first_word kind
  pub second : columns.second_word.now ≡ second_word kind
