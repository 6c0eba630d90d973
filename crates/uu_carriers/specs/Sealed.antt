-- The same sites, if carriers seal what they move. Of what comes over the wire nothing is assumed
-- but that nobody without a key makes a right tag.
use Rattle.std.specs.Prelude.{⊤, ℕ, List, [], ◌∷◌, ◌++◌, All}
use Rattle.uu_line.specs.Lines.{MeansLine}
use Rattle.uu_line.specs.declared.line.CommandLine.{CommandLine}
use Rattle.uu_line.specs.declared.task.Task.{Task}
use Rattle.uu_line.specs.declared.task.Task.TheVariants as task
use Rattle.uu_seal.specs.Laws.{NoneIsForged, TagsTellApart}
use Rattle.uu_seal.specs.Opening.{IsOpened}
use Rattle.uuspool.specs.ServedLines.{ServedLine}
use Rattle.uu_carriers.specs.Lines.{IsFrontOfOne, MayBeTyped, Step, serves, ends}
use Rattle.uu_carriers.specs.Texts.{Places}

-- The text was opened with some keys, of any text. Whoever has one of these keys sealed with it
-- only what `pack` or `answer` printed in one of these lines, or beginnings of that. As far as the
-- tags of the text are right, one of them made each (nobody forges a tag), and no two different
-- texts that they tagged have the same tag.
pub record IsOpenedAsOne (lines : List ServedLine) (text : List ℕ) : Type 0 where
  pub keys : List (List ℕ)
  pub brought : List ℕ
  pub texts : List ℕ → List (List ℕ)
  pub printed : All (λ key. All (IsFrontOfOne lines) (texts key)) keys
  pub unforged : All (λ key. NoneIsForged key (texts key) brought) keys
  pub apart : All (λ key. TagsTellApart key (texts key)) keys
  pub opened : IsOpened keys brought text

-- The premise about the words and the input of a line, as `MayBeTyped` has it, but for `unpack` and
-- `settle`: what they read was opened.
abbrev pub MayBeTypedSealed : Places → List ServedLine → ℕ → List ℕ → Task → Type 0
MayBeTypedSealed places before site input (task.Unpack sender onward) = IsOpenedAsOne before input
MayBeTypedSealed places before site input (task.Settle system spool) = IsOpenedAsOne before input
MayBeTypedSealed places before site input other = MayBeTyped places before site input other

abbrev pub MayBeServedSealed : Places → List ServedLine → ℕ → ServedLine → Type 0
MayBeServedSealed places before site line = (it : CommandLine) → MeansLine line.words it → MayBeTypedSealed places before site line.input it.task

-- the premise holds for each line, with those that were served before it
abbrev pub GoInSealedLines : Places → List ServedLine → List Step → Type 0
GoInSealedLines places before [] = ⊤
GoInSealedLines places before (serves site line ∷ steps) = MayBeServedSealed places before site line × GoInSealedLines places (before ++ line ∷ []) steps
GoInSealedLines places before (ends site ∷ steps) = GoInSealedLines places before steps
