-- Lines whose texts are sealed are lines whose texts nobody forges.
use Rattle.std.proofs.Common.{◌≡◌, ℕ, List, [], ◌∷◌, ◌++◌, All, Contains, refl, ap, ◌∙◌}
use Rattle.std.proofs.lemmas.List.{append_assoc}
use Rattle.std.proofs.lemmas.List.Elements.{All-contains}
use Rattle.uu_bundle.specs.declared.bundle.Bundle.{Bundle}
use Rattle.uu_line.specs.declared.task.Task.{Task}
use Rattle.uu_line.specs.declared.task.Task.TheVariants as task
use Rattle.uu_seal.specs.Laws.{BeginsOneOf, NoneIsForged, TagsTellApart}
use Rattle.uu_seal.specs.Opening.{IsOpened}
use Rattle.uuspool.specs.ServedLines.{ServedLine}
use Rattle.uu_carriers.specs.Lines.{GoInLines, HaveSameJobs, HaveSameTold, IsFrontOfOne, IsReadAsOne, MayBeTyped, Step, serves, ends}
use Rattle.uu_carriers.specs.Sealed.{GoInSealedLines, IsOpenedAsOne, MayBeTypedSealed}
use Rattle.uu_carriers.specs.Texts.{Places}

-- what is opened was sealed, as `uu_seal` has it
abbrev WereSealed : Type 0
WereSealed = (keys : List (List ℕ)) (texts : List ℕ → List (List ℕ)) (input opened : List ℕ) → All (λ key. NoneIsForged key (texts key) input) keys → All (λ key. TagsTellApart key (texts key)) keys → IsOpened keys input opened
    → (key : List ℕ) × Contains keys key × BeginsOneOf (texts key) opened

-- a beginning of a front is one
shorter_front : (lines : List ServedLine) (whole text cut : List ℕ) → IsFrontOfOne lines whole → text ++ cut ≡ whole → IsFrontOfOne lines text
shorter_front lines whole text cut (line, inside, asks, rest, is) front =
    (line, inside, asks, cut ++ rest, (sym_assoc ∙ ap (λ t. t ++ rest) front) ∙ is)
  where
    sym_assoc : text ++ (cut ++ rest) ≡ (text ++ cut) ++ rest
    sym_assoc = simp append_assoc

module _ (sealed : WereSealed) where
  opened_front : (lines : List ServedLine) (text : List ℕ) → IsOpenedAsOne lines text → IsFrontOfOne lines text
  opened_front lines text it =
      let one = sealed it.keys it.texts it.brought text it.unforged it.apart it.opened in
      let of_key = All-contains (λ key. All (IsFrontOfOne lines) (it.texts key)) it.keys one.0 it.printed one.1 in
      let begins = one.2 in
      shorter_front lines begins.whole text begins.cut (All-contains (IsFrontOfOne lines) (it.texts one.0) begins.whole of_key begins.is_one) begins.is_front

  read_as_one : (HaveSame : Bundle → Bundle → Type 0) → ((bundle : Bundle) → HaveSame bundle bundle) → (lines : List ServedLine) (text : List ℕ) → IsOpenedAsOne lines text → IsReadAsOne HaveSame lines text
  read_as_one HaveSame itself lines text it bundle read = (text, opened_front lines text it, bundle, read, itself bundle)

  may_be_typed : (places : Places) (before : List ServedLine) (site : ℕ) (input : List ℕ) (it : Task) → MayBeTypedSealed places before site input it → MayBeTyped places before site input it
  may_be_typed places before site input (task.Unpack sender onward) may = read_as_one HaveSameJobs (λ bundle. record { from = refl; to = refl; below = refl; jobs = refl }) before input may
  may_be_typed places before site input (task.Settle system spool) may = read_as_one HaveSameTold (λ bundle. record { from = refl; to = refl; has = refl }) before input may
  may_be_typed places before site input _ may = may

  pub go_in_lines : (places : Places) (before : List ServedLine) (steps : List Step) → GoInSealedLines places before steps → GoInLines places before steps
  go_in_lines places before [] go = tt
  go_in_lines places before (serves site line ∷ steps) go = (λ it means. may_be_typed places before site line.input it.task (go.0 it means), go_in_lines places (before ++ line ∷ []) steps go.1)
  go_in_lines places before (ends site ∷ steps) go = go_in_lines places before steps go
