-- Spools over files.
use Rattle.std.proofs.Common.{◌≡◌, inl, inr, List, [], ◌∷◌, ◌++◌, sym, ap, subst, ◌∙◌}
use Rattle.sqlite_wal.specs.Recovery.{Image}
use Rattle.uu_core.specs.declared.command.Command.{Command}
use Rattle.uu_core.specs.State.{State, IsWellFormed, empty}
use Rattle.uu_core.specs.Run.{state_after}
use Rattle.uu_handover.specs.Custody.{Crossing}
use Rattle.uu_store.specs.Openings.{ImageKeeps}
use Rattle.uu_store.specs.Exchanges.{Counts}
use Rattle.uu_store.specs.Files.{FileStretch, file_exchanges, last_left, KeepsThroughout}
use Rattle.uu_custody.specs.Events.{Session, PassesTruly}
use Rattle.uu_custody.specs.Spools.{WereShownInFiles}
use Rattle.uu_custody.proofs.Sessions.{exchanges_of, heads, tails}

none_more : {X : Type 0} {x : X} {xs : List X} → [] ≡ x ∷ xs → ⊥
none_more e = cc

none_less : {X : Type 0} {x : X} {xs : List X} → x ∷ xs ≡ [] → ⊥
none_less e = cc

pub truly_kept : (crossing : Crossing) (stretches : List FileStretch) (sessions : List Session) (before : Image) (s : State) (counted : List Command)
    → KeepsThroughout s before stretches counted → file_exchanges stretches ≡ exchanges_of sessions → WereShownInFiles crossing before sessions stretches → PassesTruly crossing s sessions counted
truly_kept crossing [] [] before s counted (none, keeps) same shown = none
truly_kept crossing [] (session ∷ sessions) before s counted through same shown = absurd (none_more same)
truly_kept crossing (it ∷ more) [] before s counted through same shown = absurd (none_less same)
truly_kept crossing (it ∷ more) (session ∷ sessions) before s counted (keeps, here, later, is, counts, then) same shown =
    (here, later, is, subst (λ e. Counts e s here) (heads same) counts, shown.0 s keeps, truly_kept crossing more sessions it.left (state_after s here) later then (tails same) shown.1)

abbrev pub Follow : Type 0
Follow = (state : State) (first second : List Command) → state_after state (first ++ second) ≡ state_after (state_after state first) second

pub last_keeps : Follow → (stretches : List FileStretch) (before : Image) (s : State) (counted : List Command) → KeepsThroughout s before stretches counted → ImageKeeps (last_left before stretches) (state_after s counted)
last_keeps states [] before s counted (none, keeps) = subst (λ l. ImageKeeps before (state_after s l)) (sym none) keeps
last_keeps states (it ∷ more) before s counted (was, here, later, is, counts, then) =
    subst (ImageKeeps (last_left it.left more)) (sym (ap (state_after s) is ∙ states s here later)) (last_keeps states more it.left (state_after s here) later then)

-- what is kept is well-formed
pub good_kept : IsWellFormed empty → (image : Image) (s : State) → ImageKeeps image s → IsWellFormed s
good_kept none image s (inl (trees, held, inl it)) = it.2.good
good_kept none image s (inl (trees, held, inr it)) = subst IsWellFormed (sym it.1) none
good_kept none image s (inr nothing) = subst IsWellFormed (sym nothing.1) none
