-- How a bundle that is taken, or not, and what is printed of it, make up the service of `unpack`.
use Rattle.std.proofs.Common.{◌≡◌, ◌∙◌, ◌≤◌, ℕ, List, length, take, None, Result, false, ap, arith, refl, subst}
use Rattle.std.proofs.lemmas.List.{take_all}
use Rattle.sqlite.specs.Store.{Ghosts}
use Rattle.sqlite.specs.State.{HasCleanDisk}
use Rattle.uu_core.specs.State.{State}
use Rattle.uu_core.specs.Run.{state_after, replies_to}
use Rattle.uu_core.specs.TakeIns.{commands_in}
use Rattle.uu_core.specs.declared.command.Reply.{Reply}
use Rattle.uu_store.specs.Runs.{Ran}
use Rattle.uu_store.specs.Spool as spool
use Rattle.uu_store.specs.declared.spool.Spool.{Spool}
use Rattle.uu_settings.specs.declared.settings.Settings.{Settings}
use Rattle.uu_report.specs.Outputs.{output_text, replies_status}
use Rattle.uu_request.specs.declared.request.Request.TheVariants as request
use Rattle.uu_request.specs.declared.request.Unpacking.{Unpacking}
use Rattle.uuspool.proofs.ServedLemmas.{chosen_so, never_failed, printed_as, printed_is_late}
use Rattle.uuspool.specs.Served.{AreCommandsIn, IsOutput, IsPrinted, IsServed, in_hand}
use Rattle.uuspool.specs.declared.fault.Fault.{Fault}

-- the output of these replies, and their status
abbrev pub IsOfThem : Unpacking → List Reply → List ℕ → ℕ → Type 0
IsOfThem it replies output status = (output ≡ output_text it.subjects it.skipped replies) × (status ≡ replies_status replies)

module _ {S : Type 0} {g : Ghosts S} (settings : Settings) (it : Unpacking) (old new : Spool S g) (written : List ℕ → Type 0) where
  -- the bundle was taken, and its output printed
  pub unpacking_served : (replies : List Reply) (r : Result ℕ Fault) → Ran (in_hand (request.Unpacking it)) (commands_in it.bundle) old new replies None
      → length replies ≡ length (commands_in it.bundle) → (spool.has_failed old ≡ false) × (spool.has_failed new ≡ false)
      → IsPrinted (IsOfThem it replies) written r → IsServed settings (request.Unpacking it) old new written r
  unpacking_served replies r ran answered marked printed = record {
    commands = commands_in it.bundle;
    replies = replies;
    stopped = None;
    are = refl;
    chosen = λ clean s shown. chosen_so (AreCommandsIn settings s (request.Unpacking it)) r (commands_in it.bundle) refl;
    ran = ran;
    every = ((λ none. (marked.0, answered)), (λ all. refl));
    printed = λ none. printed_as (IsOfThem it replies) _ written written r (λ output status is. (is, output_in output status is)) (λ output wrote. wrote) printed;
    shows = λ none clean s shown. subst (λ commands. spool.Shows new (state_after s commands)) all ((ran.from clean s shown).shows tt);
    broken_off = λ why same. absurd (cc);
    late = printed_is_late (IsOfThem it replies) written r printed;
    marked = marked;
    noted = λ clean s shown kind same. absurd (cc);
    failed = never_failed (spool.has_failed old) marked.0;
  }
    where
      all : take (length replies) (commands_in it.bundle) ≡ commands_in it.bundle
      all = let enough : length (commands_in it.bundle) ≤ length replies = omega (arith, answered) in take_all (length replies) (commands_in it.bundle) enough

      output_in : (output : List ℕ) (status : ℕ) → IsOfThem it replies output status
          → HasCleanDisk (spool.disk new) → (s : State) → spool.Shows old s → IsOutput settings s (request.Unpacking it) output status
      output_in output status is clean s shown =
          let replied : replies ≡ replies_to s (commands_in it.bundle) = (ran.from clean s shown).answers ∙ ap (replies_to s) all in
          (is.0 ∙ ap (output_text it.subjects it.skipped) replied, is.1 ∙ ap replies_status replied)
