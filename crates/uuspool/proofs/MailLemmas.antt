-- How the way of mail is found, and how the command that queues it and its reply make up the service.
use Rattle.std.proofs.Common.{◌≡◌, ◌∙◌, ◌++◌, ◌∷◌, ◌≤◌, ◌<◌, ◌&&◌, inl, inr, ℕ, zero, suc, Bool, true, false, List, [], get_or, length, map, take, Option, Some, None, Result, Ok, Err, MatchOption, Vec, if◌then◌else◌, ap, arith, refl, subst, sym}
use Rattle.std.specs.Prelude.{◌↔◌, IsTrue, ⊤}
use Rattle.std.specs.List.{flat_map, list_all}
use Rattle.std.specs.declared.alloc.Global.{Global}
use Rattle.std.proofs.lemmas.List.{take_all}
use Rattle.sqlite.specs.Store.{Ghosts}
use Rattle.sqlite.specs.State.{HasCleanDisk}
use Rattle.uu_core.specs.Run.{state_after, replies_to}
use Rattle.uu_core.specs.State.{State}
use Rattle.uu_core.specs.declared.command.Command.{Command}
use Rattle.uu_core.specs.declared.job.NewJob.{NewJob}
use Rattle.uu_core.specs.declared.subject.Subject.{Subject}
use Rattle.uu_core.specs.declared.subject.Subject.TheVariants.{Line}
use Rattle.uu_map.specs.declared.entry.Entry.{Entry}
use Rattle.uu_names.specs.Name.{is_word}
use Rattle.uu_report.specs.Outputs.{answers_text, output_text, replies_status}
use Rattle.uu_report.specs.Reports.{site_text}
use Rattle.uu_request.specs.declared.request.Request.TheVariants as request
use Rattle.uu_routes.specs.Site.{IsSiteAnswer}
use Rattle.uu_routes.specs.declared.fault.RouteFault.{RouteFault}
use Rattle.uu_routes.specs.declared.site.SiteRoute.{SiteRoute}
use Rattle.uu_schema.specs.declared.fault.StoreFault.{StoreFault}
use Rattle.uu_store.specs.Runs.{GoesOn, Ran}
use Rattle.uu_store.specs.Spool as spool
use Rattle.uu_store.specs.declared.run.RunEnd.{RunEnd}
use Rattle.uu_store.specs.declared.spool.Spool.{Spool}
use Rattle.uu_settings.specs.declared.settings.Settings.{Settings}
use Rattle.uuspool.proofs.AskedLemmas.{asked_as, asked_fault_as}
use Rattle.uuspool.proofs.EndLemmas.{marked_stop}
use Rattle.uuspool.proofs.ServedLemmas.{chosen_so, end_is_late, failed_alone, marks_of_run, never_failed, noted_of_run, printed_as}
use Rattle.uuspool.proofs.ServedLinesLemmas.{Joins}
use Rattle.uuspool.specs.Internal.Asked.{IsAsked}
use Rattle.uuspool.specs.Mail.{IsRoutedWay, IsWayFound, address_by}
use Rattle.uuspool.specs.Served.{AreCommandsIn, AreCommandsOf, IsBrokenOff, IsNoted, IsOfCall, IsOutput, IsPrinted, IsPrintedEnd, IsServed, Marks}
use Rattle.uuspool.specs.declared.fault.Fault.{Fault}
use Rattle.uuspool.specs.declared.fault.Fault.TheVariants as fault

-- ---- addresses by way of sites

none_if : (is : Bool) (word : List ℕ) (made : Option (List ℕ)) → made ≡ (if is then Some word else None) → made ≡ None → is ≡ false
none_if true word made is none = absurd (cc)
none_if false word made is none = refl

and_false : (b : Bool) → b && false ≡ false
and_false true = refl
and_false false = refl

not_all : {X Y : Type 0} (p : Y → Bool) (f : X → Y) (xs : List X) (i : ℕ) (other : X) → i < length xs → p (f (get_or xs i other)) ≡ false → list_all p (map f xs) ≡ false
not_all p f [] i other within is = absurd (omega arith)
not_all p f (x ∷ xs) zero other within is = ap (λ b. b && list_all p (map f xs)) is
not_all p f (x ∷ xs) (suc i) other within is = ap (λ b. p (f x) && b) (not_all p f xs i other (omega arith) is) ∙ and_false (p (f x))

-- if one address isn't a word with the path before it, there are none
pub no_words : (sites addresses : List (List ℕ)) (path address other : List ℕ) (i : ℕ) (made : Option (List ℕ)) → path ≡ flat_map site_text sites → i < length addresses
    → address ≡ get_or addresses i other → made ≡ (if is_word (path ++ address) then Some (path ++ address) else None) → made ≡ None
    → None ≡ (if list_all is_word (map (address_by sites) addresses) then Some (map (address_by sites) addresses) else None)
no_words sites addresses path address other i made same within at is none =
    let bad : is_word (address_by sites (get_or addresses i other)) ≡ false =
    ap (λ p. is_word (p ++ get_or addresses i other)) (sym same) ∙ ap (λ a. is_word (path ++ a)) (sym at) ∙ none_if (is_word (path ++ address)) (path ++ address) made is none in
    sym (ap (λ b. if b then Some (map (address_by sites) addresses) else None) (not_all is_word (address_by sites) addresses i other within bad))

-- ---- the way of mail

pub routed_way : (entries given : List Entry) (own : List ℕ) (systems names : List (List ℕ)) (mail : NewJob) (found : Result (List SiteRoute) RouteFault) (way : List (List ℕ))
    → given ≡ entries → names ≡ systems → IsSiteAnswer given own names found → IsWayFound entries mail found way → IsRoutedWay entries own systems mail way
routed_way entries given own systems names mail found way same_entries same_names answer is = record {
  found = found;
  routes = subst (λ es. IsSiteAnswer es own systems found) same_entries (subst (λ ns. IsSiteAnswer given own ns found) same_names answer);
  way_is = is;
}

-- an answer, said in other words, or a fault
pub asked_into : {S : Type 0} {g : Ghosts S} {A : Type 0} (Is Other : State → A → Type 0) (old new : Spool S g) (r : Result A StoreFault) → ((s : State) (a : A) → Is s a → Other s a)
    → IsAsked (λ s. ⊤) Is old new r → IsAsked (λ s. ⊤) Other old new r
asked_into Is Other old new (Ok a) into asked = asked_as (λ s. ⊤) Is old new Other a a (λ s shown known was. into s a was) asked
asked_into Is Other old new (Err why) into asked = asked_fault_as (λ s. ⊤) Is old new Other why asked

-- ---- the service

abbrev line : List Subject
line = Line ∷ []

-- the output of the replies, and their status
abbrev IsWhole : RunEnd → List ℕ → ℕ → Type 0
IsWhole end output status = (output ≡ output_text line [] end.replies.items) × (status ≡ replies_status end.replies.items)

module _ {S : Type 0} {g : Ghosts S} (settings : Settings) (mail : NewJob) (old : Spool S g) where
  -- the store gave a fault before there was a command
  pub mailing_unasked : (new : Spool S g) (written : List ℕ → Type 0) (why : StoreFault) → Ran 1 [] old new [] (Some why) → Marks (spool.has_failed old) (spool.has_failed new) (Some why)
      → IsNoted old new (Some why) → (IsTrue (spool.has_failed old) → new ≡ old) → IsOfCall why → written []
      → (let r : Result ℕ Fault = Err (fault.Store why) in IsServed settings (request.Mailing mail) old new written r)
  mailing_unasked new written why ran marked noted failed call nothing = record {
    commands = [];
    replies = [];
    stopped = Some why;
    are = inl refl;
    chosen = λ clean s shown. inr refl;
    ran = ran;
    every = λ same. absurd (cc);
    printed = λ same. absurd (cc);
    shows = λ same. absurd (cc);
    broken_off = λ other same. (let is : why ≡ other = cc in (is, nothing));
    late = call;
    marked = marked;
    noted = noted;
    failed = λ had. (ap (λ w. Err (fault.Store w)) (failed_alone (spool.has_failed old) (spool.has_failed new) why marked had), nothing, failed had);
  }

  -- the command was given, and its reply printed
  pub mailing_served : (found : Vec Command Global) (mid new : Spool S g) (written : List ℕ → Type 0) (end : RunEnd) (r : Result ℕ Fault)
      → (let a : Result (Vec Command Global) StoreFault = Ok found in IsAsked (λ s. ⊤) (λ s (one : Vec Command Global). AreCommandsIn settings s (request.Mailing mail) one.items) old mid a)
      → AreCommandsOf (request.Mailing mail) found.items → Joins S g
      → Ran 1 found.items mid new end.replies.items end.stopped
      → (end.stopped ≡ None) ↔ ((spool.has_failed mid ≡ false) × (length end.replies.items ≡ length found.items))
      → MatchOption end.stopped ((spool.has_failed mid ≡ false) × (spool.has_failed new ≡ false)) (spool.IsFaultBetween (spool.has_failed mid) (spool.has_failed new))
      → IsPrintedEnd line [] end written r → IsServed settings (request.Mailing mail) old new written r
  mailing_served found mid new written end r asked are joins ran every marked ends = record {
    commands = found.items;
    replies = end.replies.items;
    stopped = end.stopped;
    are = are;
    chosen = λ clean s shown. chosen_so (AreCommandsIn settings s (request.Mailing mail)) r found.items (chosen_at clean s shown);
    ran = ran_all;
    every = λ none. (every.0 none).1;
    printed = λ none. printed_as (IsWhole end) _ written written r (λ output status is. (is, output_in none output status is)) (λ output wrote. wrote) (ends_by None none);
    shows = λ none clean s shown. subst (λ done. spool.Shows new (state_after s done)) (all none) ((ran_all.from clean s shown).shows (subst GoesOn (sym none) tt));
    broken_off = λ why same. ends_by (Some why) same;
    late = end_is_late end.stopped (IsWhole end) (answers_text line end.replies.items) written r (marked_stop end.stopped _ _ _ marked_all) ends;
    marked = marks_of_run _ _ end.stopped marked_all;
    noted = noted_of_run old new end.stopped marked_all;
    failed = never_failed (spool.has_failed old) asked.marked.0;
  }
    where
      clean_at : HasCleanDisk (spool.disk new) → HasCleanDisk (spool.disk mid)
      clean_at clean = omega (arith, ran.clean, clean)

      chosen_at : HasCleanDisk (spool.disk new) → (s : State) → spool.Shows old s → AreCommandsIn settings s (request.Mailing mail) found.items
      chosen_at clean s shown = (asked.answer (clean_at clean) s shown tt).0

      ran_all : Ran 1 found.items old new end.replies.items end.stopped
      ran_all = joins 1 1 old mid new [] found.items [] end.replies.items None end.stopped refl tt asked.ran ran

      marked_all : MatchOption end.stopped ((spool.has_failed old ≡ false) × (spool.has_failed new ≡ false)) (spool.IsFaultBetween (spool.has_failed old) (spool.has_failed new))
      marked_all = subst (λ b. MatchOption end.stopped ((b ≡ false) × (spool.has_failed new ≡ false)) (spool.IsFaultBetween b (spool.has_failed new))) (asked.marked.1 ∙ sym asked.marked.0) marked

      ends_by : (stopped : Option StoreFault) → end.stopped ≡ stopped
          → MatchOption stopped (IsPrinted (IsWhole end) written r) (λ why. IsBrokenOff why (answers_text line end.replies.items) written r)
      ends_by stopped same =
          subst (λ stop. MatchOption stop (IsPrinted (IsWhole end) written r) (λ why. IsBrokenOff why (answers_text line end.replies.items) written r)) same ends

      all : end.stopped ≡ None → take (length end.replies.items) found.items ≡ found.items
      all none =
          let enough : length found.items ≤ length end.replies.items = omega (arith, (every.0 none).1) in
          take_all (length end.replies.items) found.items enough

      output_in : end.stopped ≡ None → (output : List ℕ) (status : ℕ) → IsWhole end output status
          → HasCleanDisk (spool.disk new) → (s : State) → spool.Shows old s → IsOutput settings s (request.Mailing mail) output status
      output_in none output status is clean s shown =
          let replied : end.replies.items ≡ replies_to s found.items = (ran_all.from clean s shown).answers ∙ ap (replies_to s) (all none) in
          (found.items, chosen_at clean s shown, is.0 ∙ ap (output_text line []) replied, is.1 ∙ ap replies_status replied)
