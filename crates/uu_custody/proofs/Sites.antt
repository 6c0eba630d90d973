-- Several sites with spools in files.
use Rattle.std.proofs.Common.{◌≡◌, ◌<◌, ℕ, zero, suc, Bool, true, false, cond, ◌==◌, List, [], ◌∷◌, refl, sym, subst, arith}
use Rattle.std.proofs.Math.Logic.{∥∥₁_elim, ∥∥₁_map}
use Rattle.std.proofs.lemmas.Bool.{eqb-true}
use Rattle.std.proofs.lemmas.Bool.Decides.{nat_tests}
use Rattle.sqlite_wal.specs.Recovery.{Image}
use Rattle.uu_core.specs.declared.command.Command.{Command}
use Rattle.uu_core.specs.State.{State, IsWellFormed, empty, link_of, new_link}
use Rattle.uu_core.specs.Run.{state_after}
use Rattle.uu_handover.specs.Custody.{Crossing}
use Rattle.uu_handover.specs.Network.{Chart}
use Rattle.uu_store.specs.Exchanges.{Passes}
use Rattle.uu_store.specs.Openings.{ImageKeeps}
use Rattle.uu_store.specs.Files.{FileStretch, file_exchanges, last_left, KeepsThroughout, AllKeep}
use Rattle.uu_custody.specs.Events.{Event, sender, receiver, sessions_at, PassesTruly, nothing_sent, KeepsToWire, ForgetsWhatWasSaid}
use Rattle.uu_custody.specs.Handovers.{ComeOnce, NothingIsInTheWay}
use Rattle.uu_custody.specs.Routes.{Course, ComeOnceOver, ComeOnceOverAll, IsFreeOver}
use Rattle.uu_custody.specs.Sites.{HandsOver, AllHandOver, AllAreFree, AllComeOnce}
use Rattle.uu_custody.proofs.Spools.{Follow, truly_kept, last_keeps, good_kept}

passes_kept : (stretches : List FileStretch) (before : Image) (s : State) (counted : List Command) → KeepsThroughout s before stretches counted → Passes s (file_exchanges stretches) counted
passes_kept [] before s counted (none, keeps) = none
passes_kept (it ∷ more) before s counted (keeps, here, later, is, counts, then) = (here, later, is, counts, passes_kept more it.left (state_after s here) later then)

smaller : (a b : ℕ) → a == b ≡ false → a < suc b → a < b
smaller a b e l = grind (arith, nat_tests)

module _ (first : ℕ → State) (before : ℕ → Image) (stretches : ℕ → List FileStretch) where
  -- what counts at each of so many sites
  abbrev pub Chosen : ℕ → Type 0
  Chosen count = (counted : ℕ → List Command) × ((site : ℕ) → site < count → KeepsThroughout (first site) (before site) (stretches site) (counted site))

  one_more : (n : ℕ) → Chosen n → AllKeep (first n) (before n) (stretches n) → Chosen (suc n)
  one_more n (counted, keeps) (here, keep) = ((λ site. cond (site == n) here (counted site)), λ site l. by-test site l (site == n) refl)
    where
      by-test : (site : ℕ) → site < suc n → (t : Bool) → site == n ≡ t → KeepsThroughout (first site) (before site) (stretches site) (cond t here (counted site))
      by-test site l true e = subst (λ k. KeepsThroughout (first k) (before k) (stretches k) here) (sym (eqb-true site n e)) keep
      by-test site l false e = keeps site (smaller site n e l)

  pub chosen : (count : ℕ) → ((site : ℕ) → site < count → ∥ AllKeep (first site) (before site) (stretches site) ∥₁) → ∥ Chosen count ∥₁
  chosen zero each = ∣ ((λ site. []), λ site l. absurd (omega (arith, l))) ∣₁
  chosen (suc n) each = ∥∥₁_elim (chosen n (λ site l. each site (omega (arith, l)))) squash₁ (λ rest. ∥∥₁_map (each n (omega arith)) (one_more n rest))

  module _
      (states : Follow) (none : IsWellFormed empty)
      (plain : (crossing : Crossing) (a b : State) (events : List Event) (sent received : List Command) → IsWellFormed a → IsWellFormed b → link_of b crossing.from ≡ new_link crossing.from
      → PassesTruly crossing a (sessions_at sender events) sent → PassesTruly crossing b (sessions_at receiver events) received → KeepsToWire crossing nothing_sent events → ComeOnce crossing a sent b received × (ForgetsWhatWasSaid crossing nothing_sent events → NothingIsInTheWay crossing a sent b received))
      (chart : Chart) (count : ℕ) (events : ℕ → List Event) (keep : (site : ℕ) → site < count → ImageKeeps (before site) (first site))
    where
      module _ (counted : ℕ → List Command) (through : (site : ℕ) → site < count → KeepsThroughout (first site) (before site) (stretches site) (counted site)) where
        abbrev course : Course
        course = record { first = first; counted = counted }

        over_one : (line : ℕ) → HandsOver chart count first before stretches line (events line) → ComeOnceOver chart course line × (ForgetsWhatWasSaid (chart.crossing line) nothing_sent (events line) → IsFreeOver chart course line)
        over_one line it =
            let one = chart.begins line in
            let other = chart.ends line in
            plain (chart.crossing line) (first one) (first other) (events line) (counted one) (counted other)
            (good_kept none (before one) (first one) (keep one it.begins)) (good_kept none (before other) (first other) (keep other it.ends)) it.handover.nothing_kept
            (truly_kept (chart.crossing line) (stretches one) (sessions_at sender (events line)) (before one) (first one) (counted one) (through one it.begins) it.sent it.shown)
            (truly_kept (chart.crossing line) (stretches other) (sessions_at receiver (events line)) (before other) (first other) (counted other) (through other it.ends) it.received it.told)
            it.handover.keeps

        over_all : (lines : List ℕ) → AllHandOver chart count first before stretches events lines → ComeOnceOverAll chart course lines
        over_all [] all = tt
        over_all (line ∷ lines) all = ((over_one line all.0).0, over_all lines all.1)

        all_free : (lines : List ℕ) → AllHandOver chart count first before stretches events lines → AllAreFree chart course events lines
        all_free [] all = tt
        all_free (line ∷ lines) all = ((over_one line all.0).1, all_free lines all.1)

      pub all_come : (lines : List ℕ) → ((site : ℕ) → site < count → ∥ AllKeep (first site) (before site) (stretches site) ∥₁) → AllHandOver chart count first before stretches events lines
          → ∥ AllComeOnce chart count first stretches (λ site. last_left (before site) (stretches site)) events lines ∥₁
      all_come lines each all = ∥∥₁_map (chosen count each) one_choice
        where
          one_choice : Chosen count → AllComeOnce chart count first stretches (λ site. last_left (before site) (stretches site)) events lines
          one_choice (counted, through) = record {
            counted = counted;
            count_is = λ site l. passes_kept (stretches site) (before site) (first site) (counted site) (through site l);
            keep = λ site l. last_keeps states (stretches site) (before site) (first site) (counted site) (through site l);
            come = over_all counted through lines all;
            free = all_free counted through lines all;
          }
