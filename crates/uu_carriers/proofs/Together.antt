-- Messages come once in the files of sites whose lines go so.
use Rattle.std.proofs.Common.{◌<◌, ℕ, List, [], map, sym, ◌∙◌}
use Rattle.std.proofs.Math.Logic.{∥∥₁_elim, ∥∥₁_map}
use Rattle.uu_names.proofs.Basics.{none_in}
use Rattle.sqlite_wal.specs.Recovery.{Image}
use Rattle.uu_core.specs.State.{State}
use Rattle.uu_store.specs.Files.{FileStretch, last_left}
use Rattle.uu_store.proofs.FileRuns.{all_keep}
use Rattle.uu_store.proofs.Running.{RepliesFollow}
use Rattle.uu_custody.specs.AmongSites.{AreAmong, GoOn, IsInFiles, AllCameInBundles}
use Rattle.uu_custody.proofs.Sites.{Chosen, chosen}
use Rattle.uu_carriers.specs.Texts.{Places, chart_of, AreApart, Act, deed_of, GoInTexts}
use Rattle.uu_carriers.specs.Lines.{Step, runs_at, AreWithin, GoInLines, AreSites, HappenedOver, ComeOnceInFiles}
use Rattle.uu_carriers.proofs.Words.{Covers}
use Rattle.uu_carriers.proofs.Printed.{MayPack, MayAnswer}
use Rattle.uu_carriers.proofs.Runs.{sayings_of}
use Rattle.uu_carriers.proofs.Going.{History, go_all}
use Rattle.uu_carriers.proofs.Opened.{OneState, Sited, all_opened, sited}

nothing_covered : Covers [] []
nothing_covered line there asks = absurd (none_in line there)

are_apart : (places : Places) (count : ℕ) → AreSites places count → AreApart places
are_apart places count sites = record { names = sites.apart; lines = sites.lines }

module _ (before : ℕ → Image) (stretches : ℕ → List FileStretch) where
  abbrev Come : (places : Places) → ℕ → (ℕ → State) → List Act → List ℕ → Type 0
  Come places count first acts lines = AllCameInBundles (chart_of places) count first stretches (λ site. last_left (before site) (stretches site)) (map deed_of acts) lines

  -- what the laws say about histories in texts
  abbrev pub TextsCome : Type 0
  TextsCome = (places : Places) (count : ℕ) (first : ℕ → State) (acts : List Act) (lines : List ℕ) → AreApart places → AreAmong (chart_of places) count first lines → GoInTexts places [] acts → GoOn (map deed_of acts)
      → ((site : ℕ) → site < count → IsInFiles (places.name site) (first site) (before site) (stretches site) (map deed_of acts) site) → ∥ Come places count first acts lines ∥₁

  module _
      (replies : RepliesFollow) (one_state : OneState) (may_pack : MayPack) (may_answer : MayAnswer) (texts : TextsCome) (places : Places) (count : ℕ) (first : ℕ → State) (steps : List Step) (lines : List ℕ) (sites : AreSites places count)
      (among : AreAmong (chart_of places) count first lines) (within : AreWithin count steps) (typed : GoInLines places [] steps)
      (files : (site : ℕ) → site < count → HappenedOver (places.name site) (first site) (before site) (stretches site) (runs_at site steps))
    where
      module _ (choice : Chosen first before stretches count) where
        runs_of : (site : ℕ) → Sited places count site (before site) (stretches site) (runs_at site steps)
        runs_of site = sited places count site (before site) (stretches site) (runs_at site steps)
            (λ l. all_opened one_state places site (stretches site) (runs_at site steps) (before site) (first site) (choice.0 site) (choice.1 site l) (files site l).passed (files site l).are)

        history : History places count sites may_pack may_answer [] (λ site. (runs_of site).runs)
        history = go_all places count sites may_pack may_answer steps [] [] (λ site. (runs_of site).runs) nothing_covered typed within (λ site l. (runs_of site).go l)

        in_files : (site : ℕ) → site < count → IsInFiles (places.name site) (first site) (before site) (stretches site) (map deed_of history.acts) site
        in_files site l = record {
          keeps = (files site l).keeps;
          passed = (files site l).passed;
          told = (runs_of site).told l ∙ sym (history.told site l);
          said = (runs_of site).said l (sayings_of site history.acts) (history.said site l);
        }

        -- in which history in texts it was is not said
        come_so : ∥ ComeOnceInFiles (chart_of places) count first stretches (λ site. last_left (before site) (stretches site)) lines ∥₁
        come_so = ∥∥₁_map (texts places count first history.acts lines (are_apart places count sites) among history.around history.on in_files)
            (λ it. record { counted = it.come.counted; count_is = it.come.count_is; keep = it.come.keep; come = it.come.come; free = it.free })

      pub come_once : ∥ ComeOnceInFiles (chart_of places) count first stretches (λ site. last_left (before site) (stretches site)) lines ∥₁
      come_once = ∥∥₁_elim (chosen first before stretches count (λ site l. all_keep replies (stretches site) (before site) (first site) (files site l).keeps (files site l).passed)) squash₁ come_so
