-- Several sites, each with a spool in files, between which messages go.
use Rattle.std.specs.Prelude.{◌≡◌, ◌<◌, ⊤, ℕ, List, [], ◌∷◌}
use Rattle.sqlite_wal.specs.Recovery.{Image}
use Rattle.uu_core.specs.declared.command.Command.{Command}
use Rattle.uu_core.specs.State.{State}
use Rattle.uu_core.specs.Run.{state_after}
use Rattle.uu_handover.specs.Network.{Chart}
use Rattle.uu_store.specs.Exchanges.{Passes}
use Rattle.uu_store.specs.Openings.{ImageKeeps}
use Rattle.uu_store.specs.Files.{FileStretch, file_exchanges}
use Rattle.uu_custody.specs.Events.{Event, sender, receiver, sessions_at, exchanges_at, nothing_sent, ForgetsWhatWasSaid}
use Rattle.uu_custody.specs.Spools.{IsHandover, WereShownInFiles}
use Rattle.uu_custody.specs.Routes.{Course, ComeOnceOverAll, IsFreeOver}

-- The sites have the numbers below the count. This is a history of the two sites of a line: each
-- site's part of it is that of the stretches over its files, and the line keeps to its wire.
pub record HandsOver (chart : Chart) (count : ℕ) (first : ℕ → State) (before : ℕ → Image) (stretches : ℕ → List FileStretch) (line : ℕ) (events : List Event) : Type 0 where
  pub begins : chart.begins line < count
  pub ends : chart.ends line < count
  pub sent : file_exchanges (stretches (chart.begins line)) ≡ exchanges_at sender events
  pub received : file_exchanges (stretches (chart.ends line)) ≡ exchanges_at receiver events
  pub shown : WereShownInFiles (chart.crossing line) (before (chart.begins line)) (sessions_at sender events) (stretches (chart.begins line))
  pub told : WereShownInFiles (chart.crossing line) (before (chart.ends line)) (sessions_at receiver events) (stretches (chart.ends line))
  pub handover : IsHandover (chart.crossing line) (first (chart.ends line)) events

-- each of the lines has such a history
abbrev pub AllHandOver : Chart → ℕ → (ℕ → State) → (ℕ → Image) → (ℕ → List FileStretch) → (ℕ → List Event) → List ℕ → Type 0
AllHandOver chart count first before stretches events [] = ⊤
AllHandOver chart count first before stretches events (line ∷ lines) =
    HandsOver chart count first before stretches line (events line) × AllHandOver chart count first before stretches events lines

-- over each line, each waiting job is free if the end forgets only what was said
abbrev pub AllAreFree : Chart → Course → (ℕ → List Event) → List ℕ → Type 0
AllAreFree chart course events [] = ⊤
AllAreFree chart course events (line ∷ lines) = (ForgetsWhatWasSaid (chart.crossing line) nothing_sent (events line) → IsFreeOver chart course line) × AllAreFree chart course events lines

-- The files of each site keep the state after commands that count there, and by these jobs come
-- once over each of the lines. One choice of what counts at a site serves all its lines.
pub record AllComeOnce (chart : Chart) (count : ℕ) (first : ℕ → State) (stretches : ℕ → List FileStretch) (left : ℕ → Image) (events : ℕ → List Event) (lines : List ℕ) : Type 0 where
  pub counted : ℕ → List Command
  pub count_is : (site : ℕ) → site < count → Passes (first site) (file_exchanges (stretches site)) (counted site)
  pub keep : (site : ℕ) → site < count → ImageKeeps (left site) (state_after (first site) (counted site))
  pub come : ComeOnceOverAll chart (record { first = first; counted = counted }) lines
  pub free : AllAreFree chart (record { first = first; counted = counted }) events lines
