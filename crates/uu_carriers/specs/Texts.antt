-- Several sites that hand their jobs on in texts. A bundle goes as the text that `pack` or `answer`
-- printed, or as any beginning of it, to any site, at any time, any number of times. Anything that
-- moves texts is a carrier. (The sites are this project's choice.)
use Rattle.std.specs.Prelude.{◌≡◌, ⊤, ℕ, List, [], ◌∷◌, ◌++◌, take, All, Contains, Option, Ok}
use Rattle.uu_times.specs.declared.moment.Moment.{Moment}
use Rattle.uu_core.specs.declared.command.Command.{Command}
use Rattle.uu_core.specs.declared.command.Reply.{Reply}
use Rattle.uu_handover.specs.Network.{Chart}
use Rattle.uu_core.specs.TakeIns.{commands_in}
use Rattle.uu_store.specs.Exchanges.{Ending}
use Rattle.uu_custody.specs.Events.{sender, receiver}
use Rattle.uu_custody.specs.Carried.{Deed, IsBeside}
use Rattle.uu_custody.specs.Carried.{runs as deed_runs, stops as deed_stops, says as deed_says}
use Rattle.uu_bundle.specs.Bundles.{IsBundle, bundle_text}
use Rattle.uu_bundle.specs.declared.bundle.Bundle.{Bundle}
use Rattle.uu_line.specs.declared.task.Task.TheVariants as task
use Rattle.uu_settings.specs.declared.settings.Settings.{Settings}
use Rattle.uu_request.specs.Carried.{bundle_crossing, said_of}
use Rattle.uu_request.specs.Requests.{TaskAsks}
use Rattle.uu_request.specs.declared.request.Request.TheVariants as request
use Rattle.uu_request.specs.declared.request.Settling.{Settling}
use Rattle.uu_request.specs.declared.request.Unpacking.{Unpacking}
use Rattle.uuspool.specs.Served.{AreCommandsOf}

-- ---- sites and lines

-- the name of each site, the word for its spool in its bundles, and where each line begins and ends
pub record Places : Type 0 where
  pub name : ℕ → List ℕ
  pub word : ℕ → List ℕ
  pub begins : ℕ → ℕ
  pub ends : ℕ → ℕ

-- what goes over a line is what the bundles of its beginning say to its end
abbrev pub chart_of : Places → Chart
chart_of places = record {
  begins = places.begins;
  ends = places.ends;
  crossing = λ line. bundle_crossing (places.name (places.begins line)) (places.name (places.ends line)) (places.word (places.begins line));
}

-- no two sites have the same name, and no line leads from a site to itself
pub record AreApart (places : Places) : Type 0 where
  pub names : (one other : ℕ) → places.name one ≡ places.name other → one ≡ other
  pub lines : (line : ℕ) → ¬ (places.begins line ≡ places.ends line)

-- ---- what happens

pub data Act : Type 0 where
  -- the spool of a site was given a command, and this reply came
  runs : (site : ℕ) (command : Command) (reply : Reply) → Act
  -- the spool of a site stopped, as in an event of `uu_custody`
  stops : (site : ℕ) (in_hand : ℕ) (unanswered : List Command) (ending : Ending) → Act
  -- a site packed this bundle, and its text was printed, or some of it
  packs : (site : ℕ) (bundle : Bundle) → Act

-- the same history in bundles
abbrev pub deed_of : Act → Deed ℕ
deed_of (runs site command reply) = deed_runs site command reply
deed_of (stops site in_hand unanswered ending) = deed_stops site in_hand unanswered ending
deed_of (packs site bundle) = deed_says site (said_of bundle)

-- ---- what a site is given

-- the text is that of one of these bundles, or a beginning of one
abbrev pub IsBrought : List Bundle → List ℕ → Type 0
IsBrought packed text = (whole : Bundle) × Contains packed whole × (cut : List ℕ) × (text ++ cut ≡ bundle_text whole)

-- The lines: `unpack`, which asks for the commands of a bundle, done as one; `settle`, which asks
-- for commands that remove jobs that the bundle has; and any other line, with its command.
pub data TextLine : Type 0 where
  unpack : (settings : Settings) (at : Moment) (input user from : List ℕ) (onward : List (List ℕ)) (it : Unpacking) → TextLine
  settle : (settings : Settings) (at : Moment) (input user from : List ℕ) (spool : Option (List ℕ)) (it : Settling) (commands : List Command) → TextLine
  other : (command : Command) → TextLine

abbrev pub commands_of : TextLine → List Command
commands_of (unpack settings at input user from onward it) = commands_in it.bundle
commands_of (settle settings at input user from spool it commands) = commands
commands_of (other command) = command ∷ []

-- The input is a text that was brought, with any settings that have the site's name. By other lines
-- a site doesn't report a job to a neighbour as gone, release one, hand in or forget one under a
-- neighbour's name, or remove a neighbour.
abbrev pub MayBeLine : Places → List Bundle → ℕ → TextLine → Type 0
MayBeLine places packed site (unpack settings at input user from onward it) =
    (settings.name ≡ places.name site) × IsBrought packed input × TaskAsks settings at input user (task.Unpack from onward) (Ok (request.Unpacking it))
MayBeLine places packed site (settle settings at input user from spool it commands) =
    (settings.name ≡ places.name site) × IsBrought packed input × TaskAsks settings at input user (task.Settle from spool) (Ok (request.Settling it))
    × AreCommandsOf (request.Settling it) commands
MayBeLine places packed site (other command) =
    (line : ℕ) → (places.begins line ≡ site → IsBeside ((chart_of places).crossing line) sender command) × (places.ends line ≡ site → IsBeside ((chart_of places).crossing line) receiver command)

abbrev pub IsOfLine : Places → List Bundle → ℕ → Command → Type 0
IsOfLine places packed site command = (line : TextLine) × MayBeLine places packed site line × Contains (commands_of line) command

-- a site packs bundles under its own name and its word
abbrev pub IsByLines : Places → List Bundle → Act → Type 0
IsByLines places packed (runs site command reply) = IsOfLine places packed site command
IsByLines places packed (stops site in_hand unanswered ending) = All (IsOfLine places packed site) (take in_hand unanswered)
IsByLines places packed (packs site bundle) = IsBundle bundle × (bundle.from ≡ places.name site) × (bundle.spool ≡ places.word site)

abbrev pub packed_by : Act → List Bundle
packed_by (runs site command reply) = []
packed_by (stops site in_hand unanswered ending) = []
packed_by (packs site bundle) = bundle ∷ []

-- each command that a site was given is of a line whose text was packed before it, by any site
abbrev pub GoInTexts : Places → List Bundle → List Act → Type 0
GoInTexts places packed [] = ⊤
GoInTexts places packed (act ∷ acts) = IsByLines places packed act × GoInTexts places (packed ++ packed_by act) acts
