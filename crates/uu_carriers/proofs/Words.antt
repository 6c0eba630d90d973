-- What the words of a line ask for is of a line of texts.
use Rattle.std.proofs.Common.{◌≡◌, ◌⊎◌, ◌++◌, ℕ, List, [], ◌∷◌, map, Contains, Option, Some, None, Result, Ok, Err, refl, sym, ap, subst, ◌∙◌, arith, inl, inr, append-nil, append_assoc, cond, All, Bool, true, false, if◌then◌else◌}
use Rattle.std.proofs.Common.{get_or}
use Rattle.uu_times.specs.SysFile.{sys_file_of}
use Rattle.uu_times.specs.declared.system.SysFile.{SysFile}
use Rattle.uu_times.specs.declared.fault.TimeFault.{TimeFault}
use Rattle.uu_times.specs.declared.moment.Moment.{Moment}
use Rattle.uu_map.specs.Split.{entries_of}
use Rattle.uu_map.specs.declared.entry.EntryText.{EntryText}
use Rattle.uu_core.specs.declared.command.Command.{Command}
use Rattle.uu_core.specs.declared.command.Command.TheVariants as command
use Rattle.uu_core.specs.declared.job.NewJob.{NewJob}
use Rattle.uu_core.specs.TakeIns.{commands_in, offering}
use Rattle.uu_bundle.specs.Reading.{IsRead}
use Rattle.uu_bundle.specs.declared.bundle.Bundle.{Bundle}
use Rattle.uu_custody.specs.Events.{sender, receiver}
use Rattle.uu_custody.specs.Carried.{IsBeside}
use Rattle.uu_line.specs.declared.origin.Origin.{Origin}
use Rattle.uu_line.specs.declared.task.Task.{Task}
use Rattle.uu_line.specs.declared.task.Task.TheVariants as task
use Rattle.uu_settings.specs.declared.settings.Settings.{Settings}
use Rattle.uu_request.specs.Marks.{key_of}
use Rattle.uu_request.specs.Requests.{TaskAsks, TaskAsksOf, bytes_at, entries, queue_command, load_request, one}
use Rattle.uu_request.specs.Unpacking.{AsksOf, IsBundleBetween, answer, offered, packing, spool_of, wrong_sites}
use Rattle.uu_request.specs.declared.fault.WrongBundle.{WrongBundle}
use Rattle.uu_request.specs.declared.fault.WrongBundle.TheVariants.{OtherSender, OtherSite}
use Rattle.uu_core.specs.declared.subject.Subject.TheVariants as subject
use Rattle.uu_bundle.specs.declared.bundle.Parcel.{Parcel}
use Rattle.uu_line.specs.Lines.{same_text}
use Rattle.uuspool.specs.Bundles.{numbers_told}
use Rattle.std.specs.Option.{option_to_list}
use Rattle.uu_names.proofs.Basics.{first_of, first_or_later, none_in, from_map}
use Rattle.uu_request.specs.declared.request.Settling.{Settling}
use Rattle.uu_request.specs.declared.request.Unpacking.{Unpacking}
use Rattle.uu_request.specs.declared.fault.RequestFault.{RequestFault}
use Rattle.uu_request.specs.declared.request.CommandList.{CommandList}
use Rattle.uu_request.specs.declared.request.Question.{Question}
use Rattle.uu_request.specs.declared.request.Request.{Request}
use Rattle.uu_request.specs.declared.request.Request.TheVariants as request
use Rattle.uuspool.specs.Mail.{mail_by}
use Rattle.uuspool.specs.Served.{AreCommandsOf}
use Rattle.uuspool.specs.ServedLines.{ServedLine}
use Rattle.uu_carriers.specs.Texts.{Places, chart_of, IsBrought, unpack, settle, other, IsOfLine}
use Rattle.uu_carriers.specs.Lines.{AskForBundle, HaveSameJobs, HaveSameTold, IsFrontOfOne, IsOfNoNeighbour, IsReadAsOne, MayBeTyped}

-- ---- texts that aren't read as a bundle

-- of no front of it a bundle is read
abbrev pub HasNoBundle : List ℕ → Type 0
HasNoBundle text = (front cut : List ℕ) → front ++ cut ≡ text → (bundle : Bundle) → IsRead front bundle → ⊥

begins_so : (front cut text : List ℕ) → front ++ cut ≡ text → (front ≡ []) ⊎ (get_or front 0 0 ≡ get_or text 0 0)
begins_so [] cut text same = inl refl
begins_so (byte ∷ front) cut text same = inr (ap (λ t. get_or t 0 0) same)

-- a bundle begins with a `b`
first_byte : (text : List ℕ) (bundle : Bundle) → IsRead text bundle → get_or text 0 0 ≡ 98
first_byte text bundle read = ap (λ t. get_or t 0 0) read.is_text

pub none_at : (text : List ℕ) → (get_or text 0 0 ≡ 98 → ⊥) → HasNoBundle text
none_at text differs front cut same bundle read = elim (begins_so front cut text same) [
  | inl nothing ↦ (let first : get_or [] 0 0 ≡ 98 = subst (λ t. get_or t 0 0 ≡ 98) nothing (first_byte front bundle read) in omega (arith, first))
  | inr begins ↦ differs (sym begins ∙ first_byte front bundle read)
]

pub none_of_nothing : (text : List ℕ) → text ≡ [] → HasNoBundle text
none_of_nothing text nothing = subst HasNoBundle (sym nothing) (none_at [] (λ first. omega (arith, first)))

pub none_of_front : (front cut whole : List ℕ) → front ++ cut ≡ whole → HasNoBundle whole → HasNoBundle front
none_of_front front cut whole same none first rest is bundle read =
    none first (rest ++ cut) (sym (append_assoc first rest cut) ∙ ap (λ l. l ++ cut) is ∙ same) bundle read

-- what was printed is the front of a bundle's text that was packed, or no bundle is read of it
abbrev pub StandsFor : List Bundle → List ℕ → Type 0
StandsFor packed text = IsBrought packed text ⊎ HasNoBundle text

abbrev pub Covers : List Bundle → List ServedLine → Type 0
Covers packed lines = (line : ServedLine) → Contains lines line → AskForBundle line → StandsFor packed line.output

brought : (packed : List Bundle) (lines : List ServedLine) (text : List ℕ) → Covers packed lines → IsFrontOfOne lines text → StandsFor packed text
brought packed lines text covers (line, inside, asks, cut, is) = elim (covers line inside asks) [
  | inl it ↦ inl (it.0, it.1, cut ++ it.2, sym (append_assoc text cut it.2) ∙ ap (λ l. l ++ it.2) is ∙ it.3)
  | inr none ↦ inr (none_of_front text cut line.output is none)
]

-- ---- commands of a request

abbrev pub granted : Request → Result Request RequestFault
granted asked = Ok asked

single : (only command : Command) (commands : List Command) → commands ≡ only ∷ [] → Contains commands command → only ≡ command
single only command commands are there = elim (first_or_later only command [] (subst (λ l. Contains l command) are there)) [
  | inl same ↦ same
  | inr later ↦ absurd (none_in command later)
]

by_one : (asked : Request) (only command : Command) (commands : List Command) → granted asked ≡ Ok (one only) → AreCommandsOf asked commands → Contains commands command → only ≡ command
by_one asked only command commands same are there =
    let is : asked ≡ one only = cc in
    single only command commands (subst (λ r. AreCommandsOf r commands) is are) there

by_none : (asked : Request) (it : Question) (command : Command) (commands : List Command) → granted asked ≡ Ok (request.Question it) → AreCommandsOf asked commands → Contains commands command → ⊥
by_none asked it command commands same are there =
    let is : asked ≡ request.Question it = cc in
    none_in command (subst (λ l. Contains l command) (subst (λ r. AreCommandsOf r commands) is are) there)

by_list : (asked : Request) (list : CommandList) (command : Command) (commands : List Command) → granted asked ≡ Ok (request.Commands list) → AreCommandsOf asked commands → Contains commands command → Contains list.commands command
by_list asked list command commands same are there =
    let is : asked ≡ request.Commands list = cc in
    subst (λ l. Contains l command) (subst (λ r. AreCommandsOf r commands) is are) there

-- what was asked of the spool is what the task asks, so its neighbour isn't a wrong one
pub asked_of_task : (settings : Settings) (at : Moment) (input user : List ℕ) (what : Task) (why : Option WrongBundle) (asked : Request)
    → (let answer : Result Request RequestFault = Ok asked in TaskAsksOf settings at input user what why answer)
    → (let answer : Result Request RequestFault = Ok asked in TaskAsks settings at input user what answer)
asked_of_task settings at input user what None asked is = is
asked_of_task settings at input user what (Some why) asked is = absurd (cc)

module _ (places : Places) (packed : List Bundle) (lines : List ServedLine) (covers : Covers packed lines) (site : ℕ) (settings : Settings) (own : settings.name ≡ places.name site) (at : Moment) (input user : List ℕ) where
  abbrev Of : Command → Type 0
  Of given = IsOfLine places packed site given

  -- a command that is beside each line
  beside : (given : Command) → ((line : ℕ) → (places.begins line ≡ site → IsBeside ((chart_of places).crossing line) sender given) × (places.ends line ≡ site → IsBeside ((chart_of places).crossing line) receiver given)) → Of given
  beside given may = (other given, may, first_of given [])

  of_hand_in : (once : Option Origin) (text : List ℕ) (job : NewJob) → IsOfNoNeighbour places site once → Of (queue_command (key_of once text) job)
  of_hand_in None text job may = beside (command.Queue job) (λ line. (λ b. tt, λ e. tt))
  of_hand_in (Some origin) text job may = beside (queue_command (key_of (Some origin) text) job) (λ line. (λ b. tt, λ e same. may (line, e, sym same)))

  -- what a request is made of is read of a text that was brought
  record Read (from : List ℕ) (HaveSame : Bundle → Bundle → Type 0) (bundle : Bundle) : Type 0 where
    front : List ℕ
    there : IsBrought packed front
    whole : Bundle
    said : IsBundleBetween from settings.name front (Ok whole)
    same : HaveSame bundle whole

  -- both are of the same sites
  same_sites : (from : List ℕ) (bundle whole : Bundle) → bundle.from ≡ whole.from → bundle.to ≡ whole.to → wrong_sites from settings.name bundle ≡ wrong_sites from settings.name whole
  same_sites from bundle whole first second =
      ap (λ n. cond (same_text n from) (cond (same_text bundle.to settings.name) None (Some OtherSite)) (Some OtherSender)) first
      ∙ ap (λ n. cond (same_text whole.from from) (cond (same_text n settings.name) None (Some OtherSite)) (Some OtherSender)) second

  read_of_brought : (from : List ℕ) (HaveSame : Bundle → Bundle → Type 0) (bundle : Bundle) → ((whole : Bundle) → HaveSame bundle whole → (bundle.from ≡ whole.from) × (bundle.to ≡ whole.to)) → IsReadAsOne HaveSame lines input
      → IsBundleBetween from settings.name input (Ok bundle) → Read from HaveSame bundle
  read_of_brought from HaveSame bundle sites may is =
      let one = may bundle is.0 in
      elim (brought packed lines one.0 covers one.1) [
        | inl it ↦ record { front = one.0; there = it; whole = one.2; said = (one.3, sym (same_sites from bundle one.2 (sites one.2 one.4).0 (sites one.2 one.4).1) ∙ is.1); same = one.4 }
        | inr none ↦ absurd (none one.0 [] (append-nil one.0) one.2 one.3)
      ]

  abbrev unpacking_of : List ℕ → List (List ℕ) → Bundle → Unpacking
  unpacking_of from onward bundle = record {
    bundle = record { from = from; below = bundle.below; jobs = map (offered settings at from onward) bundle.jobs };
    subjects = subject.Site from ∷ map (λ (parcel : Parcel). subject.Parcel parcel.number) bundle.jobs;
    skipped = option_to_list bundle.stopped;
  }

  of_unpack : (from : List ℕ) (onward : List (List ℕ)) (asked : Request) (commands : List Command) (given : Command) → IsReadAsOne HaveSameJobs lines input → TaskAsks settings at input user (task.Unpack from onward) (Ok asked)
      → AreCommandsOf asked commands → Contains commands given → Of given
  of_unpack from onward (request.Unpacking it) commands given may (Err why, is, same) are there = absurd (cc)
  of_unpack from onward (request.Unpacking it) commands given may (Ok bundle, is, same) are there =
      let read = read_of_brought from HaveSameJobs bundle (λ whole it. (it.from, it.to)) may is in
      let it_is : it ≡ unpacking_of from onward bundle = cc in
      let same_commands : commands ≡ commands_in (unpacking_of from onward read.whole).bundle =
      are ∙ ap (λ (i : Unpacking). commands_in i.bundle) it_is
      ∙ ap (λ b. command.Forget from b ∷ map (offering from) (map (offered settings at from onward) bundle.jobs)) read.same.below
      ∙ ap (λ j. command.Forget from read.whole.below ∷ map (offering from) (map (offered settings at from onward) j)) read.same.jobs in
      (unpack settings at read.front user from onward (unpacking_of from onward read.whole), (own, read.there, (Ok read.whole, read.said, refl)), subst (λ l. Contains l given) same_commands there)
  of_unpack from onward (request.Question it) commands given may asks are there = absurd (none_in given (subst (λ l. Contains l given) are there))
  of_unpack from onward (request.Settling it) commands given may (Err why, is, same) are there = absurd (cc)
  of_unpack from onward (request.Settling it) commands given may (Ok bundle, is, same) are there = absurd (cc)
  of_unpack from onward (request.Mailing mail) commands given may (Err why, is, same) are there = absurd (cc)
  of_unpack from onward (request.Mailing mail) commands given may (Ok bundle, is, same) are there = absurd (cc)
  of_unpack from onward (request.Commands list) commands given may (Err why, is, same) are there = absurd (cc)
  of_unpack from onward (request.Commands list) commands given may (Ok bundle, is, same) are there = absurd (cc)

  abbrev settling_of : List ℕ → Option (List ℕ) → Bundle → Settling
  settling_of from spool bundle = record { system = from; spool = spool_of spool; has = bundle.has; refused = bundle.refused }

  of_settle : (from : List ℕ) (spool : Option (List ℕ)) (asked : Request) (commands : List Command) (given : Command) → IsReadAsOne HaveSameTold lines input → TaskAsks settings at input user (task.Settle from spool) (Ok asked)
      → AreCommandsOf asked commands → Contains commands given → Of given
  of_settle from spool (request.Settling it) commands given may (Err why, is, same) are there = absurd (cc)
  of_settle from spool (request.Settling it) commands given may (Ok bundle, is, same) are there =
      let read = read_of_brought from HaveSameTold bundle (λ whole it. (it.from, it.to)) may is in
      let it_is : it ≡ settling_of from spool bundle = cc in
      let those : AreCommandsOf (request.Settling (settling_of from spool bundle)) commands = subst (λ (i : Settling). AreCommandsOf (request.Settling i) commands) it_is are in (
        settle settings at read.front user from spool (settling_of from spool read.whole) commands,
        (own, read.there, (Ok read.whole, read.said, refl), (those.0, those.1, subst (λ h. All (Contains (numbers_told h)) those.0) read.same.has those.2)),
        there,
      )
  of_settle from spool (request.Question it) commands given may asks are there = absurd (none_in given (subst (λ l. Contains l given) are there))
  of_settle from spool (request.Mailing mail) commands given may (Err why, is, same) are there = absurd (cc)
  of_settle from spool (request.Mailing mail) commands given may (Ok bundle, is, same) are there = absurd (cc)
  of_settle from spool (request.Commands list) commands given may (Err why, is, same) are there = absurd (cc)
  of_settle from spool (request.Commands list) commands given may (Ok bundle, is, same) are there = absurd (cc)
  of_settle from spool (request.Unpacking it) commands given may (Err why, is, same) are there = absurd (cc)
  of_settle from spool (request.Unpacking it) commands given may (Ok bundle, is, same) are there = absurd (cc)

  of_answer : (from : List ℕ) (made : Bundle → Request) (asked : Request) (commands : List Command) (given : Command) → ((bundle : Bundle) → (it : Question) × (made bundle ≡ request.Question it))
      → AsksOf from settings.name input made (Ok asked) → AreCommandsOf asked commands → Contains commands given → Of given
  of_answer from made asked commands given asks (Err why, is, same) are there = absurd (cc)
  of_answer from made asked commands given asks (Ok bundle, is, same) are there = let it = asks bundle in absurd (by_none asked it.0 given commands (same ∙ ap Ok it.1) are there)

  module _ (asked : Request) (commands : List Command) (are : AreCommandsOf asked commands) (given : Command) (there : Contains commands given) where
    of_one : (only : Command) → granted asked ≡ Ok (one only) → Of only → Of given
    of_one only same of = subst Of (by_one asked only given commands same are there) of

    of_none : (it : Question) → granted asked ≡ Ok (request.Question it) → Of given
    of_none it same = absurd (by_none asked it given commands same are there)

    of_mail : (mail : NewJob) → AreCommandsOf (request.Mailing mail) commands → Of given
    of_mail mail (inl none) = absurd (none_in given (subst (λ l. Contains l given) none there))
    of_mail mail (inr (way, is)) = subst Of (single (command.Queue (mail_by way mail)) given commands is there) (beside (command.Queue (mail_by way mail)) (λ line. (λ b. tt, λ e. tt)))

    -- a job that may go by the map, or not
    of_job : (once : Option Origin) (text : List ℕ) (job : NewJob) (by_map : Bool) → IsOfNoNeighbour places site once
        → granted asked ≡ Ok (if by_map then request.Mailing job else one (queue_command (key_of once text) job)) → Of given
    of_job once text job true may same = let is : asked ≡ request.Mailing job = cc in of_mail job (subst (λ r. AreCommandsOf r commands) is are)
    of_job once text job false may same = of_one (queue_command (key_of once text) job) same (of_hand_in once text job may)

    of_load : (file : Result SysFile TimeFault) → granted asked ≡ load_request file → Of given
    of_load (Err why) same = absurd (cc)
    of_load (Ok file) same =
        let it = from_map command.Define file.systems given (by_list asked (record { commands = map command.Define file.systems; subjects = _; skipped = file.skipped }) given commands same are there) in
        subst Of it.2 (beside (command.Define it.0) (λ line. (λ b. tt, λ e. tt)))

    of_map : granted asked ≡ Ok (entries input) → Of given
    of_map same =
        let it = from_map (λ (place : EntryText). command.Entry (bytes_at input place)) (entries_of input) given (by_list asked (record { commands = map (λ place. command.Entry (bytes_at input place)) (entries_of input); subjects = _; skipped = [] }) given commands same are there) in
        subst Of it.2 (beside (command.Entry (bytes_at input it.0)) (λ line. (λ b. tt, λ e. tt)))

    -- a request of a line gives commands of lines of texts
    pub of_task : (what : Task) → MayBeTyped places lines site input what → TaskAsks settings at input user what (Ok asked) → Of given
    of_task (task.Unpack from onward) may asks = of_unpack from onward asked commands given may asks are there
    of_task (task.Settle from spool) may asks = of_settle from spool asked commands given may asks are there
    of_task (task.Answer from onward grade spool after most no_jobs) may asks =
        of_answer from (answer settings at onward (packing from grade spool after most no_jobs)) asked commands given (λ bundle. (_, refl)) asks are there
    of_task task.Load may asks = of_load (sys_file_of input) asks
    of_task (task.Drop system) may asks = of_one (command.Remove system) asks (beside (command.Remove system) (λ line. (λ b. tt, λ e same. may (line, e, sym same))))
    of_task (task.Send system source target grade once) may asks = of_one _ asks (of_hand_in once _ _ may)
    of_task (task.Request system source target grade once) may asks = of_one _ asks (of_hand_in once _ _ may)
    of_task (task.Execute grade once system what arguments) may asks = of_job once _ _ _ may asks
    of_task (task.Mail grade once system rests) may asks = of_job once _ _ _ may asks
    of_task (task.Kill job) may asks = of_one _ asks (beside _ (λ line. (λ b. tt, λ e. tt)))
    of_task (task.Regrade job grade) may asks = of_one _ asks (beside _ (λ line. (λ b. tt, λ e. tt)))
    of_task (task.Rejuvenate job) may asks = of_one _ asks (beside _ (λ line. (λ b. tt, λ e. tt)))
    of_task (task.Failed system why) may asks = of_one _ asks (beside _ (λ line. (λ b. tt, λ e. tt)))
    of_task (task.Done system jobs) may asks = of_one (command.Done system at jobs) asks (beside (command.Done system at jobs) (λ line. (λ b same. may (line, b, sym same), λ e. tt)))
    of_task (task.Forget system below) may asks = of_one (command.Forget system below) asks (beside (command.Forget system below) (λ line. (λ b. tt, λ e same. may (line, e, sym same))))
    of_task (task.Pack system grade spool after most no_jobs) may asks = of_none _ asks
    of_task (task.List filter) may asks = of_none _ asks
    of_task (task.Show job) may asks = of_none _ asks
    of_task (task.Due system) may asks = of_none _ asks
    of_task (task.When filter) may asks = of_none _ asks
    of_task (task.Queues filter) may asks = of_none _ asks
    of_task (task.Polls system) may asks = of_none _ asks
    of_task task.Status may asks = of_none _ asks
    of_task (task.Systems system) may asks = of_none _ asks
    of_task task.Map may asks = of_map asks
    of_task (task.Neighbours host) may asks = of_none _ asks
    of_task task.Name may asks = of_none _ asks
    of_task (task.Routes host costs) may asks = of_none _ asks
