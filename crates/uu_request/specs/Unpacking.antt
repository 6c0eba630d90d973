-- What is asked of a spool with a bundle of a neighbour. The bundle is taken whole or not at all,
-- each of its jobs once. Or it says which of this site's jobs the neighbour has. Or it is answered
-- by another. (The subcommands are this project's choice; `rmail` and bang paths: RFC 976.)
use Rattle.std.specs.Prelude.{◌≡◌, ℕ, Bool, true, false, ◌&&◌, nat_le, length, List, [], ◌∷◌, ◌++◌, map, take, find, Option, Some, None, Result, Ok, Err, codes, unwrap_or, if◌then◌else◌}
use Rattle.std.specs.List.{list_all, list_any, slice_split}
use Rattle.std.specs.Option.{option_to_list}
use Rattle.std.specs.Str.{byte}
use Rattle.uu_names.specs.Envelope.{envelope_of}
use Rattle.uu_names.specs.Name.{is_site_name, most_word}
use Rattle.uu_names.specs.Path.{first_hop, is_bang, rest_of}
use Rattle.uu_times.specs.declared.moment.Moment.{Moment}
use Rattle.uu_core.specs.State.{most_bytes}
use Rattle.uu_core.specs.declared.command.Command.{Command}
use Rattle.uu_core.specs.declared.command.Command.TheVariants as command
use Rattle.uu_core.specs.declared.job.Kind.{Kind}
use Rattle.uu_core.specs.declared.job.Kind.TheVariants as kind
use Rattle.uu_core.specs.declared.job.NewJob.{NewJob}
use Rattle.uu_core.specs.declared.subject.Subject.TheVariants as subject
use Rattle.uu_core.specs.declared.take_in.Offered.{Offered}
use Rattle.uu_bundle.specs.Reading.{IsNoBundle, IsRead}
use Rattle.uu_bundle.specs.declared.bundle.Bundle.{Bundle}
use Rattle.uu_bundle.specs.declared.bundle.Parcel.{Parcel}
use Rattle.uu_line.specs.Lines.{same_text}
use Rattle.uu_settings.specs.declared.settings.Settings.{Settings}
use Rattle.uu_request.specs.declared.fault.RequestFault.{RequestFault}
use Rattle.uu_request.specs.declared.fault.RequestFault.TheVariants as fault
use Rattle.uu_request.specs.declared.fault.WrongBundle.{WrongBundle}
use Rattle.uu_request.specs.declared.fault.WrongBundle.TheVariants.{NoBundle, OtherSender, OtherSite}
use Rattle.uu_request.specs.declared.request.Packing.{Packing}
use Rattle.uu_request.specs.declared.request.Question.TheVariants as question
use Rattle.uu_request.specs.declared.request.Request.{Request}
use Rattle.uu_request.specs.declared.request.Request.TheVariants as request

-- ---- whose bundle it is

-- why a bundle isn't from the one site to the other
abbrev pub wrong_sites : List ℕ → List ℕ → Bundle → Option WrongBundle
wrong_sites from to bundle =
    if same_text bundle.from from then (if same_text bundle.to to then None else Some OtherSite) else Some OtherSender

-- what a text is as a bundle from the one site to the other: the bundle, or why it isn't one
abbrev pub IsBundleBetween : List ℕ → List ℕ → List ℕ → Result Bundle RequestFault → Type 0
IsBundleBetween from to text (Ok bundle) = IsRead text bundle × (wrong_sites from to bundle ≡ None)
IsBundleBetween from to text (Err (fault.Bundle NoBundle)) = IsNoBundle text
IsBundleBetween from to text (Err (fault.Bundle why)) = (bundle : Bundle) × IsRead text bundle × (wrong_sites from to bundle ≡ Some why)
IsBundleBetween from to text (Err other) = ⊥

-- ---- a job of a bundle

-- the user that it belongs to here: SENDER!USER, or as much of its beginning as a word has room for
abbrev pub user_of : List ℕ → List ℕ → List ℕ
user_of sender user = take most_word (sender ++ byte "!" ∷ user)

-- the user is one of the site: SITE!.., and so has a `!`
abbrev pub IsUserAt : List ℕ → List ℕ → Type 0
IsUserAt site user = (rest : List ℕ) × (user ≡ site ++ byte "!" ∷ rest)

-- the parts of a path's text between its `!`: sites, and then a local part
abbrev pub are_steps : List (List ℕ) → Bool
are_steps [] = false
are_steps (local_part ∷ []) = nat_le 1 (length local_part)
are_steps (site ∷ next ∷ parts) = is_site_name site && are_steps (next ∷ parts)

-- an address goes to a system: it is a path that begins with the system
abbrev pub is_by_way_of : List ℕ → List ℕ → Bool
is_by_way_of system address =
    same_text (first_hop address) system && list_any is_bang address && are_steps (slice_split is_bang (rest_of address))

-- the first of these systems with which all addresses of a message begin
abbrev pub next_hop : List (List ℕ) → Kind → Option (List ℕ)
next_hop onward (kind.Execute command addresses) =
    if same_text command (codes "rmail") && nat_le 1 (length addresses)
    then find (λ system. list_all (is_by_way_of system) addresses) onward
    else None
next_hop onward other = None

-- what that system gets: each address without its first site
abbrev pub rests_of : Kind → List (List ℕ)
rests_of (kind.Execute command addresses) = map rest_of addresses
rests_of other = []

-- each address has more after its first site
abbrev pub have_rests : Kind → Bool
have_rests (kind.Execute command addresses) = list_all (λ address. nat_le 1 (length (rest_of address))) addresses
have_rests other = true

-- the job for the site itself
abbrev pub own_job : Settings → Moment → List ℕ → Parcel → NewJob
own_job settings at user parcel =
    record { system = settings.name; grade = parcel.grade; user = user; kind = parcel.kind; bytes = parcel.bytes; at = at }

-- the message for that system, in an envelope with the site's local date and time and the site's
-- name
abbrev pub message_to : Settings → Moment → List ℕ → Parcel → List ℕ → NewJob
message_to settings at user parcel system = record {
  system = system;
  grade = parcel.grade;
  user = user;
  kind = kind.Execute (codes "rmail") (rests_of parcel.kind);
  bytes = envelope_of user at.local settings.name parcel.bytes;
  at = at;
}

-- the message that is passed on, if there is such a system and the envelope isn't too large
abbrev pub passed_on : Settings → Moment → List ℕ → Parcel → Option (List ℕ) → Option NewJob
passed_on settings at user parcel None = None
passed_on settings at user parcel (Some system) =
    let message = message_to settings at user parcel system in if nat_le (length message.bytes) most_bytes then Some message else None

-- the job that is made of one of this sender's, if mail is passed on to these systems
abbrev pub job_made : Settings → Moment → List ℕ → List (List ℕ) → Parcel → NewJob
job_made settings at sender onward parcel =
    let user = user_of sender parcel.user in
    unwrap_or (passed_on settings at user parcel (next_hop onward parcel.kind)) (own_job settings at user parcel)

-- it is offered under the sender's number, with its mark
abbrev pub offered : Settings → Moment → List ℕ → List (List ℕ) → Parcel → Offered
offered settings at sender onward parcel =
    record { number = parcel.number; mark = parcel.mark; job = job_made settings at sender onward parcel }

-- the command that queues it, once
abbrev pub queue_once_command : Settings → Moment → List ℕ → List (List ℕ) → Parcel → Command
queue_once_command settings at sender onward parcel =
    command.QueueOnce (record { from = sender; number = parcel.number; mark = parcel.mark }) (job_made settings at sender onward parcel)

-- ---- a bundle

-- The bundle is taken whole or not at all: what the sender won't hand on again is forgotten, and
-- each job is queued once, in the order of the text. The first reply names the sender, and each
-- other the number that the job has there. If the reading stopped at a line, that line is skipped.
abbrev pub unpack : Settings → Moment → List ℕ → List (List ℕ) → Bundle → Request
unpack settings at sender onward bundle = request.Unpacking (record {
  bundle = record { from = sender; below = bundle.below; jobs = map (offered settings at sender onward) bundle.jobs };
  subjects = subject.Site sender ∷ map (λ parcel. subject.Parcel parcel.number) bundle.jobs;
  skipped = option_to_list bundle.stopped;
})

-- the word for this site's spool, if none is given
abbrev pub spool_of : Option (List ℕ) → List ℕ
spool_of word = unwrap_or word (codes "-")

-- which jobs the system has and which it refused
abbrev pub settle : List ℕ → Option (List ℕ) → Bundle → Request
settle system spool bundle =
    request.Settling (record { system = system; spool = spool_of spool; has = bundle.has; refused = bundle.refused })

-- ---- the bundles that are asked for

-- the bundle for a system
abbrev pub packing : List ℕ → ℕ → Option (List ℕ) → Option ℕ → Option ℕ → Bool → Packing
packing system grade spool after most no_jobs =
    record { system = system; grade = grade; spool = spool_of spool; after = after; most = most; no_jobs = no_jobs }

abbrev pub pack : Packing → Request
pack packing = request.Question (question.Pack packing)

-- that bundle as the answer to this one, with the commands that queue each of its jobs, once
abbrev pub answer : Settings → Moment → List (List ℕ) → Packing → Bundle → Request
answer settings at onward packing bundle = request.Question (question.Answer (record {
  packing = packing;
  asked = bundle.grade;
  commands = map (queue_once_command settings at packing.system onward) bundle.jobs;
}))

-- ---- requests made from a text

abbrev pub made_of : (Bundle → Request) → Result Bundle RequestFault → Result Request RequestFault
made_of made (Ok bundle) = Ok (made bundle)
made_of made (Err why) = Err why

-- the request for the bundle from the one site to the other
abbrev pub AsksOf : List ℕ → List ℕ → List ℕ → (Bundle → Request) → Result Request RequestFault → Type 0
AsksOf from to text made asked = (said : Result Bundle RequestFault) × IsBundleBetween from to text said × (asked ≡ made_of made said)
