-- The commands of a bundle are steps of custody.
use Rattle.std.proofs.Common.{◌≡◌, ◌∙◌, ◌&&◌, ap, sym, subst, refl, Bool, true, false, cond, true≢false, nat_eq, ℕ, List, [], ◌∷◌, ◌++◌, append_assoc, length, drop, arith, map, Option, Some, None, is_some, Result, Ok, Err, unwrap_or, codes}
use Rattle.std.specs.Prelude.{◌-◌, find, nat_le, take}
use Rattle.std.proofs.Math.Seq.{drop-append_seam}
use Rattle.std.proofs.lemmas.List.{length-append}
use Rattle.std.specs.List.{All, ends_with, list_all}
use Rattle.std.specs.Cmp.Lexicographic.{pointwise}
use Rattle.std.proofs.lemmas.Bool.{or_right, or_left}
use Rattle.uu_names.specs.Envelope.{envelope_of, from_line, quote_of}
use Rattle.uu_names.specs.Name.{is_site_name}
use Rattle.uu_names.proofs.Basics.{text_from, text_to}
use Rattle.uu_times.specs.declared.moment.Moment.{Moment}
use Rattle.std.proofs.lemmas.List.Elements.{All-cons, All-nil, All-tail, All-head}
use Rattle.uu_handover.specs.Bundles.{Packed}
use Rattle.uu_core.specs.State.{most_bytes}
use Rattle.uu_core.specs.TakeIns.{commands_in, offering}
use Rattle.uu_core.specs.declared.command.Command.{Command}
use Rattle.uu_core.specs.declared.command.Command.TheVariants.{Forget, QueueOnce}
use Rattle.uu_core.specs.declared.job.Kind.{Kind}
use Rattle.uu_core.specs.declared.job.Kind.TheVariants as kind
use Rattle.uu_core.specs.declared.job.NewJob.{NewJob}
use Rattle.uu_core.specs.declared.take_in.Offered.{Offered}
use Rattle.uu_bundle.specs.Bundles.{heading_of}
use Rattle.uu_bundle.specs.Reading.{IsRead, jobs_in}
use Rattle.uu_bundle.specs.Texts.{IsParcel, IsRecord}
use Rattle.uu_bundle.specs.declared.bundle.Bundle.{Bundle as BundleText}
use Rattle.uu_bundle.specs.declared.bundle.Heading.{Heading}
use Rattle.uu_bundle.specs.declared.bundle.Parcel.{Parcel}
use Rattle.uu_bundle.specs.declared.bundle.Record.{Record}
use Rattle.uu_bundle.specs.declared.bundle.Record.TheVariants.{Has, No, Job}
use Rattle.uu_line.specs.Lines.{same_text}
use Rattle.uu_settings.specs.declared.settings.Settings.{Settings}
use Rattle.uu_request.specs.Carried.{AreUnpacked, bundle_crossing, carried, is_job_of, is_unpacked, packed_job, said_of, same_kind}
use Rattle.uu_request.specs.Unpacking.{IsBundleBetween, IsUserAt, answer, is_by_way_of, job_made, made_of, message_to, next_hop, offered, own_job, passed_on, rests_of, settle, spool_of, queue_once_command, unpack, user_of, wrong_sites}
use Rattle.uu_request.specs.declared.fault.RequestFault.{RequestFault}
use Rattle.uu_request.specs.declared.fault.WrongBundle.TheVariants.{OtherSender, OtherSite}
use Rattle.uu_request.specs.declared.request.Answering.{Answering}
use Rattle.uu_request.specs.declared.request.Packing.{Packing}
use Rattle.uu_request.specs.declared.request.Question.TheVariants as question
use Rattle.uu_request.specs.declared.request.Request.{Request}
use Rattle.uu_request.specs.declared.request.Request.TheVariants as request
use Rattle.uu_request.specs.declared.request.Settling.{Settling}
use Rattle.uu_request.specs.declared.request.Unpacking.{Unpacking}
use Rattle.uu_request.proofs.Lists.{mapped_twice}
use Rattle.uu_request.proofs.WordLemmas.{user_at}

-- ---- a job that is made anew

all_same : (texts : List (List ℕ)) → pointwise same_text texts texts ≡ true
all_same [] = refl
all_same (text ∷ texts) = rw (text_to text) (all_same texts)

kind_same : (k : Kind) → same_kind k k ≡ true
kind_same (kind.Send source target) = rw (text_to source, text_to target) refl
kind_same (kind.Request source target) = rw (text_to source, text_to target) refl
kind_same (kind.Execute command arguments) = rw (text_to command, all_same arguments) refl

abbrev job_with : List ℕ → List ℕ → ℕ → Kind → List ℕ → Moment → NewJob
job_with user system grade k bytes at = record { system = system; grade = grade; user = user; kind = k; bytes = bytes; at = at }

is_its : (user system : List ℕ) (grade : ℕ) (k : Kind) (bytes : List ℕ) (at : Moment) → is_job_of user system k (job_with user system grade k bytes at) ≡ true
is_its user system grade k bytes at = rw (text_to user, text_to system, kind_same k) refl

with_bytes : (user system : List ℕ) (grade : ℕ) (k : Kind) (bytes : List ℕ) (at : Moment)
    → (is_job_of user system k (job_with user system grade k bytes at) && same_text bytes bytes) ≡ true
with_bytes user system grade k bytes at = rw (is_its user system grade k bytes at, text_to bytes) refl

-- the bytes of a message end with it
ends_so : (front back : List ℕ) → ends_with nat_eq (front ++ back) back ≡ true
ends_so front back =
    let behind : length (front ++ back) - length back ≡ length front = omega (arith, length-append front back) in
    ap (λ n. same_text back (drop n (front ++ back))) behind ∙ ap (same_text back) (drop-append_seam front back) ∙ text_to back

mailed : (user system : List ℕ) (grade : ℕ) (rests : List (List ℕ)) (line input : List ℕ) (at : Moment)
    → (let k = kind.Execute (codes "rmail") rests in
    is_job_of user system k (job_with user system grade k (line ++ quote_of input ++ input) at) && ends_with nat_eq (line ++ quote_of input ++ input) (quote_of input ++ input)) ≡ true
mailed user system grade rests line input at =
    let bytes = line ++ quote_of input ++ input in
    ap (λ b. b && ends_with nat_eq bytes (quote_of input ++ input)) (is_its user system grade (kind.Execute (codes "rmail") rests) bytes at)
    ∙ ap (λ b. ends_with nat_eq b (quote_of input ++ input)) (append_assoc line (quote_of input) input) ∙ ends_so line (quote_of input ++ input)

-- ---- whose bundle it is

right_sites : (from to : List ℕ) (bundle : BundleText) → wrong_sites from to bundle ≡ None → (bundle.from ≡ from) × (bundle.to ≡ to)
right_sites from to bundle right = go (same_text bundle.from from) (same_text bundle.to to) refl refl right
  where
    go : (a b : Bool) → same_text bundle.from from ≡ a → same_text bundle.to to ≡ b
        → cond a (cond b None (Some OtherSite)) (Some OtherSender) ≡ None → (bundle.from ≡ from) × (bundle.to ≡ to)
    go true true is also right = (text_from bundle.from from is, text_from bundle.to to also)
    go true false is also right = absurd cc
    go false b is also right = absurd cc

-- ---- a job

-- what is found passes
found_passes : {X : Type 0} (p : X → Bool) (xs : List X) (x : X) → find p xs ≡ Some x → p x ≡ true
found_passes p [] x is = absurd cc
found_passes p (y ∷ ys) x is = go (p y) refl (found_passes p ys x) is
  where
    go : (b : Bool) → p y ≡ b → (find p ys ≡ Some x → p x ≡ true) → cond b (Some y) (find p ys) ≡ Some x → p x ≡ true
    go true passes more is =
        let same : y ≡ x = cc in
        subst (λ z. p z ≡ true) same passes
    go false passes more is = more is

-- a message that is passed on to a system is passed on to it if it is the only one
alone : (onward : List (List ℕ)) (k : Kind) (system : List ℕ) → next_hop onward k ≡ Some system → is_some (next_hop (system ∷ []) k) ≡ true
alone onward (kind.Send source target) system is = absurd cc
alone onward (kind.Request source target) system is = absurd cc
alone onward (kind.Execute command addresses) system is =
    go (same_text command (codes "rmail") && nat_le 1 (length addresses)) is
  where
    passes : List ℕ → Bool
    passes one = list_all (is_by_way_of one) addresses

    chosen : (b : Bool) → b ≡ true → is_some (cond b (Some system) None) ≡ true
    chosen true is = refl
    chosen false is = absurd (true≢false (sym is))

    go : (b : Bool) → cond b (find (λ one. list_all (is_by_way_of one) addresses) onward) None ≡ Some system
        → is_some (cond b (find (λ one. list_all (is_by_way_of one) addresses) (system ∷ [])) None) ≡ true
    go true is = chosen (list_all (is_by_way_of system) addresses) (found_passes (λ one. list_all (is_by_way_of one) addresses) onward system is)
    go false is = absurd cc

module _ (settings : Settings) (at : Moment) (from : List ℕ) (parcel : Parcel) where
  abbrev user : List ℕ
  user = user_of from parcel.user

  own_is : is_unpacked from settings.name (carried parcel) (own_job settings at user parcel) ≡ true
  own_is = or_left _ _ (with_bytes user settings.name parcel.grade parcel.kind parcel.bytes at)

  message_is : (onward : List (List ℕ)) (system : List ℕ) → next_hop onward parcel.kind ≡ Some system
      → is_unpacked from settings.name (carried parcel) (message_to settings at user parcel system) ≡ true
  message_is onward system is =
      or_right _ _
      (ap (λ b. b && (is_job_of user system (kind.Execute (codes "rmail") (rests_of parcel.kind)) (message_to settings at user parcel system) && ends_with nat_eq (envelope_of user at.local settings.name parcel.bytes) (quote_of parcel.bytes ++ parcel.bytes)))
      (alone onward parcel.kind system is)
      ∙ mailed user system parcel.grade (rests_of parcel.kind) (from_line user at.local settings.name) parcel.bytes at)

  made_by : (onward : List (List ℕ)) (hop : Option (List ℕ)) → next_hop onward parcel.kind ≡ hop
      → is_unpacked from settings.name (carried parcel) (unwrap_or (passed_on settings at user parcel hop) (own_job settings at user parcel)) ≡ true
  made_by onward None is = own_is
  made_by onward (Some system) is = go (nat_le (length (envelope_of user at.local settings.name parcel.bytes)) most_bytes)
    where
      go : (b : Bool) → is_unpacked from settings.name (carried parcel) (unwrap_or (cond b (Some (message_to settings at user parcel system)) None) (own_job settings at user parcel)) ≡ true
      go true = message_is onward system is
      go false = own_is

  user_made : (hop : Option (List ℕ)) → (unwrap_or (passed_on settings at user parcel hop) (own_job settings at user parcel)).user ≡ user
  user_made None = refl
  user_made (Some system) = go (nat_le (length (envelope_of user at.local settings.name parcel.bytes)) most_bytes)
    where
      go : (b : Bool) → (unwrap_or (cond b (Some (message_to settings at user parcel system)) None) (own_job settings at user parcel)).user ≡ user
      go true = refl
      go false = refl

-- ---- a bundle

-- what the text of what is packed contains
abbrev unpacked_job : Packed → Parcel
unpacked_job packed_job = record {
  number = packed_job.parcel.number;
  mark = packed_job.mark;
  grade = packed_job.grade;
  user = packed_job.parcel.user;
  kind = packed_job.parcel.kind;
  bytes = packed_job.parcel.bytes;
}

module _ (settings : Settings) (at : Moment) (from : List ℕ) (onward : List (List ℕ)) where
  abbrev make : Packed → NewJob
  make packed_job = job_made settings at from onward (unpacked_job packed_job)

  abbrev taken : List ℕ → Packed → Command
  taken name packed_job = QueueOnce (record { from = name; number = packed_job.parcel.number; mark = packed_job.mark }) (make packed_job)

  taken_each : (jobs : List Parcel) → map (queue_once_command settings at from onward) jobs ≡ map (taken from) (map packed_job jobs)
  taken_each [] = refl
  taken_each (job ∷ jobs) = ap (λ commands. taken from (packed_job job) ∷ commands) (taken_each jobs)

  made_each : (jobs : List Parcel) → All (λ packed_job. is_unpacked from settings.name packed_job.parcel (make packed_job) ≡ true) (map packed_job jobs)
  made_each [] = All-nil (λ packed_job. is_unpacked from settings.name packed_job.parcel (make packed_job) ≡ true)
  made_each (job ∷ jobs) =
      All-cons (λ packed_job. is_unpacked from settings.name packed_job.parcel (make packed_job) ≡ true) (packed_job job) (map packed_job jobs)
      (made_by settings at from job onward (next_hop onward job.kind) refl) (made_each jobs)

abbrev IsMarked : Heading → Packed → Type 0
IsMarked heading packed_job = packed_job.mark ≡ (bundle_crossing heading.from heading.to heading.spool).mark packed_job.parcel

marked_each : (heading : Heading) (records : List Record) → All (IsRecord heading) records → All (IsMarked heading) (map packed_job (jobs_in records))
marked_each heading [] all = All-nil (IsMarked heading)
marked_each heading (Has told ∷ records) all = marked_each heading records (All-tail (IsRecord heading) (Has told) records all)
marked_each heading (No refused ∷ records) all = marked_each heading records (All-tail (IsRecord heading) (No refused) records all)
marked_each heading (Job job ∷ records) all =
    let it : IsParcel heading job = All-head (IsRecord heading) (Job job) records all in
    All-cons (IsMarked heading) (packed_job job) (map packed_job (jobs_in records)) it.mark
    (marked_each heading records (All-tail (IsRecord heading) (Job job) records all))

-- the commands of the jobs of a bundle that was read, with one before them that forgets
are_unpacked : (settings : Settings) (at : Moment) (input sender : List ℕ) (onward : List (List ℕ)) (bundle : BundleText)
    → IsRead input bundle → bundle.from ≡ sender → bundle.to ≡ settings.name
    → AreUnpacked (bundle_crossing bundle.from bundle.to bundle.spool) (said_of bundle)
    (Forget bundle.from bundle.below ∷ map (queue_once_command settings at sender onward) bundle.jobs)
are_unpacked settings at input sender onward bundle read from to =
    let jobs = map packed_job bundle.jobs in record {
      make = make settings at sender onward;
      commands_are =
          ap (λ taking. Forget bundle.from bundle.below ∷ taking) (taken_each settings at sender onward bundle.jobs)
          ∙ ap (λ name. Forget bundle.from bundle.below ∷ map (taken settings at sender onward name) jobs) (sym from);
      made =
          subst (λ name. All (λ packed_job. is_unpacked name bundle.to packed_job.parcel (make settings at sender onward packed_job) ≡ true) jobs) (sym from)
          (subst (λ name. All (λ packed_job. is_unpacked sender name packed_job.parcel (make settings at sender onward packed_job) ≡ true) jobs) (sym to)
          (made_each settings at sender onward bundle.jobs));
      marked = subst (λ taken. All (IsMarked (heading_of bundle)) (map packed_job taken)) (sym read.jobs) (marked_each (heading_of bundle) read.records read.each);
    }

-- the commands of a bundle that is to be taken
abbrev taken_of : Result Request RequestFault → List Command
taken_of (Ok (request.Unpacking it)) = commands_in it.bundle
taken_of _ = []

pub unpacked : (settings : Settings) (at : Moment) (input sender : List ℕ) (onward : List (List ℕ)) (it : Unpacking) (said : Result BundleText RequestFault)
    → IsBundleBetween sender settings.name input said
    → (let asked : Result Request RequestFault = Ok (request.Unpacking it) in asked ≡ made_of (unpack settings at sender onward) said)
    → (bundle : BundleText) × IsRead input bundle × (bundle.from ≡ sender) × (bundle.to ≡ settings.name)
    × AreUnpacked (bundle_crossing bundle.from bundle.to bundle.spool) (said_of bundle) (commands_in it.bundle)
unpacked settings at input sender onward it (Err fault) is_said asked = absurd cc
unpacked settings at input sender onward it (Ok bundle) is_said asked =
    let sites = right_sites sender settings.name bundle is_said.1 in
    let read = is_said.0 in
    let commands : commands_in it.bundle ≡ Forget bundle.from bundle.below ∷ map (queue_once_command settings at sender onward) bundle.jobs =
    ap taken_of asked ∙ ap (λ commands. Forget sender bundle.below ∷ commands) (mapped_twice (offering sender) (offered settings at sender onward) bundle.jobs)
    ∙ ap (λ name. Forget name bundle.below ∷ map (queue_once_command settings at sender onward) bundle.jobs) (sym sites.0) in (
      bundle,
      read,
      sites.0,
      sites.1,
      subst (AreUnpacked (bundle_crossing bundle.from bundle.to bundle.spool) (said_of bundle)) (sym commands)
          (are_unpacked settings at input sender onward bundle read sites.0 sites.1),
    )

-- what is settled
abbrev settling_in : Settling → Result Request RequestFault → Settling
settling_in other (Ok (request.Settling it)) = it
settling_in other _ = other

pub settles : (name input system : List ℕ) (spool : Option (List ℕ)) (it : Settling) (said : Result BundleText RequestFault)
    → IsBundleBetween system name input said
    → (let asked : Result Request RequestFault = Ok (request.Settling it) in asked ≡ made_of (settle system spool) said)
    → (bundle : BundleText) × IsRead input bundle × (bundle.from ≡ system) × (bundle.to ≡ name)
    × (it ≡ record { system = system; spool = spool_of spool; has = bundle.has; refused = bundle.refused })
settles name input system spool it (Err fault) is_said asked = absurd cc
settles name input system spool it (Ok bundle) is_said asked =
    let sites = right_sites system name bundle is_said.1 in
    (bundle, is_said.0, sites.0, sites.1, ap (settling_in it) asked)

-- what is answered
abbrev answering_in : Answering → Result Request RequestFault → Answering
answering_in other (Ok (request.Question (question.Answer it))) = it
answering_in other _ = other

pub answers : (settings : Settings) (at : Moment) (input : List ℕ) (onward : List (List ℕ)) (packing : Packing) (it : Answering) (said : Result BundleText RequestFault)
    → IsBundleBetween packing.system settings.name input said
    → (let asked : Result Request RequestFault = Ok (request.Question (question.Answer it)) in asked ≡ made_of (answer settings at onward packing) said)
    → (bundle : BundleText) × IsRead input bundle × (bundle.from ≡ packing.system) × (bundle.to ≡ settings.name)
    × (it.packing ≡ packing) × (it.asked ≡ bundle.grade)
    × AreUnpacked (bundle_crossing bundle.from bundle.to bundle.spool) (said_of bundle) (Forget bundle.from bundle.below ∷ it.commands)
answers settings at input onward packing it (Err fault) is_said asked = absurd cc
answers settings at input onward packing it (Ok bundle) is_said asked =
    let sites = right_sites packing.system settings.name bundle is_said.1 in
    let same = ap (answering_in it) asked in
    let commands : it.commands ≡ map (queue_once_command settings at packing.system onward) bundle.jobs = ap (λ (a : Answering). a.commands) same in (
      bundle,
      is_said.0,
      sites.0,
      sites.1,
      ap (λ (a : Answering). a.packing) same,
      ap (λ (a : Answering). a.asked) same,
      subst (λ taking. AreUnpacked (bundle_crossing bundle.from bundle.to bundle.spool) (said_of bundle) (Forget bundle.from bundle.below ∷ taking)) (sym commands)
          (are_unpacked settings at input packing.system onward bundle is_said.0 sites.0 sites.1),
    )

-- ---- whose jobs

-- the jobs of a bundle that is to be taken
abbrev jobs_taken : Result Request RequestFault → List Offered
jobs_taken (Ok (request.Unpacking it)) = it.bundle.jobs
jobs_taken _ = []

module _ (settings : Settings) (at : Moment) (from : List ℕ) (onward : List (List ℕ)) (named : is_site_name from ≡ true) where
  user_each : (jobs : List Parcel) → All (λ one. IsUserAt from one.job.user) (map (offered settings at from onward) jobs)
  user_each [] = All-nil (λ one. IsUserAt from one.job.user)
  user_each (job ∷ jobs) =
      let made = user_made settings at from job (next_hop onward job.kind) ∙ user_at from job.user named in
      All-cons (λ one. IsUserAt from one.job.user) (offered settings at from onward job) (map (offered settings at from onward) jobs)
      (take (254 - length from) job.user, made) (user_each jobs)

pub users_named : (settings : Settings) (at : Moment) (input sender : List ℕ) (onward : List (List ℕ)) (it : Unpacking) (said : Result BundleText RequestFault)
    → is_site_name sender ≡ true → IsBundleBetween sender settings.name input said
    → (let asked : Result Request RequestFault = Ok (request.Unpacking it) in asked ≡ made_of (unpack settings at sender onward) said)
    → All (λ one. IsUserAt sender one.job.user) it.bundle.jobs
users_named settings at input sender onward it (Err fault) named is_said asked = absurd cc
users_named settings at input sender onward it (Ok bundle) named is_said asked =
    subst (All (λ one. IsUserAt sender one.job.user)) (sym (ap jobs_taken asked)) (user_each settings at sender onward named bundle.jobs)
