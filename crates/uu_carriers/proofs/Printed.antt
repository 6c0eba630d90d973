-- What `pack` and `answer` print is a bundle that the site had to say, or no bundle is read of it.
use Rattle.std.proofs.Common.{◌≡◌, ◌⊎◌, ◌<◌, ◌^◌, ◌++◌, ℕ, map, All, Bool, true, false, List, [], ◌∷◌, Contains, Result, Ok, Err, refl, sym, ap, subst, ◌∙◌, arith, inl, inr, append-nil, append_assoc, true≢false}
use Rattle.std.specs.Prelude.{IsTrue}
use Rattle.std.specs.Cmp.Lexicographic.{bytes_decides}
use Rattle.std.proofs.lemmas.List.Elements.{All-contains}
use Rattle.std.proofs.lemmas.List.Folds.{list_any_none}
use Rattle.uu_names.specs.Grade.{grade_count}
use Rattle.uu_names.specs.Name.{is_site_name, is_word}
use Rattle.uu_names.proofs.Basics.{all_from, all_or_one, first_of, first_or_later, from_map, later_of, none_in}
use Rattle.uu_times.specs.declared.moment.Moment.{Moment}
use Rattle.uu_core.specs.declared.command.Command.{Command}
use Rattle.uu_core.specs.declared.command.Command.TheVariants.{QueueOnce}
use Rattle.uu_core.specs.declared.job.NewJob.{NewJob}
use Rattle.uu_core.specs.Marks.{marks_end}
use Rattle.uu_core.specs.declared.command.Reply.{Reply}
use Rattle.uu_core.specs.declared.system.SystemRow.{SystemRow}
use Rattle.uu_core.specs.State.{State, IsWellFormed, IsDefinition, has_system, is_system}
use Rattle.uu_handover.specs.Bundles.{IsSaid, Packed, key_for}
use Rattle.uu_custody.specs.Carried.{IsSaidBy}
use Rattle.uu_bundle.specs.Bundles.{IsBundle, bundle_text, heading_of}
use Rattle.uu_bundle.specs.Reading.{IsRead, jobs_in}
use Rattle.uu_bundle.specs.Texts.{IsParcel, IsRecord, marked_text}
use Rattle.uu_bundle.specs.declared.bundle.Bundle.{Bundle}
use Rattle.uu_bundle.specs.declared.bundle.Parcel.{Parcel}
use Rattle.uu_bundle.specs.declared.bundle.Record.{Record}
use Rattle.uu_bundle.specs.declared.bundle.Record.TheVariants.{Has, No, Job}
use Rattle.uu_bundle.proofs.MarkSizes.{mark_below}
use Rattle.uu_settings.specs.declared.settings.Settings.{Settings}
use Rattle.uu_request.specs.Carried.{bundle_crossing, packed_job as as_packed, said_of}
use Rattle.uu_request.specs.Unpacking.{job_made, queue_once_command}
use Rattle.uu_request.specs.declared.request.Answering.{Answering}
use Rattle.uu_request.specs.declared.request.Packing.{Packing}
use Rattle.uu_request.specs.declared.request.Question.{Question}
use Rattle.uu_request.specs.declared.request.Question.TheVariants as question
use Rattle.uu_request.specs.declared.request.Request.TheVariants as request
use Rattle.uuspool.specs.Answers.{IsAnswer}
use Rattle.uuspool.specs.Bundles.{IsAnswerText, IsBundleText, IsPacked, no_system}
use Rattle.uuspool.specs.ServedLines.{IsTold}
use Rattle.uuspool.specs.declared.fault.Fault.{Fault}
use Rattle.uuspool.specs.declared.fault.Fault.TheVariants as fault
use Rattle.uu_carriers.proofs.Words.{HasNoBundle, none_at, none_of_nothing, none_of_front}

-- the commands by which jobs of a bundle are queued
abbrev pub IsOfJobs : List ℕ → (Packed → NewJob) → List Packed → List Command → Type 0
IsOfJobs system make asked commands = commands ≡ map (λ packed. QueueOnce (key_for system packed) (make packed)) asked

abbrev pub IsOfText : Packed → Type 0
IsOfText packed = (packed.parcel.number < 2 ^ 32) × (packed.mark < marks_end)

-- what the program says of what is printed with status 0
abbrev pub IsSayable : Settings → State → List ℕ → List ℕ → List ℕ → Type 0
IsSayable settings s system word output =
    (bundle : Bundle) × (output ≡ bundle_text bundle) × IsBundle bundle × (bundle.spool ≡ word) × IsSaid settings.name system (bundle_crossing settings.name system word).mark s (said_of bundle)

abbrev pub MayPack : Type 0
MayPack = (settings : Settings) (s : State) (it : Packing) (output : List ℕ) → IsWellFormed s → IsTrue (is_site_name settings.name) → IsTrue (is_site_name it.system) → IsTrue (is_word it.spool)
    → it.grade < grade_count → IsAnswer settings s (question.Pack it) output 0 → IsSayable settings s it.system it.spool output

abbrev pub MayAnswer : Type 0
MayAnswer = (settings : Settings) (s : State) (it : Answering) (make : Packed → NewJob) (asked : List Packed) (output : List ℕ) → IsWellFormed s → IsTrue (is_site_name settings.name) → IsTrue (is_site_name it.packing.system)
    → IsTrue (is_word it.packing.spool) → it.packing.grade < grade_count → IsOfJobs it.packing.system make asked it.commands → All IsOfText asked → IsAnswer settings s (question.Answer it) output 0 → IsSayable settings s it.packing.system it.packing.spool output

-- a system that is known has a site's name
known_named : (s : State) (name : List ℕ) → IsWellFormed s → has_system s name ≡ true → IsTrue (is_site_name name)
known_named s name good known = elim (all_or_one (is_system name) s.systems) [
  | inl none ↦ absurd (true≢false (sym known ∙ list_any_none (is_system name) s.systems none))
  | inr it ↦ subst (λ n. IsTrue (is_site_name n)) ((bytes_decides it.0.def.name name).0 it.2) (All-contains (λ (row : SystemRow). IsDefinition row.def) s.systems it.0 good.definitions it.1).name
]

-- the text is that of a bundle, or a front of it, which the site had to say in this state
pub record IsSpoken (own word : List ℕ) (s : State) (text : List ℕ) : Type 0 where
  pub bundle : Bundle
  pub good : IsBundle bundle
  pub from : bundle.from ≡ own
  pub spool : bundle.spool ≡ word
  pub said : IsSaidBy own s (said_of bundle)
  pub cut : List ℕ
  pub is : text ++ cut ≡ bundle_text bundle

abbrev pub IsSpokenOrNone : List ℕ → List ℕ → State → List ℕ → Type 0
IsSpokenOrNone own word s text = IsSpoken own word s text ⊎ HasNoBundle text

front_spoken : (own word : List ℕ) (s : State) (front rest whole : List ℕ) → front ++ rest ≡ whole → IsSpokenOrNone own word s whole → IsSpokenOrNone own word s front
front_spoken own word s front rest whole same (inl it) = inl (record {
  bundle = it.bundle;
  good = it.good;
  from = it.from;
  spool = it.spool;
  said = it.said;
  cut = rest ++ it.cut;
  is = sym (append_assoc front rest it.cut) ∙ ap (λ l. l ++ it.cut) same ∙ it.is;
})
front_spoken own word s front rest whole same (inr none) = inr (none_of_front front rest whole same none)

sayable_is_spoken : (settings : Settings) (own word : List ℕ) (s : State) (system spool text : List ℕ) → settings.name ≡ own → spool ≡ word → IsSayable settings s system spool text → IsSpoken own word s text
sayable_is_spoken settings own word s system spool text named worded (bundle, is, good, of_spool, said) = record {
  bundle = bundle;
  good = good;
  from = said.from ∙ named;
  spool = of_spool ∙ worded;
  said = subst (λ n. IsSaidBy n s (said_of bundle)) named ((bundle_crossing settings.name system spool).mark, subst (λ t. IsSaid settings.name t (bundle_crossing settings.name system spool).mark s (said_of bundle)) (sym said.to) said);
  cut = [];
  is = append-nil text ∙ is;
}

-- no front of `no system` is a bundle
none_of_no_system : (text : List ℕ) → text ≡ no_system → HasNoBundle text
none_of_no_system text same = subst HasNoBundle (sym same) (none_at no_system (λ first. omega (arith, first)))

module _ (may_pack : MayPack) (may_answer : MayAnswer) (settings : Settings) (own word : List ℕ) (named : settings.name ≡ own) (is_own : IsTrue (is_site_name own)) (is_spool : IsTrue (is_word word)) (s : State) (good : IsWellFormed s) where
  is_name : IsTrue (is_site_name settings.name)
  is_name = subst (λ n. IsTrue (is_site_name n)) (sym named) is_own

  pub packed_spoken : (it : Packing) (output : List ℕ) (status : ℕ) → it.spool ≡ word → it.grade < grade_count → IsAnswer settings s (question.Pack it) output status → IsSpokenOrNone own word s output
  packed_spoken it output status worded graded is = by_system (has_system s it.system) refl is
    where
      by_system : (t : Bool) → has_system s it.system ≡ t → IsPacked t (IsBundleText settings.name it s) output status → IsSpokenOrNone own word s output
      by_system true e (text, zero) = inl (sayable_is_spoken settings own word s it.system it.spool output named worded
          (may_pack settings s it output good is_name (known_named s it.system good e) (subst (λ w. IsTrue (is_word w)) (sym worded) is_spool) graded (subst (λ t. IsPacked t (IsBundleText settings.name it s) output 0) (sym e) (text, refl))))
      by_system false e (same, one) = inr (none_of_no_system output same)

  pub answered_spoken : (it : Answering) (make : Packed → NewJob) (asked : List Packed) (output : List ℕ) (status : ℕ) → it.packing.spool ≡ word → it.packing.grade < grade_count → IsOfJobs it.packing.system make asked it.commands → All IsOfText asked → IsAnswer settings s (question.Answer it) output status → IsSpokenOrNone own word s output
  answered_spoken it make asked output status worded graded of texts is = by_system (has_system s it.packing.system) refl is
    where
      by_system : (t : Bool) → has_system s it.packing.system ≡ t → IsPacked t (IsAnswerText settings.name it s) output status → IsSpokenOrNone own word s output
      by_system true e (text, zero) = inl (sayable_is_spoken settings own word s it.packing.system it.packing.spool output named worded
          (may_answer settings s it make asked output good is_name (known_named s it.packing.system good e) (subst (λ w. IsTrue (is_word w)) (sym worded) is_spool) graded of texts (subst (λ t. IsPacked t (IsAnswerText settings.name it s) output 0) (sym e) (text, refl))))
      by_system false e (same, one) = inr (none_of_no_system output same)

  -- what was printed of the answer to a question, by how its line ended
  pub told_spoken : (it : Question) (replies : List Reply) (output : List ℕ) → ((whole : List ℕ) (status : ℕ) → IsAnswer settings s it whole status → IsSpokenOrNone own word s whole)
      → (r : Result ℕ Fault) → IsTold settings s (request.Question it) replies output r → IsSpokenOrNone own word s output
  told_spoken it replies output whole_is (Ok status) is = whole_is output status is
  told_spoken it replies output whole_is (Err (fault.Store why)) nothing = inr (none_of_nothing output nothing)
  told_spoken it replies output whole_is (Err fault.Write) (inl (whole, status, is, (front, rest, same, some, out))) =
      front_spoken own word s output rest whole (ap (λ l. l ++ rest) out ∙ sym same) (whole_is whole status is)
  told_spoken it replies output whole_is (Err fault.Write) (inr (front, rest, same, some, out)) = inr (none_of_nothing output (out ∙ no_front front rest same))
    where
      no_front : (front rest : List ℕ) → [] ≡ front ++ rest → front ≡ []
      no_front [] rest e = refl
      no_front (byte ∷ front) rest e = absurd (cc)
  told_spoken it replies output whole_is (Err fault.Memory) nothing = inr (none_of_nothing output nothing)
  told_spoken it replies output whole_is (Err (fault.Words text help)) none = absurd none
  told_spoken it replies output whole_is (Err (fault.Settings why)) none = absurd none
  told_spoken it replies output whole_is (Err (fault.Name why)) none = absurd none
  told_spoken it replies output whole_is (Err (fault.Time why)) none = absurd none
  told_spoken it replies output whole_is (Err fault.TwoSystems) none = absurd none
  told_spoken it replies output whole_is (Err fault.Input) none = absurd none
  told_spoken it replies output whole_is (Err fault.Read) none = absurd none
  told_spoken it replies output whole_is (Err (fault.Bundle why)) none = absurd none

-- ---- the jobs of a bundle that is read

-- a job, as a bundle has it
abbrev job_in : Packed → Parcel
job_in packed = record { number = packed.parcel.number; mark = packed.mark; grade = packed.grade; user = packed.parcel.user; kind = packed.parcel.kind; bytes = packed.parcel.bytes }

abbrev pub make_of : Settings → Moment → List ℕ → List (List ℕ) → Packed → NewJob
make_of settings at from onward packed = job_made settings at from onward (job_in packed)

pub of_jobs : (settings : Settings) (at : Moment) (from : List ℕ) (onward : List (List ℕ)) (jobs : List Parcel) → IsOfJobs from (make_of settings at from onward) (map as_packed jobs) (map (queue_once_command settings at from onward) jobs)
of_jobs settings at from onward [] = refl
of_jobs settings at from onward (job ∷ jobs) = ap (λ l. queue_once_command settings at from onward job ∷ l) (of_jobs settings at from onward jobs)

in_records : (records : List Record) (job : Parcel) → Contains (jobs_in records) job → Contains records (Job job)
in_records [] job there = absurd (none_in job there)
in_records (Has told ∷ records) job there = later_of (Has told) (Job job) records (in_records records job there)
in_records (No refused ∷ records) job there = later_of (No refused) (Job job) records (in_records records job there)
in_records (Job first ∷ records) job there = elim (first_or_later first job (jobs_in records) there) [
  | inl same ↦ subst (λ (j : Parcel). Contains (Job first ∷ records) (Job j)) same (first_of (Job first) records)
  | inr later ↦ later_of (Job first) (Job job) records (in_records records job later)
]

pub of_texts : (text : List ℕ) (bundle : Bundle) → IsRead text bundle → All IsOfText (map as_packed bundle.jobs)
of_texts text bundle read = all_from IsOfText (map as_packed bundle.jobs) (λ packed there.
    let one = from_map as_packed bundle.jobs packed there in
    let is : IsParcel (heading_of bundle) one.0 = All-contains (IsRecord (heading_of bundle)) read.records (Job one.0) read.each (in_records read.records one.0 (subst (λ l. Contains l one.0) read.jobs one.1)) in
    subst IsOfText one.2 (is.number, subst (λ m. m < marks_end) (sym is.mark) (mark_below (marked_text bundle.from bundle.to bundle.spool one.0.number one.0.user one.0.kind one.0.bytes))))
