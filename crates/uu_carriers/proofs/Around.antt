-- Texts that carriers move are bundles that go around.
use Rattle.std.proofs.Common.{◌≡◌, ℕ, true, List, [], ◌∷◌, ◌++◌, map, take, All, Contains, Option, Ok, refl, sym, ap, subst, ◌∙◌, inl, inr}
use Rattle.std.proofs.lemmas.List.{append-nil}
use Rattle.std.proofs.lemmas.List.Elements.{All-contains, All-weaker, Contains-append_left, Contains-append_right, Contains-push_cases}
use Rattle.uu_names.proofs.Basics.{first_of, none_in, all_from, from_map, in_map}
use Rattle.uu_times.specs.declared.moment.Moment.{Moment}
use Rattle.uu_core.specs.declared.command.Command.{Command}
use Rattle.uu_core.specs.declared.command.Command.TheVariants.{Release}
use Rattle.uu_core.specs.TakeIns.{commands_in}
use Rattle.uu_handover.specs.Bundles.{Packed, IsFront, IsFrontOf}
use Rattle.uu_handover.specs.Bundles.{Bundle as Said}
use Rattle.uu_custody.specs.Carried.{IsMarked}
use Rattle.uu_custody.specs.Carried.{unpack as unpacks, settle as settles_with, other as others}
use Rattle.uu_custody.specs.AmongSites.{AreNamed, IsOfLineAt, GoAround}
use Rattle.uu_bundle.specs.Bundles.{IsBundle, bundle_text, heading_of, records_of}
use Rattle.uu_bundle.specs.Texts.{IsParcel, IsRecord}
use Rattle.uu_bundle.specs.declared.bundle.Bundle.{Bundle}
use Rattle.uu_bundle.specs.declared.bundle.Record.TheVariants.{Has, No, Job}
use Rattle.uu_bundle.specs.declared.bundle.Told.{Told}
use Rattle.uu_line.specs.declared.task.Task.TheVariants as task
use Rattle.uu_settings.specs.declared.settings.Settings.{Settings}
use Rattle.uu_request.specs.Carried.{AreUnpacked, bundle_crossing, is_unpacked, packed_job, said_of, told_job}
use Rattle.uu_request.specs.Requests.{TaskAsks}
use Rattle.uu_request.specs.Unpacking.{spool_of}
use Rattle.uu_request.specs.declared.request.Request.TheVariants.{Settling as Settles_by, Unpacking as Unpacks_by}
use Rattle.uu_request.specs.declared.request.Settling.{Settling}
use Rattle.uu_request.specs.declared.request.Unpacking.{Unpacking}
use Rattle.uuspool.specs.Bundles.{numbers_told, release_of}
use Rattle.uu_carriers.specs.Texts.{Places, chart_of, AreApart, Act, runs, stops, packs, deed_of, unpack, settle, other, IsOfLine, GoInTexts}

-- ---- what was read

-- the numbers in it
same_numbers : (has : List Told) → numbers_told has ≡ map (λ one. one.number) (map told_job has)
same_numbers [] = refl
same_numbers (one ∷ has) = ap (λ l. one.number ∷ l) (same_numbers has)

-- ---- what carriers move

abbrev Unpacks : Type 0
Unpacks = (whole : Bundle) (front cut : List ℕ) (settings : Settings) (at : Moment) (user from : List ℕ) (onward : List (List ℕ)) (it : Unpacking) → IsBundle whole → front ++ cut ≡ bundle_text whole
    → TaskAsks settings at front user (task.Unpack from onward) (Ok (Unpacks_by it))
    → (whole.from ≡ from) × (whole.to ≡ settings.name) × ((bundle : Said) × IsFrontOf (said_of whole) bundle × AreUnpacked (bundle_crossing whole.from whole.to whole.spool) bundle (commands_in it.bundle))

abbrev Settles : Type 0
Settles = (whole : Bundle) (front cut : List ℕ) (settings : Settings) (at : Moment) (user system : List ℕ) (spool : Option (List ℕ)) (it : Settling) → IsBundle whole → front ++ cut ≡ bundle_text whole
    → TaskAsks settings at front user (task.Settle system spool) (Ok (Settles_by it))
    → (whole.from ≡ system) × (whole.to ≡ settings.name) × (it.system ≡ system) × (it.spool ≡ spool_of spool) × IsFront it.has whole.has × IsFront it.refused whole.refused

map_append : {X Y : Type 0} (f : X → Y) (xs ys : List X) → map f (xs ++ ys) ≡ map f xs ++ map f ys
map_append f [] ys = refl
map_append f (x ∷ xs) ys = ap (λ l. f x ∷ l) (map_append f xs ys)

-- a bundle that tells the first of what another has, and nothing else
abbrev cut_to : Bundle → List Told → Said
cut_to whole has = record { from = whole.from; to = whole.to; below = whole.below; grade = whole.grade; has = map told_job has; refused = []; jobs = [] }

is_cut : (whole : Bundle) (has : List Told) → IsFront has whole.has → IsFrontOf (said_of whole) (cut_to whole has)
is_cut whole has front = record {
  from = refl;
  to = refl;
  below = refl;
  grade = refl;
  has = record { rest = map told_job front.rest; is = ap (map told_job) front.is ∙ map_append told_job has front.rest };
  refused = record { rest = (said_of whole).refused; is = refl };
  jobs = record { rest = map packed_job whole.jobs; is = refl };
}

-- it removes jobs by one command, or there is none
of_release : (system numbers : List ℕ) (command : Command) → Contains (release_of system numbers) command → Contains (Release system numbers ∷ []) command
of_release system [] command there = absurd (none_in command there)
of_release system (number ∷ numbers) command there = there

-- what was packed was said, and is read back
record Knows (packs_so_far : List Bundle) (said : List Said) : Type 0 where
  there : (whole : Bundle) → Contains packs_so_far whole → Contains said (said_of whole)
  good : (whole : Bundle) → Contains packs_so_far whole → IsBundle whole

module _ (places : Places) (unpacked : Unpacks) (settles : Settles) where
  module _ (so_far : List Bundle) (said : List Said) (knows : Knows so_far said) where
    of-line : (site : ℕ) (command : Command) → IsOfLine places so_far site command → IsOfLineAt (chart_of places) places.name said site command
    of-line site command (unpack settings at input user from onward it, (own, (whole, inside, cut, is), asks), there) = by_bundle (unpacked whole input cut settings at user from onward it (knows.good whole inside) is asks)
      where
        by_bundle : (whole.from ≡ from) × (whole.to ≡ settings.name) × ((bundle : Said) × IsFrontOf (said_of whole) bundle × AreUnpacked (bundle_crossing whole.from whole.to whole.spool) bundle (commands_in it.bundle))
            → IsOfLineAt (chart_of places) places.name said site command
        by_bundle (from_is, to_is, (bundle, front, are)) = (
          unpacks bundle are.make,
          ((said_of whole, knows.there whole inside, front), front.to ∙ to_is ∙ own, makes),
          subst (λ l. Contains l command) are.commands_are there,
        )
          where
            makes : (line : ℕ) → places.ends line ≡ site → places.name (places.begins line) ≡ bundle.from → All (λ (one : Packed). is_unpacked (places.name (places.begins line)) (places.name (places.ends line)) one.parcel (are.make one) ≡ true) bundle.jobs
            makes line here named =
                subst (λ f. All (λ (one : Packed). is_unpacked f (places.name (places.ends line)) one.parcel (are.make one) ≡ true) bundle.jobs) (sym front.from ∙ sym named)
                (subst (λ t. All (λ (one : Packed). is_unpacked whole.from t one.parcel (are.make one) ≡ true) bundle.jobs) (to_is ∙ own ∙ ap places.name (sym here)) are.made)
    of-line site command (settle settings at input user from spool it commands, (own, (whole, inside, cut, is), asks, (numbers, are, all)), there) =
        by_told (settles whole input cut settings at user from spool it (knows.good whole inside) is asks)
      where
        by_told : (whole.from ≡ from) × (whole.to ≡ settings.name) × (it.system ≡ from) × (it.spool ≡ spool_of spool) × IsFront it.has whole.has × IsFront it.refused whole.refused
            → IsOfLineAt (chart_of places) places.name said site command
        by_told (from_is, to_is, system_is, spool_is, front, refused) = (
          settles_with (cut_to whole it.has) numbers,
          (
            (said_of whole, knows.there whole inside, is_cut whole it.has front),
            to_is ∙ own,
            subst (λ l. All (Contains l) numbers) (same_numbers it.has) all,
          ),
          subst (λ n. Contains (Release n numbers ∷ []) command) (system_is ∙ sym from_is) (of_release it.system numbers command (subst (λ l. Contains l command) are there)),
        )
    of-line site command (other given, may, there) = (others given, may, there)

  -- the marks of what a site packs are those of each line that begins there
  marked : (site : ℕ) (bundle : Bundle) → IsBundle bundle → bundle.from ≡ places.name site → bundle.spool ≡ places.word site → (line : ℕ) → places.begins line ≡ site → IsMarked ((chart_of places).crossing line) (said_of bundle)
  marked site bundle good from word line here to = all_from (λ (one : Packed). one.mark ≡ ((chart_of places).crossing line).mark one.parcel) (map packed_job bundle.jobs) each
    where
      each : (one : Packed) → Contains (map packed_job bundle.jobs) one → one.mark ≡ ((chart_of places).crossing line).mark one.parcel
      each one there =
          let job = from_map packed_job bundle.jobs one there in
          let is : IsParcel (heading_of bundle) job.0 = All-contains (IsRecord (heading_of bundle)) (records_of bundle) (Job job.0) good.records (Contains-append_right (map Has bundle.has) (map No bundle.refused ++ map Job bundle.jobs) (Job job.0) (Contains-append_right (map No bundle.refused) (map Job bundle.jobs) (Job job.0) (in_map Job bundle.jobs job.0 job.1))) in
          let own : (bundle_crossing bundle.from bundle.to bundle.spool).mark (packed_job job.0).parcel ≡ ((chart_of places).crossing line).mark (packed_job job.0).parcel =
          ap (λ f. (bundle_crossing f bundle.to bundle.spool).mark (packed_job job.0).parcel) (from ∙ ap places.name (sym here))
          ∙ ap (λ t. (bundle_crossing (places.name (places.begins line)) t bundle.spool).mark (packed_job job.0).parcel) to
          ∙ ap (λ w. (bundle_crossing (places.name (places.begins line)) (places.name (places.ends line)) w).mark (packed_job job.0).parcel) (word ∙ ap places.word (sym here)) in
          subst (λ (p : Packed). p.mark ≡ ((chart_of places).crossing line).mark p.parcel) job.2 (is.mark ∙ own)

  unmoved : (so_far : List Bundle) (said : List Said) → Knows so_far said → Knows (so_far ++ []) (said ++ [])
  unmoved so_far said knows = subst (λ l. Knows l (said ++ [])) (sym (append-nil so_far)) (subst (Knows so_far) (sym (append-nil said)) knows)

  one-more : (so_far : List Bundle) (said : List Said) (bundle : Bundle) → IsBundle bundle → Knows so_far said → Knows (so_far ++ bundle ∷ []) (said ++ said_of bundle ∷ [])
  one-more so_far said bundle good knows = record {
    there = λ whole inside. elim (Contains-push_cases so_far bundle whole inside) [
      | inl was ↦ Contains-append_left said (said_of bundle ∷ []) (said_of whole) (knows.there whole was)
      | inr same ↦ subst (λ (b : Bundle). Contains (said ++ said_of bundle ∷ []) (said_of b)) same (Contains-append_right said (said_of bundle ∷ []) (said_of bundle) (first_of (said_of bundle) []))
    ];
    good = λ whole inside. elim (Contains-push_cases so_far bundle whole inside) [
      | inl was ↦ knows.good whole was
      | inr same ↦ subst IsBundle same good
    ];
  }

  goes : (so_far : List Bundle) (said : List Said) (acts : List Act) → Knows so_far said → GoInTexts places so_far acts → GoAround (chart_of places) places.name said (map deed_of acts)
  goes so_far said [] knows around = tt
  goes so_far said (runs site command reply ∷ acts) knows around = (of-line so_far said knows site command around.0, goes (so_far ++ []) (said ++ []) acts (unmoved so_far said knows) around.1)
  goes so_far said (stops site in_hand unanswered ending ∷ acts) knows around = (
    All-weaker (IsOfLine places so_far site) (IsOfLineAt (chart_of places) places.name said site) (λ command of. of-line so_far said knows site command of) (take in_hand unanswered) around.0,
    goes (so_far ++ []) (said ++ []) acts (unmoved so_far said knows) around.1,
  )
  goes so_far said (packs site bundle ∷ acts) knows around =
      ((around.0.1, marked site bundle around.0.0 around.0.1 around.0.2), goes (so_far ++ bundle ∷ []) (said ++ said_of bundle ∷ []) acts (one-more so_far said bundle around.0.0 knows) around.1)

  pub goes_around : (acts : List Act) → GoInTexts places [] acts → GoAround (chart_of places) places.name [] (map deed_of acts)
  goes_around acts around = goes [] [] acts (record { there = λ whole inside. absurd (none_in whole inside); good = λ whole inside. absurd (none_in whole inside) }) around

pub are_named : (places : Places) → AreApart places → AreNamed (chart_of places) places.name
are_named places apart = record { own = apart.names; from = λ line. refl; to = λ line. refl; apart = apart.lines }
