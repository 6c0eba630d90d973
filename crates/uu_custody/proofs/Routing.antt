-- A message goes over several sites.
use Rattle.std.proofs.Common.{◌≡◌, inl, inr, ℕ, Bool, true, false, List, [], ◌∷◌, ◌++◌, Contains, refl, sym, ap, subst, ◌∙◌}
use Rattle.std.proofs.lemmas.List.Elements.{Contains-append_cases}
use Rattle.std.specs.Str.{bytes_eq}
use Rattle.std.proofs.lemmas.Bool.{false≢true}
use Rattle.std.proofs.lemmas.Slice.Eq.{bytes_eq-Decides}
use Rattle.uu_names.proofs.Basics.{none_in, pairs_one, one_of_number}
use Rattle.uu_core.specs.declared.command.Command.{Command}
use Rattle.uu_core.specs.State.{State, Job}
use Rattle.uu_core.specs.After.{after}
use Rattle.uu_core.specs.Run.{state_after}
use Rattle.uu_handover.specs.Custody.{Crossing, Handed}
use Rattle.uu_handover.specs.Network.{Chart, IsRoute}
use Rattle.uu_custody.specs.Handovers.{handed_of, handed_in, Waited, HasCome, IsInCustody}
use Rattle.uu_custody.specs.Routes.{Course, ComeOnceOverAll, handed_over, IsOnItsWay, CameTo}
use Rattle.uu_custody.proofs.Coming.{there_then}

-- ---- a job that came waits from then on for the next site

-- after some of the commands it was there
record WasThere (s : State) (commands : List Command) (job : Job) : Type 0 where
  before : List Command
  behind : List Command
  commands_are : commands ≡ before ++ behind
  there : Contains (state_after s before).jobs job

was_there : (crossing : Crossing) (s : State) (commands : List Command) (handed : Handed) → Contains (handed_in crossing s commands) handed → WasThere s commands handed.job
was_there crossing s [] handed inside = absurd (none_in handed inside)
was_there crossing s (command ∷ commands) handed inside = elim (Contains-append_cases (handed_of crossing s command) (handed_in crossing (after s command).0 commands) handed inside) [
  | inl own ↦ (record { before = command ∷ []; behind = commands; commands_are = refl; there = there_then crossing s command handed own })
  | inr later ↦ (let it = was_there crossing (after s command).0 commands handed later in record { before = command ∷ it.before; behind = it.behind; commands_are = ap (λ l. command ∷ l) it.commands_are; there = it.there })
]

over_one : (chart : Chart) (course : Course) (line : ℕ) (lines : List ℕ) (job : Job)
    → IsInCustody (chart.crossing line) (course.first (chart.begins line)) (course.counted (chart.begins line)) (course.first (chart.ends line)) (course.counted (chart.ends line)) job
    → ((come : HasCome (chart.crossing line) (course.first (chart.ends line)) (course.counted (chart.ends line)) job) → IsOnItsWay chart course (chart.ends line) lines come.handed.job)
    → IsOnItsWay chart course (chart.begins line) (line ∷ lines) job
over_one chart course line lines job (inl waits) on = inl waits
over_one chart course line lines job (inr (inl killed)) on = inr (inl killed)
over_one chart course line lines job (inr (inr come)) on = inr (inr (inr (come.handed, come.there, come.of, on come)))

-- what becomes of it over the first line
first_line : (chart : Chart) (course : Course) (line site : ℕ) (lines : List ℕ) (job : Job) → IsRoute chart site (line ∷ lines) → ComeOnceOverAll chart course (line ∷ lines) → Waited (chart.crossing line) (course.first site) (course.counted site) job
    → IsInCustody (chart.crossing line) (course.first (chart.begins line)) (course.counted (chart.begins line)) (course.first (chart.ends line)) (course.counted (chart.ends line)) job
first_line chart course line site lines job route once waited = once.0.never_lost job (subst (λ n. Waited (chart.crossing line) (course.first n) (course.counted n) job) (sym route.0) waited)

-- what was queued here for the next line goes on, and what was queued for another system stays
goes_or_stays : (chart : Chart) (course : Course) (lines : List ℕ) (line next : ℕ) (job : Job) (come : HasCome (chart.crossing line) (course.first (chart.ends line)) (course.counted (chart.ends line)) job)
    → (Waited (chart.crossing next) (course.first (chart.ends line)) (course.counted (chart.ends line)) come.handed.job → IsOnItsWay chart course (chart.ends line) (next ∷ lines) come.handed.job)
    → IsOnItsWay chart course (chart.ends line) (next ∷ lines) come.handed.job
goes_or_stays chart course lines line next job come goes = by (bytes_eq come.handed.job.system (chart.crossing next).to) refl
  where
    by : (same : Bool) → bytes_eq come.handed.job.system (chart.crossing next).to ≡ same → IsOnItsWay chart course (chart.ends line) (next ∷ lines) come.handed.job
    by true is =
        let it = was_there (chart.crossing line) (course.first (chart.ends line)) (course.counted (chart.ends line)) come.handed come.there in
        let same = (bytes_eq-Decides come.handed.job.system (chart.crossing next).to).0 is in
        goes (record { before = it.before; behind = it.behind; commands_are = it.commands_are; there = it.there; system = same })
    by false is = inr (inr (inl (λ same. false≢true (sym is ∙ (bytes_eq-Decides come.handed.job.system (chart.crossing next).to).1 same), come.kept)))

pub on_its_way : (chart : Chart) (course : Course) (lines : List ℕ) (line site : ℕ) (job : Job) → IsRoute chart site (line ∷ lines) → ComeOnceOverAll chart course (line ∷ lines)
    → Waited (chart.crossing line) (course.first site) (course.counted site) job → IsOnItsWay chart course site (line ∷ lines) job
on_its_way chart course [] line site job route once waited =
    subst (λ n. IsOnItsWay chart course n (line ∷ []) job) route.0 (over_one chart course line [] job (first_line chart course line site [] job route once waited) (λ come. come.kept))
on_its_way chart course (next ∷ more) line site job route once waited =
    subst (λ n. IsOnItsWay chart course n (line ∷ next ∷ more) job) route.0
    (over_one chart course line (next ∷ more) job (first_line chart course line site (next ∷ more) job route once waited)
    (λ come. goes_or_stays chart course more line next job come (λ on. on_its_way chart course more next (chart.ends line) come.handed.job route.1 once.1 on)))

-- ---- at most once

pub never_twice : (chart : Chart) (course : Course) (lines : List ℕ) (job one other : Job) → ComeOnceOverAll chart course lines → CameTo chart course lines job one → CameTo chart course lines job other → one ≡ other
never_twice chart course [] job one other once first second = sym first ∙ second
never_twice chart course (line ∷ lines) job one other once (handed, there, is, first) (again, here, same, second) =
    let it : handed ≡ again = pairs_one (λ (a b : Handed). ¬ (a.number ≡ b.number)) (λ a b. a.number ≡ b.number) (λ a b far near. far near) (λ a b far near. far (sym near))
    (handed_over chart course line) once.0.never_twice handed again there here (is ∙ sym same) in
    never_twice chart course lines handed.job one other once.1 first (subst (λ (h : Handed). CameTo chart course lines h.job other) (sym it) second)

pub apart : (chart : Chart) (course : Course) (lines : List ℕ) (one other last same : Job) → ComeOnceOverAll chart course lines → CameTo chart course lines one last → CameTo chart course lines other same → last.number ≡ same.number → one.number ≡ other.number
apart chart course [] one other last same once first second is = ap (λ (j : Job). j.number) first ∙ is ∙ sym (ap (λ (j : Job). j.number) second)
apart chart course (line ∷ lines) one other last same once (handed, there, own, first) (again, here, its, second) is =
    let it : handed ≡ again = one_of_number (λ (h : Handed). h.job.number) (handed_over chart course line) handed again once.0.apart there here (apart chart course lines handed.job again.job last same once.1 first second is) in
    sym own ∙ ap (λ (h : Handed). h.number) it ∙ its
