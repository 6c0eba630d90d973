-- The jobs whose numbers are named, looked for one after another.
use Rattle.std.proofs.Common.{◌≡◌, ℕ, ◌+◌, ◌<◌, ◌==◌, Bool, true, false, List, [], ◌∷◌, ◌++◌, length, map, get_or, take, flat_map, Contains, Option, Some, None, refl, ap, sym, subst, ◌∙◌, inl, inr, arith, append-nil}
use Rattle.std.specs.Prelude.{find}
use Rattle.std.specs.List.{AllByRecursion}
use Rattle.std.proofs.lemmas.Bool.{cases_Bool}
use Rattle.std.proofs.lemmas.Bool.Decides.{nat_tests}
use Rattle.std.proofs.lemmas.List.{take_more}
use Rattle.std.proofs.lemmas.Grind.{flat_map-append}
use Rattle.sqlite.specs.Tree.{IsAscending as Ascends}
use Rattle.uu_core.specs.declared.job.JobHead.{JobHead}
use Rattle.uu_core.specs.State.{State, Job, IsWellFormed, head_of}
use Rattle.uu_core.specs.Laws.{AreFound, is_named}
use Rattle.sqlite_keyed.proofs.ListLemmas.{ascending-map}
use Rattle.uu_names.proofs.Basics.{first_or_later, first_of, later_of, none_in}
use Rattle.uu_rows.proofs.InOrder.{ascending_pairs}

abbrev pub has_number : ℕ → JobHead → Bool
has_number n j = j.number == n

abbrev pub one_or_none : {X : Type 0} → Option X → List X
one_or_none None = []
one_or_none (Some x) = x ∷ []

-- the jobs found, number by number
abbrev pub found_in : List JobHead → List ℕ → List JobHead
found_in jobs numbers = flat_map (λ n. one_or_none (find (has_number n) jobs)) numbers

-- ---- one number

found_there : (n : ℕ) (jobs : List JobHead) (j : JobHead) → find (has_number n) jobs ≡ Some j → Contains jobs j
found_there n [] j h = absurd (cc)
found_there n (x ∷ jobs) j h = elim (cases_Bool (has_number n x)) [
  | inl here ↦ let same : x ≡ j = (let k = rw here at h in cc) in rw same (first_of j jobs)
  | inr there ↦ later_of x j jobs (found_there n jobs j (rw there at h))
]

not_later : (n : ℕ) (x : JobHead) (jobs : List JobHead) (j : JobHead) → AllByRecursion (λ (b : JobHead). x.number < b.number) jobs → Contains jobs j → x.number < j.number
not_later n x [] j all h = absurd (none_in j h)
not_later n x (y ∷ jobs) j all h = elim (first_or_later y j jobs h) [ inl same ↦ subst (λ (k : JobHead). x.number < k.number) same all.0 | inr later ↦ not_later n x jobs j all.1 later ]

is_found : (n : ℕ) (jobs : List JobHead) (j : JobHead) → Ascends (λ (a b : JobHead). a.number < b.number) jobs → Contains jobs j → has_number n j ≡ true → find (has_number n) jobs ≡ Some j
is_found n [] j up h named = absurd (none_in j h)
is_found n (x ∷ jobs) j up h named = elim (first_or_later x j jobs h) [
  | inl same ↦ (let here : has_number n x ≡ true = ap (has_number n) same ∙ named in rw here (ap Some same))
  | inr later ↦ let less = not_later n x jobs j up.0 later in let there : has_number n x ≡ false = grind (arith, nat_tests) in rw there (is_found n jobs j up.1 later named)
]

-- ---- all numbers

sound : (jobs : List JobHead) (numbers : List ℕ) (j : JobHead) → Contains (found_in jobs numbers) j → Contains jobs j
sound jobs [] j h = absurd (none_in j h)
sound jobs (n ∷ numbers) j h = go (find (has_number n) jobs) refl h (sound jobs numbers j)
  where
    go : (o : Option JobHead) → find (has_number n) jobs ≡ o → Contains (one_or_none o ++ found_in jobs numbers) j → (Contains (found_in jobs numbers) j → Contains jobs j) → Contains jobs j
    go None e h more = more h
    go (Some x) e h more = elim (first_or_later x j (found_in jobs numbers) h) [ inl same ↦ found_there n jobs j (e ∙ ap Some same) | inr later ↦ more later ]

complete : (jobs : List JobHead) (numbers : List ℕ) (j : JobHead) → Ascends (λ (a b : JobHead). a.number < b.number) jobs → Contains jobs j → is_named numbers j ≡ true → Contains (found_in jobs numbers) j
complete jobs [] j up h named = absurd (cc)
complete jobs (n ∷ numbers) j up h named = elim (cases_Bool (n == j.number)) [
  | inl here ↦ let same : has_number n j ≡ true = grind (arith, nat_tests) in rw (is_found n jobs j up h same) (first_of j (found_in jobs numbers))
  | inr there ↦ behind (one_or_none (find (has_number n) jobs)) (complete jobs numbers j up h (rw there at named))
]
  where
    behind : (xs : List JobHead) → Contains (found_in jobs numbers) j → Contains (xs ++ found_in jobs numbers) j
    behind [] k = k
    behind (x ∷ xs) k = later_of x j (xs ++ found_in jobs numbers) (behind xs k)

pub are_found : (s : State) (numbers : List ℕ) (found : List JobHead) → IsWellFormed s → found ≡ found_in (map head_of s.jobs) numbers → AreFound numbers (map head_of s.jobs) found
are_found s numbers found good is =
    let up = ascending-map (λ (x y : JobHead). x.number < y.number) head_of s.jobs (ascending_pairs (λ (x y : Job). x.number < y.number) s.jobs good.rising) in
    rw is (record { there = sound (map head_of s.jobs) numbers; all = λ j h named. complete (map head_of s.jobs) numbers j up h named })

-- one number more
pub found_more : (jobs : List JobHead) (numbers : List ℕ) (i : ℕ) (found : List JobHead) (o : Option JobHead) → i < length numbers → found ≡ found_in jobs (take i numbers) → o ≡ find (has_number (get_or numbers i 0)) jobs
    → found ++ one_or_none o ≡ found_in jobs (take (i + 1) numbers)
found_more jobs numbers i found o lt so_far one =
    let n = get_or numbers i 0 in
    (λ k. so_far k ++ one_or_none (one k)) ∙ ap (λ l. found_in jobs (take i numbers) ++ l) (sym (append-nil (one_or_none (find (has_number n) jobs))))
    ∙ sym (flat_map-append (λ m. one_or_none (find (has_number m) jobs)) (take i numbers) (n ∷ [])) ∙ ap (found_in jobs) (sym (take_more numbers i 0 lt))
