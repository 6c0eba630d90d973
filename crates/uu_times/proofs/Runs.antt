-- The maximal runs of a set of week minutes: what they hold, and that no other ranges that are
-- apart hold the same.
use Rattle.std.proofs.Common.{◌≡◌, ℕ, zero, suc, ◌+◌, ◌<◌, ◌≤◌, Bool, true, false, ◌&&◌, ◌||◌, cond, List, [], ◌∷◌, inl, inr, refl, ap, sym, subst, lit≤, ◌∙◌, arith, nat_eq, nat_le}
use Rattle.std.proofs.lemmas.Bool.{cases_lt, cases_eq, cond_both, cond-true, cond-false, eqb-true, eqb-false, eq-eqb, ne_eqb, le-leb, lt-leb, or_from, or_left, and_from, and_right, cases_Bool}
use Rattle.uu_times.specs.Ranges.{within, holds, AreRunsFrom, AreSeparateRanges, onto_runs, runs_from, maximal_runs}

-- no minute before the first range is held
pub holds_before : (start minute : ℕ) (ranges : List (ℕ × ℕ)) → AreRunsFrom start ranges → minute < start → holds ranges minute ≡ false
holds_before start minute [] runs below = refl
holds_before start minute (range ∷ ranges) runs below =
    let after : minute < range.1 + 2 = omega arith in
    or_from (within minute range) (holds ranges minute)
    (ap (λ b. b && nat_le minute range.1) (lt-leb range.0 minute (omega arith)))
    (holds_before (range.1 + 2) minute ranges runs.3 after)

-- ranges that begin late begin later than sooner
pub runs_sooner : (start sooner : ℕ) (ranges : List (ℕ × ℕ)) → sooner ≤ start → AreRunsFrom start ranges → AreRunsFrom sooner ranges
runs_sooner start sooner [] le runs = tt
runs_sooner start sooner (range ∷ ranges) le runs = (omega arith, runs.1, runs.2, runs.3)

-- a minute put before the runs after it
pub runs_onto : (minute : ℕ) (ranges : List (ℕ × ℕ)) → minute < 10080 → AreRunsFrom (minute + 1) ranges → AreRunsFrom minute (onto_runs minute ranges)
runs_onto minute [] below runs = (omega arith, omega arith, below, tt)
runs_onto minute (range ∷ ranges) below runs =
    cond_both (nat_eq range.0 (minute + 1)) ((minute, range.1) ∷ ranges) ((minute, minute) ∷ range ∷ ranges) (AreRunsFrom minute)
    (λ same. (omega arith, omega (arith, eqb-true range.0 (minute + 1) same), runs.2, runs.3))
    (λ other. (omega arith, omega arith, below, (omega (arith, eqb-false range.0 (minute + 1) other), runs.1, runs.2, runs.3)))

-- the minute itself is held then
pub holds_onto_same : (minute : ℕ) (ranges : List (ℕ × ℕ)) → AreRunsFrom (minute + 1) ranges → holds (onto_runs minute ranges) minute ≡ true
holds_onto_same minute [] runs = grind (arith, le-leb)
holds_onto_same minute (range ∷ ranges) runs =
    cond_both (nat_eq range.0 (minute + 1)) ((minute, range.1) ∷ ranges) ((minute, minute) ∷ range ∷ ranges) (λ rs. holds rs minute ≡ true)
    (λ same. ap (λ b. (b && nat_le minute range.1) || holds ranges minute) (le-leb minute minute (omega arith))
    ∙ ap (λ b. b || holds ranges minute) (le-leb minute range.1 (omega arith)))
    (λ other. ap (λ b. (b && b) || holds (range ∷ ranges) minute) (le-leb minute minute (omega arith)))

-- and of the minutes after it those that were
pub holds_onto_other : (minute later : ℕ) (ranges : List (ℕ × ℕ)) → minute < later → holds (onto_runs minute ranges) later ≡ holds ranges later
holds_onto_other minute later [] after =
    or_from (nat_le minute later && nat_le later minute) false
    (ap (λ b. nat_le minute later && b) (lt-leb later minute after) ∙ and_right (nat_le minute later) false refl) refl
holds_onto_other minute later (range ∷ ranges) after =
    cond_both (nat_eq range.0 (minute + 1)) ((minute, range.1) ∷ ranges) ((minute, minute) ∷ range ∷ ranges) (λ rs. holds rs later ≡ holds (range ∷ ranges) later)
    (λ same. ap (λ b. (b && nat_le later range.1) || holds ranges later)
    (le-leb minute later (omega arith) ∙ sym (le-leb range.0 later (omega (arith, eqb-true range.0 (minute + 1) same)))))
    (λ other. ap (λ b. b || holds (range ∷ ranges) later)
    (ap (λ b. nat_le minute later && b) (lt-leb later minute after) ∙ and_right (nat_le minute later) false refl))

-- the maximal runs are apart
pub runs_runs_from : (set : ℕ → Bool) (start count : ℕ) → start + count ≤ 10080 → AreRunsFrom start (runs_from set start count)
unfolding runs_from
runs_runs_from set start zero le = tt
runs_runs_from set start (suc count) le =
    let behind : AreRunsFrom (start + 1) (runs_from set (start + 1) count) = runs_runs_from set (start + 1) count (omega arith) in
    cond_both (set start) (onto_runs start (runs_from set (start + 1) count)) (runs_from set (start + 1) count) (AreRunsFrom start)
    (λ in_set. runs_onto start (runs_from set (start + 1) count) (omega arith) behind)
    (λ outside. runs_sooner (start + 1) start (runs_from set (start + 1) count) (omega arith) behind)

-- and hold what the set has
pub holds-runs_from : (set : ℕ → Bool) (start count minute : ℕ) → start + count ≤ 10080 → start ≤ minute → minute < start + count → holds (runs_from set start count) minute ≡ set minute
unfolding runs_from
holds-runs_from set start zero minute le from below = absurd (omega arith)
holds-runs_from set start (suc count) minute le from below =
    let rest = runs_from set (start + 1) count in
    let behind : AreRunsFrom (start + 1) (runs_from set (start + 1) count) = runs_runs_from set (start + 1) count (omega arith) in
    elim (cases_eq start minute) as (λ _. holds (cond (set start) (onto_runs start rest) rest) minute ≡ set minute) [
      | inl same ↦ subst (λ (m : ℕ). holds (cond (set start) (onto_runs start rest) rest) m ≡ set m) same
          (elim (cases_Bool (set start)) as (λ _. holds (cond (set start) (onto_runs start rest) rest) start ≡ set start) [
            | inl in_set ↦ ap (λ b. holds (cond b (onto_runs start rest) rest) start) in_set ∙ holds_onto_same start rest behind ∙ sym in_set
            | inr outside ↦ ap (λ b. holds (cond b (onto_runs start rest) rest) start) outside ∙ holds_before (start + 1) start rest behind (omega arith) ∙ sym outside
          ])
      | inr other ↦
          let after : start < minute = omega arith in
          let later : holds rest minute ≡ set minute = holds-runs_from set (start + 1) count minute (omega arith) (omega arith) (omega arith) in
          cond_both (set start) (onto_runs start rest) rest (λ rs. holds rs minute ≡ set minute)
          (λ in_set. holds_onto_other start minute rest after ∙ later)
          (λ outside. later)
    ]

-- ranges after a minute with which they begin, or not
pub runs_later : (start : ℕ) (range : ℕ × ℕ) (ranges : List (ℕ × ℕ)) → AreRunsFrom start (range ∷ ranges) → start < range.0 → AreRunsFrom (start + 1) (range ∷ ranges)
runs_later start range ranges runs after = (omega arith, runs.1, runs.2, runs.3)

-- a pair by its parts
pub pair_same : (a b : ℕ) (pair : ℕ × ℕ) → pair.0 ≡ a → pair.1 ≡ b → let made : ℕ × ℕ = (a, b) in made ≡ pair
pair_same a b pair first second =
    ap (λ (x : ℕ). let made : ℕ × ℕ = (x, b) in made) (sym first) ∙ ap (λ (y : ℕ). let made : ℕ × ℕ = (pair.0, y) in made) (sym second)

-- a minute apart from the runs after it is a run of its own
pub onto_apart : (minute : ℕ) (ranges : List (ℕ × ℕ)) → AreRunsFrom (minute + 2) ranges → onto_runs minute ranges ≡ (minute, minute) ∷ ranges
onto_apart minute [] runs = refl
onto_apart minute (range ∷ ranges) runs =
    cond-false (nat_eq range.0 (minute + 1)) ((minute, range.1) ∷ ranges) ((minute, minute) ∷ range ∷ ranges) (ne_eqb range.0 (minute + 1) (omega arith))

-- ranges that are apart are the maximal runs of each set that agrees with them
pub runs_from_runs : (set : ℕ → Bool) (start count : ℕ) (ranges : List (ℕ × ℕ)) → start + count ≡ 10080 → AreRunsFrom start ranges
    → ((minute : ℕ) → start ≤ minute → minute < 10080 → set minute ≡ holds ranges minute) → runs_from set start count ≡ ranges
unfolding runs_from
runs_from_runs set start zero [] full runs agrees = refl
runs_from_runs set start zero (range ∷ ranges) full runs agrees = absurd (omega arith)
runs_from_runs set start (suc count) [] full runs agrees =
    let behind : runs_from set (start + 1) count ≡ [] = runs_from_runs set (start + 1) count [] (omega arith) tt (λ minute from below. agrees minute (omega arith) below) in
    cond-false (set start) (onto_runs start (runs_from set (start + 1) count)) (runs_from set (start + 1) count) (agrees start (omega arith) (omega arith)) ∙ behind
runs_from_runs set start (suc count) (range ∷ ranges) full runs agrees =
    let rest = runs_from set (start + 1) count in
    elim (cases_lt start range.0) as (λ _. cond (set start) (onto_runs start rest) rest ≡ range ∷ ranges) [
      | inl before ↦
          let outside : set start ≡ false = agrees start (omega arith) (omega arith) ∙ holds_before (start + 1) start (range ∷ ranges) (runs_later start range ranges runs before) (omega arith) in
          cond-false (set start) (onto_runs start rest) rest outside
          ∙ runs_from_runs set (start + 1) count (range ∷ ranges) (omega arith) (runs_later start range ranges runs before) (λ minute from below. agrees minute (omega arith) below)
      | inr reached ↦
          let begins : range.0 ≡ start = omega arith in
          let in_range : within start range ≡ true = and_from (nat_le range.0 start) (nat_le start range.1) (le-leb range.0 start (omega arith)) (le-leb start range.1 (omega arith)) in
          let in_set : set start ≡ true = agrees start (omega arith) (omega arith) ∙ or_left (within start range) (holds ranges start) in_range in
          cond-true (set start) (onto_runs start rest) rest in_set
          ∙ elim (cases_eq range.0 range.1) as (λ _. onto_runs start rest ≡ range ∷ ranges) [
            | inl single ↦
                let behind : rest ≡ ranges = runs_from_runs set (start + 1) count ranges (omega arith) (runs_sooner (range.1 + 2) (start + 1) ranges (omega arith) runs.3)
                (λ minute from below. agrees minute (omega arith) below
                ∙ ap (λ b. b || holds ranges minute) (and_right (nat_le range.0 minute) (nat_le minute range.1) (lt-leb minute range.1 (omega arith)))) in
                ap (onto_runs start) behind ∙ onto_apart start ranges (runs_sooner (range.1 + 2) (start + 2) ranges (omega arith) runs.3)
                ∙ ap (λ (r : ℕ × ℕ). r ∷ ranges) (pair_same start start range (omega arith) (omega arith))
            | inr longer ↦
                let left : AreRunsFrom (start + 1) ((start + 1, range.1) ∷ ranges) = (omega arith, omega arith, runs.2, runs.3) in
                let behind : rest ≡ (start + 1, range.1) ∷ ranges = runs_from_runs set (start + 1) count ((start + 1, range.1) ∷ ranges) (omega arith) left
                (λ minute from below. agrees minute (omega arith) below
                ∙ ap (λ b. (b && nat_le minute range.1) || holds ranges minute) (le-leb range.0 minute (omega arith) ∙ sym (le-leb (start + 1) minute from))) in
                ap (onto_runs start) behind
                ∙ cond-true (nat_eq (start + 1) (start + 1)) ((start, range.1) ∷ ranges) ((start, start) ∷ (start + 1, range.1) ∷ ranges) (eq-eqb (start + 1) (start + 1) refl)
                ∙ ap (λ (r : ℕ × ℕ). r ∷ ranges) (pair_same start range.1 range (omega arith) refl)
          ]
    ]

-- the law: a set of week minutes is the union of its maximal runs, which are apart
pub holds-maximal_runs : (set : ℕ → Bool) (minute : ℕ) → minute < 10080 → holds (maximal_runs set) minute ≡ set minute
unfolding maximal_runs
holds-maximal_runs set minute below = holds-runs_from set 0 10080 minute (lit≤ tt) (omega arith) below

pub runs_maximal_runs : (set : ℕ → Bool) → AreSeparateRanges (maximal_runs set)
unfolding maximal_runs
runs_maximal_runs set = runs_runs_from set 0 10080 (lit≤ tt)

-- ranges that are apart and hold what a set has are its maximal runs
pub maximal_runs_runs : (set : ℕ → Bool) (ranges : List (ℕ × ℕ)) → AreSeparateRanges ranges → ((minute : ℕ) → minute < 10080 → set minute ≡ holds ranges minute) → maximal_runs set ≡ ranges
unfolding maximal_runs
maximal_runs_runs set ranges runs agrees = runs_from_runs set 0 10080 ranges refl runs (λ minute from below. agrees minute below)
