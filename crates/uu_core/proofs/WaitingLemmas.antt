-- Lines one at a time, and the growing waits.
use Rattle.std.proofs.Common.{◌≡◌, ℕ, ◌-◌, ◌^◌, ◌≤◌, Bool, true, false, ◌&&◌, ◌==◌, cond, List, [], ◌∷◌, filter, find, Option, Some, option_and_then, refl, ap, ◌∙◌, arith}
use Rattle.std.proofs.Math.Nat.{pow-le-pow_right}
use Rattle.uu_times.specs.Ranges.{holds}
use Rattle.uu_times.specs.declared.system.Line.{Line}
use Rattle.uu_core.specs.Waiting.{lines_at, limit_at, line_at, growing_minutes}

-- the first that passes both tests is the first that passes one among those that pass the other
pub find-filter : {X : Type 0} (p q : X → Bool) (xs : List X) → find (λ x. p x && q x) xs ≡ find q (filter p xs)
find-filter p q [] = refl
find-filter p q (x ∷ xs) = by-test (p x) (find-filter p q xs)
  where
    by-test : (t : Bool) → find (λ x. p x && q x) xs ≡ find q (filter p xs) → cond (t && q x) (Some x) (find (λ x. p x && q x) xs) ≡ find q (cond t (x ∷ filter p xs) (filter p xs))
    by-test true e = ap (cond (q x) (Some x)) e
    by-test false e = e

-- from nine failures on it is a day
pub growing_day : (failures : ℕ) → 9 ≤ failures → growing_minutes failures ≡ 1440
growing_day failures h =
    let more : 2 ^ 8 ≤ 2 ^ (failures - 1) = pow-le-pow_right {n = 2} (omega arith) {i = 8} {j = failures - 1} (omega arith) in
    omega arith

pub line_found : (lines : List Line) (week grade : ℕ) (found : Option Line) → Some grade ≡ limit_at lines week → found ≡ find (λ line. holds line.windows week && line.grade == grade) lines → found ≡ line_at lines week
line_found lines week grade found l e =
    e ∙ find-filter (λ line. holds line.windows week) (λ line. line.grade == grade) lines ∙ ap (option_and_then (λ g. find (λ line. line.grade == g) (lines_at lines week))) l
