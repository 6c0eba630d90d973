-- Several sites, each pair of neighbours with a line between them. (The sites and lines are this
-- project's choice.)
use Rattle.std.specs.Prelude.{◌≡◌, ⊤, ℕ, List, [], ◌∷◌}
use Rattle.uu_handover.specs.Custody.{Crossing}

-- Sites and lines have numbers. A line is a pair of neighbours, the first of which hands on to the
-- second. It has a site where it begins, a site where it ends, and what these two agreed on.
pub record Chart : Type 0 where
  pub begins : ℕ → ℕ
  pub ends : ℕ → ℕ
  pub crossing : ℕ → Crossing

-- lines, the first of which begins at this site, and each other where the one before ends
abbrev pub IsRoute : Chart → ℕ → List ℕ → Type 0
IsRoute chart site [] = ⊤
IsRoute chart site (line ∷ lines) = (chart.begins line ≡ site) × IsRoute chart (chart.ends line) lines
