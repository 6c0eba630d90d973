-- Changes, one after the other.
use Rattle.std.proofs.Common.{◌≡◌, List, [], ◌∷◌, ◌++◌, refl, sym, subst}
use Rattle.sqlite.specs.Tree.{Trees}
use Rattle.uu_tables.specs.declared.change.Change.{Change}
use Rattle.uu_tables.specs.Tables.{Tables}
use Rattle.uu_tables.specs.Changes.{apply, applied}
use Rattle.uu_schema.specs.Held.{Holds}
use Rattle.uu_statements.specs.Makes.{Makes, MakesAll}

applied_more : (changes : List Change) (change : Change) (t : Tables) → applied (changes ++ change ∷ []) t ≡ apply change (applied changes t)
applied_more [] change t = refl
applied_more (first ∷ changes) change t = applied_more changes change (apply first t)

pub one_more : (changes : List Change) (change : Change) (old mid new : Trees) → MakesAll changes old mid → Makes change mid new → MakesAll (changes ++ change ∷ []) old new
one_more changes change old mid new first second t holds = subst (Holds new) (sym (applied_more changes change t)) (second (applied changes t) (first t holds))
