-- The grade of a bundle that words ask for is a grade.
use Rattle.std.proofs.Common.{◌≡◌, ◌<◌, ℕ, Bool, true, false, cond, List, [], ◌∷◌, codes, Option, Some, None, Result, Ok, Err, refl, sym, ap, subst, inl, inr}
use Rattle.std.specs.Prelude.{⊤, ◌==◌, ok_or}
use Rattle.std.specs.List.{list_all}
use Rattle.std.proofs.lemmas.List.Quantifiers.{position-Some}
use Rattle.clap.specs.Words.{Row, Text, first_of, subcommand_of, matches_of}
use Rattle.uu_names.specs.Grade.{grade_bytes, grade_count, rank_of}
use Rattle.uu_names.specs.Path.{first_hop}
use Rattle.uu_names.specs.declared.fault.NameFault.TheVariants.{BadGrade}
use Rattle.uu_line.specs.Commands.{program}
use Rattle.uu_line.specs.Lines.{LineView as SaidLine, MeansEntered, MeansLine, MeansLineOf, MeansMailOn, MeansTask, and_then, asked_when, grade_of, has_flag, named, optional, line_view, same_text, site_of, sites_of, terms_of, texts_at, word_of, words_of}
use Rattle.uu_line.specs.declared.fault.LineFault.{LineFault}
use Rattle.uu_line.specs.declared.fault.LineFault.TheVariants.{TwoSystems}
use Rattle.uu_line.specs.declared.line.CommandLine.{CommandLine}
use Rattle.uu_line.specs.declared.origin.Origin.{Origin}
use Rattle.uu_line.specs.declared.task.Task.{Task}
use Rattle.uu_line.specs.declared.task.Task.TheVariants as task

-- the grade of a requested bundle is a grade
abbrev pub HasGrade : Task → Type 0
HasGrade (task.Pack system grade spool after most no_jobs) = grade < grade_count
HasGrade (task.Answer sender onward grade spool after most no_jobs) = grade < grade_count
HasGrade other = ⊤

abbrev Sound : Result Task LineFault → Type 0
Sound (Ok what) = HasGrade what
Sound (Err why) = ⊤

by_then : {V : Type 0} (r : Result V LineFault) (f : V → Result Task LineFault) → ((v : V) → r ≡ Ok v → Sound (f v)) → Sound (and_then r f)
by_then (Ok v) f each = each v refl
by_then (Err why) f each = tt

by_rank : (found : Option ℕ) (grade : ℕ) → ((rank : ℕ) → found ≡ Some rank → rank < grade_count) → named (ok_or found BadGrade) ≡ Ok grade → grade < grade_count
by_rank (Some rank) grade below known = let same : rank ≡ grade = cc in subst (λ r. r < grade_count) same (below rank refl)
by_rank None grade below known = absurd (cc)

rank_below : (byte rank : ℕ) → rank_of byte ≡ Some rank → rank < grade_count
rank_below byte rank found = let it = position-Some (λ grade. grade == byte) grade_bytes rank 0 found in it.0

grade_below : (text : Text) (grade : ℕ) → grade_of text ≡ Ok grade → grade < grade_count
grade_below [] grade known = absurd (cc)
grade_below (byte ∷ []) grade known = by_rank (rank_of byte) grade (rank_below byte) known
grade_below (byte ∷ next ∷ text) grade known = absurd (cc)

mailed : (t : Bool) (terms : ℕ × Option Origin) (first : Text) (addresses : List (List ℕ)) → Sound (cond t (Ok (task.Mail terms.0 terms.1 (first_hop first) addresses)) (Err TwoSystems))
mailed true terms first addresses = tt
mailed false terms first addresses = tt

when_sound : (all : Bool) (system : Option (List ℕ)) → HasGrade (asked_when all system)
when_sound true system = tt
when_sound false system = tt

mail_sound : (terms : Result (ℕ × Option Origin) LineFault) (first : Text) (addresses : List Text) (meant : Result Task LineFault) → MeansMailOn terms first addresses meant → Sound meant
mail_sound (Err why) first addresses meant e = subst Sound (sym e) tt
mail_sound (Ok terms) first addresses meant (inl (are, e)) = subst Sound (sym e) (mailed (list_all (λ address. same_text (first_hop address) (first_hop first)) addresses) terms first _)
mail_sound (Ok terms) first addresses meant (inr (fault, bad, e)) = subst Sound (sym e) tt

module _ (name : Text) (rows : List Row) (meant : Result Task LineFault) where
  sound_task : MeansTask name rows meant → Sound meant
  sound_task (inl (n_is, e)) = subst Sound (sym e) tt
  sound_task (inr (inl (n_is, (t, i, e)))) = subst Sound (sym e) (by_then (site_of t) (λ v0. Ok (task.Drop v0)) (λ v0 e0. tt))
  sound_task (inr (inr (inl (n_is, (t, i, (a, j, (b, k, (c, l, e)))))))) = subst Sound (sym e) (by_then (site_of t) (λ v0. and_then (word_of a) (λ v1. and_then (word_of b) (λ v2. and_then (terms_of c (first_of (codes "once") rows)) (λ v3. Ok (task.Send v0 v1 v2 v3.0 v3.1))))) (λ v0 e0. by_then (word_of a) (λ v1. and_then (word_of b) (λ v2. and_then (terms_of c (first_of (codes "once") rows)) (λ v3. Ok (task.Send v0 v1 v2 v3.0 v3.1)))) (λ v1 e1. by_then (word_of b) (λ v2. and_then (terms_of c (first_of (codes "once") rows)) (λ v3. Ok (task.Send v0 v1 v2 v3.0 v3.1))) (λ v2 e2. by_then (terms_of c (first_of (codes "once") rows)) (λ v3. Ok (task.Send v0 v1 v2 v3.0 v3.1)) (λ v3 e3. tt)))))
  sound_task (inr (inr (inr (inl (n_is, (t, i, (a, j, (b, k, (c, l, e))))))))) = subst Sound (sym e) (by_then (site_of t) (λ v0. and_then (word_of a) (λ v1. and_then (word_of b) (λ v2. and_then (terms_of c (first_of (codes "once") rows)) (λ v3. Ok (task.Request v0 v1 v2 v3.0 v3.1))))) (λ v0 e0. by_then (word_of a) (λ v1. and_then (word_of b) (λ v2. and_then (terms_of c (first_of (codes "once") rows)) (λ v3. Ok (task.Request v0 v1 v2 v3.0 v3.1)))) (λ v1 e1. by_then (word_of b) (λ v2. and_then (terms_of c (first_of (codes "once") rows)) (λ v3. Ok (task.Request v0 v1 v2 v3.0 v3.1))) (λ v2 e2. by_then (terms_of c (first_of (codes "once") rows)) (λ v3. Ok (task.Request v0 v1 v2 v3.0 v3.1)) (λ v3 e3. tt)))))
  sound_task (inr (inr (inr (inr (inl (n_is, (t, i, (a, j, (b, k, e))))))))) = subst Sound (sym e) (by_then (terms_of t (first_of (codes "once") rows)) (λ v0. and_then (site_of a) (λ v1. and_then (word_of b) (λ v2. and_then (words_of (texts_at (codes "argument") rows)) (λ v3. Ok (task.Execute v0.0 v0.1 v1 v2 v3))))) (λ v0 e0. by_then (site_of a) (λ v1. and_then (word_of b) (λ v2. and_then (words_of (texts_at (codes "argument") rows)) (λ v3. Ok (task.Execute v0.0 v0.1 v1 v2 v3)))) (λ v1 e1. by_then (word_of b) (λ v2. and_then (words_of (texts_at (codes "argument") rows)) (λ v3. Ok (task.Execute v0.0 v0.1 v1 v2 v3))) (λ v2 e2. by_then (words_of (texts_at (codes "argument") rows)) (λ v3. Ok (task.Execute v0.0 v0.1 v1 v2 v3)) (λ v3 e3. tt)))))
  sound_task (inr (inr (inr (inr (inr (inl (n_is, (t, i, (first, others, j, on))))))))) = mail_sound (terms_of t (first_of (codes "once") rows)) first (first ∷ others) meant on
  sound_task (inr (inr (inr (inr (inr (inr (inl (n_is, e)))))))) = subst Sound (sym e) (by_then (optional site_of (first_of (codes "system") rows)) (λ v0. and_then (optional word_of (first_of (codes "user") rows)) (λ v1. Ok (task.List (record { system = v0; user = v1 })))) (λ v0 e0. by_then (optional word_of (first_of (codes "user") rows)) (λ v1. Ok (task.List (record { system = v0; user = v1 }))) (λ v1 e1. tt)))
  sound_task (inr (inr (inr (inr (inr (inr (inr (inl (n_is, (t, i, (n, d, e))))))))))) = subst Sound (sym e) tt
  sound_task (inr (inr (inr (inr (inr (inr (inr (inr (inl (n_is, (t, i, (n, d, e)))))))))))) = subst Sound (sym e) tt
  sound_task (inr (inr (inr (inr (inr (inr (inr (inr (inr (inl (n_is, (g, j, (t, i, (n, d, e)))))))))))))) = subst Sound (sym e) (by_then (grade_of g) (λ v0. Ok (task.Regrade n v0)) (λ v0 e0. tt))
  sound_task (inr (inr (inr (inr (inr (inr (inr (inr (inr (inr (inl (n_is, (t, i, (n, d, e)))))))))))))) = subst Sound (sym e) tt
  sound_task (inr (inr (inr (inr (inr (inr (inr (inr (inr (inr (inr (inl (n_is, e))))))))))))) = subst Sound (sym e) (by_then (optional site_of (first_of (codes "system") rows)) (λ v0. Ok (task.Due v0)) (λ v0 e0. tt))
  sound_task (inr (inr (inr (inr (inr (inr (inr (inr (inr (inr (inr (inr (inl (n_is, e)))))))))))))) = subst Sound (sym e) (by_then (optional site_of (first_of (codes "system") rows)) (λ v0. Ok (asked_when (has_flag (codes "all") rows) v0)) (λ v0 e0. when_sound (has_flag (codes "all") rows) v0))
  sound_task (inr (inr (inr (inr (inr (inr (inr (inr (inr (inr (inr (inr (inr (inl (n_is, e))))))))))))))) = subst Sound (sym e) (by_then (optional site_of (first_of (codes "system") rows)) (λ v0. Ok (task.Queues (record { system = v0; user = None }))) (λ v0 e0. tt))
  sound_task (inr (inr (inr (inr (inr (inr (inr (inr (inr (inr (inr (inr (inr (inr (inl (n_is, e)))))))))))))))) = subst Sound (sym e) tt
  sound_task (inr (inr (inr (inr (inr (inr (inr (inr (inr (inr (inr (inr (inr (inr (inr (inl (n_is, e))))))))))))))))) = subst Sound (sym e) (by_then (optional site_of (first_of (codes "system") rows)) (λ v0. Ok (task.Systems v0)) (λ v0 e0. tt))
  sound_task (inr (inr (inr (inr (inr (inr (inr (inr (inr (inr (inr (inr (inr (inr (inr (inr (inl (n_is, (t, i, (a, j, e)))))))))))))))))))) = subst Sound (sym e) (by_then (site_of t) (λ v0. and_then (word_of a) (λ v1. Ok (task.Failed v0 v1))) (λ v0 e0. by_then (word_of a) (λ v1. Ok (task.Failed v0 v1)) (λ v1 e1. tt)))
  sound_task (inr (inr (inr (inr (inr (inr (inr (inr (inr (inr (inr (inr (inr (inr (inr (inr (inr (inl (n_is, (t, i, (n, d, e))))))))))))))))))))) = subst Sound (sym e) (by_then (site_of t) (λ v0. Ok (task.Done v0 n)) (λ v0 e0. tt))
  sound_task (inr (inr (inr (inr (inr (inr (inr (inr (inr (inr (inr (inr (inr (inr (inr (inr (inr (inr (inl (n_is, (t, i, (a, j, (n, d, e))))))))))))))))))))))) = subst Sound (sym e) (by_then (site_of t) (λ v0. Ok (task.Forget v0 n)) (λ v0 e0. tt))
  sound_task (inr (inr (inr (inr (inr (inr (inr (inr (inr (inr (inr (inr (inr (inr (inr (inr (inr (inr (inr (inl (n_is, (t, i, (g, j, (n, d, m, f, e)))))))))))))))))))))))) = subst Sound (sym e) (by_then (site_of t) (λ v0. and_then (grade_of g) (λ v1. and_then (optional word_of (first_of (codes "spool") rows)) (λ v2. Ok (task.Pack v0 v1 v2 n m (has_flag (codes "no-jobs") rows))))) (λ v0 e0. by_then (grade_of g) (λ v1. and_then (optional word_of (first_of (codes "spool") rows)) (λ v2. Ok (task.Pack v0 v1 v2 n m (has_flag (codes "no-jobs") rows)))) (λ v1 e1. by_then (optional word_of (first_of (codes "spool") rows)) (λ v2. Ok (task.Pack v0 v1 v2 n m (has_flag (codes "no-jobs") rows))) (λ v2 e2. grade_below g v1 e1))))
  sound_task (inr (inr (inr (inr (inr (inr (inr (inr (inr (inr (inr (inr (inr (inr (inr (inr (inr (inr (inr (inr (inl (n_is, (t, i, e))))))))))))))))))))))) = subst Sound (sym e) (by_then (site_of t) (λ v0. and_then (sites_of (texts_at (codes "system") rows)) (λ v1. Ok (task.Unpack v0 v1))) (λ v0 e0. by_then (sites_of (texts_at (codes "system") rows)) (λ v1. Ok (task.Unpack v0 v1)) (λ v1 e1. tt)))
  sound_task (inr (inr (inr (inr (inr (inr (inr (inr (inr (inr (inr (inr (inr (inr (inr (inr (inr (inr (inr (inr (inr (inl (n_is, (t, i, e)))))))))))))))))))))))) = subst Sound (sym e) (by_then (site_of t) (λ v0. and_then (optional word_of (first_of (codes "spool") rows)) (λ v1. Ok (task.Settle v0 v1))) (λ v0 e0. by_then (optional word_of (first_of (codes "spool") rows)) (λ v1. Ok (task.Settle v0 v1)) (λ v1 e1. tt)))
  sound_task (inr (inr (inr (inr (inr (inr (inr (inr (inr (inr (inr (inr (inr (inr (inr (inr (inr (inr (inr (inr (inr (inr (inl (n_is, (t, i, (g, j, (n, d, m, f, e))))))))))))))))))))))))))) = subst Sound (sym e) (by_then (site_of t) (λ v0. and_then (sites_of (texts_at (codes "system") rows)) (λ v1. and_then (grade_of g) (λ v2. and_then (optional word_of (first_of (codes "spool") rows)) (λ v3. Ok (task.Answer v0 v1 v2 v3 n m (has_flag (codes "no-jobs") rows)))))) (λ v0 e0. by_then (sites_of (texts_at (codes "system") rows)) (λ v1. and_then (grade_of g) (λ v2. and_then (optional word_of (first_of (codes "spool") rows)) (λ v3. Ok (task.Answer v0 v1 v2 v3 n m (has_flag (codes "no-jobs") rows))))) (λ v1 e1. by_then (grade_of g) (λ v2. and_then (optional word_of (first_of (codes "spool") rows)) (λ v3. Ok (task.Answer v0 v1 v2 v3 n m (has_flag (codes "no-jobs") rows)))) (λ v2 e2. by_then (optional word_of (first_of (codes "spool") rows)) (λ v3. Ok (task.Answer v0 v1 v2 v3 n m (has_flag (codes "no-jobs") rows))) (λ v3 e3. grade_below g v2 e2)))))
  sound_task (inr (inr (inr (inr (inr (inr (inr (inr (inr (inr (inr (inr (inr (inr (inr (inr (inr (inr (inr (inr (inr (inr (inr (inl (n_is, e))))))))))))))))))))))))) = subst Sound (sym e) tt
  sound_task (inr (inr (inr (inr (inr (inr (inr (inr (inr (inr (inr (inr (inr (inr (inr (inr (inr (inr (inr (inr (inr (inr (inr (inr (inl (n_is, (t, i, e))))))))))))))))))))))))))) = subst Sound (sym e) (by_then (site_of t) (λ v0. Ok (task.Neighbours v0)) (λ v0 e0. tt))
  sound_task (inr (inr (inr (inr (inr (inr (inr (inr (inr (inr (inr (inr (inr (inr (inr (inr (inr (inr (inr (inr (inr (inr (inr (inr (inr (inl ((n_is, e)))))))))))))))))))))))))))) = subst Sound (sym e) tt
  sound_task (inr (inr (inr (inr (inr (inr (inr (inr (inr (inr (inr (inr (inr (inr (inr (inr (inr (inr (inr (inr (inr (inr (inr (inr (inr (inr (inl ((n_is, (t, i, e)))))))))))))))))))))))))))))) = subst Sound (sym e) (by_then (site_of t) (λ v0. Ok (task.Routes (Some v0) (has_flag (codes "cost") rows))) (λ v0 e0. tt))
  sound_task (inr (inr (inr (inr (inr (inr (inr (inr (inr (inr (inr (inr (inr (inr (inr (inr (inr (inr (inr (inr (inr (inr (inr (inr (inr (inr (inr (n_is, e)))))))))))))))))))))))))))) = subst Sound (sym e) tt

entered_sound : (entered : Option (Text × List Row)) (meant : Result Task LineFault) → MeansEntered entered meant → Sound meant
entered_sound None meant none = absurd none
entered_sound (Some subcommand) meant means = sound_task subcommand.0 subcommand.1 meant means

line_sound : (config : Option Text) (at : Option ℕ) (user : Result (List ℕ) LineFault) (entered : Option (Text × List Row)) (it : CommandLine) → MeansLineOf config at user entered (Ok (line_view it)) → HasGrade it.task
line_sound config at (Err why) entered it e = absurd (cc)
line_sound config at (Ok user) entered it (Err why, means, e) = absurd (cc)
line_sound config at (Ok user) entered it (Ok what, means, e) =
    let same : line_view it ≡ record { config = config; at = at; user = user; task = what } = cc in
    subst HasGrade (sym (ap (λ (line : SaidLine). line.task) same)) (entered_sound entered (Ok what) means)

pub has_grade : (words : List Text) (it : CommandLine) → MeansLine words it → HasGrade it.task
has_grade words it (taken, (user, user_is, (at, at_is, of))) = line_sound (first_of (codes "config") (matches_of program words)) at (word_of user) (subcommand_of program words) it of
