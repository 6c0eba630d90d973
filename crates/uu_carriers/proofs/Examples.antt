-- Two sites and lines between them, as they may be typed: mysite packs, duke unpacks a part of that
-- and is stopped, unpacks all of it and the same again later, and answers; mysite settles the answer.
-- And lines that may not be typed. (What words mean is supposed of them; the texts are any.)
use Rattle.std.proofs.Common.{◌≡◌, ◌<◌, ◌++◌, ℕ, zero, suc, Bool, true, false, cond, ◌==◌, List, [], ◌∷◌, codes, Contains, Some, None, get_or, refl, sym, ap, subst, ◌∙◌, arith, append-nil}
use Rattle.std.specs.Prelude.{IsTrue}
use Rattle.uu_names.specs.Name.{is_site_name}
use Rattle.uu_names.proofs.Basics.{none_in}
use Rattle.uu_bundle.specs.Reading.{IsRead}
use Rattle.uu_bundle.specs.declared.bundle.Bundle.{Bundle}
use Rattle.uu_line.specs.Lines.{MeansLine}
use Rattle.uu_line.specs.declared.line.CommandLine.{CommandLine}
use Rattle.uu_line.specs.declared.task.Task.{Task}
use Rattle.uu_line.specs.declared.task.Task.TheVariants as task
use Rattle.uuspool.specs.ServedLines.{ServedLine}
use Rattle.uu_carriers.specs.Texts.{Places}
use Rattle.uu_carriers.specs.Lines.{Step, serves, ends, runs_at, AreSites, AreWithin, AskForBundle, IsFrontOfOne, MayBeTyped, MayBeServed, GoInLines, asks_for_bundle, HaveSameJobs, HaveSameTold, IsReadAsOne}
use Rattle.uu_carriers.proofs.Words.{none_at}

-- mysite is 0 and duke 1, and a line leads from each to the other
abbrev name : ℕ → List ℕ
name zero = codes "mysite"
name (suc zero) = codes "duke"
name (suc (suc site)) = site ∷ []

abbrev places : Places
places = record { name = name; word = λ site. codes "-"; begins = λ line. cond (line == 0) 0 1; ends = λ line. cond (line == 0) 1 0 }

no_two : (one other : ℕ) → name one ≡ name other → one ≡ other
no_two zero zero same = refl
no_two (suc zero) (suc zero) same = refl
no_two (suc (suc one)) (suc (suc other)) same = ap (λ n. suc (suc n)) (ap (λ t. get_or t 0 0) same)
no_two zero (suc zero) same = absurd (cc)
no_two (suc zero) zero same = absurd (cc)
no_two zero (suc (suc other)) same = absurd (cc)
no_two (suc zero) (suc (suc other)) same = absurd (cc)
no_two (suc (suc one)) zero same = absurd (cc)
no_two (suc (suc one)) (suc zero) same = absurd (cc)

are_sites : AreSites places 2
are_sites = record { apart = no_two; names = names; words = λ site l. refl; lines = λ line. ends_apart (line == 0) }
  where
    names : (site : ℕ) → site < 2 → IsTrue (is_site_name (name site))
    names zero l = refl
    names (suc zero) l = refl
    names (suc (suc site)) l = absurd (omega (arith, l))

    ends_apart : (t : Bool) → ◌≡◌ {A = ℕ} (cond t 0 1) (cond t 1 0) → ⊥
    ends_apart true same = omega (arith, same)
    ends_apart false same = omega (arith, same)

-- a front is read as it is
as_it_is : (HaveSame : Bundle → Bundle → Type 0) → ((bundle : Bundle) → HaveSame bundle bundle) → (lines : List ServedLine) (text : List ℕ) → IsFrontOfOne lines text → IsReadAsOne HaveSame lines text
as_it_is HaveSame itself lines text one bundle read = (text, one, bundle, read, itself bundle)

same_jobs : (bundle : Bundle) → HaveSameJobs bundle bundle
same_jobs bundle = record { from = refl; to = refl; below = refl; jobs = refl }

same_told : (bundle : Bundle) → HaveSameTold bundle bundle
same_told bundle = record { from = refl; to = refl; has = refl }

-- any task that the words mean is this one
abbrev Mean : ServedLine → Task → Type 0
Mean line what = (it : CommandLine) → MeansLine line.words it → it.task ≡ what

served : (line : ServedLine) (what : Task) (lines : List ServedLine) (site : ℕ) → Mean line what → MayBeTyped places lines site line.input what → MayBeServed places lines site line
served line what lines site mean may it means = subst (MayBeTyped places lines site line.input) (sym (mean it means)) may

asks : (line : ServedLine) (what : Task) → Mean line what → asks_for_bundle what ≡ true → AskForBundle line
asks line what mean asked it means = subst (λ t. asks_for_bundle t ≡ true) (sym (mean it means)) asked

module _ (pack unpack_part unpack_all unpack_again answer settle : ServedLine)
    (packs : Mean pack (task.Pack (codes "duke") 61 None None None false)) (unpacks_part : Mean unpack_part (task.Unpack (codes "mysite") [])) (unpacks_all : Mean unpack_all (task.Unpack (codes "mysite") []))
    (unpacks_again : Mean unpack_again (task.Unpack (codes "mysite") [])) (answers : Mean answer (task.Answer (codes "mysite") [] 61 None None None false)) (settles : Mean settle (task.Settle (codes "duke") None))
    (cut : List ℕ) (part : unpack_part.input ++ cut ≡ pack.output) (all : unpack_all.input ≡ pack.output) (again : unpack_again.input ≡ pack.output) (back : settle.input ≡ answer.output)
  where
    abbrev steps : List Step
    steps =
        serves 0 pack ∷ ends 0 ∷ serves 1 unpack_part ∷ ends 1 ∷ serves 1 unpack_all ∷ serves 1 answer ∷ ends 1
        ∷ serves 0 settle ∷ ends 0 ∷ serves 1 unpack_again ∷ ends 1 ∷ []

    -- in which runs the lines of each site were served
    mysite_runs : runs_at 0 steps ≡ (pack ∷ []) ∷ (settle ∷ []) ∷ []
    mysite_runs = refl

    duke_runs : runs_at 1 steps ≡ (unpack_part ∷ []) ∷ (unpack_all ∷ answer ∷ []) ∷ (unpack_again ∷ []) ∷ []
    duke_runs = refl

    is_whole : (line : ServedLine) (input : List ℕ) → input ≡ line.output → input ++ [] ≡ line.output
    is_whole line input same = append-nil input ∙ same

    packed : (lines : List ServedLine) (input rest : List ℕ) → Contains lines pack → input ++ rest ≡ pack.output → IsReadAsOne HaveSameJobs lines input
    packed lines input rest there is = as_it_is HaveSameJobs same_jobs lines input (pack, there, asks pack (task.Pack (codes "duke") 61 None None None false) packs refl, rest, is)

    answered : IsReadAsOne HaveSameTold (pack ∷ unpack_part ∷ unpack_all ∷ answer ∷ []) settle.input
    answered = as_it_is HaveSameTold same_told (pack ∷ unpack_part ∷ unpack_all ∷ answer ∷ []) settle.input (answer, (3, omega arith, refl), asks answer (task.Answer (codes "mysite") [] 61 None None None false) answers refl, [], is_whole answer settle.input back)

    they_may : GoInLines places [] steps
    they_may = (
      served pack (task.Pack (codes "duke") 61 None None None false) [] 0 packs refl,
      (
        served unpack_part (task.Unpack (codes "mysite") []) (pack ∷ []) 1 unpacks_part (packed (pack ∷ []) unpack_part.input cut (0, omega arith, refl) part),
        (
          served unpack_all (task.Unpack (codes "mysite") []) (pack ∷ unpack_part ∷ []) 1 unpacks_all (packed (pack ∷ unpack_part ∷ []) unpack_all.input [] (0, omega arith, refl) (is_whole pack unpack_all.input all)),
          (
            served answer (task.Answer (codes "mysite") [] 61 None None None false) (pack ∷ unpack_part ∷ unpack_all ∷ []) 1 answers refl,
            (
              served settle (task.Settle (codes "duke") None) (pack ∷ unpack_part ∷ unpack_all ∷ answer ∷ []) 0 settles answered,
              (
                served unpack_again (task.Unpack (codes "mysite") []) (pack ∷ unpack_part ∷ unpack_all ∷ answer ∷ settle ∷ []) 1 unpacks_again
                    (packed (pack ∷ unpack_part ∷ unpack_all ∷ answer ∷ settle ∷ []) unpack_again.input [] (0, omega arith, refl) (is_whole pack unpack_again.input again)),
                tt,
              ),
            ),
          ),
        ),
      ),
    )

    they_end : AreWithin 2 steps
    they_end = (omega arith, λ none. cc, (omega arith, (omega arith, λ none. cc, (omega arith, (omega arith, λ none. cc, (omega arith, λ none. cc, (omega arith, (omega arith, λ none. cc, (omega arith, (omega arith, λ none. cc, (omega arith, tt)))))))))))

-- ---- lines that may not be typed

-- a bundle that nobody printed, as an answer that comes before
nobody_printed_it : (input : List ℕ) (bundle : Bundle) → IsRead input bundle → MayBeTyped places [] 0 input (task.Settle (codes "duke") None) → ⊥
nobody_printed_it input bundle read may = let one = may bundle read in none_in one.1.0 one.1.1

-- except what a carrier says instead of a bundle, which isn't one
carrier_says : MayBeTyped places [] 0 (codes "no route to host") (task.Settle (codes "duke") None)
carrier_says bundle read = absurd (none_at (codes "no route to host") (λ first. omega (arith, first)) (codes "no route to host") [] (append-nil (codes "no route to host")) bundle read)

-- duke has jobs by `settle` alone
reported : (input : List ℕ) → MayBeTyped places [] 0 input (task.Done (codes "duke") (1 ∷ [])) → ⊥
reported input may = let none = may (0, refl, refl) in cc

-- a call without jobs may be noted
called : (input : List ℕ) → MayBeTyped places [] 0 input (task.Done (codes "duke") [])
called input = λ takes. refl

-- mysite's jobs come to duke by `unpack` alone, and duke keeps what it knows of them
handed_in : (input : List ℕ) → MayBeTyped places [] 1 input (task.Send (codes "unc") (codes "a") (codes "b") 0 (Some (record { from = codes "mysite"; number = 1; spool = None }))) → ⊥
handed_in input may = may (0, refl, refl)

forgotten : (input : List ℕ) → MayBeTyped places [] 1 input (task.Forget (codes "mysite") 2) → ⊥
forgotten input may = may (0, refl, refl)

dropped : (input : List ℕ) → MayBeTyped places [] 1 input (task.Drop (codes "mysite")) → ⊥
dropped input may = may (0, refl, refl)

-- a bundle that gives another word
another_word : (input : List ℕ) → MayBeTyped places [] 0 input (task.Pack (codes "duke") 61 (Some (codes "b")) None None false) → ⊥
another_word input may = cc
