use Rattle.std.proofs.Common.{◌≡◌, ◌∙◌, ◌∷◌, ◌<◌, ◌^◌, ◌≢◌, ℕ, List, MatchOption, Option, ap, map, subst, sym}
use Rattle.std.specs.Borrow.{Bor}
use Rattle.std.specs.Fmt.{decimal}
use Rattle.std.specs.List.{slice_split}
use Rattle.uu_frame.proofs.HeadLemmas.{head_here, is_space, no_count}
use Rattle.uu_frame.specs.Frames.{IsHead, head_line}
use Rattle.uu_frame.proofs.head.head_of.Goals as goal

pub returns-in_default-2 : goal.returns-in_default-2
returns-in_default-2 c =
    let cut : slice_split is_space c.args.line.now ≡ c.in-Some.numeral.now.now ∷ map (λ (part : Bor (List ℕ)). part.now) c.in-Some.words.now =
    ap (slice_split is_space) (sym c.in-Ok.ensures.cases.0) ∙ sym c.in_ok-parts.ensures ∙ ap (map (λ (part : Bor (List ℕ)). part.now)) (sym c.deref.ensures.value ∙ c.in-Some.ensures.cases.0) in
    no_count c.args.line.now c.in-Some.numeral.now.now (map (λ (part : Bor (List ℕ)). part.now) c.in-Some.words.now) cut
    (subst (λ (count : Option ℕ). MatchOption count ((n : ℕ) → n < 2 ^ 32 → c.in-Some.numeral.now.now ≢ decimal n) (λ count. (c.in-Some.numeral.now.now ≡ decimal count) × (count < 2 ^ 32)))
    c.in_default-2.is c.in_ok-count.ensures)

pub returns : goal.returns
returns c =
    let words : List (List ℕ) = map (λ (part : Bor (List ℕ)). part.now) c.in-Some.words.now in
    let cut : slice_split is_space c.args.line.now ≡ c.in-Some.numeral.now.now ∷ words =
    ap (slice_split is_space) (sym c.in-Ok.ensures.cases.0) ∙ sym c.in_ok-parts.ensures ∙ ap (map (λ (part : Bor (List ℕ)). part.now)) (sym c.deref.ensures.value ∙ c.in-Some.ensures.cases.0) in
    let counted =
    subst (λ (count : Option ℕ). MatchOption count ((n : ℕ) → n < 2 ^ 32 → c.in-Some.numeral.now.now ≢ decimal n) (λ count. (c.in-Some.numeral.now.now ≡ decimal count) × (count < 2 ^ 32)))
    c.in-Some-2.is c.in_ok-count.ensures in
    subst (λ texts. (c.args.line.now ≡ head_line c.in-Some-2.count texts) × IsHead c.in-Some-2.count texts) (sym c.in_ok-words.ensures)
    (head_here c.args.line.now c.in-Some.numeral.now.now words c.in-Some-2.count cut counted.0 counted.1 c.in-Ok.ensures.cases.1 c.requires.bare c.requires.short)
