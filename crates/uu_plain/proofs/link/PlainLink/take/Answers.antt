use Rattle.std.proofs.Common.{◌≡◌, ◌∙◌, List, ◌∷◌, [], ◌++◌, ltb, filter, ap, append_assoc}
use Rattle.uu_core.specs.declared.custody.Taken.{Taken}
use Rattle.uu_core.specs.State.{Link}
use Rattle.uu_core.specs.After.{with_taken}
use Rattle.uu_plain.proofs.link.PlainLink.take.Goals as goal

pub returns : goal.returns
returns c =
    let row = c.args.taken in
    let old = c.self.inside.taken.items in
    let first : List Taken = filter (λ (other : Taken). ltb other.number row.number) old in
    let rest : List Taken = filter (λ (other : Taken). ltb row.number other.number) old in
    let made : List Taken → Link = λ rows. record { name = c.self.inside.name; below = c.self.inside.below; taken = rows } in
    let copied : c.in_ok-rest.rest.items ≡ old = c.in_ok-rest.ensures.items_if_clones_equal (λ x y h. h) ∙ c.as_slice.ensures.value in
    let behind : c.keep_above.new.rows.items ≡ rest = c.keep_above.ensures ∙ ap (filter (λ (other : Taken). ltb row.number other.number)) copied in
    ap made (
    c.in_ok-append.ensures.items
    ∙ ap (λ l. l ++ c.keep_above.new.rows.items) (c.in_ok-push.ensures.items ∙ ap (λ l. l ++ row ∷ []) c.keep_below.ensures)
    ∙ ap (λ l. (first ++ row ∷ []) ++ l) behind
    ∙ append_assoc first (row ∷ []) rest
    ) ∙ ap (with_taken row) c.self.view_is
