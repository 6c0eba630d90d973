use Rattle.std.proofs.Common.{◌∙◌, ◌∷◌, [], List, ℕ, codes, inl, inr, ap, map, refl, string_bytes, sym}
use Rattle.uuspool.proofs.BatchCallLemmas.{one_item, read_as, three_items}
use Rattle.uuspool.proofs.batch_call.batch_settings.Goals as goal

pub returns-in-len1 : goal.returns-in-len1
returns-in-len1 c =
    inl (
      ap (map string_bytes) (one_item c.args.words.now c.word-item.result c.in-len1.len_at_least c.in-len1.len_below c.word-item.is)
          ∙ ap (λ word. word ∷ []) (read_as c.as_str.result.now (string_bytes c.word-item.result) (codes "batch") c.eq.result c.as_str.ensures.value c.eq.ensures c.if-eq.true),
      refl,
    )

pub returns-in-len3 : goal.returns-in-len3
returns-in-len3 c =
    let option : List ℕ = string_bytes c.option-item.result in
    let file : List ℕ = string_bytes c.file-item.result in
    let word : List ℕ = string_bytes c.word-item-then-words-lt4.result in
    inr (
    ap (map string_bytes) (three_items c.args.words.now c.option-item.result c.file-item.result c.word-item-then-words-lt4.result
    c.in-len3.len_at_least c.in-len3.len_below c.option-item.is c.file-item.is c.word-item-then-words-lt4.is)
    ∙ ap (λ o. o ∷ file ∷ word ∷ []) (read_as c.as_str-then-words-lt4.result.now option (codes "-c") c.eq-then-words-lt4.result c.as_str-then-words-lt4.ensures.value c.eq-then-words-lt4.ensures c.if-eq-2.true)
    ∙ ap (λ f. codes "-c" ∷ f ∷ word ∷ []) (sym c.as_str-in-len3.ensures.value)
    ∙ ap (λ w. codes "-c" ∷ c.as_str-in-len3.result.now ∷ w ∷ []) (read_as c.as_str-then-eq-2.result.now word (codes "batch") c.eq-then-eq-2.result c.as_str-then-eq-2.ensures.value c.eq-then-eq-2.ensures c.if-eq-3.true)
    )
