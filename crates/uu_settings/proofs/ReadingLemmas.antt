-- The readings of a document's values.
use Rattle.std.proofs.Common.{◌≡◌, ◌∙◌, ap, sym, refl, ℕ, zero, suc, ◌<◌, List, [], ◌∷◌, ◌++◌, Option, Some, None, Result, Ok, Err, take, length, slice_index_or, arith}
use Rattle.std.specs.Prelude.{ok_or, option_and_then, option_map}
use Rattle.toml.specs.View.{items_view, view}
use Rattle.toml.specs.declared.value.Value.{Value}
use Rattle.uu_settings.specs.Settings.{AnswersAs, and_then, word_in, words_in}
use Rattle.uu_settings.specs.declared.fault.SettingsFault.{SettingsFault}
use Rattle.uu_settings.specs.declared.fault.SettingsFault.TheVariants.{BadValue}
use Rattle.uu_settings.specs.declared.fault.SettingsFault.TheVariants as fault

-- what follows from a fault that isn't out of memory
pub err_weaker : {V W X Y : Type 0} (seen : V → W) (shown : X → Y) (f : SettingsFault) (a : Result W SettingsFault) (b : Result Y SettingsFault)
    → (Err f ≡ a → Err f ≡ b) → AnswersAs seen (Err f) a → AnswersAs shown (Err f) b
err_weaker seen shown (fault.NotToml why) a b weaker is = weaker is
err_weaker seen shown (fault.Missing key) a b weaker is = weaker is
err_weaker seen shown (fault.BadValue key) a b weaker is = weaker is
err_weaker seen shown fault.Memory a b weaker is = tt

-- a fault of the first reading is that of both
pub answers_then : {V W X Y : Type 0} (seen : V → W) (shown : X → Y) (f : SettingsFault) (first : Result W SettingsFault) (next : W → Result Y SettingsFault)
    → AnswersAs seen (Err f) first → AnswersAs shown (Err f) (and_then first next)
answers_then seen shown f first next is = err_weaker seen shown f first (and_then first next) (λ same. ap (λ r. and_then r next) same) is

-- a value that was read, and a fault in place of one
pub ok_is : {V : Type 0} (o : Option V) (v : V) (f : SettingsFault) → Ok v ≡ ok_or o f → Some v ≡ o
ok_is None v f is = absurd cc
ok_is (Some x) v f is = cc

pub err_is : {V : Type 0} (o : Option V) (f g : SettingsFault) → Err f ≡ ok_or o g → (None ≡ o) × (f ≡ g)
err_is None f g is = (refl, cc)
err_is (Some x) f g is = absurd cc

-- both readings came to a value
both_read : (first : Option (List ℕ)) (others : Option (List (List ℕ))) (words : List (List ℕ))
    → option_and_then (λ word. option_map (λ more. word ∷ more) others) first ≡ Some words
    → (word : List ℕ) × (more : List (List ℕ)) × (first ≡ Some word) × (others ≡ Some more) × (words ≡ word ∷ more)
both_read None others words is = absurd cc
both_read (Some word) None words is = absurd cc
both_read (Some word) (Some more) words is = (word, more, refl, refl, cc)

-- one more value
pub words_next : (values : List Value) (i : ℕ) (value : Value) (words : List (List ℕ)) (word : List ℕ) → i < length values
    → value ≡ slice_index_or values i value → words_in (items_view (take i values)) ≡ Some words → Some word ≡ word_in (view value)
    → words_in (items_view (take (suc i) values)) ≡ Some (words ++ word ∷ [])
words_next [] i value words word inside at so_far is = absurd (omega arith)
words_next (x ∷ xs) zero value words word inside at so_far is =
    let none : [] ≡ words = cc in
    let last : Option (List ℕ) → Option (List (List ℕ)) = option_and_then (λ w. Some (w ∷ [])) in
    ap (λ (v : Value). last (word_in (view v))) (sym at) ∙ ap last (sym is) ∙ ap (λ ws. Some (ws ++ word ∷ [])) none
words_next (x ∷ xs) (suc i) value words word inside at so_far is =
    let (head, more, first, others, whole) = both_read (word_in (view x)) (words_in (items_view (take i xs))) words so_far in
    let next = words_next xs i value more word (omega arith) at others is in
    ap (option_and_then (λ w. option_map (λ ws. w ∷ ws) (words_in (items_view (take (suc i) xs))))) first
    ∙ ap (option_map (λ ws. head ∷ ws)) next
    ∙ ap (λ ws. Some (ws ++ word ∷ [])) (sym whole)

-- a value that isn't a word stops the reading
pub words_stop : (values : List Value) (i : ℕ) (value : Value) (words : List (List ℕ)) → i < length values
    → value ≡ slice_index_or values i value → words_in (items_view (take i values)) ≡ Some words → None ≡ word_in (view value)
    → None ≡ words_in (items_view values)
words_stop [] i value words inside at so_far is = absurd (omega arith)
words_stop (x ∷ xs) zero value words inside at so_far is =
    let whole : Option (List ℕ) → Option (List (List ℕ)) = option_and_then (λ w. option_map (λ ws. w ∷ ws) (words_in (items_view xs))) in
    ap whole is ∙ ap (λ (v : Value). whole (word_in (view v))) at
words_stop (x ∷ xs) (suc i) value words inside at so_far is =
    let (head, more, first, others, whole) = both_read (word_in (view x)) (words_in (items_view (take i xs))) words so_far in
    ap (option_map (λ ws. head ∷ ws)) (words_stop xs i value more (omega arith) at others is)
    ∙ ap (option_and_then (λ w. option_map (λ ws. w ∷ ws) (words_in (items_view xs)))) (sym first)
