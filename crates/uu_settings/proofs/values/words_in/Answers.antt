use Rattle.std.proofs.Common.{◌∙◌, ap, sym, ℕ, ◌<◌, List, length, Some, Result, Err, Vec, Global, add-one, arith}
use Rattle.std.specs.Prelude.{ok_or}
use Rattle.toml.specs.View.{items_view, view}
use Rattle.uu_names.specs.declared.word.Word.{Word}
use Rattle.uu_settings.specs.Settings.{word_in, words_in}
use Rattle.uu_settings.specs.declared.fault.Key.TheVariants.{Admins}
use Rattle.uu_settings.specs.declared.fault.SettingsFault.{SettingsFault}
use Rattle.uu_settings.specs.declared.fault.SettingsFault.TheVariants.{BadValue}
use Rattle.uu_settings.proofs.ReadingLemmas.{err_is, err_weaker, ok_is, words_next, words_stop}
use Rattle.uu_settings.proofs.values.words_in.Goals as goal

pub returns-in-Err : goal.returns-in-Err
returns-in-Err c =
    let bad = BadValue Admins in
    let value = c.value-item.result in
    let values = c.args.values.now in
    let inside : c.loop-value.value-index < length values = omega arith in
    let err : SettingsFault → Result (List (List ℕ)) SettingsFault = λ fault. Err fault in
    err_weaker (λ word. word) (λ (words : Vec Word Global). words.items) c.in-Err.fault (ok_or (word_in (view value)) bad) (ok_or (words_in (items_view values)) bad)
    (λ is.
    let failed = err_is (word_in (view value)) c.in-Err.fault bad is in
    ap err failed.1 ∙ ap (λ o. ok_or o bad) (words_stop values c.loop-value.value-index value c.loop-value.words.items inside c.value-item.is c.loop-value.invariant failed.0))
    c.in-Err.ensures

pub loop-value-preserved : goal.loop-value-preserved
loop-value-preserved c =
    let value = c.value-item.result in
    let inside : c.loop-value.value-index < length c.args.values.now = omega arith in
    rw add-one (words_next c.args.values.now c.loop-value.value-index value c.loop-value.words.items c.in-Ok.word inside c.value-item.is c.loop-value.invariant
    (ok_is (word_in (view value)) c.in-Ok.word (BadValue Admins) c.in-Ok.ensures)
    ∙ ap Some (sym c.in_ok-push-in-Ok.ensures.items))
