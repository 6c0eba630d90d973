use Rattle.std.proofs.Common.{◌≡◌, Some, take}
use Rattle.toml.specs.View.{items_view}
use Rattle.uu_settings.specs.Settings.{words_in}
use Rattle.uu_settings.proofs.values.words_in.Given as goal

-- the words so far are those of the values before this one
abbrev pub invariant-loop-value : goal.invariant-loop-value
invariant-loop-value l = words_in (items_view (take l.value-index l.values)) ≡ Some l.words.items
