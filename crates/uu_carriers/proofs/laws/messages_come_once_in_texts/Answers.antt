use Rattle.std.proofs.Common.{map}
use Rattle.uu_carriers.specs.Texts.{chart_of, deed_of}
use Rattle.uu_carriers.proofs.Around.{are_named}
use Rattle.uu_carriers.proofs.laws.messages_come_once_in_texts.Goals as goal

pub returns : goal.returns
returns g c places count first acts lines apart among around on files =
    c.messages_come_once_in_bundles.ensures (chart_of places) places.name count first (map deed_of acts) lines (are_named places apart) among (c.texts_go_around.ensures places acts apart around) on files
