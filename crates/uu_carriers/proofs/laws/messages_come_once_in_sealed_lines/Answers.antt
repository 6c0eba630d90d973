use Rattle.std.proofs.Common.{[]}
use Rattle.uu_carriers.proofs.Sealing.{go_in_lines}
use Rattle.uu_carriers.proofs.laws.messages_come_once_in_sealed_lines.Goals as goal

pub returns : goal.returns
returns g c places count first steps lines sites among within typed files =
    c.messages_come_once_in_lines.ensures places count first steps lines sites among within (go_in_lines c.opened_texts_were_sealed.ensures.any places [] steps typed) files
