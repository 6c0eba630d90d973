use Rattle.std.proofs.Common.{◌∙◌, ◌||◌, ap, sym}
use Rattle.std.specs.BTreeSet.{contains}
use Rattle.uu_core.specs.declared.command.Command.TheVariants.{QueueOnce}
use Rattle.uuspool.specs.Internal.Keys.{by_key, is_of_key}
use Rattle.uuspool.proofs.KeyLemmas.{key_found}
use Rattle.uuspool.proofs.asking.add_key.Goals as goal

pub returns-in_ok-insert : goal.returns-in_ok-insert
returns-in_ok-insert c = λ number mark.
    let key = c.in-QueueOnce.key in
    let was = contains by_key c.args.keys.now (number, mark) in
    c.in_ok-insert.ensures.updates.0 (number, mark)
    ∙ key_found key.number c.number.result number mark was
    ∙ ap (λ m. was || is_of_key number mark (QueueOnce (record key { mark = m }) c.in-QueueOnce.field-1)) c.number.ensures.value
    ∙ ap (λ command. was || is_of_key number mark command) (sym c.in-QueueOnce.is)
