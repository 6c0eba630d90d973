use Rattle.std.proofs.Common.{◌∙◌}
use Rattle.uuspool.proofs.MailLemmas.{no_words}
use Rattle.uuspool.proofs.mailing.addresses_over.Goals as goal

pub returns-in-None : goal.returns-in-None
returns-in-None c =
    no_words c.args.sites.now c.args.addresses.now c.deref.result.now c.address-item.result c.address-item.result c.loop-address.address-index c.in_ok-word.field-0 (c.deref.ensures ∙ c.in_ok-path.ensures) c.loop-address-test.true
    c.address-item.is c.in_ok-word.ensures c.in-None.is
