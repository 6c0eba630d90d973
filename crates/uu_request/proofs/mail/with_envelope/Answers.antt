use Rattle.uu_request.proofs.Years.{shown_year}
use Rattle.uu_request.proofs.mail.with_envelope.Goals as goal

pub envelope-requires-clause-from : goal.envelope-requires-clause-from
envelope-requires-clause-from c =
    (shown_year c.args.at.now.local c.args.at.now.second c.args.settings.now.zone (c.zones_are_what_they_say.ensures.within c.args.settings.now.zone c.args.at.now.second) c.requires).0

pub envelope-requires-clause-to : goal.envelope-requires-clause-to
envelope-requires-clause-to c =
    (shown_year c.args.at.now.local c.args.at.now.second c.args.settings.now.zone (c.zones_are_what_they_say.ensures.within c.args.settings.now.zone c.args.at.now.second) c.requires).1
