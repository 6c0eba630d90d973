use Rattle.std.proofs.Common.{◌∙◌, ap, map, ℕ, List, Result, Ok}
use Rattle.uu_core.specs.TakeIns.{offering}
use Rattle.uu_core.specs.declared.command.Command.{Command}
use Rattle.uu_request.specs.Unpacking.{offered}
use Rattle.uu_request.specs.declared.fault.RequestFault.{RequestFault}
use Rattle.uu_request.specs.declared.request.Packing.{Packing}
use Rattle.uu_request.specs.declared.request.Question.TheVariants as question
use Rattle.uu_request.specs.declared.request.Request.{Request}
use Rattle.uu_request.specs.declared.request.Request.TheVariants as request
use Rattle.uu_request.proofs.Lists.{mapped_twice}
use Rattle.uu_request.proofs.unpacking.answered.Goals as goal

-- the question for the answer with these commands
abbrev asked_with : Packing → ℕ → List Command → Result Request RequestFault
asked_with packing asked commands = Ok (request.Question (question.Answer (record { packing = packing; asked = asked; commands = commands })))

pub returns : goal.returns
returns c =
    let queue = offering c.args.packing.system in
    let offer = offered c.args.settings.now c.args.at.now c.args.packing.system c.args.onward.now in
    ap (asked_with c.args.packing c.args.bundle.grade)
    (c.from_vec.ensures ∙ c.in_ok-commands.ensures ∙ ap (map queue) (c.in_ok-offers.ensures.offers ∙ ap (map offer) c.into_vec-jobs.ensures)
    ∙ mapped_twice queue offer c.args.bundle.jobs)
