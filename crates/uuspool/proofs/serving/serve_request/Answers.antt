use Rattle.std.proofs.Common.{subst, sym}
use Rattle.std.specs.Io.KnownBytes.{Appends}
use Rattle.uu_request.specs.declared.request.Request.{Request}
use Rattle.uuspool.specs.Served.{IsServed}
use Rattle.uuspool.proofs.serving.serve_request.Goals as goal

pub returns-in-Commands : goal.returns-in-Commands
returns-in-Commands g c =
    subst (λ (request : Request). IsServed c.args.settings.now request c.args.spool.now c.run.new.spool
    (λ output. Appends (g.W.Write.contents c.args.out.now) (g.W.Write.contents c.run.new.out) output) c.run.result)
    (sym c.in-Commands.is) c.run.ensures

pub returns-in-Question : goal.returns-in-Question
returns-in-Question g c =
    subst (λ (request : Request). IsServed c.args.settings.now request c.args.spool.now c.ask.new.spool
    (λ output. Appends (g.W.Write.contents c.args.out.now) (g.W.Write.contents c.ask.new.out) output) c.ask.result)
    (sym c.in-Question.is) c.ask.ensures

pub returns-in-Mailing : goal.returns-in-Mailing
returns-in-Mailing g c =
    subst (λ (request : Request). IsServed c.args.settings.now request c.args.spool.now c.mail.new.spool
    (λ output. Appends (g.W.Write.contents c.args.out.now) (g.W.Write.contents c.mail.new.out) output) c.mail.result)
    (sym c.in-Mailing.is) c.mail.ensures

pub returns-in-Settling : goal.returns-in-Settling
returns-in-Settling g c =
    subst (λ (request : Request). IsServed c.args.settings.now request c.args.spool.now c.settle.new.spool
    (λ output. Appends (g.W.Write.contents c.args.out.now) (g.W.Write.contents c.settle.new.out) output) c.settle.result)
    (sym c.in-Settling.is) c.settle.ensures

pub returns-in-Unpacking : goal.returns-in-Unpacking
returns-in-Unpacking g c =
    subst (λ (request : Request). IsServed c.args.settings.now request c.args.spool.now c.unpack.new.spool
    (λ output. Appends (g.W.Write.contents c.args.out.now) (g.W.Write.contents c.unpack.new.out) output) c.unpack.result)
    (sym c.in-Unpacking.is) c.unpack.ensures
