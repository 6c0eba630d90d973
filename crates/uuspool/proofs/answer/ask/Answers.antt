use Rattle.std.proofs.Common.{ℕ, List, ap, subst, sym, ◌∙◌}
use Rattle.std.specs.Io.KnownBytes.{Appends}
use Rattle.uu_request.specs.declared.request.Question.{Question}
use Rattle.uu_request.specs.declared.request.Question.TheVariants as question
use Rattle.uu_request.specs.declared.request.Request.TheVariants as request
use Rattle.uuspool.specs.Served.{IsServed}
use Rattle.uuspool.proofs.answer.ask.Goals as goal

pub returns-in-Jobs : goal.returns-in-Jobs
returns-in-Jobs g c =
    let written : List ℕ → Type 0 = λ output. Appends (g.W.Write.contents c.args.out.now) (g.W.Write.contents c.list.new.out) output in
    subst (λ (q : Question). IsServed c.args.settings.now (request.Question q) c.args.spool.now c.list.new.spool written c.list.result) (sym c.in-Jobs.is) c.list.ensures

pub returns-in-Job : goal.returns-in-Job
returns-in-Job g c =
    let written : List ℕ → Type 0 = λ output. Appends (g.W.Write.contents c.args.out.now) (g.W.Write.contents c.show.new.out) output in
    subst (λ (q : Question). IsServed c.args.settings.now (request.Question q) c.args.spool.now c.show.new.spool written c.show.result) (sym c.in-Job.is) c.show.ensures

pub returns-in-Due : goal.returns-in-Due
returns-in-Due g c =
    let written : List ℕ → Type 0 = λ output. Appends (g.W.Write.contents c.args.out.now) (g.W.Write.contents c.due.new.out) output in
    subst (λ (q : Question). IsServed c.args.settings.now (request.Question q) c.args.spool.now c.due.new.spool written c.due.result) (sym c.in-Due.is) c.due.ensures

pub returns-in-NextCalls : goal.returns-in-NextCalls
returns-in-NextCalls g c =
    let written : List ℕ → Type 0 = λ output. Appends (g.W.Write.contents c.args.out.now) (g.W.Write.contents c.when.new.out) output in
    subst (λ (q : Question). IsServed c.args.settings.now (request.Question q) c.args.spool.now c.when.new.spool written c.when.result) (sym c.in-NextCalls.is) c.when.ensures

pub returns-in-NextPolls : goal.returns-in-NextPolls
returns-in-NextPolls g c =
    let written : List ℕ → Type 0 = λ output. Appends (g.W.Write.contents c.args.out.now) (g.W.Write.contents c.polls.new.out) output in
    let given = ap (λ system. question.NextPolls system c.in-NextPolls.at) c.as_ref.ensures.value ∙ sym c.in-NextPolls.is in
    subst (λ (q : Question). IsServed c.args.settings.now (request.Question q) c.args.spool.now c.polls.new.spool written c.polls.result) given c.polls.ensures

pub returns-in-Queues : goal.returns-in-Queues
returns-in-Queues g c =
    let written : List ℕ → Type 0 = λ output. Appends (g.W.Write.contents c.args.out.now) (g.W.Write.contents c.sum_up.new.out) output in
    subst (λ (q : Question). IsServed c.args.settings.now (request.Question q) c.args.spool.now c.sum_up.new.spool written c.sum_up.result) (sym c.in-Queues.is) c.sum_up.ensures

pub returns-in-Systems : goal.returns-in-Systems
returns-in-Systems g c =
    let written : List ℕ → Type 0 = λ output. Appends (g.W.Write.contents c.args.out.now) (g.W.Write.contents c.status.new.out) output in
    subst (λ (q : Question). IsServed c.args.settings.now (request.Question q) c.args.spool.now c.status.new.spool written c.status.result) (sym c.in-Systems.is) c.status.ensures

pub returns-in-Entry : goal.returns-in-Entry
returns-in-Entry g c =
    let written : List ℕ → Type 0 = λ output. Appends (g.W.Write.contents c.args.out.now) (g.W.Write.contents c.neighbours.new.out) output in
    subst (λ (q : Question). IsServed c.args.settings.now (request.Question q) c.args.spool.now c.neighbours.new.spool written c.neighbours.result) (sym c.in-Entry.is) c.neighbours.ensures

pub returns-in-AllDue : goal.returns-in-AllDue
returns-in-AllDue g c =
    let written : List ℕ → Type 0 = λ output. Appends (g.W.Write.contents c.args.out.now) (g.W.Write.contents c.due_jobs.new.out) output in
    subst (λ (q : Question). IsServed c.args.settings.now (request.Question q) c.args.spool.now c.due_jobs.new.spool written c.due_jobs.result) (sym c.in-AllDue.is) c.due_jobs.ensures

pub returns-in-Name : goal.returns-in-Name
returns-in-Name g c =
    let written : List ℕ → Type 0 = λ output. Appends (g.W.Write.contents c.args.out.now) (g.W.Write.contents c.name.new.out) output in
    subst (λ (q : Question). IsServed c.args.settings.now (request.Question q) c.args.spool.now c.name.new.spool written c.name.result) (sym c.in-Name.is) c.name.ensures

pub returns-in-Definitions : goal.returns-in-Definitions
returns-in-Definitions g c =
    let written : List ℕ → Type 0 = λ output. Appends (g.W.Write.contents c.args.out.now) (g.W.Write.contents c.systems.new.out) output in
    let given = ap (λ name. question.Definitions name) c.as_ref-in-Definitions.ensures.value ∙ sym c.in-Definitions.is in
    subst (λ (q : Question). IsServed c.args.settings.now (request.Question q) c.args.spool.now c.systems.new.spool written c.systems.result) given c.systems.ensures

pub returns-in-Pack : goal.returns-in-Pack
returns-in-Pack g c =
    let written : List ℕ → Type 0 = λ output. Appends (g.W.Write.contents c.args.out.now) (g.W.Write.contents c.pack.new.out) output in
    subst (λ (q : Question). IsServed c.args.settings.now (request.Question q) c.args.spool.now c.pack.new.spool written c.pack.result) (sym c.in-Pack.is) c.pack.ensures

pub returns-in-Answer : goal.returns-in-Answer
returns-in-Answer g c =
    let written : List ℕ → Type 0 = λ output. Appends (g.W.Write.contents c.args.out.now) (g.W.Write.contents c.answer.new.out) output in
    subst (λ (q : Question). IsServed c.args.settings.now (request.Question q) c.args.spool.now c.answer.new.spool written c.answer.result) (sym c.in-Answer.is) c.answer.ensures

pub returns-in-Routes : goal.returns-in-Routes
returns-in-Routes g c =
    let written : List ℕ → Type 0 = λ output. Appends (g.W.Write.contents c.args.out.now) (g.W.Write.contents c.routes.new.out) output in
    let given = ap (λ name. question.Routes name c.in-Routes.costs) c.as_ref-in-Routes.ensures.value ∙ sym c.in-Routes.is in
    subst (λ (q : Question). IsServed c.args.settings.now (request.Question q) c.args.spool.now c.routes.new.spool written c.routes.result) given c.routes.ensures
