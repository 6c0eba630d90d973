use Rattle.uuspool_main.proofs.stretch.batch_answer.Goals as goal

pub returns : goal.returns
returns g c = c.batch_on-end.ensures
