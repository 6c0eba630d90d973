use Rattle.std.proofs.Common.{◌∙◌, ap, arith}
use Rattle.uu_line.specs.Lines.{after_bang}
use Rattle.uu_line.proofs.OriginLemmas.{no_bang}
use Rattle.uu_line.proofs.origin.parts_of.Goals as goal

pub returns-in-None-clause-word : goal.returns-in-None-clause-word
returns-in-None-clause-word c =
    no_bang c.halves.result.1.now (c.in-None.ensures.byte (omega arith) (λ w o is. is)) ∙ ap after_bang c.halves.ensures.rest
