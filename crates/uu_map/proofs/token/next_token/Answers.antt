use Rattle.std.proofs.Common.{arith}
use Rattle.std.proofs.lemmas.Grind.{common_steps}
use Rattle.uu_map.proofs.Tokens.{tokens_next, tokens_end}
use Rattle.uu_map.proofs.token.next_token.Goals as goal

pub returns-then-is_empty-clause-value : goal.returns-then-is_empty-clause-value
returns-then-is_empty-clause-value c = let e = tokens_end c.args.text.now in grind (arith, common_steps)

pub returns-clause-value : goal.returns-clause-value
returns-clause-value c = let e = tokens_next c.args.text.now in grind (arith, common_steps)
