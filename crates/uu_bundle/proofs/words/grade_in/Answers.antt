use Rattle.uu_bundle.proofs.Numbers.{graded, ungraded}
use Rattle.uu_bundle.proofs.words.grade_in.Goals as goal

pub returns-then-bytes-eq1 : goal.returns-then-bytes-eq1
returns-then-bytes-eq1 c =
    graded c.args.text.now c.as_bytes-bytes.result.now c.parse.result c.ok.result c.as_bytes-bytes.ensures.value c.if-bytes-eq1.true c.parse.ensures c.ok.ensures.value

pub returns-else-bytes-eq1 : goal.returns-else-bytes-eq1
returns-else-bytes-eq1 c = ungraded c.args.text.now c.as_bytes-bytes.result.now c.as_bytes-bytes.ensures.value c.if-bytes-eq1.false
