use Rattle.uu_store.proofs.ShortLogs.{keeps}
use Rattle.uu_store.proofs.laws.short_logs_count_as_none.Goals as goal

pub returns : goal.returns
returns c log db s short keep = keeps log db short s keep
