use Rattle.uu_core.proofs.KeyLaws.{key_kept, key_again}
use Rattle.uu_core.proofs.KeyOrigins.{key_origin}
use Rattle.uu_core.proofs.laws.keys_are_answered_again.Goals as goal

pub returns : goal.returns
returns c = record { kept = key_kept; run = key_again; origin = key_origin }
