use Rattle.std.proofs.Common.{inl, inr, refl}
use Rattle.uu_store.proofs.laws.calls_make_a_stretch_over.Goals as goal

pub returns-clause-let_go : goal.returns-clause-let_go
returns-clause-let_go g c in_hand found commands begun ended replies stopped store adopted ran last clean =
    record { work = inl (record { begun = begun; ended = ended; fault = stopped; ending = refl; adopted = adopted; ran = ran; let_go = last }); clean = clean }

pub returns-clause-not_taken : goal.returns-clause-not_taken
returns-clause-not_taken g c found last commands store turned_away let_go clean =
    record { work = inr (record { last = last; turned_away = turned_away; no_reply = refl; ending = refl; let_go = let_go }); clean = clean }
