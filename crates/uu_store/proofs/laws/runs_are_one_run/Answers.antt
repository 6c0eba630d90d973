use Rattle.uu_store.proofs.Running.{ran_then, ran_answered_alone, ran_any_hand}
use Rattle.uu_store.proofs.laws.runs_are_one_run.Goals as goal

pub returns-clause-joined : goal.returns-clause-joined
returns-clause-joined g c first_hand in_hand old mid new one other first second was stopped every on p q =
    ran_then c.runs_follow_one_another.ensures.states c.runs_follow_one_another.ensures.replies first_hand in_hand old mid new one other first second was stopped every on p q

pub returns-clause-answered : goal.returns-clause-answered
returns-clause-answered g c in_hand old new commands replies was on ran = ran_answered_alone in_hand old new commands replies was on ran

pub returns-clause-any_hand : goal.returns-clause-any_hand
returns-clause-any_hand g c in_hand other old new commands replies stopped every on ran = ran_any_hand in_hand other old new commands replies stopped every on ran
