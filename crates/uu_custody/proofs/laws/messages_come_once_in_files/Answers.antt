use Rattle.uu_store.proofs.FileRuns.{all_keep}
use Rattle.uu_custody.proofs.Sites.{all_come}
use Rattle.uu_custody.proofs.laws.messages_come_once_in_files.Goals as goal

pub returns : goal.returns
returns g c chart count first events lines keep all over =
    let H = g.H.Sites in
    let plain = c.jobs_come_once_over_stops.ensures in
    all_come first H.before H.stretches c.runs_follow_one_another.ensures.states c.states_stay_well_formed.ensures.empty
    (λ crossing a b events sent received good well nothing p q keeps. (plain.once crossing a b events sent received good well nothing p q keeps, plain.free crossing a b events sent received good well nothing p q keeps))
    chart count events keep lines
    (λ site l. all_keep c.runs_follow_one_another.ensures.replies (H.stretches site) (H.before site) (first site) (keep site l) (all site l)) over
