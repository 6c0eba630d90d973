use Rattle.std.proofs.Math.Logic.{∥∥₁_map}
use Rattle.uu_custody.specs.Carried.{events_of}
use Rattle.uu_custody.specs.AmongSites.{seen_by}
use Rattle.uu_custody.proofs.AmongSites.{all_over, all_free}
use Rattle.uu_custody.proofs.laws.messages_come_once_in_bundles.Goals as goal

pub returns : goal.returns
returns g c chart name count first deeds lines named among around on files =
    let said = c.bundles_say_what_may_be_said.ensures in
    let none = c.states_stay_well_formed.ensures.empty in
    let wire = c.bundles_keep_to_the_wire.ensures in
    let H = g.H.Sites in
    ∥∥₁_map
    (c.messages_come_once_in_files.ensures chart count first (λ line. events_of (chart.crossing line) (seen_by chart line deeds)) lines (λ site l. (files site l).keeps) (λ site l. (files site l).passed)
    (all_over said.below said.jobs said.has none wire.keeps wire.forgets chart name named count first H.before H.stretches deeds around on files lines among))
    (λ come. record {
      come = come;
      free = all_free said.below said.jobs said.has none wire.keeps wire.forgets chart name named count first H.before H.stretches deeds around on files (record { first = first; counted = come.counted }) lines come.free;
    })
