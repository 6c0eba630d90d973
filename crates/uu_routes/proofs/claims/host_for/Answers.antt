use Rattle.std.proofs.Common.{ap, ◌∙◌, nat_cmp}
use Rattle.std.specs.BTreeMap.{get}
use Rattle.std.specs.Cmp.Lexicographic.{slice_cmp}
use Rattle.uu_routes.specs.Internal.Claims.{entry_by, host_by}
use Rattle.uu_routes.proofs.Claiming.{host_is}
use Rattle.uu_routes.proofs.claims.host_for.Goals as goal

pub returns : goal.returns
returns c =
    let name = c.args.name.now in
    let entries = c.args.entries.now in
    c.host_by.ensures ∙ ap (host_by name) (c.entry_by-entry.ensures ∙ ap (entry_by entries) (c.copied.ensures ∙ c.get.ensures.value))
    ∙ host_is entries (get (slice_cmp nat_cmp) c.args.table.now) name c.requires
