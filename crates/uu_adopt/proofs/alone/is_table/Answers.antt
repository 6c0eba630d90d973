use Rattle.std.proofs.Common.{◌≡◌, true, ◌∙◌}
use Rattle.sqlite_schema.specs.Names.{same_name}
use Rattle.uu_adopt.proofs.Named.{all_of}
use Rattle.uu_adopt.proofs.alone.is_table.Goals as goal

pub returns-then-same_name : goal.returns-then-same_name
returns-then-same_name c =
    let named = c.same_name.ensures in
    let table = c.as_slice.ensures in
    let bytes = c.as_bytes.ensures.value in
    let is = c.if-same_name.true in
    let same : same_name c.args.table.now.name c.args.name.now ≡ true = cc in
    rw same (c.has_only.ensures ∙ all_of (λ column one. same_name column.name one) (λ one. one.now) c.args.names.now c.args.table.now.columns)
