use Rattle.std.proofs.Common.{rules, ◌≡◌, ◌++◌, ◌<◌, length, take}
use Rattle.uu_report.proofs.ReportLemmas.{lines_grow}
use Rattle.uu_report.specs.Reports.{AreLines, IsSystemLine}
use Rattle.uu_report.proofs.status.status_report.Goals as goal

pub loop-system-preserved : goal.loop-system-preserved
loop-system-preserved c =
    let grown : c.extend_from_slice.new.self.items ≡ c.loop-system.report.items ++ c.as_bytes.result.now = search rules in
    let line : IsSystemLine c.args.zone.now c.system-item.result c.as_bytes.result.now =
    rw c.as_bytes.ensures.value (c.in_ok-line.ensures) in
    let inside : c.loop-system.system-index < length c.args.systems.now = search rules in
    let before : AreLines (IsSystemLine c.args.zone.now) (take c.loop-system.system-index c.args.systems.now) c.loop-system.report.items =
    c.loop-system.invariant in
    simp (grown) (lines_grow (IsSystemLine c.args.zone.now) c.args.systems.now c.loop-system.system-index c.system-item.result
    c.loop-system.report.items c.as_bytes.result.now inside c.system-item.is before line)
