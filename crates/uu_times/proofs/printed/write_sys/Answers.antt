use Rattle.std.proofs.Common.{◌++◌, ap, subst, ◌∙◌, All, []}
use Rattle.std.specs.List.{flat_map}
use Rattle.std.proofs.lemmas.List.{take_all}
use Rattle.std.proofs.lemmas.List.Elements.{All-more}
use Rattle.uu_times.specs.System.{System}
use Rattle.uu_times.specs.SysFile.{sys_file_of}
use Rattle.uu_times.specs.Printed.{system_text, IsSystem}
use Rattle.uu_times.proofs.PrintedSystems.{printed_read}
use Rattle.uu_times.proofs.PrintedText.{grow}
use Rattle.uu_times.proofs.printed.write_sys.Goals as goal

pub loop-system-preserved : goal.loop-system-preserved
loop-system-preserved c =
    let system = c.system-item.result in (
      grow system_text c.args.systems.now c.loop-system.system-index system [] c.loop-system.text.items c.push_system.new.text.items
          c.loop-system-test.true c.loop-system.invariant.0
          (c.in_ok-push_system.ensures.text ∙ ap (λ (s : System). c.loop-system.text.items ++ system_text s) c.system-item.is),
      All-more IsSystem c.args.systems.now c.loop-system.system-index system c.loop-system-test.true c.loop-system.invariant.1 (subst IsSystem c.system-item.is c.in_ok-push_system.ensures.is),
    )

pub returns-clause-read : goal.returns-clause-read
returns-clause-read c =
    let whole = take_all c.loop-system.system-index c.args.systems.now c.loop-system-test.false in
    λ differ. ap sys_file_of (c.loop-system.invariant.0 ∙ ap (flat_map system_text) whole) ∙ printed_read c.args.systems.now (subst (All IsSystem) whole c.loop-system.invariant.1) differ
