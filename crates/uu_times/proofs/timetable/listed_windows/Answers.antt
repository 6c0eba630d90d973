use Rattle.std.proofs.Common.{All, sym, subst}
use Rattle.uu_times.specs.Internal.Union.{IsDaily}
use Rattle.uu_times.proofs.ScanDaily.{daily_list_of}
use Rattle.uu_times.proofs.timetable.listed_windows.Goals as goal

pub windows_of-requires : goal.windows_of-requires
windows_of-requires c = subst (All IsDaily) (sym c.deref.ensures.value) (daily_list_of c.args.text.now c.in-Ok.simples.items c.in-Ok.ensures)
