-- The head of a job whose names and words are borrowed from its row.
use Rattle.std.specs.Prelude.{IsTrue}
use Rattle.uu_names.specs.Name.{is_site_name, is_word}
use Rattle.uu_core.specs.declared.job.JobHead.{JobHead}
use Rattle.uu_core.specs.declared.job.Kind.{Kind}
use Rattle.uu_core.specs.declared.job.Kind.TheVariants as kind
use Rattle.uu_core.specs.WellFormed.{HasWords}
use Rattle.uu_tables.specs.declared.heads.KindColumns.{KindColumns}
use Rattle.uu_tables.specs.declared.heads.KindColumns.TheVariants.{Send, Request, Execute}
use Rattle.uu_tables.specs.declared.heads.HeadColumns.TheInside.{Inside}

abbrev pub kind_in : KindColumns → Kind
kind_in (Send source target) = kind.Send source.now target.now
kind_in (Request source target) = kind.Request source.now target.now
kind_in (Execute command arguments) = kind.Execute command.now arguments

abbrev pub head_in : Inside → JobHead
head_in h = record { number = h.number; system = h.system.now; grade = h.grade; user = h.user.now; kind = kind_in h.kind; queued = h.queued; size = h.size }

-- its names are site names, and its words are words
pub record HasForms (h : Inside) : Type 0 where
  pub system : IsTrue (is_site_name h.system.now)
  pub user : IsTrue (is_word h.user.now)
  pub kind : HasWords (kind_in h.kind)
