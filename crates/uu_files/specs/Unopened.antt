-- Why the files of a spool weren't opened.
use Rattle.std.specs.Prelude.{◌≡◌, ◌⊎◌}
use Rattle.sqlite.specs.declared.error.Error.{Error}
use Rattle.sqlite.specs.declared.error.Error.TheVariants.{SqliteFailure}
use Rattle.sqlite.specs.declared.error.ErrorCode.TheVariants.{CannotOpen, OutOfMemory, DatabaseBusy, SystemIoFailure}

-- there are no such files, memory is short, another program has them, or they can't be read
abbrev pub IsWhyUnopened : Error → Type 0
IsWhyUnopened error =
    (error ≡ SqliteFailure CannotOpen) ⊎ ((error ≡ SqliteFailure OutOfMemory) ⊎ ((error ≡ SqliteFailure DatabaseBusy) ⊎ (error ≡ SqliteFailure SystemIoFailure)))
