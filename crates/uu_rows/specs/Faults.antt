-- What a row that isn't read means for a caller.
use Rattle.std.specs.Prelude.{Option, None, Some, Result, Ok, Err}
use Rattle.sqlite.specs.declared.error.Error.{Error}
use Rattle.sqlite.specs.declared.error.Error.TheVariants.{SqliteFailure, QueryReturnedNoRows}
use Rattle.sqlite.specs.declared.error.ErrorCode.TheVariants.{OutOfMemory}
use Rattle.uu_rows.specs.declared.fault.RowFault.{RowFault}
use Rattle.uu_rows.specs.declared.fault.RowFault.TheVariants.{Memory, Bad}

-- out of memory stays out of memory, and a bad row is a row that isn't there
abbrev pub error_of : RowFault → Error
error_of Memory = SqliteFailure OutOfMemory
error_of Bad = QueryReturnedNoRows

-- what was read, or the error of its fault
abbrev pub or_error : {T : Type 0} → Result T RowFault → Result T Error
or_error (Ok typed) = Ok typed
or_error (Err fault) = Err (error_of fault)

-- what was read, or none if a row is bad; out of memory stays an error
abbrev pub or_none : {T : Type 0} → Result T RowFault → Result (Option T) Error
or_none (Ok typed) = Ok (Some typed)
or_none (Err Bad) = Ok None
or_none (Err Memory) = Err (error_of Memory)
