-- The faults of the store. (Their numbers are this project's choice.)
use Rattle.std.specs.Prelude.{◌≡◌, ◌≢◌, ℕ, ⊤}
use Rattle.sqlite.specs.declared.error.ErrorCode.{ErrorCode}
use Rattle.sqlite.specs.declared.error.ErrorCode.TheVariants.{SystemIoFailure, DatabaseCorrupt, DiskFull, OutOfMemory, TooBig, DatabaseBusy}
use Rattle.sqlite.specs.declared.error.Error.{Error}
use Rattle.sqlite.specs.declared.error.Error.TheVariants.{SqliteFailure}
use Rattle.uu_schema.specs.declared.fault.StoreKind.{StoreKind}
use Rattle.uu_schema.specs.declared.fault.StoreKind.TheVariants.{Disk, Size, Busy, Database}
use Rattle.uu_schema.specs.declared.fault.StoreFault.{StoreFault}
use Rattle.uu_schema.specs.declared.fault.StoreFault.TheVariants.{Memory, Store, Failed, Foreign, Newer}
use Rattle.uu_schema.specs.declared.fault.Halt.{Halt}
use Rattle.uu_schema.specs.declared.fault.Halt.TheVariants.{Commit}

-- which part of the store an error of the database is about
abbrev pub kind_of_code : ErrorCode → StoreKind
kind_of_code SystemIoFailure = Disk
kind_of_code DatabaseCorrupt = Disk
kind_of_code DiskFull = Disk
kind_of_code TooBig = Size
kind_of_code DatabaseBusy = Busy
kind_of_code _ = Database

abbrev pub kind_of_error : Error → StoreKind
kind_of_error (SqliteFailure code) = kind_of_code code
kind_of_error _ = Database

abbrev pub fault_code : StoreFault → ℕ
fault_code Memory = 1
fault_code (Store kind) = 2
fault_code Failed = 3
fault_code Foreign = 4
fault_code Newer = 5

-- a fault of the store, except those that only an opening or an earlier failure gives
abbrev pub IsFaultOfThisCall : StoreFault → Type 0
IsFaultOfThisCall Memory = ⊤
IsFaultOfThisCall (Store kind) = ⊤
IsFaultOfThisCall Failed = ⊥
IsFaultOfThisCall Foreign = ⊥
IsFaultOfThisCall Newer = ⊥

-- if it names a part of the store, it is the part that the error is about
abbrev pub NamesPartOf : Error → StoreFault → Type 0
NamesPartOf error fault = (kind : StoreKind) → fault ≡ Store kind → kind ≡ kind_of_error error

-- unless the error is out of memory, it is the failure of the part that the error is about
abbrev pub NamesPartUnlessMemory : Error → StoreFault → Type 0
NamesPartUnlessMemory error fault = error ≢ SqliteFailure OutOfMemory → fault ≡ Store (kind_of_error error)

-- for a failed commit it names the part, and is never out of memory
abbrev pub NamesPartOfCommit : Halt → StoreFault → Type 0
NamesPartOfCommit halt fault = (error : Error) → halt ≡ Commit error → fault ≡ Store (kind_of_error error)
