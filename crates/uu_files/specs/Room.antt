-- How long the database file of a spool may become, and which frames a log takes. A log is laid out
-- as SQLite's: 32 bytes, and then frames of 24 bytes and a page, each of which begins with the page's
-- number. (The limit and how it counts are this project's choice.)
use Rattle.std.specs.Prelude.{◌≡◌, ℕ, ◌+◌, ◌*◌, ◌/◌, ◌<◌, ◌≤◌, max, List, length, drop, take, slice_index, Option, Some, None, if◌then◌else◌}
use Rattle.std.specs.Int.{from_be_bytes, w32}
use Rattle.uu_files.specs.declared.room.Room.{Room}

-- The most pages of a database file of this length, if the limit counts: those of the limit. A file
-- that is longer keeps its pages.
abbrev pub most_pages : Room → ℕ → Option ℕ
most_pages room length = if room.counts then Some (max room.limit length / 4096) else None

-- The header of a database file says that its pages have another size: the number at 16 isn't 4,096,
-- whose two bytes are 16 and 0 (SQLite's file format, 1.3.2).
abbrev pub HasOtherPages : List ℕ → Type 0
HasOtherPages db = (18 ≤ length db) × ¬ ((slice_index db 16 ≡ 16) × (slice_index db 17 ≡ 0))

-- The last page whose frames the log beside a database file takes. Beside one with other pages it
-- takes all.
pub record IsLimit (room : Room) (db : List ℕ) (most : Option ℕ) : Type 0 where
  pub counted : ¬ HasOtherPages db → most ≡ most_pages room (length db)
  pub other : HasOtherPages db → most ≡ None

-- a frame in a log, which begins with these bytes, is of a page beyond the last one
abbrev pub IsPageBeyond : ℕ → List ℕ → Type 0
IsPageBeyond last frame = (4 ≤ length frame) × (last < from_be_bytes w32 (take 4 frame))

-- the place of a frame in a log
abbrev pub frame_at : ℕ → ℕ
frame_at frame = 32 + frame * 4120

-- from this place of a log it is so many bytes to the next frame, or to the one that begins there
abbrev pub IsWayToFrame : ℕ → ℕ → Type 0
IsWayToFrame at way = ((frame : ℕ) × (at + way ≡ frame_at frame)) × ((frame : ℕ) → at ≤ frame_at frame → at + way ≤ frame_at frame)

-- one of the frames whose number is in these bytes, which are for this place of a log, is of a page
-- beyond the last one
abbrev pub HasPageBeyond : ℕ → ℕ → List ℕ → Type 0
HasPageBeyond last at bytes = (way : ℕ) × (frame : ℕ) × (at + way ≡ frame_at frame) × IsPageBeyond last (drop way bytes)
