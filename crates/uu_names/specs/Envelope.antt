-- The line that `rmail` puts before a message (RFC 976; the date in local time and in the form of
-- C's `ctime` is this project's choice).
use Rattle.std.specs.Prelude.{ℕ, ◌+◌, ◌-◌, ◌*◌, ◌/◌, ◌%◌, List, [], ◌∷◌, ◌++◌, codes, take, drop, nat_lt, nat_eq, if◌then◌else◌, unsigned_abs}
use Rattle.std.specs.List.{concat, starts_with}
use Rattle.std.specs.Str.{byte}
use Rattle.jiff_core.specs.Date.{weekday_of}
use Rattle.jiff_core.specs.declared.civil.datetime.DateTime.{DateTime}
use Rattle.uu_names.specs.Text.{line_feed}

-- the name of the day that is so many days after a Monday
abbrev pub day_name : ℕ → List ℕ
day_name days = take 3 (drop (3 * days) (codes "MonTueWedThuFriSatSun"))

-- the name of a month, 1 to 12
abbrev pub month_name : ℕ → List ℕ
month_name month = take 3 (drop (3 * (month - 1)) (codes "JanFebMarAprMayJunJulAugSepOctNovDec"))

-- a digit, 0 to 9
abbrev pub digit : ℕ → ℕ
digit n = byte "0" + n

-- a number below 100 in two places, with a zero before a single digit
abbrev pub two_digits : ℕ → List ℕ
two_digits n = digit (n / 10) ∷ digit (n % 10) ∷ []

-- the same with a space before a single digit
abbrev pub two_places : ℕ → List ℕ
two_places n = (if nat_lt n 10 then byte " " else digit (n / 10)) ∷ digit (n % 10) ∷ []

-- a year, 1000 to 9999, in four digits
abbrev pub four_digits : ℕ → List ℕ
four_digits year = two_digits (year / 100) ++ two_digits (year % 100)

-- a date and time as `Www Mmm dd hh:mm:ss yyyy`
abbrev pub date_text : DateTime → List ℕ
date_text local =
    concat
    (day_name (weekday_of local.date) ∷ codes " " ∷ month_name local.date.month ∷ codes " " ∷ two_places local.date.day ∷ codes " "
    ∷ two_digits local.time.hour ∷ codes ":" ∷ two_digits local.time.minute ∷ codes ":" ∷ two_digits local.time.second ∷ codes " "
    ∷ four_digits (unsigned_abs local.date.year) ∷ [])

-- `From USER DATE remote from SITE` and a line feed
abbrev pub from_line : List ℕ → DateTime → List ℕ → List ℕ
from_line user local site =
    concat (codes "From " ∷ user ∷ codes " " ∷ date_text local ∷ codes " remote from " ∷ site ∷ (line_feed ∷ []) ∷ [])

-- what comes between that line and the message: a `>`, if the message itself begins with a `From `
-- line
abbrev pub quote_of : List ℕ → List ℕ
quote_of message = if starts_with nat_eq message (codes "From ") then codes ">" else []

-- the envelope: the line, and the message with its own `From ` line quoted
abbrev pub envelope_of : List ℕ → DateTime → List ℕ → List ℕ → List ℕ
envelope_of user local site message = from_line user local site ++ quote_of message ++ message
