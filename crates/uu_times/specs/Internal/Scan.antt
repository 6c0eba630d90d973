-- Reading a list of simple strings, in lower case, byte by byte. `laws` says what is read and what
-- is refused.
use Rattle.std.specs.Prelude.{ℕ, ◌+◌, ◌-◌, ◌*◌, ◌/◌, ◌%◌, Bool, ◌&&◌, ◌||◌, nat_lt, ◌==◌, if◌then◌else◌, Option, None, Some, option_map, option_and_then, option_to_list, Result, Ok, Err, List, [], ◌∷◌, ◌++◌, codes}
use Rattle.std.specs.List.{list_any}
use Rattle.std.specs.Char.{is_ascii_digit}
use Rattle.std.specs.Str.{byte}
use Rattle.uu_times.specs.declared.days.Days.{Days}
use Rattle.uu_times.specs.declared.days.Simple.{Simple}
use Rattle.uu_times.specs.declared.scan.Place.{Place}
use Rattle.uu_times.specs.declared.scan.Found.{Found}
use Rattle.uu_times.specs.declared.scan.Place.TheVariants.{Start, Letter, LettersAn, Named, From, Dash, To, Whole}
use Rattle.uu_times.specs.Internal.Simples.{no_days, with_days, two_letters}
use Rattle.uu_times.specs.Grammar.{is_separator, lower}

-- a time of day as its four digits, 0000 to 2359
abbrev pub is_time : ℕ → Bool
is_time digits = nat_lt (digits / 100) 24 && nat_lt (digits % 100) 60

-- as an end, 2400 is accepted too
abbrev pub is_end : ℕ → Bool
is_end digits = is_time digits || digits == 2400

-- the minute of the day
abbrev pub minute_of : ℕ → ℕ
minute_of digits = digits / 100 * 60 + digits % 100

-- 2400 as an end means 2359
abbrev pub last_minute : ℕ → ℕ
last_minute digits = if digits == 2400 then 1439 else minute_of digits

-- a day word begins
abbrev pub first_letter : Days → ℕ → Option Place
first_letter days letter = if list_any (λ first. first == letter) (codes "smtwfa") then Some (Letter days letter) else None

-- it goes on
abbrev pub second_letter : Days → ℕ → ℕ → Option Place
second_letter days first letter =
    if first == byte "a" && letter == byte "n" then Some (LettersAn days)
    else option_map (λ more. Named (with_days days more)) (two_letters first letter)

-- the digits of a time with one more, in the place of this value
abbrev pub more_digits : ℕ → ℕ → ℕ → Option ℕ
more_digits unit digits letter = if is_ascii_digit letter then Some (digits + (letter - byte "0") * unit) else None

-- one more digit of the time at which the hours begin
abbrev pub start_digit : Days → ℕ → ℕ → ℕ → Option Place
start_digit days unit digits letter =
    option_and_then
    (λ more. if is_time more then Some (if unit == 1 then Dash days more else From days (unit / 10) more) else None)
    (more_digits unit digits letter)

-- one more digit of the time at which they end
abbrev pub end_digit : Days → ℕ → ℕ → ℕ → ℕ → Option Place
end_digit days start unit digits letter =
    option_and_then
    (λ more. if is_end more then Some (if unit == 1 then Whole days start more else To days start (unit / 10) more) else None)
    (more_digits unit digits letter)

-- the place after a byte of a simple string
abbrev pub next_place : Place → ℕ → Option Place
next_place Start letter = first_letter no_days letter
next_place (Letter days first) letter = second_letter days first letter
next_place (LettersAn days) letter = if letter == byte "y" then Some (Named (with_days days (0, 6))) else None
next_place (Named days) letter = if is_ascii_digit letter then start_digit days 1000 0 letter else first_letter days letter
next_place (From days unit digits) letter = start_digit days unit digits letter
next_place (Dash days start) letter = if letter == byte "-" then Some (To days start 1000 0) else None
next_place (To days start unit digits) letter = end_digit days start unit digits letter
next_place (Whole days start end) letter = None

-- the simple string that ends here
abbrev pub simple_at : Place → Option Simple
simple_at (Named days) = Some (record { days = days; hours = None })
simple_at (Whole days start end) = Some (record { days = days; hours = Some (minute_of start, last_minute end) })
simple_at Start = None
simple_at (Letter days first) = None
simple_at (LettersAn days) = None
simple_at (From days unit digits) = None
simple_at (Dash days start) = None
simple_at (To days start unit digits) = None

-- simple strings before those that were read, and so many bytes
abbrev pub after : List Simple → ℕ → Result (List Simple) ℕ → Result (List Simple) ℕ
after front count (Ok simples) = Ok (front ++ simples)
after front count (Err at) = Err (count + at)

-- the place after a byte, with the simple string that ended there
abbrev pub step : Place → ℕ → Option Found
step place letter =
    if is_separator letter then option_map (λ simple. record { simple = Some simple; next = Start }) (simple_at place)
    else option_map (λ next. record { simple = None; next = next }) (next_place place letter)

-- a last simple string
abbrev pub ending : Option Simple → Result (List Simple) ℕ
ending None = Err 0
ending (Some simple) = Ok (simple ∷ [])

-- after a byte: the text goes on in no way, or the simple strings of the rest follow
abbrev pub going_on : Option Found → (Place → Result (List Simple) ℕ) → Result (List Simple) ℕ
going_on None rest = Err 0
going_on (Some found) rest = after (option_to_list found.simple) 1 (rest found.next)

-- the simple strings that the bytes spell from here on, or how many of the bytes could begin some
unfoldable pub scan : Place → List ℕ → Result (List Simple) ℕ
scan place [] = ending (simple_at place)
scan place (letter ∷ letters) = going_on (step place letter) (λ next. scan next letters)

-- the simple strings of a text, or the length of its longest prefix that begins a list of simple
-- strings
abbrev pub list_of : List ℕ → Result (List Simple) ℕ
list_of text = scan Start (lower text)
