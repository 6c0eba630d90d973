-- Grades: the urgency of a job (Taylor UUCP 1.07 manual, on grades).
use Rattle.std.specs.Prelude.{ℕ, List, Option, ◌==◌, codes, position}
use Rattle.std.specs.Str.{byte}

-- the grades in order, the highest first
abbrev pub grade_bytes : List ℕ
grade_bytes = codes "0123456789ABCDEFGHIJKLMNOPQRSTUVWXYZabcdefghijklmnopqrstuvwxyz"

-- how many grades there are, and the rank of the lowest, `z`
abbrev pub grade_count : ℕ
grade_count = 62

abbrev pub lowest_grade : ℕ
lowest_grade = 61

-- the rank of a grade is its place in that order, from 0 to 61; no other byte has one
abbrev pub rank_of : ℕ → Option ℕ
rank_of byte = position (λ grade. grade == byte) grade_bytes

-- the grade of a job whose line names none, `N` (this project's choice)
abbrev pub default_grade : ℕ
default_grade = byte "N"
