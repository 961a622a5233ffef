-- The codes of errors and their classes.
use Rattle.std.specs.Prelude.{ℕ, ◌&&◌, nat_le, Option, Some, None, if◌then◌else◌}

-- a code is a number from 1 to 99
abbrev pub code_of : ℕ → Option ℕ
code_of n = if nat_le 1 n && nat_le n 99 then Some n else None

-- the letter of a class: A below 10, S below 30, P below 60, C below 70, X below 80, D below 90, and I
abbrev pub class_of : ℕ → ℕ
class_of n =
    if nat_le n 9 then 65
    else (if nat_le n 29 then 83
    else (if nat_le n 59 then 80
    else (if nat_le n 69 then 67
    else (if nat_le n 79 then 88
    else (if nat_le n 89 then 68 else 73)))))
