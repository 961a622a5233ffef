-- Bytes by name.
use Rattle.std.specs.Prelude.{ℕ}

-- begins a sequence of bytes that is for the terminal as a whole
abbrev pub escape : ℕ
escape = 2

abbrev pub newline : ℕ
newline = 10

abbrev pub carriage_return : ℕ
carriage_return = 13

abbrev pub blank : ℕ
blank = 32

abbrev pub quote : ℕ
quote = 34

abbrev pub number_sign : ℕ
number_sign = 35

abbrev pub dollar : ℕ
dollar = 36

abbrev pub percent : ℕ
percent = 37

abbrev pub ampersand : ℕ
ampersand = 38

abbrev pub opening : ℕ
opening = 40

abbrev pub closing : ℕ
closing = 41

abbrev pub asterisk : ℕ
asterisk = 42

abbrev pub plus : ℕ
plus = 43

abbrev pub comma : ℕ
comma = 44

abbrev pub minus : ℕ
minus = 45

abbrev pub point : ℕ
point = 46

abbrev pub slash : ℕ
slash = 47

abbrev pub digit_0 : ℕ
digit_0 = 48

abbrev pub digit_9 : ℕ
digit_9 = 57

abbrev pub colon : ℕ
colon = 58

abbrev pub semicolon : ℕ
semicolon = 59

abbrev pub less : ℕ
less = 60

abbrev pub equals : ℕ
equals = 61

abbrev pub greater : ℕ
greater = 62

abbrev pub at_sign : ℕ
at_sign = 64

abbrev pub upper_a : ℕ
upper_a = 65

abbrev pub upper_b : ℕ
upper_b = 66

abbrev pub upper_d : ℕ
upper_d = 68

abbrev pub upper_e : ℕ
upper_e = 69

abbrev pub upper_f : ℕ
upper_f = 70

abbrev pub upper_g : ℕ
upper_g = 71

abbrev pub upper_n : ℕ
upper_n = 78

abbrev pub upper_o : ℕ
upper_o = 79

abbrev pub upper_p : ℕ
upper_p = 80

abbrev pub upper_r : ℕ
upper_r = 82

abbrev pub upper_t : ℕ
upper_t = 84

abbrev pub upper_v : ℕ
upper_v = 86

abbrev pub upper_z : ℕ
upper_z = 90

abbrev pub caret : ℕ
caret = 94

abbrev pub underscore : ℕ
underscore = 95

abbrev pub lower_a : ℕ
lower_a = 97

abbrev pub lower_z : ℕ
lower_z = 122

abbrev pub tilde : ℕ
tilde = 126
