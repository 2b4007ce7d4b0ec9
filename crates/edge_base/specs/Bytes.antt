-- The bytes that definitions speak of, by name.
use Rattle.std.specs.Prelude.{ℕ}

-- the byte 0
abbrev pub nul : ℕ
nul = 0

abbrev pub tab : ℕ
tab = 9

abbrev pub newline : ℕ
newline = 10

abbrev pub carriage_return : ℕ
carriage_return = 13

abbrev pub space : ℕ
space = 32

-- `!`
abbrev pub exclamation : ℕ
exclamation = 33

-- `"`
abbrev pub quote : ℕ
quote = 34

-- `#`
abbrev pub number_sign : ℕ
number_sign = 35

-- `$`
abbrev pub dollar : ℕ
dollar = 36

-- `%`
abbrev pub percent : ℕ
percent = 37

-- `&`
abbrev pub ampersand : ℕ
ampersand = 38

-- `(`
abbrev pub open_parenthesis : ℕ
open_parenthesis = 40

-- `)`
abbrev pub close_parenthesis : ℕ
close_parenthesis = 41

-- `*`
abbrev pub star : ℕ
star = 42

-- `+`
abbrev pub plus : ℕ
plus = 43

-- `,`
abbrev pub comma : ℕ
comma = 44

-- `-`
abbrev pub minus : ℕ
minus = 45

-- `.`
abbrev pub dot : ℕ
dot = 46

-- `/`
abbrev pub slash : ℕ
slash = 47

-- `0`
abbrev pub digit_zero : ℕ
digit_zero = 48

-- `1`
abbrev pub digit_one : ℕ
digit_one = 49

-- `8`
abbrev pub digit_eight : ℕ
digit_eight = 56

-- `9`
abbrev pub digit_nine : ℕ
digit_nine = 57

-- `:`
abbrev pub colon : ℕ
colon = 58

-- `<`
abbrev pub less : ℕ
less = 60

-- `=`
abbrev pub equals : ℕ
equals = 61

-- `>`
abbrev pub greater : ℕ
greater = 62

-- `?`
abbrev pub question : ℕ
question = 63

-- `A`
abbrev pub upper_a : ℕ
upper_a = 65

-- `F`
abbrev pub upper_f : ℕ
upper_f = 70

-- `Z`
abbrev pub upper_z : ℕ
upper_z = 90

-- `[`
abbrev pub open_bracket : ℕ
open_bracket = 91

-- `\`
abbrev pub backslash : ℕ
backslash = 92

-- `]`
abbrev pub close_bracket : ℕ
close_bracket = 93

-- `^`
abbrev pub caret : ℕ
caret = 94

-- `_`
abbrev pub underscore : ℕ
underscore = 95

-- `a`
abbrev pub lower_a : ℕ
lower_a = 97

-- `f`
abbrev pub lower_f : ℕ
lower_f = 102

-- `r`
abbrev pub lower_r : ℕ
lower_r = 114

-- `z`
abbrev pub lower_z : ℕ
lower_z = 122

-- `{`
abbrev pub open_brace : ℕ
open_brace = 123

-- `|`
abbrev pub bar : ℕ
bar = 124

-- `}`
abbrev pub close_brace : ℕ
close_brace = 125

-- `~`
abbrev pub tilde : ℕ
tilde = 126

-- the last byte of ASCII
abbrev pub delete : ℕ
delete = 127
