-- What an expression is made of: the words of its text (blanks only separate them), and what each
-- means.
use Rattle.std.specs.Prelude.{ℕ, ◌+◌, ◌-◌, ◌*◌, Bool, false, List, [], ◌∷◌, Option, Some, None, option_map, ℤ, pos, negsuc, ◌==◌, codes, map, find, fold, if◌then◌else◌}
use Rattle.std.specs.List.{onto_first}
use Rattle.std.specs.Char.{is_ascii_digit, is_ascii_uppercase}
use Rattle.std.specs.Str.{byte, bytes_eq}
use Rattle.uu_map.specs.declared.token.Additive.TheVariants.{Plus, Minus}
use Rattle.uu_map.specs.declared.token.Multiplicative.TheVariants.{Times, Over}
use Rattle.uu_map.specs.declared.token.Token.{Token}
use Rattle.uu_map.specs.declared.token.Token.TheVariants.{Amount, Dead, Open, Close, Additive, Multiplicative, Other}
use Rattle.uu_names.specs.Text.{is_blank}
use Rattle.uu_map.specs.Expression.{kept}

abbrev pub begins : (ℕ → Bool) → List ℕ → Bool
begins passes [] = false
begins passes (b ∷ bs) = passes b

-- the byte and the next are digits of one number, or letters of one symbol
abbrev pub runs_on : ℕ → List ℕ → Bool
runs_on b bs = if is_ascii_digit b then begins is_ascii_digit bs else (if is_ascii_uppercase b then begins is_ascii_uppercase bs else false)

-- the words of a text: digits in a row, capitals in a row, and each other byte except blanks
abbrev pub words : List ℕ → List (List ℕ)
words [] = []
words (b ∷ bs) = if is_blank b then words bs else (if runs_on b bs then onto_first b (words bs) else (b ∷ []) ∷ words bs)

-- the symbols that mean a number (their names are those of the UUCP Mapping Project; the values are
-- this project's profile)
abbrev pub symbols : List (List ℕ × ℤ)
symbols =
    (codes "LOCAL", pos 25) ∷ (codes "DEDICATED", pos 95) ∷ (codes "DIRECT", pos 200) ∷ (codes "DEMAND", pos 300) ∷
    (codes "HOURLY", pos 500) ∷ (codes "EVENING", pos 1800) ∷ (codes "DAILY", pos 5000) ∷ (codes "WEEKLY", pos 30000) ∷
    (codes "HIGH", negsuc 4) ∷ (codes "LOW", pos 5) ∷ (codes "FAST", negsuc 79) ∷ (codes "POLLED", pos 5000) ∷ []

abbrev pub symbol_amount : List ℕ → Option ℤ
symbol_amount name = option_map (λ s. s.1) (find (λ s. bytes_eq name s.0) symbols)

abbrev pub amount_token : Option ℤ → Token
amount_token None = Other
amount_token (Some z) = Amount (Some z)

-- an unknown symbol has no place in an expression
abbrev pub symbol_token : List ℕ → Token
symbol_token name = if bytes_eq name (codes "DEAD") then Dead else amount_token (symbol_amount name)

-- the number that digits say
abbrev pub decimal : List ℕ → ℕ
decimal digits = fold (λ n digit. 10 * n + (digit - byte "0")) 0 digits

abbrev pub sign_token : ℕ → Token
sign_token b =
    if b == byte "(" then Open else (if b == byte ")" then Close else (
    if b == byte "+" then Additive Plus else (if b == byte "-" then Additive Minus else (
    if b == byte "*" then Multiplicative Times else (if b == byte "/" then Multiplicative Over else Other)))))

abbrev pub word_token : List ℕ → Token
word_token [] = Other
word_token (b ∷ bs) = if is_ascii_digit b then Amount (kept (pos (decimal (b ∷ bs)))) else (if is_ascii_uppercase b then symbol_token (b ∷ bs) else sign_token b)

abbrev pub tokens : List ℕ → List Token
tokens text = map word_token (words text)
