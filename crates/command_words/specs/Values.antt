-- The kinds of values, and what is a value of each.
use Rattle.std.specs.Prelude.{ℕ, ◌+◌, ◌-◌, ◌*◌, ◌^◌, Bool, true, false, ◌==◌, ◌&&◌, ◌||◌, nat_lt, nat_le, List, [], ◌∷◌, length, take, codes, slice_index, slice_range, if◌then◌else◌, Option, Some, None, Result, Ok, Err}
use Rattle.std.specs.Char.{is_ascii_digit, to_ascii_uppercase}
use Rattle.std.specs.Str.{byte, str_to_ascii_uppercase}
use Rattle.kinds.specs.declared.refusal.Refusal.{Refusal}
use Rattle.kinds.specs.declared.refusal.Refusal.TheVariants.{BadValue}
use Rattle.kinds.specs.Names.{is_within, is_name}
use Rattle.kinds.specs.Paths.{is_rooted, is_path}
use Rattle.kinds.specs.Texts.{is_text}
use Rattle.command_words.specs.declared.value.Kind.{Kind}
use Rattle.command_words.specs.declared.value.Kind.TheVariants.{Name, NodeName, NameOrNone, Path, FilespaceName, Pattern, Number, Size, Limit, SizeLimit, Text, Description, OneOf}
use Rattle.command_words.specs.Choice.{is_front, choose}
use Rattle.command_words.specs.Reading.{◌>>=◌}
use Rattle.command_words.specs.Words.{is_quote}

-- a value without the quotes that it stands in
abbrev pub unquoted : List ℕ → List ℕ
unquoted text = if nat_le 2 (length text) && is_quote (slice_index text 0) then slice_range text 1 (length text - 1) else text

-- the number that decimal digits write when they follow those of n
abbrev pub decimal_after : ℕ → List ℕ → Option ℕ
decimal_after n [] = Some n
decimal_after n (d ∷ ds) = if is_ascii_digit d then decimal_after (10 * n + (d - byte "0")) ds else None

-- the number that 1 to `most` decimal digits write
abbrev pub decimal : ℕ → List ℕ → Option ℕ
decimal most text = if is_within most text then decimal_after 0 text else None

-- how many bytes the letter K, M, G or T behind a size stands for, in either case; 1 for any other byte
abbrev pub unit_of : ℕ → ℕ
unit_of letter =
    if letter == byte "K" then 2 ^ 10 else (if letter == byte "M" then 2 ^ 20 else (if letter == byte "G" then 2 ^ 30 else (if letter == byte "T" then 2 ^ 40 else 1)))

-- how many bytes the last byte of a size stands for
abbrev pub last_unit : List ℕ → ℕ
last_unit text = unit_of (to_ascii_uppercase (slice_index text (length text - 1)))

-- so many times this number, below 2^64
abbrev pub times : ℕ → Option ℕ → Option ℕ
times unit None = None
times unit (Some n) = if nat_lt (n * unit) (2 ^ 64) then Some (n * unit) else None

-- the bytes that a size stands for: 1 to 13 digits, and behind them perhaps a letter
abbrev pub size : List ℕ → Option ℕ
size text = times (last_unit text) (decimal 13 (if last_unit text == 1 then text else take (length text - 1) text))

-- there is a number, and it is in its range
abbrev pub is_between : ℕ → ℕ → Option ℕ → Bool
is_between least most None = false
is_between least most (Some n) = nat_le least n && nat_le n most

-- the text is NOLIMIT, or begins it
abbrev pub is_no_limit : List ℕ → Bool
is_no_limit text = is_front (codes "NOLIMIT") text

-- the text is a value of its kind, for the kinds that have no words
abbrev pub fits : Kind → List ℕ → Bool
fits Name text = is_name 30 (str_to_ascii_uppercase text)
fits NodeName text = is_name 64 (str_to_ascii_uppercase text)
fits NameOrNone text = length text == 0 || is_name 30 (str_to_ascii_uppercase text)
fits Path text = is_path 1024 text
fits FilespaceName text = is_path 64 text
fits Pattern text = is_within 1024 text && is_rooted text
fits (Number least most) text = is_between least most (decimal 10 text)
fits (Size least most) text = is_between least most (size text)
fits (Limit least most) text = is_no_limit text || is_between least most (decimal 10 text)
fits (SizeLimit least most) text = is_no_limit text || is_between least most (size text)
fits (Text least most) text = nat_le least (length text) && nat_le (length text) most
fits Description text = is_text text
fits OneOf text = false

-- the kind is that of words
abbrev pub has_words : Kind → Bool
has_words OneOf = true
has_words kind = false

-- the text, where it is one of the words or begins just one of them
abbrev pub one_of : List (List ℕ) → ℕ → List ℕ → Result (List ℕ) Refusal
one_of words column text =
    if length text == 0 then Err (BadValue column) else (choose column text words >>= λ _. Ok text)

-- the text, where it is a value of its kind; the column is that of its word
abbrev pub valued : Kind → List (List ℕ) → ℕ → List ℕ → Result (List ℕ) Refusal
valued kind words column text =
    if has_words kind then one_of words column text else (if fits kind text then Ok text else Err (BadValue column))
