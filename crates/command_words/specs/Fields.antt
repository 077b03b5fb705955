-- What the text of a value means, and what stands where no value was given.
use Rattle.std.specs.Prelude.{◌≡◌, ℕ, IsSome, nat_le, List, [], codes, unwrap_or, if◌then◌else◌, Option, Some, None, Result, Ok, Err}
use Rattle.std.specs.Str.{str_to_ascii_uppercase}
use Rattle.kinds.specs.declared.refusal.Refusal.{Refusal}
use Rattle.kinds.specs.declared.rule.Limit.{Limit}
use Rattle.kinds.specs.declared.rule.Limit.TheVariants.{At, NoLimit}
use Rattle.kinds.specs.declared.pool.SizeLimit.{SizeLimit}
use Rattle.kinds.specs.declared.pool.SizeLimit.TheVariants as sizes
use Rattle.kinds.specs.Names.{is_name}
use Rattle.kinds.specs.Pools.{is_capacity}
use Rattle.kinds.specs.Paths.{is_path}
use Rattle.kinds.specs.Texts.{is_text}
use Rattle.command_words.specs.Choice.{choose}
use Rattle.command_words.specs.Values.{decimal, size, is_no_limit}

-- a value was read, and it is what its text spells
abbrev pub IsSpelled : {A : Type 0} → Option A → Option A → Type 0
IsSpelled read spelled = (read ≡ spelled) × IsSome read

-- a name of at most `most` characters in upper case; STANDARD where none was given
abbrev pub name_of : ℕ → Option (List ℕ) → List ℕ
name_of most None = codes "STANDARD"
name_of most (Some text) = if is_name most (str_to_ascii_uppercase text) then str_to_ascii_uppercase text else codes "STANDARD"

-- a name that may be missing; an empty text is none
abbrev pub name_if : ℕ → Option (List ℕ) → Option (List ℕ)
name_if most None = None
name_if most (Some text) = if is_name most (str_to_ascii_uppercase text) then Some (str_to_ascii_uppercase text) else None

-- a path of at most `most` bytes; the shortest where none was given
abbrev pub path_of : ℕ → Option (List ℕ) → List ℕ
path_of most None = codes "/"
path_of most (Some text) = if is_path most text then text else codes "/"

-- any text; empty where none was given
abbrev pub text_of : Option (List ℕ) → List ℕ
text_of None = []
text_of (Some text) = text

-- a description that may be missing
abbrev pub description_if : Option (List ℕ) → Option (List ℕ)
description_if None = None
description_if (Some text) = if is_text text then Some text else None

-- a description; empty where none was given
abbrev pub description_of : Option (List ℕ) → List ℕ
description_of text = unwrap_or (description_if text) []

-- a number that is at most `most`
abbrev pub at_most : ℕ → Option ℕ → Option ℕ
at_most most None = None
at_most most (Some n) = if nat_le n most then Some n else None

-- the number that a value is, where it is one of at most `most`
abbrev pub number_of : ℕ → Option (List ℕ) → Option ℕ
number_of most None = None
number_of most (Some text) = at_most most (decimal 10 text)

-- the bytes that a size is
abbrev pub size_of : Option (List ℕ) → Option ℕ
size_of None = None
size_of (Some text) = size text

-- so many bytes, where a volume may have these
abbrev pub capacity_at : Option ℕ → Option ℕ
capacity_at None = None
capacity_at (Some n) = if is_capacity n then Some n else None

-- how many bytes a volume has
abbrev pub capacity_of : Option (List ℕ) → Option ℕ
capacity_of text = capacity_at (size_of text)

abbrev pub limit_at : Option ℕ → Option Limit
limit_at None = None
limit_at (Some n) = Some (At n)

-- the limit of versions or days that a text spells
abbrev pub limit_spelled : List ℕ → Option Limit
limit_spelled text = if is_no_limit text then Some NoLimit else limit_at (decimal 10 text)

-- the limit of versions or days that a value is, where it is one of at most `most`
abbrev pub limit_of : ℕ → Option (List ℕ) → Option Limit
limit_of most None = None
limit_of most (Some text) = if is_no_limit text then Some NoLimit else limit_at (at_most most (decimal 10 text))

abbrev pub size_limit_at : Option ℕ → Option SizeLimit
size_limit_at None = None
size_limit_at (Some n) = Some (sizes.At n)

-- the limit of a size that a text spells
abbrev pub size_limit_spelled : List ℕ → Option SizeLimit
size_limit_spelled text = if is_no_limit text then Some sizes.NoLimit else size_limit_at (size text)

-- the limit of a size that a value is
abbrev pub size_limit_of : Option (List ℕ) → Option SizeLimit
size_limit_of None = None
size_limit_of (Some text) = size_limit_spelled text

abbrev pub chosen : Result ℕ Refusal → Option ℕ
chosen (Ok at) = Some at
chosen (Err e) = None

-- which of the words a value stands for
abbrev pub word_of : List (List ℕ) → Option (List ℕ) → Option ℕ
word_of words None = None
word_of words (Some text) = chosen (choose 0 text words)
