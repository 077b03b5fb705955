-- The words of a set of numbers. The first word is the root. Bit `i` of all the words tells whether word `i + 1` has a bit that
-- is set, so that the bits of one level stand for the words of the next. The bits from `base` on, those of the last level, are
-- the members.
use Rattle.std.specs.Prelude.{ℕ, ◌≡◌, ◌+◌, ◌*◌, ◌/◌, ◌%◌, ◌^◌, ◌<◌, ◌≤◌, ◌≢◌, Bool, nat_lt, zero, suc, List, length, map, slice_index}
use Rattle.std.specs.List.{range_with_len}
use Rattle.extent_map.specs.Bits.{is_set}

-- whether this bit of all the words is set
abbrev pub bit_of : List ℕ → ℕ → Bool
bit_of words i = is_set (slice_index words (i / 64)) (i % 64)

-- the number of a level's first bit: before the level of depth d + 1 stand as many words as the levels up to d have bits, and
-- the root
abbrev pub level_start : ℕ → ℕ
level_start zero = 0
level_start (suc depth) = 64 * (level_start depth + 1)

-- a word has a bit that is set
abbrev pub is_filled : ℕ → Bool
is_filled word = nat_lt 0 word

-- bit `i` tells of word `i + 1`
abbrev pub Tells : List ℕ → ℕ → Type 0
Tells words i = bit_of words i ≡ is_filled (slice_index words (i + 1))

-- each bit above the last level tells of its word
abbrev pub AllTell : List ℕ → ℕ → Type 0
AllTell words base = (i : ℕ) → i < base → Tells words i

-- each bit above the last level tells of its word, but perhaps the one that tells of word `at`
abbrev pub OthersTell : List ℕ → ℕ → ℕ → Type 0
OthersTell words base at = (i : ℕ) → i < base → (i + 1) ≢ at → Tells words i

-- the members of the set, as a list with, for each number below `count`, whether it is one
abbrev pub members : List ℕ → ℕ → ℕ → List Bool
members words base count = map (bit_of words) (range_with_len base count)

-- the words have room for `count` members in their last level, and each bit above it tells of its word
pub record AreLevels (words : List ℕ) (depth base count : ℕ) : Type 0 where
  pub last : base ≡ level_start depth
  pub few : base + count ≤ 64 * (base + 1)
  pub within : base + count ≤ 64 * length words
  pub fits : base + count < 2 ^ 40
  pub telling : AllTell words base
