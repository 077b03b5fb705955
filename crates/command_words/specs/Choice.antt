-- Which of the words that are possible at a place is meant.
use Rattle.std.specs.Prelude.{ℕ, Bool, true, false, ◌==◌, ◌&&◌, nat_lt, List, [], ◌∷◌, length, codes, count_by, if◌then◌else◌, Option, Some, None, Result, Ok, Err}
use Rattle.std.specs.Char.{to_ascii_uppercase}
use Rattle.std.specs.List.{position_from}
use Rattle.kinds.specs.declared.refusal.Refusal.{Refusal}
use Rattle.kinds.specs.declared.refusal.Refusal.TheVariants.{UnknownWord, Ambiguous}

-- the option, which is in upper case, begins as the word does, in whatever case
abbrev pub begins : List ℕ → List ℕ → Bool
begins option [] = true
begins [] (b ∷ bs) = false
begins (o ∷ os) (b ∷ bs) = o == to_ascii_uppercase b && begins os bs

-- the word is the whole option
abbrev pub is_whole : List ℕ → List ℕ → Bool
is_whole option word = length option == length word && begins option word

-- the word is the option, or a front of it with at least one letter
abbrev pub is_front : List ℕ → List ℕ → Bool
is_front option word = nat_lt 0 (length word) && begins option word

-- VOL stands for VOLUME
abbrev pub spelled : List ℕ → List ℕ
spelled word = if is_whole (codes "VOL") word then codes "VOLUME" else word

-- the choice, by the option that the word is as a whole, how many options begin as the word does, and the first of these
abbrev pub choice : ℕ → Option ℕ → ℕ → Option ℕ → Result ℕ Refusal
choice column (Some i) count first = Ok i
choice column None count None = Err (UnknownWord column)
choice column None count (Some i) = if count == 1 then Ok i else Err (Ambiguous column)

-- which of the options the word at this column stands for
abbrev pub choose : ℕ → List ℕ → List (List ℕ) → Result ℕ Refusal
choose column word options =
    choice column (position_from (λ o. is_whole o (spelled word)) 0 options) (count_by (λ o. begins o (spelled word)) options) (position_from (λ o. begins o (spelled word)) 0 options)
