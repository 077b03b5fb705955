-- A row of the table of commands, and the values that the words of a line give for it.
use Rattle.std.specs.Prelude.{ℕ, ◌+◌, Bool, true, false, not, ◌==◌, ◌&&◌, ◌||◌, List, [], ◌∷◌, ◌++◌, map, length, take, drop, slice_index, slice_get, if◌then◌else◌, Option, Some, None, is_some, is_none, Result, Ok, Err}
use Rattle.std.specs.Borrow.{Bor}
use Rattle.std.specs.Option.{option_or}
use Rattle.std.specs.List.{position_from}
use Rattle.kinds.specs.declared.refusal.Refusal.{Refusal}
use Rattle.kinds.specs.declared.refusal.Refusal.TheVariants.{Syntax}
use Rattle.command_words.specs.declared.value.Kind.{Kind}
use Rattle.command_words.specs.declared.row.Need.{Need}
use Rattle.command_words.specs.declared.row.Need.TheVariants.{Required, OneSide, AnySide}
use Rattle.command_words.specs.Choice.{is_front, choose}
use Rattle.command_words.specs.Reading.{◌>>=◌}
use Rattle.command_words.specs.Values.{unquoted, valued}
use Rattle.command_words.specs.Words.{Word, is_quote, is_equals}

-- a place of a row, which a word from the left takes: the kind of its value, the words that it may be, and whether it must be there
pub record Place : Type 0 where
  pub kind : Kind
  pub words : List (List ℕ)
  pub required : Bool

-- a keyword of a row: its word, the kind of its value, the words that this may be, and whether it must be there
pub record Slot : Type 0 where
  pub key : List ℕ
  pub kind : Kind
  pub words : List (List ℕ)
  pub need : Need

-- a place and a keyword as the code has them
abbrev pub place_view : Kind × Bor (List (Bor (List ℕ))) × Bool → Place
place_view p = record { kind = p.0; words = map (λ w. w.now) p.1.now; required = p.2 }

abbrev pub slot_view : Bor (List ℕ) × Kind × Bor (List (Bor (List ℕ))) × Need → Slot
slot_view s = record { key = s.0.now; kind = s.1; words = map (λ w. w.now) s.2.now; need = s.3 }

-- the number of a place or of a keyword in its row, counted from 0, and the value that was given for it
abbrev pub Given : Type 0
Given = ℕ × List ℕ

-- a value that was given, as the code has it
abbrev pub given_view : ℕ × Bor (List ℕ) → Given
given_view g = (g.0, g.1.now)

-- the value that was given under this number
abbrev pub text_at : ℕ → List Given → Option (List ℕ)
text_at at [] = None
text_at at (g ∷ gs) = if g.0 == at then Some g.1 else text_at at gs

-- where the equals sign stands that makes a word a keyword and its value; a word in quotes is none
abbrev pub equals_at : List ℕ → Option ℕ
equals_at text = if is_quote (slice_index text 0) then None else position_from is_equals 0 text

-- the value of the keyword `key`, where a word with its equals sign at this place gives that keyword, whole or by a front of it
abbrev pub value_for : List ℕ → List ℕ → Option ℕ → Option (List ℕ)
value_for key text None = None
value_for key text (Some at) = if is_front key (take at text) then Some (unquoted (drop (at + 1) text)) else None

-- the same of the first of these words that gives it
abbrev pub first_value : List ℕ → List Word → Option (List ℕ)
first_value key [] = None
first_value key (w ∷ ws) = option_or (value_for key w.text (equals_at w.text)) (first_value key ws)

-- a word is taken for a place that must be there, and for any place where it is no keyword
abbrev pub is_for_place : Place → List ℕ → Bool
is_for_place p text = p.required || is_none (equals_at text)

-- what was given for places, and the words that are left, behind one more place, of this number
abbrev pub place_taken : Place → ℕ → ℕ → List Given → List Word → Result (List Given × List Word) Refusal
place_taken p end at given [] = if p.required then Err (Syntax end) else Ok (given, [])
place_taken p end at given (w ∷ ws) =
    if is_for_place p w.text
    then (valued p.kind p.words w.column (unquoted w.text) >>= λ text. Ok (given ++ (at, text) ∷ [], ws))
    else Ok (given, w ∷ ws)

-- what the words give for the places from number `at` on, behind what was given for those before, and the words that are left
abbrev pub places_from : ℕ → ℕ → List Place → List Given → List Word → Result (List Given × List Word) Refusal
places_from end at [] given words = Ok (given, words)
places_from end at (p ∷ ps) given words =
    place_taken p end at given words >>= λ g. places_from end (at + 1) ps g.0 g.1

-- the side on which a keyword stands, where only one side may be given
abbrev pub side_of : Need → Option ℕ
side_of (OneSide n) = Some n
side_of (AnySide n) = Some n
side_of need = None

-- keywords on different sides
abbrev pub are_apart : Option ℕ → Option ℕ → Bool
are_apart (Some m) (Some n) = not (m == n)
are_apart (Some m) None = false
are_apart None b = false

abbrev pub are_opposed : Need → Need → Bool
are_opposed a b = are_apart (side_of a) (side_of b)

-- the keyword of number `at` was given, and it is the keyword `key`, or one of another side
abbrev pub settles : Need → ℕ → List Given → ℕ → Slot → Bool
settles need key given at s = is_some (text_at at given) && (at == key || are_opposed need s.need)

-- the keyword `key` was given, or one of another side was; `at` is the number of the first of these keywords
abbrev pub is_settled : Need → ℕ → List Given → ℕ → List Slot → Bool
is_settled need key given at [] = false
is_settled need key given at (s ∷ ss) =
    settles need key given at s || is_settled need key given (at + 1) ss

-- a keyword that may not be missing, unless one of another side is given
abbrev pub is_needed : Need → Bool
is_needed Required = true
is_needed (OneSide n) = true
is_needed need = false

-- each keyword that is needed is settled, among these from number `at` on
abbrev pub is_complete : List Slot → List Given → ℕ → List Slot → Bool
is_complete all given at [] = true
is_complete all given at (s ∷ ss) = (not (is_needed s.need) || is_settled s.need at given 0 all) && is_complete all given (at + 1) ss

-- the value of the keyword that was chosen, which has this number
abbrev pub slot_value : List Slot → List Given → ℕ → List ℕ → ℕ → Slot → Result Given Refusal
slot_value all given column value at s =
    if is_settled s.need at given 0 all then Err (Syntax column) else (valued s.kind s.words column value >>= λ text. Ok (at, text))

-- the same, where there is a keyword of this number
abbrev pub chosen_value : List Slot → List Given → ℕ → List ℕ → ℕ → Option Slot → Result Given Refusal
chosen_value all given column value at None = Err (Syntax column)
chosen_value all given column value at (Some s) = slot_value all given column value at s

-- the value of a keyword of this name
abbrev pub key_value : List Slot → List Given → ℕ → List ℕ → List ℕ → Result Given Refusal
key_value slots given column key value =
    if length key == 0
    then Err (Syntax column)
    else (choose column key (map (λ s. s.key) slots) >>= λ at. chosen_value slots given column value at (slice_get slots at))

-- the value of a keyword, which stands at the equals sign's place, behind what was given before
abbrev pub keyword_at : List Slot → List Given → Word → Option ℕ → Result Given Refusal
keyword_at slots given w None = Err (Syntax w.column)
keyword_at slots given w (Some at) = key_value slots given w.column (take at w.text) (unquoted (drop (at + 1) w.text))

-- the keyword that a word gives, and its value, behind what was given before
abbrev pub keyword : List Slot → List Given → Word → Result Given Refusal
keyword slots given w = keyword_at slots given w (equals_at w.text)

-- what the words give for the keywords, behind what was given before
abbrev pub keywords_from : List Slot → ℕ → List Given → List Word → Result (List Given) Refusal
keywords_from slots end given [] = if is_complete slots given 0 slots then Ok given else Err (Syntax end)
keywords_from slots end given (w ∷ ws) = keyword slots given w >>= λ g. keywords_from slots end (given ++ g ∷ []) ws

-- what the words of a line behind its command's give for the places and for the keywords of a row, or the refusal at the first
-- offending word; `end` is the column of a word that is missing
abbrev pub row_values : List Place → List Slot → ℕ → List Word → Result (List Given × List Given) Refusal
row_values places slots end words =
    places_from end 0 places [] words >>= λ p. (keywords_from slots end [] p.1 >>= λ keys. Ok (p.0, keys))
