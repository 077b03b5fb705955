-- Lines that say the same: with other blanks, by shorter words, or in other letters.
use Rattle.std.specs.Prelude.{◌≡◌, ℕ, ◌+◌, Bool, true, false, ◌==◌, List, [], ◌∷◌, length, map, take, drop, if◌then◌else◌, is_some, Option, Some, None, Result, Ok, Err}
use Rattle.std.specs.Str.{byte}
use Rattle.kinds.specs.declared.refusal.Refusal.{Refusal}
use Rattle.command_words.specs.Choice.{choose}
use Rattle.command_words.specs.Rows.{Place, Slot, equals_at, is_for_place}
use Rattle.command_words.specs.Values.{unquoted}
use Rattle.command_words.specs.declared.words.Spot.{Spot}
use Rattle.command_words.specs.declared.words.Spot.TheVariants.{Between}
use Rattle.command_words.specs.Words.{Word, spot_after, is_between, torn_at}
use Rattle.admin_words.specs.Line.{row_for}
use Rattle.admin_words.specs.Rows.{Row, Verb}

-- what was read; nothing where it was refused
abbrev pub accepted : {A : Type 0} → Result A Refusal → Option A
accepted (Ok x) = Some x
accepted (Err e) = None

-- two words with their equals signs at these places: keys that stand for the same keyword, and the same value; or neither is a keyword
abbrev pub SameKeyAt : List (List ℕ) → List ℕ → List ℕ → Option ℕ → Option ℕ → Type 0
SameKeyAt keys w v (Some i) (Some j) =
    ((length (take i w) == 0) ≡ (length (take j v) == 0))
    × (accepted (choose 0 (take i w) keys) ≡ accepted (choose 0 (take j v) keys))
    × (unquoted (drop (i + 1) w) ≡ unquoted (drop (j + 1) v))
SameKeyAt keys w v None None = Unit {0}
SameKeyAt keys w v (Some i) None = ⊥
SameKeyAt keys w v None (Some j) = ⊥

-- as many words, which give the same values for the same keywords
abbrev pub SameKeys : List Slot → List Word → List Word → Type 0
SameKeys slots [] [] = Unit {0}
SameKeys slots (w ∷ ws) (v ∷ vs) =
    SameKeyAt (map (λ s. s.key) slots) w.text v.text (equals_at w.text) (equals_at v.text) × SameKeys slots ws vs
SameKeys slots [] (v ∷ vs) = ⊥
SameKeys slots (w ∷ ws) [] = ⊥

-- two words of which the first is, or isn't, one for a place: the same word, or neither is one for it
abbrev pub SameForPlace : Bool → Bool → List ℕ → List ℕ → Type 0
SameForPlace true b w v = w ≡ v
SameForPlace false b w v = b ≡ false

-- the same words in places, and then words that give the same values for the same keywords
abbrev pub SameBehind : List Slot → List Place → List Word → List Word → Type 0
SameBehind slots [] ws vs = SameKeys slots ws vs
SameBehind slots (p ∷ ps) [] [] = Unit {0}
SameBehind slots (p ∷ ps) (w ∷ ws) (v ∷ vs) =
    SameForPlace (is_for_place p w.text) (is_for_place p v.text) w.text v.text
    × SameBehind slots ps (if is_for_place p w.text then ws else (w ∷ ws)) (if is_for_place p w.text then vs else (v ∷ vs))
SameBehind slots (p ∷ ps) [] (v ∷ vs) = ⊥
SameBehind slots (p ∷ ps) (w ∷ ws) [] = ⊥

-- the first words of two lines name the same row, and the words behind say the same; or neither names one
abbrev pub SameRow : Result (Row × List Word) Refusal → Result (Row × List Word) Refusal → Type 0
SameRow (Ok a) (Ok b) = (a.0 ≡ b.0) × SameBehind a.0.slots a.0.places a.1 b.1
SameRow (Err d) (Err e) = Unit {0}
SameRow (Ok a) (Err e) = ⊥
SameRow (Err d) (Ok b) = ⊥

-- two lines' words say the same
abbrev pub SameWords : List Verb → List Word → List Word → Type 0
SameWords verbs ws vs = (is_some (torn_at ws) ≡ is_some (torn_at vs)) × SameRow (row_for 0 verbs ws) (row_for 0 verbs vs)

-- the same words with the same quotes, wherever they stand in their lines
abbrev pub SameTexts : List Word → List Word → Type 0
SameTexts [] [] = Unit {0}
SameTexts (w ∷ ws) (v ∷ vs) = (w.text ≡ v.text) × (w.sound ≡ v.sound) × SameTexts ws vs
SameTexts [] (v ∷ vs) = ⊥
SameTexts (w ∷ ws) [] = ⊥

-- these bytes of a line, by where the byte before them stands, with one space for each run of blanks outside quotes, and none
-- in front of the first word
abbrev pub single_spaced_from : Spot → List ℕ → List ℕ
single_spaced_from spot [] = []
single_spaced_from spot (b ∷ bs) =
    if is_between (spot_after spot b)
    then (if is_between spot then single_spaced_from Between bs else (byte " " ∷ single_spaced_from Between bs))
    else (b ∷ single_spaced_from (spot_after spot b) bs)

-- a line with one space for each run of blanks outside quotes
abbrev pub single_spaced : List ℕ → List ℕ
single_spaced line = single_spaced_from Between line
