-- Lines with the same words say the same, whatever blanks stand between these.
use Rattle.std.proofs.Common.{◌≡◌, ℕ, Bool, true, false, cond, List, [], ◌∷◌, map, refl, ap, sym, subst, ◌∙◌, Option, Some, None, Result, Ok, Err}
use Rattle.std.specs.Prelude.{codes, is_some, slice_get}
use Rattle.std.specs.Option.{option_or}
use Rattle.kinds.specs.declared.refusal.Refusal.{Refusal}
use Rattle.command_words.specs.Choice.{choose}
use Rattle.command_words.specs.Reading.{◌>>=◌}
use Rattle.command_words.specs.Rows.{Place, Slot, equals_at, value_for, first_value, is_for_place}
use Rattle.command_words.specs.Words.{Word, words, torn_at}
use Rattle.admin_words.specs.Line.{row_found, row_named, verb_found, row_of, is_archive, row_typed, row_meant, row_for, command}
use Rattle.admin_words.specs.Rows.{Row, Verb, archive_row, verbs, is_bare}
use Rattle.admin_words.specs.Spelling.{accepted, SameKeyAt, SameKeys, SameForPlace, SameBehind, SameRow, SameWords, SameTexts, single_spaced}
use Rattle.admin_words.proofs.Alike.{choose_same, alike_lines}
use Rattle.admin_words.proofs.Blanks.{single_words}

own_key : (keys : List (List ℕ)) (text : List ℕ) (at : Option ℕ) → SameKeyAt keys text text at at
own_key keys text None = tt
own_key keys text (Some i) = (refl, refl, refl)

keys_spaced : (slots : List Slot) (ws vs : List Word) → SameTexts ws vs → SameKeys slots ws vs
keys_spaced slots [] [] h = tt
keys_spaced slots (w ∷ ws) (v ∷ vs) h =
    (subst (λ t. SameKeyAt (map (λ (s : Slot). s.key) slots) w.text t (equals_at w.text) (equals_at t)) h.0 (own_key (map (λ (s : Slot). s.key) slots) w.text (equals_at w.text)), keys_spaced slots ws vs h.2)
keys_spaced slots [] (v ∷ vs) h = absurd h
keys_spaced slots (w ∷ ws) [] h = absurd h

own_place : (b : Bool) (text : List ℕ) → SameForPlace b b text text
own_place true text = refl
own_place false text = refl

behind_spaced : (slots : List Slot) (places : List Place) (ws vs : List Word) → SameTexts ws vs → SameBehind slots places ws vs
behind_spaced slots [] ws vs h = keys_spaced slots ws vs h
behind_spaced slots (p ∷ ps) [] [] h = tt
behind_spaced slots (p ∷ ps) (w ∷ ws) (v ∷ vs) h =
    let here : SameForPlace (is_for_place p w.text) (is_for_place p v.text) w.text v.text =
    subst (λ t. SameForPlace (is_for_place p w.text) (is_for_place p t) w.text t) h.0 (own_place (is_for_place p w.text) w.text) in
    let rest : SameBehind slots ps (cond (is_for_place p w.text) ws (w ∷ ws)) (cond (is_for_place p w.text) vs (v ∷ vs)) =
    elim (is_for_place p w.text) as (λ b. SameBehind slots ps (cond b ws (w ∷ ws)) (cond b vs (v ∷ vs))) [
      | true ↦ behind_spaced slots ps ws vs h.2
      | false ↦ behind_spaced slots ps (w ∷ ws) (v ∷ vs) h
    ]
    in (here, rest)
behind_spaced slots (p ∷ ps) [] (v ∷ vs) h = absurd h
behind_spaced slots (p ∷ ps) (w ∷ ws) [] h = absurd h

-- the same row, and the same words behind; or neither names one
abbrev SameFound : Result (Row × List Word) Refusal → Result (Row × List Word) Refusal → Type 0
SameFound (Ok a) (Ok b) = (a.0 ≡ b.0) × SameTexts a.1 b.1
SameFound (Err d) (Err e) = Unit {0}
SameFound (Ok a) (Err e) = ⊥
SameFound (Err d) (Ok b) = ⊥

found_spaced : (r : Option Row) (ws vs : List Word) → SameTexts ws vs → SameFound (row_found 0 r ws) (row_found 0 r vs)
found_spaced None ws vs h = tt
found_spaced (Some r) ws vs h = (refl, h)

bind_spaced : (r s : Result ℕ Refusal) (f g : ℕ → Result (Row × List Word) Refusal) → accepted r ≡ accepted s → ((at : ℕ) → SameFound (f at) (g at)) → SameFound (r >>= f) (s >>= g)
bind_spaced (Ok x) (Ok y) f g e h = let k : x ≡ y = cc in subst (λ z. SameFound (f x) (g z)) k (h x)
bind_spaced (Ok x) (Err d) f g e h = absurd (cc)
bind_spaced (Err d) (Ok y) f g e h = absurd (cc)
bind_spaced (Err d) (Err e') f g e h = tt

-- a word is chosen alike by its text, whatever its column
chosen_spaced : (options : List (List ℕ)) (w v : Word) → w.text ≡ v.text → accepted (choose w.column w.text options) ≡ accepted (choose v.column v.text options)
chosen_spaced options w v e = choose_same w.column v.column w.text options ∙ ap (λ t. accepted (choose v.column t options)) e

named_spaced : (rows : List Row) (ws vs : List Word) → SameTexts ws vs → SameFound (row_named 0 rows ws) (row_named 0 rows vs)
named_spaced rows [] [] h = tt
named_spaced rows (w ∷ ws) (v ∷ vs) h =
    let options : List (List ℕ) = map (λ (r : Row). r.word) rows in
    bind_spaced (choose w.column w.text options) (choose v.column v.text options) (λ at. row_found 0 (slice_get rows at) ws) (λ at. row_found 0 (slice_get rows at) vs) (chosen_spaced options w v h.0) (λ at. found_spaced (slice_get rows at) ws vs h.2)
named_spaced rows [] (v ∷ vs) h = absurd h
named_spaced rows (w ∷ ws) [] h = absurd h

verb_spaced : (v : Option Verb) (ws vs : List Word) → SameTexts ws vs → SameFound (verb_found 0 v ws) (verb_found 0 v vs)
verb_spaced None ws vs h = tt
verb_spaced (Some v) ws vs h =
    elim (is_bare v.rows) as (λ b. SameFound (cond b (row_found 0 (slice_get v.rows 0) ws) (row_named 0 v.rows ws)) (cond b (row_found 0 (slice_get v.rows 0) vs) (row_named 0 v.rows vs))) [
      | true ↦ found_spaced (slice_get v.rows 0) ws vs h
      | false ↦ named_spaced v.rows ws vs h
    ]

row_spaced : (verbs : List Verb) (ws vs : List Word) → SameTexts ws vs → SameFound (row_of 0 verbs ws) (row_of 0 verbs vs)
row_spaced verbs [] [] h = tt
row_spaced verbs (w ∷ ws) (v ∷ vs) h =
    let options : List (List ℕ) = map (λ (v : Verb). v.word) verbs in
    bind_spaced (choose w.column w.text options) (choose v.column v.text options) (λ at. verb_found 0 (slice_get verbs at) ws) (λ at. verb_found 0 (slice_get verbs at) vs) (chosen_spaced options w v h.0) (λ at. verb_spaced (slice_get verbs at) ws vs h.2)
row_spaced verbs [] (v ∷ vs) h = absurd h
row_spaced verbs (w ∷ ws) [] h = absurd h

-- the first value of a keyword is the same
value_spaced : (key : List ℕ) (ws vs : List Word) → SameTexts ws vs → first_value key ws ≡ first_value key vs
value_spaced key [] [] h = refl
value_spaced key (w ∷ ws) (v ∷ vs) h =
    ap (λ t. option_or (value_for key t (equals_at t)) (first_value key ws)) h.0 ∙ ap (λ o. option_or (value_for key v.text (equals_at v.text)) o) (value_spaced key ws vs h.2)
value_spaced key [] (v ∷ vs) h = absurd h
value_spaced key (w ∷ ws) [] h = absurd h

meant_spaced : (r s : Result (Row × List Word) Refusal) → SameFound r s → SameRow (r >>= λ r. Ok (row_meant r.0 r.1, r.1)) (s >>= λ r. Ok (row_meant r.0 r.1, r.1))
meant_spaced (Ok a) (Ok b) h =
    let typed : row_meant a.0 a.1 ≡ row_meant a.0 b.1 = ap (λ o. row_typed a.0 (archive_row a.0.form) (is_archive o)) (value_spaced (codes "TYPE") a.1 b.1 h.1) in
    let same : row_meant a.0 a.1 ≡ row_meant b.0 b.1 = typed ∙ ap (λ r. row_meant r b.1) h.0 in
    (same, behind_spaced (row_meant a.0 a.1).slots (row_meant a.0 a.1).places a.1 b.1 h.1)
meant_spaced (Err d) (Err e) h = tt
meant_spaced (Ok a) (Err e) h = absurd h
meant_spaced (Err d) (Ok b) h = absurd h

for_spaced : (verbs : List Verb) (ws vs : List Word) → SameTexts ws vs → SameRow (row_for 0 verbs ws) (row_for 0 verbs vs)
for_spaced verbs ws vs h = meant_spaced (row_of 0 verbs ws) (row_of 0 verbs vs) (row_spaced verbs ws vs h)

torn_step : (b : Bool) (c d : ℕ) (t u : Option ℕ) → is_some t ≡ is_some u → is_some (cond b t (Some c)) ≡ is_some (cond b u (Some d))
torn_step true c d t u h = h
torn_step false c d t u h = refl

torn_spaced : (ws vs : List Word) → SameTexts ws vs → is_some (torn_at ws) ≡ is_some (torn_at vs)
torn_spaced [] [] h = refl
torn_spaced (w ∷ ws) (v ∷ vs) h = rw (sym h.1) (torn_step w.sound w.column v.column (torn_at ws) (torn_at vs) (torn_spaced ws vs h.2))
torn_spaced [] (v ∷ vs) h = absurd h
torn_spaced (w ∷ ws) [] h = absurd h

-- lines with the same words say the same
spaced : (verbs : List Verb) (ws vs : List Word) → SameTexts ws vs → SameWords verbs ws vs
spaced verbs ws vs h = (torn_spaced ws vs h, for_spaced verbs ws vs h)

-- a line with single spaces says the same
pub spaced_lines : (in_block : Bool) (line : List ℕ) → accepted (command (single_spaced line) in_block) ≡ accepted (command line in_block)
spaced_lines in_block line =
    alike_lines in_block line (single_spaced line) (spaced (verbs in_block) (words (single_spaced line)) (words line) (single_words line))
