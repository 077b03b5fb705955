-- Lines that say the same are accepted as the same command.
use Rattle.std.proofs.Common.{◌≡◌, ℕ, ◌+◌, Bool, true, false, cond, ◌==◌, List, [], ◌∷◌, ◌++◌, length, map, take, drop, refl, ap, subst, ◌∙◌, Option, Some, None, Result, Ok, Err}
use Rattle.std.specs.Prelude.{is_some, slice_get, count_by}
use Rattle.std.specs.List.{position_from}
use Rattle.kinds.specs.declared.refusal.Refusal.{Refusal}
use Rattle.kinds.specs.declared.refusal.Refusal.TheVariants.{Syntax, BadValue, Ambiguous}
use Rattle.command_words.specs.declared.value.Kind.{Kind}
use Rattle.command_words.specs.Choice.{begins, is_whole, spelled, choice, choose}
use Rattle.command_words.specs.Reading.{◌>>=◌}
use Rattle.command_words.specs.Rows.{Place, Slot, Given, equals_at, is_for_place, places_from, is_settled, is_complete, slot_value, chosen_value, key_value, keyword_at, keyword, keywords_from, row_values}
use Rattle.command_words.specs.Values.{unquoted, has_words, fits, one_of, valued}
use Rattle.command_words.specs.Words.{Word, words, torn_at}
use Rattle.admin_words.specs.Command.{command_of}
use Rattle.admin_words.specs.Line.{row_found, row_named, row_among, verb_found, row_of, row_meant, row_for, row_command, command_by, command}
use Rattle.admin_words.specs.Rows.{Row, Verb, verbs, is_bare}
use Rattle.admin_words.specs.Spelling.{accepted, SameKeyAt, SameKeys, SameForPlace, SameBehind, SameRow, SameWords}

-- what is read behind two readings that are accepted alike, each from what was read
pub bind_same : {A B : Type 0} (r s : Result A Refusal) (f g : A → Result B Refusal) → accepted r ≡ accepted s → ((x : A) → accepted (f x) ≡ accepted (g x)) → accepted (r >>= f) ≡ accepted (s >>= g)
bind_same (Ok x) (Ok y) f g e h = let k : x ≡ y = cc in subst (λ z. accepted (f x) ≡ accepted (g z)) k (h x)
bind_same (Ok x) (Err d) f g e h = cc
bind_same (Err d) (Ok y) f g e h = cc
bind_same (Err d) (Err e') f g e h = refl

choice_same : (c d : ℕ) (whole : Option ℕ) (count : ℕ) (first : Option ℕ) → accepted (choice c whole count first) ≡ accepted (choice d whole count first)
choice_same c d (Some i) count first = refl
choice_same c d None count None = refl
choice_same c d None count (Some i) =
    elim (count == 1) as (λ b. accepted (cond b (Ok i) (Err (Ambiguous c))) ≡ accepted (cond b (Ok i) (Err (Ambiguous d)))) [ true ↦ refl | false ↦ refl ]

-- which option is meant doesn't depend on the column
pub choose_same : (c d : ℕ) (word : List ℕ) (options : List (List ℕ)) → accepted (choose c word options) ≡ accepted (choose d word options)
choose_same c d word options =
    choice_same c d (position_from (λ o. is_whole o (spelled word)) 0 options) (count_by (λ o. begins o (spelled word)) options) (position_from (λ o. begins o (spelled word)) 0 options)

one_of_same : (words : List (List ℕ)) (c d : ℕ) (text : List ℕ) → accepted (one_of words c text) ≡ accepted (one_of words d text)
one_of_same words c d text =
    elim (length text == 0) as (λ b. accepted (cond b (Err (BadValue c)) (choose c text words >>= λ _. Ok text)) ≡ accepted (cond b (Err (BadValue d)) (choose d text words >>= λ _. Ok text))) [
      | true ↦ refl
      | false ↦ bind_same (choose c text words) (choose d text words) (λ _. Ok text) (λ _. Ok text) (choose_same c d text words) (λ _. refl)
    ]

fits_same : (b : Bool) (c d : ℕ) (text : List ℕ) → accepted (cond b (Ok text) (Err (BadValue c))) ≡ accepted (cond b (Ok text) (Err (BadValue d)))
fits_same true c d text = refl
fits_same false c d text = refl

-- what a value is doesn't depend on the column
pub valued_same : (kind : Kind) (words : List (List ℕ)) (c d : ℕ) (text : List ℕ) → accepted (valued kind words c text) ≡ accepted (valued kind words d text)
valued_same kind words c d text =
    elim (has_words kind) as (λ b. accepted (cond b (one_of words c text) (cond (fits kind text) (Ok text) (Err (BadValue c)))) ≡ accepted (cond b (one_of words d text) (cond (fits kind text) (Ok text) (Err (BadValue d))))) [
      | true ↦ one_of_same words c d text
      | false ↦ fits_same (fits kind text) c d text
    ]

slot_same : (slots : List Slot) (given : List Given) (c d : ℕ) (value : List ℕ) (at : ℕ) (s : Slot) → accepted (slot_value slots given c value at s) ≡ accepted (slot_value slots given d value at s)
slot_same slots given c d value at s =
    elim (is_settled s.need at given 0 slots) as (λ b. accepted {A = Given} (cond b (Err (Syntax c)) (valued s.kind s.words c value >>= λ text. Ok (at, text))) ≡ accepted {A = Given} (cond b (Err (Syntax d)) (valued s.kind s.words d value >>= λ text. Ok (at, text)))) [
      | true ↦ refl
      | false ↦ bind_same {B = Given} (valued s.kind s.words c value) (valued s.kind s.words d value) (λ text. Ok (at, text)) (λ text. Ok (at, text)) (valued_same s.kind s.words c d value) (λ _. refl)
    ]

chosen_same : (slots : List Slot) (given : List Given) (c d : ℕ) (value : List ℕ) (at : ℕ) (s : Option Slot) → accepted (chosen_value slots given c value at s) ≡ accepted (chosen_value slots given d value at s)
chosen_same slots given c d value at None = refl
chosen_same slots given c d value at (Some s) = slot_same slots given c d value at s

-- keys that stand for the same keyword give the same
key_same : (slots : List Slot) (given : List Given) (c d : ℕ) (k l value : List ℕ) → (length k == 0) ≡ (length l == 0) → accepted (choose 0 k (map (λ s. s.key) slots)) ≡ accepted (choose 0 l (map (λ s. s.key) slots)) → accepted (key_value slots given c k value) ≡ accepted (key_value slots given d l value)
key_same slots given c d k l value empty chosen =
    let keys : List (List ℕ) = map (λ (s : Slot). s.key) slots in
    let same : accepted (choose c k keys) ≡ accepted (choose d l keys) = choose_same c 0 k keys ∙ chosen ∙ choose_same 0 d l keys in
    rw empty (elim (length l == 0) as (λ b. accepted (cond b (Err (Syntax c)) (choose c k keys >>= λ at. chosen_value slots given c value at (slice_get slots at))) ≡ accepted (cond b (Err (Syntax d)) (choose d l keys >>= λ at. chosen_value slots given d value at (slice_get slots at)))) [
      | true ↦ refl
      | false ↦ bind_same (choose c k keys) (choose d l keys) (λ at. chosen_value slots given c value at (slice_get slots at)) (λ at. chosen_value slots given d value at (slice_get slots at)) same (λ at. chosen_same slots given c d value at (slice_get slots at))
    ])

keyword_at_same : (slots : List Slot) (given : List Given) (w v : Word) (i j : Option ℕ) → SameKeyAt (map (λ s. s.key) slots) w.text v.text i j → accepted (keyword_at slots given w i) ≡ accepted (keyword_at slots given v j)
keyword_at_same slots given w v (Some i) (Some j) h =
    rw h.2 (key_same slots given w.column v.column (take i w.text) (take j v.text) (unquoted (drop (j + 1) v.text)) h.0 h.1)
keyword_at_same slots given w v None None h = refl
keyword_at_same slots given w v (Some i) None h = absurd h
keyword_at_same slots given w v None (Some j) h = absurd h

complete_same : (b : Bool) (given : List Given) (c d : ℕ) → accepted (cond b (Ok given) (Err (Syntax c))) ≡ accepted (cond b (Ok given) (Err (Syntax d)))
complete_same true given c d = refl
complete_same false given c d = refl

-- words that give the same values for the same keywords
keys_same : (slots : List Slot) (c d : ℕ) (given : List Given) (ws vs : List Word) → SameKeys slots ws vs → accepted (keywords_from slots c given ws) ≡ accepted (keywords_from slots d given vs)
keys_same slots c d given [] [] h = complete_same (is_complete slots given 0 slots) given c d
keys_same slots c d given (w ∷ ws) (v ∷ vs) h =
    bind_same (keyword slots given w) (keyword slots given v) (λ g. keywords_from slots c (given ++ g ∷ []) ws) (λ g. keywords_from slots d (given ++ g ∷ []) vs) (keyword_at_same slots given w v (equals_at w.text) (equals_at v.text) h.0) (λ g. keys_same slots c d (given ++ g ∷ []) ws vs h.1)
keys_same slots c d given [] (v ∷ vs) h = absurd h
keys_same slots c d given (w ∷ ws) [] h = absurd h

-- nothing says the same as nothing
nothing_same : (slots : List Slot) (places : List Place) → SameBehind slots places [] []
nothing_same slots [] = tt
nothing_same slots (p ∷ ps) = tt

-- what is given for the keywords, behind what was given for the places
behind : List Slot → ℕ → List Given × List Word → Result (List Given × List Given) Refusal
behind slots c p = keywords_from slots c [] p.1 >>= λ keys. Ok (p.0, keys)

-- one place more, where a value was read for it in both lines, and is the same
taken_same : {A B C D : Type 0} (r s : Result A Refusal) (f g : A → B) (m n : B → Result C Refusal) (k l : C → Result D Refusal) → accepted r ≡ accepted s → ((x : A) → accepted (m (f x) >>= k) ≡ accepted (n (g x) >>= l)) → accepted (((r >>= λ x. Ok (f x)) >>= m) >>= k) ≡ accepted (((s >>= λ x. Ok (g x)) >>= n) >>= l)
taken_same (Ok x) (Ok y) f g m n k l e h = let same : x ≡ y = cc in subst (λ z. accepted (m (f x) >>= k) ≡ accepted (n (g z) >>= l)) same (h x)
taken_same (Ok x) (Err d) f g m n k l e h = cc
taken_same (Err d) (Ok y) f g m n k l e h = cc
taken_same (Err d) (Err e') f g m n k l e h = refl

-- a word for a place, or for a later one
place_same : (slots : List Slot) (c d at : ℕ) (p : Place) (ps : List Place) (given : List Given) (w v : Word) (ws vs : List Word) → ((given : List Given) (ws vs : List Word) → SameBehind slots ps ws vs → accepted (places_from c (at + 1) ps given ws >>= behind slots c) ≡ accepted (places_from d (at + 1) ps given vs >>= behind slots d)) → (a b : Bool) → is_for_place p w.text ≡ a → is_for_place p v.text ≡ b → SameForPlace a b w.text v.text → SameBehind slots ps (cond a ws (w ∷ ws)) (cond a vs (v ∷ vs)) → accepted (places_from c at (p ∷ ps) given (w ∷ ws) >>= behind slots c) ≡ accepted (places_from d at (p ∷ ps) given (v ∷ vs) >>= behind slots d)
place_same slots c d at p ps given w v ws vs more true b here there same rest =
    let there' : is_for_place p v.text ≡ true = subst (λ t. is_for_place p t ≡ true) same here in
    let read : accepted (valued p.kind p.words w.column (unquoted w.text)) ≡ accepted (valued p.kind p.words v.column (unquoted v.text)) =
    valued_same p.kind p.words w.column v.column (unquoted w.text) ∙ ap (λ t. accepted (valued p.kind p.words v.column (unquoted t))) same
    in rw (here, there') (taken_same {B = List Given × List Word} (valued p.kind p.words w.column (unquoted w.text)) (valued p.kind p.words v.column (unquoted v.text)) (λ text. (given ++ (at, text) ∷ [], ws)) (λ text. (given ++ (at, text) ∷ [], vs)) (λ g. places_from c (at + 1) ps g.0 g.1) (λ g. places_from d (at + 1) ps g.0 g.1) (behind slots c) (behind slots d) read (λ text. more (given ++ (at, text) ∷ []) ws vs rest))
place_same slots c d at p ps given w v ws vs more false b here there same rest =
    let there' : is_for_place p v.text ≡ false = there ∙ same in
    rw (here, there') (more given (w ∷ ws) (v ∷ vs) rest)

-- what is given where no word is left for a place
abbrev nothing_taken : Bool → ℕ → List Given → Result (List Given × List Word) Refusal
nothing_taken b end given = cond b (Err (Syntax end)) (Ok (given, []))

missing_same : (slots : List Slot) (c d at : ℕ) (ps : List Place) (given : List Given) (b : Bool) → accepted (places_from c (at + 1) ps given [] >>= behind slots c) ≡ accepted (places_from d (at + 1) ps given [] >>= behind slots d) → accepted ((nothing_taken b c given >>= λ g. places_from c (at + 1) ps g.0 g.1) >>= behind slots c) ≡ accepted ((nothing_taken b d given >>= λ g. places_from d (at + 1) ps g.0 g.1) >>= behind slots d)
missing_same slots c d at ps given true more = refl
missing_same slots c d at ps given false more = more

-- the same words in places, and then words that give the same values for the same keywords
places_same : (slots : List Slot) (c d at : ℕ) (places : List Place) (given : List Given) (ws vs : List Word) → SameBehind slots places ws vs → accepted (places_from c at places given ws >>= behind slots c) ≡ accepted (places_from d at places given vs >>= behind slots d)
unfolding behind
places_same slots c d at [] given ws vs h =
    bind_same {B = List Given × List Given} (keywords_from slots c [] ws) (keywords_from slots d [] vs) (λ keys. Ok (given, keys)) (λ keys. Ok (given, keys)) (keys_same slots c d [] ws vs h) (λ _. refl)
places_same slots c d at (p ∷ ps) given [] [] h =
    missing_same slots c d at ps given p.required (places_same slots c d (at + 1) ps given [] [] (nothing_same slots ps))
places_same slots c d at (p ∷ ps) given (w ∷ ws) (v ∷ vs) h =
    place_same slots c d at p ps given w v ws vs (λ given ws vs h. places_same slots c d (at + 1) ps given ws vs h) (is_for_place p w.text) (is_for_place p v.text) refl refl h.0 h.1
places_same slots c d at (p ∷ ps) given [] (v ∷ vs) h = absurd h
places_same slots c d at (p ∷ ps) given (w ∷ ws) [] h = absurd h

-- the same row, and words behind that say the same
row_same : (c d : ℕ) (r : Row) (ws vs : List Word) → SameBehind r.slots r.places ws vs → accepted (row_command c (r, ws)) ≡ accepted (row_command d (r, vs))
unfolding behind
row_same c d r ws vs h =
    bind_same (row_values r.places r.slots c ws) (row_values r.places r.slots d vs) (λ given. Ok (command_of r.form given.0 given.1)) (λ given. Ok (command_of r.form given.0 given.1)) (places_same r.slots c d 0 r.places [] ws vs h) (λ _. refl)

found_same : (c d : ℕ) (r : Option Row) (ws : List Word) → accepted (row_found c r ws) ≡ accepted (row_found d r ws)
found_same c d None ws = refl
found_same c d (Some r) ws = refl

named_same : (c d : ℕ) (rows : List Row) (ws : List Word) → accepted (row_named c rows ws) ≡ accepted (row_named d rows ws)
named_same c d rows [] = refl
named_same c d rows (w ∷ ws) =
    let read : Result ℕ Refusal = choose w.column w.text (map (λ (r : Row). r.word) rows) in
    bind_same read read (λ at. row_found c (slice_get rows at) ws) (λ at. row_found d (slice_get rows at) ws) refl (λ at. found_same c d (slice_get rows at) ws)

among_same : (c d : ℕ) (rows : List Row) (ws : List Word) → accepted (row_among c rows ws) ≡ accepted (row_among d rows ws)
among_same c d rows ws =
    elim (is_bare rows) as (λ b. accepted (cond b (row_found c (slice_get rows 0) ws) (row_named c rows ws)) ≡ accepted (cond b (row_found d (slice_get rows 0) ws) (row_named d rows ws))) [
      | true ↦ found_same c d (slice_get rows 0) ws
      | false ↦ named_same c d rows ws
    ]

verb_same : (c d : ℕ) (v : Option Verb) (ws : List Word) → accepted (verb_found c v ws) ≡ accepted (verb_found d v ws)
verb_same c d None ws = refl
verb_same c d (Some v) ws = among_same c d v.rows ws

-- which row is named doesn't depend on the column of a missing word
row_of_same : (c d : ℕ) (verbs : List Verb) (ws : List Word) → accepted (row_of c verbs ws) ≡ accepted (row_of d verbs ws)
row_of_same c d verbs [] = refl
row_of_same c d verbs (w ∷ ws) =
    let read : Result ℕ Refusal = choose w.column w.text (map (λ (v : Verb). v.word) verbs) in
    bind_same read read (λ at. verb_found c (slice_get verbs at) ws) (λ at. verb_found d (slice_get verbs at) ws) refl (λ at. verb_same c d (slice_get verbs at) ws)

-- nor does the row that is meant
row_for_same : (c d : ℕ) (verbs : List Verb) (ws : List Word) → accepted (row_for c verbs ws) ≡ accepted (row_for d verbs ws)
row_for_same c d verbs ws =
    bind_same {B = Row × List Word} (row_of c verbs ws) (row_of d verbs ws) (λ r. Ok (row_meant r.0 r.1, r.1)) (λ r. Ok (row_meant r.0 r.1, r.1)) (row_of_same c d verbs ws) (λ _. refl)

behind_same : (c d : ℕ) (r s : Result (Row × List Word) Refusal) → SameRow r s → accepted (r >>= row_command c) ≡ accepted (s >>= row_command d)
behind_same c d (Ok (r, ws)) (Ok (s, vs)) h =
    subst (λ z. accepted (row_command c (r, ws)) ≡ accepted (row_command d (z, vs))) h.0 (row_same c d r ws vs h.1)
behind_same c d (Err x) (Err y) h = refl
behind_same c d (Ok a) (Err y) h = absurd h
behind_same c d (Err x) (Ok b) h = absurd h

untorn_same : (c d : ℕ) (verbs : List Verb) (ws vs : List Word) → SameRow (row_for 0 verbs ws) (row_for 0 verbs vs) → accepted (row_for c verbs ws >>= row_command c) ≡ accepted (row_for d verbs vs >>= row_command d)
untorn_same c d verbs ws vs h =
    bind_same (row_for c verbs ws) (row_for 0 verbs ws) (row_command c) (row_command c) (row_for_same c 0 verbs ws) (λ _. refl)
    ∙ behind_same c d (row_for 0 verbs ws) (row_for 0 verbs vs) h
    ∙ bind_same (row_for 0 verbs vs) (row_for d verbs vs) (row_command d) (row_command d) (row_for_same 0 d verbs vs) (λ _. refl)

torn_same : (c d : ℕ) (verbs : List Verb) (ws vs : List Word) (t u : Option ℕ) → is_some t ≡ is_some u → SameRow (row_for 0 verbs ws) (row_for 0 verbs vs) → accepted (command_by verbs ws c t) ≡ accepted (command_by verbs vs d u)
torn_same c d verbs ws vs (Some x) (Some y) e h = refl
torn_same c d verbs ws vs None None e h = untorn_same c d verbs ws vs h
torn_same c d verbs ws vs (Some x) None e h = cc
torn_same c d verbs ws vs None (Some y) e h = cc

-- lines that say the same are accepted as the same command
alike : (c d : ℕ) (verbs : List Verb) (ws vs : List Word) → SameWords verbs ws vs → accepted (command_by verbs ws c (torn_at ws)) ≡ accepted (command_by verbs vs d (torn_at vs))
alike c d verbs ws vs h = torn_same c d verbs ws vs (torn_at ws) (torn_at vs) h.0 h.1

pub alike_lines : (in_block : Bool) (line other : List ℕ) → SameWords (verbs in_block) (words other) (words line) → accepted (command other in_block) ≡ accepted (command line in_block)
alike_lines in_block line other h = alike (length other + 1) (length line + 1) (verbs in_block) (words other) (words line) h
