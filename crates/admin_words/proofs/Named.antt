-- The row that the first words of a line name.
use Rattle.std.proofs.Common.{◌≡◌, ℕ, ◌<◌, ◌+◌, Bool, List, [], ◌∷◌, length, map, drop, get_or, refl, sym, ◌∙◌, arith, Ok, Err, add-one}
use Rattle.std.specs.Borrow.{Bor}
use Rattle.std.proofs.lemmas.Simd.{map-map}
use Rattle.std.proofs.Math.Seq.{drop-nil}
use Rattle.kinds.specs.declared.refusal.Refusal.{Refusal}
use Rattle.command_words.specs.declared.value.Kind.{Kind}
use Rattle.command_words.specs.declared.row.Need.{Need}
use Rattle.command_words.specs.Choice.{choose}
use Rattle.command_words.specs.Words.{word_view}
use Rattle.command_words.proofs.Keys.{get_map}
use Rattle.admin_words.specs.declared.table.Form.{Form}
use Rattle.admin_words.specs.declared.table.FirstWord.{FirstWord}
use Rattle.admin_words.specs.Rows.{Row, Verb, noun_view, verb_view, rows_of}
use Rattle.admin_words.specs.Line.{row_named, row_among, row_of}

-- a row and a word as the code has them
abbrev pub NounBits : Type 0
NounBits = Bor (List ℕ) × Form × Bor (List (Kind × Bor (List (Bor (List ℕ))) × Bool)) × Bor (List (Bor (List ℕ) × Kind × Bor (List (Bor (List ℕ))) × Need))

abbrev pub WordBits : Type 0
WordBits = ℕ × Bor (List ℕ) × Bool

nouns_shown : (nouns : List NounBits) → map (λ (r : Row). r.word) (map noun_view nouns) ≡ map (λ (n : NounBits). n.0.now) nouns
nouns_shown nouns = map-map (λ (r : Row). r.word) noun_view nouns

verbs_shown : (verbs : List (Bor (List ℕ) × FirstWord)) → map (λ (v : Verb). v.word) (map verb_view verbs) ≡ map (λ (v : Bor (List ℕ) × FirstWord). v.0.now) verbs
verbs_shown verbs = map-map (λ (v : Verb). v.word) verb_view verbs

-- the second word is refused
pub noun_refused : (end : ℕ) (nouns : List NounBits) (ws : List WordBits) (d : WordBits) (e : Refusal) → 0 < length ws → Err e ≡ choose (get_or ws 0 d).0 (get_or ws 0 d).1.now (map (λ (n : NounBits). n.0.now) nouns) → row_named end (map noun_view nouns) (map word_view ws) ≡ Err e
noun_refused end nouns [] d e some said = absurd (omega arith)
noun_refused end nouns (w ∷ ws) d e some said =
    let there : choose w.0 w.1.now (map (λ (r : Row). r.word) (map noun_view nouns)) ≡ Err e = rw nouns_shown (sym said) in
    rw there refl

-- the second word names a row
pub noun_chosen : (end : ℕ) (nouns : List NounBits) (ws : List WordBits) (d : WordBits) (n : NounBits) (at : ℕ) → 0 < length ws → at < length nouns → Ok at ≡ choose (get_or ws 0 d).0 (get_or ws 0 d).1.now (map (λ (n : NounBits). n.0.now) nouns) → row_named end (map noun_view nouns) (map word_view ws) ≡ Ok (noun_view (get_or nouns at n), map word_view (drop 1 ws))
noun_chosen end nouns [] d n at some within said = absurd (omega arith)
noun_chosen end nouns (w ∷ ws) d n at some within said =
    let there : choose w.0 w.1.now (map (λ (r : Row). r.word) (map noun_view nouns)) ≡ Ok at = rw nouns_shown (sym said) in
    rw (there, get_map noun_view nouns at n within) refl

-- the first word is refused
pub verb_refused : (end : ℕ) (verbs : List (Bor (List ℕ) × FirstWord)) (ws : List WordBits) (d : WordBits) (e : Refusal) → 0 < length ws → Err e ≡ choose (get_or ws 0 d).0 (get_or ws 0 d).1.now (map (λ (v : Bor (List ℕ) × FirstWord). v.0.now) verbs) → row_of end (map verb_view verbs) (map word_view ws) ≡ Err e
verb_refused end verbs [] d e some said = absurd (omega arith)
verb_refused end verbs (w ∷ ws) d e some said =
    let there : choose w.0 w.1.now (map (λ (v : Verb). v.word) (map verb_view verbs)) ≡ Err e = rw verbs_shown (sym said) in
    rw there refl

-- the first word names rows
pub verb_chosen : (end : ℕ) (verbs : List (Bor (List ℕ) × FirstWord)) (ws : List WordBits) (d : WordBits) (v : Bor (List ℕ) × FirstWord) (at : ℕ) → 0 < length ws → at < length verbs → Ok at ≡ choose (get_or ws 0 d).0 (get_or ws 0 d).1.now (map (λ (v : Bor (List ℕ) × FirstWord). v.0.now) verbs) → row_of end (map verb_view verbs) (map word_view ws) ≡ row_among end (rows_of (get_or verbs at v).1) (map word_view (drop 1 ws))
verb_chosen end verbs [] d v at some within said = absurd (omega arith)
verb_chosen end verbs (w ∷ ws) d v at some within said =
    let there : choose w.0 w.1.now (map (λ (v : Verb). v.word) (map verb_view verbs)) ≡ Ok at = rw verbs_shown (sym said) in
    rw (there, get_map verb_view verbs at v within) refl

-- one word is skipped, and then the others
skipped : (used : ℕ) (ws : List WordBits) → drop used (drop 1 ws) ≡ drop (used + 1) ws
skipped used [] = drop-nil used ∙ sym (drop-nil (used + 1))
skipped used (w ∷ ws) = rw add-one refl

-- the first word names rows, among which the second is refused
pub named_refused : (end : ℕ) (verbs : List (Bor (List ℕ) × FirstWord)) (ws rest : List WordBits) (d : WordBits) (v : Bor (List ℕ) × FirstWord) (at : ℕ) (nouns : List NounBits) (e : Refusal) → 0 < length ws → at < length verbs → Ok at ≡ choose (get_or ws 0 d).0 (get_or ws 0 d).1.now (map (λ (v : Bor (List ℕ) × FirstWord). v.0.now) verbs) → map noun_view nouns ≡ rows_of (get_or verbs at v).1 → rest ≡ drop 1 ws → row_among end (map noun_view nouns) (map word_view rest) ≡ Err e → row_of end (map verb_view verbs) (map word_view ws) ≡ Err e
named_refused end verbs ws rest d v at nouns e some within said rows left h =
    verb_chosen end verbs ws d v at some within said ∙ rw (← rows, ← left) h

-- the first word names rows, and a row is found among them
pub named_found : (end : ℕ) (verbs : List (Bor (List ℕ) × FirstWord)) (ws rest : List WordBits) (d : WordBits) (v : Bor (List ℕ) × FirstWord) (at : ℕ) (nouns : List NounBits) (n : NounBits) (used : ℕ) → 0 < length ws → at < length verbs → Ok at ≡ choose (get_or ws 0 d).0 (get_or ws 0 d).1.now (map (λ (v : Bor (List ℕ) × FirstWord). v.0.now) verbs) → map noun_view nouns ≡ rows_of (get_or verbs at v).1 → rest ≡ drop 1 ws → row_among end (map noun_view nouns) (map word_view rest) ≡ Ok (noun_view n, map word_view (drop used rest)) → row_of end (map verb_view verbs) (map word_view ws) ≡ Ok (noun_view n, map word_view (drop (used + 1) ws))
named_found end verbs ws rest d v at nouns n used some within said rows left h =
    let there : row_among end (map noun_view nouns) (map word_view (drop 1 ws)) ≡ Ok (noun_view n, map word_view (drop used (drop 1 ws))) = rw (← left) h in
    verb_chosen end verbs ws d v at some within said ∙ rw (← rows, ← skipped used ws) there
