-- A line with single spaces between its words has the same words.
use Rattle.std.proofs.Common.{◌≡◌, ℕ, ◌+◌, ◌-◌, ◌≤◌, Bool, true, false, cond, ◌==◌, List, [], ◌∷◌, ◌++◌, map, take, drop, refl, ap, sym, ◌∙◌, arith}
use Rattle.std.proofs.lemmas.List.{drop-drop, map-append}
use Rattle.std.proofs.Math.Seq.{take-add}
use Rattle.std.specs.Str.{byte}
use Rattle.command_words.specs.declared.words.Spot.{Spot}
use Rattle.command_words.specs.declared.words.Spot.TheVariants.{Between, Plain, Equals, Bare, Quoted, Closed, Torn}
use Rattle.command_words.specs.Words.{Word, is_quote, spot_after, is_between, is_sound, ended, words_from, words}
use Rattle.admin_words.specs.Spelling.{SameTexts, single_spaced_from, single_spaced}

-- the text of a word that ends here, and whether its quotes are closed
abbrev piece : Spot → List ℕ → List (List ℕ × Bool)
piece spot text = cond (is_between spot) [] ((text, is_sound spot) ∷ [])

-- the words, by their texts alone, where a word with this text has begun if the byte before stands in one
abbrev pieces : Spot → List ℕ → List ℕ → List (List ℕ × Bool)
pieces spot text [] = piece spot text
pieces spot text (b ∷ bs) =
    cond (is_between (spot_after spot b)) (piece spot text ++ pieces (spot_after spot b) [] bs) (pieces (spot_after spot b) (cond (is_between spot) (b ∷ []) (text ++ b ∷ [])) bs)

abbrev shown : List Word → List (List ℕ × Bool)
shown ws = map (λ w. (w.text, w.sound)) ws

between_is : (spot : Spot) → is_between spot ≡ true → spot ≡ Between
between_is Between e = refl
between_is Plain e = cc
between_is Equals e = cc
between_is Bare e = cc
between_is Quoted e = cc
between_is Closed e = cc
between_is Torn e = cc

-- between words nothing has begun
unbegun : (spot : Spot) (a c rest : List ℕ) → is_between spot ≡ true → pieces spot a rest ≡ pieces spot c rest
unbegun Between a c [] e = refl
unbegun Between a c (b ∷ bs) e = refl
unbegun Plain a c rest e = cc
unbegun Equals a c rest e = cc
unbegun Bare a c rest e = cc
unbegun Quoted a c rest e = cc
unbegun Closed a c rest e = cc
unbegun Torn a c rest e = cc

ended_shown : (b : Bool) (w : Word) → shown (cond b [] (w ∷ [])) ≡ cond b [] ((w.text, w.sound) ∷ [])
ended_shown true w = refl
ended_shown false w = refl

ended_piece : (line : List ℕ) (spot : Spot) (start at : ℕ) (text : List ℕ) → take (at - start) (drop start line) ≡ text → shown (ended 0 line spot start at) ≡ piece spot text
ended_piece line spot start at text t =
    ended_shown (is_between spot) (record { column = 0 + start + 1; text = take (at - start) (drop start line); sound = is_sound spot }) ∙ ap (λ a. piece spot a) t

-- one byte more of a word that has begun
grown : (line : List ℕ) (start at : ℕ) (text : List ℕ) (b : ℕ) (bs : List ℕ) → take (at - start) (drop start line) ≡ text → drop at line ≡ b ∷ bs → start ≤ at → take (at + 1 - start) (drop start line) ≡ text ++ b ∷ []
grown line start at text b bs t d h =
    let n : at + 1 - start ≡ (at - start) + 1 = omega arith in
    let k : start + (at - start) ≡ at = omega arith in
    let left : drop (at - start) (drop start line) ≡ b ∷ bs = drop-drop (at - start) start line ∙ ap (λ m. drop m line) k ∙ d in
    ap (λ m. take m (drop start line)) n ∙ take-add (at - start) 1 (drop start line) ∙ ap (λ l. take (at - start) (drop start line) ++ take 1 l) left ∙ ap (λ l. l ++ b ∷ []) t

begun : (line : List ℕ) (at b : ℕ) (bs : List ℕ) → drop at line ≡ b ∷ bs → take (at + 1 - at) (drop at line) ≡ b ∷ []
begun line at b bs d =
    let n : at + 1 - at ≡ 1 = omega arith in
    ap (λ m. take m (drop at line)) n ∙ ap (λ l. take 1 l) d

passed : (line : List ℕ) (at b : ℕ) (bs : List ℕ) → drop at line ≡ b ∷ bs → drop (at + 1) line ≡ bs
passed line at b bs d = sym (drop-drop 1 at line) ∙ ap (λ l. drop 1 l) d

-- the words of a line are its pieces
words_pieces : (line : List ℕ) (spot : Spot) (start at : ℕ) (text rest : List ℕ) → take (at - start) (drop start line) ≡ text → drop at line ≡ rest → start ≤ at → shown (words_from 0 line spot start at rest) ≡ pieces spot text rest
words_pieces line spot start at text [] t d h = ended_piece line spot start at text t
words_pieces line spot start at text (b ∷ bs) t d h =
    let next : Spot = spot_after spot b in
    let d' : drop (at + 1) line ≡ bs = passed line at b bs d in
    let later : start ≤ at + 1 = omega arith in
    let here : at ≤ at + 1 = omega arith in
    elim (is_between next) as (λ c. is_between next ≡ c → shown (cond c (ended 0 line spot start at ++ words_from 0 line next start (at + 1) bs) (words_from 0 line next (cond (is_between spot) at start) (at + 1) bs)) ≡ cond c (piece spot text ++ pieces next [] bs) (pieces next (cond (is_between spot) (b ∷ []) (text ++ b ∷ [])) bs)) [
      | true ↦ λ e.
          map-append (λ (w : Word). (w.text, w.sound)) (ended 0 line spot start at) (words_from 0 line next start (at + 1) bs)
          ∙ ap (λ p. p ++ shown (words_from 0 line next start (at + 1) bs)) (ended_piece line spot start at text t)
          ∙ ap (λ p. piece spot text ++ p) (words_pieces line next start (at + 1) (take (at + 1 - start) (drop start line)) bs refl d' later ∙ unbegun next (take (at + 1 - start) (drop start line)) [] bs e)
      | false ↦ λ e.
          elim (is_between spot) as (λ v. shown (words_from 0 line next (cond v at start) (at + 1) bs) ≡ pieces next (cond v (b ∷ []) (text ++ b ∷ [])) bs) [
            | true ↦ words_pieces line next at (at + 1) (b ∷ []) bs (begun line at b bs d) d' here
            | false ↦ words_pieces line next start (at + 1) (text ++ b ∷ []) bs (grown line start at text b bs t d h) d' later
          ]
    ] refl

-- where a blank ends a word, a space does
space_after : (spot : Spot) (b : ℕ) → is_between (spot_after spot b) ≡ true → spot_after spot (byte " ") ≡ Between
space_after Between b e = refl
space_after Plain b e = refl
space_after Equals b e = refl
space_after Bare b e = refl
space_after Quoted b e =
    elim (is_quote b) as (λ c. is_between (cond c Closed Quoted) ≡ true → spot_after Quoted (byte " ") ≡ Between) [ true ↦ λ f. cc | false ↦ λ f. cc ] e
space_after Closed b e = refl
space_after Torn b e = refl

-- a blank between words is left out
in_between : (text : List ℕ) (b : ℕ) (bs : List ℕ) → ((s : Spot) (a : List ℕ) → pieces s a (single_spaced_from s bs) ≡ pieces s a bs) → spot_after Between b ≡ Between → pieces Between text (single_spaced_from Between (b ∷ bs)) ≡ pieces Between text (b ∷ bs)
in_between text b bs more n = rw n (more Between text ∙ unbegun Between text [] bs refl)

-- a blank behind a word becomes a space
behind_word : (spot : Spot) (text : List ℕ) (b : ℕ) (bs : List ℕ) → ((s : Spot) (a : List ℕ) → pieces s a (single_spaced_from s bs) ≡ pieces s a bs) → is_between spot ≡ false → spot_after spot b ≡ Between → spot_after spot (byte " ") ≡ Between → pieces spot text (single_spaced_from spot (b ∷ bs)) ≡ pieces spot text (b ∷ bs)
behind_word spot text b bs more f n m = rw (n, f, m, f) (ap (λ r. (text, is_sound spot) ∷ r) (more Between []))

-- a byte of a word stays
within_word : (spot : Spot) (text : List ℕ) (b : ℕ) (bs : List ℕ) → ((s : Spot) (a : List ℕ) → pieces s a (single_spaced_from s bs) ≡ pieces s a bs) → is_between (spot_after spot b) ≡ false → pieces spot text (single_spaced_from spot (b ∷ bs)) ≡ pieces spot text (b ∷ bs)
within_word spot text b bs more e = rw (e, e) (more (spot_after spot b) (cond (is_between spot) (b ∷ []) (text ++ b ∷ [])))

spaced_step : (spot : Spot) (text : List ℕ) (b : ℕ) (bs : List ℕ) → ((s : Spot) (a : List ℕ) → pieces s a (single_spaced_from s bs) ≡ pieces s a bs) → (c : Bool) → is_between (spot_after spot b) ≡ c → (d : Bool) → is_between spot ≡ d → pieces spot text (single_spaced_from spot (b ∷ bs)) ≡ pieces spot text (b ∷ bs)
spaced_step spot text b bs more false e d f = within_word spot text b bs more e
spaced_step Between text b bs more true e true f = in_between text b bs more (between_is (spot_after Between b) e)
spaced_step spot text b bs more true e false f =
    behind_word spot text b bs more f (between_is (spot_after spot b) e) (space_after spot b e)
spaced_step Plain text b bs more true e true f = cc
spaced_step Equals text b bs more true e true f = cc
spaced_step Bare text b bs more true e true f = cc
spaced_step Quoted text b bs more true e true f = cc
spaced_step Closed text b bs more true e true f = cc
spaced_step Torn text b bs more true e true f = cc

-- single spaces make no other pieces
spaced_pieces : (spot : Spot) (text rest : List ℕ) → pieces spot text (single_spaced_from spot rest) ≡ pieces spot text rest
spaced_pieces spot text [] = refl
spaced_pieces spot text (b ∷ bs) =
    spaced_step spot text b bs (λ s a. spaced_pieces s a bs) (is_between (spot_after spot b)) refl (is_between spot) refl

abbrev first_text : List (List ℕ × Bool) → List ℕ
first_text [] = []
first_text (p ∷ ps) = p.0

abbrev first_sound : List (List ℕ × Bool) → Bool
first_sound [] = true
first_sound (p ∷ ps) = p.1

abbrev others : List (List ℕ × Bool) → List (List ℕ × Bool)
others [] = []
others (p ∷ ps) = ps

same_shown : (ws vs : List Word) → shown ws ≡ shown vs → SameTexts ws vs
same_shown [] [] h = tt
same_shown (w ∷ ws) (v ∷ vs) h = (ap first_text h, ap first_sound h, same_shown ws vs (ap others h))
same_shown [] (v ∷ vs) h = cc
same_shown (w ∷ ws) [] h = cc

line_pieces : (line : List ℕ) → shown (words line) ≡ pieces Between [] line
line_pieces line = words_pieces line Between 0 0 [] line refl refl (omega arith)

-- a line with single spaces has the same words
pub single_words : (line : List ℕ) → SameTexts (words (single_spaced line)) (words line)
single_words line = same_shown (words (single_spaced line)) (words line) (line_pieces (single_spaced line) ∙ spaced_pieces Between [] line ∙ sym (line_pieces line))
