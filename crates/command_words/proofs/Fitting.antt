use Rattle.std.proofs.Common.{◌≡◌, ℕ, zero, suc, ◌+◌, ◌<◌, ◌≤◌, Bool, true, false, not, ◌==◌, ◌||◌, List, [], ◌∷◌, ◌++◌, length, refl, sym, ap, subst, ◌∙◌, Option, Some, None, Result, Ok, Err, arith, zero-add, is_some}
use Rattle.std.specs.List.{position_from}
use Rattle.std.specs.Prelude.{count_by, slice_get, IfSome, IsTrue, if◌then◌else◌}
use Rattle.std.proofs.lemmas.Bool.{eq-eqb, ne_eqb, and_parts}
use Rattle.kinds.specs.declared.refusal.Refusal.{Refusal}
use Rattle.kinds.specs.declared.refusal.Refusal.TheVariants.{Syntax, BadValue, Ambiguous}
use Rattle.command_words.specs.declared.value.Kind.{Kind}
use Rattle.command_words.specs.Choice.{choice, choose, begins, is_whole, spelled}
use Rattle.command_words.specs.Reading.{◌>>=◌}
use Rattle.command_words.specs.Values.{unquoted, valued, one_of, fits, has_words}
use Rattle.command_words.specs.Fields.{word_of}
use Rattle.command_words.specs.Words.{Word}
use Rattle.command_words.specs.Rows.{Place, Given, text_at, is_for_place, place_taken, places_from}
use Rattle.command_words.specs.Fit.{is_one_of, is_value, is_fit, PlacesFit}

-- ---- values

-- which option is chosen does not depend on the column
choice_column : (c d : ℕ) (whole : Option ℕ) (count : ℕ) (first : Option ℕ) (at : ℕ) → choice c whole count first ≡ Ok at → choice d whole count first ≡ Ok at
choice_column c d (Some i) count first at h = h
choice_column c d None count None at h = cc
choice_column c d None count (Some i) at h =
    elim (count == 1) as (λ b. (if b then Ok i else Err (Ambiguous c)) ≡ Ok at → (if b then Ok i else Err (Ambiguous d)) ≡ Ok at) [
      | true ↦ λ e. e
      | false ↦ λ e. cc
    ] h

-- what was read is the text
pub record IsRead (kind : Kind) (words : List (List ℕ)) (text read : List ℕ) : Type 0 where
  pub same : text ≡ read
  pub fit : is_value kind words read ≡ true

one_of_chosen : (words : List (List ℕ)) (column : ℕ) (text read : List ℕ) (r : Result ℕ Refusal) → choose column text words ≡ r → (length text == 0) ≡ false → (r >>= λ _. Ok text) ≡ Ok read → (text ≡ read) × (is_one_of words read ≡ true)
one_of_chosen words column text read (Ok at) found some h =
    let same : text ≡ read = cc in
    let there : choose 0 text words ≡ Ok at = choice_column column 0 (position_from (λ o. is_whole o (spelled text)) 0 words) (count_by (λ o. begins o (spelled text)) words) (position_from (λ o. begins o (spelled text)) 0 words) at found in
    let fit : is_one_of words text ≡ true = rw (some, there) refl in
    (same, subst (λ t. is_one_of words t ≡ true) same fit)
one_of_chosen words column text read (Err e) found some h = absurd (cc)

one_of_fits : (words : List (List ℕ)) (column : ℕ) (text read : List ℕ) (b : Bool) → (length text == 0) ≡ b → (if b then Err (BadValue column) else (choose column text words >>= λ _. Ok text)) ≡ Ok read → (text ≡ read) × (is_one_of words read ≡ true)
one_of_fits words column text read true e h = absurd (cc)
one_of_fits words column text read false e h = one_of_chosen words column text read (choose column text words) refl e h

plain_fits : (kind : Kind) (column : ℕ) (text read : List ℕ) (b : Bool) → fits kind text ≡ b → (if b then Ok text else Err (BadValue column)) ≡ Ok read → (text ≡ read) × (fits kind read ≡ true)
plain_fits kind column text read true e h =
    let same : text ≡ read = cc in
    (same, subst (λ t. fits kind t ≡ true) same e)
plain_fits kind column text read false e h = absurd (cc)

-- the value that is read is the text, and it fits
pub valued_fits : (kind : Kind) (words : List (List ℕ)) (column : ℕ) (text read : List ℕ) → valued kind words column text ≡ Ok read → is_value kind words read ≡ true
valued_fits kind words column text read h =
    elim (has_words kind) as (λ b. (if b then one_of words column text else (if fits kind text then Ok text else Err (BadValue column))) ≡ Ok read → (if b then is_one_of words read else fits kind read) ≡ true) [
      | true ↦ λ e. (one_of_fits words column text read (length text == 0) refl e).1
      | false ↦ λ e. (plain_fits kind column text read (fits kind text) refl e).1
    ] h

-- ---- what was given under a number

pub text_at-other : (at n : ℕ) (t : List ℕ) (given : List Given) → (n == at) ≡ false → text_at at (given ++ (n, t) ∷ []) ≡ text_at at given
text_at-other at n t [] h = rw h refl
text_at-other at n t (g ∷ gs) h = rw (text_at-other at n t gs h) refl

pub text_at-new : (n : ℕ) (t : List ℕ) (given : List Given) → text_at n given ≡ None → text_at n (given ++ (n, t) ∷ []) ≡ Some t
text_at-new n t [] h = rw (eq-eqb n n refl) refl
text_at-new n t (g ∷ gs) h =
    elim (g.0 == n) as (λ b. (if b then Some g.1 else text_at n gs) ≡ None → (if b then Some g.1 else text_at n (gs ++ (n, t) ∷ [])) ≡ Some t) [
      | true ↦ λ e. cc
      | false ↦ λ e. text_at-new n t gs e
    ] h

-- ---- places

-- what one more place leaves: what was given before stays, and what was given for the place fits it
record Taken (p : Place) (n : ℕ) (given after : List Given) : Type 0 where
  kept : (at : ℕ) → at < n → text_at at after ≡ text_at at given
  fit : is_fit p.kind p.words p.required (text_at n after) ≡ true
  none : (at : ℕ) → n < at → text_at at after ≡ None

taken_none : (p : Place) (n : ℕ) (given : List Given) → ((at : ℕ) → n ≤ at → text_at at given ≡ None) → p.required ≡ false → Taken p n given given
taken_none p n given none free = record {
  kept = λ at h. refl;
  fit = let e = none n (omega arith) in rw (e, free) refl;
  none = λ at h. none at (omega arith);
}

taken_one : (p : Place) (n : ℕ) (given : List Given) (text : List ℕ) → ((at : ℕ) → n ≤ at → text_at at given ≡ None) → is_value p.kind p.words text ≡ true → Taken p n given (given ++ (n, text) ∷ [])
taken_one p n given text none fit = record {
  kept = λ at h. text_at-other at n text given (ne_eqb n at (λ e. absurd (omega arith)));
  fit = let e = text_at-new n text given (none n (omega arith)) in rw (e) fit;
  none = λ at h. text_at-other at n text given (ne_eqb n at (λ e. absurd (omega arith))) ∙ none at (omega arith);
}

or_false : (a b : Bool) → (a || b) ≡ false → a ≡ false
or_false true b h = h
or_false false b h = refl

taken_valued : (p : Place) (n : ℕ) (given : List Given) (w : Word) (ws : List Word) (g : List Given × List Word) (r : Result (List ℕ) Refusal) → ((at : ℕ) → n ≤ at → text_at at given ≡ None) → valued p.kind p.words w.column (unquoted w.text) ≡ r → (r >>= λ text. Ok (given ++ (n, text) ∷ [], ws)) ≡ Ok g → Taken p n given g.0
taken_valued p n given w ws g (Ok text) none e h =
    let both : (given ++ (n, text) ∷ [], ws) ≡ g = cc in
    let same : given ++ (n, text) ∷ [] ≡ g.0 = ap (λ (x : List Given × List Word). x.0) both in
    subst (λ after. Taken p n given after) same (taken_one p n given text none (valued_fits p.kind p.words w.column (unquoted w.text) text e))
taken_valued p n given w ws g (Err x) none e h = absurd (cc)

taken_same : (p : Place) (n : ℕ) (given : List Given) (ws : List Word) (g : List Given × List Word) → ((at : ℕ) → n ≤ at → text_at at given ≡ None) → p.required ≡ false → (given, ws) ≡ g → Taken p n given g.0
taken_same p n given ws g none free both =
    subst (λ after. Taken p n given after) (ap (λ (x : List Given × List Word). x.0) both) (taken_none p n given none free)

taken : (p : Place) (end n : ℕ) (given : List Given) (ws : List Word) (g : List Given × List Word) → ((at : ℕ) → n ≤ at → text_at at given ≡ None) → place_taken p end n given ws ≡ Ok g → Taken p n given g.0
taken p end n given [] g none h =
    elim p.required as (λ b. p.required ≡ b → (if b then Err (Syntax end) else Ok (given, [])) ≡ Ok g → Taken p n given g.0) [
      | true ↦ λ e k. absurd (cc)
      | false ↦ λ e k. taken_same p n given [] g none e (cc)
    ] refl h
taken p end n given (w ∷ ws) g none h =
    elim (is_for_place p w.text) as (λ b. is_for_place p w.text ≡ b → (if b then (valued p.kind p.words w.column (unquoted w.text) >>= λ text. Ok (given ++ (n, text) ∷ [], ws)) else Ok (given, w ∷ ws)) ≡ Ok g → Taken p n given g.0) [
      | true ↦ λ e k. taken_valued p n given w ws g (valued p.kind p.words w.column (unquoted w.text)) none refl k
      | false ↦ λ e k. taken_same p n given (w ∷ ws) g none (or_false p.required _ e) (cc)
    ] refl h

record AllTaken (ps : List Place) (n : ℕ) (given after : List Given) : Type 0 where
  kept : (at : ℕ) → at < n → text_at at after ≡ text_at at given
  fit : (k : ℕ) → IfSome (slice_get ps k) (λ p. IsTrue (is_fit p.kind p.words p.required (text_at (n + k) after)))

more_taken : (p : Place) (ps : List Place) (n : ℕ) (given mid after : List Given) → Taken p n given mid → AllTaken ps (n + 1) mid after → AllTaken (p ∷ ps) n given after
more_taken p ps n given mid after one rest = record {
  kept = λ at h. rest.kept at (omega arith) ∙ one.kept at h;
  fit = fit;
} where
  fit : (k : ℕ) → IfSome (slice_get (p ∷ ps) k) (λ p. IsTrue (is_fit p.kind p.words p.required (text_at (n + k) after)))
  fit zero = let e : n + 0 ≡ n = omega arith in let k : text_at n after ≡ text_at n mid = rest.kept n (omega arith) in rw (e, k) one.fit
  fit (suc k) = let e : n + suc k ≡ (n + 1) + k = omega arith in rw (e) (rest.fit k)

all_taken : (ps : List Place) (end n : ℕ) (given : List Given) (ws : List Word) (r : List Given × List Word) → ((at : ℕ) → n ≤ at → text_at at given ≡ None) → places_from end n ps given ws ≡ Ok r → AllTaken ps n given r.0
all_taken [] end n given ws r none h =
    let both : (given, ws) ≡ r = cc in
    record { kept = λ at k. ap (λ (x : List Given × List Word). text_at at x.0) (sym both); fit = λ k. tt }
all_taken (p ∷ ps) end n given ws r none h =
    elim (place_taken p end n given ws) as (λ g. place_taken p end n given ws ≡ g → (g >>= λ x. places_from end (n + 1) ps x.0 x.1) ≡ Ok r → AllTaken (p ∷ ps) n given r.0) [
      | Ok g ↦ λ e k.
          let one = taken p end n given ws g none e in
          more_taken p ps n given g.0 r.0 one (all_taken ps end (n + 1) g.0 g.1 r (λ at l. one.none at (omega arith)) k)
      | Err x ↦ λ e k. absurd (cc)
    ] refl h

-- once the places were read, what was given for them fits them
pub places_fit : (ps : List Place) (end : ℕ) (ws : List Word) (r : List Given × List Word) → places_from end 0 ps [] ws ≡ Ok r → PlacesFit ps r.0
places_fit ps end ws r h at =
    subst (λ n. IfSome (slice_get ps at) (λ p. IsTrue (is_fit p.kind p.words p.required (text_at n r.0)))) (zero-add at) ((all_taken ps end 0 [] ws r (λ at l. refl) h).fit at)

-- a text for which no word is chosen stands for none
pub stands_for_none : (words : List (List ℕ)) (o : Option (List ℕ)) (t u : List ℕ) (e : Refusal) → o ≡ Some t → o ≡ Some u → Err e ≡ choose 0 t words → is_one_of words u ≡ true → false ≡ true
stands_for_none words o t u e some also none h =
    let same : u ≡ t = cc in
    let it : is_one_of words t ≡ true = subst (λ x. is_one_of words x ≡ true) same h in
    let found : is_some (word_of words (Some t)) ≡ true = (and_parts (not (length t == 0)) (is_some (word_of words (Some t))) it).1 in
    let lacking : choose 0 t words ≡ Err e = sym none in
    rw (lacking) at found
