-- Lemmas on ranges of a buffer, for the reader of lines.
use Rattle.std.proofs.lemmas.Bool.{cases_lt}
use Rattle.std.proofs.Common.{◌≡◌, ◌≢◌, inl, inr, ℕ, suc, ◌+◌, ◌-◌, ◌<◌, ◌≤◌, List, [], ◌∷◌, ◌++◌, length, take, drop, get_or, Option, Ok, refl, sym, ap, ◌∙◌, subst, arith, length-take, length-drop}
use Rattle.std.specs.List.{slice_range}
use Rattle.std.specs.Str.Lines.{strip_carriage_return}
use Rattle.std.specs.Io.KnownBytes.{Consumes, IsAtEnd}
use Rattle.std.proofs.Math.Seq.{take-append_seam, take-add, drop-cons}
use Rattle.std.proofs.lemmas.List.{drop-drop, drop-take, take-take, get_or-take, get_or-drop, get_or_default}
use Rattle.script_loop.specs.Reading.{IsPlain, Finds, Fills}
use Rattle.script_loop.specs.declared.reader.Found.TheVariants.{Ended, Long, Open}

-- the length of a range that lies in the list
pub length-range : (xs : List ℕ) (a b : ℕ) → a ≤ b → b ≤ length xs → length (slice_range xs a b) ≡ b - a
length-range xs a b ordered within = simp (length-take, length-drop) (omega arith)

-- a range and the next one
pub range-join : (xs : List ℕ) (a b c : ℕ) → a ≤ b → b ≤ c → slice_range xs a c ≡ slice_range xs a b ++ slice_range xs b c
range-join xs a b c first second =
    let sizes : c - a ≡ (b - a) + (c - b) = omega arith in
    let place : a + (b - a) ≡ b = omega arith in
    ap (λ n. take n (drop a xs)) sizes ∙ take-add (b - a) (c - b) (drop a xs)
    ∙ ap (λ l. take (b - a) (drop a xs) ++ take (c - b) l) (drop-drop (b - a) a xs ∙ ap (λ n. drop n xs) place)

-- a range begins with its first element
pub range-cons : (xs : List ℕ) (a c : ℕ) → a < c → a < length xs → slice_range xs a c ≡ get_or xs a 0 ∷ slice_range xs (a + 1) c
range-cons xs a c some within =
    let size : c - a ≡ suc (c - (a + 1)) = omega arith in
    let next : suc a ≡ a + 1 = omega arith in
    ap (λ l. take (c - a) l) (drop-cons xs a 0 within) ∙ ap (λ n. take n (get_or xs a 0 ∷ drop (suc a) xs)) size
    ∙ ap (λ n. get_or xs a 0 ∷ take (c - (a + 1)) (drop n xs)) next

-- an element of a range
range-get : (xs : List ℕ) (a b k : ℕ) (d : ℕ) → k < b - a → a + k < length xs → get_or (slice_range xs a b) k d ≡ get_or xs (a + k) 0
range-get xs a b k d inside within =
    get_or-take (b - a) (drop a xs) k d inside ∙ get_or-drop a xs k d ∙ get_or_default xs (a + k) d 0 within

-- a range of places without LF
pub range-plain : (xs : List ℕ) (a b : ℕ) → a ≤ b → b ≤ length xs → ((k : ℕ) → a ≤ k → k < b → get_or xs k 0 ≢ 10) → IsPlain (slice_range xs a b)
range-plain xs a b ordered within none k d inside is =
    let size = length-range xs a b ordered within in
    let here : k < b - a = omega arith in
    none (a + k) (omega arith) (omega arith) (sym (range-get xs a b k d here (omega arith)) ∙ is)

-- the front of a range
pub range-take : (xs : List ℕ) (a b n : ℕ) → n ≤ b - a → take n (slice_range xs a b) ≡ slice_range xs a (a + n)
range-take xs a b n within =
    let size : n ≡ (a + n) - a = omega arith in
    take-take n (b - a) (drop a xs) within ∙ ap (λ m. take m (drop a xs)) size

-- a line with its LF was found
pub found_line : (xs held : List ℕ) (from at to len : ℕ) → held ≡ slice_range xs from to → from ≤ at → at < to → to ≤ length xs → at - from < 4096
    → ((k : ℕ) → from ≤ k → k < at → get_or xs k 0 ≢ 10) → get_or xs at 0 ≡ 10 → len ≤ at - from → take len (slice_range xs from at) ≡ strip_carriage_return (slice_range xs from at)
    → Finds Ended held (slice_range xs (at + 1) to) (slice_range xs from (from + len))
found_line xs held from at to len whole low high within few none lf short stripped =
    let size = length-range xs from at low (omega arith) in
    let inside : at < length xs = omega arith in (
      slice_range xs from at,
      range-plain xs from at low (omega arith) none,
      omega arith,
      whole ∙ range-join xs from at to low (omega arith) ∙ ap (λ l. slice_range xs from at ++ l) (range-cons xs at to high inside ∙ ap (λ b. b ∷ slice_range xs (at + 1) to) lf),
      sym (range-take xs from at len short) ∙ stripped,
    )

-- the front of a line that is too long was found
pub found_long : (xs held : List ℕ) (from at to : ℕ) → held ≡ slice_range xs from to → from ≤ at → at ≤ to → to ≤ length xs → 4096 ≤ at - from
    → ((k : ℕ) → from ≤ k → k < at → get_or xs k 0 ≢ 10) → Finds Long held held []
found_long xs held from at to whole low high within many none =
    let size = length-range xs from to (omega arith) within in
    let front = range-take xs from to 4096 (omega arith) in
    (refl, omega (arith, ap length whole), subst IsPlain (sym (ap (take 4096) whole ∙ front)) (range-plain xs from (from + 4096) (omega arith) (omega arith) (λ k a b. none k a (omega arith))))

-- less than a line that is too long was found, with no LF
pub found_open : (xs held : List ℕ) (from to : ℕ) → held ≡ slice_range xs from to → from ≤ to → to ≤ length xs → to - from < 4096
    → ((k : ℕ) → from ≤ k → k < to → get_or xs k 0 ≢ 10) → Finds Open held (slice_range xs from to) []
found_open xs held from to whole low within few none =
    let size = length-range xs from to low within in
    (sym whole, omega (arith, ap length whole), subst IsPlain (sym whole) (range-plain xs from to low within none))

-- a range that ends below a place is the same where the bytes before that place are
pub range-kept : (old new : List ℕ) (a b : ℕ) → a ≤ b → take b new ≡ take b old → slice_range new a b ≡ slice_range old a b
range-kept old new a b ordered same =
    let place : a + (b - a) ≡ b = omega arith in
    sym (drop-take a (b - a) new) ∙ ap (λ n. drop a (take n new)) place ∙ ap (drop a) same ∙ ap (λ n. drop a (take n old)) (sym place) ∙ drop-take a (b - a) old

-- a piece came behind what is held
pub filled : (old new whole held : List ℕ) (from to count : ℕ) (before after : Option (List ℕ)) → whole ≡ new → held ≡ slice_range old from to → from ≤ to → take to new ≡ take to old
    → to + count ≤ length new → Consumes before after (slice_range new to (to + count)) → (count ≡ 0 → IsAtEnd after) → Fills (Ok count) held (slice_range whole from (to + count)) before after
filled old new whole held from to count before after is was ordered same within bytes end =
    let size = length-range new to (to + count) (omega arith) within in (
      slice_range new to (to + count),
      size ∙ omega arith,
      ap (λ l. slice_range l from (to + count)) is ∙ range-join new from to (to + count) ordered (omega arith) ∙ ap (λ l. l ++ slice_range new to (to + count)) (range-kept old new from to ordered same ∙ sym was),
      bytes,
      end,
    )

-- a slice of a vector's elements that was written to
pub written_back : {A : Type 0} (n : ℕ) (new old : List A) → length new ≡ n → take n (new ++ drop (length new) old) ≡ new
written_back n new old size = ap (λ m. take m (new ++ drop (length new) old)) (sym size) ∙ take-append_seam new (drop (length new) old)

-- no LF up to a place, and none from there on
pub plain_on : (xs ys : List ℕ) (from scanned at : ℕ) → ys ≡ xs → ((k : ℕ) → from ≤ k → k < scanned → get_or xs k 0 ≢ 10) → ((k : ℕ) → scanned ≤ k → k < at → get_or ys k 0 ≢ 10)
    → (k : ℕ) → from ≤ k → k < at → get_or xs k 0 ≢ 10
plain_on xs ys from scanned at same before after k low high = elim (cases_lt k scanned) [ inl below ↦ before k low below | inr above ↦ λ is. after k above high (ap (λ l. get_or l k 0) same ∙ is) ]
