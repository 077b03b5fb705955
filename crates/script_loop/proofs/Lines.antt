-- Lemmas on lines of a text and on its limit, for the reader of lines.
use Rattle.std.proofs.Common.{◌≡◌, ℕ, ◌+◌, ◌^◌, ◌<◌, ◌≤◌, ◌==◌, ◌||◌, Bool, true, false, cond, if◌then◌else◌, List, [], ◌∷◌, ◌++◌, length, take, drop, get_or, Option, None, Some, Ok, All, refl, sym, ap, ◌∙◌, subst, arith, append_assoc, append-nil, take-append-drop, length-append, length-take}
use Rattle.std.proofs.lemmas.List.{nil_from_length}
use Rattle.std.specs.List.{slice_split, onto_first, AllByRecursion}
use Rattle.std.specs.Str.Lines.{lines_of_parts, strip_carriage_return}
use Rattle.std.specs.Io.KnownBytes.{Consumes, Keeps, IsAtEnd, prepend_known}
use Rattle.std.proofs.lemmas.Bool.{ne_eqb, lt-leb, le-leb}
use Rattle.std.proofs.lemmas.List.Splits.{slice_split_none, slice_split_at, slice_split-cons_no}
use Rattle.std.proofs.lemmas.List.Elements.{recursion_from_All}
use Rattle.script_loop.specs.Limit.{is_excess, excess_of_parts, excess_from}
use Rattle.script_loop.specs.Reading.{IsPlain, Finds, Fills, GivesRest, StartsWithLine, TakesLine, IsTooLong, Gives}
use Rattle.script_loop.specs.declared.reader.Found.TheVariants.{Ended, Long, Open}
use Rattle.script_loop.specs.declared.reader.Next.{Next}
use Rattle.script_loop.specs.declared.reader.Next.TheVariants.{Line, End, TooLong}

abbrev is_lf : ℕ → Bool
is_lf = λ b. b == 10

-- no byte passes the test of LF
no_lf : (bytes : List ℕ) → IsPlain bytes → All (λ b. is_lf b ≡ false) bytes
no_lf bytes plain k d inside = ne_eqb (get_or bytes k d) 10 (plain k d inside)

some_onto : (x : ℕ) (parts : List (List ℕ)) (b : Bool) → ((y : List ℕ) × (ys : List (List ℕ)) × (parts ≡ y ∷ ys)) → (y : List ℕ) × (ys : List (List ℕ)) × (cond b ([] ∷ parts) (onto_first x parts) ≡ y ∷ ys)
some_onto x parts true some = ([], parts, refl)
some_onto x parts false (y, ys, is) = (x ∷ y, ys, ap (onto_first x) is)

-- a text has a first part
some_part : (text : List ℕ) → (y : List ℕ) × (ys : List (List ℕ)) × (slice_split is_lf text ≡ y ∷ ys)
some_part [] = ([], [], refl)
some_part (x ∷ text) = some_onto x (slice_split is_lf text) (is_lf x) (some_part text)

-- bytes without LF go before the first part of what follows
plain_onto : (front text part : List ℕ) (parts : List (List ℕ)) → AllByRecursion (λ b. is_lf b ≡ false) front → slice_split is_lf text ≡ part ∷ parts → slice_split is_lf (front ++ text) ≡ (front ++ part) ∷ parts
plain_onto [] text part parts plain is = is
plain_onto (x ∷ front) text part parts plain is = slice_split-cons_no is_lf x (front ++ text) plain.0 ∙ ap (onto_first x) (plain_onto front text part parts plain.1 is)

-- a short line that isn't line 2^20 doesn't reach the limit
short_line : (n : ℕ) (part : List ℕ) (others : Option ℕ) → length part < 4096 → is_excess n part others ≡ (if n == 2 ^ 20 then Some n else others)
short_line n part others short = ap (λ b. cond (b || (n == 2 ^ 20)) (Some n) others) (lt-leb 4096 (length part) short)

long_line : (n : ℕ) (part : List ℕ) (others : Option ℕ) → 4096 ≤ length part → is_excess n part others ≡ Some n
long_line n part others long = ap (λ b. cond (b || (n == 2 ^ 20)) (Some n) others) (le-leb 4096 (length part) long)

long_parts : (n : ℕ) (part : List ℕ) (parts : List (List ℕ)) → 4096 ≤ length part → excess_of_parts n (part ∷ parts) ≡ Some n
long_parts n part [] long = ap (λ b. cond b None (is_excess n part None)) (ne_eqb (length part) 0 (omega arith)) ∙ long_line n part None long
long_parts n part (next ∷ parts) long = long_line n part (excess_of_parts (n + 1) (next ∷ parts)) long

-- a short line with its LF
pub ended_line : (part after : List ℕ) → IsPlain part → length part < 4096 → StartsWithLine (part ++ 10 ∷ after) (strip_carriage_return part) after
ended_line part after plain short =
    let split : slice_split is_lf (part ++ 10 ∷ after) ≡ part ∷ slice_split is_lf after = slice_split_at is_lf part 10 after (no_lf part plain) refl in
    let next = some_part after in
    let both : slice_split is_lf (part ++ 10 ∷ after) ≡ part ∷ next.0 ∷ next.1 = split ∙ ap (λ (l : List (List ℕ)). part ∷ l) next.2 in
    record {
      first = ap lines_of_parts both ∙ ap (λ (l : List (List ℕ)). strip_carriage_return part ∷ lines_of_parts l) (sym next.2);
      short = λ n. ap (excess_of_parts n) both ∙ short_line n part (excess_of_parts (n + 1) (next.0 ∷ next.1)) short
          ∙ ap (λ (l : List (List ℕ)). if n == 2 ^ 20 then Some n else excess_of_parts (n + 1) l) (sym next.2);
    }

long_front : (m : ℕ) (held more : List ℕ) → m ≤ length held → m ≤ length (take m held ++ more)
long_front m held more long = simp (length-append, length-take) (omega arith)

-- a text whose first bytes have no LF has a first part at least as long
long_split : (m : ℕ) (held more : List ℕ) → m ≤ length held → IsPlain (take m held) → (part : List ℕ) × (parts : List (List ℕ)) × (m ≤ length part) × (slice_split is_lf (held ++ more) ≡ part ∷ parts)
long_split m held more long plain =
    let front = take m held in
    let next = some_part (drop m held ++ more) in
    let split = plain_onto front (drop m held ++ more) next.0 next.1 (recursion_from_All (λ b. is_lf b ≡ false) front (no_lf front plain)) next.2 in
    let text : held ++ more ≡ front ++ (drop m held ++ more) = ap (λ l. l ++ more) (sym (take-append-drop m held)) ∙ append_assoc front (drop m held) more in
    (front ++ next.0, next.1, long_front m held next.0 long, ap (slice_split is_lf) text ∙ split)

-- the front of a line that is too long
pub long_text : (held more : List ℕ) → 4096 ≤ length held → IsPlain (take 4096 held) → (n : ℕ) → excess_from n (held ++ more) ≡ Some n
long_text held more long plain n =
    let split = long_split 4096 held more long plain in
    ap (excess_of_parts n) split.3 ∙ long_parts n split.0 split.1 split.2

-- the last line, with no LF
pub last_one : (held : List ℕ) → 0 < length held → IsPlain held → length held < 4096 → StartsWithLine held held []
last_one held some plain short =
    let split = slice_split_none is_lf held (no_lf held plain) in
    let nonempty : (length held == 0) ≡ false = ne_eqb (length held) 0 (omega arith) in
    record {
      first = ap lines_of_parts split ∙ ap (λ b. cond b [] (held ∷ [])) nonempty;
      short = λ n. ap (excess_of_parts n) split ∙ ap (λ b. cond b None (is_excess n held None)) nonempty ∙ short_line n held None short;
    }

-- ---- the same, with a source behind the bytes that are held

-- a line was found with its LF
pub takes_ended : (start left : Option (List ℕ)) (held after line : List ℕ) → Keeps start (prepend_known held left) → Finds Ended held after line → TakesLine start (prepend_known after left) line
takes_ended None left held after line same found = tt
takes_ended (Some text) None held after line same found = absurd same
takes_ended (Some text) (Some more) held after line same (part, plain, short, is, stripped) =
    let whole : part ++ 10 ∷ (after ++ more) ≡ text = sym (ap (λ l. l ++ more) is ∙ append_assoc part (10 ∷ after) more) ∙ same in
    let StartsHere : List ℕ → List ℕ → Type 0 = λ b l. StartsWithLine b l (after ++ more) in
    subst (λ b. StartsHere b line) whole (subst (StartsHere (part ++ 10 ∷ (after ++ more))) (sym stripped) (ended_line part (after ++ more) plain short))

-- the front of a line that is too long was found
pub exceeds_long : (start left : Option (List ℕ)) (held after line : List ℕ) → Keeps start (prepend_known held left) → Finds Long held after line → IsTooLong start
exceeds_long None left held after line same found = tt
exceeds_long (Some text) None held after line same found = absurd same
exceeds_long (Some text) (Some more) held after line same (kept, long, plain) = λ n. ap (excess_from n) (sym same) ∙ long_text held more long plain n

-- what is held at the end of the source is the last line
pub takes_rest : (start left : Option (List ℕ)) (held after line : List ℕ) → Keeps start (prepend_known held left) → IsAtEnd left → IsPlain held → length held < 4096 → GivesRest Line held after line
    → TakesLine start (prepend_known after left) line
takes_rest None left held after line same end plain short rest = tt
takes_rest (Some text) None held after line same end plain short rest = absurd same
takes_rest (Some text) (Some more) held after line same end plain short (some, is, none) =
    let whole : held ≡ text = sym (append-nil held) ∙ ap (λ l. held ++ l) (sym end) ∙ same in
    let nothing : [] ≡ after ++ more = sym (ap (λ l. l ++ more) none ∙ end) in
    subst (λ b. StartsWithLine b line (after ++ more)) whole (subst (λ l. StartsWithLine held l (after ++ more)) (sym is) (subst (StartsWithLine held held) nothing (last_one held some plain short)))

-- nothing is held at the end of the source
pub at_end : (start left : Option (List ℕ)) (held : List ℕ) → Keeps start (prepend_known held left) → IsAtEnd left → held ≡ [] → IsAtEnd start
at_end None left held same end none = tt
at_end (Some text) None held same end none = absurd same
at_end (Some text) (Some more) held same end none = sym same ∙ ap (λ l. l ++ more) none ∙ end

-- a piece came behind the bytes that are held
pub refilled : (start left further : Option (List ℕ)) (held full piece : List ℕ) → Keeps start (prepend_known held left) → full ≡ held ++ piece → Consumes left further piece → Keeps start (prepend_known full further)
refilled None left further held full piece same is bytes = tt
refilled (Some text) None further held full piece same is bytes = absurd same
refilled (Some text) (Some more) None held full piece same is bytes = absurd bytes
refilled (Some text) (Some more) (Some rest) held full piece same is bytes = ap (λ l. l ++ rest) is ∙ append_assoc held piece rest ∙ ap (λ l. held ++ l) (sym bytes) ∙ same

-- Less than a long line is held, with no LF, and nothing more came: what is held is the last line, or nothing.
pub gives_rest : (result : Next) (start left further : Option (List ℕ)) (old held full after seen line : List ℕ) (count : ℕ) → Keeps start (prepend_known old left) → Finds Open old held seen
    → Fills (Ok count) held full left further → count ≡ 0 → GivesRest result full after line → Gives (Ok result) start (prepend_known after further) line
gives_rest Line start left further old held full after seen line count same (kept, short, plain) (piece, size, is, bytes, end) none rest =
    let whole : full ≡ old = is ∙ ap (λ l. held ++ l) (nil_from_length piece (size ∙ none)) ∙ append-nil held ∙ kept in
    takes_rest start further full after line (refilled start left further held full piece (subst (λ l. Keeps start (prepend_known l left)) (sym kept) same) is bytes) (end none)
    (subst IsPlain (sym whole) plain) (omega (arith, ap length whole)) rest
gives_rest End start left further old held full after seen line count same (kept, short, plain) (piece, size, is, bytes, end) none rest =
    at_end start further full (refilled start left further held full piece (subst (λ l. Keeps start (prepend_known l left)) (sym kept) same) is bytes) (end none) rest
gives_rest TooLong start left further old held full after seen line count same found filled none rest = absurd rest
