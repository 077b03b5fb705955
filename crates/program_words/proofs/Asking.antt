-- What the words ask, by what the parser makes of them.
use Rattle.std.proofs.Common.{◌≡◌, ◌⊎◌, ℕ, Bool, true, false, not, ◌&&◌, ◌==◌, List, [], ◌∷◌, codes, refl, sym, ◌∙◌, ap, ap₂, Option, Some, None, inl, inr, ⊎_elim, eqb-true}
use Rattle.std.specs.Prelude.{if◌then◌else◌, option_map}
use Rattle.std.specs.List.{list_all}
use Rattle.std.specs.Str.{bytes_eq}
use Rattle.std.proofs.lemmas.Slice.Eq.{bytes_eq-Decides}
use Rattle.kinds.specs.Names.{is_within}
use Rattle.command_words.specs.Fields.{at_most, number_of}
use Rattle.command_words.specs.Values.{decimal, decimal_after}
use Rattle.clap.specs.Walk.{Row, Text, all_of as values_of, first_of}
use Rattle.clap.specs.Simple.{subcommand_of}
use Rattle.program_words.specs.declared.numbers.Wanted.{Wanted}
use Rattle.program_words.specs.Words.{AskNothing, all_of, as_wanted, day_of, file_of, files_of, in_front, numbers_of, wanted}
use Rattle.program_words.specs.Program.{IsGiven, IsShaped, IsTaken, given, is_plain, program}
use Rattle.program_words.proofs.Taking.{both, sub_format, sub_fresh, sub_restore, sub_run}
use Rattle.program_words.proofs.Walking.{rows}

-- ---- words that aren't handed to the parser ask nothing

is_on : (b : Bool) → not b ≡ false → b ≡ true
is_on true e = refl
is_on false e = absurd (cc)

either_none : (b : Bool) (o : Option ℕ) → o ≡ None → (if b then o else None) ≡ None
either_none true o e = e
either_none false o e = refl

hyphen : (xs : Text) → decimal 10 (45 ∷ xs) ≡ None
hyphen xs = either_none (is_within 10 (45 ∷ xs)) (decimal_after 0 (45 ∷ xs)) refl

no_number : (most : ℕ) (word : Text) → is_plain word ≡ false → number_of most (Some word) ≡ None
no_number most [] flag = refl
no_number most (x ∷ xs) flag =
    let at : x ≡ 45 = eqb-true x 45 (is_on (x == 45) flag) in
    ap (at_most most) (ap (λ (y : ℕ). decimal 10 (y ∷ xs)) at ∙ hyphen xs)

in_front_none : (o : Option ℕ) → in_front o None ≡ None
in_front_none None = refl
in_front_none (Some n) = refl

one_more : (b : Bool) (word : Text) (rest : Bool) (files : Option (List ℕ)) → is_plain word ≡ b → (rest ≡ false → files ≡ None) → (b && rest) ≡ false → in_front (file_of word) files ≡ None
one_more true word rest files plain after flag = ap (in_front (file_of word)) (after flag) ∙ in_front_none (file_of word)
one_more false word rest files plain after flag = ap (λ (o : Option ℕ). in_front o files) (no_number 4294967295 word plain)

no_files : (words : List Text) → list_all is_plain words ≡ false → files_of words ≡ None
no_files [] flag = absurd (cc)
no_files (word ∷ rest) flag = one_more (is_plain word) word (list_all is_plain rest) (files_of rest) refl (no_files rest) flag

no_day : (file : Option ℕ) (files : Option (List ℕ)) → all_of file None files ≡ None
no_day None files = refl
no_day (Some n) files = refl

none_last : (file day : Option ℕ) → all_of file day None ≡ None
none_last None day = refl
none_last (Some n) None = refl
none_last (Some n) (Some m) = refl

no_numbers_at : (a b : Bool) (file day : Text) (files : List Text) → is_plain file ≡ a → is_plain day ≡ b → (a && (b && list_all is_plain files)) ≡ false → all_of (file_of file) (day_of day) (files_of files) ≡ None
no_numbers_at false b file day files first second flag = ap (λ (o : Option ℕ). all_of o (day_of day) (files_of files)) (no_number 4294967295 file first)
no_numbers_at true false file day files first second flag = ap (λ (o : Option ℕ). all_of (file_of file) o (files_of files)) (no_number 2147483647 day second) ∙ no_day (file_of file) (files_of files)
no_numbers_at true true file day files first second flag = ap (λ (o : Option (List ℕ)). all_of (file_of file) (day_of day) o) (no_files files flag) ∙ none_last (file_of file) (day_of day)

no_numbers : (words : List Text) → list_all is_plain words ≡ false → numbers_of words ≡ None
no_numbers [] flag = refl
no_numbers (file ∷ []) flag = refl
no_numbers (file ∷ day ∷ files) flag = no_numbers_at (is_plain file) (is_plain day) file day files refl refl flag

if_none : (b : Bool) (o : Option (ℕ × ℕ × List ℕ)) → (b ≡ true → o ≡ None) → (if b then o else None) ≡ None
if_none true o none = none refl
if_none false o none = refl

behind_name : (name : Text) (rest : List Text) → list_all is_plain (name ∷ rest) ≡ false → bytes_eq name (codes "restoredb") ≡ true → list_all is_plain rest ≡ false
behind_name name rest flag same =
    let is : name ≡ codes "restoredb" = (bytes_eq-Decides name (codes "restoredb")).0 same in
    sym (ap (λ (n : Text). is_plain n && list_all is_plain rest) is) ∙ flag

not_wanted : (words : List Text) → list_all is_plain words ≡ false → wanted words ≡ None
not_wanted [] flag = refl
not_wanted (name ∷ rest) flag = if_none (bytes_eq name (codes "restoredb")) (numbers_of rest) (λ same. no_numbers rest (behind_name name rest flag same))

other_words : (words one : List Text) → list_all is_plain words ≡ false → list_all is_plain one ≡ true → words ≡ one → ⊥
other_words words one flag plain same = let e : false ≡ true = sym flag ∙ ap (list_all is_plain) same ∙ plain in absurd (cc)

pub ask_nothing : (words : List Text) → false ≡ list_all is_plain words → AskNothing words
ask_nothing words flag = record {
  no_format = other_words words (codes "format" ∷ []) (sym flag) refl;
  no_run = other_words words (codes "run" ∷ []) (sym flag) refl;
  no_fresh = other_words words (codes "fresh" ∷ []) (sym flag) refl;
  no_restore = not_wanted words (sym flag);
}

-- ---- words that have no command's shape ask nothing

pub none_shaped : (words : List Text) → (IsShaped words → ⊥) → AskNothing words
none_shaped words none = record {
  no_format = λ is. none (inl is);
  no_run = λ is. none (inr (inl is));
  no_fresh = λ is. none (inr (inr (inl is)));
  no_restore = short words none;
} where
  short : (l : List Text) → (IsShaped l → ⊥) → wanted l ≡ None
  short [] shape = refl
  short (name ∷ []) shape = if_none (bytes_eq name (codes "restoredb")) None (λ same. refl)
  short (name ∷ file ∷ []) shape = if_none (bytes_eq name (codes "restoredb")) None (λ same. refl)
  short (name ∷ file ∷ day ∷ files) shape = if_none (bytes_eq name (codes "restoredb")) (numbers_of (file ∷ day ∷ files))
      (λ same. absurd (shape (inr (inr (inr (file, day, files, ap (λ (n : Text). n ∷ file ∷ day ∷ files) ((bytes_eq-Decides name (codes "restoredb")).0 same)))))))

-- ---- what the parser hands on

abbrev IsKnown : List Text → Type 0
IsKnown words = ((words ≡ codes "format" ∷ []) × (subcommand_of program words ≡ Some (codes "format", [])))
    ⊎ ((words ≡ codes "run" ∷ []) × (subcommand_of program words ≡ Some (codes "run", [])))
    ⊎ ((words ≡ codes "fresh" ∷ []) × (subcommand_of program words ≡ Some (codes "fresh", [])))
    ⊎ ((file : Text) × (day : Text) × (files : List Text) × (words ≡ codes "restoredb" ∷ file ∷ day ∷ files) × (subcommand_of program words ≡ Some (codes "restoredb", rows file day files)))

known : (words : List Text) → list_all is_plain words ≡ true → IsShaped words → IsKnown words
known words plain shape = ⊎_elim (λ is. inl (is, ap (subcommand_of program) is ∙ sub_format)) (⊎_elim (λ is. inr (inl (is, ap (subcommand_of program) is ∙ sub_run))) (⊎_elim (λ is. inr (inr (inl (is, ap (subcommand_of program) is ∙ sub_fresh))))
    (λ whole. let is = whole.3 in
    let first = both true (list_all is_plain (whole.0 ∷ whole.1 ∷ whole.2)) (sym (ap (list_all is_plain) is) ∙ plain) in
    let second = both (is_plain whole.0) (list_all is_plain (whole.1 ∷ whole.2)) first.1 in
    let third = both (is_plain whole.1) (list_all is_plain whole.2) second.1 in
    inr (inr (inr (whole.0, whole.1, whole.2, is, ap (subcommand_of program) is ∙ sub_restore whole.0 whole.1 whole.2 second.0 third.0 third.1)))))) shape

name_in : Option (Text × List Row) → Text
name_in None = []
name_in (Some p) = p.0

rows_in : Option (Text × List Row) → List Row
rows_in None = []
rows_in (Some p) = p.1

same_name : (met : Option (Text × List Row)) (name real : Text) (r s : List Row) → met ≡ Some (name, r) → met ≡ Some (real, s) → real ≡ name
unfolding name_in
same_name met name real r s found is = ap name_in (sym is ∙ found)

same_rows : (met : Option (Text × List Row)) (name real : Text) (r s : List Row) → met ≡ Some (name, r) → met ≡ Some (real, s) → r ≡ s
unfolding rows_in
same_rows met name real r s found is = ap rows_in (sym found ∙ is)

-- the name that was met is the one that is tested, so it isn't another
clash : (name real test : Text) → real ≡ name → bytes_eq real test ≡ false → true ≡ bytes_eq name test → ⊥
clash name real test is differ same = let e : true ≡ false = same ∙ sym (ap (λ (n : Text). bytes_eq n test) is) ∙ differ in absurd (cc)

-- the name that was met isn't the one that is tested, so it isn't the name
miss : (name real test : Text) → real ≡ name → bytes_eq real test ≡ true → false ≡ bytes_eq name test → ⊥
miss name real test is same differ = let e : false ≡ true = differ ∙ sym (ap (λ (n : Text). bytes_eq n test) is) ∙ same in absurd (cc)

pub format_read : (words : List Text) (name : Text) (r : List Row) → true ≡ bytes_eq name (codes "format") → IsGiven words name r → words ≡ codes "format" ∷ []
format_read words name r same it =
    ⊎_elim (λ k. k.0) (⊎_elim (λ k. absurd (clash name (codes "run") (codes "format") (same_name _ name (codes "run") r [] it.found k.1) refl same))
    (⊎_elim (λ k. absurd (clash name (codes "fresh") (codes "format") (same_name _ name (codes "fresh") r [] it.found k.1) refl same))
    (λ k. absurd (clash name (codes "restoredb") (codes "format") (same_name _ name (codes "restoredb") r (rows k.0 k.1 k.2) it.found k.4) refl same)))) (known words it.plain it.shaped)

pub run_read : (words : List Text) (name : Text) (r : List Row) → true ≡ bytes_eq name (codes "run") → IsGiven words name r → words ≡ codes "run" ∷ []
run_read words name r same it =
    ⊎_elim (λ k. absurd (clash name (codes "format") (codes "run") (same_name _ name (codes "format") r [] it.found k.1) refl same)) (⊎_elim (λ k. k.0)
    (⊎_elim (λ k. absurd (clash name (codes "fresh") (codes "run") (same_name _ name (codes "fresh") r [] it.found k.1) refl same))
    (λ k. absurd (clash name (codes "restoredb") (codes "run") (same_name _ name (codes "restoredb") r (rows k.0 k.1 k.2) it.found k.4) refl same)))) (known words it.plain it.shaped)

pub fresh_read : (words : List Text) (name : Text) (r : List Row) → true ≡ bytes_eq name (codes "fresh") → IsGiven words name r → words ≡ codes "fresh" ∷ []
fresh_read words name r same it =
    ⊎_elim (λ k. absurd (clash name (codes "format") (codes "fresh") (same_name _ name (codes "format") r [] it.found k.1) refl same))
    (⊎_elim (λ k. absurd (clash name (codes "run") (codes "fresh") (same_name _ name (codes "run") r [] it.found k.1) refl same)) (⊎_elim (λ k. k.0)
    (λ k. absurd (clash name (codes "restoredb") (codes "fresh") (same_name _ name (codes "restoredb") r (rows k.0 k.1 k.2) it.found k.4) refl same)))) (known words it.plain it.shaped)

pub no_name : (words : List Text) (name : Text) (r : List Row) → false ≡ bytes_eq name (codes "format") → false ≡ bytes_eq name (codes "run") → false ≡ bytes_eq name (codes "fresh") → false ≡ bytes_eq name (codes "restoredb") → IsGiven words name r → ⊥
no_name words name r format run fresh restore it =
    ⊎_elim (λ k. miss name (codes "format") (codes "format") (same_name _ name (codes "format") r [] it.found k.1) refl format)
    (⊎_elim (λ k. miss name (codes "run") (codes "run") (same_name _ name (codes "run") r [] it.found k.1) refl run)
    (⊎_elim (λ k. miss name (codes "fresh") (codes "fresh") (same_name _ name (codes "fresh") r [] it.found k.1) refl fresh)
    (λ k. miss name (codes "restoredb") (codes "restoredb") (same_name _ name (codes "restoredb") r (rows k.0 k.1 k.2) it.found k.4) refl restore))) (known words it.plain it.shaped)

-- the name that was tested stands for itself
pub as_restore : (words : List Text) (name : Text) (r : List Row) → true ≡ bytes_eq name (codes "restoredb") → IsGiven words name r → IsGiven words (codes "restoredb") r
as_restore words name r same it =
    record { plain = it.plain; shaped = it.shaped; found = it.found ∙ ap (λ (n : Text). Some (n, r)) ((bytes_eq-Decides name (codes "restoredb")).0 (sym same)) }

all_given : (file day : Text) (files : List Text) → given (first_of (codes "FILE") (rows file day files)) (first_of (codes "DAY") (rows file day files)) (values_of (codes "FILES") (rows file day files)) ≡ all_of (file_of file) (day_of day) (files_of files)
all_given file day [] = refl
all_given file day (v ∷ vs) = refl

abbrev given_in : List Row → Option (ℕ × ℕ × List ℕ)
given_in r = given (first_of (codes "FILE") r) (first_of (codes "DAY") r) (values_of (codes "FILES") r)

is_one : List Text → Bool
is_one [] = false
is_one (word ∷ []) = true
is_one (word ∷ next ∷ rest) = false

not_one : (words : List Text) (name file day : Text) (files : List Text) (word : Text) → words ≡ name ∷ file ∷ day ∷ files → words ≡ word ∷ [] → ⊥
unfolding is_one
not_one words name file day files word is one = let e : false ≡ true = ap is_one (sym is ∙ one) in absurd (cc)

-- what is given of a database that is to be restored is what the words want, and they ask nothing else
pub restore_read : (words : List Text) (r : List Row) → IsGiven words (codes "restoredb") r → (wanted words ≡ given_in r) × ((word : Text) → words ≡ word ∷ [] → ⊥)
restore_read words r it =
    ⊎_elim (λ k. absurd (clash (codes "restoredb") (codes "format") (codes "restoredb") (same_name _ (codes "restoredb") (codes "format") r [] it.found k.1) refl refl))
    (⊎_elim (λ k. absurd (clash (codes "restoredb") (codes "run") (codes "restoredb") (same_name _ (codes "restoredb") (codes "run") r [] it.found k.1) refl refl))
    (⊎_elim (λ k. absurd (clash (codes "restoredb") (codes "fresh") (codes "restoredb") (same_name _ (codes "restoredb") (codes "fresh") r [] it.found k.1) refl refl))
    (λ k. (
      ap wanted k.3 ∙ sym (all_given k.0 k.1 k.2) ∙ sym (ap given_in (same_rows _ (codes "restoredb") (codes "restoredb") r (rows k.0 k.1 k.2) it.found k.4)),
      λ word one. not_one words (codes "restoredb") k.0 k.1 k.2 word k.3 one,
    )))) (known words it.plain it.shaped)

given_as : (a b x y : Option Text) (c z : Option (List Text)) → a ≡ x → b ≡ y → c ≡ z → given a b c ≡ given x y z
given_as a b x y c z first second others = ap₂ (λ (f : Option Text) (d : Option Text). given f d c) first second ∙ ap (given x y) others

module _ (a b : Option Text) (l : Option (List Text)) (r : List Row) (words : List Text) where
  pub wanted_read : (w : Wanted) → a ≡ first_of (codes "FILE") r → b ≡ first_of (codes "DAY") r → l ≡ values_of (codes "FILES") r → as_wanted (Some w) ≡ given a b l → IsGiven words (codes "restoredb") r
      → wanted words ≡ Some (w.file, w.day, w.skipped.items)
  wanted_read w first second others read it = (restore_read words r it).0 ∙ sym (read ∙ given_as a b _ _ l _ first second others)

  pub nothing_read : a ≡ first_of (codes "FILE") r → b ≡ first_of (codes "DAY") r → l ≡ values_of (codes "FILES") r → as_wanted None ≡ given a b l → IsGiven words (codes "restoredb") r → AskNothing words
  nothing_read first second others read it = record {
    no_format = (restore_read words r it).1 (codes "format");
    no_run = (restore_read words r it).1 (codes "run");
    no_fresh = (restore_read words r it).1 (codes "fresh");
    no_restore = (restore_read words r it).0 ∙ sym (read ∙ given_as a b _ _ l _ first second others);
  }

-- ---- the command that was met

pub fuse : {A B C : Type 0} (f : B → C) (g : A → B) (o : Option A) → option_map f (option_map g o) ≡ option_map (λ x. f (g x)) o
fuse f g None = refl
fuse f g (Some x) = refl

text_or : Option Text → Text
text_or None = []
text_or (Some t) = t

rows_or : Option (List Row) → List Row
rows_or None = []
rows_or (Some r) = r

pub paired : (met : Option (Text × List Row)) (name : Text) (r : List Row) → Some name ≡ option_map (λ p. p.0) met → Some r ≡ option_map (λ p. p.1) met → met ≡ Some (name, r)
unfolding text_or rows_or
paired None name r first second = absurd (cc)
paired (Some p) name r first second = ap₂ (λ (n : Text) (l : List Row). Some (n, l)) (sym (ap text_or first)) (sym (ap rows_or second))

pub given_by : (words : List Text) (met : Option (Text × List Row)) (name : Text) (r : List Row) → met ≡ Some (name, r) → IsTaken words met → IsGiven words name r
given_by words met name r is it = record { plain = it.plain; shaped = it.shaped; found = sym it.found ∙ is }

is_met : Option (Text × List Row) → Bool
is_met None = false
is_met (Some p) = true

none_met : (met : Option (Text × List Row)) → None ≡ option_map (λ p. p.1) met → met ≡ None
none_met None e = refl
none_met (Some p) e = absurd (cc)

pub never_none : (words : List Text) (met : Option (Text × List Row)) → None ≡ option_map (λ p. p.1) met → IsTaken words met → ⊥
unfolding is_met
never_none words met none it =
    let gone : subcommand_of program words ≡ None = sym it.found ∙ none_met met none in
    let off : is_met (subcommand_of program words) ≡ false = ap is_met gone in
    ⊎_elim (λ k. let e : true ≡ false = sym (ap is_met k.1) ∙ off in absurd (cc)) (⊎_elim (λ k. let e : true ≡ false = sym (ap is_met k.1) ∙ off in absurd (cc)) (⊎_elim (λ k. let e : true ≡ false = sym (ap is_met k.1) ∙ off in absurd (cc))
    (λ k. let e : true ≡ false = sym (ap is_met k.4) ∙ off in absurd (cc)))) (known words it.plain it.shaped)
