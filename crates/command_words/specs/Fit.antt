-- What is sure of the values that were given for a row, once the row was read.
use Rattle.std.specs.Prelude.{ℕ, Bool, true, false, not, ◌==◌, ◌&&◌, List, length, slice_get, is_some, IfSome, IsTrue, if◌then◌else◌, Option, Some, None}
use Rattle.command_words.specs.declared.value.Kind.{Kind}
use Rattle.command_words.specs.declared.row.Need.{Need}
use Rattle.command_words.specs.declared.row.Need.TheVariants.{Required}
use Rattle.command_words.specs.Fields.{word_of}
use Rattle.command_words.specs.Values.{fits, has_words}
use Rattle.command_words.specs.Rows.{Place, Slot, Given, text_at, are_opposed}

-- the text is one of the words, or begins just one of them
abbrev pub is_one_of : List (List ℕ) → List ℕ → Bool
is_one_of words text = not (length text == 0) && is_some (word_of words (Some text))

-- the text is a value of the kind; where the kind has words, it stands for one of these
abbrev pub is_value : Kind → List (List ℕ) → List ℕ → Bool
is_value kind words text = if has_words kind then is_one_of words text else fits kind text

-- what was given is a value of the kind, or nothing was given, and nothing had to be
abbrev pub is_fit : Kind → List (List ℕ) → Bool → Option (List ℕ) → Bool
is_fit kind words required None = not required
is_fit kind words required (Some text) = is_value kind words text

-- what was given for each place is a value of its kind, and a place that must be there has one
abbrev pub PlacesFit : List Place → List Given → Type 0
PlacesFit places given =
    (at : ℕ) → IfSome (slice_get places at) (λ p. IsTrue (is_fit p.kind p.words p.required (text_at at given)))

abbrev pub is_required : Need → Bool
is_required Required = true
is_required need = false

-- what was given for each keyword is a value of its kind, and a keyword that must be there has one
abbrev pub KeywordsFit : List Slot → List Given → Type 0
KeywordsFit slots given =
    (at : ℕ) → IfSome (slice_get slots at) (λ s. IsTrue (is_fit s.kind s.words (is_required s.need) (text_at at given)))

-- of two keywords on different sides, at most one was given
abbrev pub are_apart_given : Slot → Slot → Option (List ℕ) → Option (List ℕ) → Bool
are_apart_given s t a b = not (are_opposed s.need t.need && is_some a && is_some b)

abbrev pub SidesApart : List Slot → List Given → Type 0
SidesApart slots given =
    (i j : ℕ) → IfSome (slice_get slots i) (λ s. IfSome (slice_get slots j) (λ t. IsTrue (are_apart_given s t (text_at i given) (text_at j given))))
