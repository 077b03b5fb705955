-- What the parser's walk makes of words that are no flags.
use Rattle.std.proofs.Common.{◌≡◌, ℕ, Bool, true, false, not, ◌&&◌, ◌||◌, ◌==◌, List, [], ◌∷◌, ◌++◌, fold, codes, refl, sym, ◌∙◌, ap, Option, Some, None, append_assoc, append-nil, if◌then◌else◌}
use Rattle.std.specs.Str.{bytes_eq}
use Rattle.std.specs.Option.{option_map_or}
use Rattle.clap.specs.Lexer.{long_of, short_of}
use Rattle.clap.specs.Walk.{Held, Names, Row, Rule, Step, Text, Waiting, Walk, after_step, arg_by_index, idle, long_or_other, nothing_held, plain_word, positional, reading_by, settled, short_or_plain, subcommand_or_other, to_positional, trailing, value, walk_from, walked, with_values, word_met}
use Rattle.clap.specs.Simple.{App, Shape, built, built_leaf, inherited, marked_built, new_shape, with_leaf_noted}
use Rattle.clap.specs.Takes.{bundle_passes, flag_word_passes, other_passes, step_passes, turn_passes, walk_passes}
use Rattle.clap.specs.Faults.{bundle_fault, flag_word_fault, other_fault, step_fault, turn_fault}
use Rattle.clap.specs.Kinds.{Kinds, or_else}
use Rattle.clap.specs.declared.parser.matches.ValueSource.TheVariants.{CommandLine}
use Rattle.clap.specs.declared.builder.value_parser.Reading.{Reading}
use Rattle.program_words.specs.Program.{further_words, is_plain, program, restoring}

-- ---- a word that is no flag

is_off : (b : Bool) → not b ≡ true → b ≡ false
is_off true e = absurd (cc)
is_off false e = refl

no_dashes : (word : Text) → is_plain word ≡ true → bytes_eq word (45 ∷ 45 ∷ []) ≡ false
no_dashes [] plain = absurd (cc)
no_dashes (x ∷ xs) plain = rw (is_off (x == 45) plain) refl

no_long : (word : Text) → is_plain word ≡ true → long_of word ≡ None
no_long [] plain = absurd (cc)
no_long (x ∷ xs) plain = rw (is_off (x == 45) plain) refl

no_short : (word : Text) → is_plain word ≡ true → short_of word ≡ None
no_short [] plain = absurd (cc)
no_short (x ∷ xs) plain = rw (is_off (x == 45) plain) refl

pub plain_other : (rules : List Rule) (waiting : Waiting) (position : ℕ) (word : Text) (h : Held) → is_plain word ≡ true → subcommand_or_other rules None waiting position word h ≡ plain_word rules waiting word h
plain_other rules waiting position word h plain =
    ap (λ (b : Bool). if b then (h, trailing position) else long_or_other rules waiting word (long_of word) h) (no_dashes word plain)
    ∙ ap (λ (o : Option (Text × Option Text)). long_or_other rules waiting word o h) (no_long word plain)
    ∙ ap (λ (o : Option Text). short_or_plain rules waiting word o h) (no_short word plain)

pub plain_passes : (s : Shape) (word : Text) (h : Held) → is_plain word ≡ true → other_passes s None word h ≡ true
plain_passes s word h plain =
    ap (λ (b : Bool). b || flag_word_passes s.rules s.args_override_self (long_of word) word h) (no_dashes word plain)
    ∙ ap (λ (o : Option (Text × Option Text)). flag_word_passes s.rules s.args_override_self o word h) (no_long word plain)
    ∙ ap (λ (o : Option Text). option_map_or (λ flags. bundle_passes s.rules s.args_override_self flags h) o true) (no_short word plain)

pub plain_fault : (s : Shape) (word : Text) (h : Held) → is_plain word ≡ true → other_fault s None word h ≡ []
plain_fault s word h plain =
    ap (λ (b : Bool). if b then [] else flag_word_fault s.rules s.args_override_self (long_of word) word h) (no_dashes word plain)
    ∙ ap (λ (o : Option (Text × Option Text)). flag_word_fault s.rules s.args_override_self o word h) (no_long word plain)
    ∙ ap (λ (o : Option Text). option_map_or (λ flags. bundle_fault s.rules s.args_override_self flags h) o []) (no_short word plain)

-- ---- between two words, where no subcommand is to come

abbrev pub at : Held → Waiting → ℕ → Walk
at h waiting position = record { held = h; waiting = waiting; position = position; is_trailing = false; stopped = None }

met_idle : (rules : List Rule) (position : ℕ) (word : Text) (h : Held) → is_plain word ≡ true → word_met rules [] false idle position word h ≡ (h, value)
met_idle rules position word h plain = plain_other rules idle position word h plain

met_positional : (rules : List Rule) (position : ℕ) (word : Text) (h : Held) → is_plain word ≡ true → word_met rules [] false positional position word h ≡ (h, value)
met_positional rules position word h plain = plain_other rules positional position word h plain

pub step_idle : (rules : List Rule) (h : Held) (position : ℕ) (word : Text) → is_plain word ≡ true → walked rules [] (at h idle position) word ≡ to_positional rules (arg_by_index rules position) word (at h idle position) h
unfolding walked
step_idle rules h position word plain = ap (λ (met : Held × Step). after_step rules word (at h idle position) met.0 met.1) (met_idle rules position word h plain)

pub step_positional : (rules : List Rule) (h : Held) (position : ℕ) (word : Text) → is_plain word ≡ true → walked rules [] (at h positional position) word ≡ to_positional rules (arg_by_index rules position) word (at h positional position) h
unfolding walked
step_positional rules h position word plain = ap (λ (met : Held × Step). after_step rules word (at h positional position) met.0 met.1) (met_positional rules position word h plain)

pub turn_idle : (s : Shape) (h : Held) (position : ℕ) (word : Text) → is_plain word ≡ true → turn_passes s [] (at h idle position) word ≡ step_passes s position h value
turn_idle s h position word plain =
    ap (λ (b : Bool). b && step_passes s position (word_met s.rules [] false idle position word h).0 (word_met s.rules [] false idle position word h).1) (plain_passes s word h plain)
    ∙ ap (λ (met : Held × Step). step_passes s position met.0 met.1) (met_idle s.rules position word h plain)

pub turn_positional : (s : Shape) (h : Held) (position : ℕ) (word : Text) → is_plain word ≡ true → turn_passes s [] (at h positional position) word ≡ step_passes s position h value
turn_positional s h position word plain =
    ap (λ (b : Bool). b && step_passes s position (word_met s.rules [] false positional position word h).0 (word_met s.rules [] false positional position word h).1) (plain_passes s word h plain)
    ∙ ap (λ (met : Held × Step). step_passes s position met.0 met.1) (met_positional s.rules position word h plain)

pub fault_idle : (s : Shape) (h : Held) (position : ℕ) (word : Text) → is_plain word ≡ true → turn_fault s [] (at h idle position) word ≡ step_fault s position h value
fault_idle s h position word plain =
    ap (λ (k : Kinds). or_else k (step_fault s position (word_met s.rules [] false idle position word h).0 (word_met s.rules [] false idle position word h).1)) (plain_fault s word h plain)
    ∙ ap (λ (met : Held × Step). step_fault s position met.0 met.1) (met_idle s.rules position word h plain)

pub passes_next : (s : Shape) (w after : Walk) (word : Text) (rest : List Text) → turn_passes s [] w word ≡ true → walked s.rules [] w word ≡ after → walk_passes s [] after rest ≡ true → walk_passes s [] w (word ∷ rest) ≡ true
unfolding walk_passes
passes_next s w after word rest turn step passes =
    ap (λ (b : Bool). b && walk_passes s [] (walked s.rules [] w word) rest) turn ∙ ap (λ (v : Walk). walk_passes s [] v rest) step ∙ passes

-- ---- behind the name of a subcommand

abbrev pub stop : Held → Text → List Text → Walk
stop h name words = record { held = h; waiting = idle; position = 1; is_trailing = false; stopped = Some (name, words) }

pub stopped_walk : (rules : List Rule) (names : Names) (h : Held) (name : Text) (done words : List Text) → fold (walked rules names) (stop h name done) words ≡ stop h name (done ++ words)
unfolding walked
stopped_walk rules names h name done [] = ap (λ (l : List Text). stop h name l) (sym (append-nil done))
stopped_walk rules names h name done (word ∷ words) = stopped_walk rules names h name (done ++ word ∷ []) words ∙ ap (λ (l : List Text). stop h name l) (append_assoc done (word ∷ []) words)

pub stopped_passes : (s : Shape) (names : Names) (h : Held) (name : Text) (done words : List Text) → walk_passes s names (stop h name done) words ≡ true
unfolding walked walk_passes
stopped_passes s names h name done [] = refl
stopped_passes s names h name done (word ∷ words) = stopped_passes s names h name (done ++ word ∷ []) words

-- ---- the program, as it is built

abbrev pub app : App
app = built program

-- what the subcommands take over
abbrev pub above : Shape
above = with_leaf_noted (marked_built program.top)

abbrev pub leaf : Text → Shape
leaf name = built_leaf (inherited above (new_shape name))

abbrev pub restore : Shape
restore = built_leaf (inherited above restoring.top)

-- ---- the words behind `restoredb`

abbrev pub how : Reading
how = reading_by further_words

abbrev pub row : Text → List Text → Row
row id values = record { id = id; values = values; count = None; source = Some CommandLine; reading = how }

abbrev pub rows : Text → Text → List Text → List Row
rows file day [] = row (codes "FILE") (file ∷ []) ∷ row (codes "DAY") (day ∷ []) ∷ []
rows file day (v ∷ vs) = row (codes "FILE") (file ∷ []) ∷ row (codes "DAY") (day ∷ []) ∷ row (codes "FILES") (v ∷ vs) ∷ []

abbrev pub one : Text → Held
one file = record { rows = []; pending = Some (codes "FILE", file ∷ []); skip = 0 }

abbrev pub two : Text → Text → Held
two file day = record { rows = row (codes "FILE") (file ∷ []) ∷ []; pending = Some (codes "DAY", day ∷ []); skip = 0 }

abbrev pub more : Text → Text → List Text → Text → Held
more file day files last = record { rows = rows file day files; pending = Some (codes "FILES", last ∷ []); skip = 0 }

-- where the walk ends
abbrev pub ends_in : Text → Text → List Text → Text → List Text → Held
ends_in file day files last [] = more file day files last
ends_in file day files last (next ∷ rest) = ends_in file day (files ++ last ∷ []) next rest

abbrev pub ends : Text → Text → List Text → Held
ends file day [] = two file day
ends file day (next ∷ rest) = ends_in file day [] next rest

pub step_one : (file : Text) → is_plain file ≡ true → walked restore.rules [] (walk_from nothing_held) file ≡ at (one file) idle 2
step_one file plain = step_idle restore.rules nothing_held 1 file plain

pub step_two : (file day : Text) → is_plain day ≡ true → walked restore.rules [] (at (one file) idle 2) day ≡ at (two file day) idle 3
step_two file day plain = step_idle restore.rules (one file) 2 day plain

pub step_three : (file day next : Text) → is_plain next ≡ true → walked restore.rules [] (at (two file day) idle 3) next ≡ at (more file day [] next) positional 3
step_three file day next plain = step_idle restore.rules (two file day) 3 next plain

with_more : (file day : Text) (files : List Text) (last : Text) → with_values (codes "FILES") how CommandLine (last ∷ []) (rows file day files) ≡ rows file day (files ++ last ∷ [])
with_more file day [] last = refl
with_more file day (v ∷ vs) last = refl

pub step_more : (file day : Text) (files : List Text) (last next : Text) → is_plain next ≡ true → walked restore.rules [] (at (more file day files last) positional 3) next ≡ at (more file day (files ++ last ∷ []) next) positional 3
step_more file day files last next plain = step_positional restore.rules (more file day files last) 3 next plain
    ∙ ap (λ (r : List Row). at (record { rows = r; pending = Some (codes "FILES", next ∷ []); skip = 0 }) positional 3) (with_more file day files last)

pub rows_at_end : (file day : Text) (files : List Text) (last : Text) (rest : List Text) → (settled restore.rules (ends_in file day files last rest)).rows ≡ rows file day (files ++ last ∷ rest)
rows_at_end file day files last [] = with_more file day files last
rows_at_end file day files last (next ∷ rest) = rows_at_end file day (files ++ last ∷ []) next rest ∙ ap (λ (l : List Text). rows file day l) (append_assoc files (last ∷ []) (next ∷ rest))
