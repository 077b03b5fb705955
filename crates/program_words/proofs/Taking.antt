-- The parser takes the words of a command, and this is what it makes of them.
use Rattle.std.proofs.Common.{◌≡◌, Bool, true, false, ◌&&◌, List, [], ◌∷◌, ◌++◌, fold, codes, refl, sym, ◌∙◌, ap, ap₂, Some, is_some, ⊎_elim}
use Rattle.std.specs.List.{list_all}
use Rattle.clap.specs.Walk.{Held, Row, Text, Walk, idle, nothing_held, positional, settled, walk, walk_from, walked, finished, with_default}
use Rattle.clap.specs.Simple.{entered, is_simple, names_of, subcommand_of}
use Rattle.clap.specs.Takes.{default_passes, entered_passes, is_valid, level_passes, settle_passes, takes, walk_passes}
use Rattle.clap.specs.Faults.{is_simple_and_free}
use Rattle.clap.proofs.OnLiterals.{clap_on_literals}
use Rattle.program_words.specs.Program.{IsShaped, is_plain, program}
use Rattle.program_words.proofs.Walking.{app, at, ends, ends_in, more, one, passes_next, restore, rows, rows_at_end, step_more, step_one, step_three, step_two, stop, stopped_passes, stopped_walk, turn_idle, turn_positional, two}

pub simple : is_simple program ≡ true
simple = refl

pub simple_and_free : is_simple_and_free program ≡ true
simple_and_free = refl

takes_format : takes program (codes "format" ∷ []) ≡ true
unfolding clap_on_literals
takes_format = refl

takes_run : takes program (codes "run" ∷ []) ≡ true
unfolding clap_on_literals
takes_run = refl

takes_fresh : takes program (codes "fresh" ∷ []) ≡ true
unfolding clap_on_literals
takes_fresh = refl

pub sub_format : subcommand_of program (codes "format" ∷ []) ≡ Some (codes "format", [])
unfolding clap_on_literals
sub_format = refl

pub sub_run : subcommand_of program (codes "run" ∷ []) ≡ Some (codes "run", [])
unfolding clap_on_literals
sub_run = refl

pub sub_fresh : subcommand_of program (codes "fresh" ∷ []) ≡ Some (codes "fresh", [])
unfolding clap_on_literals
sub_fresh = refl

-- ---- behind `restoredb`

pub both : (a b : Bool) → (a && b) ≡ true → (a ≡ true) × (b ≡ true)
both true true e = (refl, refl)
both true false e = absurd (cc)
both false b e = absurd (cc)

walk_more : (file day : Text) (files : List Text) (last : Text) (rest : List Text) → list_all is_plain rest ≡ true → fold (walked restore.rules []) (at (more file day files last) positional 3) rest ≡ at (ends_in file day files last rest) positional 3
walk_more file day files last [] plain = refl
walk_more file day files last (next ∷ rest) plain =
    let plains = both (is_plain next) (list_all is_plain rest) plain in
    ap (λ (w : Walk). fold (walked restore.rules []) w rest) (step_more file day files last next plains.0) ∙ walk_more file day (files ++ last ∷ []) next rest plains.1

held_from : (file day : Text) (rest : List Text) → list_all is_plain rest ≡ true → (fold (walked restore.rules []) (at (two file day) idle 3) rest).held ≡ ends file day rest
held_from file day [] plain = refl
held_from file day (next ∷ rest) plain =
    let plains = both (is_plain next) (list_all is_plain rest) plain in
    ap (λ (w : Walk). (fold (walked restore.rules []) w rest).held) (step_three file day next plains.0) ∙ ap (λ (w : Walk). w.held) (walk_more file day [] next rest plains.1)

pub held_at_end : (file day : Text) (rest : List Text) → is_plain file ≡ true → is_plain day ≡ true → list_all is_plain rest ≡ true → (walk restore.rules [] nothing_held (file ∷ day ∷ rest)).held ≡ ends file day rest
held_at_end file day rest first second plain =
    ap (λ (w : Walk). (fold (walked restore.rules []) (walked restore.rules [] w day) rest).held) (step_one file first)
    ∙ ap (λ (w : Walk). (fold (walked restore.rules []) w rest).held) (step_two file day second) ∙ held_from file day rest plain

defaults_after : (file day : Text) (files : List Text) → fold with_default (rows file day files) restore.rules ≡ rows file day files
defaults_after file day [] = refl
defaults_after file day (v ∷ vs) = refl

settled_at_end : (file day : Text) (rest : List Text) → (settled restore.rules (ends file day rest)).rows ≡ rows file day rest
settled_at_end file day [] = refl
settled_at_end file day (next ∷ rest) = rows_at_end file day [] next rest

pub rows_after_all : (file day : Text) (rest : List Text) → finished restore.rules (ends file day rest) ≡ rows file day rest
rows_after_all file day rest = ap (λ (r : List Row). fold with_default r restore.rules) (settled_at_end file day rest) ∙ defaults_after file day rest

passes_more : (file day : Text) (files : List Text) (last : Text) (rest : List Text) → list_all is_plain rest ≡ true → walk_passes restore [] (at (more file day files last) positional 3) rest ≡ true
unfolding walk_passes
passes_more file day files last [] plain = refl
passes_more file day files last (next ∷ rest) plain =
    let plains = both (is_plain next) (list_all is_plain rest) plain in
    passes_next restore (at (more file day files last) positional 3) (at (more file day (files ++ last ∷ []) next) positional 3) next rest (turn_positional restore (more file day files last) 3 next plains.0)
    (step_more file day files last next plains.0) (passes_more file day (files ++ last ∷ []) next rest plains.1)

passes_from : (file day : Text) (rest : List Text) → list_all is_plain rest ≡ true → walk_passes restore [] (at (two file day) idle 3) rest ≡ true
unfolding walk_passes
passes_from file day [] plain = refl
passes_from file day (next ∷ rest) plain =
    let plains = both (is_plain next) (list_all is_plain rest) plain in
    passes_next restore (at (two file day) idle 3) (at (more file day [] next) positional 3) next rest (turn_idle restore (two file day) 3 next plains.0) (step_three file day next plains.0) (passes_more file day [] next rest plains.1)

passes_all : (file day : Text) (rest : List Text) → is_plain file ≡ true → is_plain day ≡ true → list_all is_plain rest ≡ true → walk_passes restore [] (walk_from nothing_held) (file ∷ day ∷ rest) ≡ true
passes_all file day rest first second plain =
    passes_next restore (walk_from nothing_held) (at (one file) idle 2) file (day ∷ rest) (turn_idle restore nothing_held 1 file first) (step_one file first)
    (passes_next restore (at (one file) idle 2) (at (two file day) idle 3) day rest (turn_idle restore (one file) 2 day second) (step_two file day second) (passes_from file day rest plain))

settles_in : (file day : Text) (files : List Text) (last : Text) (rest : List Text) → settle_passes restore.rules false (ends_in file day files last rest) ≡ true
settles_in file day files last [] = refl
settles_in file day files last (next ∷ rest) = settles_in file day (files ++ last ∷ []) next rest

settles : (file day : Text) (rest : List Text) → settle_passes restore.rules false (ends file day rest) ≡ true
settles file day [] = refl
settles file day (next ∷ rest) = settles_in file day [] next rest

valid_rows : (file day : Text) (rest : List Text) → is_valid restore (rows file day rest) false ≡ true
valid_rows file day [] = refl
valid_rows file day (v ∷ vs) = refl

all_three : (a b c : Bool) → a ≡ true → b ≡ true → c ≡ true → (a && (b && c)) ≡ true
all_three true true true a b c = refl
all_three true true false a b c = c
all_three true false other a b c = b
all_three false other another a b c = a

level_restore : (file day : Text) (rest : List Text) → is_plain file ≡ true → is_plain day ≡ true → list_all is_plain rest ≡ true → level_passes restore [] nothing_held (file ∷ day ∷ rest) false ≡ true
level_restore file day rest first second plain =
    let held = held_at_end file day rest first second plain in
    all_three _ _ _ (passes_all file day rest first second plain) (ap (λ (h : Held). settle_passes restore.rules false h) held ∙ settles file day rest)
    (ap (λ (h : Held). is_valid restore (finished restore.rules h) false) held ∙ ap (λ (r : List Row). is_valid restore r false) (rows_after_all file day rest) ∙ valid_rows file day rest)

pub top_walk : (words : List Text) → walk app.top.rules (names_of app) nothing_held (codes "restoredb" ∷ words) ≡ stop nothing_held (codes "restoredb") words
unfolding clap_on_literals
top_walk words = stopped_walk app.top.rules (names_of app) nothing_held (codes "restoredb") [] words

top_passes : (words : List Text) → walk_passes app.top (names_of app) (walk_from nothing_held) (codes "restoredb" ∷ words) ≡ true
unfolding clap_on_literals
top_passes words = stopped_passes app.top (names_of app) nothing_held (codes "restoredb") [] words

-- what a level's test says of where its walk stands
abbrev whole : Bool → Walk → Bool
whole passes w = entered_passes app w.stopped && (passes && (settle_passes app.top.rules app.top.args_override_self w.held
    && (list_all default_passes app.top.rules && is_valid app.top (finished app.top.rules w.held) (is_some (entered app w.stopped)))))

and_true : (b : Bool) → b ≡ true → (b && true) ≡ true
and_true true e = refl
and_true false e = e

takes_restore : (file day : Text) (rest : List Text) → is_plain file ≡ true → is_plain day ≡ true → list_all is_plain rest ≡ true → takes program (codes "restoredb" ∷ file ∷ day ∷ rest) ≡ true
takes_restore file day rest first second plain =
    ap₂ whole (top_passes (file ∷ day ∷ rest)) (top_walk (file ∷ day ∷ rest)) ∙ and_true _ (level_restore file day rest first second plain)

pub sub_restore : (file day : Text) (rest : List Text) → is_plain file ≡ true → is_plain day ≡ true → list_all is_plain rest ≡ true → subcommand_of program (codes "restoredb" ∷ file ∷ day ∷ rest) ≡ Some (codes "restoredb", rows file day rest)
sub_restore file day rest first second plain =
    ap (λ (w : Walk). entered app w.stopped) (top_walk (file ∷ day ∷ rest))
    ∙ ap (λ (h : Held). Some (codes "restoredb", finished restore.rules h)) (held_at_end file day rest first second plain)
    ∙ ap (λ (r : List Row). Some (codes "restoredb", r)) (rows_after_all file day rest)

-- the words of a command are taken
pub takes_shaped : (words : List Text) → list_all is_plain words ≡ true → IsShaped words → takes program words ≡ true
takes_shaped words plain = ⊎_elim (λ format. ap (takes program) format ∙ takes_format) (⊎_elim (λ run. ap (takes program) run ∙ takes_run) (⊎_elim (λ fresh. ap (takes program) fresh ∙ takes_fresh)
    (λ whole. let is = whole.3 in
    let first = both true (list_all is_plain (whole.0 ∷ whole.1 ∷ whole.2)) (sym (ap (list_all is_plain) is) ∙ plain) in
    let plains = both (is_plain whole.0) (list_all is_plain (whole.1 ∷ whole.2)) first.1 in
    let after = both (is_plain whole.1) (list_all is_plain whole.2) plains.1 in
    ap (takes program) is ∙ takes_restore whole.0 whole.1 whole.2 plains.0 after.0 after.1)))
