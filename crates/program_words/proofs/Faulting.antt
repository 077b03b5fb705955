-- Words that the parser refuses: all that don't have the shape of a command.
use Rattle.std.proofs.Common.{◌≡◌, ◌⊎◌, Bool, true, false, ◌||◌, List, [], ◌∷◌, fold, codes, refl, sym, ◌∙◌, ap, ap₂, Option, Some, None, is_some, inl, inr, ⊎_elim}
use Rattle.std.specs.Prelude.{find, option_map, if◌then◌else◌}
use Rattle.std.specs.List.{list_all}
use Rattle.std.specs.Option.{option_map_or}
use Rattle.std.specs.Str.{bytes_eq}
use Rattle.std.proofs.lemmas.Slice.Eq.{bytes_eq-Decides}
use Rattle.clap.specs.Walk.{Held, Step, Text, Walk, answers_to, finished, idle, nothing_held, settled, subcommand_met, subcommand_or_other, value, walk, walk_from, walked}
use Rattle.clap.specs.Simple.{Shape, entered, label_of, names_of}
use Rattle.clap.specs.Kinds.{Kinds, or_else}
use Rattle.clap.specs.Faults.{check_fault, defaults_fault, entered_fault, fault_of, level_fault, other_fault, settle_fault, step_fault, turn_fault, walk_fault}
use Rattle.clap.specs.declared.error.kind.ErrorKind.{ErrorKind}
use Rattle.clap.proofs.FaultLemmas.{stopped_fault}
use Rattle.clap.proofs.OnLiterals.{clap_on_literals}
use Rattle.program_words.specs.Program.{IsShaped, is_plain, program}
use Rattle.program_words.proofs.Walking.{app, at, fault_idle, leaf, one, plain_fault, plain_other, restore, step_one, stop, stopped_walk}
use Rattle.program_words.proofs.Taking.{both}

-- ---- kinds of errors in turn

some_kind : (k : ErrorKind) (ks : Kinds) → k ∷ ks ≡ [] → ⊥
some_kind k ks e = absurd (cc)

or_fails : (a b : Kinds) → (a ≡ [] → ⊥) → or_else a b ≡ [] → ⊥
or_fails [] b fails e = fails refl
or_fails (k ∷ ks) b fails e = some_kind k ks e

or_next : (a b : Kinds) → a ≡ [] → (b ≡ [] → ⊥) → or_else a b ≡ [] → ⊥
or_next a b none fails e = fails (sym (ap (λ (k : Kinds). or_else k b) none) ∙ e)

-- ---- the parts of a level

abbrev rest_of : Shape → Walk → Kinds
rest_of s w = or_else [] (or_else (settle_fault s.rules s.args_override_self w.held) (or_else (defaults_fault (settled s.rules w.held).rows s.rules) (check_fault s (finished s.rules w.held) false)))

abbrev tail_of : Walk → Kinds
tail_of w = or_else (settle_fault app.top.rules app.top.args_override_self w.held)
    (or_else (defaults_fault (settled app.top.rules w.held).rows app.top.rules) (check_fault app.top (finished app.top.rules w.held) (is_some (entered app w.stopped))))

abbrev first : Walk
first = walk_from nothing_held

abbrev step : Text → Walk
step word = walked app.top.rules (names_of app) first word

abbrev top_walk : List Text → Walk
top_walk words = walk app.top.rules (names_of app) nothing_held words

abbrev top_fault : List Text → Kinds
top_fault words = walk_fault app.top (names_of app) first words

-- the parts of what is said of the whole
in_parts : (words : List Text) → fault_of program words ≡ or_else (top_fault words) (or_else (entered_fault app (top_walk words).stopped) (tail_of (top_walk words)))
in_parts words = refl

leaf_in_parts : (s : Shape) (words : List Text) → level_fault s [] nothing_held words false [] ≡ or_else (walk_fault s [] first words) (rest_of s (walk s.rules [] nothing_held words))
leaf_in_parts s words = refl

-- ---- a first word that names no command

abbrev met : Bool → Bool → Bool → Bool → Option Text
met a b c d = option_map (λ (s : Text × List Text). s.0) (if a || false then Some (codes "format", []) else (if b || false then Some (codes "run", []) else (if c || false then Some (codes "fresh", []) else (if d || false then Some (codes "restoredb", []) else None))))

unmet : (word : Text) → bytes_eq (codes "format") word ≡ false → bytes_eq (codes "run") word ≡ false → bytes_eq (codes "fresh") word ≡ false → bytes_eq (codes "restoredb") word ≡ false → subcommand_met (names_of app) idle word ≡ None
unmet word a b c d =
    ap (λ (x : Bool). met x (bytes_eq (codes "run") word) (bytes_eq (codes "fresh") word) (bytes_eq (codes "restoredb") word)) a
    ∙ ap (λ (x : Bool). met false x (bytes_eq (codes "fresh") word) (bytes_eq (codes "restoredb") word)) b
    ∙ ap (λ (x : Bool). met false false x (bytes_eq (codes "restoredb") word)) c ∙ ap (λ (x : Bool). met false false false x) d

abbrev IsNamed : Text → Type 0
IsNamed word = (word ≡ codes "format") ⊎ (word ≡ codes "run") ⊎ (word ≡ codes "fresh") ⊎ (word ≡ codes "restoredb") ⊎ (subcommand_met (names_of app) idle word ≡ None)

tested : (word : Text) (a b c d : Bool) → bytes_eq (codes "format") word ≡ a → bytes_eq (codes "run") word ≡ b → bytes_eq (codes "fresh") word ≡ c → bytes_eq (codes "restoredb") word ≡ d → IsNamed word
tested word true b c d ea eb ec ed = inl (sym ((bytes_eq-Decides (codes "format") word).0 ea))
tested word false true c d ea eb ec ed = inr (inl (sym ((bytes_eq-Decides (codes "run") word).0 eb)))
tested word false false true d ea eb ec ed = inr (inr (inl (sym ((bytes_eq-Decides (codes "fresh") word).0 ec))))
tested word false false false true ea eb ec ed = inr (inr (inr (inl (sym ((bytes_eq-Decides (codes "restoredb") word).0 ed)))))
tested word false false false false ea eb ec ed = inr (inr (inr (inr (unmet word ea eb ec ed))))

named : (word : Text) → IsNamed word
named word = tested word (bytes_eq (codes "format") word) (bytes_eq (codes "run") word) (bytes_eq (codes "fresh") word) (bytes_eq (codes "restoredb") word) refl refl refl refl

stray : (word : Text) → is_plain word ≡ true → subcommand_met (names_of app) idle word ≡ None → turn_fault app.top (names_of app) first word ≡ step_fault app.top 1 nothing_held value
stray word plain none =
    ap (λ (m : Option Text). or_else (other_fault app.top m word nothing_held) (step_fault app.top 1 (subcommand_or_other app.top.rules m idle 1 word nothing_held).0 (subcommand_or_other app.top.rules m idle 1 word nothing_held).1)) none
    ∙ ap (λ (k : Kinds). or_else k (step_fault app.top 1 (subcommand_or_other app.top.rules None idle 1 word nothing_held).0 (subcommand_or_other app.top.rules None idle 1 word nothing_held).1)) (plain_fault app.top word nothing_held plain)
    ∙ ap (λ (it : Held × Step). step_fault app.top 1 it.0 it.1) (plain_other app.top.rules idle 1 word nothing_held plain)

unknown_fails : (word : Text) (rest : List Text) → is_plain word ≡ true → subcommand_met (names_of app) idle word ≡ None → fault_of program (word ∷ rest) ≡ [] → ⊥
unfolding walk_fault
unknown_fails word rest plain none =
    or_fails (top_fault (word ∷ rest)) (or_else (entered_fault app (top_walk (word ∷ rest)).stopped) (tail_of (top_walk (word ∷ rest))))
    (or_fails (turn_fault app.top (names_of app) first word) (walk_fault app.top (names_of app) (step word) rest) (λ e. some_kind _ _ (sym (stray word plain none) ∙ e)))

-- ---- behind a command's name

clean : (name : Text) (words : List Text) → turn_fault app.top (names_of app) first name ≡ [] → step name ≡ stop nothing_held name [] → top_fault (name ∷ words) ≡ []
unfolding walk_fault
clean name words turn steps =
    ap (λ (k : Kinds). or_else k (walk_fault app.top (names_of app) (step name) words)) turn ∙ ap (λ (w : Walk). walk_fault app.top (names_of app) w words) steps ∙ stopped_fault app.top (names_of app) (stop nothing_held name []) (name, []) words

named_fails : (name : Text) (sub : Shape) (words : List Text) → turn_fault app.top (names_of app) first name ≡ [] → step name ≡ stop nothing_held name [] → find (λ s. answers_to name (label_of s)) app.subs ≡ Some sub
    → (level_fault sub [] nothing_held words false [] ≡ [] → ⊥) → fault_of program (name ∷ words) ≡ [] → ⊥
named_fails name sub words turn steps found fails =
    let whole : top_walk (name ∷ words) ≡ stop nothing_held name words = ap (λ (w : Walk). fold (walked app.top.rules (names_of app)) w words) steps ∙ stopped_walk app.top.rules (names_of app) nothing_held name [] words in
    let below : entered_fault app (top_walk (name ∷ words)).stopped ≡ level_fault sub [] nothing_held words false [] =
    ap (λ (w : Walk). entered_fault app w.stopped) whole ∙ ap (λ (o : Option Shape). option_map_or (λ s. level_fault s [] nothing_held words false []) o []) found in
    or_next (top_fault (name ∷ words)) (or_else (entered_fault app (top_walk (name ∷ words)).stopped) (tail_of (top_walk (name ∷ words)))) (clean name words turn steps)
    (or_fails (entered_fault app (top_walk (name ∷ words)).stopped) (tail_of (top_walk (name ∷ words))) (λ e. fails (sym below ∙ e)))

leaf_fails : (name word : Text) (rest : List Text) → is_plain word ≡ true → level_fault (leaf name) [] nothing_held (word ∷ rest) false [] ≡ [] → ⊥
unfolding walk_fault
leaf_fails name word rest plain =
    or_fails (walk_fault (leaf name) [] first (word ∷ rest)) (rest_of (leaf name) (walk (leaf name).rules [] nothing_held (word ∷ rest)))
    (or_fails (turn_fault (leaf name) [] first word) (walk_fault (leaf name) [] (walked (leaf name).rules [] first word) rest) (λ e. some_kind _ _ (sym (fault_idle (leaf name) nothing_held 1 word plain) ∙ e)))

alone : (name : Text) (words : List Text) → turn_fault app.top (names_of app) first name ≡ [] → step name ≡ stop nothing_held name [] → find (λ s. answers_to name (label_of s)) app.subs ≡ Some (leaf name)
    → list_all is_plain words ≡ true → fault_of program (name ∷ words) ≡ [] → words ≡ []
alone name [] turn steps found plain e = refl
alone name (word ∷ rest) turn steps found plain e =
    absurd (named_fails name (leaf name) (word ∷ rest) turn steps found (leaf_fails name word rest (both (is_plain word) (list_all is_plain rest) plain).0) e)

format_alone : (words : List Text) → list_all is_plain words ≡ true → fault_of program (codes "format" ∷ words) ≡ [] → words ≡ []
unfolding clap_on_literals
format_alone words = alone (codes "format") words refl refl refl

run_alone : (words : List Text) → list_all is_plain words ≡ true → fault_of program (codes "run" ∷ words) ≡ [] → words ≡ []
unfolding clap_on_literals
run_alone words = alone (codes "run") words refl refl refl

fresh_alone : (words : List Text) → list_all is_plain words ≡ true → fault_of program (codes "fresh" ∷ words) ≡ [] → words ≡ []
unfolding clap_on_literals
fresh_alone words = alone (codes "fresh") words refl refl refl

restore_fails : (words : List Text) → (level_fault restore [] nothing_held words false [] ≡ [] → ⊥) → fault_of program (codes "restoredb" ∷ words) ≡ [] → ⊥
unfolding clap_on_literals
restore_fails words = named_fails (codes "restoredb") restore words refl refl refl

nothing_behind : level_fault restore [] nothing_held [] false [] ≡ [] → ⊥
unfolding clap_on_literals
nothing_behind e = some_kind _ _ e

one_clean : (file : Text) → is_plain file ≡ true → walk_fault restore [] first (file ∷ []) ≡ []
unfolding walk_fault
one_clean file plain = ap (λ (k : Kinds). or_else k []) (fault_idle restore nothing_held 1 file plain)

one_rest : (file : Text) → rest_of restore (at (one file) idle 2) ≡ [] → ⊥
unfolding defaults_fault
one_rest file e = some_kind _ _ e

one_behind : (file : Text) → is_plain file ≡ true → level_fault restore [] nothing_held (file ∷ []) false [] ≡ [] → ⊥
one_behind file plain =
    or_next (walk_fault restore [] first (file ∷ [])) (rest_of restore (walk restore.rules [] nothing_held (file ∷ []))) (one_clean file plain)
    (λ e. one_rest file (sym (ap (λ (w : Walk). rest_of restore w) (step_one file plain)) ∙ e))

restored : (words : List Text) → list_all is_plain words ≡ true → fault_of program (codes "restoredb" ∷ words) ≡ [] → (file : Text) × (day : Text) × (files : List Text) × (words ≡ file ∷ day ∷ files)
restored [] plain e = absurd (restore_fails [] nothing_behind e)
restored (file ∷ []) plain e = absurd (restore_fails (file ∷ []) (one_behind file (both (is_plain file) true plain).0) e)
restored (file ∷ day ∷ files) plain e = (file, day, files, refl)

empty_fails : fault_of program [] ≡ [] → ⊥
unfolding clap_on_literals
empty_fails e = some_kind _ _ e

-- words that the parser may take have the shape of a command
pub shaped : (words : List Text) → list_all is_plain words ≡ true → fault_of program words ≡ [] → IsShaped words
shaped [] plain e = absurd (empty_fails e)
shaped (word ∷ rest) plain e =
    let plains = both (is_plain word) (list_all is_plain rest) plain in
    let as_named : (name : Text) → word ≡ name → fault_of program (name ∷ rest) ≡ [] = λ name is. sym (ap (λ (n : Text). fault_of program (n ∷ rest)) is) ∙ e in
    ⊎_elim (λ is. inl (ap₂ (λ (n : Text) (l : List Text). n ∷ l) is (format_alone rest plains.1 (as_named (codes "format") is))))
    (⊎_elim (λ is. inr (inl (ap₂ (λ (n : Text) (l : List Text). n ∷ l) is (run_alone rest plains.1 (as_named (codes "run") is)))))
    (⊎_elim (λ is. inr (inr (inl (ap₂ (λ (n : Text) (l : List Text). n ∷ l) is (fresh_alone rest plains.1 (as_named (codes "fresh") is))))))
    (⊎_elim (λ is. let it = restored rest plains.1 (as_named (codes "restoredb") is) in inr (inr (inr (it.0, it.1, it.2, ap₂ (λ (n : Text) (l : List Text). n ∷ l) is it.3))))
    (λ none. absurd (unknown_fails word rest plains.0 none e))))) (named word)
