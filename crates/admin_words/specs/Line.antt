-- What a line says: a command, or the refusal at its first offending word.
use Rattle.std.specs.Prelude.{ℕ, ◌+◌, Bool, false, List, [], ◌∷◌, map, length, codes, slice_get, if◌then◌else◌, Option, Some, None, Result, Ok, Err}
use Rattle.kinds.specs.declared.refusal.Refusal.{Refusal}
use Rattle.kinds.specs.declared.refusal.Refusal.TheVariants.{Syntax}
use Rattle.command_words.specs.Choice.{is_front, choose}
use Rattle.command_words.specs.Reading.{◌>>=◌}
use Rattle.command_words.specs.Rows.{first_value, row_values}
use Rattle.command_words.specs.Words.{Word, words, torn_at}
use Rattle.admin_words.specs.declared.command.Command.{Command}
use Rattle.admin_words.specs.Command.{command_of}
use Rattle.admin_words.specs.Rows.{Row, Verb, archive_row, verbs, is_bare}

-- a row that was found, and the words behind
abbrev pub row_found : ℕ → Option Row → List Word → Result (Row × List Word) Refusal
row_found end None ws = Err (Syntax end)
row_found end (Some r) ws = Ok (r, ws)

-- the row that the second word names
abbrev pub row_named : ℕ → List Row → List Word → Result (Row × List Word) Refusal
row_named end rows [] = Err (Syntax end)
row_named end rows (w ∷ ws) = choose w.column w.text (map (λ r. r.word) rows) >>= λ at. row_found end (slice_get rows at) ws

-- the row among those of a first word
abbrev pub row_among : ℕ → List Row → List Word → Result (Row × List Word) Refusal
row_among end rows ws = if is_bare rows then row_found end (slice_get rows 0) ws else row_named end rows ws

abbrev pub verb_found : ℕ → Option Verb → List Word → Result (Row × List Word) Refusal
verb_found end None ws = Err (Syntax end)
verb_found end (Some v) ws = row_among end v.rows ws

-- the row that the first words of a line name, and the words behind them
abbrev pub row_of : ℕ → List Verb → List Word → Result (Row × List Word) Refusal
row_of end verbs [] = Err (Syntax end)
row_of end verbs (w ∷ ws) = choose w.column w.text (map (λ v. v.word) verbs) >>= λ at. verb_found end (slice_get verbs at) ws

-- whether TYPE is ARCHIVE among the words behind a command's own, by its first value
abbrev pub is_archive : Option (List ℕ) → Bool
is_archive None = false
is_archive (Some value) = is_front (codes "ARCHIVE") value

abbrev pub asks_archive : List Word → Bool
asks_archive ws = is_archive (first_value (codes "TYPE") ws)

-- a row, or the one of an archive copy group in its place
abbrev pub row_typed : Row → Option Row → Bool → Row
row_typed r None asked = r
row_typed r (Some archive) asked = if asked then archive else r

-- the row that is meant where this one is named, and these words stand behind
abbrev pub row_meant : Row → List Word → Row
row_meant r ws = row_typed r (archive_row r.form) (asks_archive ws)

-- the row that a line means, by its first words and by TYPE, and the words behind its first ones
abbrev pub row_for : ℕ → List Verb → List Word → Result (Row × List Word) Refusal
row_for end verbs ws = row_of end verbs ws >>= λ r. Ok (row_meant r.0 r.1, r.1)

-- the command of a row, with what the words behind its own give
abbrev pub row_command : ℕ → Row × List Word → Result Command Refusal
row_command end r = row_values r.0.places r.0.slots end r.1 >>= λ given. Ok (command_of r.0.form given.0 given.1)

-- what a line says by the table, where the quotes of the word at this column are wrong
abbrev pub command_by : List Verb → List Word → ℕ → Option ℕ → Result Command Refusal
command_by table ws end (Some column) = Err (Syntax column)
command_by table ws end None = row_for end table ws >>= λ r. row_command end r

-- what a line says: its command, or the refusal at its first offending word. A missing word has the line's length plus 1
abbrev pub command : List ℕ → Bool → Result Command Refusal
command line in_block = command_by (verbs in_block) (words line) (length line + 1) (torn_at (words line))
