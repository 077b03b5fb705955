-- The text of a rule file: its lines, and the rule of each.
use Rattle.std.specs.Prelude.{◌≡◌, ◌⊎◌, ℕ, ◌+◌, ◌==◌, List, [], ◌∷◌, ◌++◌, length, codes, if◌then◌else◌, Option, Some, None, Result, Ok, Err}
use Rattle.std.specs.List.{slice_split}
use Rattle.std.specs.Str.{str_to_ascii_uppercase}
use Rattle.std.specs.Str.Lines.{strip_carriage_return}
use Rattle.kinds.specs.declared.refusal.Refusal.{Refusal}
use Rattle.kinds.specs.declared.refusal.Refusal.TheVariants.{Syntax, UnknownWord, BadValue, Memory}
use Rattle.kinds.specs.Names.{is_name}
use Rattle.path_patterns.specs.Patterns.{is_pattern}
use Rattle.choosers.specs.declared.rule.Rule.{Rule}
use Rattle.choosers.specs.declared.rule.Rule.TheVariants.{Include, Exclude}
use Rattle.choosers.specs.declared.rule_text.Verb.{Verb}
use Rattle.choosers.specs.declared.rule_text.Verb.TheVariants.{Including, Excluding}
use Rattle.command_words.specs.Reading.{◌>>=◌}
use Rattle.command_words.specs.Choice.{begins}
use Rattle.command_words.specs.Comments.{is_comment}
use Rattle.command_words.specs.Values.{unquoted}
use Rattle.command_words.specs.Words.{Word, words_behind, torn_at}

-- which of the two words a rule begins with
abbrev pub verb_at : Word → Result Verb Refusal
verb_at w =
    if begins (codes "INCLUDE") w.text then Ok Including else (if begins (codes "EXCLUDE") w.text then Ok Excluding else Err (UnknownWord w.column))

-- the pattern that a word is
abbrev pub pattern_at : Word → Result (List ℕ) Refusal
pattern_at w = if is_pattern (unquoted w.text) then Ok (unquoted w.text) else Err (BadValue w.column)

-- the name of a management class that a word is, in upper case
abbrev pub class_at : Word → Result (List ℕ) Refusal
class_at w = if is_name 30 (str_to_ascii_uppercase (unquoted w.text)) then Ok (str_to_ascii_uppercase (unquoted w.text)) else Err (BadValue w.column)

-- no word may follow
abbrev pub ends : {A : Type 0} → List Word → A → Result A Refusal
ends [] x = Ok x
ends (w ∷ ws) x = Err (Syntax w.column)

-- a class may follow, and then nothing
abbrev pub class_of : List Word → Result (Option (List ℕ)) Refusal
class_of [] = Ok None
class_of (w ∷ ws) = class_at w >>= λ name. ends ws (Some name)

-- the INCLUDE rule with a pattern, and what follows it
abbrev pub include_of : List ℕ → List Word → Result Rule Refusal
include_of pattern ws = class_of ws >>= λ class. Ok (Include pattern class)

-- the EXCLUDE rule with a pattern, which nothing may follow
abbrev pub exclude_of : List ℕ → List Word → Result Rule Refusal
exclude_of pattern ws = ends ws (Exclude pattern)

-- the rule that stands behind its first word; `end` is the place of a word that is missing
abbrev pub rule_behind : Verb → ℕ → List Word → Result Rule Refusal
rule_behind verb end [] = Err (Syntax end)
rule_behind Including end (w ∷ ws) = pattern_at w >>= λ pattern. include_of pattern ws
rule_behind Excluding end (w ∷ ws) = pattern_at w >>= λ pattern. exclude_of pattern ws

-- the rule that words are
abbrev pub rule_of : ℕ → List Word → Result Rule Refusal
rule_of end [] = Err (Syntax end)
rule_of end (w ∷ ws) = verb_at w >>= λ verb. rule_behind verb end ws

-- the same, where the quotes of each word are closed and end it
abbrev pub sound_rule : Option ℕ → ℕ → List Word → Result Rule Refusal
sound_rule (Some place) end ws = Err (Syntax place)
sound_rule None end ws = rule_of end ws

-- the rule of a line that begins behind `first` bytes of its file
unfoldable pub rule_at : ℕ → List ℕ → Result Rule Refusal
rule_at first line = sound_rule (torn_at (words_behind first line)) (first + length line + 1) (words_behind first line)

-- the rules that a line gives: none where it is a comment
abbrev pub rules_at : ℕ → List ℕ → Result (List Rule) Refusal
rules_at first line = if is_comment line then Ok [] else (rule_at first line >>= λ rule. Ok (rule ∷ []))

-- a line of a rule file: how many bytes of the file stand before it, and the line
abbrev pub PlacedLine : Type 0
PlacedLine = ℕ × List ℕ

-- the parts of a text between its line feeds
abbrev pub parts : List ℕ → List (List ℕ)
parts text = slice_split (λ b. b == 10) text

-- the parts that are left behind one: none at the end, else those behind its line feed
abbrev pub parts_left : List ℕ → List (List ℕ)
parts_left [] = []
parts_left (b ∷ bytes) = parts bytes

-- a part as a line: only one before a line feed loses its carriage return
abbrev pub line_of : List ℕ → List ℕ → List ℕ
line_of part [] = part
line_of part (b ∷ bytes) = strip_carriage_return part

-- the last part as a line, where it isn't empty
abbrev pub last_placed : ℕ → List ℕ → List PlacedLine
last_placed first [] = []
last_placed first (b ∷ part) = (first, b ∷ part) ∷ []

-- the lines in parts, the first of which begins behind `first` bytes
unfoldable pub placed_from : ℕ → List (List ℕ) → List PlacedLine
placed_from first [] = []
placed_from first (part ∷ []) = last_placed first part
placed_from first (part ∷ next ∷ more) = (first, strip_carriage_return part) ∷ placed_from (first + length part + 1) (next ∷ more)

-- the lines of a rule file with their places
abbrev pub placed_lines : List ℕ → List PlacedLine
placed_lines text = placed_from 0 (parts text)

-- the rules of lines, or the refusal at the first word that offends
unfoldable pub rules_from : List PlacedLine → Result (List Rule) Refusal
rules_from [] = Ok []
rules_from (line ∷ others) = rules_at line.0 line.1 >>= λ here. rules_from others >>= λ behind. Ok (here ++ behind)

-- the rules of a rule file
abbrev pub rules_of : List ℕ → Result (List Rule) Refusal
rules_of text = rules_from (placed_lines text)

-- with other rules in front
abbrev pub behind : List Rule → Result (List Rule) Refusal → Result (List Rule) Refusal
behind front (Ok rules) = Ok (front ++ rules)
behind front (Err e) = Err e

-- rules were added, as is said; or the refusal is that which is said, or memory is wanted
abbrev pub Adds : {A : Type 0} → Result A Refusal → List Rule → List Rule → Result (List Rule) Refusal → Type 0
Adds (Ok _) old new said = behind old said ≡ Ok new
Adds (Err e) old new said = (e ≡ Memory) ⊎ (said ≡ Err e)
