-- Which versions of a filespace are restored.
use Rattle.std.specs.Prelude.{ℕ, ◌==◌, nat_le, nat_lt, Bool, true, false, not, ◌&&◌, is_some, List, [], ◌∷◌, map, filter, Option, None, Some, if◌then◌else◌}
use Rattle.std.specs.Option.{option_map_or}
use Rattle.kinds.specs.Names.{is_same_name}
use Rattle.path_patterns.specs.Patterns.{is_match}
use Rattle.inventory_answers.specs.declared.lines.VersionLine.{VersionLine}
use Rattle.restores.specs.declared.choosing.RestoreLine.{RestoreLine}
use Rattle.restores.specs.declared.choosing.Which.{Which}
use Rattle.restores.specs.declared.choosing.Which.TheVariants as which

abbrev pub is_active : VersionLine → Bool
is_active l = not (is_some l.since)

-- it was stored by the end of that day, and another version or none took its place only later
abbrev pub was_active : ℕ → VersionLine → Bool
was_active day l = nat_le l.stored day && option_map_or (λ since. nat_lt day since) l.since true

abbrev pub asks : Which → VersionLine → Bool
asks which.Active l = is_active l
asks (which.On day) l = was_active day l
asks (which.Object object) l = l.object == object
asks (which.Like pattern) l = is_active l && is_match pattern l.path

-- the last version that was taken is of this path
abbrev pub is_last : Option (List ℕ) → List ℕ → Bool
is_last None path = false
is_last (Some last) path = is_same_name last path

-- Of versions that stand by path the first of each path; of the path of the last one that was taken no other.
abbrev pub firsts : (last : Option (List ℕ)) → List VersionLine → List VersionLine
firsts last [] = []
firsts last (l ∷ lines) = if is_last last l.path then firsts last lines else l ∷ firsts (Some l.path) lines

-- a version as it is restored
abbrev pub line_of : VersionLine → RestoreLine
line_of l = record { path = l.path; stored = record { object = l.object; size = l.size; mtime = l.mtime; digest = l.digest } }

-- what is restored of the versions of a filespace, which stand by path and of each path the newest first
abbrev pub chosen : Which → List VersionLine → List RestoreLine
chosen which lines = map line_of (firsts None (filter (asks which) lines))
