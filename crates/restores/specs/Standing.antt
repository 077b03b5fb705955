-- What a client's tree has behind the restore of several objects.
use Rattle.std.specs.Prelude.{◌≡◌, ◌≢◌, ◌⊎◌, ℕ, List, [], ◌∷◌, length, Some}
use Rattle.std.specs.Cmp.Lexicographic.{slice_cmp}
use Rattle.std.specs.List.{AllByRecursion}
use Rattle.std.specs.Ordering.{nat_cmp}
use Rattle.std.specs.declared.cmp.Ordering.TheVariants.{Less}
use Rattle.sha2.specs.Sha256.{sha256}
use Rattle.kinds.specs.ValueForms.{digest_with}
use Rattle.client_files.specs.declared.outcome.Gave.{Gave}
use Rattle.client_files.specs.declared.outcome.Gave.TheVariants as gave
use Rattle.client_trees.specs.Files.{Files, file_at}
use Rattle.inventory_answers.specs.declared.lines.VersionLine.{VersionLine}
use Rattle.restores.specs.declared.choosing.RestoreLine.{RestoreLine}

-- no object is restored to this path
abbrev pub IsNoneOf : List ℕ → List RestoreLine → Type 0
IsNoneOf path lines = AllByRecursion (λ (l : RestoreLine). path ≢ l.path) lines

-- no two are restored to one path
abbrev pub AreApart : List RestoreLine → Type 0
AreApart [] = Unit {0}
AreApart (l ∷ lines) = IsNoneOf l.path lines × AreApart lines

-- each version stands at the path before, or behind it
abbrev pub AscendFrom : List ℕ → List VersionLine → Type 0
AscendFrom path lines = AllByRecursion (λ (l : VersionLine). (path ≡ l.path) ⊎ (slice_cmp nat_cmp path l.path ≡ Less)) lines

-- versions stand by path
abbrev pub Ascend : List VersionLine → Type 0
Ascend [] = Unit {0}
Ascend (l ∷ lines) = AscendFrom l.path lines × Ascend lines

-- at the object's path stands a file of its size and its time, whose SHA-256 is the kept one
abbrev pub HasFileOf : RestoreLine → Files → Type 0
HasFileOf l files =
    (bytes : List ℕ) × (file_at l.path files ≡ Some (record { bytes = bytes; mtime = l.stored.mtime }))
    × (length bytes ≡ l.stored.size) × (l.stored.digest ≡ digest_with (sha256 bytes))

abbrev pub HasFileIf : Gave → RestoreLine → Files → Type 0
HasFileIf gave.Restored l files = HasFileOf l files
HasFileIf _ l files = Unit {0}

-- each that was restored has its file
abbrev pub HaveFiles : List RestoreLine → List Gave → Files → Type 0
HaveFiles (l ∷ lines) (g ∷ given) files = HasFileIf g l files × HaveFiles lines given files
HaveFiles _ _ files = Unit {0}
