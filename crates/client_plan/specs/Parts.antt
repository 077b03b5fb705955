-- What holds of a plan, whatever the rules are.
use Rattle.std.specs.Prelude.{◌≡◌, ℕ, ◌||◌, true, false, List, ◌++◌, length, map, is_some, if◌then◌else◌}
use Rattle.std.specs.List.{count_by}
use Rattle.std.specs.Str.{bytes_eq}
use Rattle.client_trees.specs.declared.tree.FileRow.{FileRow}
use Rattle.inventory_answers.specs.declared.lines.VersionLine.{VersionLine}
use Rattle.client_plan.specs.declared.lines.SendLine.{SendLine}
use Rattle.client_plan.specs.declared.lines.RebindLine.{RebindLine}
use Rattle.client_plan.specs.declared.lines.GoneLine.{GoneLine}
use Rattle.client_plan.specs.Classes.{is_left_out}
use Rattle.client_plan.specs.Plans.{Scheme, Lists, active_at, listed_at}

-- how often a path stands among these
abbrev pub times : List ℕ → List (List ℕ) → ℕ
times path paths = count_by (λ p. bytes_eq path p) paths

-- the paths of the files that are sent, those that are bound anew, and those whose active versions are none from then on
abbrev pub sent_paths : Lists → List (List ℕ)
sent_paths plan = map (λ (l : SendLine). l.file.path) plan.send

abbrev pub rebound_paths : Lists → List (List ℕ)
rebound_paths plan = map (λ (l : RebindLine). l.path) plan.rebind

abbrev pub gone_paths : Lists → List (List ℕ)
gone_paths plan = map (λ (l : GoneLine). l.path) plan.gone

-- all paths of a plan, where these are left as they are
abbrev pub all_paths : Lists → List (List ℕ) → List (List ℕ)
all_paths plan skipped = sent_paths plan ++ rebound_paths plan ++ gone_paths plan ++ plan.failed ++ skipped

-- Every path that is listed or has an active version stands in exactly one of the sets: it is sent, bound anew, gone, failed or
-- left as it is. It stands there once, and no other path does.
abbrev pub IsParted : List FileRow → List VersionLine → Lists → Type 0
IsParted files versions plan =
    (skipped : List (List ℕ)) × (length skipped ≡ plan.skip)
    × ((path : List ℕ) → times path (all_paths plan skipped) ≡ (if is_some (listed_at path files) || is_some (active_at path versions) then 1 else 0))

-- A path that is listed, and isn't left out, keeps its active version, whatever else becomes of it.
abbrev pub KeepsListed : Scheme → List FileRow → Lists → Type 0
KeepsListed s files plan = (path : List ℕ) → is_some (listed_at path files) ≡ true → is_left_out s.choice path ≡ false → times path (gone_paths plan) ≡ 0
