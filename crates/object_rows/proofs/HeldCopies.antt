-- A copy lies in a pool where a version, or a held object, has one there.
use Rattle.std.proofs.Common.{◌≡◌, ℕ, Bool, ◌||◌, List, [], ◌∷◌, map, refl, sym, ap, ◌∙◌}
use Rattle.std.specs.List.{flat_map, list_any}
use Rattle.std.specs.Prelude.{◌==◌}
use Rattle.std.proofs.lemmas.List.Folds.{list_any-append}
use Rattle.version_groups.specs.declared.copies.CopyRow.{CopyRow}
use Rattle.version_groups.specs.declared.group.Group.{Group}
use Rattle.version_groups.specs.declared.groups.Filespace.{Filespace}
use Rattle.version_groups.specs.declared.versions.Version.{Version}
use Rattle.version_groups.specs.Copies.{has_copy}
use Rattle.object_rows.specs.declared.held_object.HeldRow.{HeldRow}
use Rattle.object_rows.specs.Filespaces.{versions_in, versions_of}
use Rattle.object_rows.specs.Held.{filespaces_hold, groups_hold, held_hold, holds_copy, versions_hold}
use Rattle.object_rows.specs.HeldRows.{held_versions}
use Rattle.object_rows.specs.Rows.{Rows, kept_of}

abbrev lies_in : ℕ → ℕ × CopyRow → Bool
lies_in pool e = e.1.pool == pool

abbrev with_object : Version → List (ℕ × CopyRow)
with_object w = map (λ (c : CopyRow). (w.object, c)) w.copies

of_one : (pool object : ℕ) (cs : List CopyRow) → list_any (lies_in pool) (map (λ (c : CopyRow). (object, c)) cs) ≡ has_copy pool cs
of_one pool object [] = refl
of_one pool object (c ∷ cs) = ap (λ b. (c.pool == pool) || b) (of_one pool object cs)

of_all : (pool : ℕ) (ws : List Version) → list_any (lies_in pool) (flat_map with_object ws) ≡ versions_hold pool ws
of_all pool [] = refl
of_all pool (w ∷ ws) =
    list_any-append (lies_in pool) (with_object w) (flat_map with_object ws) ∙ ap (λ b. b || list_any (lies_in pool) (flat_map with_object ws)) (of_one pool w.object w.copies)
    ∙ ap (λ b. has_copy pool w.copies || b) (of_all pool ws)

of_groups : (pool : ℕ) (gs : List (List ℕ × Group)) → versions_hold pool (versions_in gs) ≡ groups_hold pool gs
of_groups pool [] = refl
of_groups pool (g ∷ gs) =
    list_any-append (λ (w : Version). has_copy pool w.copies) g.1.versions (versions_in gs) ∙ ap (λ b. versions_hold pool g.1.versions || b) (of_groups pool gs)

of_filespaces : (pool : ℕ) (fs : List (ℕ × Filespace)) → versions_hold pool (versions_of fs) ≡ filespaces_hold pool fs
of_filespaces pool [] = refl
of_filespaces pool (f ∷ fs) =
    list_any-append (λ (w : Version). has_copy pool w.copies) (versions_in f.1.groups) (versions_of fs)
    ∙ ap (λ b. b || versions_hold pool (versions_of fs)) (of_groups pool f.1.groups) ∙ ap (λ b. groups_hold pool f.1.groups || b) (of_filespaces pool fs)

of_held : (pool : ℕ) (held : List (ℕ × HeldRow)) → versions_hold pool (held_versions held) ≡ held_hold pool held
of_held pool [] = refl
of_held pool (e ∷ es) = ap (λ b. has_copy pool e.1.held.version.copies || b) (of_held pool es)

pub kept : (pool : ℕ) (rows : Rows) → (filespaces_hold pool rows.filespaces || held_hold pool rows.held) ≡ holds_copy pool rows
kept pool rows =
    sym (of_all pool (kept_of rows)
    ∙ list_any-append (λ (w : Version). has_copy pool w.copies) (versions_of rows.filespaces) (held_versions rows.held)
    ∙ ap (λ b. b || versions_hold pool (held_versions rows.held)) (of_filespaces pool rows.filespaces)
    ∙ ap (λ b. filespaces_hold pool rows.filespaces || b) (of_held pool rows.held))
