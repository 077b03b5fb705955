-- All that is kept, where the copies of one object have others in their place.
use Rattle.std.proofs.Common.{◌≡◌, ℕ, List, [], ◌∷◌, ◌++◌, refl, sym, ap, ◌∙◌}
use Rattle.inventory_rows.specs.version_groups.declared.copies.CopyRow.{CopyRow}
use Rattle.inventory_rows.specs.version_groups.declared.group.Group.{Group}
use Rattle.inventory_rows.specs.version_groups.declared.groups.Filespace.{Filespace}
use Rattle.inventory_rows.specs.version_groups.declared.versions.Version.{Version}
use Rattle.inventory_rows.specs.version_groups.Versions.{having_copies, with_copies}
use Rattle.inventory_rows.specs.object_rows.declared.held_object.HeldRow.{HeldRow}
use Rattle.inventory_rows.specs.object_rows.Filespaces.{filespaces_copied, groups_copied, versions_in, versions_of}
use Rattle.inventory_rows.specs.object_rows.HeldRows.{held_copied, held_versions}
use Rattle.inventory_rows.specs.object_rows.Rows.{Rows, kept_of, rows_copied}

map-joined : (k : ℕ) (cs : List CopyRow) (vs ws : List Version) → with_copies k cs (vs ++ ws) ≡ with_copies k cs vs ++ with_copies k cs ws
map-joined k cs [] ws = refl
map-joined k cs (v ∷ vs) ws = ap (λ l. having_copies k cs v ∷ l) (map-joined k cs vs ws)

versions_in-copied : (k : ℕ) (cs : List CopyRow) (gs : List (List ℕ × Group)) → versions_in (groups_copied k cs gs) ≡ with_copies k cs (versions_in gs)
versions_in-copied k cs [] = refl
versions_in-copied k cs (g ∷ gs) = ap (λ l. with_copies k cs g.1.versions ++ l) (versions_in-copied k cs gs) ∙ sym (map-joined k cs g.1.versions (versions_in gs))

pub versions_of-copied : (k : ℕ) (cs : List CopyRow) (fs : List (ℕ × Filespace)) → versions_of (filespaces_copied k cs fs) ≡ with_copies k cs (versions_of fs)
versions_of-copied k cs [] = refl
versions_of-copied k cs (f ∷ fs) =
    ap (λ l. l ++ versions_of (filespaces_copied k cs fs)) (versions_in-copied k cs f.1.groups) ∙ ap (λ l. with_copies k cs (versions_in f.1.groups) ++ l) (versions_of-copied k cs fs)
    ∙ sym (map-joined k cs (versions_in f.1.groups) (versions_of fs))

held_versions-copied : (k : ℕ) (cs : List CopyRow) (held : List (ℕ × HeldRow)) → held_versions (held_copied k cs held) ≡ with_copies k cs (held_versions held)
held_versions-copied k cs [] = refl
held_versions-copied k cs (h ∷ held) = ap (λ l. having_copies k cs h.1.held.version ∷ l) (held_versions-copied k cs held)

pub kept_of-copied : (k : ℕ) (cs : List CopyRow) (rows : Rows) → kept_of (rows_copied k cs rows) ≡ with_copies k cs (kept_of rows)
kept_of-copied k cs rows =
    ap (λ l. l ++ held_versions (held_copied k cs rows.held)) (versions_of-copied k cs rows.filespaces)
    ∙ ap (λ l. with_copies k cs (versions_of rows.filespaces) ++ l) (held_versions-copied k cs rows.held)
    ∙ sym (map-joined k cs (versions_of rows.filespaces) (held_versions rows.held))
