-- What is left of all objects, as one list.
use Rattle.std.proofs.Common.{◌≡◌, ℕ, Bool, true, false, cond, not, List, [], ◌∷◌, ◌++◌, map, filter, refl, sym, ap, ◌∙◌}
use Rattle.std.specs.List.{flat_map}
use Rattle.std.proofs.lemmas.List.{map-append}
use Rattle.std.proofs.lemmas.List.Elements.{filter-append}
use Rattle.inventory_rows.specs.version_groups.declared.copies.CopyRow.{CopyRow}
use Rattle.inventory_rows.specs.version_groups.declared.group.Group.{Group}
use Rattle.inventory_rows.specs.version_groups.declared.groups.Filespace.{Filespace}
use Rattle.inventory_rows.specs.version_groups.declared.versions.Version.{Version}
use Rattle.inventory_rows.specs.object_rows.declared.held_object.HeldRow.{HeldRow}
use Rattle.inventory_rows.specs.object_rows.Filespaces.{versions_in, versions_of}
use Rattle.inventory_rows.specs.object_rows.HeldRows.{held_versions}
use Rattle.inventory_rows.specs.object_rows.Rows.{Rows, kept_of}
use Rattle.inventory_rows.specs.Search.{copies, versions}
use Rattle.inventory_rows.specs.State.{Inv}
use Rattle.db_losses.specs.Losses.{Losses, is_lost, version_left, has_copies, versions_left, has_versions, groups_left, filespace_left, held_left, helds_left, rows_left, lost_of_copies, lost_of, restored}

module _ (losses : Losses) where
  pub left_joined : (xs ys : List Version) → versions_left losses (xs ++ ys) ≡ versions_left losses xs ++ versions_left losses ys
  left_joined xs ys = ap (filter has_copies) (map-append (version_left losses) xs ys) ∙ filter-append has_copies (map (version_left losses) xs) (map (version_left losses) ys)

  -- a group without versions has none
  emptied : (path class : List ℕ) (vs : List Version) (rest : List (List ℕ × Group)) → (let g : List ℕ × Group = (path, record { class = class; versions = vs }) in versions_in (cond (has_versions g) (g ∷ rest) rest) ≡ vs ++ versions_in rest)
  emptied path class [] rest = refl
  emptied path class (v ∷ vs) rest = refl

  in_groups : (gs : List (List ℕ × Group)) → versions_in (groups_left losses gs) ≡ versions_left losses (versions_in gs)
  in_groups [] = refl
  in_groups (g ∷ gs) =
      emptied g.0 g.1.class (versions_left losses g.1.versions) (groups_left losses gs)
      ∙ ap (λ (r : List Version). versions_left losses g.1.versions ++ r) (in_groups gs) ∙ sym (left_joined g.1.versions (versions_in gs))

  in_filespaces : (fs : List (ℕ × Filespace)) → versions_of (map (filespace_left losses) fs) ≡ versions_left losses (versions_of fs)
  in_filespaces [] = refl
  in_filespaces (f ∷ fs) =
      ap (λ (l : List Version). l ++ versions_of (map (filespace_left losses) fs)) (in_groups f.1.groups)
      ∙ ap (λ (r : List Version). versions_left losses (versions_in f.1.groups) ++ r) (in_filespaces fs) ∙ sym (left_joined (versions_in f.1.groups) (versions_of fs))

  in_held : (held : List (ℕ × HeldRow)) → held_versions (helds_left losses held) ≡ versions_left losses (held_versions held)
  in_held [] = refl
  in_held (h ∷ held) =
      elim (has_copies (version_left losses h.1.held.version)) as (λ b. held_versions (cond b (held_left losses h ∷ helds_left losses held) (helds_left losses held)) ≡ cond b (version_left losses h.1.held.version ∷ versions_left losses (held_versions held)) (versions_left losses (held_versions held))) [
        | true ↦ ap (λ (r : List Version). version_left losses h.1.held.version ∷ r) (in_held held)
        | false ↦ in_held held
      ]

  pub kept_left : (rows : Rows) → kept_of (rows_left losses rows) ≡ versions_left losses (kept_of rows)
  kept_left rows =
      ap (λ (l : List Version). l ++ held_versions (helds_left losses rows.held)) (in_filespaces rows.filespaces)
      ∙ ap (λ (r : List Version). versions_left losses (versions_of rows.filespaces) ++ r) (in_held rows.held) ∙ sym (left_joined (versions_of rows.filespaces) (held_versions rows.held))

  -- ---- copies

  abbrev row : Version → List (ℕ × CopyRow)
  row w = map (λ c. (w.object, c)) w.copies

  abbrev stays : ℕ × CopyRow → Bool
  stays e = not (is_lost losses e.0 e.1.pool)

  of_one : (object : ℕ) (cs : List CopyRow) → map (λ c. (object, c)) (filter (λ c. not (is_lost losses object c.pool)) cs) ≡ filter stays (map (λ c. (object, c)) cs)
  of_one object [] = refl
  of_one object (c ∷ cs) =
      elim (not (is_lost losses object c.pool)) as (λ b. map (λ (x : CopyRow). (object, x)) (cond b (c ∷ filter (λ x. not (is_lost losses object x.pool)) cs) (filter (λ x. not (is_lost losses object x.pool)) cs)) ≡ cond b ((object, c) ∷ filter stays (map (λ (x : CopyRow). (object, x)) cs)) (filter stays (map (λ (x : CopyRow). (object, x)) cs))) [
        | true ↦ ap (λ (r : List (ℕ × CopyRow)). (object, c) ∷ r) (of_one object cs)
        | false ↦ of_one object cs
      ]

  -- a version without copies has none
  none_there : (w : Version) (cs : List CopyRow) (rest : List Version) → (let u : Version = record w { copies = cs } in flat_map row (cond (has_copies u) (u ∷ rest) rest) ≡ map (λ c. (w.object, c)) cs ++ flat_map row rest)
  none_there w [] rest = refl
  none_there w (c ∷ cs) rest = refl

  pub copies_of_left : (vs : List Version) → flat_map row (versions_left losses vs) ≡ filter stays (flat_map row vs)
  copies_of_left [] = refl
  copies_of_left (w ∷ vs) =
      none_there w (filter (λ c. not (is_lost losses w.object c.pool)) w.copies) (versions_left losses vs)
      ∙ ap (λ (l : List (ℕ × CopyRow)). l ++ flat_map row (versions_left losses vs)) (of_one w.object w.copies)
      ∙ ap (λ (r : List (ℕ × CopyRow)). filter stays (row w) ++ r) (copies_of_left vs) ∙ sym (filter-append stays (row w) (flat_map row vs))

  pub lost_of_all : (vs : List Version) → lost_of losses vs ≡ filter (λ e. is_lost losses e.0 e.1.pool) (flat_map row vs)
  lost_of_all [] = refl
  lost_of_all (w ∷ vs) =
      ap (λ (r : List (ℕ × CopyRow)). lost_of_copies losses w.object w.copies ++ r) (lost_of_all vs)
      ∙ sym (filter-append (λ (e : ℕ × CopyRow). is_lost losses e.0 e.1.pool) (row w) (flat_map row vs))

pub versions_restored : (losses : Losses) (file day : ℕ) (v : Inv) → versions (restored losses file day v) ≡ versions_left losses (versions v)
unfolding restored
versions_restored losses file day v = kept_left losses v.clients

pub copies_restored : (losses : Losses) (file day : ℕ) (v : Inv) → copies (restored losses file day v) ≡ filter (λ e. not (is_lost losses e.0 e.1.pool)) (copies v)
copies_restored losses file day v = ap (flat_map (λ (w : Version). map (λ (c : CopyRow). (w.object, c)) w.copies)) (versions_restored losses file day v) ∙ copies_of_left losses (versions v)
