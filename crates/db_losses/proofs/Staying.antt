-- What is left stands in the order in which it stood.
use Rattle.std.proofs.Common.{◌≡◌, ℕ, Bool, true, false, cond, not, List, [], ◌∷◌, ◌++◌, filter, map, refl, sym, ap, subst, ◌∙◌}
use Rattle.std.specs.Prelude.{◌==◌, nat_lt}
use Rattle.std.specs.Cmp.Lexicographic.{slice_cmp}
use Rattle.std.specs.List.{list_all}
use Rattle.std.specs.Ordering.{nat_cmp}
use Rattle.std.proofs.lemmas.Bool.{and_from}
use Rattle.inventory_rows.specs.version_groups.declared.copies.CopyRow.{CopyRow}
use Rattle.inventory_rows.specs.version_groups.declared.groups.Filespace.{Filespace}
use Rattle.inventory_rows.specs.version_groups.declared.versions.Version.{Version}
use Rattle.inventory_rows.specs.version_groups.Copies.{are_by_pool}
use Rattle.inventory_rows.specs.version_groups.Versions.{are_distinct}
use Rattle.inventory_rows.specs.object_rows.declared.held_object.HeldRow.{HeldRow}
use Rattle.inventory_rows.specs.object_rows.declared.place.Node.{Node}
use Rattle.inventory_rows.specs.object_rows.HeldRows.{are_held_rows, is_held_row}
use Rattle.inventory_rows.specs.object_rows.Index.{AreDistinct}
use Rattle.inventory_rows.specs.object_rows.Names.{name_in, named_of}
use Rattle.inventory_rows.specs.object_rows.Places.{are_all_full, are_full}
use Rattle.inventory_rows.specs.object_rows.Rows.{IsSound, Rows, kept_of}
use Rattle.db_losses.specs.Losses.{Losses, version_left, has_copies, versions_left, group_left, has_versions, groups_left, filespace_left, held_left, is_held, helds_left, rows_left}
use Rattle.db_losses.proofs.Flat.{kept_left}
use Rattle.db_losses.proofs.Kept.{later_kept, later_mapped, made_kept}

pub filter_by_pool : (p : CopyRow → Bool) (cs : List CopyRow) → are_by_pool cs ≡ true → are_by_pool (filter p cs) ≡ true
filter_by_pool p cs h = later_kept (λ (c d : CopyRow). nat_lt c.pool d.pool) p cs h

pub left_distinct : (losses : Losses) (vs : List Version) → are_distinct vs ≡ true → are_distinct (versions_left losses vs) ≡ true
left_distinct losses vs h =
    later_kept (λ (a b : Version). not (b.object == a.object)) has_copies (map (version_left losses) vs) (later_mapped (λ (a b : Version). not (b.object == a.object)) (version_left losses) (λ a b. refl) vs ∙ h)

-- ---- the rows that are left are sound

all_pass : {X : Type 0} (p : X → Bool) (xs : List X) → list_all p (filter p xs) ≡ true
all_pass p [] = refl
all_pass {X} p (x ∷ xs) = go (all_pass p xs) (p x) refl
  where
    go : list_all p (filter p xs) ≡ true → (b : Bool) → p x ≡ b → list_all p (cond b (x ∷ filter p xs) (filter p xs)) ≡ true
    go below true is = and_from (p x) (list_all p (filter p xs)) is below
    go below false is = below

module _ (losses : Losses) where
  full_left : (fs : List (ℕ × Filespace)) → are_all_full (map (filespace_left losses) fs) ≡ true
  full_left [] = refl
  full_left (f ∷ fs) = and_from (are_full (groups_left losses f.1.groups)) (are_all_full (map (filespace_left losses) fs)) (all_pass has_versions (map (group_left losses) f.1.groups)) (full_left fs)

  named_left : (node : ℕ) (fs : List (ℕ × Filespace)) → named_of node (map (filespace_left losses) fs) ≡ named_of node fs
  named_left node [] = refl
  named_left node (f ∷ fs) = ap (λ (l : List (List ℕ × ℕ)). name_in node f.0 f.1 ++ l) (named_left node fs)

  held_left_rows : (held : List (ℕ × HeldRow)) → are_held_rows held ≡ true → are_held_rows (helds_left losses held) ≡ true
  held_left_rows held h = made_kept is_held_row is_held is_held_row (held_left losses) (λ row is kept. is) held h

  pub sound_left : (rows : Rows) → IsSound rows → IsSound (rows_left losses rows)
  sound_left rows s = record {
    names = s.names;
    spaces = λ node. subst (AreDistinct (slice_cmp nat_cmp)) (sym (named_left node rows.filespaces)) (s.spaces node);
    objects = ap are_distinct (kept_left losses rows) ∙ left_distinct losses (kept_of rows) s.objects;
    full = full_left rows.filespaces;
    held = held_left_rows rows.held s.held;
  }

  -- rows that are made of what is left are what is left of the rows
  pub rows_are : (rows : Rows) (nodes : List (ℕ × Node)) (filespaces : List (ℕ × Filespace)) (held : List (ℕ × HeldRow)) → nodes ≡ rows.nodes → filespaces ≡ map (filespace_left losses) rows.filespaces → held ≡ helds_left losses rows.held
      → (let made : Rows = record { nodes = nodes; filespaces = filespaces; held = held } in made ≡ rows_left losses rows)
  rows_are rows nodes filespaces held n f h =
      ap (λ (l : List (ℕ × Node)). let made : Rows = record { nodes = l; filespaces = filespaces; held = held } in made) n
      ∙ ap (λ (l : List (ℕ × Filespace)). let made : Rows = record { nodes = rows.nodes; filespaces = l; held = held } in made) f
      ∙ ap (λ (l : List (ℕ × HeldRow)). let made : Rows = record { nodes = rows.nodes; filespaces = map (filespace_left losses) rows.filespaces; held = l } in made) h
