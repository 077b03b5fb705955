-- The segments of what is lost go, object after object.
use Rattle.std.proofs.Common.{◌≡◌, ℕ, true, false, cond, List, [], ◌∷◌, ◌++◌, refl, sym, ap, ◌∙◌}
use Rattle.std.proofs.lemmas.Grind.{flat_map-append}
use Rattle.inventory_rows.specs.version_groups.declared.copies.CopyRow.{CopyRow}
use Rattle.inventory_rows.specs.version_groups.declared.group.Group.{Group}
use Rattle.inventory_rows.specs.version_groups.declared.groups.Filespace.{Filespace}
use Rattle.inventory_rows.specs.version_groups.declared.versions.Version.{Version}
use Rattle.inventory_rows.specs.object_rows.declared.held_object.HeldRow.{HeldRow}
use Rattle.inventory_rows.specs.object_rows.Filespaces.{versions_in, versions_of}
use Rattle.inventory_rows.specs.object_rows.HeldRows.{held_versions}
use Rattle.inventory_rows.specs.pool_rows.PoolRows.{PoolRows}
use Rattle.db_losses.specs.Losses.{Losses, is_lost, all_gone, lost_of, lost_of_copies, lost_of_groups}

pub joined : (a b : List (ℕ × CopyRow)) (day : ℕ) (s : PoolRows) → all_gone (a ++ b) day s ≡ all_gone b day (all_gone a day s)
joined [] b day s = refl
joined (e ∷ a) b day s = joined a b day (all_gone (e ∷ []) day s)

module _ (losses : Losses) (day : ℕ) where
  first_copy : (object : ℕ) (c : CopyRow) (cs : List CopyRow) → lost_of_copies losses object (c ∷ cs) ≡ lost_of_copies losses object (c ∷ []) ++ lost_of_copies losses object cs
  first_copy object c cs =
      elim (is_lost losses object c.pool) as (λ b. cond b ((object, c) ∷ lost_of_copies losses object cs) (lost_of_copies losses object cs) ≡ cond b ((object, c) ∷ []) [] ++ lost_of_copies losses object cs) [ true ↦ refl | false ↦ refl ]

  pub copy_first : (object : ℕ) (c : CopyRow) (cs : List CopyRow) (s : PoolRows) → all_gone (lost_of_copies losses object (c ∷ cs)) day s ≡ all_gone (lost_of_copies losses object cs) day (all_gone (lost_of_copies losses object (c ∷ [])) day s)
  copy_first object c cs s = ap (λ (l : List (ℕ × CopyRow)). all_gone l day s) (first_copy object c cs) ∙ joined (lost_of_copies losses object (c ∷ [])) (lost_of_copies losses object cs) day s

  pub version_first : (w : Version) (ws : List Version) (s : PoolRows) → all_gone (lost_of losses (w ∷ ws)) day s ≡ all_gone (lost_of losses ws) day (all_gone (lost_of_copies losses w.object w.copies) day s)
  version_first w ws s = joined (lost_of_copies losses w.object w.copies) (lost_of losses ws) day s

  pub lost_joined : (xs ys : List Version) → lost_of losses (xs ++ ys) ≡ lost_of losses xs ++ lost_of losses ys
  lost_joined xs ys = flat_map-append (λ (w : Version). lost_of_copies losses w.object w.copies) xs ys

  pub lost_in_groups : (gs : List (List ℕ × Group)) → lost_of_groups losses gs ≡ lost_of losses (versions_in gs)
  lost_in_groups [] = refl
  lost_in_groups (g ∷ gs) = ap (λ (l : List (ℕ × CopyRow)). lost_of losses g.1.versions ++ l) (lost_in_groups gs) ∙ sym (lost_joined g.1.versions (versions_in gs))

  -- a group more goes, with these left
  pub group_more : (g : List ℕ × Group) (rest all : List (List ℕ × Group)) (old now new : PoolRows) → new ≡ all_gone (lost_of losses g.1.versions) day now → all_gone (lost_of_groups losses (g ∷ rest)) day now ≡ all_gone (lost_of_groups losses all) day old
      → all_gone (lost_of_groups losses rest) day new ≡ all_gone (lost_of_groups losses all) day old
  group_more g rest all old now new made u = ap (all_gone (lost_of_groups losses rest) day) made ∙ sym (joined (lost_of losses g.1.versions) (lost_of_groups losses rest) day now) ∙ u

  pub filespace_more : (f : ℕ × Filespace) (rest all : List (ℕ × Filespace)) (old now new : PoolRows) → new ≡ all_gone (lost_of_groups losses f.1.groups) day now → all_gone (lost_of losses (versions_of (f ∷ rest))) day now ≡ all_gone (lost_of losses (versions_of all)) day old
      → all_gone (lost_of losses (versions_of rest)) day new ≡ all_gone (lost_of losses (versions_of all)) day old
  filespace_more f rest all old now new made u =
      ap (all_gone (lost_of losses (versions_of rest)) day) (made ∙ ap (λ (l : List (ℕ × CopyRow)). all_gone l day now) (lost_in_groups f.1.groups)) ∙ sym (joined (lost_of losses (versions_in f.1.groups)) (lost_of losses (versions_of rest)) day now)
      ∙ sym (ap (λ (l : List (ℕ × CopyRow)). all_gone l day now) (lost_joined (versions_in f.1.groups) (versions_of rest))) ∙ u

  pub held_more : (h : ℕ × HeldRow) (rest all : List (ℕ × HeldRow)) (old now new : PoolRows) → new ≡ all_gone (lost_of_copies losses h.1.held.version.object h.1.held.version.copies) day now
      → all_gone (lost_of losses (held_versions (h ∷ rest))) day now ≡ all_gone (lost_of losses (held_versions all)) day old → all_gone (lost_of losses (held_versions rest)) day new ≡ all_gone (lost_of losses (held_versions all)) day old
  held_more h rest all old now new made u =
      ap (all_gone (lost_of losses (held_versions rest)) day) made ∙ sym (joined (lost_of_copies losses h.1.held.version.object h.1.held.version.copies) (lost_of losses (held_versions rest)) day now) ∙ u

  pub all_kept_gone : (filespaces : List (ℕ × Filespace)) (held : List (ℕ × HeldRow)) (s : PoolRows) → all_gone (lost_of losses (held_versions held)) day (all_gone (lost_of losses (versions_of filespaces)) day s) ≡ all_gone (lost_of losses (versions_of filespaces ++ held_versions held)) day s
  all_kept_gone filespaces held s =
      sym (joined (lost_of losses (versions_of filespaces)) (lost_of losses (held_versions held)) day s) ∙ sym (ap (λ (l : List (ℕ × CopyRow)). all_gone l day s) (lost_joined (versions_of filespaces) (held_versions held)))
