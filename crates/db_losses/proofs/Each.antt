-- What is left of rows, one after the other.
use Rattle.std.proofs.Common.{◌≡◌, inl, inr, ℕ, Bool, true, false, cond, List, [], ◌∷◌, ◌++◌, map, refl}
use Rattle.inventory_rows.specs.version_groups.declared.group.Group.{Group}
use Rattle.inventory_rows.specs.version_groups.declared.groups.Filespace.{Filespace}
use Rattle.inventory_rows.specs.object_rows.declared.held_object.HeldRow.{HeldRow}
use Rattle.db_losses.specs.Losses.{Losses, filespace_left, group_left, groups_left, has_versions, held_left, helds_left, is_held}
use Rattle.db_losses.proofs.Building.{IsMadeOne}

module _ (losses : Losses) where
  pub group_first : (g : List ℕ × Group) (gs : List (List ℕ × Group)) → groups_left losses (g ∷ gs) ≡ groups_left losses (g ∷ []) ++ groups_left losses gs
  group_first g gs = go (has_versions (group_left losses g))
    where
      go : (b : Bool) → cond b (group_left losses g ∷ groups_left losses gs) (groups_left losses gs) ≡ cond b (group_left losses g ∷ []) [] ++ groups_left losses gs
      go true = refl
      go false = refl

  pub group_one : (g : List ℕ × Group) → IsMadeOne (groups_left losses) g
  group_one g = go (has_versions (group_left losses g)) refl
    where
      go : (b : Bool) → has_versions (group_left losses g) ≡ b → IsMadeOne (groups_left losses) g
      go true is = inr ((group_left losses g).1, rw (is) refl)
      go false is = inl (rw (is) refl)

  pub filespace_one : (f : ℕ × Filespace) → IsMadeOne (map (filespace_left losses)) f
  filespace_one f = inr ((filespace_left losses f).1, refl)

  pub held_first : (h : ℕ × HeldRow) (hs : List (ℕ × HeldRow)) → helds_left losses (h ∷ hs) ≡ helds_left losses (h ∷ []) ++ helds_left losses hs
  held_first h hs = go (is_held (held_left losses h))
    where
      go : (b : Bool) → cond b (held_left losses h ∷ helds_left losses hs) (helds_left losses hs) ≡ cond b (held_left losses h ∷ []) [] ++ helds_left losses hs
      go true = refl
      go false = refl

  pub held_one : (h : ℕ × HeldRow) → IsMadeOne (helds_left losses) h
  held_one h = go (is_held (held_left losses h)) refl
    where
      go : (b : Bool) → is_held (held_left losses h) ≡ b → IsMadeOne (helds_left losses) h
      go true is = inr ((held_left losses h).1, rw (is) refl)
      go false is = inl (rw (is) refl)
