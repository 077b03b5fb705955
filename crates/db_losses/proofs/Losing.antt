-- The objects of which no copy is left, object after object.
use Rattle.std.proofs.Common.{◌≡◌, ℕ, Bool, true, false, cond, not, ◌||◌, List, [], ◌∷◌, ◌++◌, map, filter, refl, sym, ap, ◌∙◌}
use Rattle.std.specs.BTreeMap.{insert_entry}
use Rattle.std.specs.List.{list_any}
use Rattle.std.specs.Map.{lookup}
use Rattle.std.specs.Ordering.{nat_cmp}
use Rattle.inventory_rows.specs.version_groups.declared.copies.CopyRow.{CopyRow}
use Rattle.inventory_rows.specs.version_groups.declared.group.Group.{Group}
use Rattle.inventory_rows.specs.version_groups.declared.groups.Filespace.{Filespace}
use Rattle.inventory_rows.specs.version_groups.declared.versions.Version.{Version}
use Rattle.inventory_rows.specs.version_groups.Entries.{is_nil}
use Rattle.inventory_rows.specs.object_rows.declared.held_object.HeldRow.{HeldRow}
use Rattle.inventory_rows.specs.object_rows.declared.place.Node.{Node}
use Rattle.inventory_rows.specs.object_rows.Filespaces.{at_number, filespace_at}
use Rattle.inventory_rows.specs.object_rows.Rows.{Rows}
use Rattle.db_losses.specs.declared.lost.Lost.{Lost}
use Rattle.db_losses.specs.Losses.{Losses, has_copies, version_left}
use Rattle.db_losses.specs.Lost.{all_put, lost_in_versions, lost_in_groups, lost_of_node, lost_in_filespaces, lost_held_in, lost_in_held, lost_rows}

-- a copy is left where one isn't lost
pub some_left : (q : CopyRow → Bool) (cs : List CopyRow) → not (is_nil (filter q cs)) ≡ list_any q cs
some_left q [] = refl
some_left q (c ∷ cs) = go (q c) (some_left q cs)
  where
    go : (b : Bool) → not (is_nil (filter q cs)) ≡ list_any q cs → not (is_nil (cond b (c ∷ filter q cs) (filter q cs))) ≡ (b || list_any q cs)
    go true below = refl
    go false below = below

pub put_joined : (a b out : List (ℕ × Lost)) → all_put (a ++ b) out ≡ all_put b (all_put a out)
put_joined [] b out = refl
put_joined (e ∷ a) b out = put_joined a b (insert_entry nat_cmp out e.0 e.1)

module _ (losses : Losses) where
  first_lost : (node space path : List ℕ) (w : Version) (ws : List Version) → lost_in_versions losses node space path (w ∷ ws) ≡ lost_in_versions losses node space path (w ∷ []) ++ lost_in_versions losses node space path ws
  first_lost node space path w ws = go (has_copies (version_left losses w))
    where
      row : Version → ℕ × Lost
      row u = (u.object, record { node = node; filespace = space; path = path })

      gone : List Version
      gone = filter (λ u. not (has_copies (version_left losses u))) ws

      go : (b : Bool) → map row (cond (not b) (w ∷ gone) gone) ≡ map row (cond (not b) (w ∷ []) []) ++ map row gone
      go true = refl
      go false = refl

  -- no copy of the version is left
  pub put_gone : (node space path : List ℕ) (w : Version) (out : List (ℕ × Lost)) → false ≡ has_copies (version_left losses w) → insert_entry nat_cmp out w.object (record { node = node; filespace = space; path = path }) ≡ all_put (lost_in_versions losses node space path (w ∷ [])) out
  put_gone node space path w out h =
      ap (λ (b : Bool). all_put (map (λ (u : Version). let lost : Lost = record { node = node; filespace = space; path = path } in (u.object, lost)) (cond (not b) (w ∷ []) [])) out) h

  -- one is
  pub put_kept : (node space path : List ℕ) (w : Version) (out : List (ℕ × Lost)) → true ≡ has_copies (version_left losses w) → out ≡ all_put (lost_in_versions losses node space path (w ∷ [])) out
  put_kept node space path w out h =
      ap (λ (b : Bool). all_put (map (λ (u : Version). let lost : Lost = record { node = node; filespace = space; path = path } in (u.object, lost)) (cond (not b) (w ∷ []) [])) out) h

  pub version_next : (node space path : List ℕ) (w : Version) (ws : List Version) (out : List (ℕ × Lost)) → all_put (lost_in_versions losses node space path (w ∷ ws)) out ≡ all_put (lost_in_versions losses node space path ws) (all_put (lost_in_versions losses node space path (w ∷ [])) out)
  version_next node space path w ws out = ap (λ (l : List (ℕ × Lost)). all_put l out) (first_lost node space path w ws) ∙ put_joined (lost_in_versions losses node space path (w ∷ [])) (lost_in_versions losses node space path ws) out

  pub group_next : (node space : List ℕ) (g : List ℕ × Group) (gs : List (List ℕ × Group)) (out : List (ℕ × Lost)) → all_put (lost_in_groups losses node space (g ∷ gs)) out ≡ all_put (lost_in_groups losses node space gs) (all_put (lost_in_versions losses node space g.0 g.1.versions) out)
  group_next node space g gs out = put_joined (lost_in_versions losses node space g.0 g.1.versions) (lost_in_groups losses node space gs) out

  pub filespace_next : (nodes : List (ℕ × Node)) (f : ℕ × Filespace) (fs : List (ℕ × Filespace)) (out : List (ℕ × Lost)) → all_put (lost_in_filespaces losses nodes (f ∷ fs)) out ≡ all_put (lost_in_filespaces losses nodes fs) (all_put (lost_of_node losses (lookup (at_number f.1.node) nodes) f.1) out)
  filespace_next nodes f fs out = put_joined (lost_of_node losses (lookup (at_number f.1.node) nodes) f.1) (lost_in_filespaces losses nodes fs) out

  pub held_next : (nodes : List (ℕ × Node)) (filespaces : List (ℕ × Filespace)) (h : ℕ × HeldRow) (hs : List (ℕ × HeldRow)) (out : List (ℕ × Lost)) →
      all_put (lost_in_held losses nodes filespaces (h ∷ hs)) out ≡ all_put (lost_in_held losses nodes filespaces hs) (all_put (lost_held_in losses nodes (filespace_at h.1.filespace filespaces) h.1) out)
  held_next nodes filespaces h hs out = put_joined (lost_held_in losses nodes (filespace_at h.1.filespace filespaces) h.1) (lost_in_held losses nodes filespaces hs) out

  pub all_listed : (rows : Rows) (nodes others : List (ℕ × Node)) (filespaces spaces : List (ℕ × Filespace)) (held : List (ℕ × HeldRow)) (start mid out : List (ℕ × Lost)) → nodes ≡ rows.nodes → others ≡ rows.nodes → filespaces ≡ rows.filespaces → spaces ≡ rows.filespaces → held ≡ rows.held
      → start ≡ [] → mid ≡ all_put (lost_in_filespaces losses nodes filespaces) start → out ≡ all_put (lost_in_held losses others spaces held) mid → out ≡ all_put (lost_rows losses rows) []
  all_listed rows nodes others filespaces spaces held start mid out n o f s h none first second =
      let a : List (ℕ × Filespace) → List (ℕ × Node) → List (ℕ × Lost) = λ fs ns. all_put (lost_in_filespaces losses ns fs) [] in
      second
      ∙ ap (λ (l : List (ℕ × Lost)). all_put (lost_in_held losses others spaces held) l) (first ∙ ap (λ (l : List (ℕ × Lost)). all_put (lost_in_filespaces losses nodes filespaces) l) none)
      ∙ ap (λ (l : List (ℕ × Node)). all_put (lost_in_held losses l spaces held) (a filespaces nodes)) o
      ∙ ap (λ (l : List (ℕ × Filespace)). all_put (lost_in_held losses rows.nodes l held) (a filespaces nodes)) s
      ∙ ap (λ (l : List (ℕ × HeldRow)). all_put (lost_in_held losses rows.nodes rows.filespaces l) (a filespaces nodes)) h
      ∙ ap (λ (l : List (ℕ × Node)). all_put (lost_in_held losses rows.nodes rows.filespaces rows.held) (a filespaces l)) n
      ∙ ap (λ (l : List (ℕ × Filespace)). all_put (lost_in_held losses rows.nodes rows.filespaces rows.held) (a l rows.nodes)) f
      ∙ sym (put_joined (lost_in_filespaces losses rows.nodes rows.filespaces) (lost_in_held losses rows.nodes rows.filespaces rows.held) [])
