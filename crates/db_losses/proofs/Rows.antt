-- What is left of the objects of a valid database is as it has to be.
use Rattle.std.proofs.Common.{◌≡◌, ℕ, ◌≤◌, Bool, true, false, cond, not, List, [], ◌∷◌, length, map, filter, Some, is_some, refl, sym, ap, ◌∙◌, arith}
use Rattle.std.specs.Prelude.{◌&&◌, ◌||◌, ◌==◌, nat_le, nat_lt}
use Rattle.std.specs.List.{list_all, flat_map, sum_by}
use Rattle.std.specs.Map.{keys_of, lookup}
use Rattle.std.specs.Option.{option_map_or}
use Rattle.std.proofs.lemmas.Bool.{and_parts, and_from, leb-true, le-leb}
use Rattle.std.proofs.lemmas.List.Folds.{list_all-map}
use Rattle.inventory_rows.specs.version_groups.declared.copies.CopyRow.{CopyRow}
use Rattle.inventory_rows.specs.version_groups.declared.group.Group.{Group}
use Rattle.inventory_rows.specs.version_groups.declared.groups.Filespace.{Filespace}
use Rattle.inventory_rows.specs.version_groups.declared.versions.Version.{Version}
use Rattle.inventory_rows.specs.version_groups.Entries.{all_later, is_nil}
use Rattle.inventory_rows.specs.version_groups.Copies.{are_by_pool}
use Rattle.inventory_rows.specs.version_groups.Versions.{are_distinct, is_empty}
use Rattle.inventory_rows.specs.object_rows.declared.held_object.HeldRow.{HeldRow}
use Rattle.inventory_rows.specs.object_rows.Filespaces.{at_number, filespace_at}
use Rattle.inventory_rows.specs.object_rows.HeldRows.{is_held_row}
use Rattle.inventory_rows.specs.Search.{copies, is_primary_kind, pool, versions}
use Rattle.inventory_rows.specs.State.{Inv}
use Rattle.kinds.specs.Names.{is_same_name}
use Rattle.inventory_rules.specs.Common.{with_clients}
use Rattle.inventory_rules.specs.Halfway.{VersionFacts}
use Rattle.inventory_rules.specs.Valid.{are_all_inactive, is_copied, is_orderly, lie_in, primary_copies}
use Rattle.db_losses.specs.Losses.{Losses, is_lost, version_left, has_copies, versions_left, group_left, has_versions, groups_left, filespace_left, held_left, is_held, rows_left}
use Rattle.db_losses.proofs.Kept.{all_kept, later_kept, later_mapped, made_kept, fewer}
use Rattle.db_losses.proofs.Flat.{kept_left, copies_of_left}

-- ---- a path's versions

behind : List Version → List Version
behind [] = []
behind (newest ∷ older) = older

abbrev falls : Version → Version → Bool
falls a b = option_map_or (λ y. option_map_or (λ x. nat_le y x) a.since true) b.since true

parts_of : (class : List ℕ) (vs : List Version) → is_orderly (record { class = class; versions = vs }) ≡ true → (are_all_inactive (behind vs) ≡ true) × (all_later falls vs ≡ true)
unfolding behind
parts_of class [] h = absurd (cc)
parts_of class (v ∷ vs) h = (let parts = and_parts (are_all_inactive vs) (all_later falls (v ∷ vs)) h in (parts.0, parts.1))

orderly_from : (class : List ℕ) (vs : List Version) → is_empty vs ≡ false → are_all_inactive (behind vs) ≡ true → all_later falls vs ≡ true → is_orderly (record { class = class; versions = vs }) ≡ true
unfolding behind
orderly_from class [] some inactive fall = absurd (cc)
orderly_from class (v ∷ vs) some inactive fall = and_from (are_all_inactive vs) (all_later falls (v ∷ vs)) inactive fall

rest_inactive : (vs : List Version) → are_all_inactive vs ≡ true → are_all_inactive (behind vs) ≡ true
unfolding behind
rest_inactive [] h = refl
rest_inactive (v ∷ vs) h = (and_parts (is_some v.since) (are_all_inactive vs) h).1

module _ (losses : Losses) where
  inactive_left : (vs : List Version) → are_all_inactive vs ≡ true → are_all_inactive (versions_left losses vs) ≡ true
  inactive_left vs h = made_kept (λ w. is_some w.since) has_copies (λ w. is_some w.since) (version_left losses) (λ w is kept. is) vs h

  behind_left : (vs : List Version) → are_all_inactive (behind vs) ≡ true → are_all_inactive (behind (versions_left losses vs)) ≡ true
  unfolding behind
  behind_left [] h = refl
  behind_left (v ∷ vs) h =
      elim (has_copies (version_left losses v)) as (λ b. are_all_inactive (behind (cond b (version_left losses v ∷ versions_left losses vs) (versions_left losses vs))) ≡ true) [
        | true ↦ inactive_left vs h
        | false ↦ rest_inactive (versions_left losses vs) (inactive_left vs h)
      ]

  falls_left : (vs : List Version) → all_later falls vs ≡ true → all_later falls (versions_left losses vs) ≡ true
  falls_left vs h = later_kept falls has_copies (map (version_left losses) vs) (later_mapped falls (version_left losses) (λ a b. refl) vs ∙ h)

  some_left : (b : Bool) → not b ≡ true → b ≡ false
  some_left true h = absurd (cc)
  some_left false h = refl

  group_orderly : (g : List ℕ × Group) → is_orderly g.1 ≡ true → has_versions (group_left losses g) ≡ true → is_orderly (group_left losses g).1 ≡ true
  group_orderly g h some =
      let parts = parts_of g.1.class g.1.versions h in
      orderly_from g.1.class (versions_left losses g.1.versions) (some_left (is_empty (versions_left losses g.1.versions)) some) (behind_left g.1.versions parts.0) (falls_left g.1.versions parts.1)

  orderly_left : (fs : List (ℕ × Filespace)) → list_all (λ f. list_all (λ g. is_orderly g.1) f.1.groups) fs ≡ true → list_all (λ f. list_all (λ g. is_orderly g.1) f.1.groups) (map (filespace_left losses) fs) ≡ true
  orderly_left [] h = refl
  orderly_left (f ∷ fs) h =
      let parts = and_parts (list_all (λ (g : List ℕ × Group). is_orderly g.1) f.1.groups) (list_all (λ (e : ℕ × Filespace). list_all (λ (g : List ℕ × Group). is_orderly g.1) e.1.groups) fs) h in
      and_from (list_all (λ (g : List ℕ × Group). is_orderly g.1) (groups_left losses f.1.groups)) (list_all (λ (e : ℕ × Filespace). list_all (λ (g : List ℕ × Group). is_orderly g.1) e.1.groups) (map (filespace_left losses) fs))
      (made_kept (λ (g : List ℕ × Group). is_orderly g.1) has_versions (λ (g : List ℕ × Group). is_orderly g.1) (group_left losses) group_orderly f.1.groups parts.0)
      (orderly_left fs parts.1)

  -- ---- a version's copies

  few_primary : (v : Inv) (w : Version) → nat_le (length (primary_copies v w)) 1 ≡ true → nat_le (length (primary_copies v (version_left losses w))) 1 ≡ true
  few_primary v w h =
      let less = fewer (λ (c : CopyRow). option_map_or (λ p. is_primary_kind p.kind) (pool c.pool v) false) (λ (c : CopyRow). not (is_lost losses w.object c.pool)) w.copies in
      let few : length (primary_copies v w) ≤ 1 = leb-true (length (primary_copies v w)) 1 h in
      le-leb (length (primary_copies v (version_left losses w))) 1 (omega (arith, less, few))

  copied_left : (v : Inv) (w : Version) → is_copied v w ≡ true → has_copies (version_left losses w) ≡ true → is_copied v (version_left losses w) ≡ true
  copied_left v w h some =
      let u : Version = version_left losses w in
      let a = and_parts (not (is_nil w.copies)) (nat_le (length (primary_copies v w)) 1 && (are_by_pool w.copies && list_all (λ c. sum_by (λ s. s.len) c.segments == w.size) w.copies)) h in
      let b = and_parts (nat_le (length (primary_copies v w)) 1) (are_by_pool w.copies && list_all (λ c. sum_by (λ s. s.len) c.segments == w.size) w.copies) a.1 in
      let c = and_parts (are_by_pool w.copies) (list_all (λ c. sum_by (λ s. s.len) c.segments == w.size) w.copies) b.1 in
      and_from (not (is_nil u.copies)) (nat_le (length (primary_copies v u)) 1 && (are_by_pool u.copies && list_all (λ c. sum_by (λ s. s.len) c.segments == w.size) u.copies)) some
      (and_from (nat_le (length (primary_copies v u)) 1) (are_by_pool u.copies && list_all (λ c. sum_by (λ s. s.len) c.segments == w.size) u.copies) (few_primary v w b.0)
      (and_from (are_by_pool u.copies) (list_all (λ c. sum_by (λ s. s.len) c.segments == w.size) u.copies)
      (later_kept (λ (x y : CopyRow). nat_lt x.pool y.pool) (λ (x : CopyRow). not (is_lost losses w.object x.pool)) w.copies c.0)
      (all_kept (λ (x : CopyRow). sum_by (λ s. s.len) x.segments == w.size) (λ (x : CopyRow). not (is_lost losses w.object x.pool)) w.copies c.1)))

  -- ---- filespaces

  there_left : (n : ℕ) (fs : List (ℕ × Filespace)) → is_some (filespace_at n (map (filespace_left losses) fs)) ≡ is_some (filespace_at n fs)
  there_left n [] = refl
  there_left n (f ∷ fs) =
      elim (at_number n f.0) as (λ b. is_some (cond b (Some (filespace_left losses f).1) (filespace_at n (map (filespace_left losses) fs))) ≡ is_some (cond b (Some f.1) (filespace_at n fs))) [
        | true ↦ refl
        | false ↦ there_left n fs
      ]

  keys_left : (fs : List (ℕ × Filespace)) → keys_of (map (filespace_left losses) fs) ≡ keys_of fs
  keys_left [] = refl
  keys_left (f ∷ fs) = ap (λ (l : List ℕ). f.0 ∷ l) (keys_left fs)

  abbrev cites : List (ℕ × Filespace) → ℕ × HeldRow → Bool
  cites fs h = is_held_row h && is_some (filespace_at h.1.filespace fs)

  held_cites : (fs : List (ℕ × Filespace)) (h : ℕ × HeldRow) → cites fs h ≡ true → is_held (held_left losses h) ≡ true → cites (map (filespace_left losses) fs) (held_left losses h) ≡ true
  held_cites fs h is kept =
      let parts = and_parts (is_held_row h) (is_some (filespace_at h.1.filespace fs)) is in
      and_from (is_held_row h) (is_some (filespace_at h.1.filespace (map (filespace_left losses) fs))) parts.0 (there_left h.1.filespace fs ∙ parts.1)

  -- ---- numbers

  numbers_left : (q : ℕ → Bool) (vs : List Version) → list_all q (map (λ w. w.object) vs) ≡ true → list_all q (map (λ w. w.object) (versions_left losses vs)) ≡ true
  numbers_left q vs h =
      list_all-map q (λ (w : Version). w.object) (versions_left losses vs)
      ∙ made_kept (λ (w : Version). q w.object) has_copies (λ (w : Version). q w.object) (version_left losses) (λ w is kept. is) vs (sym (list_all-map q (λ (w : Version). w.object) vs) ∙ h)

  distinct_left : (vs : List Version) → are_distinct vs ≡ true → are_distinct (versions_left losses vs) ≡ true
  distinct_left vs h =
      later_kept (λ (a b : Version). not (b.object == a.object)) has_copies (map (version_left losses) vs) (later_mapped (λ (a b : Version). not (b.object == a.object)) (version_left losses) (λ a b. refl) vs ∙ h)

  -- ---- all of it

  pub facts_left : (n : ℕ) (v : Inv) → VersionFacts n v → VersionFacts n (with_clients (rows_left losses v.clients) v)
  facts_left n v f =
      let w : Inv = with_clients (rows_left losses v.clients) v in
      let kept : versions w ≡ versions_left losses (versions v) = kept_left losses v.clients in
      let row : Version → List (ℕ × CopyRow) = λ u. map (λ c. (u.object, c)) u.copies in
      let left : copies w ≡ filter (λ e. not (is_lost losses e.0 e.1.pool)) (copies v) = ap (flat_map row) kept ∙ copies_of_left losses (versions v) in
      let by : Version → Bool = λ u. nat_le u.stored v.today && option_map_or (λ day. nat_le day v.today) u.since true in
      record {
        cite = list_all-map (λ (e : ℕ × Filespace). is_some (lookup (at_number e.1.node) v.clients.nodes)) (filespace_left losses) v.clients.filespaces ∙ f.cite;
        held = made_kept (cites v.clients.filespaces) is_held (cites (map (filespace_left losses) v.clients.filespaces)) (held_left losses) (held_cites v.clients.filespaces) v.clients.held f.held;
        drawn = ap (lie_in 1 v.next_filespace) (keys_left v.clients.filespaces) ∙ f.drawn;
        names = later_mapped (λ (a b : ℕ × Filespace). not (a.1.node == b.1.node) || not (is_same_name a.1.name b.1.name)) (filespace_left losses) (λ a b. refl) v.clients.filespaces ∙ f.names;
        objects_drawn = ap (λ (l : List Version). lie_in 1 v.next_object (map (λ u. u.object) l)) kept ∙ numbers_left (λ k. nat_le 1 k && nat_lt k v.next_object) (versions v) f.objects_drawn;
        objects_bounded = f.objects_bounded;
        objects_apart = ap are_distinct kept ∙ distinct_left (versions v) f.objects_apart;
        in_pools = ap (list_all (λ (e : ℕ × CopyRow). is_some (pool e.1.pool v))) left ∙ all_kept (λ (e : ℕ × CopyRow). is_some (pool e.1.pool v)) (λ (e : ℕ × CopyRow). not (is_lost losses e.0 e.1.pool)) (copies v) f.in_pools;
        past = ap (list_all (λ (e : ℕ × CopyRow). nat_le e.1.placed n)) left ∙ all_kept (λ (e : ℕ × CopyRow). nat_le e.1.placed n) (λ (e : ℕ × CopyRow). not (is_lost losses e.0 e.1.pool)) (copies v) f.past;
        orderly = orderly_left v.clients.filespaces f.orderly;
        copied = ap (list_all (is_copied v)) kept ∙ made_kept (is_copied v) has_copies (is_copied v) (version_left losses) (copied_left v) (versions v) f.copied;
        by_today = ap (list_all by) kept ∙ made_kept by has_copies by (version_left losses) (λ u is some. is) (versions v) f.by_today;
      }
