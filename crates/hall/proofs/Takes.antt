-- A legal transaction takes away what is said of it.
use Rattle.std.proofs.Common.{◌≡◌, ◌⊎◌, inl, inr, ℕ, ◌+◌, Bool, true, false, eqb, not, ◌&&◌, List, [], ◌∷◌, ◌++◌, map, Option, Some, None, Ok, refl, sym, ap, subst, ◌∙◌, arith}
use Rattle.std.specs.Prelude.{◌==◌, ⊤, is_some}
use Rattle.std.specs.List.{AllByRecursion, Contains, filter, flat_map, list_all}
use Rattle.std.specs.Option.{option_map_or}
use Rattle.std.proofs.lemmas.Bool.{and_parts, eq-eqb, false≢true, le-leb}
use Rattle.kinds.specs.Refusals.{bad_value, unless}
use Rattle.kinds.specs.declared.segment.Segment.{Segment}
use Rattle.entries.specs.change_items.declared.items.DiscardedVersion.{DiscardedVersion}
use Rattle.entries.specs.change_items.declared.items.DroppedCopy.{DroppedCopy}
use Rattle.entries.specs.change_items.declared.items.MovedCopy.{MovedCopy}
use Rattle.entries.specs.change_items.declared.items.NamedVersion.{NamedVersion}
use Rattle.entries.specs.change_items.declared.items.NewCopy.{NewCopy}
use Rattle.entries.specs.change_items.declared.items.NewVersion.{NewVersion}
use Rattle.entries.specs.change_items.declared.lists.DiscardedVersions.{DiscardedVersions}
use Rattle.entries.specs.change_items.declared.lists.DroppedCopies.{DroppedCopies}
use Rattle.entries.specs.change_items.declared.lists.MovedCopies.{MovedCopies}
use Rattle.entries.specs.change_items.declared.lists.NamedVersions.{NamedVersions}
use Rattle.entries.specs.change_items.declared.lists.NewCopies.{NewCopies}
use Rattle.entries.specs.change_items.declared.lists.NewVersions.{NewVersions}
use Rattle.entries.specs.declared.change.Change.{Change}
use Rattle.entries.specs.declared.change.Change.TheVariants as change
use Rattle.inventory.proofs.Nothing.{is_free}
use Rattle.inventory_rows.specs.version_groups.declared.copies.CopyRow.{CopyRow}
use Rattle.inventory_rows.specs.version_groups.declared.copies.CopyChange.TheVariants as copy
use Rattle.inventory_rows.specs.version_groups.declared.versions.Version.{Version}
use Rattle.inventory_rows.specs.version_groups.Copies.{are_by_pool, copies_after, with_copy, without_copy}
use Rattle.inventory_rows.specs.version_groups.Entries.{all_later}
use Rattle.inventory_rows.specs.version_groups.Versions.{are_distinct, version_of}
use Rattle.inventory_rows.specs.object_rows.Filespaces.{filespace_at}
use Rattle.inventory_rows.specs.object_rows.Held.{copies_in}
use Rattle.inventory_rows.specs.object_rows.Rows.{Rows, kept_of}
use Rattle.inventory_rows.specs.pool_rows.PoolRows.{is_sequential}
use Rattle.inventory_rows.specs.Search.{copies, copy_in, segments_on, version, versions}
use Rattle.inventory_rows.specs.State.{Inv}
use Rattle.inventory_rules.specs.Common.{each}
use Rattle.inventory_rules.specs.Copies.{add_copy, added, change_copy, copied_refused, copy_list_refused, copy_refused, drop_copy, dropped_refused, move_copy, move_refused, moved_refused, placed_by, put_moved, stale_copy}
use Rattle.inventory_rules.specs.Facts.{Facts}
use Rattle.inventory_rules.specs.Halfway.{VersionFacts}
use Rattle.inventory_rules.specs.Journal.{Journal}
use Rattle.inventory_rules.specs.Ordered.{IsOrdered}
use Rattle.inventory_rules.specs.Reordered.{IsReordered}
use Rattle.inventory_rules.specs.Run.{journal_of}
use Rattle.inventory_rules.specs.Segments.{are_clear, make_scratch, scratch_refused}
use Rattle.inventory_rules.specs.Transactions.{causes, changed, effect, refused}
use Rattle.inventory_rules.specs.Valid.{is_valid}
use Rattle.inventory_rules.specs.Versions.{back_up, discard, discarded_refused, expire, expired_refused, inserted, mark_gone, name_once, new_refused, objects_refused}
use Rattle.inventory_laws.specs.Kept.{OnlyVolumes}
use Rattle.inventory_laws.specs.Origins.{placed_segments}
use Rattle.inventory_laws.proofs.Arriving.{copies_more}
use Rattle.inventory_laws.proofs.Copied.{own_of}
use Rattle.inventory_laws.proofs.CopySteps.{comes, goes, less, more, replaces, said_replace}
use Rattle.inventory_laws.proofs.Facts.{facts_of}
use Rattle.inventory_laws.proofs.GroupSteps as steps
use Rattle.inventory_laws.proofs.Keeping.{put_kept}
use Rattle.inventory_laws.proofs.Lists.{all_of, each_also, each_joined, each_mapped}
use Rattle.inventory_laws.proofs.Moves.{copies_parted, replaced_rows}
use Rattle.inventory_laws.proofs.MovedRows.{left_of, staying}
use Rattle.inventory_laws.proofs.Ordered.{ordered_inserted}
use Rattle.inventory_laws.proofs.Orders.{reordered_back, reordered_itself}
use Rattle.inventory_laws.proofs.Origins.{contained_holds, each_contained}
use Rattle.inventory_laws.proofs.Others.{there_inserted}
use Rattle.inventory_laws.proofs.PutSteps.{of_version, version_comes}
use Rattle.inventory_laws.proofs.Recopied as recopied
use Rattle.inventory_laws.proofs.Removals.{Discards, Drops, Expires, discard_found, drop_found, expire_found, none_of_each, version_there}
use Rattle.inventory_laws.proofs.Tests.{both_none, named_once, unless_holds}
use Rattle.inventory_laws.proofs.VersionArrivals.{taken}
use Rattle.inventory_laws.proofs.VersionsWhole.{begins, later, ordered_elsewhere}
use Rattle.inventory_laws.proofs.VersionVolumes.{all_scratch_only}
use Rattle.inventory_laws.proofs.VolumeItems.{moved_kept, moves_kept}
use Rattle.space.specs.declared.places.Placed.{Placed}
use Rattle.machine.specs.Machine.{all_segments, is_same_segment, left_by}
use Rattle.machine.specs.State.{Core, Ticket, inventory}
use Rattle.hall.specs.Covered.{IsClear, SpaceIsClear, is_beside}
use Rattle.hall.specs.Good.{IsLawful}
use Rattle.hall.specs.Joined.{taken_by}
use Rattle.hall.proofs.Databases.{last_left, left_lawful}
use Rattle.hall.proofs.JoinedBytes.{found_is}
use Rattle.hall.proofs.JoinedFreed.{TakesAway}
use Rattle.hall.proofs.Joining.{IsPlacedBy, Joins, Spent}
use Rattle.hall.proofs.Pairs.{all_filtered, each_appended, each_flat, each_in, each_of_flat, found_passes, none_found, some_or_none}
use Rattle.hall.proofs.RowsLeave.{InOrder, all_went, by_pool, discard_went, drop_went, expire_went, one_of_them, rows_all, rows_left}
use Rattle.hall.proofs.TakenSpace.{LiesAt, all_left_noted, all_noted_left, clear_differs, each_reordered, same_turned, taken_from, taken_of_all}

pub effect_copies : (x : Change) (v : Inv) → copies (effect x v) ≡ copies (changed x v)
unfolding effect
effect_copies x v = refl

-- ---- nothing goes

pub quiet : (x : Change) (v : Inv) → taken_by x v ≡ [] → AllByRecursion (Contains (copies (effect x v))) (copies v) → TakesAway x v
quiet x v none stays = record {
  noted = subst (λ l. AllByRecursion (λ s. (p : Placed) × Contains l p × (p.segment ≡ s)) (left_by v (effect x v))) (sym none)
      (all_left_noted v (effect x v) [] (each_also (Contains (copies (effect x v))) (λ e. Contains {X = ℕ × CopyRow} [] e ⊎ Contains (copies (effect x v)) e) (copies v) (λ e there. inr there) stays));
  freed = subst (AllByRecursion (λ p. Contains (left_by v (effect x v)) p.segment × LiesAt v p.pool p.segment)) (sym none) tt;
}

-- where what is kept of each object stays, so do all copies
pub copies_stay : (v w : Inv) → are_distinct (versions v) ≡ true → ((k : ℕ) (a : Version) → version k v ≡ Some a → version k w ≡ Some a) → AllByRecursion (Contains (copies w)) (copies v)
copies_stay v w apart rest =
    each_flat (Contains (copies w)) (λ (a : Version). map (λ (c : CopyRow). (a.object, c)) a.copies) (versions v)
    (each_also (Contains (versions v)) (λ (a : Version). AllByRecursion (Contains (copies w)) (map (λ (c : CopyRow). (a.object, c)) a.copies)) (versions v) one (each_contained (versions v)))
  where
    found : (a : Version) → Contains (versions v) a → version a.object v ≡ Some a
    found a there = go (some_or_none (version a.object v)) where
      go : ((u : Version) × (version a.object v ≡ Some u)) ⊎ (version a.object v ≡ None) → version a.object v ≡ Some a
      go (inl (u, at)) = subst (λ (z : Version). version a.object v ≡ Some z) (sym (found_is v a u a.object apart there refl at)) at
      go (inr none) =
          absurd (false≢true (sym (contained_holds (λ (y : Version). (y.object == a.object) ≡ false) (versions v) a there (none_found (λ (y : Version). y.object == a.object) (versions v) none)) ∙ eq-eqb a.object a.object refl))

    one : (a : Version) → Contains (versions v) a → AllByRecursion (Contains (copies w)) (map (λ (c : CopyRow). (a.object, c)) a.copies)
    one a there =
        contained_holds (λ (b : Version). AllByRecursion (Contains (copies w)) (map (λ (c : CopyRow). (b.object, c)) b.copies)) (versions w) a
        (found_passes (Contains (versions w)) (λ (y : Version). y.object == a.object) (versions w) a (rest a.object a (found a there)) (each_contained (versions w))).0
        (each_in (λ (b : Version). map (λ (c : CopyRow). (b.object, c)) b.copies) (versions w))

-- one after the other
within : {A : Type 0} (xs ys zs : List A) → AllByRecursion (Contains ys) xs → AllByRecursion (Contains zs) ys → AllByRecursion (Contains zs) xs
within {A} xs ys zs a b = each_also (Contains ys) (Contains zs) xs (λ (x : A) there. contained_holds (Contains zs) ys x there b) a

-- ---- an object's newest version is gone from its client

gone_copies : (n filespace : ℕ) (items : List NamedVersion) (v : Inv) → VersionFacts n v → copies (each (mark_gone filespace) items v) ≡ copies v
gone_copies n filespace [] v f = refl
gone_copies n filespace (i ∷ items) v f =
    let g = steps.gone n filespace i.object i.path v f in
    gone_copies n filespace items (mark_gone filespace i v) g.0 ∙ g.1

gone_takes : (c : NamedVersions) (v : Inv) → VersionFacts (v.number + 1) v → TakesAway (change.Gone c) v
gone_takes c v f =
    let same : copies (effect (change.Gone c) v) ≡ copies v = effect_copies (change.Gone c) v ∙ gone_copies (v.number + 1) c.filespace c.items v f in
    quiet (change.Gone c) v refl (subst (λ l. AllByRecursion (Contains l) (copies v)) (sym same) (each_contained (copies v)))

-- ---- files come

backed_up : (filespace : ℕ) (items : List NewVersion) (v : Inv) → IsOrdered v → is_some (filespace_at filespace v.clients.filespaces) ≡ true → AllByRecursion (Contains (copies (each (back_up filespace) items v))) (copies v)
backed_up filespace [] v o there = each_contained (copies v)
backed_up filespace (i ∷ items) v o there =
    let u : Inv = inserted filespace i v in
    let w : Inv = back_up filespace i v in
    let k : OnlyVolumes u w = put_kept i.object i.segments u in
    let order = copies_more (of_version i) v u (version_comes filespace i v o.by_path there) in
    let came : AllByRecursion (Contains (copies u)) (copies v) = (each_reordered (Contains (copies u)) (_ ∷ copies v) (copies u) order (each_contained (copies u))).1 in
    within (copies v) (copies w) (copies (each (back_up filespace) items w)) (subst (λ l. AllByRecursion (Contains l) (copies v)) (sym (ap (λ (x : Inv). copies x) k.only)) came)
    (backed_up filespace items w (ordered_elsewhere u w (ap (λ (x : Inv). x.clients) k.only) (ordered_inserted filespace i v o))
    (ap (λ (x : Inv). is_some (filespace_at filespace x.clients.filespaces)) k.only ∙ there_inserted filespace filespace i v ∙ there))

backup_takes : (j : Journal) (c : NewVersions) (v : Inv) → IsOrdered v → causes j (change.Backup c) v ≡ [] → TakesAway (change.Backup c) v
backup_takes j c v o cause =
    let objects : List ℕ = map (λ (i : NewVersion). i.object) c.items in
    let one = both_none (new_refused c.filespace objects v) _ cause in
    let two = both_none (scratch_refused c.scratch v) (objects_refused objects v) one.1 in
    let t = taken c.filespace objects v one.0 two.1 in
    let u : Inv = each make_scratch c.scratch v in
    let clients : u.clients ≡ v.clients = (all_scratch_only c.scratch v).clients in
    quiet (change.Backup c) v refl
    (subst (λ l. AllByRecursion (Contains l) (copies v)) (sym (effect_copies (change.Backup c) v))
    (subst (AllByRecursion (Contains (copies (each (back_up c.filespace) c.items u)))) (ap copies_in clients)
    (backed_up c.filespace c.items u (ordered_elsewhere v u clients o) (ap (λ (r : Rows). is_some (filespace_at c.filespace r.filespaces)) clients ∙ t.there))))

-- ---- copies go, and others come

taking : (x : Change) (v : Inv) → Facts v → (news olds stay : List (ℕ × CopyRow)) → taken_by x v ≡ taken_from olds → IsReordered (copies v) (olds ++ stay) → IsReordered (copies (effect x v)) (news ++ stay)
    → AllByRecursion (λ (e : ℕ × CopyRow). AllByRecursion (λ y. AllByRecursion (λ s. is_same_segment s y ≡ false) (all_segments v)) e.1.segments) news → TakesAway x v
taking x v f news olds stay is parted becomes clear =
    let w : Inv = effect x v in
    let still : AllByRecursion (Contains (copies w)) stay =
    (each_joined (Contains (copies w)) news stay (each_reordered (Contains (copies w)) (news ++ stay) (copies w) (reordered_back (copies w) (news ++ stay) becomes) (each_contained (copies w)))).1 in
    let stays : AllByRecursion (λ e. Contains olds e ⊎ Contains (copies w) e) (copies v) =
    each_reordered (λ e. Contains olds e ⊎ Contains (copies w) e) (copies v) (olds ++ stay) parted
    (each_appended (λ e. Contains olds e ⊎ Contains (copies w) e) olds stay (each_also (Contains olds) (λ e. Contains olds e ⊎ Contains (copies w) e) olds (λ e there. inl there) (each_contained olds))
    (each_also (Contains (copies w)) (λ e. Contains olds e ⊎ Contains (copies w) e) stay (λ e there. inr there) still)) in
    record {
      noted = subst (λ l. AllByRecursion (λ s. (p : Placed) × Contains l p × (p.segment ≡ s)) (left_by v w)) (sym is) (all_left_noted v w olds stays);
      freed = subst (AllByRecursion (λ p. Contains (left_by v w) p.segment × LiesAt v p.pool p.segment)) (sym is) (all_noted_left v w f news olds stay parted becomes clear);
    }

-- ---- copies are dropped, and objects go

drop_takes : (j : Journal) (c : DroppedCopies) (v : Inv) → Facts v → VersionFacts (v.number + 1) v → causes j (change.DropCopies c) v ≡ [] → TakesAway (change.DropCopies c) v
drop_takes j c v facts f cause =
    let parts = both_none (unless (name_once (map (λ (i : DroppedCopy). i.object) c.items)) bad_value) (flat_map (dropped_refused j c.reason v) c.items) cause in
    let found : AllByRecursion (λ i. Drops i v) c.items = none_of_each (dropped_refused j c.reason v) (λ i. Drops i v) (drop_found j c.reason v) c.items parts.1 in
    taking (change.DropCopies c) v facts [] (rows_all (λ (i : DroppedCopy). i.object) (λ (i : DroppedCopy). Some i.pool) c.items v) (copies (each drop_copy c.items v))
    (taken_of_all (λ (i : DroppedCopy). i.object) (λ (i : DroppedCopy). Some i.pool) c.items v)
    (all_went (λ (i : DroppedCopy). i.object) (λ (i : DroppedCopy). Some i.pool) drop_copy (VersionFacts (v.number + 1)) Drops (drop_went (v.number + 1)) c.items v f found
    (unless_holds (name_once (map (λ (i : DroppedCopy). i.object) c.items)) bad_value parts.0))
    (subst (IsReordered (copies (effect (change.DropCopies c) v))) (effect_copies (change.DropCopies c) v) (reordered_itself (copies (effect (change.DropCopies c) v)))) tt

expire_takes : (j : Journal) (c : NamedVersions) (v : Inv) → Facts v → InOrder (v.number + 1) v → causes j (change.Expire c) v ≡ [] → TakesAway (change.Expire c) v
expire_takes j c v facts f cause =
    let parts = both_none (unless (name_once (map (λ (i : NamedVersion). i.object) c.items)) bad_value) (flat_map (expired_refused j c.filespace v) c.items) cause in
    let found : AllByRecursion (λ i. Expires c.filespace i v) c.items = none_of_each (expired_refused j c.filespace v) (λ i. Expires c.filespace i v) (expire_found j c.filespace (v.number + 1) v f.facts) c.items parts.1 in
    taking (change.Expire c) v facts [] (rows_all (λ (i : NamedVersion). i.object) (λ (i : NamedVersion). None) c.items v) (copies (each (expire c.filespace) c.items v))
    (taken_of_all (λ (i : NamedVersion). i.object) (λ (i : NamedVersion). None) c.items v)
    (all_went (λ (i : NamedVersion). i.object) (λ (i : NamedVersion). None) (expire c.filespace) (InOrder (v.number + 1)) (Expires c.filespace) (expire_went (v.number + 1) c.filespace) c.items v f found
    (unless_holds (name_once (map (λ (i : NamedVersion). i.object) c.items)) bad_value parts.0))
    (subst (IsReordered (copies (effect (change.Expire c) v))) (effect_copies (change.Expire c) v) (reordered_itself (copies (effect (change.Expire c) v)))) tt

discard_takes : (j : Journal) (c : DiscardedVersions) (v : Inv) → Facts v → InOrder (v.number + 1) v → causes j (change.Discard c) v ≡ [] → TakesAway (change.Discard c) v
discard_takes j c v facts f cause =
    let parts = both_none (unless (name_once (map (λ (i : DiscardedVersion). i.object) c.items)) bad_value) (flat_map (discarded_refused j c.reason v) c.items) cause in
    let found : AllByRecursion (λ i. Discards i v) c.items = none_of_each (discarded_refused j c.reason v) (λ i. Discards i v) (discard_found j c.reason v) c.items parts.1 in
    taking (change.Discard c) v facts [] (rows_all (λ (i : DiscardedVersion). i.object) (λ (i : DiscardedVersion). None) c.items v) (copies (each discard c.items v))
    (taken_of_all (λ (i : DiscardedVersion). i.object) (λ (i : DiscardedVersion). None) c.items v)
    (all_went (λ (i : DiscardedVersion). i.object) (λ (i : DiscardedVersion). None) discard (InOrder (v.number + 1)) Discards (discard_went (v.number + 1)) c.items v f found
    (unless_holds (name_once (map (λ (i : DiscardedVersion). i.object) c.items)) bad_value parts.0))
    (subst (IsReordered (copies (effect (change.Discard c) v))) (effect_copies (change.Discard c) v) (reordered_itself (copies (effect (change.Discard c) v)))) tt

-- ---- copies come

all_pass : (list : List Version) → list_all (λ (w : Version). true) list ≡ true
all_pass [] = refl
all_pass (w ∷ list) = all_pass list

abbrev copy_row : ℕ → NewCopy → CopyRow
copy_row n i = record { pool = i.pool; placed = n + 1; segments = i.segments }

abbrev no_left : NewCopy → Version → List (ℕ × CopyRow)
no_left i w = []

copy_order : (n : ℕ) (i : NewCopy) (x : Version) → x.object ≡ i.object → IsReordered {A = ℕ × CopyRow} ((i.object, copy_row n i) ∷ map (λ (c : CopyRow). (x.object, c)) x.copies) (map (λ (c : CopyRow). (x.object, c)) (with_copy (copy_row n i) x.copies))
copy_order n i x is =
    subst (λ k. IsReordered {A = ℕ × CopyRow} ((k, copy_row n i) ∷ map (λ (c : CopyRow). (x.object, c)) x.copies) (map (λ (c : CopyRow). (x.object, c)) (with_copy (copy_row n i) x.copies))) is
    (more (x.object, copy_row n i) (comes x.object (copy_row n i) x.copies))

abbrev copy_kept : (i : NewCopy) (v : Inv) → OnlyVolumes (change_copy i.object (added i v) v) (add_copy i v)
copy_kept i v = put_kept i.object i.segments (change_copy i.object (added i v) v)

abbrev FindsCopy : Inv → NewCopy → Type 0
FindsCopy v i = recopied.Finds (λ (i : NewCopy). i.object) (λ n i. copy.Add (copy_row n i)) add_copy copy_row no_left (λ n i x. with_copy (copy_row n i) x.copies) (λ i x. ⊤) (λ n i x h. refl) (λ n i x h is. copy_order n i x is) copy_kept (λ (w : Version). true) v i

none_go : (items : List NewCopy) (v : Inv) → flat_map (λ (i : NewCopy). option_map_or (no_left i) (version i.object v) []) items ≡ []
none_go [] v = refl
none_go (i ∷ items) v = ap (λ (l : List (ℕ × CopyRow)). l ++ flat_map (λ (i : NewCopy). option_map_or (no_left i) (version i.object v) []) items) (go i (version i.object v)) ∙ none_go items v where
  go : (i : NewCopy) (o : Option Version) → option_map_or (no_left i) o [] ≡ []
  go i None = refl
  go i (Some w) = refl

copy_takes : (j : Journal) (c : NewCopies) (v : Inv) → Facts v → causes j (change.Copy c) v ≡ [] → TakesAway (change.Copy c) v
copy_takes j c v f cause =
    let parts = both_none (copy_list_refused j c.items v) (scratch_refused c.scratch v) cause in
    let why = both_none (unless (name_once (map (λ (i : NewCopy). i.object) c.items)) bad_value) (flat_map (copied_refused j v) c.items) parts.0 in
    let u : Inv = each make_scratch c.scratch v in
    let w : Inv = each add_copy c.items u in
    let clients : u.clients ≡ v.clients = (all_scratch_only c.scratch v).clients in
    let finds : AllByRecursion (FindsCopy u) c.items =
    none_of_each (copied_refused j v) (FindsCopy u)
    (λ i h. let t = version_there j i.object _ v (version i.object v) refl h in record { old = t.0; there = ap (λ (r : Rows). version_of i.object (kept_of r)) clients ∙ t.1; has = tt; passes = refl }) c.items why.1 in
    let b = recopied.all_back (λ (i : NewCopy). i.object) (λ n i. copy.Add (copy_row n i)) add_copy copy_row no_left (λ n i x. with_copy (copy_row n i) x.copies) (λ i x. ⊤) (λ n i x h. refl) (λ n i x h is. copy_order n i x is) copy_kept (λ (w : Version). true)
    c.items u (ap (λ (r : Rows). are_distinct (kept_of r)) clients ∙ f.objects_apart) (named_once (λ (i : NewCopy). i.object) c.items (unless_holds (name_once (map (λ (i : NewCopy). i.object) c.items)) bad_value why.0)) finds (all_pass (versions w)) in
    let news : List (ℕ × CopyRow) = map (λ (i : NewCopy). (i.object, copy_row u.number i)) c.items in
    let rows : IsReordered (news ++ copies u) (copies w) = subst (λ (l : List (ℕ × CopyRow)). IsReordered (news ++ copies u) (l ++ copies w)) (none_go c.items u) b.rows in
    quiet (change.Copy c) v refl
    (subst (λ l. AllByRecursion (Contains l) (copies v)) (sym (effect_copies (change.Copy c) v))
    (subst (AllByRecursion (Contains (copies w))) (ap copies_in clients)
    (each_joined (Contains (copies w)) news (copies u) (each_reordered (Contains (copies w)) (news ++ copies u) (copies w) rows (each_contained (copies w)))).1))

-- ---- copies move

abbrev move_row : ℕ → MovedCopy → CopyRow
move_row n i = record { pool = i.pool; placed = n + 1; segments = i.segments }

abbrev left_in : MovedCopy → Version → List (ℕ × CopyRow)
left_in i x = option_map_or (λ c. (i.object, c) ∷ []) (copy_in i.from x) []

abbrev after_move : ℕ → MovedCopy → Version → List CopyRow
after_move n i x = with_copy (move_row n i) (without_copy i.from x.copies)

-- the copy that moves is there
record LeavesPool (i : MovedCopy) (x : Version) : Type 0 where
  pub old : CopyRow
  pub held : copy_in i.from x ≡ Some old
  pub ordered : are_by_pool x.copies ≡ true

move_order : (n : ℕ) (i : MovedCopy) (x : Version) → LeavesPool i x → x.object ≡ i.object
    → IsReordered {A = ℕ × CopyRow} ((i.object, move_row n i) ∷ map (λ (c : CopyRow). (x.object, c)) x.copies) (left_in i x ++ map (λ (c : CopyRow). (x.object, c)) (after_move n i x))
move_order n i x h is =
    let fewer : List CopyRow = without_copy i.from x.copies in
    let out : IsReordered (map (λ (c : CopyRow). (x.object, c)) x.copies) ((x.object, h.old) ∷ map (λ (c : CopyRow). (x.object, c)) fewer) = less (x.object, h.old) (goes x.object i.from x.copies h.old h.ordered h.held) in
    let into : IsReordered {A = ℕ × CopyRow} ((x.object, move_row n i) ∷ map (λ (c : CopyRow). (x.object, c)) fewer) (map (λ (c : CopyRow). (x.object, c)) (after_move n i x)) = more (x.object, move_row n i) (comes x.object (move_row n i) fewer) in
    let both : IsReordered {A = ℕ × CopyRow} ((x.object, move_row n i) ∷ map (λ (c : CopyRow). (x.object, c)) x.copies) ((x.object, h.old) ∷ map (λ (c : CopyRow). (x.object, c)) (after_move n i x)) =
    replaces (x.object, move_row n i) (x.object, h.old) (map (λ (c : CopyRow). (x.object, c)) x.copies) (map (λ (c : CopyRow). (x.object, c)) fewer) (map (λ (c : CopyRow). (x.object, c)) (after_move n i x)) out into in
    let named : IsReordered {A = ℕ × CopyRow} ((i.object, move_row n i) ∷ map (λ (c : CopyRow). (x.object, c)) x.copies) ((i.object, h.old) ∷ map (λ (c : CopyRow). (x.object, c)) (after_move n i x)) =
    subst (λ k. IsReordered {A = ℕ × CopyRow} ((k, move_row n i) ∷ map (λ (c : CopyRow). (x.object, c)) x.copies) ((k, h.old) ∷ map (λ (c : CopyRow). (x.object, c)) (after_move n i x))) is both in
    subst (λ (o : Option CopyRow). IsReordered {A = ℕ × CopyRow} ((i.object, move_row n i) ∷ map (λ (c : CopyRow). (x.object, c)) x.copies) (option_map_or (λ c. (i.object, c) ∷ []) o [] ++ map (λ (c : CopyRow). (x.object, c)) (after_move n i x))) (sym h.held) named

move_said : (n : ℕ) (i : MovedCopy) (x : Version) → LeavesPool i x → copies_after (copy.Replace i.from (move_row n i)) x.copies ≡ Ok (after_move n i x)
move_said n i x h = said_replace i.from (move_row n i) x.copies h.old h.held

abbrev FindsMove : Inv → MovedCopy → Type 0
FindsMove v i = recopied.Finds (λ (i : MovedCopy). i.object) (λ n i. copy.Replace i.from (move_row n i)) move_copy move_row left_in after_move LeavesPool move_said move_order moves_kept (λ (w : Version). true) v i

move_found : (j : Journal) (v x : Inv) → VersionFacts (v.number + 1) v → x.clients ≡ v.clients → (i : MovedCopy) → moved_refused j v i ≡ [] → FindsMove x i × (left_of i (version i.object v) ≡ rows_left i.object (Some i.from) (version i.object v))
move_found j v x f clients i h =
    let t = version_there j i.object (copy_refused j i.object i.from i.placed) v (version i.object v) refl h in
    let c = there (copy_in i.from t.0) (unless_holds (placed_by i.placed (copy_in i.from t.0)) (stale_copy (j.copy_changed i.object i.from) (copy_in i.from t.0)) t.2) in
    let by : are_by_pool t.0.copies ≡ true = by_pool v t.0 (own_of (v.number + 1) i.object v t.0 f t.1).copied in (
      record { old = t.0; there = ap (λ (r : Rows). version_of i.object (kept_of r)) clients ∙ t.1; has = record { old = c.0; held = c.1; ordered = by }; passes = refl },
      ap (left_of i) t.1 ∙ ap (λ (o : Option CopyRow). option_map_or (λ c. (i.object, c) ∷ []) o []) c.1
          ∙ sym (ap (λ (o : Option Version). rows_left i.object (Some i.from) o) t.1 ∙ ap (map (λ (c : CopyRow). (i.object, c))) (one_of_them i.from t.0.copies c.0 by c.1)),
    )
  where
    there : (o : Option CopyRow) → placed_by i.placed o ≡ true → (c : CopyRow) × (o ≡ Some c)
    there None h = absurd (false≢true h)
    there (Some c) h = (c, refl)

all_alike : {A B : Type 0} (f g : A → List B) (xs : List A) → AllByRecursion (λ x. f x ≡ g x) xs → flat_map f xs ≡ flat_map g xs
all_alike f g [] h = refl
all_alike {A} {B} f g (x ∷ xs) h = ap (λ (l : List B). l ++ flat_map f xs) h.0 ∙ ap (λ (l : List B). g x ++ l) (all_alike f g xs h.1)

move_takes : (j : Journal) (c : MovedCopies) (v : Inv) → Facts v → VersionFacts (v.number + 1) v → causes j (change.Move c) v ≡ []
    → AllByRecursion (λ (e : ℕ × List Segment). AllByRecursion (λ y. AllByRecursion (λ s. is_same_segment s y ≡ false) (all_segments v)) e.1) (placed_segments (change.Move c)) → TakesAway (change.Move c) v
move_takes j c v facts f cause clear =
    let parts = both_none (move_refused j c.items v) (scratch_refused c.scratch v) cause in
    let why = both_none (unless (name_once (map (λ (i : MovedCopy). i.object) c.items)) bad_value) (flat_map (moved_refused j v) c.items) parts.0 in
    let u : Inv = each make_scratch c.scratch v in
    let x : Inv = each put_moved c.items u in
    let w : Inv = each move_copy c.items x in
    let clients : x.clients ≡ v.clients = ap (λ (z : Inv). z.clients) (moved_kept c.items u).only ∙ (all_scratch_only c.scratch v).clients in
    let once : all_later (λ (a b : MovedCopy). not (eqb a.object b.object)) c.items ≡ true = named_once (λ (i : MovedCopy). i.object) c.items (unless_holds (name_once (map (λ (i : MovedCopy). i.object) c.items)) bad_value why.0) in
    let both = none_of_each (moved_refused j v) (λ i. FindsMove x i × (left_of i (version i.object v) ≡ rows_left i.object (Some i.from) (version i.object v))) (move_found j v x f clients) c.items why.1 in
    let finds : AllByRecursion (FindsMove x) c.items = each_also (λ i. FindsMove x i × (left_of i (version i.object v) ≡ rows_left i.object (Some i.from) (version i.object v))) (FindsMove x) c.items (λ i h. h.0) both in
    let b = recopied.all_back (λ (i : MovedCopy). i.object) (λ n i. copy.Replace i.from (move_row n i)) move_copy move_row left_in after_move LeavesPool move_said move_order moves_kept (λ (w : Version). true)
    c.items x (ap (λ (r : Rows). are_distinct (kept_of r)) clients ∙ facts.objects_apart) once finds (all_pass (versions w)) in
    let news : List (ℕ × CopyRow) = map (λ (i : MovedCopy). (i.object, move_row x.number i)) c.items in
    let olds : List (ℕ × CopyRow) = flat_map (λ (i : MovedCopy). left_of i (version i.object v)) c.items in
    let stay : List (ℕ × CopyRow) = staying c.items (copies v) in
    let rows : IsReordered (news ++ copies v) (olds ++ copies w) =
    subst (λ (r : Rows). IsReordered (news ++ copies_in r) (flat_map (λ (i : MovedCopy). left_of i (version_of i.object (kept_of r))) c.items ++ copies w)) clients b.rows in
    let parted : IsReordered (copies v) (olds ++ stay) = copies_parted (v.number + 1) v c.items f once in
    let becomes : IsReordered (copies w) (news ++ stay) = reordered_back (news ++ stay) (copies w) (replaced_rows news olds stay (copies v) (copies w) parted rows) in
    let same : olds ≡ rows_all (λ (i : MovedCopy). i.object) (λ (i : MovedCopy). Some i.from) c.items v =
    all_alike (λ (i : MovedCopy). left_of i (version i.object v)) (λ (i : MovedCopy). rows_left i.object (Some i.from) (version i.object v)) c.items
    (each_also (λ i. FindsMove x i × (left_of i (version i.object v) ≡ rows_left i.object (Some i.from) (version i.object v))) (λ i. left_of i (version i.object v) ≡ rows_left i.object (Some i.from) (version i.object v)) c.items (λ i h. h.1) both) in
    taking (change.Move c) v facts news olds stay (taken_of_all (λ (i : MovedCopy). i.object) (λ (i : MovedCopy). Some i.from) c.items v ∙ ap taken_from (sym same)) parted
    (subst (λ (l : List (ℕ × CopyRow)). IsReordered l (news ++ stay)) (sym (effect_copies (change.Move c) v)) becomes)
    (of_news x.number c.items clear)
  where
    of_news : (n : ℕ) (items : List MovedCopy) → AllByRecursion (λ (e : ℕ × List Segment). AllByRecursion (λ y. AllByRecursion (λ s. is_same_segment s y ≡ false) (all_segments v)) e.1) (map (λ (i : MovedCopy). (i.object, i.segments)) items)
        → AllByRecursion (λ (e : ℕ × CopyRow). AllByRecursion (λ y. AllByRecursion (λ s. is_same_segment s y ≡ false) (all_segments v)) e.1.segments) (map (λ (i : MovedCopy). (i.object, move_row n i)) items)
    of_news n [] h = tt
    of_news n (i ∷ items) h = (h.0, of_news n items h.1)

-- ---- all transactions

-- what is kept of each object stays as it is
abbrev pub is_quiet : Change → Bool
is_quiet (change.Backup c) = false
is_quiet (change.Gone c) = false
is_quiet (change.Move c) = false
is_quiet (change.Copy c) = false
is_quiet (change.DropCopies c) = false
is_quiet (change.Expire c) = false
is_quiet (change.Discard c) = false
is_quiet _ = true

pub takes_away : (j : Journal) (x : Change) (v : Inv) → is_valid v ≡ true → IsOrdered v → refused j x v ≡ None → (is_quiet x ≡ true → (k : ℕ) (a : Version) → version k v ≡ Some a → version k (effect x v) ≡ Some a)
    → AllByRecursion (λ (e : ℕ × List Segment). AllByRecursion (λ y. AllByRecursion (λ s. is_same_segment s y ≡ false) (all_segments v)) e.1) (placed_segments x) → TakesAway x v
takes_away j x v valid ordered legal rest clear = go x (is_free j x v legal).causes rest clear where
  facts : Facts v
  facts = facts_of v valid

  f : VersionFacts (v.number + 1) v
  f = later v.number (v.number + 1) v (le-leb v.number (v.number + 1) (omega arith)) (begins v facts)

  still : (x : Change) → ((k : ℕ) (a : Version) → version k v ≡ Some a → version k (effect x v) ≡ Some a) → taken_by x v ≡ [] → TakesAway x v
  still x rest none = quiet x v none (copies_stay v (effect x v) facts.objects_apart rest)

  go : (x : Change) → causes j x v ≡ [] → (is_quiet x ≡ true → (k : ℕ) (a : Version) → version k v ≡ Some a → version k (effect x v) ≡ Some a)
      → AllByRecursion (λ (e : ℕ × List Segment). AllByRecursion (λ y. AllByRecursion (λ s. is_same_segment s y ≡ false) (all_segments v)) e.1) (placed_segments x) → TakesAway x v
  go (change.Backup c) cause rest clear = backup_takes j c v ordered cause
  go (change.Gone c) cause rest clear = gone_takes c v f
  go (change.Move c) cause rest clear = move_takes j c v facts f cause clear
  go (change.Copy c) cause rest clear = copy_takes j c v facts cause
  go (change.DropCopies c) cause rest clear = drop_takes j c v facts f cause
  go (change.Expire c) cause rest clear = expire_takes j c v facts (record { facts = f; ordered = ordered }) cause
  go (change.Discard c) cause rest clear = discard_takes j c v facts (record { facts = f; ordered = ordered }) cause
  go (change.Day day) cause rest clear = still (change.Day day) (rest refl) refl
  go (change.Policy c) cause rest clear = still (change.Policy c) (rest refl) refl
  go (change.Object c) cause rest clear = still (change.Object c) (rest refl) refl
  go (change.Pool c) cause rest clear = still (change.Pool c) (rest refl) refl
  go (change.Hold c) cause rest clear = still (change.Hold c) (rest refl) refl
  go (change.Rebind c) cause rest clear = still (change.Rebind c) (rest refl) refl
  go (change.Reuse file) cause rest clear = still (change.Reuse file) (rest refl) refl
  go (change.DbBegin file after) cause rest clear = still (change.DbBegin file after) (rest refl) refl
  go (change.DbEnd file) cause rest clear = still (change.DbEnd file) (rest refl) refl
  go (change.DbDelete file) cause rest clear = still (change.DbDelete file) (rest refl) refl

-- ---- what comes lies where nothing lay

abbrev AllOther : Inv → Segment → Type 0
AllOther v y = AllByRecursion (λ s. is_same_segment s y ≡ false) (all_segments v)

beside_other : (number : ℕ) (v : Inv) (y : Segment) → is_beside number y v ≡ true → AllOther v y
beside_other number v y h =
    each_flat (λ s. is_same_segment s y ≡ false) (λ (e : ℕ × CopyRow). e.1.segments) (copies v)
    (each_also (λ (e : ℕ × CopyRow). AllByRecursion (λ (d : ℕ × Segment). are_clear q y d.1 ≡ true) (map (λ s. (e.0, s)) (filter (λ s. s.file == y.file) e.1.segments)))
    (λ (e : ℕ × CopyRow). AllByRecursion (λ s. is_same_segment s y ≡ false) e.1.segments) (copies v)
    (λ e all. each_also (λ s. (s.file == y.file) ≡ true → are_clear q y s ≡ true) (λ s. is_same_segment s y ≡ false) e.1.segments other
    (all_filtered (λ s. are_clear q y s ≡ true) (λ s. s.file == y.file) e.1.segments
    (each_mapped (λ (d : ℕ × Segment). are_clear q y d.1 ≡ true) (λ s. (e.0, s)) (filter (λ s. s.file == y.file) e.1.segments) all)))
    (each_of_flat (λ (d : ℕ × Segment). are_clear q y d.1 ≡ true) (λ (e : ℕ × CopyRow). map (λ s. (e.0, s)) (filter (λ s. s.file == y.file) e.1.segments)) (copies v)
    (all_of (λ (d : ℕ × Segment). are_clear q y d.1) (segments_on y.file v) h)))
  where
    q : Bool
    q = is_sequential number v.stores

    other : (s : Segment) → ((s.file == y.file) ≡ true → are_clear q y s ≡ true) → is_same_segment s y ≡ false
    other s clear = go (is_same_segment s y) refl where
      go : (b : Bool) → is_same_segment s y ≡ b → is_same_segment s y ≡ false
      go false e = e
      go true e = absurd (clear_differs q y s (clear (and_parts (s.file == y.file) (s.offset == y.offset && s.len == y.len) e).0) (same_turned y s ∙ e))

pub places_clear : (actor : ℕ) (x : Change) (numbers : List ℕ) (c : Core) → Joins actor x numbers c → SpaceIsClear c → AllByRecursion (λ (e : ℕ × List Segment). AllByRecursion (AllOther (inventory c)) e.1) (placed_segments x)
places_clear actor x numbers c j space =
    each_also (λ (e : ℕ × List Segment). (t : Ticket) × Spent actor numbers c t × IsPlacedBy c t e) (λ (e : ℕ × List Segment). AllByRecursion (AllOther (inventory c)) e.1) (placed_segments x)
    (λ e from. subst (AllByRecursion (AllOther (inventory c))) from.2.segments
    (each_also (IsClear c from.0.place.pool) (AllOther (inventory c)) from.0.place.segments
    (λ y clear. beside_other from.0.place.pool (inventory c) y (last_left (λ v. is_beside from.0.place.pool y v ≡ true) c clear.0))
    (contained_holds (λ (t : Ticket). AllByRecursion (IsClear c t.place.pool) t.place.segments) c.tickets from.0 from.1.there space.clear))) j.places

-- What a transaction that joins takes away, where the rows of its database stand in order, and the changes that touch no object leave each as it is.
pub takes_joined : (actor : ℕ) (x : Change) (numbers : List ℕ) (c : Core) → IsLawful c → IsOrdered (inventory c) → Joins actor x numbers c → SpaceIsClear c
    → (is_quiet x ≡ true → (k : ℕ) (a : Version) → version k (inventory c) ≡ Some a → version k (effect x (inventory c)) ≡ Some a) → TakesAway x (inventory c)
takes_joined actor x numbers c l ordered j space rest =
    takes_away (journal_of c.base c.journal) x (inventory c) (last_left (λ v. is_valid v ≡ true) c (left_lawful c l)) ordered j.legal rest (places_clear actor x numbers c j space)
