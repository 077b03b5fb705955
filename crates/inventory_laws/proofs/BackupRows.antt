-- The beginning, the end and the deletion of a database backup leave a valid database.
use Rattle.std.proofs.Common.{◌≡◌, ℕ, ◌+◌, ◌-◌, ◌^◌, ◌≤◌, max, true, false, not, ltb, leb, eqb, ◌&&◌, is_none, List, [], ◌∷◌, ◌++◌, Option, Some, None, refl, ap, ◌∙◌, arith, le-leb, leb-true, lt-ltb, ne_eqb}
use Rattle.std.proofs.lemmas.List.Folds.{list_all-map}
use Rattle.std.proofs.lemmas.Map.{keys-set_value}
use Rattle.std.specs.BTreeMap.{is_at, insert_entry}
use Rattle.std.specs.List.{list_all}
use Rattle.std.specs.Map.{keys_of, lookup, remove_entry, set_value}
use Rattle.std.specs.Ordering.{nat_cmp}
use Rattle.kinds.specs.declared.refusal.Refusal.TheVariants as refusal
use Rattle.inventory_rules.specs.entries.declared.change.Change.TheVariants as change
use Rattle.inventory_rules.specs.inventory_rows.volume_rows.declared.volume.Volume.{Volume}
use Rattle.inventory_rules.specs.inventory_rows.pool_tables.Rows.{row_at}
use Rattle.inventory_rules.specs.inventory_rows.declared.backup.Backup.{Backup}
use Rattle.inventory_rules.specs.inventory_rows.Search.{versions}
use Rattle.inventory_rules.specs.inventory_rows.State.{Inv}
use Rattle.inventory_rules.specs.Backups.{after_refused, backup_ended, delays_now}
use Rattle.inventory_rules.specs.Transactions.{effect, causes, sizes_refused}
use Rattle.inventory_rules.specs.Held.{IsTied}
use Rattle.inventory_rules.specs.Journal.{Journal}
use Rattle.inventory_rules.specs.Common.{file_bound, files_refused, is_free_file}
use Rattle.kinds.specs.Refusals.{bad_value}
use Rattle.inventory_rules.specs.Valid.{are_apart, is_valid}
use Rattle.inventory_laws.proofs.RowParts.{FileParts, Parts, parts_of, valid_from, files_later, versions_later, clock_later, le_itself, le_more}
use Rattle.inventory_laws.proofs.Refusals.{behind_nil, few_items, front_nil, met, number_bounded}
use Rattle.inventory_laws.proofs.Facts.{both, first, rest}
use Rattle.inventory_laws.proofs.RowsKept.{AreLeft, Adds, adds-behind, adds-insert_entry, adds-map, all_later-adds, all_later-left, apart_from, bound-grows, le_then, left-behind, left-map, left-remove_entry, list_all-adds, list_all-joined, list_all-left, list_all-mono, list_all-set_value, map-set_value, nothing, passes-lookup, swap}

module _ (number today next : ℕ) (volumes : List (ℕ × Volume)) (backups : List (ℕ × Backup)) (f : FileParts number today next volumes backups) where
  ended : (file : ℕ) (b : Backup) → lookup (is_at (nat_cmp file)) backups ≡ Some b → FileParts number today next volumes (set_value (is_at (nat_cmp file)) backups (record b { is_done = true }))
  ended file b there = record {
    drawn = ap (λ ks. list_all (λ n. leb 4 n && ltb n next) (keys_of volumes ++ ks)) (keys-set_value (is_at (nat_cmp file)) backups (record b { is_done = true })) ∙ f.drawn;
    bounded = f.bounded;
    apart = ap (λ ks. are_apart (keys_of volumes ++ ks)) (keys-set_value (is_at (nat_cmp file)) backups (record b { is_done = true })) ∙ f.apart;
    backups_apart = ap are_apart (map-set_value (λ (x : Backup). x.number) (is_at (nat_cmp file)) backups b (record b { is_done = true }) there refl) ∙ f.backups_apart;
    past = list_all-set_value (λ e. leb e.1.number number) (is_at (nat_cmp file)) backups (record b { is_done = true }) (λ k _. (passes-lookup (λ e. leb e.1.number number) (is_at (nat_cmp file)) backups b f.past there).2) f.past;
    by_today = list_all-set_value (λ e. leb e.1.taken today) (is_at (nat_cmp file)) backups (record b { is_done = true }) (λ k _. (passes-lookup (λ e. leb e.1.taken today) (is_at (nat_cmp file)) backups b f.by_today there).2) f.by_today;
  }

  ended-at : (file : ℕ) (o : Option Backup) → lookup (is_at (nat_cmp file)) backups ≡ o → FileParts number today next volumes (backup_ended file o backups)
  ended-at file None h = f
  ended-at file (Some b) h = ended file b h

  deleted : (file : ℕ) → FileParts number today next volumes (remove_entry (is_at (nat_cmp file)) backups)
  deleted file =
      let left : AreLeft (remove_entry (is_at (nat_cmp file)) backups) backups = left-remove_entry (is_at (nat_cmp file)) backups in
      let keys : AreLeft (keys_of volumes ++ keys_of (remove_entry (is_at (nat_cmp file)) backups)) (keys_of volumes ++ keys_of backups) = left-behind (keys_of volumes) (left-map (λ (e : ℕ × Backup). e.0) left) in
      record {
        drawn = list_all-left (λ n. leb 4 n && ltb n next) keys f.drawn;
        bounded = f.bounded;
        apart = all_later-left (λ a b. not (eqb a b)) keys f.apart;
        backups_apart = all_later-left (λ a b. not (eqb a b)) (left-map (λ (e : ℕ × Backup). e.1.number) left) f.backups_apart;
        past = list_all-left (λ e. leb e.1.number number) left f.past;
        by_today = list_all-left (λ e. leb e.1.taken today) left f.by_today;
      }

-- a number that is past isn't the next one
past_ne : (n number : ℕ) → leb n number ≡ true → not (eqb (number + 1) n) ≡ true
past_ne n number h = ap not (ne_eqb (number + 1) n (λ same. absurd (let le : n ≤ number = leb-true n number h in omega (arith, le, same))))

drawn_now : (file next : ℕ) → leb 4 file ≡ true → (leb 4 file && ltb file (max next (file + 1))) ≡ true
drawn_now file next h = both _ _ h (lt-ltb file (max next (file + 1)) (omega arith))

bounded_now : (file next bound : ℕ) → ltb (max next (file + 1)) bound ≡ true → (leb 4 next && ltb next bound) ≡ true → (leb 4 (max next (file + 1)) && ltb (max next (file + 1)) bound) ≡ true
bounded_now file next bound h k = both _ _ (let le : 4 ≤ next = leb-true 4 next (first _ _ k) in le-leb 4 (max next (file + 1)) (omega arith)) h

grows : (next file : ℕ) → next ≤ max next (file + 1)
grows next file = omega arith

-- a backup begins under a free number, by the next transaction
begun : (number today next file : ℕ) (volumes : List (ℕ × Volume)) (backups : List (ℕ × Backup)) (b : Backup) → b.number ≡ number + 1 → b.taken ≡ today
    → leb 4 file ≡ true → is_none (row_at file volumes) ≡ true → is_none (row_at file backups) ≡ true → ltb (max next (file + 1)) (2 ^ 32 - 1) ≡ true
    → FileParts number today next volumes backups → FileParts (number + 1) today (max next (file + 1)) volumes (insert_entry nat_cmp backups file b)
begun number today next file volumes backups b numbered taken least free_there free_here below f =
    let adds : Adds (file, b) backups (insert_entry nat_cmp backups file b) = adds-insert_entry nat_cmp file b backups (nothing (row_at file backups) free_here) in
    let keys : Adds file (keys_of volumes ++ keys_of backups) (keys_of volumes ++ keys_of (insert_entry nat_cmp backups file b)) = adds-behind (keys_of volumes) (adds-map (λ (e : ℕ × Backup). e.0) adds) in
    record {
      drawn = list_all-adds (λ n. leb 4 n && ltb n (max next (file + 1))) keys (bound-grows 4 next (max next (file + 1)) (grows next file) (keys_of volumes ++ keys_of backups) f.drawn) (drawn_now file next least);
      bounded = both _ _ (bounded_now file next (2 ^ 32 - 1) below (first _ _ f.bounded)) refl;
      apart = all_later-adds (λ a c. not (eqb a c)) (λ a c. ap not (swap a c)) keys
          (list_all-joined (λ n. not (eqb file n)) (keys_of volumes) (keys_of backups) (apart_from file volumes free_there) (apart_from file backups free_here)) f.apart;
      backups_apart = all_later-adds (λ a c. not (eqb a c)) (λ a c. ap not (swap a c)) (adds-map (λ (e : ℕ × Backup). e.1.number) adds)
          (list_all-map (λ n. not (eqb b.number n)) (λ (e : ℕ × Backup). e.1.number) backups
          ∙ list_all-mono (λ e. leb e.1.number number) (λ e. not (eqb b.number e.1.number)) (λ e h. ap (λ m. not (eqb m e.1.number)) numbered ∙ past_ne e.1.number number h) backups f.past)
          f.backups_apart;
      past = list_all-adds (λ e. leb e.1.number (number + 1)) adds (list_all-mono (λ e. leb e.1.number number) (λ e. leb e.1.number (number + 1)) (λ e h. le_then e.1.number number (number + 1) h (le_more number)) backups f.past)
          (ap (λ m. leb m (number + 1)) numbered ∙ le_itself (number + 1));
      by_today = list_all-adds (λ e. leb e.1.taken today) adds f.by_today (ap (λ m. leb m today) taken ∙ le_itself today);
    }

parts-end : (file : ℕ) (v : Inv) → sizes_refused (change.DbEnd file) v ≡ [] → Parts v → Parts (effect (change.DbEnd file) v)
unfolding effect
parts-end file v sizes p = record {
  policy = p.policy;
  clients = p.clients;
  stores = p.stores;
  files = ended-at (v.number + 1) v.today v.next_file v.stores.volumes v.backups (files_later v.number (v.number + 1) v.today v.today v.next_file v.stores.volumes v.backups (le_more v.number) (le_itself v.today) p.files)
      file (lookup (is_at (nat_cmp file)) v.backups) refl;
  versions = versions_later v.number (v.number + 1) v.today v.today v.next_object v.stores (versions v) (le_more v.number) (le_itself v.today) p.versions;
  clock = clock_later v.number (v.number + 1) v.today v.today v.stores.volumes (number_bounded (change.DbEnd file) v sizes) p.clock.day_bounded (le_itself v.today) p.clock;
  few_items = few_items (change.DbEnd file) v sizes;
}

parts-delete : (file : ℕ) (v : Inv) → sizes_refused (change.DbDelete file) v ≡ [] → Parts v → Parts (effect (change.DbDelete file) v)
unfolding effect
parts-delete file v sizes p = record {
  policy = p.policy;
  clients = p.clients;
  stores = p.stores;
  files = deleted (v.number + 1) v.today v.next_file v.stores.volumes v.backups (files_later v.number (v.number + 1) v.today v.today v.next_file v.stores.volumes v.backups (le_more v.number) (le_itself v.today) p.files) file;
  versions = versions_later v.number (v.number + 1) v.today v.today v.next_object v.stores (versions v) (le_more v.number) (le_itself v.today) p.versions;
  clock = clock_later v.number (v.number + 1) v.today v.today v.stores.volumes (number_bounded (change.DbDelete file) v sizes) p.clock.day_bounded (le_itself v.today) p.clock;
  few_items = few_items (change.DbDelete file) v sizes;
}

parts-begin : (file : ℕ) (after : Option ℕ) (v : Inv) → is_free_file v file ≡ true → ltb (max v.next_file (file + 1)) (2 ^ 32 - 1) ≡ true → sizes_refused (change.DbBegin file after) v ≡ [] → Parts v → Parts (effect (change.DbBegin file after) v)
unfolding effect
parts-begin file after v free below sizes p = record {
  policy = p.policy;
  clients = p.clients;
  stores = p.stores;
  files = begun v.number v.today v.next_file file v.stores.volumes v.backups (record { taken = v.today; number = v.number + 1; is_done = false; after = after; delays = delays_now v }) refl refl
      (first _ _ free) (first _ _ (rest _ _ free)) (rest _ _ (rest _ _ free)) below p.files;
  versions = versions_later v.number (v.number + 1) v.today v.today v.next_object v.stores (versions v) (le_more v.number) (le_itself v.today) p.versions;
  clock = clock_later v.number (v.number + 1) v.today v.today v.stores.volumes (number_bounded (change.DbBegin file after) v sizes) p.clock.day_bounded (le_itself v.today) p.clock;
  few_items = few_items (change.DbBegin file after) v sizes;
}

pub end_stays : (j : Journal) (file : ℕ) (v : Inv) → is_valid v ≡ true → IsTied v → causes j (change.DbEnd file) v ≡ [] → sizes_refused (change.DbEnd file) v ≡ []
    → (is_valid (effect (change.DbEnd file) v) ≡ true) × IsTied (effect (change.DbEnd file) v)
end_stays j file v h t c s = valid_from (effect (change.DbEnd file) v) (parts-end file v s (parts_of v h t))

pub delete_stays : (j : Journal) (file : ℕ) (v : Inv) → is_valid v ≡ true → IsTied v → causes j (change.DbDelete file) v ≡ [] → sizes_refused (change.DbDelete file) v ≡ []
    → (is_valid (effect (change.DbDelete file) v) ≡ true) × IsTied (effect (change.DbDelete file) v)
delete_stays j file v h t c s = valid_from (effect (change.DbDelete file) v) (parts-delete file v s (parts_of v h t))

pub begin_stays : (j : Journal) (file : ℕ) (after : Option ℕ) (v : Inv) → is_valid v ≡ true → IsTied v → causes j (change.DbBegin file after) v ≡ [] → sizes_refused (change.DbBegin file after) v ≡ []
    → (is_valid (effect (change.DbBegin file after) v) ≡ true) × IsTied (effect (change.DbBegin file after) v)
begin_stays j file after v h t c s =
    let numbered : files_refused (file ∷ []) v ++ file_bound file v ≡ [] = behind_nil (after_refused after v) (files_refused (file ∷ []) v ++ file_bound file v) c in
    let free : ((is_free_file v file && true) && true) ≡ true = met ((is_free_file v file && true) && true) bad_value (front_nil (files_refused (file ∷ []) v) (file_bound file v) numbered) in
    let below : ltb (max v.next_file (file + 1)) (2 ^ 32 - 1) ≡ true = met (ltb (max v.next_file (file + 1)) (2 ^ 32 - 1)) refusal.InventoryFull (behind_nil (files_refused (file ∷ []) v) (file_bound file v) numbered) in
    valid_from (effect (change.DbBegin file after) v) (parts-begin file after v (first _ _ (first _ _ free)) below s (parts_of v h t))
