-- Segments that come and go leave the nodes, the filespaces, the held objects and the number of volumes as they are; scratch volumes come.
use Rattle.std.proofs.Common.{◌≡◌, ℕ, ◌+◌, ◌≤◌, true, false, cond, suc, not, ◌&&◌, is_none, List, [], ◌∷◌, length, map, Option, Some, None, Result, Ok, Err, refl, sym, ap, ◌∙◌, arith}
use Rattle.std.specs.Prelude.{nat_le, ◌==◌}
use Rattle.std.specs.BTreeMap.{is_at}
use Rattle.std.specs.List.{list_all, flat_map}
use Rattle.std.specs.Option.{option_map_or}
use Rattle.std.specs.Ordering.{match_ordering, nat_cmp}
use Rattle.std.specs.declared.cmp.Ordering.TheVariants.{Less, Equal, Greater}
use Rattle.std.proofs.lemmas.Bool.{eqb-false, not-true}
use Rattle.std.proofs.lemmas.Map.Lookups.{exact_unsigned}
use Rattle.kinds.specs.declared.refusal.Refusal.{Refusal}
use Rattle.kinds.specs.declared.segment.Segment.{Segment}
use Rattle.inventory_rules.specs.entries.change_items.declared.items.ScratchVolume.{ScratchVolume}
use Rattle.inventory_rules.specs.inventory_rows.version_groups.declared.copies.CopyRow.{CopyRow}
use Rattle.inventory_rules.specs.inventory_rows.version_groups.Entries.{all_later}
use Rattle.inventory_rules.specs.inventory_rows.volume_rows.declared.volume.Volume.{Volume}
use Rattle.inventory_rules.specs.inventory_rows.volume_rows.Held.{held_of}
use Rattle.inventory_rules.specs.inventory_rows.pool_tables.RowChanges as row
use Rattle.inventory_rules.specs.inventory_rows.pool_tables.Rows.{change_row, changed, row_at, row_set, with_row}
use Rattle.inventory_rules.proofs.of_inventory_rows.of_pool_tables.Counting.{apart_at}
use Rattle.inventory_rules.specs.inventory_rows.pool_rows.PoolRows.{PoolRows, is_sequential_at, pool_capacity}
use Rattle.inventory_rules.specs.inventory_rows.pool_rows.Segments.{with_volumes}
use Rattle.inventory_rules.specs.inventory_rows.object_rows.Items.{items_of_held}
use Rattle.inventory_rules.specs.inventory_rows.Items.{count_items, items_of_filespace}
use Rattle.inventory_rules.specs.inventory_rows.State.{Inv}
use Rattle.inventory_rules.specs.Common.{each, or_same, file_bound, files_refused, is_free_file}
use Rattle.inventory_rules.specs.Segments.{make_scratch, put, take_all, take_away, scratch_refused}
use Rattle.inventory_rules.specs.Transactions.{OnlyData}
use Rattle.inventory_laws.proofs.Facts.{both, first, rest}
use Rattle.inventory_laws.proofs.Absent.{files_apart, files_free, none_is}
use Rattle.inventory_laws.proofs.CountedParts.{in_backups, in_domains, nothing_first}
use Rattle.inventory_laws.proofs.Flat.{in_rows}
use Rattle.inventory_laws.proofs.Weights.{length-inserted, length-set, rows}

-- the nodes, filespaces and objects are the same, and so is the number of volumes
pub record Stays (v w : Inv) : Type 0 where
  pub clients : w.clients ≡ v.clients
  pub volumes : length w.stores.volumes ≡ length v.stores.volumes

pub stays : (v : Inv) → Stays v v
stays v = record { clients = refl; volumes = refl }

pub then : {a b c : Inv} → Stays a b → Stays b c → Stays a c
then s t = record { clients = t.clients ∙ s.clients; volumes = t.volumes ∙ s.volumes }

volumes_stay : (number : ℕ) (step : Volume → Result Volume Refusal) (s : PoolRows) → length (or_same s (with_volumes s (change_row number step s.volumes))).volumes ≡ length s.volumes
volumes_stay number step s = there (row_at number s.volumes) where
  made : (r : Result Volume Refusal) → length (or_same s (with_volumes s (row_set number s.volumes r))).volumes ≡ length s.volumes
  made (Ok x) = length-set (is_at (nat_cmp number)) s.volumes x
  made (Err e) = refl

  there : (o : Option Volume) → length (or_same s (with_volumes s (changed number step s.volumes o))).volumes ≡ length s.volumes
  there None = refl
  there (Some x) = made (step x)

pub put_stays : (object : ℕ) (segments : List Segment) (v : Inv) → Stays v (put object segments v)
put_stays object [] v = stays v
put_stays object (s ∷ segments) v =
    then (record { clients = refl; volumes = volumes_stay s.file (row.put (is_sequential_at s.file v.stores) (held_of object s)) v.stores }) (put_stays object segments (put object (s ∷ []) v))

pub take_away_stays : (object : ℕ) (segments : List Segment) (v : Inv) → Stays v (take_away object segments v)
take_away_stays object [] v = stays v
take_away_stays object (s ∷ segments) v =
    then (record { clients = refl; volumes = volumes_stay s.file (row.take (is_sequential_at s.file v.stores) (held_of object s) v.today) v.stores }) (take_away_stays object segments (take_away object (s ∷ []) v))

pub take_all_stays : (object : ℕ) (copies : List CopyRow) (v : Inv) → Stays v (take_all object copies v)
take_all_stays object [] v = stays v
take_all_stays object (c ∷ copies) v = then (take_away_stays object c.segments v) (take_all_stays object copies (take_away object c.segments v))

-- ---- the items of filespaces, held objects and volumes

abbrev pub in_data : Inv → ℕ
in_data v = in_rows v.clients + length v.stores.volumes

pub same_data : (v w : Inv) → Stays v w → in_data w ≡ in_data v
same_data v w s = ap (λ c. in_rows c + length w.stores.volumes) s.clients ∙ ap (λ n. in_rows v.clients + n) s.volumes

whole_more : (d e n m f h x y c k p q u w b l g a : ℕ) → e ≡ d → m ≡ n → k ≡ c → q ≡ p → l ≡ b → h + y + w + g ≡ f + x + u + a → e + (m + h + y) + (k + (q + w)) + l + g ≡ d + (n + f + x) + (c + (p + u)) + b + a
whole_more d e n m f h x y c k p q u w b l g a de mn kc qp lb fu = omega (arith, de, mn, kc, qp, lb, fu)

whole_less : (d e n m f h x y c k p q u w b l : ℕ) → e ≡ d → m ≡ n → k ≡ c → q ≡ p → l ≡ b → h + y + w ≤ f + x + u → e + (m + h + y) + (k + (q + w)) + l ≤ d + (n + f + x) + (c + (p + u)) + b
whole_less d e n m f h x y c k p q u w b l de mn kc qp lb fu = omega (arith, de, mn, kc, qp, lb, fu)

-- what these are more, all are more
pub data_more : (v w : Inv) (g a : ℕ) → OnlyData v w → in_data w + g ≡ in_data v + a → count_items w + g ≡ count_items v + a
data_more v w g a s h =
    whole_more (in_domains v.domains) (in_domains w.domains) (length v.clients.nodes) (length w.clients.nodes) (rows items_of_filespace v.clients.filespaces) (rows items_of_filespace w.clients.filespaces)
    (items_of_held v.clients.held) (items_of_held w.clients.held)
    (length v.stores.classes) (length w.stores.classes) (length v.stores.pools) (length w.stores.pools) (length v.stores.volumes) (length w.stores.volumes) (in_backups v.backups) (in_backups w.backups) g a
    (ap in_domains s.domains) (ap (λ ns. length ns) s.nodes) (ap (λ cs. length cs) s.classes) (ap (λ ps. length ps) s.pools) (ap in_backups s.backups) h

pub data_less : (v w : Inv) → OnlyData v w → in_data w ≤ in_data v → count_items w ≤ count_items v
data_less v w s h =
    whole_less (in_domains v.domains) (in_domains w.domains) (length v.clients.nodes) (length w.clients.nodes) (rows items_of_filespace v.clients.filespaces) (rows items_of_filespace w.clients.filespaces)
    (items_of_held v.clients.held) (items_of_held w.clients.held)
    (length v.stores.classes) (length w.stores.classes) (length v.stores.pools) (length w.stores.pools) (length v.stores.volumes) (length w.stores.volumes) (in_backups v.backups) (in_backups w.backups)
    (ap in_domains s.domains) (ap (λ ns. length ns) s.nodes) (ap (λ cs. length cs) s.classes) (ap (λ ps. length ps) s.pools) (ap in_backups s.backups) h

less_then : (a b c : ℕ) → c ≤ b → b ≤ a → c ≤ a
less_then a b c h g = omega (arith, h, g)

-- items one after the other, of which none adds anything
pub each_less : {X : Type 0} (step : X → Inv → Inv) → ((x : X) (v : Inv) → in_data (step x v) ≤ in_data v) → (xs : List X) (v : Inv) → in_data (each step xs v) ≤ in_data v
each_less step h [] v = omega arith
each_less step h (x ∷ xs) v = less_then (in_data v) (in_data (step x v)) (in_data (each step xs (step x v))) (each_less step h xs (step x v)) (h x v)

-- ---- scratch volumes

pub row_at-inserted_other : {V : Type 0} (k q : ℕ) (w : V) (es : List (ℕ × V)) → (k ≡ q → ⊥) → row_at q (with_row k w es) ≡ row_at q es
row_at-inserted_other k q w [] ne = ap (λ b. cond b (Some w) None) (apart_at q k (λ e. ne (sym e)))
row_at-inserted_other {V} k q w (e ∷ es) ne =
    elim (nat_cmp k e.0) as (λ o. nat_cmp k e.0 ≡ o → row_at q (match_ordering o ((k, w) ∷ e ∷ es) ((e.0, w) ∷ es) (e ∷ with_row k w es)) ≡ row_at q (e ∷ es)) [
      | Less ↦ λ _. ap (λ b. cond b (Some w) (row_at q (e ∷ es))) (apart_at q k (λ s. ne (sym s)))
      | Equal ↦ λ here.
          let off : is_at (nat_cmp q) e.0 ≡ false = apart_at q e.0 (λ s. ne (exact_unsigned k e.0 here ∙ sym s)) in
          ap (λ b. cond b (Some w) (row_at q es)) off ∙ sym (ap (λ b. cond b (Some e.1) (row_at q es)) off)
      | Greater ↦ λ _. ap (λ r. cond (is_at (nat_cmp q) e.0) (Some e.1) r) (row_at-inserted_other k q w es ne)
    ] refl

still_free : (file : ℕ) (w : Volume) (volumes : List (ℕ × Volume)) (files : List ℕ) → list_all (λ b. not (file == b)) files ≡ true → list_all (λ f. is_none (row_at f volumes)) files ≡ true → list_all (λ f. is_none (row_at f (with_row file w volumes))) files ≡ true
still_free file w volumes [] a h = refl
still_free file w volumes (f ∷ files) a h =
    let ne : file == f ≡ false = not-true (file == f) (first (not (file == f)) (list_all (λ b. not (file == b)) files) a) in
    let here : is_none (row_at f volumes) ≡ true = first (is_none (row_at f volumes)) (list_all (λ g. is_none (row_at g volumes)) files) h in
    both (is_none (row_at f (with_row file w volumes))) (list_all (λ g. is_none (row_at g (with_row file w volumes))) files)
    (ap is_none (row_at-inserted_other file f w volumes (eqb-false file f ne)) ∙ here)
    (still_free file w volumes files (rest (not (file == f)) (list_all (λ b. not (file == b)) files) a) (rest (is_none (row_at f volumes)) (list_all (λ g. is_none (row_at g volumes)) files) h))

pub no_volumes : (files : List ℕ) (v : Inv) → list_all (is_free_file v) files ≡ true → list_all (λ f. is_none (row_at f v.stores.volumes)) files ≡ true
no_volumes [] v h = refl
no_volumes (f ∷ files) v h =
    let free : is_free_file v f ≡ true = first (is_free_file v f) (list_all (is_free_file v) files) h in
    both (is_none (row_at f v.stores.volumes)) (list_all (λ g. is_none (row_at g v.stores.volumes)) files)
    (first (is_none (row_at f v.stores.volumes)) (is_none (row_at f v.backups)) (rest (nat_le 4 f) (is_none (row_at f v.stores.volumes) && is_none (row_at f v.backups)) free))
    (no_volumes files v (rest (is_free_file v f) (list_all (is_free_file v) files) h))

-- so many volumes more, and the same nodes, filespaces and objects
pub record Scratched (n : ℕ) (v w : Inv) : Type 0 where
  pub clients : w.clients ≡ v.clients
  pub volumes : length w.stores.volumes ≡ n + length v.stores.volumes

scratch_volumes : (scratch : List ScratchVolume) (v : Inv) → list_all (λ f. is_none (row_at f v.stores.volumes)) (map (λ s. s.file) scratch) ≡ true → all_later (λ a b. not (a == b)) (map (λ s. s.file) scratch) ≡ true → Scratched (length scratch) v (each make_scratch scratch v)
scratch_volumes [] v h a = record { clients = refl; volumes = omega arith }
scratch_volumes (s ∷ scratch) v h a =
    let files : List ℕ = map (λ t. t.file) scratch in
    let w : Volume = row.scratch_volume s.pool s.file (option_map_or (λ c. c) (pool_capacity s.pool v.stores) 0) in
    let here : is_none (row_at s.file v.stores.volumes) ≡ true = first (is_none (row_at s.file v.stores.volumes)) (list_all (λ f. is_none (row_at f v.stores.volumes)) files) h in
    let one : length (with_row s.file w v.stores.volumes) ≡ 1 + length v.stores.volumes = length-inserted nat_cmp v.stores.volumes s.file w (none_is (row_at s.file v.stores.volumes) here) in
    let apart : list_all (λ b. not (s.file == b)) files ≡ true = first (list_all (λ b. not (s.file == b)) files) (all_later (λ x b. not (x == b)) files) a in
    let more : Scratched (length scratch) (make_scratch s v) (each make_scratch scratch (make_scratch s v)) =
    scratch_volumes scratch (make_scratch s v)
    (still_free s.file w v.stores.volumes files apart (rest (is_none (row_at s.file v.stores.volumes)) (list_all (λ f. is_none (row_at f v.stores.volumes)) files) h))
    (rest (list_all (λ b. not (s.file == b)) files) (all_later (λ x b. not (x == b)) files) a) in
    record { clients = more.clients; volumes = one_more_volume (length (each make_scratch scratch (make_scratch s v)).stores.volumes) (length (with_row s.file w v.stores.volumes)) (length v.stores.volumes) (length scratch) more.volumes one }
  where
    one_more_volume : (w u v n : ℕ) → w ≡ n + u → u ≡ 1 + v → w ≡ suc n + v
    one_more_volume w u v n h g = omega (arith, h, g)

pub scratched : (scratch : List ScratchVolume) (v : Inv) → scratch_refused scratch v ≡ [] → Scratched (length scratch) v (each make_scratch scratch v)
scratched scratch v h =
    let files : List ℕ = map (λ s. s.file) scratch in
    let free : files_refused files v ≡ [] = nothing_first (files_refused files v) (flat_map (λ s. file_bound s.file v) scratch) h in
    scratch_volumes scratch v (no_volumes files v (files_free files v free)) (files_apart files v free)
