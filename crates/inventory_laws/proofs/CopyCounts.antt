-- Copies that are made beside others, and copies that go.
use Rattle.std.proofs.Common.{◌≡◌, ℕ, ◌+◌, ◌≤◌, Bool, true, false, cond, not, eqb, is_some, nat_lt, List, [], ◌∷◌, ◌++◌, length, map, Option, Some, None, Result, Ok, Err, refl, ap, ◌∙◌, arith}
use Rattle.std.specs.Prelude.{◌==◌}
use Rattle.std.specs.List.{list_all, flat_map, sum_by}
use Rattle.std.proofs.lemmas.List.Sums.{sum_by-cons}
use Rattle.kinds.specs.declared.refusal.Refusal.{Refusal}
use Rattle.kinds.specs.declared.refusal.Refusal.TheVariants.{NotFound}
use Rattle.inventory_rules.specs.entries.change_items.declared.items.DroppedCopy.{DroppedCopy}
use Rattle.inventory_rules.specs.entries.change_items.declared.items.NewCopy.{NewCopy}
use Rattle.inventory_rules.specs.entries.change_items.declared.lists.DroppedCopies.{DroppedCopies}
use Rattle.inventory_rules.specs.entries.change_items.declared.lists.NewCopies.{NewCopies}
use Rattle.inventory_rules.specs.entries.declared.change.Change.TheVariants as change
use Rattle.inventory_rules.specs.inventory_rows.version_groups.declared.copies.CopyChange.{CopyChange}
use Rattle.inventory_rules.specs.inventory_rows.version_groups.declared.copies.CopyChange.TheVariants as copy
use Rattle.inventory_rules.specs.inventory_rows.version_groups.declared.copies.CopyRow.{CopyRow}
use Rattle.inventory_rules.specs.inventory_rows.version_groups.declared.versions.Version.{Version}
use Rattle.inventory_rules.specs.inventory_rows.version_groups.Copies.{copies_after, has_copy, with_copy, without_copy}
use Rattle.inventory_rules.specs.inventory_rows.version_groups.Entries.{if_found, on_ok}
use Rattle.inventory_rules.specs.inventory_rows.version_groups.Versions.{are_distinct, having_copies, version_of, with_copies}
use Rattle.inventory_rules.proofs.of_inventory_rows.of_version_groups.Lists.{distinct-with_copies}
use Rattle.inventory_rules.specs.inventory_rows.object_rows.Rows.{Rows, kept_of, rows_altered, rows_copied}
use Rattle.inventory_rules.specs.inventory_rows.Items.{count_items}
use Rattle.inventory_rules.specs.inventory_rows.Search.{copy_in, version, versions}
use Rattle.inventory_rules.specs.inventory_rows.State.{Inv}
use Rattle.inventory_rules.specs.Common.{each, or_same}
use Rattle.inventory_rules.specs.Copies.{add_copy, added, change_copy, drop_copy, placed_now, segments_in, version_at, copied_refused, copy_list_refused, stale_copy}
use Rattle.inventory_rules.specs.Segments.{make_scratch, take_away, scratch_refused}
use Rattle.inventory_rules.specs.Transactions.{effect}
use Rattle.inventory_rules.specs.Journal.{Journal}
use Rattle.kinds.specs.Refusals.{bad_value, unless}
use Rattle.inventory_rules.specs.Versions.{name_once, of_version}
use Rattle.inventory_rules.proofs.CopiedLists.{kept_of-copied}
use Rattle.inventory_rules.proofs.Touched.{effect-data}
use Rattle.inventory_laws.proofs.Facts.{both, first, rest}
use Rattle.inventory_laws.proofs.Flat.{in_copies, in_rows, in_rows-copied}
use Rattle.inventory_laws.proofs.Kept.{object-having}
use Rattle.inventory_laws.proofs.CountedParts.{nothing_first, nothing_then}
use Rattle.inventory_laws.proofs.Stays.{Scratched, Stays, data_less, data_more, in_data, put_stays, scratched, take_away_stays}
use Rattle.inventory_laws.proofs.Weights.{weigh-cons, weigh-filter}

-- ---- a version that is found, and its copies

pub is_found : {X : Type 0} (o : Option X) → is_some o ≡ true → (x : X) × (o ≡ Some x)
is_found (Some x) h = (x, refl)
is_found None h = absurd cc

-- each object has a version that had one
pub still_there : (k j : ℕ) (cs : List CopyRow) (vs : List Version) → is_some (version_of j (with_copies k cs vs)) ≡ is_some (version_of j vs)
still_there k j cs [] = refl
still_there k j cs (v ∷ vs) =
    ap (λ n. is_some (cond (eqb n j) (Some (having_copies k cs v)) (version_of j (with_copies k cs vs)))) (object-having k cs v)
    ∙ elim (eqb v.object j) as (λ b. is_some (cond b (Some (having_copies k cs v)) (version_of j (with_copies k cs vs))) ≡ is_some (cond b (Some v) (version_of j vs))) [
      | true ↦ refl
      | false ↦ still_there k j cs vs
    ]

abbrev alter : ℕ → CopyChange → Rows → Option Version → Result Rows Refusal
alter k step rows found = if_found found (λ v. on_ok (λ copies. rows_copied k copies rows) (copies_after step v.copies))

-- what a change of the copies gives, where the version is there and the change isn't refused
pub altered_is : (k : ℕ) (step : CopyChange) (rows : Rows) (w : Version) (cs : List CopyRow) → version_of k (kept_of rows) ≡ Some w → copies_after step w.copies ≡ Ok cs → or_same rows (rows_altered k step rows) ≡ rows_copied k cs rows
altered_is k step rows w cs h g =
    ap (λ o. or_same rows (alter k step rows o)) h ∙ ap (λ r. or_same rows (on_ok (λ copies. rows_copied k copies rows) r)) g

-- the objects of the rows that a change of copies leaves are distinct
pub distinct_copied : (k : ℕ) (cs : List CopyRow) (rows : Rows) → are_distinct (kept_of rows) ≡ true → are_distinct (kept_of (rows_copied k cs rows)) ≡ true
distinct_copied k cs rows d = ap are_distinct (kept_of-copied k cs rows) ∙ distinct-with_copies k cs (kept_of rows) ∙ d

-- ---- one copy more

pub in_copies-with : (row : CopyRow) (cs : List CopyRow) → in_copies (with_copy row cs) ≡ 1 + (length row.segments + in_copies cs)
in_copies-with row [] = weigh-cons (λ (c : CopyRow). length c.segments) row []
in_copies-with row (c ∷ cs) =
    elim (nat_lt row.pool c.pool) as (λ b. in_copies (cond b (row ∷ c ∷ cs) (c ∷ with_copy row cs)) ≡ 1 + (length row.segments + in_copies (c ∷ cs))) [
      | true ↦ weigh-cons (λ (x : CopyRow). length x.segments) row (c ∷ cs)
      | false ↦ more (in_copies (c ∷ with_copy row cs)) (in_copies (with_copy row cs)) (in_copies cs) (length c.segments) (length row.segments) (in_copies (c ∷ cs))
          (weigh-cons (λ (x : CopyRow). length x.segments) c (with_copy row cs)) (in_copies-with row cs) (weigh-cons (λ (x : CopyRow). length x.segments) c cs)
    ]
  where
    more : (a b c n x y : ℕ) → a ≡ 1 + (n + b) → b ≡ 1 + (x + c) → y ≡ 1 + (n + c) → a ≡ 1 + (x + y)
    more a b c n x y h g e = omega (arith, h, g, e)

one_more : (a w f n s : ℕ) → a + w ≡ f + n → n ≡ 1 + (s + w) → a ≡ f + (1 + s)
one_more a w f n s h g = omega (arith, h, g)

-- what stands once a copy is made of a version that is there
pub record CopyMade (item : NewCopy) (v : Inv) (w : Inv) : Type 0 where
  pub adds : in_rows w.clients ≡ in_rows v.clients + (1 + length item.segments)
  pub volumes : length w.stores.volumes ≡ length v.stores.volumes
  pub distinct : are_distinct (versions w) ≡ true
  pub there : (j : ℕ) → is_some (version_of j (versions w)) ≡ is_some (version_of j (versions v))

copy_made : (item : NewCopy) (v : Inv) → are_distinct (versions v) ≡ true → is_some (version_of item.object (versions v)) ≡ true → CopyMade item v (add_copy item v)
copy_made item v d h =
    let w : (x : Version) × (version_of item.object (versions v) ≡ Some x) = is_found (version_of item.object (versions v)) h in
    let row : CopyRow = placed_now item.pool item.segments v in
    let cs : List CopyRow = with_copy row w.0.copies in
    let is : (change_copy item.object (added item v) v).clients ≡ rows_copied item.object cs v.clients = altered_is item.object (copy.Add row) v.clients w.0 cs w.1 refl in
    let s : Stays (change_copy item.object (added item v) v) (add_copy item v) = put_stays item.object item.segments (change_copy item.object (added item v) v) in
    let now : (add_copy item v).clients ≡ rows_copied item.object cs v.clients = s.clients ∙ is in
    record {
      adds = ap in_rows now
          ∙ one_more (in_rows (rows_copied item.object cs v.clients)) (in_copies w.0.copies) (in_rows v.clients) (in_copies cs) (length item.segments)
          (in_rows-copied item.object cs v.clients w.0 d w.1) (in_copies-with row w.0.copies);
      volumes = s.volumes;
      distinct = ap (λ c. are_distinct (kept_of c)) now ∙ distinct_copied item.object cs v.clients d;
      there = λ j. ap (λ c. is_some (version_of j (kept_of c))) now ∙ ap (λ vs. is_some (version_of j vs)) (kept_of-copied item.object cs v.clients) ∙ still_there item.object j cs (versions v);
    }

abbrev with_version : Inv → NewCopy → Bool
with_version v i = is_some (version_of i.object (versions v))

all_still : (v w : Inv) → ((j : ℕ) → is_some (version_of j (versions w)) ≡ is_some (version_of j (versions v))) → (items : List NewCopy) → list_all (with_version v) items ≡ true → list_all (with_version w) items ≡ true
all_still v w same [] h = refl
all_still v w same (i ∷ items) h =
    both (with_version w i) (list_all (with_version w) items)
    (same i.object ∙ first (with_version v i) (list_all (with_version v) items) h)
    (all_still v w same items (rest (with_version v i) (list_all (with_version v) items) h))

abbrev of_copy : NewCopy → ℕ
of_copy i = 1 + length i.segments

first_and_more : (a b f n s t : ℕ) → a ≡ b + s → b ≡ f + n → t ≡ n + s → a ≡ f + t
first_and_more a b f n s t h g e = omega (arith, h, g, e)

record CopiesMade (items : List NewCopy) (v w : Inv) : Type 0 where
  pub adds : in_rows w.clients ≡ in_rows v.clients + sum_by of_copy items
  pub volumes : length w.stores.volumes ≡ length v.stores.volumes

copies_made : (items : List NewCopy) (v : Inv) → are_distinct (versions v) ≡ true → list_all (with_version v) items ≡ true → CopiesMade items v (each add_copy items v)
copies_made [] v d h = record { adds = omega arith; volumes = refl }
copies_made (i ∷ items) v d h =
    let m : CopyMade i v (add_copy i v) = copy_made i v d (first (with_version v i) (list_all (with_version v) items) h) in
    let r : CopiesMade items (add_copy i v) (each add_copy items (add_copy i v)) = copies_made items (add_copy i v) m.distinct (all_still v (add_copy i v) m.there items (rest (with_version v i) (list_all (with_version v) items) h)) in
    record {
      adds = first_and_more (in_rows (each add_copy items (add_copy i v)).clients) (in_rows (add_copy i v).clients) (in_rows v.clients) (of_copy i) (sum_by of_copy items) (sum_by of_copy (i ∷ items))
          r.adds m.adds (sum_by-cons of_copy i items);
      volumes = r.volumes ∙ m.volumes;
    }

-- what isn't refused of a list of copies: each of their versions is there
one_there : (j : Journal) (v : Inv) (i : NewCopy) (o : Option Version) → of_version j i.object (λ w. unless (not (is_some (copy_in i.pool w))) (stale_copy (j.copy_changed i.object i.pool) (copy_in i.pool w))) o ≡ [] → is_some o ≡ true
one_there j v i None h = absurd cc
one_there j v i (Some w) h = refl

each_there : (j : Journal) (v : Inv) (items : List NewCopy) → flat_map (copied_refused j v) items ≡ [] → list_all (with_version v) items ≡ true
each_there j v [] h = refl
each_there j v (i ∷ items) h =
    both (with_version v i) (list_all (with_version v) items)
    (one_there j v i (version i.object v) (nothing_first (copied_refused j v i) (flat_map (copied_refused j v) items) h))
    (each_there j v items (nothing_then (copied_refused j v i) (flat_map (copied_refused j v) items) h))

all_copies : (a f s w u v n : ℕ) → a ≡ f + s → w ≡ u → u ≡ n + v → a + w + 0 ≡ f + v + (n + s)
all_copies a f s w u v n h g e = omega (arith, h, g, e)

pub copies_counted : (j : Journal) (c : NewCopies) (v : Inv) → are_distinct (versions v) ≡ true → copy_list_refused j c.items v ++ scratch_refused c.scratch v ≡ []
    → count_items (effect (change.Copy c) v) + 0 ≡ count_items v + (length c.scratch + sum_by of_copy c.items)
unfolding effect
copies_counted j c v d h =
    let u : Inv = each make_scratch c.scratch v in
    let s : Scratched (length c.scratch) v u = scratched c.scratch v (nothing_then (copy_list_refused j c.items v) (scratch_refused c.scratch v) h) in
    let named : flat_map (copied_refused j v) c.items ≡ [] = nothing_then (unless (name_once (map (λ i. i.object) c.items)) bad_value) (flat_map (copied_refused j v) c.items) (nothing_first (copy_list_refused j c.items v) (scratch_refused c.scratch v) h) in
    let there : list_all (with_version u) c.items ≡ true = all_still v u (λ k. ap (λ cl. is_some (version_of k (kept_of cl))) s.clients) c.items (each_there j v c.items named) in
    let m : CopiesMade c.items u (each add_copy c.items u) = copies_made c.items u (ap (λ cl. are_distinct (kept_of cl)) s.clients ∙ d) there in
    data_more v (effect (change.Copy c) v) 0 (length c.scratch + sum_by of_copy c.items) (effect-data (change.Copy c) v refl)
    (all_copies (in_rows (each add_copy c.items u).clients) (in_rows v.clients) (sum_by of_copy c.items) (length (each add_copy c.items u).stores.volumes) (length u.stores.volumes) (length v.stores.volumes) (length c.scratch)
    (m.adds ∙ ap (λ cl. in_rows cl + sum_by of_copy c.items) s.clients) m.volumes s.volumes)

-- ---- copies that go

fewer_copies : (a w f n : ℕ) → a + w ≡ f + n → n ≤ w → a ≤ f
fewer_copies a w f n h g = omega (arith, h, g)

record CopyGone (rows new : Rows) : Type 0 where
  pub less : in_rows new ≤ in_rows rows
  pub distinct : are_distinct (kept_of new) ≡ true

copy_gone : (k pool : ℕ) (rows : Rows) → are_distinct (kept_of rows) ≡ true → CopyGone rows (or_same rows (rows_altered k (copy.Drop pool) rows))
copy_gone k pool rows d = there (version_of k (kept_of rows)) refl where
  dropping : (w : Version) → version_of k (kept_of rows) ≡ Some w → (b : Bool) → CopyGone rows (or_same rows (on_ok (λ copies. rows_copied k copies rows) (cond {A = Result (List CopyRow) Refusal} b (Ok (without_copy pool w.copies)) (Err NotFound))))
  dropping w e true = record {
    less = fewer_copies (in_rows (rows_copied k (without_copy pool w.copies) rows)) (in_copies w.copies) (in_rows rows) (in_copies (without_copy pool w.copies))
        (in_rows-copied k (without_copy pool w.copies) rows w d e) (weigh-filter (λ (c : CopyRow). length c.segments) (λ (c : CopyRow). not (c.pool == pool)) w.copies);
    distinct = distinct_copied k (without_copy pool w.copies) rows d;
  }
  dropping w e false = record { less = omega arith; distinct = d }

  there : (o : Option Version) → version_of k (kept_of rows) ≡ o → CopyGone rows (or_same rows (alter k (copy.Drop pool) rows o))
  there None e = record { less = omega arith; distinct = d }
  there (Some w) e = dropping w e (has_copy pool w.copies)

record Dropped (v w : Inv) : Type 0 where
  pub less : in_data w ≤ in_data v
  pub distinct : are_distinct (versions w) ≡ true

drop_one : (item : DroppedCopy) (v : Inv) → are_distinct (versions v) ≡ true → Dropped v (drop_copy item v)
drop_one item v d =
    let u : Inv = take_away item.object (segments_in item.pool (version_at item.object v)) v in
    let s : Stays v u = take_away_stays item.object (segments_in item.pool (version_at item.object v)) v in
    let g : CopyGone u.clients (or_same u.clients (rows_altered item.object (copy.Drop item.pool) u.clients)) = copy_gone item.object item.pool u.clients (ap (λ cl. are_distinct (kept_of cl)) s.clients ∙ d) in
    record {
      less = drops (in_rows (or_same u.clients (rows_altered item.object (copy.Drop item.pool) u.clients))) (in_rows u.clients) (in_rows v.clients) (length u.stores.volumes) (length v.stores.volumes)
          g.less (ap in_rows s.clients) s.volumes;
      distinct = g.distinct;
    }
  where
    drops : (a b c u w : ℕ) → a ≤ b → b ≡ c → u ≡ w → a + u ≤ c + w
    drops a b c u w h g e = omega (arith, h, g, e)

drop_all : (items : List DroppedCopy) (v : Inv) → are_distinct (versions v) ≡ true → in_data (each drop_copy items v) ≤ in_data v
drop_all [] v d = omega arith
drop_all (i ∷ items) v d =
    let o : Dropped v (drop_copy i v) = drop_one i v d in
    then_less (in_data (each drop_copy items (drop_copy i v))) (in_data (drop_copy i v)) (in_data v) (drop_all items (drop_copy i v) o.distinct) o.less
  where
    then_less : (a b c : ℕ) → a ≤ b → b ≤ c → a ≤ c
    then_less a b c h g = omega (arith, h, g)

pub drops_take : (c : DroppedCopies) (v : Inv) → are_distinct (versions v) ≡ true → count_items (effect (change.DropCopies c) v) ≤ count_items v
unfolding effect
drops_take c v d = data_less v (effect (change.DropCopies c) v) (effect-data (change.DropCopies c) v refl) (drop_all c.items v d)
