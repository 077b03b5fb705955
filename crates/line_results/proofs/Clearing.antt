-- A volume whose copies are discarded in turn with their objects has nothing on it afterwards, where one actor has the machine alone.
use Rattle.std.proofs.Common.{◌≡◌, ℕ, ◌+◌, ◌^◌, ◌==◌, nat_le, nat_lt, Bool, true, false, cond, eqb, ◌||◌, ◌&&◌, if◌then◌else◌, List, [], ◌∷◌, ◌++◌, map, Option, Some, None, Ok, Err, refl, sym, ap, subst, ◌∙◌}
use Rattle.std.proofs.lemmas.Bool.{eqb-true, false≢true}
use Rattle.std.proofs.lemmas.Option.{same_Some}
use Rattle.std.specs.List.{AllByRecursion, find, list_any}
use Rattle.std.specs.Prelude.{is_some}
use Rattle.std.specs.Option.{option_map, option_map_or}
use Rattle.kinds.specs.Names.{is_same_name}
use Rattle.kinds.specs.Refusals.{foremost, unless}
use Rattle.kinds.specs.declared.pool.PoolKind.{PoolKind}
use Rattle.kinds.specs.declared.pool.PoolKind.TheVariants.{Primary, Copy}
use Rattle.kinds.specs.declared.refusal.Refusal.{Refusal}
use Rattle.kinds.specs.declared.refusal.Refusal.TheVariants as refused
use Rattle.kinds.specs.declared.segment.Segment.{Segment}
use Rattle.entries.specs.change_items.declared.items.DiscardedVersion.{DiscardedVersion}
use Rattle.entries.specs.change_items.declared.items.DroppedCopy.{DroppedCopy}
use Rattle.entries.specs.change_items.declared.lists.DiscardedVersions.{DiscardedVersions}
use Rattle.entries.specs.change_items.declared.lists.DroppedCopies.{DroppedCopies}
use Rattle.entries.specs.declared.change.Change.{Change}
use Rattle.entries.specs.declared.change.Change.TheVariants as change
use Rattle.inventory_rows.specs.Items.{count_items, most_items}
use Rattle.inventory_rows.specs.object_rows.Filespaces.{at_number}
use Rattle.inventory_rows.specs.object_rows.Rows.{rows_without}
use Rattle.inventory_rows.specs.pool_rows.PoolRows.{PoolRows, is_sequential_at, volume_named}
use Rattle.inventory_rows.specs.pool_rows.Segments.{with_volumes}
use Rattle.inventory_rows.specs.pool_tables.RowChanges.{take}
use Rattle.inventory_rows.specs.pool_tables.Rows.{changed, row_at, row_set}
use Rattle.inventory_rows.specs.pool_tables.declared.pool.Pool.{Pool}
use Rattle.inventory_rows.specs.pool_tables.Scratch.{volume_name}
use Rattle.inventory_rows.specs.version_groups.declared.copies.CopyRow.{CopyRow}
use Rattle.inventory_rows.specs.version_groups.declared.versions.Version.{Version}
use Rattle.inventory_rows.specs.volume_rows.declared.volume.Volume.{Volume}
use Rattle.inventory_rows.specs.volume_rows.Held.{held_of}
use Rattle.inventory_rows.specs.volume_rows.Holdings.{is_held}
use Rattle.inventory_rows.specs.volume_rows.Volumes.{take_from}
use Rattle.inventory_rows.specs.Search.{is_primary, is_primary_kind, lies_on, pool, version}
use Rattle.inventory_rows.specs.State.{Inv}
use Rattle.inventory_rows.proofs.of_object_rows.Stands.{at-eqb}
use Rattle.inventory_rows.proofs.of_pool_tables.Names.{number_where-set}
use Rattle.inventory_rules.specs.Common.{each, full_at, or_same}
use Rattle.inventory_rules.specs.Copies.{change_copy, drop_copy, dropped, segments_in, version_at}
use Rattle.inventory_rules.specs.Held.{IsTied}
use Rattle.inventory_rules.specs.Journal.{Journal}
use Rattle.inventory_rules.specs.Ordered.{IsOrdered}
use Rattle.inventory_rules.specs.Segments.{take_all, take_away}
use Rattle.inventory_rules.specs.Transactions.{causes, effect, refused as refused_by, sizes_refused, then_valid}
use Rattle.inventory_rules.specs.Valid.{is_valid}
use Rattle.inventory_rules.specs.Versions.{all_lie_on, copies_at, discard, in_use, of_version as of_there, primary_lies_on}
use Rattle.inventory_laws.specs.Kept.{OnlyVolumes, clients_after, shape_of}
use Rattle.inventory_laws.proofs.Facts.{facts_of}
use Rattle.inventory_laws.proofs.Removals.{discard_valid}
use Rattle.inventory_laws.proofs.VolumeItems.{drops_kept, removes_kept}
use Rattle.inventory_answers.specs.Stores.{pool_line, pool_lines}
use Rattle.inventory_answers.specs.declared.lines.PoolLine.{PoolLine}
use Rattle.steps.specs.Events.{Event}
use Rattle.command_steps.specs.copy_attempts.Attempts.{is_passed}
use Rattle.command_steps.specs.deletions.Discarding.{Handles, discarded, discarding}
use Rattle.command_steps.specs.deletions.Dropping.{for_volume}
use Rattle.command_steps.specs.deletions.Volumes.{is_copy_kind, is_copy_pool}
use Rattle.machine.specs.Alone.{Alone}
use Rattle.machine.specs.Machine.{Commits, Places}
use Rattle.machine.specs.State.{Core, Machine, inventory, sight}
use Rattle.machine.proofs.Elsewhere.{append-all, append-none, none-held, unless-all}
use Rattle.line_results.proofs.Bounds.{Common, commit-all, discard-takes}
use Rattle.line_results.proofs.Discarded.{discarded-ordered, discarded-versions}
use Rattle.line_results.proofs.Emptied.{IsThis, any-discarded, any-split}
use Rattle.line_results.proofs.Growing.{commit-made}
use Rattle.line_results.proofs.Handling.{IsFree, commit-free, handled-by, passed-same}
use Rattle.line_results.proofs.Lying.{LiesOn, none-held as none-on}
use Rattle.line_results.proofs.Types.{Doomed}

-- ---- what discards leave of volumes and pools

-- the number under a name behind the change of a row that was found so
abbrev After : (name : List ℕ) (object : ℕ) (s : Segment) (v : Inv) → Option Volume → Option ℕ
After name object s v o = volume_named name (or_same v.stores (with_volumes v.stores (changed s.file (take (is_sequential_at s.file v.stores) (held_of object s) v.today) v.stores.volumes o)))

names-one : (name : List ℕ) (object : ℕ) (s : Segment) (v : Inv) → volume_named name (take_away object (s ∷ []) v).stores ≡ volume_named name v.stores
names-one name object s v = go (row_at s.file v.stores.volumes) refl where
  go : (o : Option Volume) → row_at s.file v.stores.volumes ≡ o → After name object s v (row_at s.file v.stores.volumes) ≡ volume_named name v.stores
  go None absent = ap (After name object s v) absent
  go (Some x) found =
      ap (After name object s v) found
      ∙ (elim (is_held (held_of object s) x.segments) as (λ b. volume_named name
      (or_same v.stores (with_volumes v.stores (row_set s.file v.stores.volumes (if b then Ok (take_from (is_sequential_at s.file v.stores) (held_of object s) v.today x) else Err refused.NotFound)))) ≡ volume_named name v.stores) [
        | true ↦ number_where-set (λ (row : Volume). is_same_name (volume_name row) name) s.file x (take_from (is_sequential_at s.file v.stores) (held_of object s) v.today x) v.stores.volumes found refl
        | false ↦ refl
      ])

names-away : (name : List ℕ) (object : ℕ) (segments : List Segment) (v : Inv) → volume_named name (take_away object segments v).stores ≡ volume_named name v.stores
names-away name object [] v = refl
names-away name object (s ∷ segments) v = names-away name object segments (take_away object (s ∷ []) v) ∙ names-one name object s v

names-all : (name : List ℕ) (object : ℕ) (copies : List CopyRow) (v : Inv) → volume_named name (take_all object copies v).stores ≡ volume_named name v.stores
names-all name object [] v = refl
names-all name object (c ∷ copies) v = names-all name object copies (take_away object c.segments v) ∙ names-away name object c.segments v

-- of the one database in the other the volume is there in its pool, names are the same, and so are pools
pub record Onto (file : ℕ) (v w : Inv) : Type 0 where
  pub row : (x : Volume) → row_at file v.stores.volumes ≡ Some x → (y : Volume) × (row_at file w.stores.volumes ≡ Some y) × (y.pool ≡ x.pool)
  pub named : (name : List ℕ) → volume_named name w.stores ≡ volume_named name v.stores
  pub pools : w.stores.pools ≡ v.stores.pools

shaped : (o p : Option Volume) (x : Volume) → shape_of p ≡ shape_of o → o ≡ Some x → (y : Volume) × (p ≡ Some y) × (y.pool ≡ x.pool)
shaped o (Some y) x same is = (y, refl, ap (λ (s : ℕ × ℕ). s.0) (same_Some (y.pool, y.capacity) (x.pool, x.capacity) (same ∙ ap shape_of is)))
shaped o None x same is = absurd (let odd : shape_of None ≡ shape_of (Some x) = same ∙ ap shape_of is in cc)

onto-one : (file : ℕ) (item : DiscardedVersion) (v : Inv) → Onto file v (discard item v)
onto-one file item v =
    let kept : OnlyVolumes (clients_after (rows_without item.object) v) (discard item v) = removes_kept (rows_without item.object) item.object v in
    record {
      row = λ x at. shaped (row_at file v.stores.volumes) (row_at file (discard item v).stores.volumes) x (kept.shapes file) at;
      named = λ name. names-all name item.object (copies_at item.object v) v;
      pools = ap (λ (x : Inv). x.stores.pools) kept.only;
    }

onto-drop : (file : ℕ) (item : DroppedCopy) (v : Inv) → Onto file v (drop_copy item v)
onto-drop file item v =
    let kept : OnlyVolumes (change_copy item.object (dropped item) v) (drop_copy item v) = drops_kept item v in
    record {
      row = λ x at. shaped (row_at file v.stores.volumes) (row_at file (drop_copy item v).stores.volumes) x (kept.shapes file) at;
      named = λ name. names-away name item.object (segments_in item.pool (version_at item.object v)) v;
      pools = ap (λ (x : Inv). x.stores.pools) kept.only;
    }

onto-run : {X : Type 0} (file : ℕ) (step : X → Inv → Inv) → ((i : X) (v : Inv) → Onto file v (step i v)) → (items : List X) (v : Inv) → Onto file v (each step items v)
onto-run file step one [] v = record { row = λ x at. (x, at, refl); named = λ name. refl; pools = refl }
onto-run file step one (i ∷ items) v =
    let a : Onto file v (step i v) = one i v in
    let b : Onto file (step i v) (each step items (step i v)) = onto-run file step one items (step i v) in
    record {
      row = λ x at. (let y = a.row x at in let z = b.row y.0 y.1 in (z.0, z.1, z.2 ∙ y.2));
      named = λ name. b.named name ∙ a.named name;
      pools = b.pools ∙ a.pools;
    }

onto-effect : (file : ℕ) (c : DiscardedVersions) (v : Inv) → Onto file v (effect (change.Discard c) v)
unfolding effect
onto-effect file c v = (let o : Onto file v (each discard c.items v) = onto-run file discard (onto-one file) c.items v in record { row = o.row; named = o.named; pools = o.pools })

pub onto-drops : (file : ℕ) (c : DroppedCopies) (v : Inv) → Onto file v (effect (change.DropCopies c) v)
unfolding effect
onto-drops file c v = (let o : Onto file v (each drop_copy c.items v) = onto-run file drop_copy (onto-drop file) c.items v in record { row = o.row; named = o.named; pools = o.pools })

-- ---- a legal transaction

abbrev pub IsSound : Inv → Type 0
IsSound v = (is_valid v ≡ true) × IsOrdered v × IsTied v

legal-parts : (o : Option Refusal) (valid : Bool) → then_valid o valid ≡ None → o ≡ None
legal-parts None valid h = refl
legal-parts (Some e) valid h = absurd cc

pub legal-lists : (j : Journal) (c : Change) (v : Inv) → refused_by j c v ≡ None → (causes j c v ≡ []) × (sizes_refused c v ≡ [])
unfolding refused_by
legal-lists j c v h =
    append-none (causes j c v) (sizes_refused c v) (none-held (causes j c v ++ sizes_refused c v) (legal-parts (foremost (causes j c v ++ sizes_refused c v)) (is_valid (effect c v)) h))

-- ---- what is left on the volume

-- An object of which a copy lies on the volume is among these, as it was in the first database; the volume is there, under its name; and nothing is held.
pub record Leaving (file : ℕ) (v : Inv) (rest : List Doomed) (c : Core) : Type 0 where
  pub sound : IsSound (inventory c)
  pub row : (x : Volume) × (row_at file (inventory c).stores.volumes ≡ Some x)
  pub named : (name : List ℕ) → volume_named name (inventory c).stores ≡ volume_named name v.stores
  pub pools : (inventory c).stores.pools ≡ v.stores.pools
  pub same : (k : ℕ) (w : Version) → version k (inventory c) ≡ Some w → LiesOn file w → version k v ≡ Some w
  pub left : (k : ℕ) (w : Version) → version k (inventory c) ≡ Some w → LiesOn file w → list_any (λ (d : Doomed). eqb d.object k) rest ≡ true
  pub free : IsFree c

abbrev those : (file : ℕ) → List Doomed → DiscardedVersions
those file run = record { reason = for_volume file; items = map discarded run }

abbrev pub IsUnpassed : Refusal → Type 0
IsUnpassed e = is_passed e ≡ false

pub unpassed-common : Common IsUnpassed
unpassed-common = record { full = refl; fault = λ file count. refl; memory = refl; bad = refl; long = refl }

pub unpassed-sizes : (w : Change) (v : Inv) → AllByRecursion IsUnpassed (sizes_refused w v)
unpassed-sizes w v =
    append-all IsUnpassed (unless (nat_le (count_items (effect w v)) most_items) refused.InventoryFull) (full_at v.number (2 ^ 62)) (unless-all IsUnpassed (nat_le (count_items (effect w v)) most_items) refused.InventoryFull refl)
    (unless-all IsUnpassed (nat_lt (v.number + 1) (2 ^ 62)) refused.InventoryFull refl)

-- of an object of which a copy lies on it the copy in a primary pool does, or all of its copies do: so it may be discarded for the volume
abbrev pub IsDiscardable : (file object : ℕ) → Inv → Type 0
IsDiscardable file object v = (w : Version) → version object v ≡ Some w → LiesOn file w → (primary_lies_on file w v || all_lie_on file w) ≡ true

module _ (file : ℕ) (v : Inv) where
  pub removing-leaves : (run rest : List Doomed) (m next : Machine) (number : ℕ) → Leaving file v (run ++ rest) m.core → Commits 0 (discarding (for_volume file) run) [] m next (Ok number) → Leaving file v rest next.core
  removing-leaves run rest m next number g step =
      let c : DiscardedVersions = those file run in
      let w : Change = change.Discard c in
      let u : Inv = inventory m.core in
      let made = commit-made (IsThis w) (discarding (for_volume file) run) [] m next number (λ x core is. sym (same_Some w x is)) step in
      let legal : refused_by (sight 0 m.core).journal w u ≡ None = subst (λ (x : Change). refused_by (sight 0 m.core).journal x u ≡ None) made.1 made.2 in
      let is : inventory next.core ≡ effect w u = made.3 ∙ ap (λ (x : Change). effect x u) made.1 in
      let lists = legal-lists (sight 0 m.core).journal w u legal in
      let valid = discard_valid (sight 0 m.core).journal c u g.sound.0 g.sound.2 g.sound.1 lists.0 lists.1 in
      let ordered : IsOrdered (effect w u) = discarded-ordered (sight 0 m.core).journal c u g.sound.0 g.sound.1 lists.0 in
      let onto : Onto file u (effect w u) = onto-effect file c u in
      let row = onto.row g.row.0 g.row.1 in
      record {
        sound = subst IsSound (sym is) (valid.0, ordered, valid.1);
        row = (row.0, ap (λ (x : Inv). row_at file x.stores.volumes) is ∙ row.1);
        named = λ name. ap (λ (x : Inv). volume_named name x.stores) is ∙ onto.named name ∙ g.named name;
        pools = ap (λ (x : Inv). x.stores.pools) is ∙ onto.pools ∙ g.pools;
        same = λ k x found lying. g.same k x (discarded-versions (sight 0 m.core).journal c u g.sound.0 g.sound.1 lists.0 k x (sym (ap (version k) is) ∙ found)).0 lying;
        left = λ k x found lying.
            (let was = discarded-versions (sight 0 m.core).journal c u g.sound.0 g.sound.1 lists.0 k x (sym (ap (version k) is) ∙ found) in
            any-split k run rest (g.left k x was.0 lying) (sym (any-discarded k run) ∙ was.1));
        free = commit-free (discarding (for_volume file) run) (Ok number) m next step g.free;
      }

  -- the discard of one that is left is legal
  discard-legal : (j : Journal) (it : Doomed) (w : Version) (c : Core) → IsDiscardable file it.object (inventory c) → version it.object (inventory c) ≡ Some w → LiesOn file w → causes j (change.Discard (those file (it ∷ []))) (inventory c) ≡ []
  discard-legal j it w c may found lying =
      ap (λ (x : Option Version). of_there j it.object (λ y. unless (primary_lies_on file y (inventory c) || all_lie_on file y) (in_use it.object)) x ++ []) found ∙ ap (λ (b : Bool). unless b (in_use it.object) ++ []) (may w found lying)

  pub skipping-leaves : (it : Doomed) (rest : List Doomed) (m next : Machine) (why : Refusal) → IsDiscardable file it.object (inventory m.core) → Leaving file v (it ∷ rest) m.core → is_passed why ≡ true
      → Commits 0 (discarding (for_volume file) (it ∷ [])) [] m next (Err why) → Leaving file v rest next.core
  skipping-leaves it rest m next why may g passed step =
      subst (Leaving file v rest) (sym (passed-same (discarding (for_volume file) (it ∷ [])) m next why passed step))
      (record { sound = g.sound; row = g.row; named = g.named; pools = g.pools; same = g.same; free = g.free; left = λ k w found lying. others k w found lying (eqb it.object k) refl (g.left k w found lying) })
    where
      unpassed : (w : Version) → version it.object (inventory m.core) ≡ Some w → LiesOn file w → ⊥
      unpassed w found lying =
          let x : Change = change.Discard (those file (it ∷ [])) in
          false≢true
          (sym (commit-all IsUnpassed unpassed-common m next why x ((discard-takes (those file (it ∷ []))).fills m.core.next_file (inventory m.core))
          (subst (λ (l : List Refusal). AllByRecursion IsUnpassed l) (sym (discard-legal (sight 0 m.core).journal it w m.core may found lying)) tt) (unpassed-sizes x (inventory m.core)) tt step) ∙ passed)

      others : (k : ℕ) (w : Version) → version k (inventory m.core) ≡ Some w → LiesOn file w → (b : Bool) → eqb it.object k ≡ b → (b || list_any (λ (d : Doomed). eqb d.object k) rest) ≡ true
          → list_any (λ (d : Doomed). eqb d.object k) rest ≡ true
      others k w found lying true same t = absurd (unpassed w (subst (λ (n : ℕ). version n (inventory m.core) ≡ Some w) (sym (eqb-true it.object k same)) found) lying)
      others k w found lying false other t = t

  -- what might be discarded at first may still be
  still-discardable : (rest : List Doomed) (c : Core) (object : ℕ) → Leaving file v rest c → IsDiscardable file object v → IsDiscardable file object (inventory c)
  still-discardable rest c object g may w found lying =
      ap (λ (ps : List (ℕ × Pool)). list_any (λ (x : CopyRow). option_map_or (λ (p : Pool). is_primary_kind p.kind) (row_at x.pool ps) false && lies_on file x) w.copies || all_lie_on file w) g.pools
      ∙ may w (g.same object w found lying) lying

  -- behind all of them nothing is left
  pub cleared : ((object : ℕ) → IsDiscardable file object v) → (trusted : Type 0) (places : Places) (events : List Event) (rest : List Doomed) (m new : Machine) → Handles (for_volume file) rest events → Leaving file v rest m.core
      → Alone trusted places 0 events m new → Leaving file v [] new.core
  cleared may trusted places events rest m new handles leaving f =
      handled-by trusted places (for_volume file) (Leaving file v) (λ run left x next number g step. removing-leaves run left x next number g step)
      (λ it left x next why g passed step. skipping-leaves it left x next why (still-discardable (it ∷ left) x.core it.object g (may it.object)) g passed step) events rest m new handles leaving f

-- its row has no segment then
pub none-left : (file : ℕ) (v : Inv) (c : Core) → (g : Leaving file v [] c) → g.row.0.segments ≡ []
none-left file v c g =
    none-on file (inventory c) g.row.0 (facts_of (inventory c) g.sound.0).objects_apart g.sound.2 (λ k w found lying. false≢true (g.left k w found lying)) g.row.1

-- ---- the pool of what lies on it

kind-shown : (number : ℕ) (s : PoolRows) (es : List (ℕ × Pool)) → is_copy_kind (option_map (λ (l : PoolLine). l.kind) (find (λ (l : PoolLine). l.number == number) (map (pool_line s) es))) ≡ is_copy_kind (option_map (λ (p : Pool). p.kind) (row_at number es))
kind-shown number s [] = refl
kind-shown number s (e ∷ es) =
    let rest : Option PoolLine = find (λ (l : PoolLine). l.number == number) (map (pool_line s) es) in
    elim (at_number number e.0) as (λ b. at_number number e.0 ≡ b
    → is_copy_kind (option_map (λ (l : PoolLine). l.kind) (if e.0 == number then Some (pool_line s e) else rest)) ≡ is_copy_kind (option_map (λ (p : Pool). p.kind) (cond b (Some e.1) (row_at number es)))) [
      | true ↦ λ here. ap (λ (b : Bool). is_copy_kind (option_map (λ (l : PoolLine). l.kind) (if b then Some (pool_line s e) else rest))) (sym (at-eqb number e.0) ∙ here)
      | false ↦ λ other. ap (λ (b : Bool). is_copy_kind (option_map (λ (l : PoolLine). l.kind) (if b then Some (pool_line s e) else rest))) (sym (at-eqb number e.0) ∙ other) ∙ kind-shown number s es
    ] refl

primary-kind : (kind : PoolKind) → is_primary_kind kind ≡ true → is_copy_kind (Some kind) ≡ false
primary-kind Primary h = refl
primary-kind Copy h = absurd (false≢true h)

copy-kind : (kind : PoolKind) → is_primary_kind kind ≡ false → is_copy_kind (Some kind) ≡ true
copy-kind Primary h = absurd (false≢true (sym h))
copy-kind Copy h = refl

primary-row : (o : Option Pool) → option_map_or (λ (p : Pool). is_primary_kind p.kind) o false ≡ true → is_copy_kind (option_map (λ (p : Pool). p.kind) o) ≡ false
primary-row None h = refl
primary-row (Some p) h = primary-kind p.kind h

copy-row : (o : Option Pool) → is_some o ≡ true → option_map_or (λ (p : Pool). is_primary_kind p.kind) o false ≡ false → is_copy_kind (option_map (λ (p : Pool). p.kind) o) ≡ true
copy-row None there h = absurd (false≢true there)
copy-row (Some p) there h = copy-kind p.kind h

-- a primary pool isn't shown as a copy pool
pub not-copy-pool : (number : ℕ) (v : Inv) → is_primary number v ≡ true → is_copy_pool number (pool_lines None v.stores) ≡ false
not-copy-pool number v primary = kind-shown number v.stores v.stores.pools ∙ primary-row (pool number v) primary

-- and another that is there is
pub is-copy-pool : (number : ℕ) (v : Inv) → is_some (pool number v) ≡ true → is_primary number v ≡ false → is_copy_pool number (pool_lines None v.stores) ≡ true
is-copy-pool number v there other = kind-shown number v.stores v.stores.pools ∙ copy-row (pool number v) there other
