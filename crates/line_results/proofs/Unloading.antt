-- A copy pool's volume whose copies are dropped in turn, and whose objects are discarded where they have no others, has nothing on it afterwards, where one actor has the machine alone.
use Rattle.std.proofs.Common.{◌≡◌, ℕ, Bool, true, false, eqb, not, ◌||◌, if◌then◌else◌, List, [], ◌∷◌, ◌++◌, map, Option, Some, None, Ok, Err, refl, sym, ap, subst, ◌∙◌}
use Rattle.std.proofs.lemmas.Bool.{eq-eqb, false≢true, or_right}
use Rattle.std.proofs.lemmas.List.{map-append}
use Rattle.std.proofs.lemmas.Option.{same_Some}
use Rattle.std.specs.List.{AllByRecursion, list_any}
use Rattle.std.specs.Option.{option_map_or}
use Rattle.kinds.specs.Refusals.{bad_value, unless}
use Rattle.kinds.specs.declared.refusal.By.TheVariants as by
use Rattle.kinds.specs.declared.refusal.Refusal.{Refusal}
use Rattle.kinds.specs.declared.refusal.Refusal.TheVariants as refused
use Rattle.entries.specs.change_items.declared.items.DroppedCopy.{DroppedCopy}
use Rattle.entries.specs.change_items.declared.lists.DroppedCopies.{DroppedCopies}
use Rattle.entries.specs.change_items.declared.reasons.DropReason.TheVariants as since
use Rattle.entries.specs.declared.change.Change.{Change}
use Rattle.entries.specs.declared.change.Change.TheVariants as change
use Rattle.inventory_rows.specs.pool_rows.PoolRows.{volume_named}
use Rattle.inventory_rows.specs.pool_tables.Rows.{row_at}
use Rattle.inventory_rows.specs.pool_tables.declared.pool.Pool.{Pool}
use Rattle.inventory_rows.specs.version_groups.Copies.{has_copy}
use Rattle.inventory_rows.specs.version_groups.declared.copies.CopyRow.{CopyRow}
use Rattle.inventory_rows.specs.version_groups.declared.versions.Version.{Version}
use Rattle.inventory_rows.specs.volume_rows.declared.volume.Volume.{Volume}
use Rattle.inventory_rows.specs.Search.{copy_in, is_primary, is_primary_kind, lies_on, version}
use Rattle.inventory_rows.specs.State.{Inv}
use Rattle.inventory_rules.specs.Copies.{lies_elsewhere, lies_there, placed_by, stale_copy, version_drop_refused}
use Rattle.inventory_rules.specs.Journal.{Journal}
use Rattle.inventory_rules.specs.Transactions.{causes, effect, refused as refused_by}
use Rattle.inventory_rules.specs.Versions.{all_lie_on, of_version as of_there, primary_lies_on}
use Rattle.inventory_laws.proofs.Removals.{drop_valid}
use Rattle.inventory_work.specs.declared.lines.CopyLine.{CopyLine}
use Rattle.steps.specs.Events.{Event}
use Rattle.command_steps.specs.copy_attempts.Attempts.{is_passed}
use Rattle.command_steps.specs.deletions.Dropping.{Empties, doomed, dropped, dropping}
use Rattle.machine.specs.Alone.{Alone}
use Rattle.machine.specs.Machine.{Commits, Places}
use Rattle.machine.specs.State.{Core, Machine, inventory, sight}
use Rattle.line_results.proofs.Bounds.{commit-all, drop-takes}
use Rattle.line_results.proofs.Cited.{IsOf, all-back, all-there, by-pool, has-there, in-its-pool}
use Rattle.line_results.proofs.Clearing.{IsDiscardable, IsSound, IsUnpassed, Leaving, Onto, legal-lists, onto-drops, removing-leaves, skipping-leaves, unpassed-common, unpassed-sizes}
use Rattle.line_results.proofs.Dropped.{dropped-ordered, dropped-versions}
use Rattle.line_results.proofs.Emptied.{IsThis, any-split}
use Rattle.line_results.proofs.Growing.{commit-made}
use Rattle.line_results.proofs.Handling.{commit-free, emptied-by, passed-same}
use Rattle.line_results.proofs.Lying.{LiesOn}
use Rattle.line_results.proofs.Types.{Doomed}

abbrev those : (file : ℕ) → List CopyLine → DroppedCopies
those file run = record { reason = since.Volume file; items = map dropped run }

any-dropped : (k : ℕ) (xs : List CopyLine) → list_any (λ (i : DroppedCopy). eqb i.object k) (map dropped xs) ≡ list_any (λ (d : Doomed). eqb d.object k) (map doomed xs)
any-dropped k [] = refl
any-dropped k (x ∷ xs) = ap (λ (b : Bool). eqb x.object k || b) (any-dropped k xs)

-- its deletion's own reason keeps nothing from the drop of one copy that is as it was named, lies there, isn't the last one, and is in no primary pool
drop-legal : (file : ℕ) (j : Journal) (line : CopyLine) (u : Inv) (w : Version) (c : CopyRow) → version line.object u ≡ Some w → copy_in line.pool w ≡ Some c → c.placed ≡ line.placed → lies_on file c ≡ true → lies_elsewhere line.pool w.copies ≡ true
    → is_primary line.pool u ≡ false → causes j (change.DropCopies (those file (line ∷ []))) u ≡ []
drop-legal file j line u w c found there placed lies elsewhere other =
    let last : List Refusal = unless (lies_elsewhere line.pool w.copies) (refused.InUse (by.Object line.object)) in
    let kind : List Refusal = unless (not (is_primary line.pool u)) bad_value in
    let stale : Refusal = stale_copy (j.copy_changed line.object line.pool) (Some c) in
    ap (λ (x : Option Version). of_there j line.object (version_drop_refused j (since.Volume file) u (dropped line)) x ++ []) found
    ∙ ap (λ (x : Option CopyRow). ((if placed_by line.placed x then unless (lies_there file x) refused.NotFound else stale_copy (j.copy_changed line.object line.pool) x ∷ []) ++ (last ++ kind)) ++ []) there
    ∙ ap (λ (b : Bool). ((if b then unless (lies_on file c) refused.NotFound else stale ∷ []) ++ (last ++ kind)) ++ []) (eq-eqb c.placed line.placed placed) ∙ ap (λ (b : Bool). (unless b refused.NotFound ++ (last ++ kind)) ++ []) lies
    ∙ ap (λ (b : Bool). (unless b (refused.InUse (by.Object line.object)) ++ kind) ++ []) elsewhere ∙ ap (λ (b : Bool). unless (not b) bad_value ++ []) other

module _ (file : ℕ) (v : Inv) where
  -- What lies on the volume is of these lines; each is of a copy that lay on it at first, in a pool that isn't a primary one.
  record Lines (lines : List CopyLine) (c : Core) : Type 0 where
    leaving : Leaving file v (map doomed lines) c
    are : AllByRecursion (IsOf file v) lines
    others : AllByRecursion (λ (l : CopyLine). is_primary l.pool v ≡ false) lines

  -- the object of the first one may be discarded, where that is due
  abbrev IsDue : (due : Bool) → List CopyLine → Core → Type 0
  IsDue false lines c = Unit {0}
  IsDue true [] c = Unit {0}
  IsDue true (line ∷ lines) c = IsDiscardable file line.object (inventory c)

  record Unloading (due : Bool) (lines : List CopyLine) (c : Core) : Type 0 where
    has : Lines lines c
    may : IsDue due lines c

  -- an object of which a copy lies on the volume behind a drop of copies was so before, and isn't on their lines
  still-lying : (run : List CopyLine) (j : Journal) (u : Inv) (x : Volume) → IsSound u → IsSound (effect (change.DropCopies (those file run)) u) → causes j (change.DropCopies (those file run)) u ≡ [] → row_at file u.stores.volumes ≡ Some x → (k : ℕ) (w : Version)
      → version k (effect (change.DropCopies (those file run)) u) ≡ Some w → LiesOn file w → (version k u ≡ Some w) × (list_any (λ (d : Doomed). eqb d.object k) (map doomed run) ≡ false)
  still-lying run j u x sound after legal at k w found lying =
      let o : Onto file u (effect (change.DropCopies (those file run)) u) = onto-drops file (those file run) u in
      let y = o.row x at in
      let here : has_copy y.0.pool w.copies ≡ true = has-there file y.0.pool w.copies (in-its-pool file k (effect (change.DropCopies (those file run)) u) y.0 w after.0 y.1 found) lying in
      let was = dropped-versions j file (map dropped run) x u sound.0 at legal k w (subst (λ (n : ℕ). has_copy n w.copies ≡ true) y.2 here) found in
      (was.0, sym (any-dropped k run) ∙ was.1)

  dropping-leaves : (run rest : List CopyLine) (m next : Machine) (number : ℕ) → Lines (run ++ rest) m.core → Commits 0 (dropping file run) [] m next (Ok number) → Lines rest next.core
  dropping-leaves run rest m next number l step =
      let c : DroppedCopies = those file run in
      let w : Change = change.DropCopies c in
      let u : Inv = inventory m.core in
      let g : Leaving file v (map doomed (run ++ rest)) m.core = l.leaving in
      let made = commit-made (IsThis w) (dropping file run) [] m next number (λ x core is. sym (same_Some w x is)) step in
      let legal : refused_by (sight 0 m.core).journal w u ≡ None = subst (λ (x : Change). refused_by (sight 0 m.core).journal x u ≡ None) made.1 made.2 in
      let is : inventory next.core ≡ effect w u = made.3 ∙ ap (λ (x : Change). effect x u) made.1 in
      let lists = legal-lists (sight 0 m.core).journal w u legal in
      let valid = drop_valid (sight 0 m.core).journal c u g.sound.0 g.sound.2 lists.0 lists.1 in
      let after : IsSound (effect w u) = (valid.0, dropped-ordered c u g.sound.1, valid.1) in
      let onto : Onto file u (effect w u) = onto-drops file c u in
      let row = onto.row g.row.0 g.row.1 in
      record {
        leaving = record {
          sound = subst IsSound (sym is) after;
          row = (row.0, ap (λ (x : Inv). row_at file x.stores.volumes) is ∙ row.1);
          named = λ name. ap (λ (x : Inv). volume_named name x.stores) is ∙ onto.named name ∙ g.named name;
          pools = ap (λ (x : Inv). x.stores.pools) is ∙ onto.pools ∙ g.pools;
          same = λ k x found lying. g.same k x (still-lying run (sight 0 m.core).journal u g.row.0 g.sound after lists.0 g.row.1 k x (sym (ap (version k) is) ∙ found) lying).0 lying;
          left = λ k x found lying.
              (let was = still-lying run (sight 0 m.core).journal u g.row.0 g.sound after lists.0 g.row.1 k x (sym (ap (version k) is) ∙ found) lying in
              any-split k (map doomed run) (map doomed rest) (ap (list_any (λ (d : Doomed). eqb d.object k)) (sym (map-append doomed run rest)) ∙ g.left k x was.0 lying) was.1);
          free = commit-free (dropping file run) (Ok number) m next step g.free;
        };
        are = all-back (IsOf file v) run rest l.are;
        others = all-back (λ (x : CopyLine). is_primary x.pool v ≡ false) run rest l.others;
      }

  -- one that can't be dropped is its object's last one, whose object may be discarded
  keeping-leaves : (line : CopyLine) (rest : List CopyLine) (m next : Machine) (why : Refusal) → Lines (line ∷ rest) m.core → is_passed why ≡ true → Commits 0 (dropping file (line ∷ [])) [] m next (Err why) → Unloading true (line ∷ rest) next.core
  keeping-leaves line rest m next why l passed step =
      subst (Unloading true (line ∷ rest)) (sym (passed-same (dropping file (line ∷ [])) m next why passed step)) (record { has = l; may = λ w found lying. go w found lying (lies_elsewhere line.pool w.copies) refl })
    where
      g : Leaving file v (map doomed (line ∷ rest)) m.core
      g = l.leaving

      its : IsOf file v line
      its = l.are.0

      other : is_primary line.pool (inventory m.core) ≡ false
      other = ap (λ (ps : List (ℕ × Pool)). option_map_or (λ (p : Pool). is_primary_kind p.kind) (row_at line.pool ps) false) g.pools ∙ l.others.0

      unrefused : (w : Version) → version line.object (inventory m.core) ≡ Some w → LiesOn file w → lies_elsewhere line.pool w.copies ≡ true → ⊥
      unrefused w found lying some =
          let same : its.object ≡ w = same_Some its.object w (sym its.found ∙ g.same line.object w found lying) in
          let there : copy_in line.pool w ≡ Some its.copy = subst (λ (y : Version). copy_in line.pool y ≡ Some its.copy) same its.there in
          false≢true
          (sym (commit-all IsUnpassed unpassed-common m next why (change.DropCopies (those file (line ∷ []))) ((drop-takes (those file (line ∷ []))).fills m.core.next_file (inventory m.core))
          (subst (λ (r : List Refusal). AllByRecursion IsUnpassed r) (sym (drop-legal file (sight 0 m.core).journal line (inventory m.core) w its.copy found there its.placed its.lies some other)) tt)
          (unpassed-sizes (change.DropCopies (those file (line ∷ []))) (inventory m.core)) tt step) ∙ passed)

      go : (w : Version) → version line.object (inventory m.core) ≡ Some w → LiesOn file w → (b : Bool) → lies_elsewhere line.pool w.copies ≡ b → (primary_lies_on file w (inventory m.core) || all_lie_on file w) ≡ true
      go w found lying false none = or_right (primary_lies_on file w (inventory m.core)) (all_lie_on file w) (all-there file line.pool w.copies (by-pool line.object (inventory m.core) w g.sound.0 found) none lying)
      go w found lying true some = absurd (unrefused w found lying some)

  -- behind all of them nothing is left
  pub unloaded : (trusted : Type 0) (places : Places) (events : List Event) (lines : List CopyLine) (m new : Machine) → Empties false file lines events → AllByRecursion (IsOf file v) lines → AllByRecursion (λ (l : CopyLine). is_primary l.pool v ≡ false) lines
      → Leaving file v (map doomed lines) m.core → Alone trusted places 0 events m new → Leaving file v [] new.core
  unloaded trusted places events lines m new empties are others leaving f =
      (emptied-by trusted places file Unloading (λ run rest x next number g step. record { has = dropping-leaves run rest x next number g.has step; may = tt })
      (λ line rest x next why g passed step. keeping-leaves line rest x next why g.has passed step)
      (λ line rest x next number g step.
      record {
        has = record { leaving = removing-leaves file v (doomed line ∷ []) (map doomed rest) x next number g.has.leaving step; are = g.has.are.1; others = g.has.others.1 };
        may = tt;
      })
      (λ line rest x next why g passed step.
      record {
        has = record { leaving = skipping-leaves file v (doomed line) (map doomed rest) x next why g.may g.has.leaving passed step; are = g.has.are.1; others = g.has.others.1 };
        may = tt;
      })
      false events lines m new empties (record { has = record { leaving = leaving; are = are; others = others }; may = tt }) f).has.leaving
