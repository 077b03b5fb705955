-- The files on which what is freed lies: a volume's of a database of the run, and so none that a transaction brings anew.
use Rattle.std.proofs.Common.{◌≡◌, ℕ, ◌&&◌, true, not, List, [], ◌∷◌, Option, None, Some, is_none, is_some, refl, subst}
use Rattle.std.specs.List.{AllByRecursion, Contains, list_all, list_any}
use Rattle.std.proofs.lemmas.Bool.{and_parts}
use Rattle.kinds.specs.declared.segment.Segment.{Segment}
use Rattle.entries.specs.declared.change.Change.{Change}
use Rattle.entries.specs.declared.entry.Entry.{Entry}
use Rattle.inventory_rows.specs.version_groups.declared.copies.CopyRow.{CopyRow}
use Rattle.inventory_rows.specs.volume_rows.declared.volume.Volume.{Volume}
use Rattle.inventory_rows.specs.pool_tables.Rows.{row_at}
use Rattle.inventory_rows.specs.Search.{copies, pool}
use Rattle.inventory_rows.specs.State.{Inv}
use Rattle.inventory_rules.specs.Facts.{Facts}
use Rattle.inventory_rules.specs.Transactions.{effect}
use Rattle.inventory_rules.specs.Valid.{is_of_pool, is_valid}
use Rattle.inventory_laws.proofs.Facts.{facts_of}
use Rattle.inventory_laws.proofs.Lists.{all_of, each_also}
use Rattle.inventory_laws.proofs.Origins.{contained_holds}
use Rattle.machine.specs.Machine.{all_segments, durable, freed, is_same_segment, left_by}
use Rattle.machine.specs.State.{Core, inventory, unforced}
use Rattle.hall.specs.Covered.{NumbersAreDrawn, databases, inv_at, left_open}
use Rattle.hall.specs.Good.{IsLawful}
use Rattle.hall.proofs.Brought.{not_again}
use Rattle.hall.proofs.Databases.{left_lawful}
use Rattle.hall.proofs.JoinedKept.{left_indexed}
use Rattle.hall.proofs.Joining.{Joins, behind}
use Rattle.hall.proofs.Lists.{each_kept}
use Rattle.hall.proofs.Pairs.{each_appended, each_flat, each_map, each_two}
use Rattle.hall.proofs.Runs.{freed_by}

-- the segment's file is a volume's of this database
abbrev IsCited : Inv → Segment → Type 0
IsCited v s = is_some (row_at s.file v.stores.volumes) ≡ true

each_cited : (v : Inv) → is_valid v ≡ true → AllByRecursion (IsCited v) (all_segments v)
each_cited v valid =
    let f : Facts v = facts_of v valid in
    each_flat (IsCited v) (λ (e : ℕ × CopyRow). e.1.segments) (copies v)
    (each_also (λ (e : ℕ × CopyRow). (is_some (pool e.1.pool v) && list_all (λ s. is_of_pool e.1.pool (row_at s.file v.stores.volumes)) e.1.segments) ≡ true) (λ (e : ℕ × CopyRow). AllByRecursion (IsCited v) e.1.segments) (copies v)
    (λ e h. each_also (λ s. is_of_pool e.1.pool (row_at s.file v.stores.volumes) ≡ true) (IsCited v) e.1.segments
    (λ s is. of_there e.1.pool (row_at s.file v.stores.volumes) is)
    (all_of (λ s. is_of_pool e.1.pool (row_at s.file v.stores.volumes)) e.1.segments (and_parts (is_some (pool e.1.pool v)) _ h).1))
    (all_of (λ (e : ℕ × CopyRow). is_some (pool e.1.pool v) && list_all (λ s. is_of_pool e.1.pool (row_at s.file v.stores.volumes)) e.1.segments) (copies v) f.copies_cite))
  where
    of_there : (number : ℕ) (o : Option Volume) → is_of_pool number o ≡ true → is_some o ≡ true
    of_there number None h = h
    of_there number (Some volume) h = refl

-- ---- each that is freed

module _ (c : Core) where
  -- a valid database of the run
  abbrev IsOfRun : Inv → Type 0
  IsOfRun v = (is_valid v ≡ true) × ((k : ℕ) × (v ≡ inv_at k c))

  abbrev WasCited : ℕ × Segment → Type 0
  WasCited a = (v : Inv) × IsOfRun v × IsCited v a.1

  freed_cited : (v : Inv) (es : List Entry) → AllByRecursion IsOfRun (databases v es) → AllByRecursion WasCited (freed v es)
  freed_cited v [] run = tt
  freed_cited v (e ∷ es) run =
      each_appended WasCited (freed_by v e) (freed (effect e.change v) es)
      (each_map WasCited (λ s. ((effect e.change v).number, s)) (left_by v (effect e.change v))
      (each_also (IsCited v) (λ s. WasCited ((effect e.change v).number, s)) (left_by v (effect e.change v)) (λ s is. (v, run.0, is))
      (each_kept (IsCited v) (λ s. not (list_any (is_same_segment s) (all_segments (effect e.change v)))) (all_segments v) (each_cited v run.0.0))))
      (freed_cited (effect e.change v) es run.1)

  pub all_cited : IsLawful c → AllByRecursion WasCited (freed (durable c) (unforced c))
  all_cited l = freed_cited (durable c) (unforced c) (each_two (λ v. is_valid v ≡ true) (λ v. (k : ℕ) × (v ≡ inv_at k c)) (left_open c) (left_lawful c l) (left_indexed c))

  -- on its file none comes
  pub none_new : (actor : ℕ) (x : Change) (numbers : List ℕ) → IsLawful c → Joins actor x numbers c → NumbersAreDrawn c → (number : ℕ) (s : Segment) → Contains (freed (durable c) (unforced c)) (number, s)
      → is_none (row_at s.file (inventory c).stores.volumes) ≡ true → is_none (row_at s.file (behind actor x numbers c).stores.volumes) ≡ true
  none_new actor x numbers l j n number s there none =
      let was : WasCited (number, s) = contained_holds WasCited (freed (durable c) (unforced c)) (number, s) there (all_cited l) in
      not_again c l actor x numbers j n was.1.1.0 s.file (subst (λ v. is_some (row_at s.file v.stores.volumes) ≡ true) was.1.1.1 was.2) none
