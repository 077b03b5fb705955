-- The backups that the database behind a transaction lists, where what those of the database before it need is there and covered.
use Rattle.std.proofs.Common.{◌≡◌, ◌⊎◌, inl, inr, ℕ, ◌+◌, ◌-◌, ◌<◌, ◌≤◌, ◌^◌, Bool, true, false, is_none, is_some, List, [], ◌∷◌, ◌++◌, length, map, Option, None, Some, refl, sym, ap, subst, ◌∙◌, arith}
use Rattle.std.specs.Prelude.{IfSome, ◌==◌}
use Rattle.std.specs.List.{AllByRecursion, Contains}
use Rattle.std.specs.Option.{option_map}
use Rattle.std.proofs.lemmas.Bool.{cases_lt, eqb-true, false≢true, leb-true, ltb-true}
use Rattle.store_api.specs.Disk.{History, standing}
use Rattle.store_api.specs.Runs.{Firm}
use Rattle.kinds.specs.declared.segment.Segment.{Segment}
use Rattle.db_chains.specs.Chains.{Gives}
use Rattle.db_image.specs.Images.{image_bytes}
use Rattle.db_image.specs.Steps.{Job}
use Rattle.db_image.specs.declared.mark.Mark.TheVariants.{Backup as OfBackup}
use Rattle.entries.specs.declared.change.Change.{Change}
use Rattle.entries.specs.declared.change.Change.TheVariants as change
use Rattle.entries.specs.declared.entry.Entry.{Entry}
use Rattle.inventory.specs.Meant.{meaning}
use Rattle.inventory_rows.specs.declared.backup.Backup.{Backup}
use Rattle.inventory_rows.specs.version_groups.declared.copies.CopyRow.{CopyRow}
use Rattle.inventory_rows.specs.volume_rows.declared.volume.Volume.{Volume}
use Rattle.inventory_rows.specs.pool_rows.PoolRows.{is_sequential}
use Rattle.inventory_rows.specs.pool_tables.Rows.{row_at}
use Rattle.inventory_rows.specs.Search.{versions}
use Rattle.inventory_rows.specs.State.{Inv}
use Rattle.inventory_rules.specs.Backups.{backup_at, is_done}
use Rattle.inventory_rules.specs.Run.{journal_of}
use Rattle.inventory_rules.specs.Transactions.{causes, effect}
use Rattle.inventory_rules.specs.Valid.{is_valid}
use Rattle.inventory_laws.specs.Rising.{is_reuse}
use Rattle.inventory_laws.proofs.Lists.{each_also, each_any, each_both, each_joined}
use Rattle.inventory_laws.proofs.Origins.{contained_holds, each_appended}
use Rattle.inventory_laws.proofs.Rising.{draws_on, ends_later, sequential_stays}
use Rattle.inventory_laws.proofs.Facts.{facts_of}
use Rattle.machine.proofs.Histories.{after-number}
use Rattle.machine.specs.State.{Core, Ticket, inventory, unforced}
use Rattle.hall.specs.Covered.{is_any_reuse, IsNewFile, IsVolume, NeverBackup, NumbersAreDrawn, Written, came, inv_at, left_open, written, written_before}
use Rattle.hall.specs.Good.{IsLawful}
use Rattle.hall.specs.Protected.{AreBefore, EachSequential, HasBackups, IsAside, IsCovered, IsFiled, IsLaid, IsLeft, IsListedAs, IsNoVolume, IsProvided, IsRow, IsWatched, IsWriting, IsWritten, IsWrittenOn, KeepsAllBackups, StillLies, Taken, IsNever, WasDone, WasVolume, WritesBackup, files_of, is_protected}
use Rattle.hall.proofs.Along.{other_reuse}
use Rattle.hall.proofs.Databases.{last_left}
use Rattle.hall.proofs.Promising.{readable_done}
use Rattle.hall.proofs.BackedUp.{also_sequential, both_sequential, found_number}
use Rattle.hall.proofs.Delaying.{Came, Lowers, came as row_came, kept_lowers, protected_before}
use Rattle.hall.proofs.DrawnNext.{KeepsBackup}
use Rattle.hall.proofs.Joining.{Joins, Spent, behind, entry_of, free_of, inv_before, inv_behind, inventory_last, last, long, unforced_last, valid_now, whole_at, all_of_it}
use Rattle.hall.proofs.JoinedFreed.{contains_front}
use Rattle.hall.proofs.JoinedSpace.{written_end}
use Rattle.hall.proofs.Reusable.{reused_there}
use Rattle.hall.proofs.Providing.{days_rise, never_reused, provided_later}
use Rattle.hall.proofs.VolumesStay.{BringsVolume, volume_new}

more_number : (x : Change) (v : Inv) → (effect x v).number ≡ v.number + 1
unfolding effect
more_number x v = refl

below_later : (s a b : ℕ) → s < a → a ≤ b → s < b
below_later s a b low up = omega (arith, low, up)

module _ (actor : ℕ) (x : Change) (numbers : List ℕ) (c : Core) (l : IsLawful c) (n : NumbersAreDrawn c) (few : length c.stamps ≤ length c.journal) (j : Joins actor x numbers c) where
  abbrev next : Core
  next = last actor x numbers c

  abbrev now : Inv
  now = inventory c

  abbrev then : Inv
  then = behind actor x numbers c

  same_then : inventory next ≡ then
  same_then = inventory_last actor x numbers c

  valid : is_valid now ≡ true
  valid = valid_now c l

  legal : causes (journal_of c.base c.journal) x now ≡ []
  legal = (free_of actor x numbers c l j).causes

  none_is : {A : Type 0} (o : Option A) → o ≡ None → is_none o ≡ true
  none_is o at = ap is_none at

  some_none : {A : Type 0} (o : Option A) → is_some o ≡ true → o ≡ None → ⊥
  some_none o some at = false≢true (sym (ap is_some at) ∙ some)

  -- ---- files that no volume gets

  -- a volume that comes has a number that is drawn next, or is a scratch volume of a ticket
  brought : (k pool : ℕ) → row_at k now.stores.volumes ≡ None → BringsVolume k pool x → (c.next_file ≤ k) ⊎ ((c.base.next_file ≤ k) × IsNewFile c k × NeverBackup c k)
  brought k pool absent brings = by (j.files k pool brings) where
    of_ticket : (t : Ticket) → Contains c.tickets t → (s : Segment) → Contains t.place.segments s → s.file ≡ k → (c.base.next_file ≤ k) × IsNewFile c k × NeverBackup c k
    of_ticket t there s in_t same =
        let volume : IsVolume c s.file = contained_holds (λ (s : Segment). IsVolume c s.file) t.place.segments s in_t (contained_holds (λ (t : Ticket). AllByRecursion (λ (s : Segment). IsVolume c s.file) t.place.segments) c.tickets t there n.files) in
        let none : row_at s.file now.stores.volumes ≡ None = ap (λ (f : ℕ). row_at f now.stores.volumes) same ∙ absent in
        let new = volume.3 (none_is (row_at s.file now.stores.volumes) none) in (subst (λ f. c.base.next_file ≤ f) same new.0, subst (IsNewFile c) same new.1, subst (NeverBackup c) same new.2)

    by : (c.next_file ≤ k) ⊎ ((t : Ticket) × Spent actor numbers c t × (s : Segment) × Contains t.place.segments s × (s.file ≡ k) × (t.place.pool ≡ pool))
        → (c.next_file ≤ k) ⊎ ((c.base.next_file ≤ k) × IsNewFile c k × NeverBackup c k)
    by (inl new) = inl new
    by (inr t) = inr (of_ticket t.0 t.1.there t.2 t.3 t.4)

  not_drawn : (k : ℕ) → k < now.next_file → c.next_file ≤ k → ⊥
  not_drawn k low high = let up = n.next_file.1 in omega (arith, low, high, up)

  below_base : (k : ℕ) → k < c.base.next_file → c.base.next_file ≤ k → ⊥
  below_base k low high = omega (arith, low, high)

  -- what holds of each database of the run and of the one behind the transaction holds of each of the longer run
  each_next : (P : Inv → Type 0) → ((count : ℕ) → P (inv_at count c)) → P then → (count : ℕ) → P (inv_at count next)
  each_next P was is count = elim (cases_lt (length c.journal) count) as (λ _. P (inv_at count next)) [
    | inl past ↦ subst P (sym (inv_behind actor x numbers c count past)) is
    | inr within ↦ subst P (sym (inv_before actor x numbers c count within)) (was count)
  ]

  -- a file that is new so far is no volume's now
  absent_now : (k : ℕ) → IsNewFile c k → row_at k now.stores.volumes ≡ None
  absent_now k new = ap (λ (v : Inv). row_at k v.stores.volumes) (sym (whole_at actor x numbers c)) ∙ new (length c.journal)

  -- no volume comes in a backup's file, nor in one of a segment that a backup needs
  none_filed : (k : ℕ) → IsFiled c k → (pool : ℕ) → BringsVolume k pool x → ⊥
  none_filed k ((from, low, unmade), since) pool brings = by (brought k pool (absent_now k unmade) brings) since where
    by : (c.next_file ≤ k) ⊎ ((c.base.next_file ≤ k) × IsNewFile c k × NeverBackup c k) → (k < c.base.next_file) ⊎ WasDone c k → ⊥
    by (inl new) since = not_drawn k low new
    by (inr (high, new, none)) (inl old) = below_base k old high
    by (inr (high, new, none)) (inr (count, there)) = false≢true (sym (ap is_done (none count)) ∙ there)

  -- nor in that of one that is listed
  none_listed : (k : ℕ) → IsNever c k → is_some (backup_at k now) ≡ true → (pool : ℕ) → BringsVolume k pool x → ⊥
  none_listed k (from, low, unmade) there pool brings = by (brought k pool (absent_now k unmade) brings) where
    by : (c.next_file ≤ k) ⊎ ((c.base.next_file ≤ k) × IsNewFile c k × NeverBackup c k) → ⊥
    by (inl new) = not_drawn k low new
    by (inr (high, new, none)) = some_none (backup_at k (inv_at (length c.journal) c)) (subst (λ (v : Inv). is_some (backup_at k v) ≡ true) (sym (whole_at actor x numbers c)) there) (none (length c.journal))

  none_laid : (s : Segment) → s.file < now.next_file → IsLaid c s → row_at s.file now.stores.volumes ≡ None → (pool : ℕ) → BringsVolume s.file pool x → ⊥
  none_laid s low (from, since) absent pool brings = by (brought s.file pool absent brings) since where
    by : (c.next_file ≤ s.file) ⊎ ((c.base.next_file ≤ s.file) × IsNewFile c s.file × NeverBackup c s.file) → (s.file < c.base.next_file) ⊎ WasVolume c s.file → ⊥
    by (inl new) since = not_drawn s.file low new
    by (inr (high, new, none)) (inl old) = below_base s.file old high
    by (inr (high, new, none)) (inr (count, there)) = some_none (row_at s.file (inv_at count c).stores.volumes) there (new count)

  -- ---- what is known of files still

  -- a database of the run is one of the longer run
  still_at : (P : Inv → Type 0) (count : ℕ) → P (inv_at count c) → (more : ℕ) × P (inv_at more next)
  still_at P count has = elim (cases_lt (length c.journal) count) as (λ _. (more : ℕ) × P (inv_at more next)) [
    | inl past ↦ (length c.journal, subst P (all_of_it c count (omega (arith, past)) ∙ sym (whole_at actor x numbers c) ∙ sym (inv_before actor x numbers c (length c.journal) (omega arith))) has)
    | inr within ↦ (count, subst P (sym (inv_before actor x numbers c count within)) has)
  ]

  -- where no volume comes there is none
  comes_none : (k : ℕ) → row_at k now.stores.volumes ≡ None → ((pool : ℕ) → BringsVolume k pool x → ⊥) → row_at k then.stores.volumes ≡ None
  comes_none k absent apart = go (row_at k then.stores.volumes) refl where
    go : (o : Option Volume) → row_at k then.stores.volumes ≡ o → row_at k then.stores.volumes ≡ None
    go None at = at
    go (Some y) at = absurd (apart y.pool (volume_new k x now y.pool (ap (λ (o : Option Volume). is_some (option_map (λ (w : Volume). w.pool) o)) absent) (ap (option_map (λ (w : Volume). w.pool)) at)))

  new_next : (k : ℕ) → IsNewFile c k → ((pool : ℕ) → BringsVolume k pool x → ⊥) → IsNewFile next k
  new_next k unmade apart = each_next (λ v. row_at k v.stores.volumes ≡ None) unmade (comes_none k (absent_now k unmade) apart)

  never_next : (k : ℕ) → IsNever c k → ((pool : ℕ) → BringsVolume k pool x → ⊥) → IsNever next k
  never_next k (from, low, unmade) apart = (from, below, new_next k unmade apart) where
    below : k < (inventory next).next_file
    below =
        let more : now.next_file ≤ then.next_file = (draws_on x now).file in
        let same : (inventory next).next_file ≡ then.next_file = ap (λ (v : Inv). v.next_file) same_then in
        omega (arith, low, more, same)

  pub filed_next : (k : ℕ) → IsFiled c k → IsFiled next k
  filed_next k filed = (never_next k filed.0 (none_filed k filed), since filed.1) where
    since : (k < c.base.next_file) ⊎ WasDone c k → (k < next.base.next_file) ⊎ WasDone next k
    since (inl old) = inl old
    since (inr (count, there)) = inr (still_at (λ v. is_done (backup_at k v) ≡ true) count there)

  -- a file that is none of a volume is none in the database behind the transaction
  none_then : (k : ℕ) → IsFiled c k → IsNoVolume then k
  none_then k filed =
      let n = filed_next k filed in
      let absent : row_at k (inventory next).stores.volumes ≡ None = ap (λ (v : Inv). row_at k v.stores.volumes) (sym (all_of_it next (length next.journal) (omega arith))) ∙ n.0.2 (length next.journal) in
      subst (λ (v : Inv). IsNoVolume v k) same_then (n.0.0, n.0.1, absent)

  pub laid_next : (s : Segment) → IsLaid c s → IsLaid next s
  laid_next s (from, inl old) = (from, inl old)
  laid_next s (from, inr (count, there)) = (from, inr (still_at (λ v. is_some (row_at s.file v.stores.volumes) ≡ true) count there))

  -- ---- what is covered still

  -- the transaction doesn't reuse the segment's volume, where it is there
  abbrev pub NotReused : Segment → Type 0
  NotReused s = is_some (row_at s.file now.stores.volumes) ≡ true → is_reuse s.file x ≡ false

  -- the segment's file was drawn
  abbrev pub IsBelow : Segment → Type 0
  IsBelow s = s.file < now.next_file

  -- a volume that isn't there isn't reused
  none_reuses : (file : ℕ) (y : Change) → causes (journal_of c.base c.journal) y now ≡ [] → row_at file now.stores.volumes ≡ None → is_reuse file y ≡ false
  none_reuses file (change.Reuse k) free absent = go (file == k) refl where
    go : (b : Bool) → (file == k) ≡ b → (file == k) ≡ false
    go true is = absurd (some_none (row_at file now.stores.volumes) (subst (λ (f : ℕ). is_some (row_at f now.stores.volumes) ≡ true) (sym (eqb-true file k is)) (reused_there (journal_of c.base c.journal) k now free)) absent)
    go false isnt = isnt
  none_reuses file y free absent = refl

  not_reused : (s : Segment) → NotReused s → (o : Option Volume) → row_at s.file now.stores.volumes ≡ o → is_reuse s.file x ≡ false
  not_reused s kept None at = none_reuses s.file x legal at
  not_reused s kept (Some y) at = kept (ap is_some at)

  grown : (w : Written) (more : List Segment) (s : Segment) → IsWritten w s → IsWritten (record { floor = w.floor; segments = w.segments ++ more }) s
  grown w more s (inl below) = inl below
  grown w more s (inr there) = inr (contains_front w.segments more s there)

  written_next : (s : Segment) → IsBelow s → IsLaid c s → NotReused s → IsWrittenOn c s → IsWrittenOn next s
  written_next s low laid kept (inr unmade) = inr (new_next s.file unmade (none_laid s low laid (absent_now s.file unmade)))
  written_next s low laid kept (inl (was, sequential)) = inl (
    subst (λ w. IsWritten w s) (sym (written_end s.file (written_before s.file c.base) c.base c.journal (entry_of actor x numbers c) (not_reused s kept (row_at s.file now.stores.volumes) refl)))
        (grown (written s.file c) (came s.file (inventory c) (effect x (inventory c))) s was),
    subst (λ (v : Inv). IfSome (row_at s.file v.stores.volumes) (λ z. is_sequential z.pool v.stores ≡ true)) (sym same_then) (go (row_at s.file now.stores.volumes) refl sequential (row_at s.file then.stores.volumes) refl),
  )
    where
      go : (o : Option Volume) → row_at s.file now.stores.volumes ≡ o → IfSome o (λ y. is_sequential y.pool now.stores ≡ true) → (r : Option Volume) → row_at s.file then.stores.volumes ≡ r → IfSome r (λ z. is_sequential z.pool then.stores ≡ true)
      go o at was None behind = tt
      go None at was (Some z) behind = absurd (some_none (row_at s.file then.stores.volumes) (ap is_some behind) (comes_none s.file at (none_laid s low laid at)))
      go (Some y) at was (Some z) behind =
          let later = ends_later (journal_of c.base c.journal) x now s.file y z valid legal (kept (ap is_some at)) at behind in
          let stays : is_sequential y.pool then.stores ≡ is_sequential y.pool now.stores = sequential_stays now (facts_of now valid) s.file y at x in
          subst (λ (n : ℕ). is_sequential n then.stores ≡ true) (sym later.pool) (stays ∙ was)

  each_written : (segments : List Segment) → AllByRecursion IsBelow segments → AllByRecursion (IsLaid c) segments → AllByRecursion NotReused segments → AllByRecursion (IsWrittenOn c) segments → AllByRecursion (IsWrittenOn next) segments
  each_written [] low laid kept was = tt
  each_written (s ∷ segments) low laid kept was = (written_next s low.0 laid.0 kept.0 was.0, each_written segments low.1 laid.1 kept.1 was.1)

  module _ (h : History) where
    pub covered_next : (v w : Inv) (t : Taken) → EachSequential (λ w r. AllByRecursion IsBelow r.segments) t.database → (IsWatched next w → IsWatched c v × EachSequential (λ w r. AllByRecursion NotReused r.segments) t.database)
        → IsCovered h c v t → IsCovered h next w t
    covered_next v w t low kept k = record {
      firm = k.firm;
      laid = also_sequential (λ w r. AllByRecursion (IsLaid c) r.segments) (λ w r. AllByRecursion (IsLaid next) r.segments) t.database (λ w r all. each_also (IsLaid c) (IsLaid next) r.segments laid_next all) k.laid;
      written = λ watched.
          let was = kept watched in
          both_sequential (λ w r. AllByRecursion (IsLaid c) r.segments × AllByRecursion IsBelow r.segments) (λ w r. AllByRecursion NotReused r.segments × AllByRecursion (IsWrittenOn c) r.segments)
          (λ w r. AllByRecursion (IsWrittenOn next) r.segments) t.database (λ w r a b. each_written r.segments a.1 a.0 b.0 b.1)
          (both_sequential (λ w r. AllByRecursion (IsLaid c) r.segments) (λ w r. AllByRecursion IsBelow r.segments) (λ w r. AllByRecursion (IsLaid c) r.segments × AllByRecursion IsBelow r.segments) t.database (λ w r a b. (a, b)) k.laid low)
          (both_sequential (λ w r. AllByRecursion NotReused r.segments) (λ w r. AllByRecursion (IsWrittenOn c) r.segments) (λ w r. AllByRecursion NotReused r.segments × AllByRecursion (IsWrittenOn c) r.segments) t.database (λ w r a b. (a, b))
          was.1 (k.written was.0));
    }

    -- ---- a backup that was listed, in the database behind the transaction

    -- what a protected backup needs isn't reused
    kept_of : (b : Backup) (t : Taken) → IsProvided now b t → is_protected now.today b ≡ true → EachSequential (λ w r. AllByRecursion NotReused r.segments) t.database
    kept_of b t provided young =
        also_sequential (λ w r. AllByRecursion (IsLeft now b r.pool) r.segments) (λ w r. AllByRecursion NotReused r.segments) t.database
        (λ w r all. each_also (IsLeft now b r.pool) NotReused r.segments (λ s left there. one s r.pool left (row_at s.file now.stores.volumes) refl there) all) provided
      where
        one : (s : Segment) (pool : ℕ) → IsLeft now b pool s → (o : Option Volume) → row_at s.file now.stores.volumes ≡ o → is_some (row_at s.file now.stores.volumes) ≡ true → is_reuse s.file x ≡ false
        one s pool left None at there = absurd (some_none (row_at s.file now.stores.volumes) there at)
        one s pool left (Some y) at there = never_reused (journal_of c.base c.journal) x now b pool s y valid legal at (subst (StillLies now b pool s) at left.1) young

    below_of : (b : Backup) (t : Taken) → IsProvided now b t → EachSequential (λ w r. AllByRecursion IsBelow r.segments) t.database
    below_of b t provided =
        also_sequential (λ w r. AllByRecursion (IsLeft now b r.pool) r.segments) (λ w r. AllByRecursion IsBelow r.segments) t.database
        (λ w r all. each_also (IsLeft now b r.pool) IsBelow r.segments (λ s left. left.0) all) provided

    comes_of : (b : Backup) (t : Taken) → IsProvided now b t → EachSequential (λ w r. AllByRecursion (IsLaid c) r.segments) t.database
        → EachSequential (λ w r. AllByRecursion (λ (s : Segment). row_at s.file now.stores.volumes ≡ None → (k : ℕ) → BringsVolume s.file k x → ⊥) r.segments) t.database
    comes_of b t provided laid =
        both_sequential (λ w r. AllByRecursion (IsLeft now b r.pool) r.segments) (λ w r. AllByRecursion (IsLaid c) r.segments)
        (λ w r. AllByRecursion (λ (s : Segment). row_at s.file now.stores.volumes ≡ None → (k : ℕ) → BringsVolume s.file k x → ⊥) r.segments) t.database
        (λ w r left laid. each_both (IsLeft now b r.pool) (IsLaid c) (λ (s : Segment). row_at s.file now.stores.volumes ≡ None → (k : ℕ) → BringsVolume s.file k x → ⊥) r.segments (λ s a b absent k brings. none_laid s a.0 b absent k brings) left laid)
        provided laid

    module _ (job : Option Job) (file : ℕ) (old new : Backup) (before : backup_at file now ≡ Some old) (at : backup_at file then ≡ Some new) (low : Lowers old new) (m : IsListedAs h c job now file old) where
      was : is_protected then.today new ≡ true → is_protected now.today old ≡ true
      was young = protected_before old new now.today then.today (days_rise (journal_of c.base c.journal) x now legal) low young

      -- a backup of the run gives the run's database of its number still
      own_next : c.base.number ≤ old.number → m.backup.database ≡ inv_at (new.number - c.base.number) next
      own_next from =
          let to : old.number ≤ now.number = leb-true old.number now.number (found_number file now.number now.backups old (facts_of now valid).backups_past before) in
          let last_is : now.number ≡ c.base.number + length c.journal = after-number c.base c.journal in
          m.own from ∙ sym (inv_before actor x numbers c (old.number - c.base.number) (omega (arith, from, to, last_is))) ∙ ap (λ (k : ℕ). inv_at (k - c.base.number) next) (sym low.number)

      aside_next : (job : Option Job) → IsAside job (is_protected now.today old ≡ true) file m.backup → IsAside job (is_protected then.today new ≡ true) file m.backup
      aside_next None a = tt
      aside_next (Some job) a = (a.0, λ young. a.1 (was young))

      pub listed_next : IsListedAs h next job then file new
      listed_next = record {
        backup = m.backup;
        readable = record {
          row = record { number = m.readable.row.number ∙ sym low.number; taken = m.readable.row.taken ∙ sym low.taken };
          gives = λ files left. subst (λ k. Gives meaning files file k m.backup.increments m.backup.database) (sym low.number) (m.readable.gives files left);
        };
        own = λ from. own_next (subst (λ k. c.base.number ≤ k) low.number from);
        files = each_also (IsFiled c) (IsFiled next) (files_of file m.backup.increments) filed_next m.files;
        none_here = each_also (IsFiled c) (IsNoVolume then) (files_of file m.backup.increments) none_then m.files;
        smaller = m.smaller;
        provided = λ young.
            provided_later (journal_of c.base c.journal) x now valid legal file old new before at low young m.backup (comes_of old m.backup (m.provided (was young)) (m.covered (was young)).laid) (m.provided (was young));
        covered = λ young. covered_next now then m.backup (below_of old m.backup (m.provided (was young))) (λ watched. ((watched.0, inl refl), kept_of old m.backup (m.provided (was young)) (was young))) (m.covered (was young));
        aside = λ none. aside_next job (m.aside none);
      }

    -- what is protected or of the run behind the transaction was so before
    pub sooner : (old new : Backup) → Lowers old new → (is_protected then.today new ≡ true) ⊎ (next.base.number ≤ new.number) → (is_protected now.today old ≡ true) ⊎ (c.base.number ≤ old.number)
    sooner old new low (inl young) = inl (protected_before old new now.today then.today (days_rise (journal_of c.base c.journal) x now legal) low young)
    sooner old new low (inr late) = inr (subst (λ k. c.base.number ≤ k) low.number late)

    -- all that the database behind the transaction lists as whole, where the transaction ends no backup
    pub backups_next : (job : Option Job) → ((file : ℕ) → x ≡ change.DbEnd file → ⊥) → HasBackups h c job now → HasBackups h next job then
    backups_next job ends has file new at done which = go (backup_at file now) refl (row_came file x now valid) where
      of_row : (old : Backup) → backup_at file now ≡ Some old → Lowers old new × ((old.is_done ≡ true) ⊎ (x ≡ change.DbEnd file)) → IsListedAs h next job then file new
      of_row old before (low, inr ended) = absurd (ends file ended)
      of_row old before (low, inl whole) = listed_next job file old new before at low (has file old before whole (sooner old new low which))

      go : (o : Option Backup) → backup_at file now ≡ o → Came file x o (backup_at file then) → IsListedAs h next job then file new
      go None before row = absurd (subst (Came file x None) at row done)
      go (Some old) before row = of_row old before (subst (Came file x (Some old)) at row done)

    -- what is whole began before, also in the database behind the transaction
    pub before_next : AreBefore now → AreBefore then
    before_next were file new at done = go (backup_at file now) refl (row_came file x now valid) where
      number_then : then.number ≡ now.number + 1
      number_then = more_number x now

      past : (old : Backup) → backup_at file now ≡ Some old → old.number ≤ now.number
      past old before = leb-true old.number now.number (found_number file now.number now.backups old (facts_of now valid).backups_past before)

      go : (o : Option Backup) → backup_at file now ≡ o → Came file x o (backup_at file then) → new.number < then.number
      go None before row = absurd (subst (Came file x None) at row done)
      go (Some old) before row =
          let low = (subst (Came file x (Some old)) at row done).0 in
          let le = past old before in
          let same = low.number in
          omega (arith, le, same, number_then)

    -- ---- in the databases before it

    drawn_of : (v : Inv) (b : Backup) (t : Taken) → v.next_file ≤ now.next_file → IsProvided v b t → EachSequential (λ w r. AllByRecursion IsBelow r.segments) t.database
    drawn_of v b t up provided =
        also_sequential (λ w r. AllByRecursion (IsLeft v b r.pool) r.segments) (λ w r. AllByRecursion IsBelow r.segments) t.database
        (λ w r all. each_also (IsLeft v b r.pool) IsBelow r.segments (λ s left. below_later s.file v.next_file now.next_file left.0 up) all) provided

    none_reused : (t : Taken) → is_any_reuse x ≡ false → EachSequential (λ w r. AllByRecursion NotReused r.segments) t.database
    none_reused t plain = each_any (λ w. AllByRecursion (λ (r : CopyRow). is_sequential r.pool t.database.stores ≡ true → AllByRecursion NotReused r.segments) w.copies) (versions t.database)
        (λ w. each_any (λ (r : CopyRow). is_sequential r.pool t.database.stores ≡ true → AllByRecursion NotReused r.segments) w.copies (λ r sequential. each_any NotReused r.segments (λ s there. other_reuse s.file x plain)))

    -- where the longer run is watched for a database before the transaction, the run was so, and the transaction reuses no volume
    watched_before : (v : Inv) → v.number ≤ c.base.number + length c.journal → IsWatched next v → IsWatched c v × (is_any_reuse x ≡ false)
    watched_before v past (none, inl same) = absurd (omega (arith, past, same, up, more, behind)) where
      up : (inventory next).number ≡ then.number
      up = ap (λ (w : Inv). w.number) same_then

      more : then.number ≡ now.number + 1
      more = more_number x now

      behind : now.number ≡ c.base.number + length c.journal
      behind = after-number c.base c.journal
    watched_before v past (none, inr calm) =
        let both = each_joined (λ (e : Entry). is_any_reuse e.change ≡ false) (unforced c) (entry_of actor x numbers c ∷ []) (subst (AllByRecursion (λ (e : Entry). is_any_reuse e.change ≡ false)) (unforced_last actor x numbers c few) calm) in
        ((none, inr both.0), both.1.0)

    covered_before : (v : Inv) (t : Taken) → v.number ≤ c.base.number + length c.journal → EachSequential (λ w r. AllByRecursion IsBelow r.segments) t.database → IsCovered h c v t → IsCovered h next v t
    covered_before v t past low k = covered_next v v t low (λ watched. let b = watched_before v past watched in (b.0, none_reused t b.1)) k

    -- what a database of the run has of a backup it has still
    pub listed_grown : (job : Option Job) (v : Inv) (file : ℕ) (b : Backup) → backup_at file v ≡ Some b → b.number ≤ c.base.number + length c.journal → v.next_file ≤ now.next_file → v.number ≤ c.base.number + length c.journal
        → IsListedAs h c job v file b → IsListedAs h next job v file b
    listed_grown job v file b at to up past m = record {
      backup = m.backup;
      readable = m.readable;
      own = λ from. m.own from ∙ sym (inv_before actor x numbers c (b.number - c.base.number) (within_run from));
      files = each_also (IsFiled c) (IsFiled next) (files_of file m.backup.increments) filed_next m.files;
      none_here = m.none_here;
      smaller = m.smaller;
      provided = m.provided;
      covered = λ young. covered_before v m.backup past (drawn_of v b m.backup up (m.provided young)) (m.covered young);
      aside = m.aside;
    }
      where
        within_run : c.base.number ≤ b.number → b.number - c.base.number ≤ length c.journal
        within_run from = omega (arith, from, to)

    -- ---- a backup that is written

    -- a database that a stop may bring back: it is valid, and none of its numbers is greater than those of the present one
    abbrev pub IsPast : Inv → Type 0
    IsPast v = (v.next_file ≤ now.next_file) × (is_valid v ≡ true) × (v.number ≤ c.base.number + length c.journal)

    abbrev HasRow : Core → Job → Taken → Inv → Option Backup → Type 0
    HasRow c job t v o = IfSome o (λ b. IsRow b t × (is_protected v.today b ≡ true → IsProvided v b t × IsCovered h c v t))

    rows_before : (job : Job) (t : Taken) (v : Inv) → v.next_file ≤ now.next_file → v.number ≤ c.base.number + length c.journal → HasRow c job t v (backup_at job.file v) → HasRow next job t v (backup_at job.file v)
    rows_before job t v up past l = go (backup_at job.file v) l where
      go : (o : Option Backup) → HasRow c job t v o → HasRow next job t v o
      go None l = tt
      go (Some b) l = (l.0, λ young. let p = l.1 young in (p.0, covered_before v t past (drawn_of v b t up p.0) p.1))

    row_behind : (job : Job) (t : Taken) → KeepsBackup job.file x → IfSome (backup_at job.file now) (λ b. IsRow b t × (is_protected now.today b ≡ true → IsProvided now b t × IsCovered h c now t)) → is_some (backup_at job.file now) ≡ true
        → IfSome (backup_at job.file then) (λ b. IsRow b t × (is_protected then.today b ≡ true → IsProvided then b t × IsCovered h next then t))
    row_behind job t keeps l there = go (backup_at job.file now) refl (backup_at job.file then) refl l where
      of_rows : (old new : Backup) → backup_at job.file now ≡ Some old → backup_at job.file then ≡ Some new → IsRow old t × (is_protected now.today old ≡ true → IsProvided now old t × IsCovered h c now t) → Lowers old new
          → IsRow new t × (is_protected then.today new ≡ true → IsProvided then new t × IsCovered h next then t)
      of_rows old new before at l low = (
        record { number = l.0.number ∙ sym low.number; taken = l.0.taken ∙ sym low.taken },
        λ young.
            let was = protected_before old new now.today then.today (days_rise (journal_of c.base c.journal) x now legal) low young in
            let p = l.1 was in (
              provided_later (journal_of c.base c.journal) x now valid legal job.file old new before at low young t (comes_of old t p.0 p.1.laid) p.0,
              covered_next now then t (below_of old t p.0) (λ watched. ((watched.0, inl refl), kept_of old t p.0 was)) p.1,
            ),
      )

      go : (o : Option Backup) → backup_at job.file now ≡ o → (r : Option Backup) → backup_at job.file then ≡ r → IfSome o (λ b. IsRow b t × (is_protected now.today b ≡ true → IsProvided now b t × IsCovered h c now t))
          → IfSome r (λ b. IsRow b t × (is_protected then.today b ≡ true → IsProvided then b t × IsCovered h next then t))
      go o before None at l = tt
      go None before (Some new) at l = absurd (some_none (backup_at job.file now) there before)
      go (Some old) before (Some new) at l = of_rows old new before at l (kept_lowers job.file x now keeps old new before at)

    -- it is written still, where the transaction doesn't concern it
    pub writing_grown : (job : Job) (t : Taken) → KeepsBackup job.file x → is_some (backup_at job.file now) ≡ true → AllByRecursion IsPast (left_open c) → left_open next ≡ left_open c ++ (then ∷ [])
        → IsWriting h c job t → IsWriting h next job t
    writing_grown job t keeps there past grows w = record {
      number = w.number;
      small = w.small;
      possible = w.possible;
      holds = w.holds;
      own = (w.own.0, further, w.own.2 ∙ sym (inv_before actor x numbers c (job.number - c.base.number) within_run));
      leads = w.leads;
      never = never_next job.file w.never (none_listed job.file w.never there);
      files = each_also (IsFiled c) (IsFiled next) (map (λ i. i.after) t.increments) filed_next w.files;
      smaller = w.smaller;
      listed = subst (AllByRecursion (λ v. IfSome (backup_at job.file v) (λ b. IsRow b t × (is_protected v.today b ≡ true → IsProvided v b t × IsCovered h next v t)))) (sym grows)
          (each_appended (λ v. IfSome (backup_at job.file v) (λ b. IsRow b t × (is_protected v.today b ≡ true → IsProvided v b t × IsCovered h next v t))) (left_open c) (then ∷ [])
          (each_both IsPast (λ v. IfSome (backup_at job.file v) (λ b. IsRow b t × (is_protected v.today b ≡ true → IsProvided v b t × IsCovered h c v t)))
          (λ v. IfSome (backup_at job.file v) (λ b. IsRow b t × (is_protected v.today b ≡ true → IsProvided v b t × IsCovered h next v t))) (left_open c) (λ v is l. rows_before job t v is.0 is.2 l) past w.listed)
          (row_behind job t keeps (last_left (λ v. IfSome (backup_at job.file v) (λ b. IsRow b t × (is_protected v.today b ≡ true → IsProvided v b t × IsCovered h c v t))) c w.listed) there, tt));
      aside = w.aside;
    }
      where
        within_run : job.number - c.base.number ≤ length c.journal
        within_run = let from = w.own.0 in let to = w.own.1 in omega (arith, from, to)

        further : job.number ≤ next.base.number + length next.journal
        further = let to = w.own.1 in let more = long actor x numbers c in omega (arith, to, more)

    -- ---- a backup that ends

    -- of none that is written any more
    pub listed_alone : (job : Option Job) (v : Inv) (file : ℕ) (b : Backup) → IsListedAs h next job v file b → IsListedAs h next None v file b
    listed_alone job v file b m = record {
      backup = m.backup;
      readable = m.readable;
      own = m.own;
      files = m.files;
      none_here = m.none_here;
      smaller = m.smaller;
      provided = m.provided;
      covered = m.covered;
      aside = λ none. tt;
    }

    module _ (job : Job) (t : Taken) (w : IsWriting h c job t) (whole : Firm (standing h job.file) 0 (image_bytes OfBackup job.number job.payload)) (old new : Backup) (before : backup_at job.file now ≡ Some old) (at : backup_at job.file then ≡ Some new)
        (low : Lowers old new) where
      had : IsRow old t × (is_protected now.today old ≡ true → IsProvided now old t × IsCovered h c now t)
      had = subst (λ (o : Option Backup). IfSome o (λ b. IsRow b t × (is_protected now.today b ≡ true → IsProvided now b t × IsCovered h c now t))) before
          (last_left (λ v. IfSome (backup_at job.file v) (λ b. IsRow b t × (is_protected v.today b ≡ true → IsProvided v b t × IsCovered h c v t))) c w.listed)

      row : IsRow new t
      row = record { number = had.0.number ∙ sym low.number; taken = had.0.taken ∙ sym low.taken }

      was_young : is_protected then.today new ≡ true → is_protected now.today old ≡ true
      was_young young = protected_before old new now.today then.today (days_rise (journal_of c.base c.journal) x now legal) low young

      past : old.number ≤ now.number
      past = leb-true old.number now.number (found_number job.file now.number now.backups old (facts_of now valid).backups_past before)

      last_is : now.number ≡ c.base.number + length c.journal
      last_is = after-number c.base c.journal

      bounded : new.number < 2 ^ 62
      bounded =
          let most : now.number < 2 ^ 62 = ltb-true now.number (2 ^ 62) (facts_of now valid).number_bounded in
          let le = past in
          let same = low.number in
          omega (arith, most, le, same)

      its_number : job.number ≡ new.number
      its_number = w.number ∙ row.number

      its_own : t.database ≡ inv_at (new.number - c.base.number) next
      its_own =
          let le = past in
          let same = low.number in
          let from = w.own.0 in
          let is = its_number in
          w.own.2 ∙ ap (λ (k : ℕ). inv_at (k - c.base.number) c) its_number ∙ sym (inv_before actor x numbers c (new.number - c.base.number) (omega (arith, le, same, from, is, last_is)))

      there : is_some (backup_at job.file now) ≡ true
      there = ap is_some before

      -- its own file is a whole backup's, and none of a volume
      own_filed : new.is_done ≡ true → IsFiled next job.file
      own_filed done = (
        never_next job.file w.never (none_listed job.file w.never there),
        inr (length next.journal, ap (λ (v : Inv). is_done (backup_at job.file v)) (all_of_it next (length next.journal) (omega arith) ∙ same_then) ∙ ap is_done at ∙ done),
      )

      own_none : IsNoVolume then job.file
      own_none =
          let n = never_next job.file w.never (none_listed job.file w.never there) in
          let absent : row_at job.file (inventory next).stores.volumes ≡ None = ap (λ (v : Inv). row_at job.file v.stores.volumes) (sym (all_of_it next (length next.journal) (omega arith))) ∙ n.2 (length next.journal) in
          subst (λ (v : Inv). IsNoVolume v job.file) same_then (n.0, n.1, absent)

      -- it is listed as whole, with what it holds
      pub ended_listed : new.is_done ≡ true → IsListedAs h next None then job.file new
      ended_listed done = record {
        backup = t;
        readable = readable_done h c job t new w row bounded whole;
        own = λ from. its_own;
        files = (own_filed done, each_also (IsFiled c) (IsFiled next) (map (λ i. i.after) t.increments) filed_next w.files);
        none_here = (own_none, each_also (IsFiled c) (IsNoVolume then) (map (λ i. i.after) t.increments) none_then w.files);
        smaller = w.smaller;
        provided = λ young.
            let p = had.1 (was_young young) in
            provided_later (journal_of c.base c.journal) x now valid legal job.file old new before at low young t (comes_of old t p.0 p.1.laid) p.0;
        covered = λ young. let p = had.1 (was_young young) in covered_next now then t (below_of old t p.0) (λ watched. ((watched.0, inl refl), kept_of old t p.0 (was_young young))) p.1;
        aside = λ none. tt;
      }

    abbrev end_of : Change → ℕ
    end_of (change.DbEnd k) = k
    end_of _ = 0

    -- all that the database behind the transaction by which a backup ends lists as whole
    pub backups_ended : (job : Job) (t : Taken) → IsWriting h c job t → Firm (standing h job.file) 0 (image_bytes OfBackup job.number job.payload) → x ≡ change.DbEnd job.file → HasBackups h c (Some job) now → HasBackups h next None then
    backups_ended job t w whole ends has file new at done which = go (backup_at file now) refl (row_came file x now valid) where
      same_file : x ≡ change.DbEnd file → job.file ≡ file
      same_file other = ap end_of (sym ends ∙ other)

      of_row : (old : Backup) → backup_at file now ≡ Some old → Lowers old new × ((old.is_done ≡ true) ⊎ (x ≡ change.DbEnd file)) → IsListedAs h next None then file new
      of_row old before (low, inl was) = listed_alone (Some job) then file new (listed_next (Some job) file old new before at low (has file old before was (sooner old new low which)))
      of_row old before (low, inr ended) =
          subst (λ f. IsListedAs h next None then f new) (same_file ended)
          (ended_listed job t w whole old new (subst (λ (f : ℕ). backup_at f now ≡ Some old) (sym (same_file ended)) before) (subst (λ (f : ℕ). backup_at f then ≡ Some new) (sym (same_file ended)) at) low done)

      go : (o : Option Backup) → backup_at file now ≡ o → Came file x o (backup_at file then) → IsListedAs h next None then file new
      go None before row = absurd (subst (Came file x None) at row done)
      go (Some old) before row = of_row old before (subst (Came file x (Some old)) at row done)

    -- ---- all that a hall keeps

    backups_grown : (job : Option Job) (v : Inv) → IsPast v → HasBackups h c job v → HasBackups h next job v
    backups_grown job v past has file b at done which = listed_grown job v file b at within past.0 past.2 (has file b at done which) where
      within : b.number ≤ c.base.number + length c.journal
      within =
          let le = leb-true b.number v.number (found_number file v.number v.backups b (facts_of v past.1).backups_past at) in
          let most = past.2 in
          omega (arith, le, most)

    -- the transaction doesn't concern the backup that is written
    abbrev pub KeepsJob : Option Job → Type 0
    KeepsJob job = IfSome job (λ b. KeepsBackup b.file x × (is_some (backup_at b.file now) ≡ true))

    writes_grown : (job : Option Job) → KeepsJob job → AllByRecursion IsPast (left_open c) → left_open next ≡ left_open c ++ (then ∷ []) → WritesBackup h c job → WritesBackup h next job
    writes_grown None keeps past grows w = tt
    writes_grown (Some job) keeps past grows w = λ none. let t = w none in (t.0, writing_grown job t.0 keeps.0 keeps.1 past grows t.1)

    -- what a hall keeps it keeps behind a transaction that joins, where that ends no backup
    pub joined_keeps : (opened : ℕ) (job : Option Job) → ((file : ℕ) → x ≡ change.DbEnd file → ⊥) → KeepsJob job → AllByRecursion IsPast (left_open c) → left_open next ≡ left_open c ++ (then ∷ [])
        → KeepsAllBackups c opened h job → KeepsAllBackups next opened h job
    joined_keeps opened job ends keeps past grows k = record {
      always = k.always;
      before = subst (AllByRecursion AreBefore) (sym grows) (each_appended AreBefore (left_open c) (then ∷ []) k.before (before_next (last_left AreBefore c k.before), tt));
      now = subst (AllByRecursion (HasBackups h next job)) (sym grows)
          (each_appended (HasBackups h next job) (left_open c) (then ∷ []) (each_both IsPast (HasBackups h c job) (HasBackups h next job) (left_open c) (λ v is has. backups_grown job v is has) past k.now)
          (backups_next job ends (last_left (HasBackups h c job) c k.now), tt));
      writes = writes_grown job keeps past grows k.writes;
    }

    -- and behind the one by which the backup ends that is written, once its gate is open
    pub ended_keeps : (opened : ℕ) (job : Job) (t : Taken) → IsWriting h c job t → Firm (standing h job.file) 0 (image_bytes OfBackup job.number job.payload) → x ≡ change.DbEnd job.file → AllByRecursion IsPast (left_open c)
        → left_open next ≡ left_open c ++ (then ∷ []) → KeepsAllBackups c opened h (Some job) → KeepsAllBackups next opened h None
    ended_keeps opened job t w whole ends past grows k = record {
      always = k.always;
      before = subst (AllByRecursion AreBefore) (sym grows) (each_appended AreBefore (left_open c) (then ∷ []) k.before (before_next (last_left AreBefore c k.before), tt));
      now = subst (AllByRecursion (HasBackups h next None)) (sym grows)
          (each_appended (HasBackups h next None) (left_open c) (then ∷ [])
          (each_both IsPast (HasBackups h c (Some job)) (HasBackups h next None) (left_open c)
          (λ v is has file b at done which. listed_alone (Some job) v file b (backups_grown (Some job) v is has file b at done which)) past k.now)
          (backups_ended job t w whole ends (last_left (HasBackups h c (Some job)) c k.now), tt));
      writes = tt;
    }
