-- All that a hall keeps of backups once one begins, behind the transaction by which it does, with everything forced.
use Rattle.std.proofs.Common.{◌≡◌, ◌⊎◌, inl, inr, ℕ, ◌+◌, ◌-◌, ◌<◌, ◌≤◌, ◌^◌, max, true, false, is_some, List, [], ◌∷◌, ◌++◌, length, drop, Option, None, Some, refl, sym, ap, subst, ◌∙◌, arith}
use Rattle.std.specs.Prelude.{All}
use Rattle.std.specs.List.{AllByRecursion}
use Rattle.std.proofs.lemmas.Bool.{cases_lt, false≢true, leb-true}
use Rattle.store_api.specs.Disk.{History}
use Rattle.fields.specs.Editions.{second_form}
use Rattle.contents.specs.Contents.{HaveAll, InStore}
use Rattle.entries.specs.Meaning.{Spells}
use Rattle.entries.specs.declared.change.Change.{Change}
use Rattle.entries.specs.declared.change.Change.TheVariants as change
use Rattle.entries.specs.declared.entry.Entry.{Entry}
use Rattle.backup_payloads.specs.Holding.{IsShort, holding}
use Rattle.backup_payloads.specs.Increments.{IsIncrement}
use Rattle.db_image.specs.Steps.{Job}
use Rattle.inventory.specs.Meant.{meaning}
use Rattle.inventory_rows.specs.declared.backup.Backup.{Backup}
use Rattle.inventory_rows.specs.pool_tables.Rows.{row_at}
use Rattle.inventory_rows.specs.State.{Inv}
use Rattle.inventory_rules.specs.Backups.{backup_at, is_done}
use Rattle.inventory_rules.specs.Transactions.{effect}
use Rattle.inventory_rules.specs.Valid.{is_valid}
use Rattle.inventory_laws.proofs.Facts.{facts_of}
use Rattle.inventory_laws.proofs.ScratchBack.{own_row}
use Rattle.inventory_laws.proofs.Stays.{row_at-inserted_other}
use Rattle.machine.proofs.Histories.{after-number}
use Rattle.machine.specs.Machine.{begun}
use Rattle.machine.specs.State.{Core, Image, inventory}
use Rattle.hall.specs.Covered.{IsNewFile, NumbersAreDrawn, covered, inv_at, left_open}
use Rattle.hall.specs.Good.{IsLawful}
use Rattle.hall.specs.Protected.{HasBackups, IsListedAs, IsWriting, KeepsAllBackups, Taken, WasDone}
use Rattle.hall.proofs.BackedUp.{found_number}
use Rattle.hall.proofs.BackupsSpared.{begun_keeps}
use Rattle.hall.proofs.Joining.{inv_before, inv_behind, inventory_last, valid_now, whole_at}
use Rattle.hall.proofs.PlacesChosen.{scratch_absent, scratch_unlisted}
use Rattle.hall.proofs.Promising.{begins_since, begins_whole, next_begun}

-- ---- the database behind the transaction

stores_begun : (k : ℕ) (of : Option ℕ) (v : Inv) → row_at k (effect (change.DbBegin k of) v).stores.volumes ≡ row_at k v.stores.volumes
unfolding effect
stores_begun k of v = refl

-- the new one isn't whole
undone_begun : (k : ℕ) (of : Option ℕ) (v : Inv) → is_done (backup_at k (effect (change.DbBegin k of) v)) ≡ false
unfolding effect
undone_begun k of v = ap is_done (own_row k _ v.backups)

-- the others are as they were
others_begun : (k : ℕ) (of : Option ℕ) (v : Inv) (file : ℕ) → (k ≡ file → ⊥) → backup_at file (effect (change.DbBegin k of) v) ≡ backup_at file v
unfolding effect
others_begun k of v file apart = row_at-inserted_other k file _ v.backups apart

-- what its bytes hold: the database, or the transactions behind the backup that it follows, which is a whole one of this run
abbrev pub HoldsIt : (old : Inv) → Core → Option ℕ → List ℕ → Type 0
HoldsIt old c None bytes = Spells meaning second_form bytes (inventory c)
HoldsIt old c (Some file) bytes =
    (b : Backup) × (backup_at file old ≡ Some b) × (b.is_done ≡ true) × (c.base.number ≤ b.number) × All IsShort (drop (b.number - c.base.number) c.journal)
    × IsIncrement bytes (holding file b.number (drop (b.number - c.base.number) c.journal))

module _ (h : History) (contents : ℕ → List ℕ) (actor : ℕ) (of : Option ℕ) (old : Core) (stamps : List ℕ) (image : Option Image) (before : IsLawful old) (drawn : NumbersAreDrawn old) where
  abbrev k : ℕ
  k = old.next_file

  abbrev x : Change
  x = change.DbBegin k of

  abbrev c : Core
  c = record (begun actor of old) { stamps = stamps; image = image }

  is_behind : inventory c ≡ effect x (inventory old)
  is_behind = inventory_last actor x [] old

  -- what holds of each database before, and of the one behind the transaction, holds of all
  each_of : (P : Inv → Type 0) → ((count : ℕ) → P (inv_at count old)) → P (effect x (inventory old)) → (count : ℕ) → P (inv_at count c)
  each_of P was is count = elim (cases_lt (length old.journal) count) as (λ _. P (inv_at count c)) [
    | inl past ↦ subst P (sym (inv_behind actor x [] old count past)) is
    | inr within ↦ subst P (sym (inv_before actor x [] old count within)) (was count)
  ]

  absent : row_at k (inventory old).stores.volumes ≡ None
  absent = ap (λ (v : Inv). row_at k v.stores.volumes) (sym (whole_at actor x [] old)) ∙ scratch_absent old k before drawn (omega arith) (length old.journal)

  unmade : IsNewFile c k
  unmade = each_of (λ v. row_at k v.stores.volumes ≡ None) (scratch_absent old k before drawn (omega arith)) (stores_begun k of (inventory old) ∙ absent)

  undone : WasDone c k → ⊥
  undone (count, was) =
      false≢true (sym (each_of (λ v. is_done (backup_at k v) ≡ false) (λ n. ap is_done (scratch_unlisted old k before drawn (omega arith) n)) (undone_begun k of (inventory old)) count) ∙ was)

  unlisted : backup_at k (inventory old) ≡ None
  unlisted = ap (backup_at k) (sym (whole_at actor x [] old)) ∙ scratch_unlisted old k before drawn (omega arith) (length old.journal)

  first : c.base.next_file ≤ k
  first = let low = drawn.next_file.0 in let up = drawn.next_file.1 in omega (arith, low, up)

  module _ (lawful : IsLawful c) (numbers : NumbersAreDrawn c) (alone : left_open c ≡ inventory c ∷ []) (firm : HaveAll (InStore h) contents (covered c)) (from : 4 ≤ k) (possible : k + 2 < 2 ^ 32) (job : Job) (in_file : job.file ≡ k)
      (numbered : job.number ≡ (inventory c).number) (small : length job.payload < 2 ^ 64) (opened : ℕ) (kept : KeepsAllBackups c opened h None) where
    listed : (file : ℕ) (b : Backup) → backup_at file (inventory c) ≡ Some b → b.is_done ≡ true → c.base.number ≤ b.number → IsListedAs h c None (inventory c) file b
    listed file b at done own = (subst (AllByRecursion (HasBackups h c None)) alone kept.now).0 file b at done (inr own)

    some_none : {A : Type 0} {a : A} → Some a ≡ None → ⊥
    some_none e = absurd cc

    writes : (o : Option ℕ) → o ≡ of → HoldsIt (inventory old) c o job.payload → (t : Taken) × IsWriting h c job t
    writes None same spelled =
        (_, begins_whole h contents c k of (inventory old) (valid_now old before) is_behind lawful numbers.none_back (valid_now c lawful) alone firm from unmade job in_file numbered small possible spelled)
    writes (Some file) same (b, at, done, own, short, increment) =
        let apart : k ≡ file → ⊥ = λ same. some_none (sym at ∙ ap (λ n. backup_at n (inventory old)) (sym same) ∙ unlisted) in
        let there : backup_at file (inventory c) ≡ Some b = ap (backup_at file) is_behind ∙ others_begun k of (inventory old) file apart ∙ at in
        let l = listed file b there done own in
        let most : b.number ≤ (inventory c).number = leb-true b.number (inventory c).number (found_number file (inventory c).number (inventory c).backups b (facts_of (inventory c) (valid_now c lawful)).backups_past there) in
        let last : (inventory c).number ≡ c.base.number + length c.journal = after-number c.base c.journal in
        let low : file < (inventory c).next_file = l.none_here.0.1 in
        let next : (inventory c).next_file ≡ max (inventory old).next_file (k + 1) = ap (λ (v : Inv). v.next_file) is_behind ∙ next_begun k of (inventory old) in
        let up = drawn.next_file.1 in
        let below : file < k = less file k apart (omega (arith, low, next, up)) in (
          _,
          begins_since h contents c k of (inventory old) (valid_now old before) is_behind lawful numbers.none_back (valid_now c lawful) alone firm from unmade job in_file numbered small possible
              file b l.backup l.readable below l.files l.smaller own (omega (arith, most, last)) (l.own own) short increment,
        )
      where
        less : (a b : ℕ) → (b ≡ a → ⊥) → a ≤ b → a < b
        less a b apart le = elim (cases_lt a b) as (λ _. a < b) [ inl lt ↦ lt | inr ge ↦ absurd (apart (omega (arith, le, ge))) ]

    -- and the new one is written
    pub begins_keeps : HoldsIt (inventory old) c of job.payload → KeepsAllBackups c opened h (Some job)
    begins_keeps holds =
        begun_keeps h c opened job (subst (λ n. c.base.next_file ≤ n) (sym in_file) first) (subst (IsNewFile c) (sym in_file) unmade) (λ was. undone (subst (WasDone c) in_file was)) (λ none. writes of refl holds) kept
