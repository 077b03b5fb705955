-- What a hall keeps of backups where its base and its transactions stay what they are.
use Rattle.std.proofs.Common.{◌≡◌, ◌⊎◌, inl, inr, ℕ, ◌+◌, ◌-◌, ◌≤◌, Bool, true, false, List, [], ◌∷◌, length, drop, take, replicate, Option, None, Some, refl, sym, subst}
use Rattle.std.specs.Prelude.{IfSome}
use Rattle.std.specs.List.{AllByRecursion}
use Rattle.store_api.specs.Disk.{History}
use Rattle.entries.specs.declared.entry.Entry.{Entry}
use Rattle.db_image.specs.Steps.{Job}
use Rattle.inventory_rows.specs.declared.backup.Backup.{Backup}
use Rattle.inventory_rows.specs.State.{Inv}
use Rattle.inventory_rules.specs.Backups.{backup_at}
use Rattle.inventory_laws.proofs.Lists.{each_also}
use Rattle.machine.specs.Machine.{stamped}
use Rattle.machine.specs.State.{Core, Image, Ticket, after, inventory, unforced}
use Rattle.hall.specs.Covered.{databases, is_any_reuse, left_open}
use Rattle.hall.specs.Protected.{AreBefore, HasBackups, IsCovered, IsListedAs, IsProvided, IsRow, IsWatched, IsWriting, KeepsAllBackups, Taken, WritesBackup, is_protected}
use Rattle.hall.proofs.Databases.{last_left, left_alone}

module _ (h : History) (c : Core) (stamps : List ℕ) (tickets : List Ticket) (next_file next_object next_ticket : ℕ) (image : Option Image) (generation long : ℕ) (fault : Option (ℕ × ℕ)) where
  -- the same base and transactions
  abbrev other : Core
  other = record c { stamps = stamps; tickets = tickets; next_file = next_file; next_object = next_object; next_ticket = next_ticket; image = image; generation = generation; log_length = long; fault = fault }

  -- it is watched for a database where the first is
  abbrev Watches : Inv → Type 0
  Watches v = IsWatched other v → IsWatched c v

  covered_as : (v : Inv) (t : Taken) → Watches v → IsCovered h c v t → IsCovered h other v t
  covered_as v t w k = record { firm = k.firm; laid = k.laid; written = λ watched. k.written (w watched) }

  listed_as : (fault ≡ None → c.fault ≡ None) → (job : Option Job) (v : Inv) (file : ℕ) (b : Backup) → Watches v → IsListedAs h c job v file b → IsListedAs h other job v file b
  listed_as running job v file b w l = record {
    backup = l.backup;
    readable = l.readable;
    own = l.own;
    files = l.files;
    none_here = l.none_here;
    smaller = l.smaller;
    provided = l.provided;
    covered = λ young. covered_as v l.backup w (l.covered young);
    aside = λ none. l.aside (running none);
  }

  backups_as : (fault ≡ None → c.fault ≡ None) → (job : Option Job) (v : Inv) → Watches v → HasBackups h c job v → HasBackups h other job v
  backups_as running job v w has = λ file b at done which. listed_as running job v file b w (has file b at done which)

  abbrev HasRow : Core → Job → Taken → Inv → Type 0
  HasRow c job t v = IfSome (backup_at job.file v) (λ b. IsRow b t × (is_protected v.today b ≡ true → IsProvided v b t × IsCovered h c v t))

  row_as : (job : Job) (t : Taken) (v : Inv) → Watches v → HasRow c job t v → HasRow other job t v
  row_as job t v w l = go (backup_at job.file v) l where
    go : (o : Option Backup) → IfSome o (λ b. IsRow b t × (is_protected v.today b ≡ true → IsProvided v b t × IsCovered h c v t)) → IfSome o (λ b. IsRow b t × (is_protected v.today b ≡ true → IsProvided v b t × IsCovered h other v t))
    go None l = tt
    go (Some b) l = (l.0, λ young. let p = l.1 young in (p.0, covered_as v t w p.1))

  -- What holds of each database that a stop may bring back does so still, and for each it is watched where the first was.
  abbrev Carried : Type 1
  Carried = (P : Inv → Type 0) → AllByRecursion P (left_open c) → AllByRecursion (λ v. P v × Watches v) (left_open other)

  writing_as : Carried → (job : Job) (t : Taken) → IsWriting h c job t → IsWriting h other job t
  writing_as carry job t w = record {
    number = w.number;
    small = w.small;
    possible = w.possible;
    holds = w.holds;
    own = w.own;
    leads = w.leads;
    never = w.never;
    files = w.files;
    smaller = w.smaller;
    listed = each_also (λ v. HasRow c job t v × Watches v) (HasRow other job t) (left_open other) (λ v p. row_as job t v p.1 p.0) (carry (HasRow c job t) w.listed);
    aside = w.aside;
  }

  writes_as : Carried → (fault ≡ None → c.fault ≡ None) → (job : Option Job) → WritesBackup h c job → WritesBackup h other job
  writes_as carry running None w = tt
  writes_as carry running (Some job) w = λ none. let t = w (running none) in (t.0, writing_as carry job t.0 t.1)

  pub keeps_as : (opened : ℕ) (job : Option Job) → Carried → (fault ≡ None → c.fault ≡ None) → KeepsAllBackups c opened h job → KeepsAllBackups other opened h job
  keeps_as opened job carry running k = record {
    always = k.always;
    before = each_also (λ v. AreBefore v × Watches v) AreBefore (left_open other) (λ v p. p.0) (carry AreBefore k.before);
    now = each_also (λ v. HasBackups h c job v × Watches v) (HasBackups h other job) (left_open other) (λ v p. backups_as running job v p.1 p.0) (carry (HasBackups h c job) k.now);
    writes = writes_as carry running job k.writes;
  }

-- where tickets, numbers that are drawn next and the image in progress are others
pub same_keeps : (h : History) (c : Core) (tickets : List Ticket) (next_file next_object next_ticket : ℕ) (image : Option Image) (generation long : ℕ) (opened : ℕ) (job : Option Job) → KeepsAllBackups c opened h job
    → KeepsAllBackups (record c { tickets = tickets; next_file = next_file; next_object = next_object; next_ticket = next_ticket; image = image; generation = generation; log_length = long }) opened h job
same_keeps h c tickets next_file next_object next_ticket image generation long opened job k =
    keeps_as h c c.stamps tickets next_file next_object next_ticket image generation long c.fault opened job
    (λ P all. each_also P (λ v. P v × (IsWatched c v → IsWatched c v)) (left_open c) (λ v p. (p, λ w. w)) all) (λ none. none) k

-- where a fault halted the hall
pub halted_keeps : (h : History) (c : Core) (file count : ℕ) (opened : ℕ) (job : Option Job) → KeepsAllBackups c opened h job → KeepsAllBackups (record c { fault = Some (file, count) }) opened h job
halted_keeps h c file count opened job k =
    keeps_as h c c.stamps c.tickets c.next_file c.next_object c.next_ticket c.image c.generation c.log_length (Some (file, count)) opened job
    (λ P all. each_also P (λ v. P v × (IsWatched (record c { fault = Some (file, count) }) v → IsWatched c v)) (left_open c) (λ v p. (p, λ w. absurd (no_fault w.0))) all) (λ none. absurd (no_fault none)) k
  where
    no_fault : {A : Type 0} {a : A} → Some a ≡ None → ⊥
    no_fault e = absurd cc

-- where each transaction has another stamp
pub restamped_keeps : (h : History) (c : Core) (stamps : List ℕ) → length c.stamps ≡ length stamps → (opened : ℕ) (job : Option Job) → KeepsAllBackups c opened h job → KeepsAllBackups (record c { stamps = stamps }) opened h job
restamped_keeps h c stamps same opened job k =
    keeps_as h c stamps c.tickets c.next_file c.next_object c.next_ticket c.image c.generation c.log_length c.fault opened job
    (λ P all. each_also P (λ v. P v × (IsWatched (record c { stamps = stamps }) v → IsWatched c v)) (left_open (record c { stamps = stamps })) (λ v p. (p, λ w. (w.0, watched v w.1)))
    (subst (λ n. AllByRecursion P (databases (after c.base (take n c.journal)) (drop n c.journal))) same all)) (λ none. none) k
  where
    watched : (v : Inv) → (v.number ≡ (inventory c).number) ⊎ AllByRecursion (λ (e : Entry). is_any_reuse e.change ≡ false) (drop (length stamps) c.journal) → (v.number ≡ (inventory c).number) ⊎ AllByRecursion (λ (e : Entry). is_any_reuse e.change ≡ false) (unforced c)
    watched v (inl here) = inl here
    watched v (inr calm) = inr (subst (λ n. AllByRecursion (λ (e : Entry). is_any_reuse e.change ≡ false) (drop n c.journal)) (sym same) calm)

-- where every transaction has a stamp, whatever image is in progress
pub stamped_keeps : (h : History) (t : ℕ) (c : Core) (image : Option Image) (generation long : ℕ) → length (stamped t c).stamps ≡ length c.journal → (opened : ℕ) (job : Option Job) → KeepsAllBackups c opened h job
    → KeepsAllBackups (record (stamped t c) { image = image; generation = generation; log_length = long }) opened h job
stamped_keeps h t c image generation long full opened job k =
    keeps_as h c (stamped t c).stamps c.tickets c.next_file c.next_object c.next_ticket image generation long c.fault opened job carried (λ none. none) k
  where
    carried : (P : Inv → Type 0) → AllByRecursion P (left_open c) → AllByRecursion (λ v. P v × (IsWatched (stamped t c) v → IsWatched c v)) (left_open (stamped t c))
    carried P all = subst (AllByRecursion (λ v. P v × (IsWatched (stamped t c) v → IsWatched c v))) (sym (left_alone (stamped t c) full)) ((last_left P c all, λ w. (w.0, inl refl)), tt)
