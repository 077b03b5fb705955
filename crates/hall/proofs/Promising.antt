-- A backup that begins promises what it will give back, and one that ends keeps it.
use Rattle.std.proofs.Common.{◌≡◌, ◌⊎◌, inl, inr, ℕ, ◌+◌, ◌-◌, ◌<◌, ◌≤◌, ◌^◌, max, true, is_some, List, [], ◌∷◌, ◌++◌, length, map, take, drop, Option, None, Some, refl, sym, ap, subst, ◌∙◌, arith}
use Rattle.std.specs.Prelude.{IfSome, All}
use Rattle.std.specs.List.{AllByRecursion}
use Rattle.std.proofs.lemmas.List.{length-drop, length-map}
use Rattle.std.proofs.lemmas.List.Elements.{All-head, All-tail}
use Rattle.store_api.specs.Disk.{History, Leaves, standing}
use Rattle.store_api.specs.Runs.{Firm, LeftNow, Stands}
use Rattle.store_api.proofs.Standings.{leaves_firm}
use Rattle.fields.specs.Editions.{second_form}
use Rattle.kinds.specs.declared.segment.Segment.{Segment}
use Rattle.contents.specs.Contents.{HasAll, HaveAll, InStore}
use Rattle.entries.specs.EntryForm.{entry as entry_form}
use Rattle.entries.specs.Meaning.{Spells}
use Rattle.entries.specs.declared.change.Change.{Change}
use Rattle.entries.specs.declared.change.Change.TheVariants as change
use Rattle.entries.specs.declared.entry.Entry.{Entry}
use Rattle.backup_payloads.specs.Holding.{IsShort, holding}
use Rattle.backup_payloads.specs.Increments.{Increment, IsIncrement}
use Rattle.backup_payloads.specs.Payloads.{IsPayload}
use Rattle.backup_payloads.specs.declared.payload.Payload.{Payload}
use Rattle.backup_payloads.specs.declared.payload.Payload.TheVariants.{Since, Whole}
use Rattle.db_chains.specs.Chains.{Gives, IsBackup, Makes, last_of}
use Rattle.db_image.specs.Images.{HasImage, image_bytes}
use Rattle.db_image.specs.Steps.{Job}
use Rattle.db_image.specs.declared.mark.Mark.TheVariants.{Backup as OfBackup}
use Rattle.db_image.proofs.One.{stands_image}
use Rattle.inventory.specs.Meant.{meaning}
use Rattle.inventory_rows.specs.declared.backup.Backup.{Backup}
use Rattle.inventory_rows.specs.volume_rows.declared.volume.Volume.{Volume}
use Rattle.inventory_rows.specs.pool_rows.PoolRows.{is_sequential}
use Rattle.inventory_rows.specs.pool_tables.Rows.{row_at}
use Rattle.inventory_rows.specs.Search.{versions}
use Rattle.inventory_rows.specs.State.{Inv}
use Rattle.inventory_rules.specs.Backups.{backup_at}
use Rattle.inventory_rules.specs.Common.{this}
use Rattle.inventory_rules.specs.Journal.{no_journal}
use Rattle.inventory_rules.specs.Run.{journal_of}
use Rattle.inventory_rules.specs.Transactions.{effect, refused}
use Rattle.inventory_rules.proofs.Journals.{not_refused}
use Rattle.inventory_rules.specs.Valid.{is_valid}
use Rattle.inventory_laws.proofs.Lists.{each_also, each_both}
use Rattle.machine.proofs.Histories.{after-number}
use Rattle.machine.specs.State.{Core, after, inventory}
use Rattle.hall.specs.Covered.{IsNewFile, NoneComesBack, covered, inv_at, left_open, written}
use Rattle.hall.specs.Good.{IsLawful}
use Rattle.hall.specs.Protected.{EachSequential, IsCovered, IsFiled, IsLaid, IsNever, IsOneOf, IsProvided, IsReadable, IsRow, IsWriting, IsWritten, IsWrittenOn, LeadsTo, Taken, WritesIt, files_of, is_protected}
use Rattle.hall.proofs.BackedUp.{Lies, also_sequential, begun_row, both_sequential, each_lies, provided_begun, row_begun}
use Rattle.hall.proofs.Along.{Along, along, along_later}
use Rattle.hall.proofs.Covering.{all_each}
use Rattle.hall.proofs.CopiesWritten.{copies_written, each_firm}
use Rattle.hall.proofs.Databases.{after_parts}
use Rattle.hall.proofs.JoinedFreed.{contains_back}
use Rattle.hall.proofs.Joining.{all_of_it}

-- ---- one that ends

-- the payload holds what the backup gives: the database, or its increment
module _ (files : ℕ → List ℕ) (job : Job) (number : ℕ) (same : job.number ≡ number) (small : length job.payload < 2 ^ 64) (low : number < 2 ^ 62) (stands : HasImage job.file OfBackup (files job.file) number job.payload) (possible : (4 ≤ job.file) × (job.file + 2 < 2 ^ 32)) where
  is_backup : (held : Payload Inv) → IsPayload meaning job.payload held → number ≡ last_of meaning held → IsBackup meaning files job.file number held
  is_backup held holds numbered = record { payload = job.payload; possible = possible; image = stands; holds = holds; numbered = numbered }

  gives_it : (increments : List Increment) (v : Inv) → WritesIt job.payload increments v → number ≡ v.number → (h : History) → LeadsTo h job.file increments v → LeftNow (IsOneOf (files_of job.file increments)) h files
      → Gives meaning files job.file number increments v
  gives_it [] v holds numbered h leads left = is_backup (Whole v) (second_form, holds) numbered
  gives_it (i ∷ older) v holds numbered h leads left = (
    is_backup (Since i) holds.0 (numbered ∙ sym holds.1),
    leads.0,
    (leads.1.0, leads.1.1 files (λ n one. left n (contains_back (job.file ∷ []) (files_of i.after older) n one)), leads.1.2),
  )

-- whatever a stop leaves of a backup whose gate is open, and of those that it follows, leads to its database
pub readable_done : (h : History) (c : Core) (job : Job) (t : Taken) (b : Backup) → IsWriting h c job t → IsRow b t → b.number < 2 ^ 62 → Firm (standing h job.file) 0 (image_bytes OfBackup job.number job.payload) → IsReadable h job.file b t
readable_done h c job t b w row low firm = record {
  row = row;
  gives = λ files left.
      let same : job.number ≡ b.number = w.number ∙ row.number in
      let own : Leaves (standing h job.file) (files job.file) = left job.file (0, one_more (map (λ (i : Increment). i.after) t.increments), refl) in
      let stands = leaves_firm (standing h job.file) (files job.file) 0 (image_bytes OfBackup job.number job.payload) own firm in
      gives_it files job b.number same w.small low
      (stands_image job.file b.number OfBackup (files job.file) job.payload low (λ rest no. no) w.small (subst (λ n. Stands (files job.file) 0 (image_bytes OfBackup n job.payload)) same stands))
      w.possible t.increments t.database w.holds (sym row.number) h w.leads left;
}
  where
    one_more : (l : List ℕ) → 0 < length (job.file ∷ l)
    one_more l = omega arith

-- ---- one that begins

pub number_begun : (k : ℕ) (after : Option ℕ) (v : Inv) → (effect (change.DbBegin k after) v).number ≡ this v
unfolding effect
number_begun k after v = refl

today_begun : (k : ℕ) (after : Option ℕ) (v : Inv) → (effect (change.DbBegin k after) v).today ≡ v.today
unfolding effect
today_begun k after v = refl

pub next_begun : (k : ℕ) (after : Option ℕ) (v : Inv) → (effect (change.DbBegin k after) v).next_file ≡ max v.next_file (k + 1)
unfolding effect
next_begun k after v = refl

-- the transactions of a run make of its database what the run does
makes_run : (v : Inv) (es : List Entry) → All IsShort es → Along (λ x e. refused no_journal e.change x ≡ None) v es → Makes meaning v (map entry_form.spell es) (after v es)
makes_run v [] short legal = refl
makes_run v (e ∷ es) short legal = (e, ((All-head IsShort e es short).0, refl), legal.0, makes_run (effect e.change v) es (All-tail IsShort e es short) legal.1)

smaller_than : (a b c : ℕ) → a < b → b < c → a < c
smaller_than a b c x y = omega (arith, x, y)

-- the database behind the transaction by which it begins is that of the run, and all is forced
module _ (h : History) (contents : ℕ → List ℕ) (c : Core) (k : ℕ) (of : Option ℕ) (v : Inv) (valid_before : is_valid v ≡ true) (is : inventory c ≡ effect (change.DbBegin k of) v) (l : IsLawful c) (none : NoneComesBack c)
    (valid : is_valid (inventory c) ≡ true) (alone : left_open c ≡ inventory c ∷ []) (firm : HaveAll (InStore h) contents (covered c)) (from : 4 ≤ k) (unmade : IsNewFile c k) where
  -- the database, as the backup takes it
  abbrev pub taken_now : List Increment → Taken
  taken_now increments = record { database = inventory c; increments = increments; contents = contents }

  now_at : inv_at (length c.journal) c ≡ inventory c
  now_at = all_of_it c (length c.journal) (omega arith)

  free : row_at k (inventory c).stores.volumes ≡ None
  free = ap (λ (v : Inv). row_at k v.stores.volumes) (sym now_at) ∙ unmade (length c.journal)

  present : HaveAll (InStore h) contents (versions (inventory c))
  present = (subst (AllByRecursion (HasAll (InStore h) contents)) alone (all_each (InStore h) contents (left_open c) firm)).0

  laid_now : EachSequential (λ w r. AllByRecursion (IsLaid c) r.segments) (inventory c)
  laid_now =
      also_sequential (λ w r. AllByRecursion (Lies (inventory c) r.pool) r.segments) (λ w r. AllByRecursion (IsLaid c) r.segments) (inventory c)
      (λ w r all. each_also (Lies (inventory c) r.pool) (IsLaid c) r.segments (λ s lies. (lies.from, inr (length c.journal, ap (λ (x : Inv). is_some (row_at s.file x.stores.volumes)) now_at ∙ ap is_some lies.there))) all)
      (each_lies (inventory c) valid)

  pub covered_begun : (increments : List Increment) → IsCovered h c (inventory c) (taken_now increments)
  covered_begun increments = record {
    firm = each_firm (InStore h) contents (inventory c) present;
    laid = laid_now;
    written = λ _.
        both_sequential (λ w r. AllByRecursion (Lies (inventory c) r.pool) r.segments) (λ w r. AllByRecursion (λ s. IsWritten (written s.file c) s) r.segments)
        (λ w r. AllByRecursion (IsWrittenOn c) r.segments) (inventory c)
        (λ w r lies all. each_both (Lies (inventory c) r.pool) (λ s. IsWritten (written s.file c) s) (IsWrittenOn c) r.segments
        (λ s l is. inl (is, subst (λ o. IfSome o (λ (x : Volume). is_sequential x.pool (inventory c).stores ≡ true)) (sym l.there) l.sequential)) lies all) (each_lies (inventory c) valid) (copies_written c l none valid);
  }

  aside_now : EachSequential (λ w r. AllByRecursion (λ (s : Segment). s.file ≡ k → ⊥) r.segments) (inventory c)
  aside_now =
      also_sequential (λ w r. AllByRecursion (Lies (inventory c) r.pool) r.segments) (λ w r. AllByRecursion (λ (s : Segment). s.file ≡ k → ⊥) r.segments) (inventory c)
      (λ w r all. each_also (Lies (inventory c) r.pool) (λ (s : Segment). s.file ≡ k → ⊥) r.segments (λ s lies same. some_none (sym lies.there ∙ ap (λ (f : ℕ). row_at f (inventory c).stores.volumes) same ∙ free)) all)
      (each_lies (inventory c) valid)
    where
      some_none : {A : Type 0} {x : A} → Some x ≡ None → ⊥
      some_none e = absurd cc

  row_now : backup_at k (inventory c) ≡ Some (begun_row of v)
  row_now = ap (backup_at k) is ∙ row_begun k of v

  is_row : (increments : List Increment) → IsRow (begun_row of v) (taken_now increments)
  is_row increments = record { number = ap (λ (x : Inv). x.number) is ∙ number_begun k of v; taken = ap (λ (x : Inv). x.today) is ∙ today_begun k of v }

  provided_now : (increments : List Increment) → IsProvided (inventory c) (begun_row of v) (taken_now increments)
  provided_now increments = subst (λ (x : Inv). IsProvided x (begun_row of v) (taken_now increments)) (sym is) (provided_begun k of v valid_before (taken_now increments) is)

  last_is : (inventory c).number ≡ c.base.number + length c.journal
  last_is = after-number c.base c.journal

  -- its own file
  never_now : IsNever c k
  never_now = (from, below, unmade) where
    below : k < (inventory c).next_file
    below = let same : (inventory c).next_file ≡ max v.next_file (k + 1) = ap (λ (x : Inv). x.next_file) is ∙ next_begun k of v in omega (arith, same)

  module _ (job : Job) (in_file : job.file ≡ k) (numbered : job.number ≡ (inventory c).number) (small : length job.payload < 2 ^ 64) (possible : k + 2 < 2 ^ 32) where
    own_now : (c.base.number ≤ job.number) × (job.number ≤ c.base.number + length c.journal) × (inventory c ≡ inv_at (job.number - c.base.number) c)
    own_now = (omega (arith, numbered, last_is), omega (arith, numbered, last_is), sym (all_of_it c (job.number - c.base.number) (omega (arith, numbered, last_is))))

    listed_now : (increments : List Increment) → AllByRecursion (λ x. IfSome (backup_at job.file x) (λ b. IsRow b (taken_now increments) × (is_protected x.today b ≡ true → IsProvided x b (taken_now increments) × IsCovered h c x (taken_now increments)))) (left_open c)
    listed_now increments =
        subst (AllByRecursion (λ x. IfSome (backup_at job.file x) (λ b. IsRow b (taken_now increments) × (is_protected x.today b ≡ true → IsProvided x b (taken_now increments) × IsCovered h c x (taken_now increments))))) (sym alone) (
          subst (λ (o : Option Backup). IfSome o (λ b. IsRow b (taken_now increments) × (is_protected (inventory c).today b ≡ true → IsProvided (inventory c) b (taken_now increments) × IsCovered h c (inventory c) (taken_now increments))))
              (sym (ap (λ (f : ℕ). backup_at f (inventory c)) in_file ∙ row_now)) (is_row increments, λ young. (provided_now increments, covered_begun increments)),
          tt,
        )

    writing : (increments : List Increment) → WritesIt job.payload increments (inventory c) → LeadsTo h job.file increments (inventory c) → AllByRecursion (IsFiled c) (map (λ i. i.after) increments) → AllByRecursion (λ i. i.after < job.file) increments
        → IsWriting h c job (taken_now increments)
    writing increments holds leads files smaller = record {
      number = numbered;
      small = small;
      possible = (subst (λ f. 4 ≤ f) (sym in_file) from, subst (λ f. f + 2 < 2 ^ 32) (sym in_file) possible);
      holds = holds;
      own = own_now;
      leads = leads;
      never = subst (IsNever c) (sym in_file) never_now;
      files = files;
      smaller = smaller;
      listed = listed_now increments;
      aside = subst (λ f. EachSequential (λ w r. AllByRecursion (λ (s : Segment). s.file ≡ f → ⊥) r.segments) (inventory c)) (sym in_file) aside_now;
    }

    -- a backup of the whole database
    pub begins_whole : Spells meaning second_form job.payload (inventory c) → IsWriting h c job (taken_now [])
    begins_whole spelled = writing [] spelled tt tt tt

    -- one that follows another
    pub begins_since : (file : ℕ) (b : Backup) (older : Taken) → IsReadable h file b older → file < k → AllByRecursion (IsFiled c) (files_of file older.increments) → AllByRecursion (λ i. i.after < file) older.increments
        → c.base.number ≤ b.number → b.number ≤ c.base.number + length c.journal → older.database ≡ inv_at (b.number - c.base.number) c → All IsShort (drop (b.number - c.base.number) c.journal)
        → IsIncrement job.payload (holding file b.number (drop (b.number - c.base.number) c.journal)) → IsWriting h c job (taken_now (holding file b.number (drop (b.number - c.base.number) c.journal) ∷ older.increments))
    begins_since file b older readable below files smaller low high own short increment =
        let n : ℕ = b.number - c.base.number in
        let es : List Entry = drop n c.journal in
        let long : length (map entry_form.spell es) ≡ length c.journal - n = length-map es entry_form.spell ∙ length-drop n c.journal in
        writing (holding file b.number es ∷ older.increments) (increment, omega (arith, long, last_is, low, high)) (
          subst (λ f. file < f) (sym in_file) below,
          (
            older.database,
            readable.gives,
            subst (λ (x : Inv). Makes meaning x (map entry_form.spell es) (inventory c)) (sym own) (subst (Makes meaning (inv_at n c) (map entry_form.spell es)) (after_parts n c.base c.journal)
                (makes_run (inv_at n c) es short (along_later (λ x e. refused no_journal e.change x ≡ None) n c.base c.journal
                (along (λ x e. refused no_journal e.change x ≡ None) c.base c.journal (λ i e at. not_refused (journal_of c.base (take i c.journal)) no_journal e.change (inv_at i c) (l.legal i e at)))))),
          ),
        )
        files (subst (λ f. file < f) (sym in_file) below, each_also (λ (i : Increment). i.after < file) (λ (i : Increment). i.after < job.file) older.increments (λ i less. smaller_than i.after file job.file less (subst (λ f. file < f) (sym in_file) below)) smaller)
