-- A hall whose store was sound for the backups that its base lists keeps them when it is opened.
use Rattle.std.proofs.Common.{◌≡◌, ◌⊎◌, inl, inr, ℕ, ◌+◌, ◌-◌, ◌<◌, ◌≤◌, Bool, true, false, cond, ◌||◌, is_some, List, [], ◌∷◌, length, map, Option, None, Some, refl, sym, ap, subst, ◌∙◌, arith}
use Rattle.std.specs.Prelude.{◌==◌, IfSome, nat_le}
use Rattle.std.specs.List.{AllByRecursion, Contains, list_any}
use Rattle.std.specs.Option.{option_map_or}
use Rattle.std.proofs.lemmas.Bool.{eqb-true, false≢true, true≢false, le-leb, leb-true}
use Rattle.store_api.specs.Disk.{History, ImageAt, Leaves, now, reads, standing}
use Rattle.store_api.specs.Runs.{LeftNow, GoesOn, Stands}
use Rattle.store_api.proofs.Pieces.{image_reads, leaves_reads}
use Rattle.store_api.proofs.Runs.{image_now, goes_standing, now_image}
use Rattle.store_api.proofs.Standings.{leaves_firm}
use Rattle.kinds.specs.declared.segment.Segment.{Segment}
use Rattle.contents.specs.Contents.{InImage, InStore}
use Rattle.contents.proofs.Segments.{Carries}
use Rattle.db_image.specs.Steps.{Job}
use Rattle.backup_payloads.specs.Increments.{Increment}
use Rattle.backup_payloads.specs.declared.payload.Payload.{Payload}
use Rattle.db_chains.specs.Chains.{Gives, IsBackup, Makes}
use Rattle.db_image.specs.Images.{HasImage}
use Rattle.db_image.specs.declared.mark.Mark.TheVariants.{Backup as OfBackup}
use Rattle.inventory.proofs.Nothing.{is_free}
use Rattle.inventory.specs.Meaningful.{is_meaning}
use Rattle.inventory.specs.Meant.{meaning}
use Rattle.inventory_rows.specs.declared.backup.Backup.{Backup}
use Rattle.inventory_rows.specs.pool_rows.PoolRows.{is_sequential}
use Rattle.inventory_rows.specs.pool_tables.Rows.{row_at}
use Rattle.inventory_rows.specs.version_groups.declared.copies.CopyRow.{CopyRow}
use Rattle.inventory_rows.specs.version_groups.declared.versions.Version.{Version}
use Rattle.inventory_rows.specs.volume_rows.declared.volume.Volume.{Volume}
use Rattle.inventory_rows.specs.Search.{versions}
use Rattle.inventory_rows.specs.State.{Inv}
use Rattle.inventory_rules.specs.Journal.{no_journal}
use Rattle.inventory_rules.specs.Valid.{is_valid}
use Rattle.inventory_laws.proofs.Lists.{each_also, each_both, none_of}
use Rattle.inventory_laws.proofs.Origins.{contained_holds}
use Rattle.vault.specs.Recovery.{Recovers, RecoversWithin}
use Rattle.vault.proofs.Sounding.{within_recovers}
use Rattle.vault.proofs.Unique.{one_database}
use Rattle.machine.specs.State.{Core, inventory}
use Rattle.hall.specs.Covered.{IsNewFile, inv_at, left_open, written, written_before}
use Rattle.hall.specs.Protected.{AreBefore, Backs, EachSequential, HadBackups, HasBackups, HasCopy, HoldTheirDatabases, HoldsIn, IsCovered, IsFiled, IsLaid, IsLeft, IsListedAs, IsNoVolume, IsOneOf, IsProtected, IsWritten, IsWrittenOn, KeepsAllBackups, KeepsBackups, StillLies, Taken, WasGiven, files_of, is_protected}
use Rattle.hall.proofs.BackedUp.{Lies, also_sequential, both_sequential, each_lies}
use Rattle.hall.proofs.Firm.{frames_firm}
use Rattle.hall.proofs.JoinedFreed.{contains_back}
use Rattle.hall.proofs.Protecting.{backed_keeps, backs_now, copy_carried}
use Rattle.vault.specs.Files.{IsOurs}
use Rattle.inventory_rows.specs.Fresh.{fresh}

-- ---- a backup looks at its own files

contained_first : (n : ℕ) (l : List ℕ) → Contains (n ∷ l) n
contained_first n l = (0, one_more, refl) where
  one_more : 0 < length (n ∷ l)
  one_more = omega arith

of_backup : (f g : ℕ → List ℕ) (file number : ℕ) (held : Payload Inv) → f file ≡ g file → IsBackup meaning f file number held → IsBackup meaning g file number held
of_backup f g file number held same b = record {
  payload = b.payload;
  possible = b.possible;
  image = subst (λ (bytes : List ℕ). HasImage file OfBackup bytes number b.payload) same b.image;
  holds = b.holds;
  numbered = b.numbered;
}

-- files that are the same of a backup give the same
pub gives_alike : (f g : ℕ → List ℕ) (file number : ℕ) (increments : List Increment) (v : Inv) → ((n : ℕ) → IsOneOf (files_of file increments) n → f n ≡ g n) → Gives meaning f file number increments v → Gives meaning g file number increments v
gives_alike f g file number [] v same b = of_backup f g file number _ (same file (contained_first file [])) b
gives_alike f g file number (i ∷ older) v same (b, below, (base, gives, makes)) = (
  of_backup f g file number _ (same file (contained_first file (i.after ∷ map (λ (i : Increment). i.after) older))) b,
  below,
  (
    base,
    gives_alike f g i.after i.number older base (λ n one. same n (contains_back (file ∷ []) (files_of i.after older) n one)) gives,
    makes,
  ),
)

-- the files of a list, and elsewhere what the store reads
abbrev overlay : List ℕ → (files rest : ℕ → List ℕ) → ℕ → List ℕ
overlay list files rest n = cond (list_any (λ k. k == n) list) (files n) (rest n)

overlay_in : (list : List ℕ) (files rest : ℕ → List ℕ) (n : ℕ) → Contains list n → overlay list files rest n ≡ files n
overlay_in list files rest n there = go (list_any (λ k. k == n) list) refl where
  here : (n == n) ≡ true
  here = grind arith

  go : (b : Bool) → list_any (λ k. k == n) list ≡ b → cond (list_any (λ k. k == n) list) (files n) (rest n) ≡ files n
  go true is = ap (λ b. cond b (files n) (rest n)) is
  go false isnt = absurd (true≢false (sym here ∙ contained_holds (λ k. (k == n) ≡ false) list n there (none_of (λ k. k == n) list isnt)))

one_of_them : (list : List ℕ) (n : ℕ) → list_any (λ k. k == n) list ≡ true → Contains list n
one_of_them [] n any = absurd (false≢true any)
one_of_them (k ∷ list) n any = elim (k == n) as (λ b. (k == n) ≡ b → (b || list_any (λ k. k == n) list) ≡ true → Contains (k ∷ list) n) [
  | true ↦ λ is _. subst (λ m. Contains (k ∷ list) m) (eqb-true k n is) (contained_first k list)
  | false ↦ λ _ rest. contains_back (k ∷ []) list n (one_of_them list n rest)
] refl any

overlay_left : (list : List ℕ) (files : ℕ → List ℕ) (h : History) → LeftNow (IsOneOf list) h files → (n : ℕ) → Leaves (standing h n) (overlay list files (reads h) n)
overlay_left list files h left n = go (list_any (λ k. k == n) list) refl where
  go : (b : Bool) → list_any (λ k. k == n) list ≡ b → Leaves (standing h n) (cond b (files n) (reads h n))
  go true is = left n (one_of_them list n is)
  go false isnt = leaves_reads h n

-- ---- what a backup gives is valid

makes_valid : (v w : Inv) (records : List (List ℕ)) → is_valid v ≡ true → Makes meaning v records w → is_valid w ≡ true
makes_valid v w [] valid same = ap is_valid same ∙ valid
makes_valid v w (bytes ∷ records) valid (e, spells, legal, makes) = makes_valid (meaning.after v e) w records (is_free no_journal e.change v legal).valid makes

pub gives_valid : (f : ℕ → List ℕ) (file number : ℕ) (increments : List Increment) (v : Inv) → Gives meaning f file number increments v → is_valid v ≡ true
gives_valid f file number [] v b = b.holds.1.0.valid
gives_valid f file number (i ∷ older) v (b, below, (base, gives, makes)) = makes_valid base v i.records (gives_valid f i.after i.number older base gives) makes

-- ---- when the hall is opened

module _ (base : Inv) (h : History) (had : HadBackups base (now h) h) (c : Core) (same_base : c.base ≡ base) (none_yet : inventory c ≡ base) (each_yet : (count : ℕ) → inv_at count c ≡ base) (nothing_written : (file : ℕ) → written file c ≡ written_before file base) where
  not_before : (b : Backup) → b.number < base.number → c.base.number ≤ b.number → ⊥
  not_before b before from = let same : c.base.number ≡ base.number = ap (λ (v : Inv). v.number) same_base in omega (arith, from, before, same)

  module _ (file : ℕ) (b : Backup) (w : WasGiven base (now h) h file b) where
    abbrev t : Taken
    t = w.backup

    is_good : is_valid t.database ≡ true
    is_good = gives_valid (reads h) file b.number t.increments t.database (w.gives (reads h) (image_reads h))

    laid : EachSequential (λ x r. AllByRecursion (IsLaid c) r.segments) t.database
    laid = both_sequential (λ x r. AllByRecursion (IsLeft base b r.pool) r.segments) (λ x r. AllByRecursion (Lies t.database r.pool) r.segments) (λ x r. AllByRecursion (IsLaid c) r.segments) t.database
        (λ x r left lies. each_both (IsLeft base b r.pool) (Lies t.database r.pool) (IsLaid c) r.segments (λ s a l. (l.from, inl (subst (λ (v : Inv). s.file < v.next_file) (sym same_base) a.0))) left lies) w.provided (each_lies t.database is_good)

    new_file : (n : ℕ) → row_at n base.stores.volumes ≡ None → IsNewFile c n
    new_file n absent = λ count. subst (λ (v : Inv). row_at n v.stores.volumes ≡ None) (sym (each_yet count)) absent

    one_written : (pool : ℕ) (s : Segment) → IsLeft base b pool s → IsWrittenOn c s
    one_written pool s (below, lies) = go (row_at s.file base.stores.volumes) refl lies where
      go : (o : Option Volume) → row_at s.file base.stores.volumes ≡ o → StillLies base b pool s o → IsWrittenOn c s
      go None at still = inr (new_file s.file at)
      go (Some x) at still =
          let within = still.within in
          let end : (written_before s.file base).floor ≡ x.end = ap (λ (o : Option Volume). option_map_or (λ volume. volume.end) o 0) at in
          inl (
            subst (λ q. IsWritten q s) (sym (nothing_written s.file)) (inl (omega (arith, within, end))),
            subst (λ (v : Inv). IfSome (row_at s.file v.stores.volumes) (λ y. is_sequential y.pool v.stores ≡ true)) (sym none_yet)
                (subst (λ o. IfSome o (λ (y : Volume). is_sequential y.pool base.stores ≡ true)) (sym at) (subst (λ (n : ℕ). is_sequential n base.stores ≡ true) (sym still.pool) still.sequential)),
          )

    covered : IsCovered h c base t
    covered = record {
      firm = firm_of (versions t.database) (λ image here. w.copies image here);
      laid = laid;
      written = λ watched. also_sequential (λ x r. AllByRecursion (IsLeft base b r.pool) r.segments) (λ x r. AllByRecursion (IsWrittenOn c) r.segments) t.database
          (λ x r all. each_also (IsLeft base b r.pool) (IsWrittenOn c) r.segments (one_written r.pool) all) w.provided;
    }
      where
        copies_of : (x : Version) (l : List CopyRow) → ((image : ℕ → List ℕ) → ImageAt h (now h) image → AllByRecursion (λ (r : CopyRow). is_sequential r.pool t.database.stores ≡ true → HasCopy (InImage image) (t.contents x.object) x r) l)
            → AllByRecursion (λ (r : CopyRow). is_sequential r.pool t.database.stores ≡ true → HasCopy (InStore h) (t.contents x.object) x r) l
        copies_of x [] each = tt
        copies_of x (r ∷ l) each = (
          λ sequential.
              let own = (each (reads h) (image_reads h)).0 sequential in
              record { size = own.size; digest = own.digest; frames = frames_firm h x.object 0 r.segments (t.contents x.object) (λ image here. ((each image here).0 sequential).frames) },
          copies_of x l (λ image here. (each image here).1),
        )

        firm_of : (l : List Version) → ((image : ℕ → List ℕ) → ImageAt h (now h) image → AllByRecursion (λ (x : Version). AllByRecursion (λ (r : CopyRow). is_sequential r.pool t.database.stores ≡ true → HasCopy (InImage image) (t.contents x.object) x r) x.copies) l)
            → AllByRecursion (λ (x : Version). AllByRecursion (λ (r : CopyRow). is_sequential r.pool t.database.stores ≡ true → HasCopy (InStore h) (t.contents x.object) x r) x.copies) l
        firm_of [] each = tt
        firm_of (x ∷ l) each = (copies_of x x.copies (λ image here. (each image here).0), firm_of l (λ image here. (each image here).1))

    listed : b.number < base.number → IsListedAs h c None base file b
    listed before = record {
      backup = t;
      readable = record {
        row = w.row;
        gives = λ files left.
            gives_alike (overlay (files_of file t.increments) files (reads h)) files file b.number t.increments t.database (λ n one. overlay_in (files_of file t.increments) files (reads h) n one)
            (w.gives (overlay (files_of file t.increments) files (reads h)) (image_now h (overlay (files_of file t.increments) files (reads h)) (overlay_left (files_of file t.increments) files h left)));
      };
      own = λ from. absurd (not_before b before from);
      files = each_also (IsNoVolume base) (IsFiled c) (files_of file t.increments)
          (λ n none. ((none.0, subst (λ (v : Inv). n < v.next_file) (sym none_yet) none.1, new_file n none.2), inl (subst (λ (v : Inv). n < v.next_file) (sym same_base) none.1))) w.files;
      none_here = w.files;
      smaller = w.smaller;
      provided = λ young. w.provided;
      covered = λ young. covered;
      aside = λ none. tt;
    }

  -- the base's backups are there
  pub backups_opened : HasBackups h c None base
  backups_opened file b at done which = listed file b (had.given file b (record { listed = at; done = done; young = young which })) (had.before file b at done) where
    young : (is_protected base.today b ≡ true) ⊎ (c.base.number ≤ b.number) → is_protected base.today b ≡ true
    young (inl is) = is
    young (inr late) = absurd (not_before b (had.before file b at done) late)

  -- and the hall keeps them
  pub opened_keeps : left_open c ≡ base ∷ [] → ((image : ℕ → List ℕ) → ImageAt h (now h) image → RecoversWithin meaning image base) → KeepsAllBackups c (now h) h None
  opened_keeps alone sound = record {
    always = λ moment image from to at v recovers.
        let same : moment ≡ now h = omega (arith, from, to) in
        let here : ImageAt h (now h) image = subst (λ m. ImageAt h m image) same at in
        subst (Backs image) (one_database meaning is_meaning image base v (within_recovers meaning image base (sound image here)) recovers) (backs_now h c None base image had.before backups_opened here);
    before = subst (AllByRecursion AreBefore) (sym alone) (had.before, tt);
    now = subst (AllByRecursion (HasBackups h c None)) (sym alone) (backups_opened, tt);
    writes = tt;
  }

-- ---- when it is opened again

-- a store of which each image has in the files from 4 on what a stop might have left of a hall, has the backups of a database that the stop may bring back
pub had_after : (h new : History) (c : Core) (job : Option Job) (v : Inv) → HasBackups h c job v → AreBefore v → ((image : ℕ → List ℕ) → ImageAt new (now new) image → (n : ℕ) → 4 ≤ n → Leaves (standing h n) (image n)) → HadBackups v (now new) new
had_after h new c job v has before left = record {
  before = before;
  given = λ file b p. of_one file b p (has file b p.listed p.done (inl p.young));
}
  where
    of_one : (file : ℕ) (b : Backup) → IsProtected v file b → IsListedAs h c job v file b → WasGiven v (now new) new file b
    of_one file b p l =
        let t : Taken = l.backup in
        record {
          backup = t;
          row = l.readable.row;
          files = l.none_here;
          smaller = l.smaller;
          provided = l.provided p.young;
          gives = λ image at. l.readable.gives image (λ n one. left image at n (contained_holds (IsNoVolume v) (files_of file t.increments) n one l.none_here).0);
          copies = λ image at.
              both_sequential (λ w r. AllByRecursion (IsLaid c) r.segments) (λ w r. HasCopy (InStore h) (t.contents w.object) w r) (λ w r. HasCopy (InImage image) (t.contents w.object) w r) t.database
              (λ w r laid has. copy_carried (InStore h) (InImage image) (t.contents w.object) w r
              (each_also (IsLaid c) (Carries (InStore h) (InImage image)) r.segments (λ s is piece long f. leaves_firm (standing h s.file) (image s.file) s.offset piece (left image at s.file is.0) f) laid) has)
              (l.covered p.young).laid (l.covered p.young).firm;
        }

-- so it has those of each database that the stop may bring back
pub had_left : (h new : History) (c : Core) (opened : ℕ) (job : Option Job) (v : Inv) → KeepsAllBackups c opened h job → Contains (left_open c) v
    → ((image : ℕ → List ℕ) → ImageAt new (now new) image → (n : ℕ) → 4 ≤ n → Leaves (standing h n) (image n)) → HadBackups v (now new) new
had_left h new c opened job v k there left = had_after h new c job v (contained_holds (HasBackups h c job) (left_open c) v there k.now) (contained_holds AreBefore (left_open c) v there k.before) left

-- ---- a stop right now

-- each image that it may leave keeps the backups of each database that it may bring back
pub images_keep : (h : History) (c : Core) (opened : ℕ) (job : Option Job) (image : ℕ → List ℕ) → KeepsAllBackups c opened h job → ImageAt h (now h) image → AllByRecursion (KeepsBackups image) (left_open c)
images_keep h c opened job image k here =
    each_both AreBefore (HasBackups h c job) (KeepsBackups image) (left_open c) (λ v before has. backed_keeps image v (backs_now h c job v image before has here)) k.before k.now

-- and holds the databases of their backups that began in the run
pub images_hold_theirs : (h : History) (c : Core) (opened : ℕ) (job : Option Job) (image : ℕ → List ℕ) → KeepsAllBackups c opened h job → ImageAt h (now h) image → AllByRecursion (HoldTheirDatabases image c.base c.journal) (left_open c)
images_hold_theirs h c opened job image k here =
    each_also (HasBackups h c job) (HoldTheirDatabases image c.base c.journal) (left_open c) (λ v has file b at done own. of_one v file b own (has file b at done (inr own))) k.now
  where
    of_one : (v : Inv) (file : ℕ) (b : Backup) → c.base.number ≤ b.number → IsListedAs h c job v file b → HoldsIn image file b (inv_at (b.number - c.base.number) c)
    of_one v file b own l =
        let same : l.backup.database ≡ inv_at (b.number - c.base.number) c = l.own own in
        record {
          number = ap (λ (d : Inv). d.number) (sym same) ∙ l.readable.row.number;
          taken = ap (λ (d : Inv). d.today) (sym same) ∙ l.readable.row.taken;
          increments = l.backup.increments;
          gives = subst (λ (d : Inv). Gives meaning image file b.number l.backup.increments d) same (l.readable.gives image (λ n one. now_image h image here n));
        }

-- ---- while it is opened

-- the files from 4 on, and elsewhere what the store reads
abbrev above : (files rest : ℕ → List ℕ) → ℕ → List ℕ
above files rest n = cond (nat_le 4 n) (files n) (rest n)

above_same : (files rest : ℕ → List ℕ) (n : ℕ) → 4 ≤ n → above files rest n ≡ files n
above_same files rest n from = ap (λ b. cond b (files n) (rest n)) (le-leb 4 n from)

above_left : (h new : History) (image : ℕ → List ℕ) → GoesOn IsOurs h new → ImageAt new (now new) image → (n : ℕ) → Leaves (standing h n) (above image (reads h) n)
above_left h new image goes at n = go (nat_le 4 n) refl where
  go : (b : Bool) → nat_le 4 n ≡ b → Leaves (standing h n) (cond b (image n) (reads h n))
  go true is = let from : 4 ≤ n = leb-true 4 n is in subst (λ s. Leaves s (image n)) (goes_standing IsOurs h new n (λ ours. omega (arith, ours, from)) goes) (now_image new image at n)
  go false isnt = leaves_reads h n

-- calls on the vault's files leave a store the backups that it had
pub had_since : (base : Inv) (h new : History) → GoesOn IsOurs h new → HadBackups base (now h) h → HadBackups base (now new) new
had_since base h new goes had = record { before = had.before; given = λ file b p. of_one file b (had.given file b p) } where
  of_one : (file : ℕ) (b : Backup) → WasGiven base (now h) h file b → WasGiven base (now new) new file b
  of_one file b w =
      let t : Taken = w.backup in
      let valid : is_valid t.database ≡ true = gives_valid (reads h) file b.number t.increments t.database (w.gives (reads h) (image_reads h)) in
      record {
        backup = t;
        row = w.row;
        files = w.files;
        smaller = w.smaller;
        provided = w.provided;
        gives = λ image at.
            gives_alike (above image (reads h)) image file b.number t.increments t.database (λ n one. above_same image (reads h) n (contained_holds (IsNoVolume base) (files_of file t.increments) n one w.files).0)
            (w.gives (above image (reads h)) (image_now h (above image (reads h)) (above_left h new image goes at)));
        copies = λ image at.
            both_sequential (λ x r. AllByRecursion (Lies t.database r.pool) r.segments) (λ x r. HasCopy (InImage (above image (reads h))) (t.contents x.object) x r) (λ x r. HasCopy (InImage image) (t.contents x.object) x r) t.database
            (λ x r lies has. copy_carried (InImage (above image (reads h))) (InImage image) (t.contents x.object) x r
            (each_also (Lies t.database r.pool) (Carries (InImage (above image (reads h))) (InImage image)) r.segments
            (λ s l piece long f. subst (λ (bytes : List ℕ). Stands bytes s.offset piece) (above_same image (reads h) s.file l.from) f) lies) has)
            (each_lies t.database valid) (w.copies (above image (reads h)) (image_now h (above image (reads h)) (above_left h new image goes at)));
      }

-- a new server's database lists none
pub had_fresh : (h : History) → HadBackups fresh (now h) h
had_fresh h = record { before = λ file b at done. absurd (none_some at); given = λ file b p. absurd (none_some p.listed) } where
  none_some : {A : Type 0} {a : A} → None ≡ Some a → ⊥
  none_some e = absurd cc
