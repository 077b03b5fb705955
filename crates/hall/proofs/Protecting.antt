-- What no stop takes from a hall of the backups that its databases list, and what calls leave of it that spare their files and the segments that they need.
use Rattle.std.proofs.Common.{◌≡◌, ◌⊎◌, inl, inr, ℕ, ◌+◌, ◌<◌, ◌≤◌, true, List, [], ◌∷◌, ◌++◌, length, map, Option, None, Some, sym, subst, ◌∙◌, arith}
use Rattle.std.proofs.lemmas.Bool.{cases_lt}
use Rattle.std.specs.Prelude.{IfSome}
use Rattle.std.specs.List.{AllByRecursion, Contains}
use Rattle.store_api.specs.Disk.{History, ImageAt, Leaves, now, standing}
use Rattle.store_api.specs.Runs.{EachImage, GoesOn, IsOutside, WroteWithin}
use Rattle.store_api.proofs.Pieces.{firm_beside, firm_since}
use Rattle.store_api.proofs.Runs.{goes_image_before, goes_images, goes_standing, goes_weaker, now_image}
use Rattle.store_api.proofs.Standings.{leaves_firm}
use Rattle.kinds.specs.declared.segment.Segment.{Segment}
use Rattle.contents.specs.Contents.{InImage, InStore}
use Rattle.contents.proofs.Segments.{Carries, frames_carried}
use Rattle.backup_payloads.specs.Increments.{Increment}
use Rattle.db_image.specs.Steps.{Job}
use Rattle.inventory.specs.Meant.{meaning}
use Rattle.inventory_rows.specs.declared.backup.Backup.{Backup}
use Rattle.inventory_rows.specs.version_groups.declared.copies.CopyRow.{CopyRow}
use Rattle.inventory_rows.specs.version_groups.declared.versions.Version.{Version}
use Rattle.inventory_rows.specs.State.{Inv}
use Rattle.inventory_laws.proofs.Lists.{each_also, each_any}
use Rattle.inventory_laws.proofs.Origins.{contained_holds}
use Rattle.inventory_rules.specs.Backups.{backup_at}
use Rattle.vault.specs.Recovery.{Recovers}
use Rattle.machine.specs.State.{Core}
use Rattle.hall.specs.Covered.{left_open}
use Rattle.hall.specs.Protected.{AlwaysBacked, EachSequential, GivesBack, HasBackups, HasCopy, IsCovered, IsListedAs, IsProvided, IsReadable, IsRow, IsWriting, KeepsAllBackups, KeepsBackups, LeadsTo, Taken, WritesBackup, files_of, is_protected, AreBefore, Backs, IsNoVolume, IsProtected}
use Rattle.hall.proofs.BackedUp.{also_sequential, both_sequential}

-- a copy is carried from one place to another where each of its segments is
pub copy_carried : (P Q : ℕ → ℕ → List ℕ → Type 0) (bytes : List ℕ) (w : Version) (r : CopyRow) → AllByRecursion (Carries P Q) r.segments → HasCopy P bytes w r → HasCopy Q bytes w r
copy_carried P Q bytes w r each has = record { size = has.size; digest = has.digest; frames = frames_carried P Q w.object 0 r.segments bytes each has.frames }

-- ---- a run that spares files and segments

-- The files of `mine` stay as they are, also in each image since; and what is firm of a segment that `Safe` names is firm, and stands in each image since.
pub record Spares (mine : ℕ → Type 0) (Safe : Segment → Type 0) (h new : History) : Type 0 where
  pub goes : GoesOn (λ n. mine n → ⊥) h new
  pub same : (n : ℕ) → mine n → standing new n ≡ standing h n
  pub left : (n : ℕ) → mine n → EachImage (now h) new (λ image. Leaves (standing h n) (image n))
  pub firm : (s : Segment) → Safe s → Carries (InStore h) (InStore new) s
  pub since : (s : Segment) → Safe s → EachImage (now h) new (λ image. Carries (InStore h) (InImage image) s)

-- calls on other files
pub spares_others : (theirs mine : ℕ → Type 0) (Safe : Segment → Type 0) (h new : History) → ((n : ℕ) → mine n → theirs n → ⊥) → ((s : Segment) → Safe s → theirs s.file → ⊥) → GoesOn theirs h new → Spares mine Safe h new
spares_others theirs mine Safe h new apart aside goes = record {
  goes = goes_weaker theirs (λ n. mine n → ⊥) h new (λ n there own. apart n own there) goes;
  same = λ n own. goes_standing theirs h new n (apart n own) goes;
  left = λ n own. goes_images theirs h new n (apart n own) goes;
  firm = λ s safe piece long f. firm_beside theirs h new s.file s.offset piece (aside s safe) goes f;
  since = λ s safe moment image from to at piece long f. firm_since theirs h new s.file s.offset piece (aside s safe) goes f moment image from to at;
}

-- one write within a range of a file that is none of `mine`, where each safe segment is in another file or lies beside the range
pub spares_range : (mine : ℕ → Type 0) (Safe : Segment → Type 0) (file at len : ℕ) (h new : History) → (mine file → ⊥)
    → ((s : Segment) → Safe s → (s.file ≡ file → ⊥) ⊎ ((s.file ≡ file) × ((piece : List ℕ) → length piece ≡ 32 + s.len → IsOutside at len s.offset piece))) → WroteWithin file at len h new → Spares mine Safe h new
spares_range mine Safe file at len h new other beside wrote = record {
  goes = goes_weaker (λ n. n ≡ file) (λ n. mine n → ⊥) h new (λ n same own. other (subst mine same own)) wrote.goes;
  same = λ n own. goes_standing (λ n. n ≡ file) h new n (λ same. other (subst mine same own)) wrote.goes;
  left = λ n own. goes_images (λ n. n ≡ file) h new n (λ same. other (subst mine same own)) wrote.goes;
  firm = λ s safe. firm_of s (beside s safe);
  since = λ s safe. since_of s (beside s safe);
}
  where
    firm_of : (s : Segment) → (s.file ≡ file → ⊥) ⊎ ((s.file ≡ file) × ((piece : List ℕ) → length piece ≡ 32 + s.len → IsOutside at len s.offset piece)) → Carries (InStore h) (InStore new) s
    firm_of s (inl apart) = λ piece long f. firm_beside (λ n. n ≡ file) h new s.file s.offset piece apart wrote.goes f
    firm_of s (inr (same, out)) = λ piece long f. subst (λ n. InStore new n s.offset piece) (sym same) (wrote.firm s.offset piece (out piece long) (subst (λ n. InStore h n s.offset piece) same f))

    since_of : (s : Segment) → (s.file ≡ file → ⊥) ⊎ ((s.file ≡ file) × ((piece : List ℕ) → length piece ≡ 32 + s.len → IsOutside at len s.offset piece))
        → EachImage (now h) new (λ image. Carries (InStore h) (InImage image) s)
    since_of s (inl apart) = λ moment image from to there piece long f. firm_since (λ n. n ≡ file) h new s.file s.offset piece apart wrote.goes f moment image from to there
    since_of s (inr (same, out)) = λ moment image from to there piece long f.
        subst (λ n. InImage image n s.offset piece) (sym same) (wrote.since s.offset piece (out piece long) (subst (λ n. InStore h n s.offset piece) same f) moment image from to there)

-- ---- what it leaves of a backup

-- the files of the backup are among those that are spared, and the segments that its copies need
pub record IsSpared (mine : ℕ → Type 0) (Safe : Segment → Type 0) (young : Type 0) (file : ℕ) (t : Taken) : Type 0 where
  pub files : AllByRecursion mine (files_of file t.increments)
  pub segments : young → EachSequential (λ w r. AllByRecursion Safe r.segments) t.database

module _ (mine : ℕ → Type 0) (Safe : Segment → Type 0) (h new : History) (spares : Spares mine Safe h new) where
  pub readable_over : (file : ℕ) (b : Backup) (t : Taken) → AllByRecursion mine (files_of file t.increments) → IsReadable h file b t → IsReadable new file b t
  readable_over file b t own r = record {
    row = r.row;
    gives = λ files left. r.gives files (λ n one. subst (λ s. Leaves s (files n)) (spares.same n (contained_holds mine (files_of file t.increments) n one own)) (left n one));
  }

  pub covered_over : (c : Core) (v : Inv) (t : Taken) → EachSequential (λ w r. AllByRecursion Safe r.segments) t.database → IsCovered h c v t → IsCovered new c v t
  covered_over c v t safe k = record {
    firm = both_sequential (λ w r. AllByRecursion Safe r.segments) (λ w r. HasCopy (InStore h) (t.contents w.object) w r) (λ w r. HasCopy (InStore new) (t.contents w.object) w r) t.database
        (λ w r each has. copy_carried (InStore h) (InStore new) (t.contents w.object) w r (each_also Safe (Carries (InStore h) (InStore new)) r.segments (λ s one. spares.firm s one) each) has) safe k.firm;
    laid = k.laid;
    written = k.written;
  }

  pub listed_over : (c : Core) (job : Option Job) (v : Inv) (file : ℕ) (b : Backup) (l : IsListedAs h c job v file b) → IsSpared mine Safe (is_protected v.today b ≡ true) file l.backup → IsListedAs new c job v file b
  listed_over c job v file b l s = record {
    backup = l.backup;
    readable = readable_over file b l.backup s.files l.readable;
    own = l.own;
    files = l.files;
    none_here = l.none_here;
    smaller = l.smaller;
    provided = l.provided;
    covered = λ young. covered_over c v l.backup (s.segments young) (l.covered young);
    aside = l.aside;
  }

  -- each image since gives it back
  pub gives_back_since : (c : Core) (job : Option Job) (v : Inv) (file : ℕ) (b : Backup) (l : IsListedAs h c job v file b) → is_protected v.today b ≡ true → IsSpared mine Safe (is_protected v.today b ≡ true) file l.backup
      → EachImage (now h) new (λ image. GivesBack image file b l.backup)
  gives_back_since c job v file b l young s = λ moment image from to at. record {
    gives = l.readable.gives image (λ n one. spares.left n (contained_holds mine (files_of file l.backup.increments) n one s.files) moment image from to at);
    row = l.readable.row;
    copies = both_sequential (λ w r. AllByRecursion Safe r.segments) (λ w r. HasCopy (InStore h) (l.backup.contents w.object) w r) (λ w r. HasCopy (InImage image) (l.backup.contents w.object) w r) l.backup.database
        (λ w r each has. copy_carried (InStore h) (InImage image) (l.backup.contents w.object) w r (each_also Safe (Carries (InStore h) (InImage image)) r.segments (λ q one. spares.since q one moment image from to at) each) has)
        (s.segments young) (l.covered young).firm;
  }

  -- the backups of a database are there as before, and each image since keeps them
  pub backups_over : (c : Core) (job : Option Job) (v : Inv) → ((file : ℕ) (b : Backup) (l : IsListedAs h c job v file b) → IsSpared mine Safe (is_protected v.today b ≡ true) file l.backup) → HasBackups h c job v → HasBackups new c job v
  backups_over c job v spared has = λ file b at done which. let l = has file b at done which in listed_over c job v file b l (spared file b l)

  pub backs_since : (c : Core) (job : Option Job) (v : Inv) → ((file : ℕ) (b : Backup) (l : IsListedAs h c job v file b) → IsSpared mine Safe (is_protected v.today b ≡ true) file l.backup) → AreBefore v → HasBackups h c job v
      → EachImage (now h) new (λ image. Backs image v)
  backs_since c job v spared before has = λ moment image from to at. record {
    before = before;
    each = λ file b p.
        let l = has file b p.listed p.done (inl p.young) in
        (l.backup, gives_back_since c job v file b l p.young (spared file b l) moment image from to at, l.none_here, l.smaller, l.provided p.young);
  }

-- ---- what it leaves of a backup that is written

module _ (mine : ℕ → Type 0) (Safe : Segment → Type 0) (h new : History) (spares : Spares mine Safe h new) where
  leads_over : (file : ℕ) (increments : List Increment) (v : Inv) → AllByRecursion mine (map (λ i. i.after) increments) → LeadsTo h file increments v → LeadsTo new file increments v
  leads_over file [] v own leads = tt
  leads_over file (i ∷ older) v own (below, (base, gives, makes)) = (
    below,
    (
      base,
      λ files left. gives files (λ n one. subst (λ s. Leaves s (files n)) (spares.same n (contained_holds mine (files_of i.after older) n one own)) (left n one)),
      makes,
    ),
  )

  -- it is written as before, where the files of those that it follows are spared, and the segments that it needs
  pub writing_over : (c : Core) (job : Job) (t : Taken) → AllByRecursion mine (map (λ i. i.after) t.increments) → ((v : Inv) → IsCovered h c v t → EachSequential (λ w r. AllByRecursion Safe r.segments) t.database) → IsWriting h c job t → IsWriting new c job t
  writing_over c job t own safe w = record {
    number = w.number;
    small = w.small;
    possible = w.possible;
    holds = w.holds;
    own = w.own;
    leads = leads_over job.file t.increments t.database own w.leads;
    never = w.never;
    files = w.files;
    smaller = w.smaller;
    listed = each_also (λ v. IfSome (backup_at job.file v) (λ b. IsRow b t × (is_protected v.today b ≡ true → IsProvided v b t × IsCovered h c v t)))
        (λ v. IfSome (backup_at job.file v) (λ b. IsRow b t × (is_protected v.today b ≡ true → IsProvided v b t × IsCovered new c v t))) (left_open c) (λ v l. one v (backup_at job.file v) l) w.listed;
    aside = w.aside;
  }
    where
      one : (v : Inv) (o : Option Backup) → IfSome o (λ b. IsRow b t × (is_protected v.today b ≡ true → IsProvided v b t × IsCovered h c v t)) → IfSome o (λ b. IsRow b t × (is_protected v.today b ≡ true → IsProvided v b t × IsCovered new c v t))
      one v None l = tt
      one v (Some b) l = (l.0, λ young. let p = l.1 young in (p.0, covered_over mine Safe h new spares c v t (safe v p.1) p.1))

-- ---- an image of now

-- each image that a stop right now may leave backs each database that has its backups
pub backs_now : (h : History) (c : Core) (job : Option Job) (v : Inv) (image : ℕ → List ℕ) → AreBefore v → HasBackups h c job v → ImageAt h (now h) image → Backs image v
backs_now h c job v image before has here = record { before = before; each = λ file b protected. of_one file b protected (has file b protected.listed protected.done (inl protected.young)) } where
  of_one : (file : ℕ) (b : Backup) → IsProtected v file b → IsListedAs h c job v file b
      → (t : Taken) × GivesBack image file b t × AllByRecursion (IsNoVolume v) (files_of file t.increments) × AllByRecursion (λ i. i.after < file) t.increments × IsProvided v b t
  of_one file b protected l =
      let t : Taken = l.backup in (
        t,
        record {
          gives = l.readable.gives image (λ n one. now_image h image here n);
          row = l.readable.row;
          copies =
              also_sequential (λ w r. HasCopy (InStore h) (t.contents w.object) w r) (λ w r. HasCopy (InImage image) (t.contents w.object) w r) t.database
              (λ w r has. copy_carried (InStore h) (InImage image) (t.contents w.object) w r
              (each_any (Carries (InStore h) (InImage image)) r.segments (λ s piece long f. leaves_firm (standing h s.file) (image s.file) s.offset piece (now_image h image here s.file) f)) has)
              (l.covered protected.young).firm;
        },
        l.none_here,
        l.smaller,
        l.provided protected.young,
      )

-- so it keeps them
pub backed_keeps : (image : ℕ → List ℕ) (v : Inv) → Backs image v → KeepsBackups image v
backed_keeps image v backs = λ file b protected. let t = backs.each file b protected in (t.0, t.1)

-- ---- at every moment

-- where each image since backs its own database, each image at every moment does
pub always_since : (mine : ℕ → Type 0) (opened : ℕ) (h new : History) → GoesOn mine h new → AlwaysBacked opened h → EachImage (now h) new (λ image. (v : Inv) → Recovers meaning image v → Backs image v) → AlwaysBacked opened new
always_since mine opened h new goes before since moment image from to at =
    elim (cases_lt moment (now h)) as (λ _. (v : Inv) → Recovers meaning image v → Backs image v) [
      | inl early ↦ before moment image from (omega (arith, early)) (goes_image_before mine h new moment image goes (omega (arith, early)) at)
      | inr late ↦ since moment image late to at
    ]

-- ---- all that a hall keeps

-- over a run that spares the files of all backups that are listed, and the segments that they need, where each image since recovers to a database that a stop may bring back
module _ (mine : ℕ → Type 0) (Safe : Segment → Type 0) (h new : History) (spares : Spares mine Safe h new) (c : Core) (opened : ℕ) where
  -- what is written is spared
  abbrev pub IsSparedWriting : Option Job → Type 0
  IsSparedWriting None = Unit {0}
  IsSparedWriting (Some job) = (t : Taken) → IsWriting h c job t → AllByRecursion mine (map (λ i. i.after) t.increments) × ((v : Inv) → IsCovered h c v t → EachSequential (λ w r. AllByRecursion Safe r.segments) t.database)

  pub writes_over : (job : Option Job) → IsSparedWriting job → WritesBackup h c job → WritesBackup new c job
  writes_over None spared w = tt
  writes_over (Some job) spared w = λ none. let t = w none in let s = spared t.0 t.1 in (t.0, writing_over mine Safe h new spares c job t.0 s.0 s.1 t.1)

  pub keeps_over : (job : Option Job) → ((v : Inv) (file : ℕ) (b : Backup) (l : IsListedAs h c job v file b) → IsSpared mine Safe (is_protected v.today b ≡ true) file l.backup) → IsSparedWriting job
      → EachImage (now h) new (λ image. (v : Inv) → Recovers meaning image v → Contains (left_open c) v) → KeepsAllBackups c opened h job → KeepsAllBackups c opened new job
  keeps_over job spared writing gives k = record {
    always = always_since (λ n. mine n → ⊥) opened h new spares.goes k.always
        (λ moment image from to at v recovers.
        let there = gives moment image from to at v recovers in
        backs_since mine Safe h new spares c job v (spared v) (contained_holds AreBefore (left_open c) v there k.before) (contained_holds (HasBackups h c job) (left_open c) v there k.now) moment image from to at);
    before = k.before;
    now = each_also (HasBackups h c job) (HasBackups new c job) (left_open c) (λ v has. backups_over mine Safe h new spares c job v (spared v) has) k.now;
    writes = writes_over job writing k.writes;
  }
