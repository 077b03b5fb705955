-- Transactions that joined a history by an actor's steps, and which they are.
use Rattle.std.proofs.Common.{◌≡◌, if◌then◌else◌, inl, inr, ℕ, ◌-◌, ◌==◌, Bool, true, false, List, [], ◌∷◌, ◌++◌, map, Option, None, Some, Result, Ok, refl, sym, ap, subst, ◌∙◌}
use Rattle.std.proofs.lemmas.Bool.{eqb-true}
use Rattle.std.proofs.lemmas.Option.{same_Some}
use Rattle.std.specs.List.{AllByRecursion, slice_get}
use Rattle.kinds.specs.declared.change.DefineOrDelete.TheVariants as two
use Rattle.kinds.specs.declared.change.ObjectChange.TheVariants as client
use Rattle.kinds.specs.declared.change.PoolChange.TheVariants as store
use Rattle.kinds.specs.declared.change.Verb.TheVariants as verb
use Rattle.kinds.specs.declared.pool.Access.TheVariants.{Destroyed}
use Rattle.kinds.specs.declared.refusal.Refusal.{Refusal}
use Rattle.entries.specs.change_items.declared.reasons.DiscardReason.{DiscardReason}
use Rattle.entries.specs.change_items.declared.reasons.DiscardReason.TheVariants as because
use Rattle.entries.specs.change_items.declared.reasons.DropReason.TheVariants as since
use Rattle.entries.specs.declared.change.Change.{Change}
use Rattle.entries.specs.declared.change.Change.TheVariants as change
use Rattle.inventory_rows.specs.State.{Inv}
use Rattle.inventory_answers.specs.declared.lines.VolumeLine.{VolumeLine}
use Rattle.line_results.proofs.of_copy_attempts.Facts.{all-append, made-append}
use Rattle.line_results.specs.copy_pools.Backups.{IsEnteredIn as IsFurther}
use Rattle.line_results.specs.copy_runs.Ends.{IsEnding}
use Rattle.line_results.specs.db_backup.Backups.{IsFollowing}
use Rattle.line_results.specs.db_backup.Deleting.{IsDeleting}
use Rattle.line_results.specs.db_backup.Taking.{IsOf as IsOfImage, kind_of}
use Rattle.line_results.specs.deletions.Discarding.{IsDiscarding, discarded}
use Rattle.line_results.specs.deletions.Dropping.{IsTaking, dropped}
use Rattle.line_results.specs.deletions.Filespaces as filespaces
use Rattle.line_results.specs.deletions.Volumes as volumes
use Rattle.line_results.specs.expiration.Expiring.{IsExpiring, named}
use Rattle.line_results.specs.migration.Migrating.{IsEnteredIn as IsMigrated}
use Rattle.line_results.specs.migration.Sweeping.{IsEnteredAny}
use Rattle.line_results.specs.pool_restores.Listing.{destroying, destroying_found, volume_with}
use Rattle.line_results.specs.pool_restores.Restoring.{IsEnteredSo}
use Rattle.line_results.specs.pool_restores.Volumes.{IsEnteredOr}
use Rattle.line_results.specs.reclamation.Moving.{IsEnteredOff}
use Rattle.line_results.specs.reuse_delay.Reusing.{IsReusing}
use Rattle.line_results.specs.volume_audits.Auditing.{IsAuditing}
use Rattle.line_results.specs.volume_audits.Mending.{IsMending}
use Rattle.steps.specs.declared.asked.Asked.{Asked}
use Rattle.steps.specs.declared.asked.Asked.TheVariants.{Plain}
use Rattle.steps.specs.declared.image.ImageKind.TheVariants as image
use Rattle.steps.specs.Events.{Deed, Event, event}
use Rattle.steps.specs.Events.Deed.{Ask, Commit, Force, Image, Reuse}
use Rattle.steps.specs.Receipts.{is_made, made}
use Rattle.machine.specs.Changes.{change_of, filled}
use Rattle.machine.specs.Fits.{Fits, History, IsMadeOf, JoinsAt, Own as Holding, Step, inv, sight_at}
use Rattle.machine.specs.State.{Sight}
use Rattle.line_results.specs.command_steps.Behind.{reuses}
use Rattle.line_results.specs.command_steps.Doing.{the_number, the_second}
use Rattle.line_results.specs.command_steps.Owns.{all_migrator, audit_volume, back_up_database, back_up_pool, back_up_since, data_mover, delete_history, empty_filespace, empty_volume, expire, migrator, moves, pool_restorer, reclaimer, volume_restorer}
use Rattle.line_results.specs.Commands.{IsLoss, IsReuse, MayMake}
use Rattle.block_results.specs.Standing.{IsEntered}

-- ---- lists

pub all-made : (R : Event → Type 0) (events : List Event) → AllByRecursion R events → AllByRecursion R (made events)
all-made R [] h = tt
all-made R (e ∷ events) h = elim (is_made e.deed) as (λ t. AllByRecursion R (if t then e ∷ made events else made events)) [
  | true ↦ (h.0, all-made R events h.1)
  | false ↦ all-made R events h.1
]

pub all-so : (P Q : Event → Type 0) → ((e : Event) → P e → Q e) → (events : List Event) → AllByRecursion P events → AllByRecursion Q events
all-so P Q so [] h = tt
all-so P Q so (e ∷ events) h = (so e h.0, all-so P Q so events h.1)

-- none of these steps makes a transaction
pub none-made : (events : List Event) → AllByRecursion (λ e. is_made e.deed ≡ false) events → made events ≡ []
none-made [] h = refl
none-made (e ∷ events) h = ap (λ (b : Bool). if b then e ∷ made events else made events) h.0 ∙ none-made events h.1

module _ (w : History) (actor : ℕ) (P : ℕ → Change → Type 0) where
  -- what may join by the step, whatever tickets its actor has, is such a one
  abbrev pub Makes : ℕ → Deed → Type 0
  Makes n (Commit asked numbers answer) = (s : Sight) → s.inventory ≡ inv w n → (c : Change) → change_of asked numbers s ≡ Some c → P n c
  Makes n (Reuse file answer) = P n (change.Reuse file)
  Makes n d = Unit {0}

  committed-as : (a b : Holding) (n : ℕ) (asked : Asked) (numbers : List ℕ) (number : ℕ) (s : Step w actor a (event n (Commit asked numbers (Ok number))) b) → Makes n (Commit asked numbers (Ok number)) → (joined : Option Change) → s.joined ≡ joined
      → IsEntered w actor P (event n (Commit asked numbers (Ok number)))
  committed-as a b n asked numbers number s makes None is = absurd (subst (λ (o : Option Change). IsMadeOf asked numbers (sight_at w a n s.next_file) o) is s.joins)
  committed-as a b n asked numbers number s makes (Some c) is =
      let made : change_of asked numbers (sight_at w a n s.next_file) ≡ Some c = subst (λ (o : Option Change). IsMadeOf asked numbers (sight_at w a n s.next_file) o) is s.joins in
      let at : slice_get w.journal (n - w.base.number) ≡ Some (record { actor = actor; change = c }) = subst (λ (o : Option Change). JoinsAt w actor n o) is s.joins_at in
      (c, at, makes (sight_at w a n s.next_file) refl c made)

  reused-as : (a b : Holding) (n file number : ℕ) (s : Step w actor a (event n (Reuse file (Ok number))) b) → P n (change.Reuse file) → IsEntered w actor P (event n (Reuse file (Ok number)))
  reused-as a b n file number s makes = (change.Reuse file, subst (λ (o : Option Change). JoinsAt w actor n o) s.joins s.joins_at, makes)

  entered-step : (a b : Holding) (n : ℕ) (d : Deed) → Makes n d → Step w actor a (event n d) b → is_made d ≡ true → IsEntered w actor P (event n d)
  entered-step a b n (Commit asked numbers (Ok number)) makes s is = committed-as a b n asked numbers number s makes s.joined refl
  entered-step a b n (Reuse file (Ok number)) makes s is = reused-as a b n file number s makes
  entered-step a b n d makes s is = absurd cc

  pub made-entered : (R : Event → Type 0) → ((a b : Holding) (e : Event) → R e → Step w actor a e b → is_made e.deed ≡ true → IsEntered w actor P e) → (events : List Event) (a b : Holding) → AllByRecursion R (made events)
      → Fits w actor a events b → AllByRecursion (IsEntered w actor P) (made events)
  unfolding Fits
  made-entered R each [] a b all f = tt
  made-entered R each (e ∷ events) a b all f =
      elim (is_made e.deed) as (λ t. is_made e.deed ≡ t → AllByRecursion R (if t then e ∷ made events else made events) → AllByRecursion (IsEntered w actor P) (if t then e ∷ made events else made events)) [
        | true ↦ λ is all. (each a f.0 e all.0 f.1 is, made-entered R each events f.0 b all.1 f.2)
        | false ↦ λ is all. made-entered R each events f.0 b all f.2
      ] refl all

  pub entered-all : (events : List Event) (a b : Holding) → AllByRecursion (λ e. Makes e.n e.deed) events → Fits w actor a events b → AllByRecursion (IsEntered w actor P) (made events)
  entered-all events a b all f = made-entered (λ e. Makes e.n e.deed) (λ x y e makes s is. entered-step x y e.n e.deed makes s is) events a b (all-made (λ e. Makes e.n e.deed) events all) f

  pub entered-append : (events xs ys : List Event) → events ≡ xs ++ ys → AllByRecursion (IsEntered w actor P) (made xs) → AllByRecursion (IsEntered w actor P) (made ys) → AllByRecursion (IsEntered w actor P) (made events)
  entered-append events xs ys cut h k = subst (λ (es : List Event). AllByRecursion (IsEntered w actor P) es) (sym (ap made cut ∙ made-append xs ys)) (all-append (IsEntered w actor P) (made xs) (made ys) h k)

  pub entered-none : (events : List Event) → made events ≡ [] → AllByRecursion (IsEntered w actor P) (made events)
  entered-none events none = subst (λ (es : List Event). AllByRecursion (IsEntered w actor P) es) (sym none) tt

pub entered-so : (w : History) (actor : ℕ) (P Q : ℕ → Change → Type 0) → ((n : ℕ) (c : Change) → P n c → Q n c) → (events : List Event) → AllByRecursion (IsEntered w actor P) events → AllByRecursion (IsEntered w actor Q) events
entered-so w actor P Q so events h = all-so (IsEntered w actor P) (IsEntered w actor Q) (λ e x. (x.0, x.1, so e.n x.0 x.2)) events h

-- ---- deeds of processes

module _ (w : History) (actor : ℕ) where
  abbrev pub Joins : (Change → Type 0) → ℕ → Deed → Type 0
  Joins P n d = Makes w actor (λ m c. P c) n d

  pub plain-joins : (P : Change → Type 0) (n : ℕ) (d : Deed) (c : Change) (answer : Result ℕ Refusal) → ((next_file : ℕ) (v : Inv) → P (filled next_file v c)) → d ≡ Commit (Plain c) [] answer → Joins P n d
  plain-joins P n d c answer p is = subst (λ (x : Deed). Joins P n x) (sym is) (λ s at x same. subst P (same_Some (filled s.next_file s.inventory c) x same) (p s.next_file s.inventory))

  asked-joins : (P : Change → Type 0) (n : ℕ) (asked : Asked) (tickets : List ℕ) (answer : Result ℕ Refusal) (c : Change) → ((next_file : ℕ) (v : Inv) → P (filled next_file v c)) → asked ≡ Plain c → Joins P n (Commit asked tickets answer)
  asked-joins P n asked tickets answer c p is =
      λ s at x same. subst P (same_Some (filled s.next_file s.inventory c) x (subst (λ (y : Asked). change_of y tickets s ≡ Some x) is same)) (p s.next_file s.inventory)

  ending-joins : (P : Change → Type 0) (n : ℕ) (d : Deed) → IsEnding d → Joins P n d
  ending-joins P n d (inl (q, answer, is)) = subst (λ (x : Deed). Joins P n x) (sym is) tt
  ending-joins P n d (inr (answer, is)) = subst (λ (x : Deed). Joins P n x) (sym is) tt

  pub expiring-joins : (numbers : List ℕ) (n : ℕ) (d : Deed) → IsExpiring d → Joins (MayMake numbers expire) n d
  expiring-joins numbers n (Ask query answer) h = tt
  expiring-joins numbers n (Force answer) h = tt
  expiring-joins numbers n (Commit asked tickets answer) (filespace, lines, is, none) =
      asked-joins (MayMake numbers expire) n asked tickets answer (change.Expire (record { filespace = filespace; items = map named lines })) (λ next_file v. (filespace, map named lines, refl)) is
  expiring-joins numbers n d h = absurd h

  discarding-joins : (P : Change → Type 0) (reason : DiscardReason) (n : ℕ) (d : Deed) → ((items : List _) → P (change.Discard (record { reason = reason; items = items }))) → IsDiscarding reason d → Joins P n d
  discarding-joins P reason n d p (objects, answer, is) = plain-joins P n d (change.Discard (record { reason = reason; items = map discarded objects })) answer (λ next_file v. p (map discarded objects)) is

  pub filespace-joins : (numbers : List ℕ) (n : ℕ) (d : Deed) → filespaces.IsDeleting (the_number numbers) d → Joins (MayMake numbers empty_filespace) n d
  filespace-joins numbers n d (inl h) = ending-joins (MayMake numbers empty_filespace) n d h
  filespace-joins numbers n d (inr (inl h)) = discarding-joins (MayMake numbers empty_filespace) (because.Filespace (the_number numbers)) n d (λ items. inl (items, refl)) h
  filespace-joins numbers n d (inr (inr (name, answer, is))) =
      plain-joins (MayMake numbers empty_filespace) n d (change.Object (client.Filespace two.Delete 0 name (the_number numbers))) answer (λ next_file v. inr (name, refl)) is

  taking-joins : (numbers : List ℕ) (n : ℕ) (d : Deed) → IsTaking (the_number numbers) d → Joins (MayMake numbers empty_volume) n d
  taking-joins numbers n d (inl (lines, answer, is)) =
      plain-joins (MayMake numbers empty_volume) n d (change.DropCopies (record { reason = since.Volume (the_number numbers); items = map dropped lines })) answer (λ next_file v. inl (map dropped lines, refl)) is
  taking-joins numbers n d (inr h) = discarding-joins (MayMake numbers empty_volume) (because.Volume (the_number numbers)) n d (λ items. inr (inl (items, refl))) h

  pub volume-joins : (numbers : List ℕ) (n : ℕ) (d : Deed) → volumes.IsDeleting true (the_number numbers) d → Joins (MayMake numbers empty_volume) n d
  volume-joins numbers n d (inl (inl h)) = ending-joins (MayMake numbers empty_volume) n d h
  volume-joins numbers n d (inl (inr (row, answer, is))) =
      plain-joins (MayMake numbers empty_volume) n d (change.Pool (store.Volume verb.Delete row.name 0 (the_number numbers) row.capacity row.access)) answer
      (λ next_file v. inr (inr (row.name, row.capacity, row.access, refl))) is
  volume-joins numbers n d (inr h) = taking-joins numbers n d h

  pub reusing-joins : (files : List ℕ) (n : ℕ) (d : Deed) → IsReusing files d → Joins (IsReuse reuses) n d
  reusing-joins files n d (inl h) = ending-joins (IsReuse reuses) n d h
  reusing-joins files n d (inr (file, answer, among, is)) = subst (λ (x : Deed). Joins (IsReuse reuses) n x) (sym is) (file, refl)

  pub history-joins : (to : ℕ) (numbers files : List ℕ) (n : ℕ) (d : Deed) → IsDeleting files d → Joins (MayMake numbers (delete_history to)) n d
  history-joins to numbers files n d (inl h) = ending-joins (MayMake numbers (delete_history to)) n d h
  history-joins to numbers files n d (inr (file, answer, among, is)) = plain-joins (MayMake numbers (delete_history to)) n d (change.DbDelete file) answer (λ next_file v. (file, refl)) is

  mending-joins : (fix : Bool) (numbers : List ℕ) (n : ℕ) (d : Deed) → fix ≡ true → IsMending (the_number numbers) d → Joins (MayMake numbers (audit_volume fix)) n d
  mending-joins fix numbers n d asked (line, found, answer, inl is) = plain-joins (MayMake numbers (audit_volume fix)) n d _ answer (λ next_file v. (asked, inl (_, refl))) is
  mending-joins fix numbers n d asked (line, found, answer, inr is) = plain-joins (MayMake numbers (audit_volume fix)) n d _ answer (λ next_file v. (asked, inr (_, refl))) is

  pub auditing-joins : (fix : Bool) (numbers : List ℕ) (n : ℕ) (d : Deed) → IsAuditing fix (the_number numbers) d → Joins (MayMake numbers (audit_volume fix)) n d
  auditing-joins fix numbers n d (inl h) = ending-joins (MayMake numbers (audit_volume fix)) n d h
  auditing-joins fix numbers n d (inr (inl (line, offset, wanted, answer, is))) = subst (λ (x : Deed). Joins (MayMake numbers (audit_volume fix)) n x) (sym is) tt
  auditing-joins fix numbers n d (inr (inr (asked, h))) = mending-joins fix numbers n d asked h

  pub backup-joins : (numbers : List ℕ) (n : ℕ) (d : Deed) → IsOfImage (kind_of None) d → Joins (MayMake numbers back_up_database) n d
  backup-joins numbers n (Image other answer) h = tt
  backup-joins numbers n (Commit asked tickets answer) (file, is, none) = asked-joins (MayMake numbers back_up_database) n asked tickets answer (change.DbDelete file) (λ next_file v. (file, inr (inr refl))) is
  backup-joins numbers n (Force answer) h = tt
  backup-joins numbers n d h = absurd h

  since-joins : (numbers : List ℕ) (after n : ℕ) (d : Deed) → IsOfImage (image.Since after) d → Joins (MayMake numbers back_up_since) n d
  since-joins numbers after n (Image other answer) h = tt
  since-joins numbers after n (Commit asked tickets answer) (file, is, none) = asked-joins (MayMake numbers back_up_since) n asked tickets answer (change.DbDelete file) (λ next_file v. (file, inr (inr refl))) is
  since-joins numbers after n (Force answer) h = tt
  since-joins numbers after n d h = absurd h

  pub following-joins : (numbers : List ℕ) (n : ℕ) (d : Deed) → IsFollowing d → Joins (MayMake numbers back_up_since) n d
  following-joins numbers n d (inl (q, answer, is)) = subst (λ (x : Deed). Joins (MayMake numbers back_up_since) n x) (sym is) tt
  following-joins numbers n d (inr (file, h)) = since-joins numbers file n d h

  -- steps of a process, each of which is such a one
  pub process-entered : (P : Change → Type 0) (Is : Deed → Type 0) → ((n : ℕ) (d : Deed) → Is d → Joins P n d) → (events : List Event) (a b : Holding) → AllByRecursion (λ e. Is e.deed) events → Fits w actor a events b
      → AllByRecursion (IsEntered w actor (λ n c. P c)) (made events)
  process-entered P Is so events a b all f = entered-all w actor (λ n c. P c) events a b (all-so (λ e. Is e.deed) (λ e. Joins P e.n e.deed) (λ e h. so e.n e.deed h) events all) f

  -- ---- what moves copies, or makes further ones

  pub further-entered : (numbers : List ℕ) (e : Event) → IsFurther (the_second numbers) w actor e → IsEntered w actor (λ n c. MayMake numbers back_up_pool c) e
  further-entered numbers e (object, c, (scratch, segments, is), at) = (c, at, (scratch, (_ ∷ []), is))

  pub off-entered : (to : ℕ) (e : Event) (numbers : List ℕ) → IsEnteredOff to w actor e → IsEntered w actor (λ n c. MayMake numbers (moves data_mover) c) e
  off-entered to e numbers (object, from, placed, c, (scratch, pool, segments, is), at) = (c, at, (scratch, (_ ∷ []), is))

  pub off-reclaimed : (to : ℕ) (e : Event) (numbers : List ℕ) → IsEnteredOff to w actor e → IsEntered w actor (λ n c. MayMake numbers (moves reclaimer) c) e
  off-reclaimed to e numbers (object, from, placed, c, (scratch, pool, segments, is), at) = (c, at, (scratch, (_ ∷ []), is))

  pub migrated-entered : (pool : ℕ) (e : Event) (numbers : List ℕ) → IsMigrated pool w actor e → IsEntered w actor (λ n c. MayMake numbers (moves migrator) c) e
  migrated-entered pool e numbers (object, placed, to, c, (scratch, its, segments, is), at) = (c, at, (scratch, (_ ∷ []), is))

  pub any-entered : (e : Event) (numbers : List ℕ) → IsEnteredAny w actor e → IsEntered w actor (λ n c. MayMake numbers (moves all_migrator) c) e
  any-entered e numbers (object, pool, placed, to, c, (scratch, its, segments, is), at) = (c, at, (scratch, (_ ∷ []), is))

  pub so-entered : (e : Event) (numbers : List ℕ) → IsEnteredSo w actor e → IsEntered w actor (λ n c. MayMake numbers (moves pool_restorer) c) e
  so-entered e numbers (object, pool, placed, c, (scratch, its, segments, is), at) = (c, at, (scratch, (_ ∷ []), is))

  restored-entered : (e : Event) (numbers : List ℕ) → IsEnteredSo w actor e → IsEntered w actor (λ n c. MayMake numbers (moves volume_restorer) c) e
  restored-entered e numbers (object, pool, placed, c, (scratch, its, segments, is), at) = (c, at, inl (scratch, (_ ∷ []), is))

  -- the volume that is found has this file
  has-file : (file : ℕ) (lines : List VolumeLine) (l : VolumeLine) → volume_with file lines ≡ Some l → l.file ≡ file
  has-file file [] l is = absurd cc
  has-file file (x ∷ lines) l is =
      elim (x.file == file) as (λ t. (x.file == file) ≡ t → (if t then Some x else volume_with file lines) ≡ Some l → l.file ≡ file) [
        | true ↦ λ same one. subst (λ (y : VolumeLine). y.file ≡ file) (same_Some x l one) (eqb-true x.file file same)
        | false ↦ λ other later. has-file file lines l later
      ] refl is

  loss-found : (file : ℕ) (found : Option VolumeLine) (c : Change) → ((l : VolumeLine) → found ≡ Some l → l.file ≡ file) → destroying_found found ≡ Ok c → (next_file : ℕ) (v : Inv) → IsLoss file (filled next_file v c)
  loss-found file None c so is next_file v = absurd cc
  loss-found file (Some l) c so is next_file v =
      let same : destroying l ≡ c = cc in
      subst (λ (x : Change). IsLoss file (filled next_file v x)) same (l.name, l.capacity, ap (λ (i : ℕ). change.Pool (store.Volume verb.Update l.name 0 i l.capacity Destroyed)) (so l refl))

  pub or-entered : (numbers : List ℕ) (a b : Holding) (e : Event) → IsEnteredOr (the_number numbers) w actor e → Step w actor a e b → is_made e.deed ≡ true → IsEntered w actor (λ n c. MayMake numbers (moves volume_restorer) c) e
  or-entered numbers a b e (inl h) s is = restored-entered e numbers h
  or-entered numbers a b e (inr (lines, c, answer, of, deed)) s is =
      entered-step w actor (λ n c. MayMake numbers (moves volume_restorer) c) a b e.n e.deed
      (plain-joins (MayMake numbers (moves volume_restorer)) e.n e.deed c answer (λ next_file v. inr (loss-found (the_number numbers) (volume_with (the_number numbers) lines) c (λ l found. has-file (the_number numbers) lines l found) of next_file v)) deed) s is
