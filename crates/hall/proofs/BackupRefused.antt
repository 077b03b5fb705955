-- Why a database backup doesn't begin, or doesn't end: the refusals that its transactions may meet.
use Rattle.std.proofs.Common.{◌≡◌, ◌⊎◌, inl, inr, ℕ, ◌+◌, ◌-◌, ◌<◌, ◌≤◌, ◌^◌, max, Bool, true, false, ◌&&◌, cond, List, [], ◌∷◌, ◌++◌, Option, None, Some, Result, Ok, Err, is_none, is_some, refl, sym, ap, subst, ◌∙◌, arith}
use Rattle.std.specs.Prelude.{IfSome, nat_le, nat_lt}
use Rattle.std.specs.BTreeMap.{is_at}
use Rattle.std.specs.List.{AllByRecursion, list_all}
use Rattle.std.specs.Map.{keys_of}
use Rattle.std.specs.Option.{option_map_or}
use Rattle.std.specs.Ordering.{nat_cmp}
use Rattle.std.proofs.lemmas.Bool.{and_parts, false≢true, le-leb, leb-true, ltb-true}
use Rattle.store_api.specs.Disk.{History}
use Rattle.kinds.specs.Refusals.{bad_value, foremost, place_of, sooner_of, unless}
use Rattle.item_refusals.proofs.Foremost.{foremost_append}
use Rattle.kinds.specs.declared.refusal.Holder.TheVariants as holder
use Rattle.kinds.specs.declared.refusal.Refusal.{Refusal}
use Rattle.kinds.specs.declared.refusal.Refusal.TheVariants as refusal
use Rattle.entries.specs.declared.change.Change.TheVariants as change
use Rattle.inventory_rows.specs.declared.backup.Backup.{Backup}
use Rattle.inventory_rows.specs.Items.{count_items, most_items}
use Rattle.inventory_rows.specs.pool_tables.Rows.{row_at}
use Rattle.inventory_rows.specs.State.{Inv}
use Rattle.inventory_rows.proofs.of_pool_tables.Counting.{at_is}
use Rattle.inventory_rules.specs.Backups.{after_refused, backup_at, is_done, is_unfinished}
use Rattle.inventory_rules.specs.Common.{file_bound, files_refused, is_free_file}
use Rattle.inventory_rules.specs.Held.{IsTied}
use Rattle.inventory_rules.specs.Journal.{Journal}
use Rattle.inventory_rules.specs.Run.{journal_of}
use Rattle.inventory_rules.specs.Transactions.{causes, effect, refused, sizes_refused}
use Rattle.inventory_rules.specs.Valid.{is_valid, lie_in}
use Rattle.inventory_laws.proofs.BackupRows.{begin_stays, end_stays}
use Rattle.inventory_laws.proofs.Facts.{both, facts_of}
use Rattle.inventory_laws.proofs.Tests.{both_none}
use Rattle.inventory_laws.proofs.VolumeRows.{list_all-parts}
use Rattle.steps.specs.Events.{is_listed}
use Rattle.steps.specs.Events.Deed.{Image as TakeImage}
use Rattle.steps.specs.declared.image.ImageKind.TheVariants as kind
use Rattle.machine.specs.Causes.{image_refused, listed, since_refused}
use Rattle.machine.proofs.Elsewhere.{append-all, foremost-all, unless-all}
use Rattle.machine.specs.State.{Machine, backup, inventory}
use Rattle.hall.specs.Backing.{backing_causes, backup_refused, begin_of, kind_of, unfollowed}
use Rattle.hall.specs.Covered.{left_open}
use Rattle.hall.specs.Good.{Is, IsListed}
use Rattle.hall.specs.Held.{BegunImage, Hall, Held, IsImage}
use Rattle.hall.specs.Imaging.{image_held, own_begun}
use Rattle.hall.specs.Sights.{sight_of}
use Rattle.hall.proofs.Backing.{own_backup}
use Rattle.hall.proofs.Databases.{last_left}
use Rattle.hall.proofs.Deciding.{illegal_all}
use Rattle.hall.proofs.Ended.{ended_all, ended_first, next_answers, none_halted}
use Rattle.hall.proofs.Reusable.{as_valid}
use Rattle.db_image.specs.Steps.{Job}
use Rattle.hall.specs.Seats.{ended_at}

-- ---- a number that is drawn next is free

not_drawn : {V : Type 0} (least bound k : ℕ) (rows : List (ℕ × V)) → lie_in least bound (keys_of rows) ≡ true → bound ≤ k → is_none (row_at k rows) ≡ true
not_drawn least bound k [] h from = refl
not_drawn {V} least bound k (e ∷ rows) h from =
    let parts = and_parts (nat_le least e.0 && nat_lt e.0 bound) (lie_in least bound (keys_of rows)) h in
    elim (is_at (nat_cmp k) e.0) as (λ b. is_at (nat_cmp k) e.0 ≡ b → is_none (cond b (Some e.1) (row_at k rows)) ≡ true) [
      | true ↦ λ here.
          let same : k ≡ e.0 = at_is k e.0 here in
          let low : e.0 < bound = ltb-true e.0 bound (and_parts (nat_le least e.0) (nat_lt e.0 bound) parts.0).1 in
          absurd (too_low same low)
      | false ↦ λ _. not_drawn least bound k rows parts.1 from
    ] refl
  where
    too_low : k ≡ e.0 → e.0 < bound → ⊥
    too_low same low = omega (arith, same, low, from)

next_is_free : (k : ℕ) (v : Inv) → is_valid v ≡ true → v.next_file ≤ k → is_free_file v k ≡ true
next_is_free k v valid from =
    let f = facts_of v valid in
    let drawn = list_all-parts (λ n. nat_le 4 n && nat_lt n v.next_file) (keys_of v.stores.volumes) (keys_of v.backups) f.files_drawn in
    let bounds = and_parts (nat_le 4 v.next_file && nat_lt v.next_file (2 ^ 32 - 1)) true f.files_bounded in
    let low : 4 ≤ v.next_file = leb-true 4 v.next_file (and_parts (nat_le 4 v.next_file) (nat_lt v.next_file (2 ^ 32 - 1)) bounds.0).0 in
    both (nat_le 4 k) (is_none (row_at k v.stores.volumes) && is_none (row_at k v.backups)) (le-leb 4 k (omega (arith, low, from)))
    (both (is_none (row_at k v.stores.volumes)) (is_none (row_at k v.backups)) (not_drawn 4 v.next_file k v.stores.volumes drawn.0 from) (not_drawn 4 v.next_file k v.backups drawn.1 from))

-- ---- what refuses its transactions

module _ (P : Refusal → Type 0) (none : P refusal.NotFound) (full : P refusal.InventoryFull) where
  sizes_all : (c : List Refusal) (n : ℕ) (v : Inv) → AllByRecursion P c → AllByRecursion P (c ++ (unless (nat_le n most_items) refusal.InventoryFull ++ unless (nat_lt (v.number + 1) (2 ^ 62)) refusal.InventoryFull))
  sizes_all c n v all =
      append-all P c (unless (nat_le n most_items) refusal.InventoryFull ++ unless (nat_lt (v.number + 1) (2 ^ 62)) refusal.InventoryFull) all
      (append-all P (unless (nat_le n most_items) refusal.InventoryFull) (unless (nat_lt (v.number + 1) (2 ^ 62)) refusal.InventoryFull) (unless-all P (nat_le n most_items) refusal.InventoryFull full)
      (unless-all P (nat_lt (v.number + 1) (2 ^ 62)) refusal.InventoryFull full))

  after_all : (after : Option ℕ) (v : Inv) → AllByRecursion P (after_refused after v)
  after_all None v = tt
  after_all (Some file) v = unless-all P (is_done (backup_at file v)) refusal.NotFound none

  free_all : (k : ℕ) (v : Inv) (b : Bool) → b ≡ true → AllByRecursion P (unless ((b && true) && true) bad_value)
  free_all k v true h = tt
  free_all k v false h = absurd (false≢true h)

  pub begin_all : (j : Journal) (k : ℕ) (after : Option ℕ) (v : Inv) → is_valid v ≡ true → IsTied v → v.next_file ≤ k → AllByRecursion P (listed (refused j (change.DbBegin k after) v))
  unfolding refused
  begin_all j k after v valid tied from =
      as_valid P (causes j (change.DbBegin k after) v ++ sizes_refused (change.DbBegin k after) v)
      (sizes_all (causes j (change.DbBegin k after) v) (count_items (effect (change.DbBegin k after) v)) v
      (append-all P (after_refused after v) (files_refused (k ∷ []) v ++ file_bound k v) (after_all after v)
      (append-all P (files_refused (k ∷ []) v) (file_bound k v) (free_all k v (is_free_file v k) (next_is_free k v valid from))
      (unless-all P (nat_lt (max v.next_file (k + 1)) (2 ^ 32 - 1)) refusal.InventoryFull full))))
      (is_valid (effect (change.DbBegin k after) v))
      (λ free. let parts = both_none (causes j (change.DbBegin k after) v) (sizes_refused (change.DbBegin k after) v) free in (begin_stays j k after v valid tied parts.0 parts.1).0)

  since_all : (file : ℕ) (actor : ℕ) (h : Held) → AllByRecursion P (since_refused file (sight_of actor h))
  since_all file actor h =
      append-all P (unless (is_done (backup_at file h.vault.database) && option_map_or (λ (b : Backup). nat_le h.base.number b.number) (backup_at file h.vault.database) false) refusal.NotFound)
      (unless (option_map_or (λ (b : Backup). nat_lt (h.vault.database.number + 1 - b.number) (2 ^ 32)) (backup_at file h.vault.database) true) refusal.InventoryFull)
      (unless-all P (is_done (backup_at file h.vault.database) && option_map_or (λ (b : Backup). nat_le h.base.number b.number) (backup_at file h.vault.database) false) refusal.NotFound none)
      (unless-all P (option_map_or (λ (b : Backup). nat_lt (h.vault.database.number + 1 - b.number) (2 ^ 32)) (backup_at file h.vault.database) true) refusal.InventoryFull full)

  rules_all : (actor : ℕ) (after : Option ℕ) (h : Held) → is_valid h.vault.database ≡ true → IsTied h.vault.database → h.vault.database.next_file ≤ h.claims.next_file → AllByRecursion P (image_refused (kind_of after) (sight_of actor h))
  rules_all actor None h valid tied from = begin_all (journal_of h.base h.vault.journal) h.claims.next_file None h.vault.database valid tied from
  rules_all actor (Some file) h valid tied from =
      append-all P (since_refused file (sight_of actor h)) (listed (refused (journal_of h.base h.vault.journal) (begin_of (Some file) h) h.vault.database)) (since_all file actor h)
      (begin_all (journal_of h.base h.vault.journal) h.claims.next_file (Some file) h.vault.database valid tied from)

-- ---- as they are told

-- none of them comes before a full run and a fault
begin_late : (j : Journal) (k : ℕ) (after : Option ℕ) (v : Inv) → AllByRecursion (λ e. 1 ≤ place_of e) (listed (refused j (change.DbBegin k after) v))
begin_late j k after v =
    illegal_all (λ e. 1 ≤ place_of e) (omega arith) (omega arith) j (change.DbBegin k after) v
    (append-all (λ e. 1 ≤ place_of e) (after_refused after v) (files_refused (k ∷ []) v ++ file_bound k v) (after_all (λ e. 1 ≤ place_of e) (omega arith) (omega arith) after v)
    (append-all (λ e. 1 ≤ place_of e) (files_refused (k ∷ []) v) (file_bound k v) (unless-all (λ e. 1 ≤ place_of e) ((is_free_file v k && true) && true) bad_value (omega arith))
    (unless-all (λ e. 1 ≤ place_of e) (nat_lt (max v.next_file (k + 1)) (2 ^ 32 - 1)) refusal.InventoryFull (omega arith))))

rules_late : (actor : ℕ) (after : Option ℕ) (h : Held) → AllByRecursion (λ e. 1 ≤ place_of e) (image_refused (kind_of after) (sight_of actor h))
rules_late actor None h = begin_late (journal_of h.base h.vault.journal) h.claims.next_file None h.vault.database
rules_late actor (Some file) h =
    append-all (λ e. 1 ≤ place_of e) (since_refused file (sight_of actor h)) (listed (refused (journal_of h.base h.vault.journal) (begin_of (Some file) h) h.vault.database))
    (since_all (λ e. 1 ≤ place_of e) (omega arith) (omega arith) file actor h) (begin_late (journal_of h.base h.vault.journal) h.claims.next_file (Some file) h.vault.database)

causes_late : (actor : ℕ) (after : Option ℕ) (h : Held) → AllByRecursion (λ e. 1 ≤ place_of e) (backing_causes actor after h)
causes_late actor after h = append-all (λ e. 1 ≤ place_of e) (image_refused (kind_of after) (sight_of actor h)) (image_held h.image) (rules_late actor after h) (busy_late h.image) where
  busy_late : (i : Option BegunImage) → AllByRecursion (λ e. 1 ≤ place_of e) (image_held i)
  busy_late None = tt
  busy_late (Some i) = (omega arith, tt)

pub first_ended : (actor moment : ℕ) (after : Option ℕ) (h : Held) (e : Refusal) → foremost (ended_at moment h) ≡ Some e → Some e ≡ foremost (backup_refused actor moment after h)
first_ended actor moment after h e full = sym (ended_first moment h (backing_causes actor after h) e full (causes_late actor after h))

listed_first : (o : Option Refusal) → foremost (listed o) ≡ o
listed_first None = refl
listed_first (Some e) = refl

alone : (o : Option Refusal) → sooner_of o None ≡ o
alone None = refl
alone (Some e) = refl

none_sooner : (o : Option Refusal) → sooner_of None o ≡ o
none_sooner None = refl
none_sooner (Some e) = refl

-- the rules' causes, of a backup that may follow another
by_rules : (actor : ℕ) (after : Option ℕ) (h : Held) (u o : Option Refusal) → u ≡ foremost (unfollowed after h) → o ≡ refused (journal_of h.base h.vault.journal) (begin_of after h) h.vault.database
    → foremost (image_refused (kind_of after) (sight_of actor h)) ≡ sooner_of u o
by_rules actor None h u o follows is =
    listed_first (refused (journal_of h.base h.vault.journal) (begin_of None h) h.vault.database) ∙ sym is ∙ sym (none_sooner o) ∙ ap (λ r. sooner_of r o) (sym follows)
by_rules actor (Some file) h u o follows is =
    foremost_append (unfollowed (Some file) h) (listed (refused (journal_of h.base h.vault.journal) (begin_of (Some file) h) h.vault.database))
    ∙ ap (λ r. sooner_of r (foremost (listed (refused (journal_of h.base h.vault.journal) (begin_of (Some file) h) h.vault.database)))) (sym follows)
    ∙ ap (sooner_of u) (listed_first (refused (journal_of h.base h.vault.journal) (begin_of (Some file) h) h.vault.database) ∙ sym is)

by_image : (actor moment : ℕ) (after : Option ℕ) (h : Held) (u o : Option Refusal) → foremost (ended_at moment h) ≡ None → u ≡ foremost (unfollowed after h)
    → o ≡ refused (journal_of h.base h.vault.journal) (begin_of after h) h.vault.database → foremost (backup_refused actor moment after h) ≡ sooner_of (sooner_of u o) (foremost (image_held h.image))
by_image actor moment after h u o free follows is =
    next_answers (ended_at moment h) (backing_causes actor after h) free
    ∙ foremost_append (image_refused (kind_of after) (sight_of actor h)) (image_held h.image)
    ∙ ap (λ r. sooner_of r (foremost (image_held h.image))) (by_rules actor after h u o follows is)

pub said_none : (actor moment : ℕ) (after : Option ℕ) (h : Held) (u o : Option Refusal) → foremost (ended_at moment h) ≡ None → u ≡ foremost (unfollowed after h)
    → o ≡ refused (journal_of h.base h.vault.journal) (begin_of after h) h.vault.database → h.image ≡ None → sooner_of u o ≡ foremost (backup_refused actor moment after h)
said_none actor moment after h u o free follows is none =
    sym (by_image actor moment after h u o free follows is ∙ ap (λ (i : Option BegunImage). sooner_of (sooner_of u o) (foremost (image_held i))) none ∙ alone (sooner_of u o))

pub said_busy : (actor moment : ℕ) (after : Option ℕ) (h : Held) (u o cause : Option Refusal) (i : BegunImage) → foremost (ended_at moment h) ≡ None → u ≡ foremost (unfollowed after h)
    → o ≡ refused (journal_of h.base h.vault.journal) (begin_of after h) h.vault.database → cause ≡ sooner_of u o → h.image ≡ Some i
    → sooner_of cause (Some (refusal.Busy (holder.Image i.actor))) ≡ foremost (backup_refused actor moment after h)
said_busy actor moment after h u o cause i free follows is both there =
    ap (λ r. sooner_of r (Some (refusal.Busy (holder.Image i.actor)))) both
    ∙ sym (by_image actor moment after h u o free follows is ∙ ap (λ (i : Option BegunImage). sooner_of (sooner_of u o) (foremost (image_held i))) there)

-- as the calls tell them
pub busy_told : (actor moment : ℕ) (after : Option ℕ) (h : Held) (over u o cause result : Option Refusal) (k : ℕ) (i : BegunImage) → over ≡ foremost (ended_at moment h) → over ≡ None → u ≡ foremost (unfollowed after h) → k ≡ h.claims.next_file
    → (h.vault.fault ≡ None → o ≡ refused (journal_of h.base h.vault.journal) (change.DbBegin k after) h.vault.database) → cause ≡ sooner_of u o → h.image ≡ Some i
    → result ≡ sooner_of cause (Some (refusal.Busy (holder.Image i.actor))) → result ≡ foremost (backup_refused actor moment after h)
busy_told actor moment after h over u o cause result k i is none follows drawn illegal both there told =
    let free : foremost (ended_at moment h) ≡ None = sym is ∙ none in
    told
    ∙ said_busy actor moment after h u o cause i free follows (illegal (none_halted moment h free) ∙ ap (λ (n : ℕ). refused (journal_of h.base h.vault.journal) (change.DbBegin n after) h.vault.database) drawn) both there

-- only that a number or the items would be too many refuses the end of a listed backup
pub end_full : (j : Journal) (file : ℕ) (v : Inv) → is_valid v ≡ true → IsTied v → is_unfinished (backup_at file v) ≡ true → (e : Refusal) → refused j (change.DbEnd file) v ≡ Some e → e ≡ refusal.InventoryFull
unfolding refused
end_full j file v valid tied there e at =
    (subst (λ o. AllByRecursion (λ x. x ≡ refusal.InventoryFull) (listed o)) at
    (as_valid (λ x. x ≡ refusal.InventoryFull) (causes j (change.DbEnd file) v ++ sizes_refused (change.DbEnd file) v)
    (append-all (λ x. x ≡ refusal.InventoryFull) (causes j (change.DbEnd file) v) (sizes_refused (change.DbEnd file) v) (there_all (is_unfinished (backup_at file v)) there)
    (append-all (λ x. x ≡ refusal.InventoryFull) (unless (nat_le (count_items (effect (change.DbEnd file) v)) most_items) refusal.InventoryFull) (unless (nat_lt (v.number + 1) (2 ^ 62)) refusal.InventoryFull)
    (unless-all (λ x. x ≡ refusal.InventoryFull) (nat_le (count_items (effect (change.DbEnd file) v)) most_items) refusal.InventoryFull refl)
    (unless-all (λ x. x ≡ refusal.InventoryFull) (nat_lt (v.number + 1) (2 ^ 62)) refusal.InventoryFull refl)))
    (is_valid (effect (change.DbEnd file) v))
    (λ free. let parts = both_none (causes j (change.DbEnd file) v) (sizes_refused (change.DbEnd file) v) free in (end_stays j file v valid tied parts.0 parts.1).0))).0
  where
    there_all : (b : Bool) → b ≡ true → AllByRecursion (λ x. x ≡ refusal.InventoryFull) (unless b refusal.NotFound)
    there_all true h = tt
    there_all false h = absurd (false≢true h)

pub end_said : (file : ℕ) (h : Held) (v : Inv) → v ≡ h.vault.database → is_valid v ≡ true → IsTied v → is_unfinished (backup_at file h.vault.database) ≡ true → (o : Option Refusal)
    → o ≡ refused (journal_of h.base h.vault.journal) (change.DbEnd file) h.vault.database → IfSome o (λ e. e ≡ refusal.InventoryFull)
end_said file h v same valid tied there None is = tt
end_said file h v same valid tied there (Some e) is = end_full (journal_of h.base h.vault.journal) file h.vault.database (subst (λ x. is_valid x ≡ true) same valid) (subst IsTied same tied) there e (sym is)

-- ---- on the closed list

-- of a hall that is in a state of the machine, none of its numbers is drawn
pub files_follow : {S : Type 0} (told : S → Option History) (moment : S → ℕ) (faults : S → ℕ → ℕ) (hall : Hall S) → ((m : Machine) × Is told moment faults hall m) → hall.held.vault.database.next_file ≤ hall.held.claims.next_file
files_follow told moment faults hall (m, is) =
    let same : hall.held.vault.database.next_file ≡ (inventory m.core).next_file = ap (λ (v : Inv). v.next_file) is.core.database in
    let next : hall.held.claims.next_file ≡ m.core.next_file = is.core.space.next_file in
    let le = is.good.numbers.next_file.1 in
    omega (arith, same, next, le)

pub refusal_listed : (actor moment : ℕ) (after : Option ℕ) (h : Held) → is_valid h.vault.database ≡ true → IsTied h.vault.database → h.vault.database.next_file ≤ h.claims.next_file → (e : Refusal)
    → (foremost (backup_refused actor moment after h) ≡ Some e) ⊎ (e ≡ refusal.Memory) → is_listed (TakeImage (kind_of after) (Err e)) ≡ true
unfolding is_listed
refusal_listed actor moment after h valid tied from e (inr memory) = ap (λ x. is_listed (TakeImage (kind_of after) (Err x))) memory
refusal_listed actor moment after h valid tied from e (inl at) =
    foremost-all P (backup_refused actor moment after h)
    (append-all P (ended_at moment h) (backing_causes actor after h) (ended_all P refl (λ file count. refl) moment h)
    (append-all P (image_refused (kind_of after) (sight_of actor h)) (image_held h.image) (rules_all P refl refl actor after h valid tied from) (busy_all h.image))) e at
  where
    P : Refusal → Type 0
    P x = is_listed (TakeImage (kind_of after) (Err x)) ≡ true

    busy_all : (i : Option BegunImage) → AllByRecursion P (image_held i)
    busy_all None = tt
    busy_all (Some i) = (refl, tt)

-- ---- a backup in progress is listed

pub still_listed : {S : Type 0} (told : S → Option History) (moment : S → ℕ) (faults : S → ℕ → ℕ) (actor : ℕ) (hall : Hall S) → ((m : Machine) × Is told moment faults hall m) → foremost (ended_at (moment hall.store) hall.held) ≡ None
    → is_some (own_begun actor hall.held.image) ≡ true → (job : Job) → hall.held.job ≡ Some job → is_unfinished (backup_at job.file hall.held.vault.database) ≡ true
still_listed told moment faults actor hall (m, is) free mine job its_job =
    let running : hall.held.vault.fault ≡ None = none_halted (moment hall.store) hall.held free in
    let own = own_backup actor m.core.base.number hall.held.vault.generation hall.held.vault.pending job m.core.image
    (subst (λ (o : Option BegunImage). is_some (own_begun actor o) ≡ true) (sym is.core.image) mine)
    (subst (λ (j : Option Job). IsImage m.core.base.number hall.held.vault.generation hall.held.vault.pending j m.core.image) its_job (is.core.is_image running)) in
    let there : IsListed (left_open m.core) (Some own.its) = subst (λ i. IsListed (left_open m.core) i) own.there (is.good.listed (is.core.fault ∙ running)) in
    let h = there own.is.picture in
    subst (λ (v : Inv). is_unfinished (backup_at job.file v) ≡ true) (sym is.core.database)
    (subst (λ n. is_unfinished (backup_at n (inventory m.core)) ≡ true) own.is.file (last_left (λ v. is_unfinished (backup_at own.its.file v) ≡ true) m.core h.1))
