-- What a run leaves that changes one file on which no volume lies, as a database backup's: all that no stop may take away.
use Rattle.std.proofs.Common.{◌≡◌, inl, inr, ℕ, ◌+◌, ◌≤◌, Bool, true, false, not, ◌&&◌, List, [], ◌∷◌, ◌++◌, length, cond, Option, None, Some, is_none, is_some, refl, sym, ap, subst, ◌∙◌, arith}
use Rattle.std.specs.Prelude.{IfSome, ◌==◌}
use Rattle.std.specs.BTreeMap.{is_at}
use Rattle.std.specs.List.{AllByRecursion, flat_map, list_all}
use Rattle.std.specs.Map.{keys_of}
use Rattle.std.specs.Ordering.{nat_cmp}
use Rattle.std.proofs.lemmas.Bool.{and_parts, cases_lt, eq-eqb, false≢true}
use Rattle.store_api.specs.Cause.{NoneFell}
use Rattle.store_api.specs.Disk.{History, ImageAt, Leaves, now}
use Rattle.store_api.specs.Runs.{EachImage, GoesOn}
use Rattle.store_api.specs.Told.{Told}
use Rattle.store_api.proofs.Runs.{goes_image_after, goes_image_before, goes_later, goes_standing}
use Rattle.kinds.specs.declared.segment.Segment.{Segment}
use Rattle.contents.specs.Contents.{HasAll, HaveAll, InImage, InStore}
use Rattle.contents.proofs.Kept.{beside, beside_since}
use Rattle.contents.proofs.Segments.{EachSegment, each_passes, versions_pass}
use Rattle.inventory.specs.Meant.{meaning}
use Rattle.inventory_rows.specs.declared.backup.Backup.{Backup}
use Rattle.inventory_rows.specs.version_groups.Entries.{all_later}
use Rattle.inventory_rows.specs.version_groups.declared.copies.CopyRow.{CopyRow}
use Rattle.inventory_rows.specs.version_groups.declared.versions.Version.{Version}
use Rattle.inventory_rows.specs.volume_rows.declared.volume.Volume.{Volume}
use Rattle.inventory_rows.specs.pool_tables.Rows.{row_at}
use Rattle.inventory_rows.specs.Search.{pool, versions}
use Rattle.inventory_rows.specs.State.{Inv}
use Rattle.inventory_rows.proofs.of_pool_tables.Counting.{at_is}
use Rattle.inventory_rules.specs.Backups.{backup_at, is_unfinished}
use Rattle.inventory_rules.specs.Valid.{is_of_pool, is_valid}
use Rattle.inventory_laws.proofs.Facts.{facts_of}
use Rattle.inventory_laws.proofs.Lists.{each_also}
use Rattle.log_file.specs.Safety.{acknowledged}
use Rattle.vault.specs.Files.{IsOurs}
use Rattle.vault.specs.Recovery.{RecoversWithin}
use Rattle.vault.proofs.Goodness.{held_beside, held_since}
use Rattle.machine.specs.Machine.{durable}
use Rattle.machine.specs.State.{Core, Image, Machine, Ticket, inventory}
use Rattle.hall.specs.Covered.{IsNewFile, IsVolume, NumbersAreDrawn, covered, inv_at, left_open}
use Rattle.hall.specs.Good.{AllInProgress, HasTaken, Is, IsGood, IsKept, IsLawful, IsSafe, WasSound}
use Rattle.hall.specs.Held.{Hall, Held}
use Rattle.hall.proofs.Beside.{all_taken_away}
use Rattle.hall.proofs.Covering.{all_each}
use Rattle.hall.proofs.Databases.{each_covered, first_left, last_left, left_lawful}
use Rattle.hall.proofs.JoinedKept.{left_indexed}
use Rattle.hall.proofs.Pairs.{each_two}
use Rattle.hall.proofs.PlacesChosen.{scratch_absent}
use Rattle.hall.proofs.Stamping.{few_acknowledged, rise_later, rise_over}
use Rattle.hall.specs.Protected.{HadBackups, KeepsAllBackups}

-- ---- a file on which no volume lies

-- no database that a stop may bring back has a volume with this file number, and no ticket writes there
pub record IsUnused (file : ℕ) (c : Core) : Type 0 where
  pub from : 4 ≤ file
  pub volumes : AllByRecursion (λ v. row_at file v.stores.volumes ≡ None) (left_open c)
  pub tickets : AllByRecursion (λ (t : Ticket). AllByRecursion (λ (s : Segment). ¬ (s.file ≡ file)) t.place.segments) c.tickets

-- a number that isn't in a list is no row's
not_in : {V : Type 0} (k : ℕ) (rows : List (ℕ × V)) → list_all (λ n. not (k == n)) (keys_of rows) ≡ true → row_at k rows ≡ None
not_in k [] h = refl
not_in {V} k (e ∷ rows) h =
    let parts = and_parts (not (k == e.0)) (list_all (λ n. not (k == n)) (keys_of rows)) h in
    elim (is_at (nat_cmp k) e.0) as (λ b. is_at (nat_cmp k) e.0 ≡ b → cond b (Some e.1) (row_at k rows) ≡ None) [
      | true ↦ λ here. absurd (false≢true (sym (ap not (eq-eqb k e.0 (at_is k e.0 here))) ∙ parts.0))
      | false ↦ λ _. not_in k rows parts.1
    ] refl

back_all : (p : ℕ → Bool) (xs ys : List ℕ) → list_all p (xs ++ ys) ≡ true → list_all p ys ≡ true
back_all p [] ys h = h
back_all p (x ∷ xs) ys h = back_all p xs ys (and_parts (p x) (list_all p (xs ++ ys)) h).1

-- of two tables whose numbers are apart, the one doesn't have what the other has
apart_tables : {V W : Type 0} (k : ℕ) (rows : List (ℕ × V)) (others : List (ℕ × W)) → all_later (λ a b. not (a == b)) (keys_of rows ++ keys_of others) ≡ true → is_some (row_at k others) ≡ true → row_at k rows ≡ None
apart_tables k [] others h there = refl
apart_tables {V} k (e ∷ rows) others h there =
    let parts = and_parts (list_all (λ n. not (e.0 == n)) (keys_of rows ++ keys_of others)) (all_later (λ a b. not (a == b)) (keys_of rows ++ keys_of others)) h in
    elim (is_at (nat_cmp k) e.0) as (λ b. is_at (nat_cmp k) e.0 ≡ b → cond b (Some e.1) (row_at k rows) ≡ None) [
      | true ↦ λ here.
          let key : k ≡ e.0 = at_is k e.0 here in
          let gone = not_in e.0 others (back_all (λ n. not (e.0 == n)) (keys_of rows) (keys_of others) parts.0) in
          absurd (false≢true (sym (ap is_some (subst (λ n. row_at n others ≡ None) (sym key) gone)) ∙ there))
      | false ↦ λ _. apart_tables k rows others parts.1 there
    ] refl

pub is_there : (o : Option Backup) → is_unfinished o ≡ true → is_some o ≡ true
is_there None h = h
is_there (Some b) h = refl

-- no volume lies on a listed backup's file
listed_apart : (file : ℕ) (v : Inv) → is_valid v ≡ true → is_unfinished (backup_at file v) ≡ true → row_at file v.stores.volumes ≡ None
listed_apart file v valid listed = apart_tables file v.stores.volumes v.backups (facts_of v valid).files_apart (is_there (backup_at file v) listed)

no_ticket : (file : ℕ) (c : Core) → ((s : Segment) → IsVolume c s.file → s.file ≡ file → ⊥) → NumbersAreDrawn c
    → AllByRecursion (λ (t : Ticket). AllByRecursion (λ (s : Segment). ¬ (s.file ≡ file)) t.place.segments) c.tickets
no_ticket file c none n =
    each_also (λ (t : Ticket). AllByRecursion (λ (s : Segment). IsVolume c s.file) t.place.segments) (λ (t : Ticket). AllByRecursion (λ (s : Segment). ¬ (s.file ≡ file)) t.place.segments) c.tickets
    (λ t each. each_also (λ (s : Segment). IsVolume c s.file) (λ (s : Segment). ¬ (s.file ≡ file)) t.place.segments (λ s v same. none s v same) each) n.files

-- that of a backup that is listed wherever a stop may lead
pub listed_unused : (file : ℕ) (c : Core) → IsLawful c → NumbersAreDrawn c → 4 ≤ file → AllByRecursion (λ v. is_unfinished (backup_at file v) ≡ true) (left_open c) → IsUnused file c
listed_unused file c l n from listed = record {
  from = from;
  volumes = each_also (λ v. (is_valid v ≡ true) × (is_unfinished (backup_at file v) ≡ true)) (λ v. row_at file v.stores.volumes ≡ None) (left_open c) (λ v h. listed_apart file v h.0 h.1)
      (each_two (λ v. is_valid v ≡ true) (λ v. is_unfinished (backup_at file v) ≡ true) (left_open c) (left_lawful c l) listed);
  tickets = no_ticket file c (λ s v same. false≢true (sym (ap is_some v.2) ∙ subst (λ n. is_some (backup_at n (inventory c)) ≡ true) (sym same)
      (is_there (backup_at file (inventory c)) (last_left (λ v. is_unfinished (backup_at file v) ≡ true) c listed)))) n;
}

-- the one that is drawn next
pub next_unused : (c : Core) → IsLawful c → NumbersAreDrawn c → 4 ≤ c.next_file → IsUnused c.next_file c
next_unused c l n from = record {
  from = from;
  volumes = each_also (λ v. (k : ℕ) × (v ≡ inv_at k c)) (λ v. row_at c.next_file v.stores.volumes ≡ None) (left_open c)
      (λ v h. subst (λ w. row_at c.next_file w.stores.volumes ≡ None) (sym h.1) (scratch_absent c c.next_file l n (omega arith) h.0)) (left_indexed c);
  tickets = no_ticket c.next_file c (λ s v same. let below = v.1 in omega (arith, below, same)) n;
}

-- ---- what is kept

module _ (file : ℕ) (m : Machine) (held : Held) (h new : History) (goes : GoesOn (λ n. n ≡ file) h new) (k : IsKept m held h) (lawful : IsLawful m.core) (few : length m.core.stamps ≤ length m.core.journal)
    (running : m.core.fault ≡ None) (unused : IsUnused file m.core) (backed : HadBackups held.base held.opened new → KeepsAllBackups m.core held.opened new held.job) where
  not_theirs : (n : ℕ) → IsOurs n → ¬ (n ≡ file)
  not_theirs n ours same = let from = unused.from in omega (arith, ours, same, from)

  of_pool_away : (v : Inv) → row_at file v.stores.volumes ≡ None → (number k : ℕ) → is_of_pool number (row_at k v.stores.volumes) ≡ true → k ≡ file → ⊥
  of_pool_away v none number k is same = false≢true (sym (ap (is_of_pool number) (subst (λ n. row_at n v.stores.volumes ≡ None) (sym same) none)) ∙ is)

  one_away : (v : Inv) → is_valid v ≡ true → row_at file v.stores.volumes ≡ None → EachSegment (λ (s : Segment). ¬ (s.file ≡ file)) (versions v)
  one_away v valid none =
      versions_pass (λ (e : ℕ × CopyRow). is_some (pool e.1.pool v) && list_all (λ (s : Segment). is_of_pool e.1.pool (row_at s.file v.stores.volumes)) e.1.segments) (λ (s : Segment). ¬ (s.file ≡ file))
      (λ e h. each_also (λ (s : Segment). is_of_pool e.1.pool (row_at s.file v.stores.volumes) ≡ true) (λ (s : Segment). ¬ (s.file ≡ file)) e.1.segments (λ s is same. of_pool_away v none e.1.pool s.file is same)
      (each_passes (λ (s : Segment). is_of_pool e.1.pool (row_at s.file v.stores.volumes)) e.1.segments
      (and_parts (is_some (pool e.1.pool v)) (list_all (λ (s : Segment). is_of_pool e.1.pool (row_at s.file v.stores.volumes)) e.1.segments) h).1))
      (versions v) (facts_of v valid).copies_cite

  all_away : EachSegment (λ (s : Segment). ¬ (s.file ≡ file)) (flat_map versions (left_open m.core))
  all_away =
      each_covered (λ (w : Version). AllByRecursion (λ (c : CopyRow). AllByRecursion (λ (s : Segment). ¬ (s.file ≡ file)) c.segments) w.copies) (left_open m.core)
      (each_also (λ v. (is_valid v ≡ true) × (row_at file v.stores.volumes ≡ None)) (λ v. EachSegment (λ (s : Segment). ¬ (s.file ≡ file)) (versions v)) (left_open m.core) (λ v h. one_away v h.0 h.1)
      (each_two (λ v. is_valid v ≡ true) (λ v. row_at file v.stores.volumes ≡ None) (left_open m.core) (left_lawful m.core lawful) unused.volumes))

  holds_away : (moment : ℕ) (image : ℕ → List ℕ) → now h ≤ moment → moment ≤ now new → ImageAt new moment image → HasAll (InImage image) m.contents (durable m.core)
  holds_away moment image from to at =
      first_left (HasAll (InImage image) m.contents) m.core
      (all_each (InImage image) m.contents (left_open m.core) (beside_since (λ n. n ≡ file) m.contents h new (flat_map versions (left_open m.core)) all_away goes k.firm moment image from to at))

  always_away : (moment : ℕ) (image : ℕ → List ℕ) → held.opened ≤ moment → moment ≤ now new → ImageAt new moment image → IsSafe m.contents m.core (acknowledged moment m.core.stamps) image
  always_away moment image from to at = elim (cases_lt moment (now h)) as (λ _. IsSafe m.contents m.core (acknowledged moment m.core.stamps) image) [
    | inl l ↦ let le : moment ≤ now h = omega (arith, l) in k.always moment image from le (goes_image_before (λ n. n ≡ file) h new moment image goes le at)
    | inr g ↦ record {
      last = length m.core.stamps;
      durable = few_acknowledged moment m.core.stamps;
      made = few;
      recovers = held_since meaning (λ n. n ≡ file) held.vault (durable m.core) h new not_theirs goes (k.sure running) moment image g to at;
      holds = holds_away moment image g to at;
    }
  ]

  -- where no image is in progress all is kept
  pub kept_away : m.core.image ≡ None → (t : ℕ) (counts : ℕ → ℕ) → IsKept (record m { moment = t; counts = counts }) held new
  kept_away none t counts = record {
    since = (let after : now h ≤ now new = goes_later (λ n. n ≡ file) h new goes in omega (arith, k.since, after));
    first = λ image at. k.first image (goes_image_before (λ n. n ≡ file) h new held.opened image goes k.since at);
    always = always_away;
    left = λ files l. k.left files (λ n ours. subst (λ f. Leaves f (files n)) (goes_standing (λ x. x ≡ file) h new n (not_theirs n ours) goes) (l n ours));
    sure = λ none. held_beside meaning (λ n. n ≡ file) held.vault (durable m.core) h new not_theirs goes (k.sure none);
    firm = beside (λ n. n ≡ file) m.contents h new (flat_map versions (left_open m.core)) all_away goes k.firm;
    tickets = all_taken_away (λ n. n ≡ file) h new goes held.seats m.core.tickets unused.tickets k.tickets;
    image = λ _. subst (λ (i : Option Image). AllInProgress m.core held i new) (sym none) tt;
    backups = backed;
  }

-- ---- the hall

module _ {S : Type 0} (told : S → Option History) (moment : S → ℕ) (faults : S → ℕ → ℕ) (clock : (s : S) → IfSome (told s) (λ h. now h ≡ moment s)) (hall : Hall S) (store : S) (since : moment hall.store ≤ moment store) where
  -- calls on such a file leave the hall as it was
  pub is_away : (file : ℕ) (m : Machine) → Is told moment faults hall m → m.core.fault ≡ None → m.core.image ≡ None → IsUnused file m.core → Told (told hall.store) (told store) (GoesOn (λ n. n ≡ file))
      → IfSome (told store) (λ h. WasSound hall.held.base hall.held.opened h → HadBackups hall.held.base hall.held.opened h → KeepsAllBackups m.core hall.held.opened h hall.held.job)
      → Is told moment faults (record { store = store; held = hall.held }) (record m { moment = moment store; counts = faults store })
  is_away file m is running none unused did backed = record {
    core = is.core;
    clock = refl;
    counts = refl;
    good = record {
      lawful = is.good.lawful;
      stamped = record { few = is.good.stamped.few; rise = rise_later hall.held.opened m.moment (moment store) m.core.stamps is.good.stamped.rise (omega (arith, is.clock, since)); waiting = is.good.stamped.waiting };
      space = is.good.space;
      numbers = is.good.numbers;
      bytes = is.good.bytes;
      listed = is.good.listed;
      kept = kept_both (told hall.store) (told store) did (clock hall.store) is.good.kept backed;
    };
  }
    where
      kept_both : (o n : Option History) → Told o n (GoesOn (λ n. n ≡ file)) → IfSome o (λ h. now h ≡ moment hall.store) → IfSome o (λ h. WasSound hall.held.base hall.held.opened h → IsKept m hall.held h)
          → IfSome n (λ h. WasSound hall.held.base hall.held.opened h → HadBackups hall.held.base hall.held.opened h → KeepsAllBackups m.core hall.held.opened h hall.held.job)
          → IfSome n (λ h. WasSound hall.held.base hall.held.opened h → IsKept (record m { moment = moment store; counts = faults store }) hall.held h)
      kept_both None None r at kept backed = tt
      kept_both None (Some new) r at kept backed = absurd r
      kept_both (Some h) None r at kept backed = absurd r
      kept_both (Some h) (Some new) r at kept backed = λ sound.
          let first : hall.held.opened ≤ m.moment = rise_over hall.held.opened m.moment m.core.stamps is.good.stamped.rise in
          let before : hall.held.opened ≤ now h = omega (arith, first, is.clock, at) in
          kept_away file m hall.held h new r (kept (sound.0, λ image it. sound.1 image (goes_image_after (λ n. n ≡ file) h new hall.held.opened image r before it))) is.good.lawful is.good.stamped.few running unused (backed sound) none
          (moment store) (faults store)
