-- A transaction that is made of what is asked, as a step.
use Rattle.std.proofs.Common.{◌≡◌, ◌⊎◌, inl, inr, ℕ, ◌+◌, ◌<◌, ◌≤◌, ◌^◌, true, false, List, [], ◌∷◌, ◌++◌, length, Option, Some, None, Result, Ok, Err, refl, sym, ap, subst, ◌∙◌, arith}
use Rattle.std.specs.Prelude.{IfErr, IfOk, IfSome, OnOk}
use Rattle.std.specs.BTreeMap.{is_at}
use Rattle.std.specs.List.{AllByRecursion, list_any}
use Rattle.std.specs.Option.{option_map_or}
use Rattle.std.specs.Ordering.{nat_cmp}
use Rattle.std.proofs.lemmas.Bool.{false≢true}
use Rattle.store_api.specs.Cause.{NoneFell}
use Rattle.store_api.specs.Disk.{History, now}
use Rattle.store_api.specs.Runs.{GoesOn}
use Rattle.store_api.specs.Told.{Told}
use Rattle.store_api.proofs.Runs.{goes_none, told_map}
use Rattle.kinds.specs.Refusals.{foremost}
use Rattle.kinds.specs.declared.refusal.Refusal.{Refusal}
use Rattle.kinds.specs.declared.refusal.Refusal.TheVariants as refusal
use Rattle.kinds.specs.declared.segment.Segment.{Segment}
use Rattle.entries.specs.EntryForm.{entry as entry_form}
use Rattle.entries.specs.declared.change.Change.{Change}
use Rattle.entries.specs.declared.change.Change.TheVariants as change
use Rattle.entries.specs.declared.entry.Entry.{Entry}
use Rattle.inventory.proofs.Nothing.{none_of}
use Rattle.inventory.proofs.Orders.{ascending}
use Rattle.inventory.specs.Meant.{meaning}
use Rattle.inventory_rows.specs.Ascending.{AreAscending}
use Rattle.inventory_rows.specs.version_groups.declared.versions.Version.{Version}
use Rattle.inventory_rows.specs.Search.{version}
use Rattle.inventory_rows.specs.State.{Inv}
use Rattle.inventory_rules.specs.Journal.{Journal, no_journal}
use Rattle.inventory_rules.specs.Run.{journal_of}
use Rattle.inventory_rules.specs.Transactions.{effect, refused}
use Rattle.inventory_rules.specs.Valid.{is_valid}
use Rattle.inventory_rules.proofs.Journals.{not_refused}
use Rattle.inventory_laws.proofs.Tests.{both_none}
use Rattle.run_past.specs.Before.{stood}
use Rattle.steps.specs.Events.{is_listed}
use Rattle.steps.specs.Events.Deed.{Commit}
use Rattle.steps.specs.declared.asked.Asked.{Asked}
use Rattle.vault.specs.Files.{IsOurs, log_file}
use Rattle.vault.specs.Vaults.{State, Waits, in_doubt, with_waiting}
use Rattle.machine.specs.Causes.{commit_refused}
use Rattle.machine.specs.Machine.{asked_change, durable, ended, freed, held_refused}
use Rattle.machine.specs.State.{Core, Image, Machine, inventory, sight, unforced}
use Rattle.vault.proofs.Goodness.{log_ours}
use Rattle.hall.specs.Commits.{IsAsked, change_asked, commit_causes}
use Rattle.hall.specs.Covered.{is_any_reuse}
use Rattle.hall.specs.Good.{AllInProgress, Is, IsKept, WasSound}
use Rattle.hall.specs.Held.{Hall, Held, IsCore}
use Rattle.hall.specs.Joined.{RefusesJoin, drawn_by, joined_held, next_behind, taken_by, unjoined, without_seats}
use Rattle.hall.specs.Seats.{ended_at, without_seat}
use Rattle.hall.specs.Steps.{Steps}
use Rattle.hall.proofs.AskedJoins.{joins_of}
use Rattle.hall.proofs.Commits.{MayCommit, commits, doubts}
use Rattle.hall.proofs.Databases.{last_left, left_lawful}
use Rattle.hall.proofs.Deciding.{IsFree, nothing_refuses}
use Rattle.hall.proofs.Declining.{declined_listed, declines, may_commit}
use Rattle.hall.proofs.Dropping.{no_later}
use Rattle.hall.proofs.Forcing.{ours_alone}
use Rattle.hall.proofs.JoinAnswers.{vault_stays}
use Rattle.hall.proofs.JoinedCore.{next_is}
use Rattle.hall.proofs.Joining.{Joins}
use Rattle.hall.proofs.Refusing.{change_alike}
use Rattle.hall.proofs.Takes.{is_quiet, takes_joined}
use Rattle.hall.proofs.Unjoined.{freed_below, none_new, still_ascending, still_noted}
use Rattle.hall.proofs.Keeping.{is_ordinary}

told_none : (told : Option History) → Told told told (GoesOn IsOurs)
told_none None = tt
told_none (Some h) = goes_none IsOurs h

not_memory : {file count : ℕ} → refusal.LogFault file count ≡ refusal.Memory → ⊥
not_memory e = absurd cc

err_is : {A : Type 0} {a b : Refusal} → (let r : Result A Refusal = Err a in r ≡ Err b) → a ≡ b
err_is e = cc

ok_is_none : {A : Type 0} {a : A} {b : Refusal} → (let r : Result A Refusal = Ok a in r ≡ Err b) → ⊥
ok_is_none e = absurd cc

-- an image in progress is as it was
image_same : (x : Change) (held : Held) (c : Core) (o : Option Image) (h : History) → AllInProgress c held o h → AllInProgress c (unjoined x held) o h
image_same x held c None h all = tt
image_same x held c (Some i) h all = record { since = all.since; durable = all.durable; stands = all.stands }

-- a hall in which a transaction didn't join for want of memory is in the state in which it was
pub unjoined_is : {S : Type 0} (told : S → Option History) (moment : S → ℕ) (faults : S → ℕ → ℕ) (x : Change) (hall : Hall S) (m : Machine) → Is told moment faults hall m
    → Is told moment faults (record { store = hall.store; held = unjoined x hall.held }) m
unjoined_is {S} told moment faults x hall m is = record {
  core = core_same is.core;
  clock = is.clock;
  counts = is.counts;
  good = record {
    lawful = is.good.lawful;
    stamped = is.good.stamped;
    space = is.good.space;
    numbers = is.good.numbers;
    bytes = is.good.bytes;
    listed = is.good.listed;
    kept = kept_same (told hall.store) is.good.kept;
  };
}
  where
    kept_same : (o : Option History) → IfSome o (λ h. WasSound hall.held.base hall.held.opened h → IsKept m hall.held h) → IfSome o (λ h. WasSound hall.held.base hall.held.opened h → IsKept m (unjoined x hall.held) h)
    kept_same None kept = tt
    kept_same (Some h) kept = λ sound.
        let k = kept sound in
        record { since = k.since; first = k.first; always = k.always; left = k.left; sure = k.sure; firm = k.firm; tickets = k.tickets; image = λ fault. image_same x hall.held m.core m.core.image h (k.image fault); backups = k.backups }

    core_same : IsCore hall.held m.core → IsCore (unjoined x hall.held) m.core
    core_same i =
        let k : ℕ = hall.held.vault.database.number + 1 in
        let list = freed (durable m.core) (unforced m.core) in
        let below = subst (λ (v : Inv). AllByRecursion (λ (a : ℕ × Segment). a.0 < v.number + 1) (freed (durable m.core) (unforced m.core))) (sym i.database) (freed_below m.core) in
        record {
          base = i.base;
          journal = i.journal;
          database = i.database;
          stamps = i.stamps;
          forced = i.forced;
          tickets = i.tickets;
          space = record {
            tickets = i.space.tickets;
            noted = λ number s there. still_noted (inventory m.core) list k (taken_by x hall.held.vault.database) hall.held.claims.freed below number s there (i.space.noted number s there);
            freed = λ number places p there within. i.space.freed number places p (none_new (inventory m.core) list k (taken_by x hall.held.vault.database) hall.held.claims.freed below number places there) within;
            ascending = still_ascending (inventory m.core) list k (taken_by x hall.held.vault.database) hall.held.claims.freed below i.space.ascending;
            next_file = i.space.next_file;
          };
          next_object = i.next_object;
          next_ticket = i.next_ticket;
          image = i.image;
          is_image = i.is_image;
          generation = i.generation;
          log_length = i.log_length;
          fault = i.fault;
        }

-- what the law says of the objects that a change doesn't touch
abbrev pub RestStays : Type 0
RestStays =
    (j : Journal) (c : Change) (v : Inv) (k : ℕ) (a : Version) → is_valid v ≡ true → AreAscending v → refused j c v ≡ None → version k v ≡ Some a → list_any (λ b. is_at (nat_cmp b.object) k) (stood c v) ≡ false
    → version k (effect c v) ≡ Some a

none_stood : (x : Change) (v : Inv) → is_quiet x ≡ true → stood x v ≡ []
none_stood (change.Backup c) v h = absurd (false≢true h)
none_stood (change.Gone c) v h = absurd (false≢true h)
none_stood (change.Move c) v h = absurd (false≢true h)
none_stood (change.Copy c) v h = absurd (false≢true h)
none_stood (change.DropCopies c) v h = absurd (false≢true h)
none_stood (change.Expire c) v h = absurd (false≢true h)
none_stood (change.Discard c) v h = absurd (false≢true h)
none_stood (change.Day day) v h = refl
none_stood (change.Policy c) v h = refl
none_stood (change.Object c) v h = refl
none_stood (change.Pool c) v h = refl
none_stood (change.Hold c) v h = refl
none_stood (change.Rebind c) v h = refl
none_stood (change.Reuse file) v h = refl
none_stood (change.DbBegin file after) v h = refl
none_stood (change.DbEnd file) v h = refl
none_stood (change.DbDelete file) v h = refl

-- the number that a change draws is below the bound of file numbers
drawn_below : (x : Change) (o : Option ℕ) (n : ℕ) → next_behind o n < 2 ^ 32 → IfSome o (λ file. file + 1 < 2 ^ 32)
drawn_below x None n h = tt
drawn_below x (Some file) n h = omega (arith, h)

module _ {S : Type 0} (told : S → Option History) (moment : S → ℕ) (faults : S → ℕ → ℕ) (clock : (s : S) → IfSome (told s) (λ h. now h ≡ moment s)) (actor : ℕ) (asked : Asked) (x : Change) (numbers : List ℕ) (hall : Hall S)
    (rest : RestStays) (free : foremost (ended_at (moment hall.store) hall.held) ≡ None) (is_asked : change_asked actor asked numbers hall.held ≡ Some x) (none : foremost (commit_causes actor asked numbers hall.held) ≡ None)
    (ascends : AreAscending hall.held.vault.database) where
  abbrev e : Entry
  e = record { actor = actor; change = x }

  pub free_of : IsFree actor asked numbers hall.held x
  free_of = nothing_refuses actor asked numbers hall.held x is_asked none

  asked_is : (m : Machine) → Is told moment faults hall m → asked_change actor asked numbers m.core ≡ Some x
  asked_is m is = sym (change_alike actor asked numbers hall.held m.core is.core) ∙ is_asked

  joined : (m : Machine) → Is told moment faults hall m → Joins actor x numbers m.core × (is_any_reuse x ≡ false) × (is_ordinary x ≡ true)
  joined m is =
      let all = none_of (ended m ++ (commit_refused actor asked numbers (sight actor m.core) ++ option_map_or (λ y. held_refused y m.core) (asked_change actor asked numbers m.core) []))
      (may_commit told moment faults actor asked numbers hall free none m is) in
      let behind = both_none (ended m) (commit_refused actor asked numbers (sight actor m.core) ++ option_map_or (λ y. held_refused y m.core) (asked_change actor asked numbers m.core) []) all in
      let parts = both_none (commit_refused actor asked numbers (sight actor m.core)) (option_map_or (λ y. held_refused y m.core) (asked_change actor asked numbers m.core) []) behind.1 in
      joins_of actor numbers m.core asked x is.good.numbers (asked_is m is) parts.0 (subst (λ o. option_map_or (λ y. held_refused y m.core) o [] ≡ []) (asked_is m is) parts.1)

  joins : (m : Machine) → Is told moment faults hall m → Joins actor x numbers m.core
  joins m is = (joined m is).0

  ascends_there : (m : Machine) → Is told moment faults hall m → AreAscending (inventory m.core)
  ascends_there m is = subst AreAscending is.core.database ascends

  pub may : (m : Machine) → Is told moment faults hall m → MayCommit actor asked x numbers m
  may m is =
      let v : Inv = inventory m.core in
      let valid : is_valid v ≡ true = last_left (λ w. is_valid w ≡ true) m.core (left_lawful m.core is.good.lawful) in
      record {
        is = asked_is m is;
        none = may_commit told moment faults actor asked numbers hall free none m is;
        joins = joins m is;
        plain = (joined m is).1;
        ordinary = (joined m is).2;
        takes = takes_joined actor x numbers m.core is.good.lawful (ascending v (ascends_there m is)).rows (joins m is) is.good.space
            (λ quiet k a there. rest (journal_of m.core.base m.core.journal) x v k a valid (ascends_there m is) (joins m is).legal there (ap (list_any (λ (b : Version). is_at (nat_cmp b.object) k)) (none_stood x v quiet)));
      }

  -- ---- what joining asks

  pub drawn : (m : Machine) → Is told moment faults hall m → IfSome (drawn_by x) (λ file. file + 1 < 2 ^ 32)
  drawn m is = drawn_below x (drawn_by x) m.core.next_file (subst (λ n. n < 2 ^ 32) (sym (next_is x m.core.next_file)) (joins m is).bound)

  pub few_of : (m : Machine) → Is told moment faults hall m → length hall.held.stamps ≤ length hall.held.vault.journal
  few_of m is = subst (λ (l : List ℕ). length l ≤ length hall.held.vault.journal) is.core.stamps (subst (λ (l : List Entry). length m.core.stamps ≤ length l) is.core.journal is.good.stamped.few)

  pub legal_always : refused no_journal x hall.held.vault.database ≡ None
  legal_always = not_refused (journal_of hall.held.base hall.held.vault.journal) no_journal x hall.held.vault.database free_of.legal

  -- ---- memory was wanted

  memory_wanted : Steps told moment faults actor (Commit asked numbers (Err refusal.Memory)) hall (record { store = hall.store; held = unjoined x hall.held })
  memory_wanted = λ m is. (
    m.contents,
    m,
    refl,
    record { number = refl; later = no_later m m.contents m refl refl; step = inl (inr refl, record { core = refl; contents = refl }) },
    unjoined_is told moment faults x hall m is,
  )

  -- ---- all that may come of it

  module _ (store : S) (counts : NoneFell (faults hall.store) (faults store)) (since : moment hall.store ≤ moment store) (soon : moment store ≤ moment hall.store + 1) (new : Held) where
    pub joined_steps : (result : Result ℕ Refusal) → ((result ≡ Err refusal.Memory → ⊥) → Told (told hall.store) (told store) (Waits meaning hall.held.vault e result new.vault))
        → OnOk result (new ≡ joined_held x numbers (with_waiting meaning hall.held.vault e) hall.held) → IfOk result (λ number. number ≡ hall.held.vault.database.number + 1)
        → IfErr result (λ why. RefusesJoin hall.held e numbers (faults hall.store) (faults store) why new (store ≡ hall.store))
        → Steps told moment faults actor (Commit asked numbers result) hall (record { store = store; held = new })
    joined_steps (Ok n) did ok number err =
        let vault : new.vault ≡ with_waiting meaning hall.held.vault e = ap (λ (h : Held). h.vault) ok ∙ vault_stays numbers _ in
        let result : Result ℕ Refusal = Ok n in
        subst (λ (h : Held). Steps told moment faults actor (Commit asked numbers (Ok n)) hall (record { store = store; held = h })) (sym ok)
        (commits told moment faults clock actor asked x numbers hall store free counts since (omega (arith, soon)) may n
        (subst (λ (w : State Inv). Told (told hall.store) (told store) (Waits meaning hall.held.vault e result w)) vault (did (λ same. ok_is_none same))) number)
    joined_steps (Err why) did ok number (inl (memory, left, same)) =
        subst (λ r. Steps told moment faults actor (Commit asked numbers (Err r)) hall (record { store = store; held = new })) (sym memory)
        (subst (λ (s : S). Steps told moment faults actor (Commit asked numbers (Err refusal.Memory)) hall (record { store = s; held = new })) (sym same) (go left))
      where
        go : (new ≡ hall.held) ⊎ (new ≡ unjoined x hall.held) → Steps told moment faults actor (Commit asked numbers (Err refusal.Memory)) hall (record { store = hall.store; held = new })
        go (inl is) = subst (λ (h : Held). Steps told moment faults actor (Commit asked numbers (Err refusal.Memory)) hall (record { store = hall.store; held = h })) (sym is)
            (declines told moment faults actor asked numbers hall refusal.Memory free (inl refl))
        go (inr is) = subst (λ (h : Held). Steps told moment faults actor (Commit asked numbers (Err refusal.Memory)) hall (record { store = hall.store; held = h })) (sym is) memory_wanted
    joined_steps (Err why) did ok number (inr (doubt, is)) =
        let file : ℕ = log_file hall.held.vault.generation in
        let count : ℕ = faults store file in
        let end : ℕ = doubt.3.0 in
        let result : Result ℕ Refusal = Err why in
        let form : new ≡ joined_held x numbers (in_doubt meaning hall.held.vault e end file count) hall.held = is ∙ ap (λ w. joined_held x numbers w hall.held) doubt.3.1 in
        subst (λ (h : Held). Steps told moment faults actor (Commit asked numbers (Err why)) hall (record { store = store; held = h })) (sym form)
        (doubts told moment faults clock actor asked x numbers hall store free counts since (omega (arith, soon)) may end file count why
        (subst (λ (w : State Inv). Told (told hall.store) (told store) (Waits meaning hall.held.vault e result w)) doubt.3.1 (did (λ same. not_memory (sym doubt.1 ∙ err_is same))))
        (log_ours hall.held.vault.generation) doubt.1 doubt.2 refl)

    -- the same over the entry that was made
    pub made_steps : (entry : Entry) → entry ≡ e → (result : Result ℕ Refusal) → ((result ≡ Err refusal.Memory → ⊥) → Told (told hall.store) (told store) (Waits meaning hall.held.vault entry result new.vault))
        → OnOk result (new ≡ joined_held entry.change numbers (with_waiting meaning hall.held.vault entry) hall.held) → IfOk result (λ number. number ≡ hall.held.vault.database.number + 1)
        → IfErr result (λ why. RefusesJoin hall.held entry numbers (faults hall.store) (faults store) why new (store ≡ hall.store))
        → Steps told moment faults actor (Commit asked numbers result) hall (record { store = store; held = new })
    made_steps entry is result did ok number err =
        joined_steps result (λ no. subst (λ (y : Entry). Told (told hall.store) (told store) (Waits meaning hall.held.vault y result new.vault)) is (did no))
        (subst (λ (y : Entry). OnOk result (new ≡ joined_held y.change numbers (with_waiting meaning hall.held.vault y) hall.held)) is ok) number
        (subst (λ (y : Entry). IfErr result (λ why. RefusesJoin hall.held y numbers (faults hall.store) (faults store) why new (store ≡ hall.store))) is err)

-- ---- the files that it changed are the vault's

over_files : (vault next : State Inv) (entry : Entry) (result : Result ℕ Refusal) (old new : Option History) → Told old new (Waits meaning vault entry result next) → Told old new (GoesOn IsOurs)
over_files vault next entry result old new t = told_map old new (Waits meaning vault entry result next) (GoesOn IsOurs) (λ h n r. ours_alone vault.generation h n r.goes) t

pub joined_files : {S : Type 0} (told : S → Option History) (faults : S → ℕ → ℕ) (held : Held) (entry : Entry) (numbers : List ℕ) (old store : S) (new : Held) (result : Result ℕ Refusal)
    → ((result ≡ Err refusal.Memory → ⊥) → Told (told old) (told store) (Waits meaning held.vault entry result new.vault))
    → IfErr result (λ why. RefusesJoin held entry numbers (faults old) (faults store) why new (store ≡ old)) → Told (told old) (told store) (GoesOn IsOurs)
joined_files told faults held entry numbers old store new (Ok n) did err = over_files held.vault new.vault entry (Ok n) (told old) (told store) (did (λ same. ok_is_none same))
joined_files {S} told faults held entry numbers old store new (Err why) did (inl (memory, left, same)) = subst (λ (s : S). Told (told old) (told s) (GoesOn IsOurs)) (sym same) (told_none (told old))
joined_files told faults held entry numbers old store new (Err why) did (inr (doubt, is)) = over_files held.vault new.vault entry (Err why) (told old) (told store) (did (λ same. not_memory (sym doubt.1 ∙ err_is same)))

-- ---- its refusals

number_listed : (a : Asked) (numbers : List ℕ) (number : ℕ) → is_listed (Commit a numbers (Ok number)) ≡ true
unfolding is_listed
number_listed a numbers number = refl

fault_listed : (a : Asked) (numbers : List ℕ) (why : Refusal) (file count : ℕ) → why ≡ refusal.LogFault file count → is_listed (Commit a numbers (Err why)) ≡ true
unfolding is_listed
fault_listed a numbers why file count is = ap (λ r. is_listed (Commit a numbers (Err r))) is

pub joined_listed : (actor : ℕ) (asked : Asked) (numbers : List ℕ) (old : Held) (e : Entry) (before after : ℕ → ℕ) (new : Held) (same : Type 0) (result : Result ℕ Refusal) → IfErr result (λ why. RefusesJoin old e numbers before after why new same)
    → is_listed (Commit asked numbers result) ≡ true
joined_listed actor asked numbers old e before after new same (Ok n) err = number_listed asked numbers n
joined_listed actor asked numbers old e before after new same (Err why) (inl h) = declined_listed actor asked numbers old why (inl h.0)
joined_listed actor asked numbers old e before after new same (Err why) (inr h) = fault_listed asked numbers why (log_file old.vault.generation) (after (log_file old.vault.generation)) h.0.1

-- ---- what is behind it

sealed_away : (numbers : List ℕ) (h : Held) → ((without_seats numbers h).base ≡ h.base) × ((without_seats numbers h).opened ≡ h.opened)
sealed_away [] h = (refl, refl)
sealed_away (n ∷ numbers) h = sealed_away numbers (without_seat n h)

-- the hall is still the one that was opened
pub parts_stay : (old new : Held) (e : Entry) (numbers : List ℕ) (before after : ℕ → ℕ) (same : Type 0) (result : Result ℕ Refusal) → OnOk result (new ≡ joined_held e.change numbers (with_waiting meaning old.vault e) old)
    → IfErr result (λ why. RefusesJoin old e numbers before after why new same) → (new.base ≡ old.base) × (new.opened ≡ old.opened)
parts_stay old new e numbers before after same (Ok n) ok err = let s = sealed_away numbers _ in (ap (λ (h : Held). h.base) ok ∙ s.0, ap (λ (h : Held). h.opened) ok ∙ s.1)
parts_stay old new e numbers before after same (Err why) ok (inl (memory, inl is, rest)) = (ap (λ (h : Held). h.base) is, ap (λ (h : Held). h.opened) is)
parts_stay old new e numbers before after same (Err why) ok (inl (memory, inr is, rest)) = (ap (λ (h : Held). h.base) is, ap (λ (h : Held). h.opened) is)
parts_stay old new e numbers before after same (Err why) ok (inr (doubt, is)) = let s = sealed_away numbers _ in (ap (λ (h : Held). h.base) is ∙ s.0, ap (λ (h : Held). h.opened) is ∙ s.1)

-- ---- what is known once nothing refuses it

pub record IsMade (actor : ℕ) (asked : Asked) (numbers : List ℕ) (moment : ℕ) (held : Held) (entry : Entry) : Type 0 where
  pub free : foremost (ended_at moment held) ≡ None
  pub of_actor : entry.actor ≡ actor
  pub is_asked : change_asked actor asked numbers held ≡ Some entry.change
  pub none : foremost (commit_causes actor asked numbers held) ≡ None
  pub ascends : AreAscending held.vault.database
  pub rest : RestStays

pub made_of : (actor : ℕ) (asked : Asked) (numbers : List ℕ) (moment : ℕ) (held : Held) (r : Result Entry Refusal) (entry : Entry) → foremost (ended_at moment held) ≡ None → IsAsked actor asked numbers held r → r ≡ Ok entry → AreAscending held.vault.database
    → RestStays → IsMade actor asked numbers moment held entry
made_of actor asked numbers moment held r entry free answer is ascends rest =
    let a = subst (IsAsked actor asked numbers held) is answer in
    record { free = free; of_actor = a.0; is_asked = a.1; none = a.2; ascends = ascends; rest = rest }

pub why_not : (actor : ℕ) (asked : Asked) (numbers : List ℕ) (held : Held) (r : Result Entry Refusal) (why : Refusal) → IsAsked actor asked numbers held r → r ≡ Err why → (why ≡ refusal.Memory) ⊎ (foremost (commit_causes actor asked numbers held) ≡ Some why)
why_not actor asked numbers held r why answer is = subst (IsAsked actor asked numbers held) is answer

entry_is : (actor : ℕ) (entry : Entry) → entry.actor ≡ actor → entry ≡ record { actor = actor; change = entry.change }
entry_is actor entry of_actor = ap (λ (a : ℕ). record { actor = a; change = entry.change }) of_actor

pub legal_of : (actor : ℕ) (asked : Asked) (numbers : List ℕ) (moment : ℕ) (held : Held) (entry : Entry) → IsMade actor asked numbers moment held entry → refused no_journal entry.change held.vault.database ≡ None
legal_of actor asked numbers moment held entry k =
    not_refused (journal_of held.base held.vault.journal) no_journal entry.change held.vault.database (nothing_refuses actor asked numbers held entry.change k.is_asked k.none).legal

pub short_of : (actor : ℕ) (asked : Asked) (numbers : List ℕ) (moment : ℕ) (held : Held) (entry : Entry) → IsMade actor asked numbers moment held entry → length (entry_form.spell entry) ≤ 2 ^ 24
short_of actor asked numbers moment held entry k =
    subst (λ (y : Entry). length (entry_form.spell y) ≤ 2 ^ 24) (sym (entry_is actor entry k.of_actor)) (nothing_refuses actor asked numbers held entry.change k.is_asked k.none).short

module _ {S : Type 0} (told : S → Option History) (moment : S → ℕ) (faults : S → ℕ → ℕ) (clock : (s : S) → IfSome (told s) (λ h. now h ≡ moment s)) (actor : ℕ) (asked : Asked) (numbers : List ℕ) (hall : Hall S) (entry : Entry)
    (k : IsMade actor asked numbers (moment hall.store) hall.held entry) where
  pub drawn_of : (m : Machine) × Is told moment faults hall m → IfSome (drawn_by entry.change) (λ file. file + 1 < 2 ^ 32)
  drawn_of (m, is) = drawn told moment faults clock actor asked entry.change numbers hall k.rest k.free k.is_asked k.none k.ascends m is

  pub made_all : (store : S) → NoneFell (faults hall.store) (faults store) → moment hall.store ≤ moment store → moment store ≤ moment hall.store + 1 → (new : Held) (result : Result ℕ Refusal)
      → ((result ≡ Err refusal.Memory → ⊥) → Told (told hall.store) (told store) (Waits meaning hall.held.vault entry result new.vault))
      → OnOk result (new ≡ joined_held entry.change numbers (with_waiting meaning hall.held.vault entry) hall.held) → IfOk result (λ number. number ≡ hall.held.vault.database.number + 1)
      → IfErr result (λ why. RefusesJoin hall.held entry numbers (faults hall.store) (faults store) why new (store ≡ hall.store))
      → Steps told moment faults actor (Commit asked numbers result) hall (record { store = store; held = new })
  made_all store counts since soon new result did ok number err =
      made_steps told moment faults clock actor asked entry.change numbers hall k.rest k.free k.is_asked k.none k.ascends store counts since soon new entry (entry_is actor entry k.of_actor) result did ok number err
