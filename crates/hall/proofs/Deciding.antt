-- Which of the refusals of a commit is answered, that it is one of a commit's own, and what is so of a commit that nothing refuses.
use Rattle.std.proofs.Common.{◌≡◌, ◌⊎◌, inl, inr, ℕ, ◌+◌, ◌-◌, ◌≤◌, ◌^◌, Bool, true, false, cond, ◌&&◌, ◌||◌, not, nat_le, nat_lt, List, [], ◌∷◌, ◌++◌, map, length, Option, Some, None, refl, sym, ap, subst, ◌∙◌, if◌then◌else◌, arith}
use Rattle.std.specs.Prelude.{◌==◌, Err, Ok, Result}
use Rattle.std.specs.List.{AllByRecursion, find, flat_map, list_all}
use Rattle.std.specs.Option.{option_map_or}
use Rattle.std.proofs.lemmas.Bool.{and_parts, false≢true, leb-true}
use Rattle.kinds.specs.declared.change.PoolChange.TheVariants as store
use Rattle.kinds.specs.declared.change.ObjectChange.TheVariants as client
use Rattle.kinds.specs.declared.change.DefineOrDelete.TheVariants as two
use Rattle.kinds.specs.declared.change.Verb.TheVariants as verb
use Rattle.kinds.specs.declared.refusal.Holder.{Holder}
use Rattle.kinds.specs.declared.refusal.By.TheVariants as by
use Rattle.kinds.specs.declared.refusal.Holder.TheVariants as holder
use Rattle.kinds.specs.declared.refusal.Refusal.{Refusal}
use Rattle.kinds.specs.declared.refusal.Refusal.TheVariants as refusal
use Rattle.kinds.specs.Refusals.{bad_value, foremost, place_of, refusal_of, sooner_of, unless}
use Rattle.kinds.specs.Answers.{AnswersBy}
use Rattle.kinds.proofs.Order.{sooner_of-assoc}
use Rattle.item_refusals.proofs.Foremost.{foremost_append}
use Rattle.entries.specs.EntryForm.{entry as entry_form}
use Rattle.entries.specs.declared.change.Change.{Change}
use Rattle.entries.specs.declared.change.Change.TheVariants as change
use Rattle.inventory_laws.proofs.Lists.{all_of, each_also}
use Rattle.inventory_rows.specs.pool_rows.PoolRows.{PoolRows, is_sequential_at, pool_named, volume_named}
use Rattle.inventory_rows.specs.pool_rows.Segments.{delay_of, reuse_row}
use Rattle.inventory_rows.specs.pool_tables.Rows.{row_at}
use Rattle.inventory_rows.specs.version_groups.Entries.{is_nil}
use Rattle.inventory_rows.specs.volume_rows.Holdings.{least_object}
use Rattle.inventory_rows.specs.volume_rows.Volumes.{rested, reuse_since, reuse_unless_used}
use Rattle.inventory_rows.specs.volume_rows.declared.volume.Volume.{Volume}
use Rattle.inventory_rows.specs.Items.{count_items, most_items}
use Rattle.inventory_rows.specs.State.{Inv}
use Rattle.inventory_rules.specs.Journal.{Journal}
use Rattle.inventory_rules.specs.Run.{journal_of}
use Rattle.inventory_rules.specs.Transactions.{causes, effect, refused, sizes_refused, then_valid}
use Rattle.inventory_rules.specs.Valid.{is_valid}
use Rattle.steps.specs.Events.{is_listed}
use Rattle.steps.specs.Events.Deed.{Commit}
use Rattle.steps.specs.declared.asked.Asked.{Asked}
use Rattle.steps.specs.declared.asked.Asked.TheVariants as asked
use Rattle.machine.specs.Causes.{change_illegal, change_refused, is_plain, listed, of_tickets, ticket_in_use}
use Rattle.machine.specs.Changes.{all_tickets, are_so_many, change_of, copy_from, filled, is_moved, move_from, placed_change, scratch_of}
use Rattle.machine.specs.Machine.{has_file, held_by, held_refused, written_by}
use Rattle.machine.specs.State.{Core, Image, Sight, Ticket, inventory}
use Rattle.machine.proofs.Elsewhere.{append-all, append-none, foremost-all, none-held, unless-all}
use Rattle.hall.specs.Commits.{asked_unfit, change_asked, commit_causes, differ, digests_given, made_refused, unfit, unready}
use Rattle.hall.specs.Held.{Held}
use Rattle.hall.specs.Sights.{sight_of, state_of}
use Rattle.hall.proofs.Ended.{first_answers}
use Rattle.hall.proofs.Owning.{are_own, is_own, is_reuse, own_causes}
use Rattle.hall.proofs.Refusing.{differ_all}
use Rattle.hall.proofs.Unfitting.{Fits, fits, of_all, unfit_all, unless_held, unmade}

-- ---- places

own_place : (e : Refusal) → is_own e ≡ true → 6 ≤ place_of e
own_place (refusal.BadValue at) h = omega arith
own_place refusal.NotFound h = omega arith
own_place refusal.Exists h = omega arith
own_place (refusal.InUse user) h = omega arith
own_place refusal.NoDefaultClass h = omega arith
own_place refusal.BadHierarchy h = omega arith
own_place (refusal.DayBack today given) h = omega arith
own_place (refusal.Busy who) h = omega arith
own_place (refusal.Stale number) h = omega arith
own_place (refusal.Gone number) h = omega arith
own_place (refusal.DigestDiffers kept given) h = omega arith
own_place refusal.RecordFull h = omega arith
own_place refusal.InventoryFull h = omega arith
own_place _ h = absurd (false≢true h)

abbrev Late : List Refusal → Type 0
Late es = AllByRecursion (λ e. 6 ≤ place_of e) es

-- what holds of each cause that refuses the reuse of a volume
module _ (P : Refusal → Type 0) (none : P refusal.NotFound) (used : (object : ℕ) → P (refusal.InUse (by.Object object))) (early : (file day : ℕ) → P (refusal.NotYet file day)) where
  rested_all : (file delay today day : ℕ) → AllByRecursion P (refusal_of (rested file delay today day))
  rested_all file delay today day = go (nat_le delay (today - day)) where
    go : (b : Bool) → AllByRecursion P (refusal_of (cond {A = Result (Unit {0}) Refusal} b (Ok tt) (Err (refusal.NotYet file (day + delay)))))
    go true = tt
    go false = (early file (day + delay), tt)

  since_all : (file delay today : ℕ) (o : Option ℕ) → AllByRecursion P (refusal_of (reuse_since file delay today o))
  since_all file delay today None = (none, tt)
  since_all file delay today (Some day) = rested_all file delay today day

  unless_used_all : (file delay today : ℕ) (v : Volume) (o : Option ℕ) → AllByRecursion P (refusal_of (reuse_unless_used file delay today v o))
  unless_used_all file delay today v None = since_all file delay today v.emptied
  unless_used_all file delay today v (Some object) = (used object, tt)

  pub reuse_all : (file today : ℕ) (s : PoolRows) (o : Option Volume) → AllByRecursion P (refusal_of (reuse_row s file today o))
  reuse_all file today s None = (none, tt)
  reuse_all file today s (Some v) = go (not (is_sequential_at file s) || v.end == 0) where
    go : (b : Bool) → AllByRecursion P (refusal_of (cond {A = Result (Unit {0}) Refusal} b (Err refusal.NotFound) (reuse_unless_used file (delay_of (row_at v.pool s.pools)) today v (least_object v.segments))))
    go true = (none, tt)
    go false = unless_used_all file (delay_of (row_at v.pool s.pools)) today v (least_object v.segments)

reuse_late : (file today : ℕ) (s : PoolRows) (o : Option Volume) → Late (refusal_of (reuse_row s file today o))
reuse_late file today s o = reuse_all (λ e. 6 ≤ place_of e) (omega arith) (λ object. omega arith) (λ file day. omega arith) file today s o

late_own : (es : List Refusal) → are_own es ≡ true → Late es
late_own es h = each_also (λ e. is_own e ≡ true) (λ e. 6 ≤ place_of e) es (λ e is. own_place e is) (all_of is_own es h)

causes_late : (j : Journal) (c : Change) (v : Inv) → Late (causes j c v)
causes_late j (change.Reuse file) v = reuse_late file v.today v.stores (row_at file v.stores.volumes)
causes_late j c v = late_own (causes j c v) (own_causes j c v refl)

-- ---- what refuses a transaction

module _ (P : Refusal → Type 0) (bad : P bad_value) (full : P refusal.InventoryFull) where
  valid_all : (o : Option Refusal) → ((e : Refusal) → o ≡ Some e → P e) → (b : Bool) → AllByRecursion P (listed (then_valid o b))
  valid_all None h true = tt
  valid_all None h false = (bad, tt)
  valid_all (Some e) h true = (h e refl, tt)
  valid_all (Some e) h false = (h e refl, tt)

  pub illegal_all : (j : Journal) (c : Change) (v : Inv) → AllByRecursion P (causes j c v) → AllByRecursion P (listed (refused j c v))
  unfolding refused
  illegal_all j c v all =
      valid_all (foremost (causes j c v ++ sizes_refused c v))
      (foremost-all P (causes j c v ++ sizes_refused c v) (append-all P (causes j c v) (sizes_refused c v) all
      (append-all P (unless (nat_le (count_items (effect c v)) most_items) refusal.InventoryFull) (unless (nat_lt (v.number + 1) (2 ^ 62)) refusal.InventoryFull)
      (unless-all P (nat_le (count_items (effect c v)) most_items) refusal.InventoryFull full) (unless-all P (nat_lt (v.number + 1) (2 ^ 62)) refusal.InventoryFull full)))) (is_valid (effect c v))

  module _ (busy : (who : Holder) → P (refusal.Busy who)) (long : P refusal.RecordFull) where
    by_all : (test : Ticket → Bool) (ts : List Ticket) → AllByRecursion P (held_by test ts)
    by_all test ts = go (find test ts) where
      go : (o : Option Ticket) → AllByRecursion P (option_map_or (λ t. refusal.Busy (holder.Ticket t.number) ∷ []) o [])
      go None = tt
      go (Some t) = (busy (holder.Ticket t.number), tt)

    named_all : (o : Option ℕ) (f : ℕ → List Refusal) → ((n : ℕ) → AllByRecursion P (f n)) → AllByRecursion P (option_map_or f o [])
    named_all None f all = tt
    named_all (Some n) f all = all n

    written_all : (file : ℕ) (o : Option Image) → AllByRecursion P (written_by file o)
    written_all file None = tt
    written_all file (Some i) = unless-all P (not (i.file == file)) (refusal.Busy (holder.Image i.actor)) (busy (holder.Image i.actor))

    held_all : (c : Change) (core : Core) → AllByRecursion P (held_refused c core)
    held_all (change.Pool (store.Volume verb.Delete name number file capacity access)) core = named_all (volume_named name (inventory core).stores) (λ n. held_by (has_file n) core.tickets) (λ n. by_all (has_file n) core.tickets)
    held_all (change.Pool (store.Pool verb.Delete name class kind rule)) core = named_all (pool_named name (inventory core).stores) (λ n. held_by (λ t. t.place.pool == n) core.tickets) (λ n. by_all (λ t. t.place.pool == n) core.tickets)
    held_all (change.DbDelete file) core = written_all file core.image
    held_all _ core = tt

    made_all : (actor : ℕ) (c : Change) (h : Held) → AllByRecursion P (causes (journal_of h.base h.vault.journal) c h.vault.database) → AllByRecursion P (made_refused actor (Some c) h)
    made_all actor c h all =
        append-all P (change_refused actor (Some c) (sight_of actor h)) (held_refused c (state_of h))
        (append-all P (change_illegal c (sight_of actor h)) _ (illegal_all (journal_of h.base h.vault.journal) c h.vault.database all) (unless-all P _ refusal.RecordFull long))
        (held_all c (state_of h))

-- ---- what and tickets that don't go together are answered first

made_late : (actor : ℕ) (o : Option Change) (h : Held) → Late (made_refused actor o h)
made_late actor None h = tt
made_late actor (Some c) h =
    made_all (λ e. 6 ≤ place_of e) (omega arith) (omega arith) (λ who. omega arith) (omega arith) actor c h (causes_late (journal_of h.base h.vault.journal) c h.vault.database)

unready_late : (k : ℕ) → k ≤ 12 → (a : Asked) (actor : ℕ) (numbers : List ℕ) (h : Held) → AllByRecursion (λ e. k ≤ place_of e) (unready a actor numbers h)
unready_late k l a actor numbers h =
    append-all (λ e. k ≤ place_of e) (differ (digests_given a) actor numbers h) _
    (differ_all (λ e. k ≤ place_of e) (λ kept given. omega (arith, l)) (digests_given a) actor numbers h)
    (of_all (λ e. k ≤ place_of e) (λ t. unless t.is_sealed (ticket_in_use t.number)) (λ t. unless-all (λ e. k ≤ place_of e) t.is_sealed (ticket_in_use t.number) (omega (arith, l))) numbers (sight_of actor h))

-- a full run and a fault come before all of it
pub causes_behind : (actor : ℕ) (a : Asked) (numbers : List ℕ) (h : Held) → AllByRecursion (λ e. 1 ≤ place_of e) (commit_causes actor a numbers h)
causes_behind actor a numbers h =
    each_also (λ e. 6 ≤ place_of e) (λ e. 1 ≤ place_of e) (commit_causes actor a numbers h) (λ e late. omega (arith, late))
    (append-all (λ e. 6 ≤ place_of e) (unfit a numbers (sight_of actor h)) _ (unfit_all (λ e. 6 ≤ place_of e) (omega arith) (omega arith) a numbers (sight_of actor h))
    (append-all (λ e. 6 ≤ place_of e) (unready a actor numbers h) (made_refused actor (change_asked actor a numbers h) h) (unready_late 6 (omega arith) a actor numbers h)
    (made_late actor (change_asked actor a numbers h) h)))

pub unfit_first : (actor : ℕ) (a : Asked) (numbers : List ℕ) (h : Held) (e : Refusal) → foremost (unfit a numbers (sight_of actor h)) ≡ Some e → foremost (commit_causes actor a numbers h) ≡ Some e
unfit_first actor a numbers h e at =
    go (foremost-all (λ x. (x ≡ bad_value) ⊎ (x ≡ refusal.NotFound)) (unfit a numbers (sight_of actor h)) (unfit_all (λ x. (x ≡ bad_value) ⊎ (x ≡ refusal.NotFound)) (inl refl) (inr refl) a numbers (sight_of actor h)) e at)
  where
    go : ((e ≡ bad_value) ⊎ (e ≡ refusal.NotFound)) → foremost (commit_causes actor a numbers h) ≡ Some e
    go (inl is) =
        first_answers (unfit a numbers (sight_of actor h)) (unready a actor numbers h ++ made_refused actor (change_asked actor a numbers h) h) e at
        (subst (λ x. AllByRecursion (λ y. place_of x ≤ place_of y) (unready a actor numbers h ++ made_refused actor (change_asked actor a numbers h) h)) (sym is)
        (append-all (λ y. 6 ≤ place_of y) (unready a actor numbers h) (made_refused actor (change_asked actor a numbers h) h) (unready_late 6 (omega arith) a actor numbers h) (made_late actor (change_asked actor a numbers h) h)))
    go (inr is) =
        let none : change_asked actor a numbers h ≡ None = unmade a numbers (sight_of actor h) (at ∙ ap (λ x. Some x) is) in
        first_answers (unfit a numbers (sight_of actor h)) (unready a actor numbers h ++ made_refused actor (change_asked actor a numbers h) h) e at
        (subst (λ x. AllByRecursion (λ y. place_of x ≤ place_of y) (unready a actor numbers h ++ made_refused actor (change_asked actor a numbers h) h)) (sym is)
        (append-all (λ y. 12 ≤ place_of y) (unready a actor numbers h) (made_refused actor (change_asked actor a numbers h) h) (unready_late 12 (omega arith) a actor numbers h)
        (subst (λ o. AllByRecursion (λ y. 12 ≤ place_of y) (made_refused actor o h)) (sym none) tt)))

-- ---- what is answered is one of a commit's own refusals

pub own_listed : (a : Asked) (numbers : List ℕ) (e : Refusal) → is_own e ≡ true → is_listed (Commit a numbers (Err e)) ≡ true
unfolding is_listed
own_listed a numbers (refusal.BadValue at) h = refl
own_listed a numbers refusal.NotFound h = refl
own_listed a numbers refusal.Exists h = refl
own_listed a numbers (refusal.InUse user) h = refl
own_listed a numbers refusal.NoDefaultClass h = refl
own_listed a numbers refusal.BadHierarchy h = refl
own_listed a numbers (refusal.DayBack today given) h = refl
own_listed a numbers (refusal.Busy who) h = refl
own_listed a numbers (refusal.Stale number) h = refl
own_listed a numbers (refusal.Gone number) h = refl
own_listed a numbers (refusal.DigestDiffers kept given) h = refl
own_listed a numbers refusal.RecordFull h = refl
own_listed a numbers refusal.InventoryFull h = refl
own_listed a numbers _ h = absurd (false≢true h)

filled_no_reuse : (next_file : ℕ) (v : Inv) (c : Change) → is_plain c ≡ true → is_reuse (filled next_file v c) ≡ false
filled_no_reuse next_file v (change.Reuse file) h = absurd (false≢true h)
filled_no_reuse next_file v (change.Pool (store.Volume verb.Define name pool file capacity access)) h = refl
filled_no_reuse next_file v (change.Object (client.Filespace two.Define node name filespace)) h = refl
filled_no_reuse next_file v _ h = refl

given_if : {A : Type 0} (P : A → Type 0) (b : Bool) (x y : A) → P x → (if b then Some x else None) ≡ Some y → P y
given_if P true x y p h = let same : x ≡ y = cc in subst P same p
given_if P false x y p h = absurd cc

placed_no_reuse : (v : Inv) (ts : List Ticket) → is_reuse (placed_change v ts) ≡ false
placed_no_reuse v ts = go (list_all is_moved ts) where
  go : (b : Bool) → is_reuse (if b then change.Move (record { scratch = scratch_of v ts; items = flat_map (λ t. move_from t t.purpose) ts }) else change.Copy (record { scratch = scratch_of v ts; items = map copy_from ts })) ≡ false
  go true = refl
  go false = refl

-- what is asked isn't the reuse of a volume
not_reuse : (a : Asked) (numbers : List ℕ) (s : Sight) → asked_unfit a numbers s ≡ [] → (c : Change) → change_of a numbers s ≡ Some c → is_reuse c ≡ false
not_reuse (asked.Plain x) numbers s fit c is =
    let plain : is_plain x ≡ true = (and_parts (is_nil numbers) (is_plain x) (unless_held (is_nil numbers && is_plain x) bad_value fit)).1 in
    given_if (λ y. is_reuse y ≡ false) true (filled s.next_file s.inventory x) c (filled_no_reuse s.next_file s.inventory x plain) is
not_reuse (asked.Backup filespace items) numbers s fit c is = given_if (λ y. is_reuse y ≡ false) (are_so_many (length items) numbers s) _ c refl is
not_reuse (asked.Hold filespace items) numbers s fit c is = given_if (λ y. is_reuse y ≡ false) (are_so_many (length items) numbers s) _ c refl is
not_reuse asked.Placed numbers s fit c is =
    given_if (λ y. is_reuse y ≡ false) (are_so_many (length numbers) numbers s && not (is_nil numbers)) (placed_change s.inventory (all_tickets numbers s)) c (placed_no_reuse s.inventory (all_tickets numbers s)) is

abbrev AreOwn : List Refusal → Type 0
AreOwn es = AllByRecursion (λ e. is_own e ≡ true) es

made_own : (actor : ℕ) (a : Asked) (numbers : List ℕ) (h : Held) → Fits a numbers (sight_of actor h) → (o : Option Change) → change_asked actor a numbers h ≡ o → AreOwn (made_refused actor o h)
made_own actor a numbers h f None is = tt
made_own actor a numbers h f (Some c) is =
    made_all (λ e. is_own e ≡ true) refl refl (λ who. refl) refl actor c h
    (all_of is_own (causes (journal_of h.base h.vault.journal) c h.vault.database) (own_causes (journal_of h.base h.vault.journal) c h.vault.database (not_reuse a numbers (sight_of actor h) f.kind c is)))

unready_own : (a : Asked) (actor : ℕ) (numbers : List ℕ) (h : Held) → AreOwn (unready a actor numbers h)
unready_own a actor numbers h =
    append-all (λ e. is_own e ≡ true) (differ (digests_given a) actor numbers h) _ (differ_all (λ e. is_own e ≡ true) (λ kept given. refl) (digests_given a) actor numbers h)
    (of_all (λ e. is_own e ≡ true) (λ t. unless t.is_sealed (ticket_in_use t.number)) (λ t. unless-all (λ e. is_own e ≡ true) t.is_sealed (ticket_in_use t.number) refl) numbers (sight_of actor h))

pub answered_own : (actor : ℕ) (a : Asked) (numbers : List ℕ) (h : Held) (e : Refusal) → foremost (commit_causes actor a numbers h) ≡ Some e → is_own e ≡ true
answered_own actor a numbers h e at = go (foremost (unfit a numbers (sight_of actor h))) refl where
  go : (o : Option Refusal) → foremost (unfit a numbers (sight_of actor h)) ≡ o → is_own e ≡ true
  go (Some x) first =
      let both : Some x ≡ Some e = sym (unfit_first actor a numbers h x first) ∙ at in
      let same : x ≡ e = cc in
      subst (λ y. is_own y ≡ true) same (foremost-all (λ y. is_own y ≡ true) (unfit a numbers (sight_of actor h)) (unfit_all (λ y. is_own y ≡ true) refl refl a numbers (sight_of actor h)) x first)
  go None none =
      foremost-all (λ y. is_own y ≡ true) (commit_causes actor a numbers h)
      (append-all (λ y. is_own y ≡ true) (unfit a numbers (sight_of actor h)) _ (unfit_all (λ y. is_own y ≡ true) refl refl a numbers (sight_of actor h))
      (append-all (λ y. is_own y ≡ true) (unready a actor numbers h) _ (unready_own a actor numbers h)
      (made_own actor a numbers h (fits a numbers (sight_of actor h) none) (change_asked actor a numbers h) refl))) e at

-- ---- a commit that nothing refuses

-- what is asked and the tickets go together, and these are sealed; the transaction is legal where it is made, as the run's journal tells, short enough for a record, and takes away nothing that others hold
pub record IsFree (actor : ℕ) (a : Asked) (numbers : List ℕ) (h : Held) (c : Change) : Type 0 where
  pub fit : Fits a numbers (sight_of actor h)
  pub digests : differ (digests_given a) actor numbers h ≡ []
  pub whole : of_tickets (λ t. unless t.is_sealed (ticket_in_use t.number)) numbers (sight_of actor h) ≡ []
  pub legal : refused (journal_of h.base h.vault.journal) c h.vault.database ≡ None
  pub short : length (entry_form.spell (record { actor = actor; change = c })) ≤ 2 ^ 24
  pub unheld : held_refused c (state_of h) ≡ []

listed_none : (o : Option Refusal) → listed o ≡ [] → o ≡ None
listed_none None h = refl
listed_none (Some e) h = absurd cc

pub nothing_refuses : (actor : ℕ) (a : Asked) (numbers : List ℕ) (h : Held) (c : Change) → change_asked actor a numbers h ≡ Some c → foremost (commit_causes actor a numbers h) ≡ None → IsFree actor a numbers h c
nothing_refuses actor a numbers h c is none =
    let all : commit_causes actor a numbers h ≡ [] = none-held (commit_causes actor a numbers h) none in
    let first = append-none (unfit a numbers (sight_of actor h)) _ all in
    let second = append-none (unready a actor numbers h) _ first.1 in
    let ready = append-none (differ (digests_given a) actor numbers h) _ second.0 in
    let made : made_refused actor (Some c) h ≡ [] = subst (λ o. made_refused actor o h ≡ []) is second.1 in
    let third = append-none (change_refused actor (Some c) (sight_of actor h)) _ made in
    let fourth = append-none (change_illegal c (sight_of actor h)) _ third.0 in
    record {
      fit = fits a numbers (sight_of actor h) (ap foremost first.0);
      digests = ready.0;
      whole = ready.1;
      legal = listed_none (refused (journal_of h.base h.vault.journal) c h.vault.database) fourth.0;
      short = leb-true (length (entry_form.spell (record { actor = actor; change = c }))) (2 ^ 24) (unless_held _ refusal.RecordFull fourth.1);
      unheld = third.1;
    }

-- ---- as the parts of the code say it

listed_first : (o : Option Refusal) → o ≡ foremost (listed o)
listed_first None = refl
listed_first (Some e) = refl

pub made_is : (j : Journal) (actor : ℕ) (c : Change) (h : Held) (illegal long held : Option Refusal) → j ≡ journal_of h.base h.vault.journal → illegal ≡ refused j c h.vault.database
    → long ≡ foremost (unless (nat_le (length (entry_form.spell (record { actor = actor; change = c }))) (2 ^ 24)) refusal.RecordFull) → held ≡ foremost (held_refused c (state_of h))
    → sooner_of illegal (sooner_of long held) ≡ foremost (made_refused actor (Some c) h)
made_is j actor c h illegal long held run one two three =
    let first : List Refusal = change_illegal c (sight_of actor h) in
    let second : List Refusal = unless (nat_le (length (entry_form.spell (record { actor = actor; change = c }))) (2 ^ 24)) refusal.RecordFull in
    let third : List Refusal = held_refused c (state_of h) in
    let legal : illegal ≡ foremost first = one ∙ ap (λ k. refused k c h.vault.database) run ∙ listed_first (refused (journal_of h.base h.vault.journal) c h.vault.database) in
    (λ i. sooner_of (legal i) (sooner_of (two i) (three i)))
    ∙ sym (sooner_of-assoc (foremost first) (foremost second) (foremost third))
    ∙ ap (λ o. sooner_of o (foremost third)) (sym (foremost_append first second))
    ∙ sym (foremost_append (first ++ second) third)

pub answers_made : (r : Result Change Refusal) (x : Change) (o : Option Change) → AnswersBy (λ c. c) r x → Some x ≡ o → AnswersBy (λ c. Some c) r o
answers_made (Ok y) x o h is = ap Some h ∙ is
answers_made (Err e) x o h is = h

-- nothing refuses the tickets, or this does; nothing refuses the transaction, or this does
pub decided : (actor : ℕ) (a : Asked) (numbers : List ℕ) (h : Held) (c : Change) (ready made answer : Option Refusal) → None ≡ foremost (unfit a numbers (sight_of actor h)) → Some c ≡ change_asked actor a numbers h
    → ready ≡ foremost (unready a actor numbers h) → made ≡ foremost (made_refused actor (Some c) h) → sooner_of ready made ≡ answer → foremost (commit_causes actor a numbers h) ≡ answer
decided actor a numbers h c ready made answer fit is one two at =
    let rest : List Refusal = unready a actor numbers h ++ made_refused actor (change_asked actor a numbers h) h in
    let same : foremost (made_refused actor (change_asked actor a numbers h) h) ≡ made = ap (λ o. foremost (made_refused actor o h)) (sym is) ∙ sym two in
    foremost_append (unfit a numbers (sight_of actor h)) rest
    ∙ ap (λ o. sooner_of o (foremost rest)) (sym fit)
    ∙ foremost_append (unready a actor numbers h) (made_refused actor (change_asked actor a numbers h) h)
    ∙ (λ i. sooner_of (sym one i) (same i))
    ∙ at
