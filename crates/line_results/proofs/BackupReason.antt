-- Why a backup of the database, whole or behind another one, is refused where one actor has the machine alone, if no run ends.
use Rattle.std.proofs.Common.{◌≡◌, ◌⊎◌, inl, inr, ℕ, zero, suc, ◌==◌, Bool, true, false, if◌then◌else◌, List, [], ◌∷◌, ◌++◌, Option, None, Some, Result, Ok, Err, refl, sym, ap, subst, ◌∙◌, true≢false}
use Rattle.std.proofs.lemmas.Option.{same_Some}
use Rattle.std.specs.Prelude.{max, nat_le, nat_lt, ◌+◌, ◌-◌, ◌^◌, is_some}
use Rattle.std.specs.List.{AllByRecursion}
use Rattle.kinds.specs.Refusals.{bad_value, number_of, unless}
use Rattle.kinds.specs.declared.refusal.Holder.{Holder}
use Rattle.kinds.specs.declared.refusal.Refusal.{Refusal}
use Rattle.kinds.specs.declared.refusal.Refusal.TheVariants as refused
use Rattle.entries.specs.declared.change.Change.{Change}
use Rattle.entries.specs.declared.change.Change.TheVariants as change
use Rattle.entries.specs.declared.entry.Entry.{Entry}
use Rattle.inventory_rows.specs.Items.{count_items, most_items}
use Rattle.inventory_rows.specs.State.{Inv}
use Rattle.inventory_rules.specs.Backups.{after_refused, backup_at, is_done}
use Rattle.inventory_rules.specs.Common.{file_bound, files_refused, full_at}
use Rattle.inventory_rules.specs.Journal.{Journal}
use Rattle.inventory_rules.specs.Run.{journal_of}
use Rattle.inventory_rules.specs.Transactions.{causes, effect, refused as refused_by, sizes_refused}
use Rattle.inventory_answers.specs.Stores.{backup_lines}
use Rattle.command_steps.specs.copy_attempts.Attempts.{is_stopping, stopping}
use Rattle.command_steps.specs.copy_runs.Ends.{Unanswered}
use Rattle.command_steps.specs.db_backup.declared.taking.Taken.{Taken}
use Rattle.command_steps.specs.db_backup.Backups.{Follows, FollowsNewest}
use Rattle.command_steps.specs.db_backup.Listing.{newest_file}
use Rattle.command_steps.specs.db_backup.Taking.{Backs, Begins, BreaksOff, Completes, Continues, GivesUp, Opens, Starts, failed_file, kind_of, numbers, unwritten}
use Rattle.command_steps.specs.sessions.Waiting.{Held, Waited}
use Rattle.steps.specs.declared.image.ImageKind.TheVariants as image
use Rattle.steps.specs.declared.image.ImageReply.{ImageReply}
use Rattle.steps.specs.Calls.{Made}
use Rattle.steps.specs.Events.{Event, has_number}
use Rattle.steps.specs.Events.Deed.{Force, Image}
use Rattle.machine.specs.Alone.{Alone}
use Rattle.machine.specs.Causes.{image_refused, listed, since_refused}
use Rattle.machine.specs.Machine.{BeginsBackup, Continues as ContinuesBy, Forces, Images, Places, ended, in_progress, made}
use Rattle.machine.specs.State.{Core, Image as Picture, Machine, after as behind_all, inventory, sight}
use Rattle.machine.proofs.Elsewhere.{append-all, ended-all, foremost-all, unless-all}
use Rattle.command_steps.specs.Answers.{halt_by}
use Rattle.line_results.specs.Bounds.{IsUnfollowed, IsUnmade, IsUnmadeBehind, begins, end_refused, illegal, is_near, is_of_run}
use Rattle.line_results.specs.Resting.{Onward, RoseFrom, database, entry}
use Rattle.line_results.proofs.Backing.{own-is}
use Rattle.line_results.proofs.Bounds.{IsNoHolder, refused-all}
use Rattle.line_results.proofs.Meeting.{alone-grows}
use Rattle.line_results.proofs.Runs.{alone-none, alone-parts, one-or-none, onward-then, rose-from, rose-on}
use Rattle.line_results.proofs.Reasons.{asking-answered}
use Rattle.line_results.proofs.Told.{HasBegun, busy-by, listed-as, more-on, opened}

-- ---- refusals

-- the run ends so
abbrev Halts : Refusal → Type 0
Halts e = halt_by e ≡ None → ⊥

halts-full : Halts refused.RunFull
halts-full mild = absurd cc

halts-fault : (file count : ℕ) → Halts (refused.LogFault file count)
halts-fault file count mild = absurd cc

halts-memory : Halts refused.Memory
halts-memory mild = absurd cc

halts-as : (e f : Refusal) → e ≡ f → Halts f → Halts e
halts-as e f is h = subst Halts (sym is) h

-- what is among these is answered as it is, and else memory is wanted
among-or : (e w : Refusal) (among : Bool) → e ≡ (if among then w else refused.Memory) → (e ≡ w) ⊎ (e ≡ refused.Memory)
among-or e w true is = inl is
among-or e w false is = inr is

-- ---- the transactions

after-causes : (P : Refusal → Type 0) (after : Option ℕ) (v : Inv) → P refused.NotFound → AllByRecursion P (after_refused after v)
after-causes P None v missing = tt
after-causes P (Some file) v missing = unless-all P (is_done (backup_at file v)) refused.NotFound missing

begin-causes : (P : Refusal → Type 0) (after : Option ℕ) (j : Journal) (file : ℕ) (v : Inv) → P refused.NotFound → P bad_value → P refused.InventoryFull → AllByRecursion P (causes j (change.DbBegin file after) v)
begin-causes P after j file v missing bad full =
    append-all P (after_refused after v) (files_refused (file ∷ []) v ++ file_bound file v) (after-causes P after v missing)
    (append-all P (files_refused (file ∷ []) v) (file_bound file v) (unless-all P _ bad_value bad) (unless-all P (nat_lt (max v.next_file (file + 1)) (2 ^ 32 - 1)) refused.InventoryFull full))

sizes-so : (P : Refusal → Type 0) (w : Change) (v : Inv) → P refused.InventoryFull → AllByRecursion P (sizes_refused w v)
sizes-so P w v full =
    append-all P (unless (nat_le (count_items (effect w v)) most_items) refused.InventoryFull) (full_at v.number (2 ^ 62)) (unless-all P (nat_le (count_items (effect w v)) most_items) refused.InventoryFull full)
    (unless-all P (nat_lt (v.number + 1) (2 ^ 62)) refused.InventoryFull full)

begin-so : (P : Refusal → Type 0) (after : Option ℕ) (c : Core) (e : Refusal) → P refused.NotFound → P bad_value → P refused.InventoryFull → illegal (begins after c) c ≡ Some e → P e
begin-so P after c e missing bad full h =
    refused-all P (sight 0 c).journal (begins after c) (inventory c) e bad (begin-causes P after (sight 0 c).journal c.next_file (inventory c) missing bad full) (sizes-so P (begins after c) (inventory c) full) h

listed-so : (P : Refusal → Type 0) (o : Option Refusal) → ((e : Refusal) → o ≡ Some e → P e) → AllByRecursion P (listed o)
listed-so P None h = tt
listed-so P (Some e) h = (h e refl, tt)

no-image : (P : Refusal → Type 0) (o : Option Picture) → o ≡ None → AllByRecursion P (in_progress o)
no-image P o none = subst (λ (i : Option Picture). AllByRecursion P (in_progress i)) (sym none) tt

-- the end behind the beginning, by what is there
end-same : (after : Option ℕ) (old m : Core) (file : ℕ) → file ≡ old.next_file → m.base ≡ old.base → m.journal ≡ old.journal ++ entry (change.DbBegin old.next_file after) ∷ []
    → refused_by (sight 0 m).journal (change.DbEnd file) (inventory m) ≡ end_refused after old
end-same after old m file is base journal =
    ap (λ (n : ℕ). refused_by (journal_of m.base m.journal) (change.DbEnd n) (behind_all m.base m.journal)) is
    ∙ ap (λ (b : Inv). refused_by (journal_of b m.journal) (change.DbEnd old.next_file) (behind_all b m.journal)) base
    ∙ ap (λ (l : List Entry). refused_by (journal_of old.base l) (change.DbEnd old.next_file) (behind_all old.base l)) journal

-- ---- the beginning

-- why the first step is refused by what is there: the one that is to be followed isn't of this run, or too many transactions come behind it, or the database refuses the beginning
abbrev Bars : (after : Option ℕ) → Core → Refusal → Type 0
Bars None c why = illegal (begins None c) c ≡ Some why
Bars (Some file) c why = ((why ≡ refused.NotFound) × (is_of_run file c ≡ false)) ⊎ ((why ≡ refused.InventoryFull) × (is_near file c ≡ false)) ⊎ (illegal (begins (Some file) c) c ≡ Some why)

-- that is no fault of a file, and nothing that is held
record IsBar (after : Option ℕ) (c : Core) (why : Refusal) : Type 0 where
  bars : Bars after c why
  faultless : failed_file why ≡ None
  unheld : IsNoHolder why

unless-so : (P : Refusal → Type 0) (b : Bool) (e : Refusal) → (b ≡ false → P e) → AllByRecursion P (unless b e)
unless-so P true e h = tt
unless-so P false e h = (h refl, tt)

-- the database's refusal of the beginning
begin-bar : (after : Option ℕ) (c : Core) (e : Refusal) → (illegal (begins after c) c ≡ Some e → Bars after c e) → illegal (begins after c) c ≡ Some e → IsBar after c e
begin-bar after c e bars is = record {
  bars = bars is;
  faultless = begin-so (λ x. failed_file x ≡ None) after c e refl refl refl is;
  unheld = begin-so IsNoHolder after c e (λ h odd. cc) (λ h odd. cc) (λ h odd. cc) is;
}

first-bars : (after : Option ℕ) (c : Core) → AllByRecursion (IsBar after c) (image_refused (kind_of after) (sight 0 c))
first-bars None c = listed-so (IsBar None c) (illegal (begins None c) c) (λ e is. begin-bar None c e (λ h. h) is)
first-bars (Some file) c =
    append-all (IsBar (Some file) c) (since_refused file (sight 0 c)) (listed (illegal (begins (Some file) c) c))
    (append-all (IsBar (Some file) c) (unless (is_of_run file c) refused.NotFound) (unless (is_near file c) refused.InventoryFull)
    (unless-so (IsBar (Some file) c) (is_of_run file c) refused.NotFound (λ other. record { bars = inl (refl, other); faultless = refl; unheld = λ h odd. cc }))
    (unless-so (IsBar (Some file) c) (is_near file c) refused.InventoryFull (λ far. record { bars = inr (inl (refl, far)); faultless = refl; unheld = λ h odd. cc })))
    (listed-so (IsBar (Some file) c) (illegal (begins (Some file) c) c) (λ e is. begin-bar (Some file) c e (λ h. inr (inr h)) is))

-- the first step of a backup
begins-by : (after : Option ℕ) (old next : Machine) (answer : Result ImageReply Refusal) → Images 0 (kind_of after) old next answer → BeginsBackup 0 after (image_refused (kind_of after) (sight 0 old.core)) old next answer
begins-by None old next answer h = h
begins-by (Some file) old next answer h = h

-- one of the whole database isn't made, or one that follows the backup in a file isn't
abbrev pub IsUnmadeOf : (after : Option ℕ) → (old new : Machine) → Refusal → Type 0
IsUnmadeOf None old new why = IsUnmade None old new why
IsUnmadeOf (Some file) old new why = IsUnmadeBehind file old new why

unmade-of : (after : Option ℕ) (old new : Machine) (why : Refusal) → IsUnmade after old new why → IsUnmadeOf after old new why
unmade-of None old new why h = h
unmade-of (Some file) old new why h = inr (inr h)

bars-of : (after : Option ℕ) (old new : Machine) (why : Refusal) → Bars after old.core why → IsUnmadeOf after old new why
bars-of None old new why h = inl h
bars-of (Some file) old new why (inl other) = inl other
bars-of (Some file) old new why (inr (inl far)) = inr (inl far)
bars-of (Some file) old new why (inr (inr bad)) = inr (inr (inl bad))

-- the run ends; or it is refused by what is there, with no fault of a file; or the count of the file's faults rose
abbrev Unopened : (after : Option ℕ) → (old m : Machine) → Refusal → Type 0
Unopened after old m why = Halts why ⊎ (Bars after old.core why × (failed_file why ≡ None)) ⊎ RoseFrom old m old.core.next_file

map-all : (P Q : Refusal → Type 0) → ((e : Refusal) → P e → Q e) → (causes : List Refusal) → AllByRecursion P causes → AllByRecursion Q causes
map-all P Q h [] all = tt
map-all P Q h (e ∷ causes) all = (h e all.0, map-all P Q h causes all.1)

module _ (after : Option ℕ) (why : Refusal) (old next : Machine) (idle : old.core.image ≡ None) where
  -- the run ends; or it is refused by what is there; or the count of the file's faults rose
  begin-refused : BeginsBackup 0 after (image_refused (kind_of after) (sight 0 old.core)) old next (Err why) → Unopened after old next why
  begin-refused (inl (inl first, stays)) =
      foremost-all (Unopened after old next) _
      (append-all (Unopened after old next) (ended old) _ (ended-all (Unopened after old next) (inl halts-full) (λ file count. inl (halts-fault file count)) old)
      (append-all (Unopened after old next) (image_refused (kind_of after) (sight 0 old.core)) (in_progress old.core.image)
      (map-all (IsBar after old.core) (Unopened after old next) (λ e b. inr (inl (b.bars, b.faultless))) (image_refused (kind_of after) (sight 0 old.core)) (first-bars after old.core))
      (no-image (Unopened after old next) old.core.image idle))) why first
  begin-refused (inl (inr memory, stays)) = inl (halts-as why refused.Memory memory halts-memory)
  begin-refused (inr (none, inl (file, count, is, fault, becomes))) = inl (halts-as why (refused.LogFault file count) is (halts-fault file count))
  begin-refused (inr (none, inr (moment, is, rose, becomes))) = inr (inr rose)

  -- no other image is being written
  begin-unheld : BeginsBackup 0 after (image_refused (kind_of after) (sight 0 old.core)) old next (Err why) → IsNoHolder why
  begin-unheld (inl (inl first, stays)) =
      foremost-all IsNoHolder _
      (append-all IsNoHolder (ended old) _ (ended-all IsNoHolder (λ h is. cc) (λ file count h is. cc) old)
      (append-all IsNoHolder (image_refused (kind_of after) (sight 0 old.core)) (in_progress old.core.image)
      (map-all (IsBar after old.core) IsNoHolder (λ e b. b.unheld) (image_refused (kind_of after) (sight 0 old.core)) (first-bars after old.core)) (no-image IsNoHolder old.core.image idle))) why first
  begin-unheld (inl (inr memory, stays)) = λ h is. (let odd : refused.Memory ≡ refused.Busy h = sym memory ∙ is in cc)
  begin-unheld (inr (none, inl (file, count, is, fault, becomes))) = λ h busy. (let odd : refused.LogFault file count ≡ refused.Busy h = sym is ∙ busy in cc)
  begin-unheld (inr (none, inr (moment, is, rose, becomes))) = λ h busy. (let odd : refused.WriteFault old.core.next_file ≡ refused.Busy h = sym is ∙ busy in cc)

module _ (trusted : Type 0) (places : Places) (after : Option ℕ) where
  try-unheld : (h : Holder) (events : List Event) (old m : Machine) → old.core.image ≡ None → Begins (kind_of after) (Err (refused.Busy h)) events → Alone trusted places 0 events old m → ⊥
  try-unheld h events old m idle (inl (why, same, made)) f =
      let busy : why ≡ refused.Busy h = busy-by why h (has_number (numbers (kind_of after)) why) same in
      elim (one-or-none trusted places (Image (kind_of after) (Err why)) events old m (λ contents seen x. x) (λ contents x. refl) made f) as (λ _. ⊥) [
        | inl s ↦ begin-unheld after why old m idle (begins-by after old m (Err why) s.1) h busy
        | inr s ↦ (let odd : refused.Memory ≡ refused.Busy h = sym (same_Some why refused.Memory s.0) ∙ busy in cc)
      ]
  try-unheld h events old m idle (inr (told, same, made)) f = (let odd : refused.Busy h ≡ refused.Memory = same in cc)

  held-not : (events : List Event) (answer : Result (Unit {0}) Refusal) (old m : Machine) → old.core.image ≡ None → Held (Begins (kind_of after)) events answer → Alone trusted places 0 events old m → ⊥
  held-not events answer old m idle (h, (xs, ys, cut, tried, awaited)) f = (let parts = alone-parts trusted places 0 events xs ys old m cut f in try-unheld h xs old parts.0 idle tried parts.1)

  -- so none waits
  waited-none : (number : ℕ) (events : List Event) (old m : Machine) → old.core.image ≡ None → Waited (Begins (kind_of after)) number events → Alone trusted places 0 events old m → m ≡ old
  waited-none zero events old m idle none f = alone-none trusted places 0 events old m none f
  waited-none (suc number) events old m idle (xs, ys, cut, waited, held) f =
      let parts = alone-parts trusted places 0 events xs ys old m cut f in
      let same : parts.0 ≡ old = waited-none number xs old parts.0 idle waited parts.1 in
      absurd (held-not ys (Ok tt) old m idle held (subst (λ (x : Machine). Alone trusted places 0 ys x m) same parts.2))

  tried-refused : (why : Refusal) (events : List Event) (old m : Machine) → old.core.image ≡ None → Begins (kind_of after) (Err why) events → Alone trusted places 0 events old m → Unopened after old m why
  tried-refused why events old m idle (inl (w, same, made)) f = elim (among-or why w (has_number (numbers (kind_of after)) w) same) as (λ _. Unopened after old m why) [
    | inr memory ↦ inl (halts-as why refused.Memory memory halts-memory)
    | inl is ↦ subst (Unopened after old m) (sym is) (elim (one-or-none trusted places (Image (kind_of after) (Err w)) events old m (λ contents seen x. x) (λ contents x. refl) made f) as (λ _. Unopened after old m w) [
      | inl s ↦ begin-refused after w old m idle (begins-by after old m (Err w) s.1)
      | inr s ↦ inl (halts-as w refused.Memory (same_Some w refused.Memory s.0) halts-memory)
    ])
  ]
  tried-refused why events old m idle (inr (told, memory, made)) f = inl (halts-as why refused.Memory memory halts-memory)

  opens-refused : (why : Refusal) (events : List Event) (old m : Machine) → old.core.image ≡ None → Opens (kind_of after) events (Err why) → Alone trusted places 0 events old m → Unopened after old m why
  opens-refused why events old m idle (number, (xs, ys, cut, waited, inl (none, tried))) f =
      let parts = alone-parts trusted places 0 events xs ys old m cut f in
      let same : parts.0 ≡ old = waited-none number xs old parts.0 idle waited parts.1 in
      tried-refused why ys old m idle tried (subst (λ (x : Machine). Alone trusted places 0 ys x m) same parts.2)
  opens-refused why events old m idle (number, (xs, ys, cut, waited, inr (inl (x, held, is)))) f =
      let parts = alone-parts trusted places 0 events xs ys old m cut f in
      let same : parts.0 ≡ old = waited-none number xs old parts.0 idle waited parts.1 in
      absurd (held-not ys (Err x) old m idle held (subst (λ (x : Machine). Alone trusted places 0 ys x m) same parts.2))
  opens-refused why events old m idle (number, (xs, ys, cut, waited, inr (inr (many, none, is)))) f =
      inl (halts-as why refused.Memory (let same : ◌≡◌ {A = Result Taken Refusal} (Err why) (Err refused.Memory) = is in cc) halts-memory)

  -- ---- the end

  -- the run ends; or the database refuses the end, with no fault of a file; or the count of the file's faults rose
  abbrev Unended : (old m : Machine) → Refusal → Type 0
  Unended old m why = Halts why ⊎ ((end_refused after old.core ≡ Some why) × ((number_of why == 25) ≡ false)) ⊎ RoseFrom old m old.core.next_file

  next-refused : (t : Taken) (w : Refusal) (old m next : Machine) → HasBegun after t old m → Onward old m → m.core.base ≡ old.core.base → ContinuesBy 0 m next (Err w) → Unended old next w ⊎ (w ≡ refused.NotFound)
  next-refused t w old m next b on base (inl (inl first, stays)) =
      foremost-all (λ x. Unended old next x ⊎ (x ≡ refused.NotFound)) _
      (append-all (λ x. Unended old next x ⊎ (x ≡ refused.NotFound)) (ended m) _
      (ended-all (λ x. Unended old next x ⊎ (x ≡ refused.NotFound)) (inl (inl halts-full)) (λ file count. inl (inl (halts-fault file count))) m)
      (unless-all (λ x. Unended old next x ⊎ (x ≡ refused.NotFound)) (is_some (sight 0 m.core).image) refused.NotFound (inr refl))) w first
  next-refused t w old m next b on base (inl (inr memory, stays)) = inl (inl (halts-as w refused.Memory memory halts-memory))
  next-refused t w old m next b on base (inr (none, (i, own, inl (of, is, rose, becomes)))) =
      let same : b.written ≡ i = same_Some b.written i (sym b.there ∙ own-is m.core.image i own) in
      let into : i.file ≡ old.core.next_file = ap (λ (x : Picture). x.file) (sym same) ∙ b.into in
      inl (inr (inr (subst (λ (n : ℕ). RoseFrom old next n) into (rose-from old m next i.file on rose))))
  next-refused t w old m next b on base (inr (none, (i, own, inr (inl (of, all, is, full, becomes))))) =
      let same : b.written ≡ i = same_Some b.written i (sym b.there ∙ own-is m.core.image i own) in
      let into : i.file ≡ old.core.next_file = ap (λ (x : Picture). x.file) (sym same) ∙ b.into in
      inl (inr (inl (
        sym (end-same after old.core m.core i.file into base b.journal) ∙ full ∙ ap (λ (x : Refusal). Some x) (sym is),
        ap (λ (x : Refusal). number_of x == 25) is,
      )))
  next-refused t w old m next b on base (inr (none, (i, own, inr (inr (file, count, moment, core, is, fault, kinds, becomes))))) = inl (inl (halts-as w (refused.LogFault file count) is (halts-fault file count)))

  not-written : (w : Refusal) → w ≡ refused.NotFound → (among : Bool) → has_number (25 ∷ 31 ∷ 40 ∷ 41 ∷ 50 ∷ []) w ≡ among → (if among then w else refused.Memory) ≡ refused.Memory
  not-written w missing true is = (let odd : true ≡ false = sym is ∙ ap (λ (x : Refusal). has_number (25 ∷ 31 ∷ 40 ∷ 41 ∷ 50 ∷ []) x) missing in absurd cc)
  not-written w missing false is = refl

  step-refused : (t : Taken) (why w : Refusal) (events : List Event) (old m next : Machine) → HasBegun after t old m → Onward old m → m.core.base ≡ old.core.base → why ≡ unwritten w → Made (Image image.Next (Err w)) events
      → Alone trusted places 0 events m next → Unended old next why
  step-refused t why w events old m next b on base same made f = elim (among-or why w (has_number (25 ∷ 31 ∷ 40 ∷ 41 ∷ 50 ∷ []) w) same) as (λ _. Unended old next why) [
    | inr memory ↦ inl (halts-as why refused.Memory memory halts-memory)
    | inl is ↦ (elim (one-or-none trusted places (Image image.Next (Err w)) events m next (λ contents seen x. x) (λ contents x. refl) made f) as (λ _. Unended old next why) [
      | inl s ↦ (elim (next-refused t w old m next b on base s.1) as (λ _. Unended old next why) [
        | inl h ↦ subst (Unended old next) (sym is) h
        | inr missing ↦ inl (halts-as why refused.Memory (same ∙ not-written w missing (has_number (25 ∷ 31 ∷ 40 ∷ 41 ∷ 50 ∷ []) w) refl) halts-memory)
      ])
      | inr s ↦ inl (halts-as why refused.Memory (is ∙ same_Some w refused.Memory s.0) halts-memory)
    ])
  ]

  breaks-off : (t : Taken) (count : ℕ) (why : Refusal) (events : List Event) (old m next : Machine) → HasBegun after t old m → Onward old m → m.core.base ≡ old.core.base → BreaksOff count why events
      → Alone trusted places 0 events m next → Unended old next why
  breaks-off t count why events old m next b on base (inl (w, same, made)) f = step-refused t why w events old m next b on base same made f
  breaks-off t count why events old m next b on base (inr (inl (file, seq, memory, made))) f = inl (halts-as why refused.Memory memory halts-memory)
  breaks-off t count why events old m next b on base (inr (inr (many, memory, none))) f = inl (halts-as why refused.Memory memory halts-memory)

  continues-refused : (t : Taken) (why : Refusal) (events : List Event) (old m next : Machine) → HasBegun after t old m → Onward old m → m.core.base ≡ old.core.base → Continues events (Err why)
      → Alone trusted places 0 events m next → Unended old next why
  continues-refused t why events old m next b on base (zs, (xs, ys, cut, (same, more), breaks)) f =
      let parts = alone-parts trusted places 0 events xs ys m next cut f in
      let g = alone-grows trusted places xs m parts.0 parts.1 in
      breaks-off t _ why ys old parts.0 next (more-on trusted places after t xs old m parts.0 more b parts.1) (onward-then old m parts.0 on g.0) (g.1.1 ∙ base) breaks parts.2

  -- ---- behind a refusal

  opened-up : (why e : Refusal) (file : Option ℕ) (events : List Event) (old m new : Machine) → halt_by e ≡ None → Onward m new → Unopened after old m why → failed_file why ≡ file → GivesUp file why events e → IsUnmadeOf after old new e
  opened-up why e file events old m new mild on (inr (inr rose)) failed gives = unmade-of after old new e (inr (inr (rose-on old m new old.core.next_file rose on)))
  opened-up why e None events old m new mild on (inl halts) failed (none, is) = absurd (halts (subst (λ (x : Refusal). halt_by x ≡ None) is mild))
  opened-up why e None events old m new mild on (inr (inl (bad, free))) failed (none, is) = bars-of after old new e (subst (Bars after old.core) (sym is) bad)
  opened-up why e (Some file) events old m new mild on (inl halts) failed gives = absurd (halts (failed-mild why file failed))
    where
      failed-mild : (x : Refusal) (file : ℕ) → failed_file x ≡ Some file → halt_by x ≡ None
      failed-mild (refused.WriteFault f) file is = refl
      failed-mild x file is = absurd cc
  opened-up why e (Some file) events old m new mild on (inr (inl (bad, free))) failed gives = (let odd : None ≡ Some file = sym free ∙ failed in absurd cc)

  write-mild : (x : Refusal) → (number_of x == 25) ≡ true → halt_by x ≡ None
  write-mild (refused.WriteFault f) is = refl
  write-mild x is = absurd cc

  ended-up : (why e : Refusal) (file : ℕ) (wrote : Bool) (events : List Event) (old m new : Machine) → halt_by e ≡ None → Onward m new → Unended old m why → (number_of why == 25) ≡ wrote
      → GivesUp (if wrote then Some file else None) why events e → IsUnmadeOf after old new e
  ended-up why e file wrote events old m new mild on (inr (inr rose)) is gives = unmade-of after old new e (inr (inr (rose-on old m new old.core.next_file rose on)))
  ended-up why e file true events old m new mild on (inl halts) is gives = absurd (halts (write-mild why is))
  ended-up why e file true events old m new mild on (inr (inl (bad, other))) is gives = absurd (true≢false (sym is ∙ other))
  ended-up why e file false events old m new mild on (inl halts) is (none, same) = absurd (halts (subst (λ (x : Refusal). halt_by x ≡ None) same mild))
  ended-up why e file false events old m new mild on (inr (inl (bad, other))) is (none, same) = unmade-of after old new e (inr (inl (bad ∙ ap (λ (x : Refusal). Some x) (sym same))))

  -- ---- the force

  force-halts : (why : Refusal) (m next : Machine) → Forces 0 m next (Err why) → Halts why
  force-halts why m next (inl (inl first, stays)) = foremost-all Halts (ended m) (ended-all Halts halts-full halts-fault m) why first
  force-halts why m next (inl (inr memory, stays)) = halts-as why refused.Memory memory halts-memory
  force-halts why m next (inr (none, (file, count, is, fault, becomes))) = halts-as why (refused.LogFault file count) is (halts-fault file count)

  forced-halts : (why : Refusal) (events : List Event) (m next : Machine) → Made (Force (Err why)) events → Alone trusted places 0 events m next → Halts why
  forced-halts why events m next made f = elim (one-or-none trusted places (Force (Err why)) events m next (λ contents seen x. x) (λ contents x. refl) made f) as (λ _. Halts why) [
    | inl s ↦ force-halts why m next s.1
    | inr s ↦ halts-as why refused.Memory (same_Some why refused.Memory s.0) halts-memory
  ]

  stopping-halts : (e why : Refusal) → e ≡ stopping why → Halts why → Halts e
  stopping-halts e why is h = elim (among-or e why (is_stopping why) is) as (λ _. Halts e) [
    | inl same ↦ halts-as e why same h
    | inr memory ↦ halts-as e refused.Memory memory halts-memory
  ]

  -- ---- the whole

  starts-refused : (e : Refusal) (events : List Event) (old new : Machine) → halt_by e ≡ None → old.core.image ≡ None → Starts (kind_of after) events (Err e) → Alone trusted places 0 events old new → IsUnmadeOf after old new e
  starts-refused e events old new mild idle (why, (xs, ys, cut, opens, gives)) f =
      let parts = alone-parts trusted places 0 events xs ys old new cut f in
      opened-up why e (failed_file why) ys old parts.0 new mild (alone-grows trusted places ys parts.0 new parts.2).0 (opens-refused why xs old parts.0 idle opens parts.1) refl gives

  completes-refused : (t : Taken) (e : Refusal) (events : List Event) (old m new : Machine) → halt_by e ≡ None → HasBegun after t old m → Onward old m → m.core.base ≡ old.core.base → Completes t events (Err e)
      → Alone trusted places 0 events m new → IsUnmadeOf after old new e
  completes-refused t e events old m new mild b on base (inl (why, (xs, ys, cut, continues, gives))) f =
      let parts = alone-parts trusted places 0 events xs ys m new cut f in
      ended-up why e t.file (number_of why == 25) ys old parts.0 new mild (alone-grows trusted places ys parts.0 new parts.2).0 (continues-refused t why xs old m parts.0 b on base continues parts.1) refl gives
  completes-refused t e events old m new mild b on base (inr (seq, why, is, (xs, ys, cut, continues, made))) f =
      let parts = alone-parts trusted places 0 events xs ys m new cut f in
      absurd (stopping-halts e why is (forced-halts why ys parts.0 new made parts.2) mild)

  pub backup-reason : (e : Refusal) (events : List Event) (old new : Machine) → halt_by e ≡ None → old.core.image ≡ None → Backs (kind_of after) events (Err e) → Alone trusted places 0 events old new → IsUnmadeOf after old new e
  backup-reason e events old new mild idle (inl (x, starts, is)) f =
      let same : ◌≡◌ {A = Result Taken Refusal} (Err e) (Err x) = is in
      let one : x ≡ e = cc in
      starts-refused e events old new mild idle (subst (λ (y : Refusal). Starts (kind_of after) events (Err y)) one starts) f
  backup-reason e events old new mild idle (inr (t, (xs, ys, cut, opens, completes))) f =
      let parts = alone-parts trusted places 0 events xs ys old new cut f in
      let g = alone-grows trusted places xs old parts.0 parts.1 in
      completes-refused t e ys old parts.0 new mild (opened trusted places after t xs old parts.0 opens parts.1) g.0 g.1.1 completes parts.2

-- ---- one that follows the newest

unmade-since : (after : Option ℕ) (e : Refusal) (old mid new : Machine) → mid.core ≡ old.core → Onward old mid → IsUnmade after mid new e → IsUnmade after old new e
unmade-since after e old mid new same on (inl bad) = inl (subst (λ (c : Core). illegal (begins after c) c ≡ Some e) same bad)
unmade-since after e old mid new same on (inr (inl bad)) = inr (inl (subst (λ (c : Core). end_refused after c ≡ Some e) same bad))
unmade-since after e old mid new same on (inr (inr rose)) = inr (inr (subst (λ (c : Core). RoseFrom old new c.next_file) same (rose-from old mid new mid.core.next_file on rose)))

behind-since : (file : ℕ) (e : Refusal) (old mid new : Machine) → mid.core ≡ old.core → Onward old mid → IsUnmadeBehind file mid new e → IsUnmadeBehind file old new e
behind-since file e old mid new same on (inl (is, other)) = inl (is, subst (λ (c : Core). is_of_run file c ≡ false) same other)
behind-since file e old mid new same on (inr (inl (is, far))) = inr (inl (is, subst (λ (c : Core). is_near file c ≡ false) same far))
behind-since file e old mid new same on (inr (inr unmade)) = inr (inr (unmade-since (Some file) e old mid new same on unmade))

module _ (trusted : Type 0) (places : Places) (e : Refusal) (mild : halt_by e ≡ None) where
  follow-refused : (o : Option ℕ) (events : List Event) (old mid new : Machine) → old.core.image ≡ None → newest_file (backup_lines (database old).backups) ≡ o → mid.core ≡ old.core → Onward old mid → Follows o events (Err e)
      → Alone trusted places 0 events mid new → IsUnfollowed old new e
  follow-refused None events old mid new idle newest same on (none, is) f = (let missing : e ≡ refused.NotFound = cc in inl (missing, newest))
  follow-refused (Some file) events old mid new idle newest same on follows f =
      inr (file, newest, behind-since file e old mid new same on (backup-reason trusted places (Some file) e events mid new mild (ap (λ (c : Core). c.image) same ∙ idle) follows.order f))

  pub follow-reason : (events : List Event) (old new : Machine) → old.core.image ≡ None → FollowsNewest events (Err e) → Alone trusted places 0 events old new → IsUnfollowed old new e
  follow-reason events old new idle (inl (x, unanswered, is)) f =
      let same : x ≡ e = cc in
      absurd (asking-answered trusted places events e old new mild (subst (Unanswered events) same unanswered) f)
  follow-reason events old new idle (inr (lines, (xs, ys, cut, listed, follows))) f =
      let parts = alone-parts trusted places 0 events xs ys old new cut f in
      let list = listed-as trusted places lines xs old parts.0 listed parts.1 in
      follow-refused (newest_file lines) ys old parts.0 new idle (ap newest_file (sym list.1)) list.0 (alone-grows trusted places xs old parts.0 parts.1).0 follows parts.2
