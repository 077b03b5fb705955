-- What is due is gone from the list, and no other went.
use Rattle.std.proofs.Common.{◌≡◌, ◌⊎◌, inl, inr, ℕ, zero, suc, ◌+◌, ◌-◌, ◌^◌, ◌<◌, ◌≤◌, ◌==◌, ◌&&◌, ◌||◌, not, nat_le, Bool, true, false, cond, is_some, if◌then◌else◌, List, [], ◌∷◌, ◌++◌, append_assoc, map, length, Option, None, Some, Result, Ok, Err, refl, sym, ap, subst, ◌∙◌, arith}
use Rattle.std.proofs.lemmas.Bool.{and_parts, eq-eqb, eqb-true, false≢true, leb-true}
use Rattle.std.proofs.lemmas.List.{append-nil}
use Rattle.std.specs.BTreeMap.{insert_entry, is_at}
use Rattle.std.specs.List.{AllByRecursion, flat_map, list_all, slice_get}
use Rattle.std.specs.Map.{keys_of, lookup, remove_entry}
use Rattle.std.specs.Option.{option_map_or}
use Rattle.std.specs.Ordering.{nat_cmp}
use Rattle.kinds.specs.Refusals.{bad_value, foremost, number_of, unless}
use Rattle.kinds.specs.declared.change.DefineOrDelete.TheVariants as two
use Rattle.kinds.specs.declared.change.ObjectChange.{ObjectChange}
use Rattle.kinds.specs.declared.change.ObjectChange.TheVariants as client
use Rattle.kinds.specs.declared.change.PoolChange.{PoolChange}
use Rattle.kinds.specs.declared.change.PoolChange.TheVariants as store
use Rattle.kinds.specs.declared.change.Verb.TheVariants as verb
use Rattle.kinds.specs.declared.refusal.Holder.{Holder}
use Rattle.kinds.specs.declared.refusal.Holder.TheVariants as holder
use Rattle.kinds.specs.declared.refusal.Refusal.{Refusal}
use Rattle.kinds.specs.declared.refusal.Refusal.TheVariants as refused
use Rattle.entries.specs.EntryForm.{entry as entry_form}
use Rattle.entries.specs.declared.change.Change.{Change}
use Rattle.entries.specs.declared.change.Change.TheVariants as change
use Rattle.entries.specs.declared.entry.Entry.{Entry}
use Rattle.inventory_rows.proofs.of_pool_tables.Counting.{apart_at, at_is}
use Rattle.inventory_rows.specs.declared.backup.Backup.{Backup}
use Rattle.inventory_rows.specs.version_groups.Entries.{all_later}
use Rattle.inventory_rows.specs.State.{Inv}
use Rattle.inventory_rules.proofs.Touched.{effect-data}
use Rattle.inventory_rules.specs.Backups.{backup_at, backup_ended}
use Rattle.inventory_rules.specs.Clients.{client_changed}
use Rattle.inventory_rules.specs.Journal.{Journal}
use Rattle.inventory_rules.specs.Stores.{backups_lowered, store_changed}
use Rattle.inventory_rules.specs.Transactions.{OnlyData, effect, refused as change_refused}
use Rattle.inventory_rules.specs.Valid.{are_apart, is_valid}
use Rattle.inventory_laws.proofs.Facts.{facts_of}
use Rattle.inventory_laws.proofs.Gone.{lookup-beside_removed}
use Rattle.inventory_laws.proofs.ScratchBack.{own_row}
use Rattle.inventory_laws.proofs.Stays.{row_at-inserted_other}
use Rattle.inventory_laws.proofs.StoreRows.{seen_same}
use Rattle.inventory_answers.specs.declared.lines.BackupLine.{BackupLine}
use Rattle.inventory_answers.specs.declared.query.Query.TheVariants as query
use Rattle.inventory_answers.specs.declared.reply.Answer.{Answer}
use Rattle.inventory_answers.specs.declared.reply.Rows.{Rows}
use Rattle.inventory_answers.specs.declared.reply.Rows.TheVariants as rows
use Rattle.inventory_answers.specs.Stores.{backup_line, backup_lines}
use Rattle.inventory_work.specs.Lists.{only}
use Rattle.item_refusals.proofs.Foremost.{foremost_append}
use Rattle.machine.proofs.Elsewhere.{foremost-all, sooner-one, unless-all}
use Rattle.machine.proofs.Histories.{inv-next}
use Rattle.machine.proofs.Runs.{fits-cut, fits-first, fits-one, fits-rises, step-rises}
use Rattle.machine.specs.Causes.{change_illegal, commit_refused}
use Rattle.machine.specs.Fits.{Fits, History, IsMadeOf, JoinsAt, Own, Step, inv, last, number_after, sight_at}
use Rattle.machine.specs.Machine.{IsAnswer}
use Rattle.machine.specs.Says.{Says}
use Rattle.machine.specs.State.{Sight}
use Rattle.copy_attempts.proofs.Facts.{made-append, some-memory}
use Rattle.copy_attempts.specs.Attempts.{Awaits}
use Rattle.copy_runs.proofs.Outcomes.{in-before, in-behind}
use Rattle.copy_runs.proofs.Returning.{inv-number}
use Rattle.copy_runs.proofs.Told.{reaches}
use Rattle.copy_runs.proofs.Whole.{asks-unmade, finish-is, last-behind}
use Rattle.copy_runs.specs.Ends.{AreAsking, Finished, first_of, last_of}
use Rattle.copy_runs.specs.Returning.{AreValid}
use Rattle.copy_runs.specs.Wanting.{IsIn}
use Rattle.copy_runs.proofs.Parts.{in-either}
use Rattle.reuse_delay.proofs.Causes.{listed-is, not-both, own-cause, refused-for}
use Rattle.reuse_delay.proofs.Members.{flat-member, only-member}
use Rattle.sessions.proofs.Changed.{awaits-none, joins-made, made-none, two-none, waited-none}
use Rattle.sessions.specs.Changing.{Joins}
use Rattle.steps.proofs.Acknowledged.{receipts-behind}
use Rattle.steps.specs.declared.asked.Asked.TheVariants.{Plain}
use Rattle.steps.specs.Calls.{Made}
use Rattle.steps.specs.Events.{Deed, Event, event, has_number, is_listed}
use Rattle.steps.specs.Events.Deed.{Ask, Commit, Force}
use Rattle.steps.specs.Receipts.{is_forced, made, receipts}
use Rattle.db_backup.specs.Backups.{Listed}
use Rattle.db_backup.specs.Deleting.{AreTried, Ended, Tried, deleted_files, file_by}
use Rattle.db_backup.specs.Listing.{due_file, due_files, is_due, is_due_by, is_listed_as, newest_file}
use Rattle.db_backup.specs.Rows.{AreDeleted, lines_at}

-- ---- what is told

abbrev rows_told : Result Answer Refusal → Rows
rows_told (Ok a) = a.rows
rows_told (Err e) = rows.Today

told-lines : (log_length : ℕ) (v : Inv) (answer : Answer) (lines : List BackupLine) → IsAnswer log_length query.History v answer → answer.rows ≡ rows.History lines → lines ≡ backup_lines v.backups
told-lines log_length v answer lines h is =
    let told : rows.History (backup_lines v.backups) ≡ h.0.rows = ap rows_told h.1 in
    let both : rows.History lines ≡ rows.History (backup_lines v.backups) = sym is ∙ ap (λ (x : Answer). x.rows) h.2 ∙ sym told in
    cc

pub asked-lines : (w : History) (actor : ℕ) (a b : Own) (n : ℕ) (answer : Answer) (lines : List BackupLine) → Step w actor a (event n (Ask query.History (Ok answer))) b → answer.rows ≡ rows.History lines
    → lines ≡ lines_at w n
unfolding Says
asked-lines w actor a b n answer lines s is = told-lines s.says.1.0 (inv w n) answer lines s.says.1.1 is

-- ---- rows by number

inserted_there : {V : Type 0} (k file : ℕ) (row : V) (es : List (ℕ × V)) → k ≡ file → lookup (is_at (nat_cmp file)) (insert_entry nat_cmp es k row) ≡ Some row
inserted_there k file row es same = subst (λ (n : ℕ). lookup (is_at (nat_cmp n)) (insert_entry nat_cmp es k row) ≡ Some row) same (own_row k row es)

none-at : {V : Type 0} (file : ℕ) (es : List (ℕ × V)) → list_all (λ b. not (file == b)) (keys_of es) ≡ true → lookup (is_at (nat_cmp file)) es ≡ None
none-at file [] h = refl
none-at {V} file (e ∷ es) h =
    let parts = and_parts (not (file == e.0)) (list_all (λ b. not (file == b)) (keys_of es)) h in
    ap (λ (t : Bool). cond t (Some e.1) (lookup (is_at (nat_cmp file)) es)) (apart_at file e.0 (λ s. false≢true (ap not (sym (eq-eqb file e.0 s)) ∙ parts.0))) ∙ none-at file es parts.1

-- where no key stands twice none is left of one that was taken out
removed_none : {V : Type 0} (file : ℕ) (es : List (ℕ × V)) → are_apart (keys_of es) ≡ true → lookup (is_at (nat_cmp file)) (remove_entry (is_at (nat_cmp file)) es) ≡ None
removed_none file [] h = refl
removed_none {V} file (e ∷ es) h =
    let parts = and_parts (list_all (λ b. not (e.0 == b)) (keys_of es)) (are_apart (keys_of es)) h in
    elim (is_at (nat_cmp file) e.0) as (λ t. is_at (nat_cmp file) e.0 ≡ t → lookup (is_at (nat_cmp file)) (cond t es (e ∷ remove_entry (is_at (nat_cmp file)) es)) ≡ None) [
      | true ↦ λ here. none-at file es (subst (λ (n : ℕ). list_all (λ b. not (n == b)) (keys_of es) ≡ true) (sym (at_is file e.0 here)) parts.0)
      | false ↦ λ there. ap (λ (t : Bool). cond t (Some e.1) (lookup (is_at (nat_cmp file)) (remove_entry (is_at (nat_cmp file)) es))) there ∙ removed_none file es parts.1
    ] refl

apart-behind : (xs ys : List ℕ) → are_apart (xs ++ ys) ≡ true → are_apart ys ≡ true
apart-behind [] ys h = h
apart-behind (x ∷ xs) ys h = apart-behind xs ys (and_parts (list_all (λ b. not (x == b)) (xs ++ ys)) (are_apart (xs ++ ys)) h).1

backups-apart : (v : Inv) → is_valid v ≡ true → are_apart (keys_of v.backups) ≡ true
backups-apart v valid = apart-behind (keys_of v.stores.volumes) (keys_of v.backups) (facts_of v valid).files_apart

-- ---- a backup that isn't on the list any more doesn't come back

module _ (file number : ℕ) where
  abbrev counts : Option Backup → Bool
  counts o = option_map_or (λ b. b.number == number) o false

  abbrev has : List (ℕ × Backup) → Bool
  has backups = counts (lookup (is_at (nat_cmp file)) backups)

  mapped : (f : Backup → Backup) → ((b : Backup) → (f b).number ≡ b.number) → (backups : List (ℕ × Backup)) → has (map (λ (b : ℕ × Backup). (b.0, f b.1)) backups) ≡ has backups
  mapped f same [] = refl
  mapped f same (b ∷ backups) = elim (is_at (nat_cmp file) b.0) as
      (λ t. counts (cond t (Some (f b.1)) (lookup (is_at (nat_cmp file)) (map (λ (b : ℕ × Backup). (b.0, f b.1)) backups))) ≡ counts (cond t (Some b.1) (lookup (is_at (nat_cmp file)) backups))) [
        | true ↦ ap (λ (k : ℕ). k == number) (same b.1)
        | false ↦ mapped f same backups
      ]

  lowered_so : (pool : Option ℕ) (delay : ℕ) (backups : List (ℕ × Backup)) → has (backups_lowered pool delay backups) ≡ has backups
  lowered_so None delay backups = refl
  lowered_so (Some pool) delay backups = mapped _ (λ b. refl) backups

  ended_so : (k : ℕ) (o : Option Backup) (backups : List (ℕ × Backup)) → lookup (is_at (nat_cmp k)) backups ≡ o → has (backup_ended k o backups) ≡ has backups
  ended_so k None backups at = refl
  ended_so k (Some b) backups at = seen_same counts k file b (record b { is_done = true }) backups at refl

  stores_so : (x : PoolChange) (v : Inv) → has (store_changed x v).backups ≡ has v.backups
  stores_so (store.DevClass what name capacity) v = refl
  stores_so (store.Pool verb.Define name class kind rule) v = refl
  stores_so (store.Pool verb.Update name class kind rule) v = lowered_so _ rule.reuse_delay v.backups
  stores_so (store.Pool verb.Delete name class kind rule) v = refl
  stores_so (store.Volume verb.Define name other k capacity access) v = refl
  stores_so (store.Volume verb.Update name other k capacity access) v = refl
  stores_so (store.Volume verb.Delete name other k capacity access) v = refl

  clients_so : (x : ObjectChange) (v : Inv) → has (client_changed x v).backups ≡ has v.backups
  clients_so (client.Node two.Define name domain) v = refl
  clients_so (client.Node two.Delete name domain) v = refl
  clients_so (client.Filespace two.Define node name k) v = refl
  clients_so (client.Filespace two.Delete node name k) v = refl

  of_data : (v w : Inv) → OnlyData v w → has w.backups ≡ has v.backups
  of_data v w o = ap has o.backups

  as_before : {new old : Bool} → new ≡ old → new ≡ true → old ≡ true
  as_before same h = sym same ∙ h

  -- one that begins has a number of its own
  begun_so : (k : ℕ) (row : Backup) (backups : List (ℕ × Backup)) → (row.number == number) ≡ false → has (insert_entry nat_cmp backups k row) ≡ true → has backups ≡ true
  begun_so k row backups other h = elim (k == file) as (λ t. (k == file) ≡ t → has backups ≡ true) [
    | true ↦ λ same. absurd (false≢true (sym other ∙ sym (ap counts (inserted_there k file row backups (eqb-true k file same))) ∙ h))
    | false ↦ λ apart. as_before (ap counts (row_at-inserted_other k file row backups (λ s. false≢true (sym apart ∙ eq-eqb k file s)))) h
  ] refl

  gone_so : (k : ℕ) (backups : List (ℕ × Backup)) → are_apart (keys_of backups) ≡ true → has (remove_entry (is_at (nat_cmp k)) backups) ≡ true → has backups ≡ true
  gone_so k backups apart h = elim (k == file) as (λ t. (k == file) ≡ t → has backups ≡ true) [
    | true ↦ λ same. absurd (false≢true (sym (ap counts (removed_none file backups apart)) ∙ subst (λ (n : ℕ). has (remove_entry (is_at (nat_cmp n)) backups) ≡ true) (eqb-true k file same) h))
    | false ↦ λ other. as_before (ap counts (lookup-beside_removed (is_at (nat_cmp k)) (is_at (nat_cmp file)) (λ q here. apart_at file q (λ e. false≢true (sym other ∙ eq-eqb k file (at_is k q here ∙ sym e)))) backups)) h
  ] refl

  other_number : (v : Inv) → number ≤ v.number → (v.number + 1 == number) ≡ false
  other_number v past = elim (v.number + 1 == number) as (λ t. (v.number + 1 == number) ≡ t → t ≡ false) [
    | true ↦ λ same. absurd (let is : v.number + 1 ≡ number = eqb-true (v.number + 1) number same in omega (arith, past, is))
    | false ↦ λ _. refl
  ] refl

  -- behind a transaction it is listed only where it was
  pub was_listed : (c : Change) (v : Inv) → is_valid v ≡ true → number ≤ v.number → has (effect c v).backups ≡ true → has v.backups ≡ true
  unfolding effect
  was_listed (change.Day day) v valid past h = h
  was_listed (change.Policy x) v valid past h = h
  was_listed (change.Object x) v valid past h = as_before (clients_so x v) h
  was_listed (change.Pool x) v valid past h = as_before (stores_so x v) h
  was_listed (change.Backup x) v valid past h = as_before (of_data v (effect (change.Backup x) v) (effect-data (change.Backup x) v refl)) h
  was_listed (change.Hold x) v valid past h = as_before (of_data v (effect (change.Hold x) v) (effect-data (change.Hold x) v refl)) h
  was_listed (change.Rebind x) v valid past h = as_before (of_data v (effect (change.Rebind x) v) (effect-data (change.Rebind x) v refl)) h
  was_listed (change.Gone x) v valid past h = as_before (of_data v (effect (change.Gone x) v) (effect-data (change.Gone x) v refl)) h
  was_listed (change.Move x) v valid past h = as_before (of_data v (effect (change.Move x) v) (effect-data (change.Move x) v refl)) h
  was_listed (change.Copy x) v valid past h = as_before (of_data v (effect (change.Copy x) v) (effect-data (change.Copy x) v refl)) h
  was_listed (change.DropCopies x) v valid past h = as_before (of_data v (effect (change.DropCopies x) v) (effect-data (change.DropCopies x) v refl)) h
  was_listed (change.Expire x) v valid past h = as_before (of_data v (effect (change.Expire x) v) (effect-data (change.Expire x) v refl)) h
  was_listed (change.Discard x) v valid past h = as_before (of_data v (effect (change.Discard x) v) (effect-data (change.Discard x) v refl)) h
  was_listed (change.Reuse k) v valid past h = as_before (of_data v (effect (change.Reuse k) v) (effect-data (change.Reuse k) v refl)) h
  was_listed (change.DbBegin k after) v valid past h = begun_so k _ v.backups (other_number v past) h
  was_listed (change.DbEnd k) v valid past h = as_before (ended_so k (lookup (is_at (nat_cmp k)) v.backups) v.backups refl) h
  was_listed (change.DbDelete k) v valid past h = gone_so k v.backups (backups-apart v valid) h

-- ---- and over several

entry-at : (journal : List Entry) (k : ℕ) → k < length journal → (e : Entry) × (slice_get journal k ≡ Some e)
entry-at [] k l = absurd (omega (arith, l))
entry-at (e ∷ journal) zero l = (e, refl)
entry-at (e ∷ journal) (suc k) l = entry-at journal k (omega (arith, l))

abbrev Has : History → (file number n : ℕ) → Type 0
Has w file number n = has file number (inv w n).backups ≡ true

one-back : (w : History) (file number n : ℕ) → AreValid w → w.base.number ≤ n → n + 1 ≤ last w → number ≤ n → Has w file number (n + 1) → Has w file number n
one-back w file number n valid low high past h =
    let inside : n - w.base.number < length w.journal = omega arith in
    let e = entry-at w.journal (n - w.base.number) inside in
    let up : n ≤ last w = omega arith in
    let this : (inv w n).number ≡ n = inv-number w n low up in
    let past_then : number ≤ (inv w n).number = omega arith in
    was_listed file number e.0.change (inv w n) (valid n low up) past_then (subst (λ (v : Inv). has file number v.backups ≡ true) (inv-next w n e.0 low e.1) h)

back : (w : History) (file number n more : ℕ) → AreValid w → w.base.number ≤ n → n + more ≤ last w → number ≤ n → Has w file number (n + more) → Has w file number n
back w file number n zero valid low high past h = subst (λ (m : ℕ). Has w file number m) (none n) h where
  none : (k : ℕ) → k + 0 ≡ k
  none k = omega arith
back w file number n (suc more) valid low high past h =
    let same : n + suc more ≡ (n + more) + 1 = omega arith in
    let under : w.base.number ≤ n + more = omega arith in
    let above : (n + more) + 1 ≤ last w = omega (arith, high) in
    let still : number ≤ n + more = omega arith in
    back w file number n more valid low (omega (arith, high)) past (one-back w file number (n + more) valid under above still (subst (λ (m : ℕ). Has w file number m) same h))

none-counts : (file number : ℕ) (o : Option Backup) → is_some o ≡ false → counts file number o ≡ false
none-counts file number None h = refl
none-counts file number (Some b) h = absurd cc

-- one that isn't there at a number isn't at a later one, as it was
gone-stays : (w : History) (file number n m : ℕ) → AreValid w → w.base.number ≤ n → number ≤ n → n ≤ m → m ≤ last w → is_some (backup_at file (inv w n)) ≡ false → has file number (inv w m).backups ≡ false
gone-stays w file number n m valid low past up high none = elim (has file number (inv w m).backups) as (λ t. has file number (inv w m).backups ≡ t → t ≡ false) [
  | true ↦ λ there. absurd (
      let same : n + (m - n) ≡ m = omega arith in
      let was : Has w file number n = back w file number n (m - n) valid low (omega arith) past (subst (λ (k : ℕ). Has w file number k) (sym same) there) in
      false≢true (sym (none-counts file number (backup_at file (inv w n)) none) ∙ was))
  | false ↦ λ _. refl
] refl

-- ---- one that was tried

-- at a number between these the backup isn't on the list
abbrev IsGoneBetween : History → (file from to : ℕ) → Type 0
IsGoneBetween w file from to = (m : ℕ) × (from ≤ m) × (m ≤ to) × (w.base.number ≤ m) × (is_some (backup_at file (inv w m)) ≡ false)

wider : (w : History) (file f t from to : ℕ) → from ≤ f → t ≤ to → IsGoneBetween w file f t → IsGoneBetween w file from to
wider w file f t from to low high (m, a, b, base, none) =
    let first : from ≤ m = omega (arith, low, a) in
    let end : m ≤ to = omega (arith, high, b) in
    (m, first, end, base, none)

deleted-none : (file : ℕ) (v : Inv) → is_valid v ≡ true → is_some (backup_at file (effect (change.DbDelete file) v)) ≡ false
unfolding effect
deleted-none file v valid = ap is_some (removed_none file v.backups (backups-apart v valid))

joined-gone : (w : History) (actor n next_file file : ℕ) (a b : Own) (joined : Option Change) → AreValid w → w.base.number ≤ n → n ≤ last w → a.reached ≤ n → b.reached ≡ number_after n joined
    → IsMadeOf (Plain (change.DbDelete file)) [] (sight_at w a n next_file) joined → JoinsAt w actor n joined → IsGoneBetween w file a.reached b.reached
joined-gone w actor n next_file file a b None valid low high since reached is at = absurd is
joined-gone w actor n next_file file a b (Some d) valid low high since reached is at =
    let shape : Some (change.DbDelete file) ≡ Some d = is in
    let same : d ≡ change.DbDelete file = cc in
    let next : inv w (n + 1) ≡ effect d (inv w n) = inv-next w n (record { actor = actor; change = d }) low at in
    let first : a.reached ≤ n + 1 = omega (arith, since) in
    let end : n + 1 ≤ b.reached = omega (arith, reached) in
    let base : w.base.number ≤ n + 1 = omega (arith, low) in
    (n + 1, first, end, base, ap (λ (v : Inv). is_some (backup_at file v)) (next ∙ ap (λ (c : Change). effect c (inv w n)) same) ∙ deleted-none file (inv w n) (valid n low high))

made-gone : (w : History) (actor n file number : ℕ) (a b : Own) → AreValid w → Step w actor a (event n (Commit (Plain (change.DbDelete file)) [] (Ok number))) b → IsGoneBetween w file a.reached b.reached
made-gone w actor n file number a b valid s = joined-gone w actor n s.next_file file a b s.joined valid s.begun s.within s.since s.has.reached s.joins s.joins_at

abbrev pub IsTen : Refusal → Type 0
IsTen e = (number_of e == 10) ≡ true

ten-not : (e f : Refusal) → IsTen e → e ≡ f → (number_of f == 10) ≡ false → ⊥
ten-not e f ten same other = false≢true (sym other ∙ ap (λ (x : Refusal). number_of x == 10) (sym same) ∙ ten)

has-ten : (e : Refusal) → IsTen e → has_number (10 ∷ []) e ≡ true
has-ten e ten = subst (λ (k : ℕ). (10 == k || false) ≡ true) (sym (eqb-true (number_of e) 10 ten)) refl

unless-not : (b : Bool) (e f : Refusal) → foremost (unless b e) ≡ Some f → b ≡ false
unless-not true e f h = absurd cc
unless-not false e f h = refl

cause-gone : (j : Journal) (file : ℕ) (v : Inv) (e : Refusal) → IsTen e → change_refused j (change.DbDelete file) v ≡ Some e → is_some (backup_at file v) ≡ false
cause-gone j file v e ten h = elim (refused-for j (change.DbDelete file) v e h) as (λ _. is_some (backup_at file v) ≡ false) [
  | inl cause ↦ unless-not (is_some (backup_at file v)) refused.NotFound e cause
  | inr other ↦ elim other as (λ _. is_some (backup_at file v) ≡ false) [
    | inl full ↦ absurd (ten-not e refused.InventoryFull ten full refl)
    | inr bad ↦ absurd (ten-not e bad_value ten bad refl)
  ]
]

refused-gone : (w : History) (actor n file : ℕ) (why : Refusal) (a b : Own) → IsTen why → Step w actor a (event n (Commit (Plain (change.DbDelete file)) [] (Err why))) b → IsGoneBetween w file a.reached b.reached
unfolding Says
refused-gone w actor n file why a b ten s =
    let v : Sight = sight_at w a n s.next_file in
    let c : Change = change.DbDelete file in
    let held : foremost (commit_refused actor (Plain c) [] v) ≡ Some why = own-cause (10 ∷ []) (commit_refused actor (Plain c) [] v) why refl s.says (has-ten why ten) in (
      n,
      s.since,
      reaches w actor a b (event n (Commit (Plain c) [] (Err why))) s,
      s.begun,
      elim (sooner-one (foremost (change_illegal c v)) _ why (sym (foremost_append (change_illegal c v) _) ∙ held)) as (λ _. is_some (backup_at file (inv w n)) ≡ false) [
        | inl found ↦ cause-gone v.journal file (inv w n) why ten (listed-is (change_refused v.journal c v.inventory) why found)
        | inr long ↦ absurd (let un : (number_of why == 10) ≡ false = foremost-all (λ (e : Refusal). (number_of e == 10) ≡ false) _
            (unless-all (λ (e : Refusal). (number_of e == 10) ≡ false) (nat_le (length (entry_form.spell (record { actor = actor; change = c }))) (2 ^ 24)) refused.RecordFull refl) why long in
            false≢true (sym un ∙ ten))
      ],
    )

force-not-ten : (e : Refusal) → is_listed (Force (Err e)) ≡ true → IsTen e → ⊥
unfolding is_listed
force-not-ten e h ten = not-both (40 ∷ 41 ∷ []) (10 ∷ []) e refl h (has-ten e ten)

pub awaits-ten : (h : Holder) (e : Refusal) (events : List Event) → Awaits h events (Err e) → IsTen e → ⊥
awaits-ten (holder.Unforced number) e events (Ok n, same, f) ten = absurd cc
awaits-ten (holder.Unforced number) e events (Err f, same, inl it) ten =
    let is : e ≡ f = cc in
    force-not-ten f it.2 (subst IsTen is ten)
awaits-ten (holder.Unforced number) e events (Err f, same, inr it) ten =
    let is : e ≡ f = cc in
    ten-not e refused.Memory ten (is ∙ some-memory f (Force (Err f)) refl it.0) refl
awaits-ten (holder.Ticket number) e events (none, inl same) ten = absurd cc
awaits-ten (holder.Ticket number) e events (none, inr (inl same)) ten = (let is : e ≡ refused.Busy (holder.Ticket number) = cc in ten-not e (refused.Busy (holder.Ticket number)) ten is refl)
awaits-ten (holder.Ticket number) e events (none, inr (inr same)) ten = (let is : e ≡ refused.Memory = cc in ten-not e refused.Memory ten is refl)
awaits-ten (holder.Image actor) e events (none, inl same) ten = absurd cc
awaits-ten (holder.Image actor) e events (none, inr (inl same)) ten = (let is : e ≡ refused.Busy (holder.Image actor) = cc in ten-not e (refused.Busy (holder.Image actor)) ten is refl)
awaits-ten (holder.Image actor) e events (none, inr (inr same)) ten = (let is : e ≡ refused.Memory = cc in ten-not e refused.Memory ten is refl)

tried-gone : (w : History) (actor file : ℕ) (a b : Own) (events : List Event) (count : ℕ) → AreValid w → Fits w actor a events b → Tried file events count → IsGoneBetween w file a.reached b.reached
tried-gone w actor file a b events count valid f (inl (number, (waited, (xs, ys, cut, some, inl (none, inl it))), is)) =
    let e : Event = event it.0 (Commit (Plain (change.DbDelete file)) [] (Ok number)) in
    let parts = fits-cut w actor a b xs ys (subst (λ (es : List Event). Fits w actor a es b) cut f) in
    let s : Step w actor parts.0 e b = fits-one w actor parts.0 b e (subst (λ (es : List Event). Fits w actor parts.0 es b) it.1 parts.2) in
    wider w file parts.0.reached b.reached a.reached b.reached (fits-rises w actor a parts.0 xs parts.1) (omega arith) (made-gone w actor it.0 file number parts.0 b valid s)
tried-gone w actor file a b events count valid f (inl (number, (waited, (xs, ys, cut, some, inl (none, inr m))), is)) = absurd cc
tried-gone w actor file a b events count valid f (inl (number, (waited, (xs, ys, cut, some, inr (inl (e, held, same)))), is)) = absurd cc
tried-gone w actor file a b events count valid f (inl (number, (waited, (xs, ys, cut, some, inr (inr h))), is)) = (let same : Ok number ≡ Err refused.Memory = h.2 in absurd cc)
tried-gone w actor file a b events count valid f (inr (why, ten, (waited, (xs, ys, cut, some, inl (none, inl it))), is)) =
    let e : Event = event it.0 (Commit (Plain (change.DbDelete file)) [] (Err why)) in
    let parts = fits-cut w actor a b xs ys (subst (λ (es : List Event). Fits w actor a es b) cut f) in
    let s : Step w actor parts.0 e b = fits-one w actor parts.0 b e (subst (λ (es : List Event). Fits w actor parts.0 es b) it.1 parts.2) in
    wider w file parts.0.reached b.reached a.reached b.reached (fits-rises w actor a parts.0 xs parts.1) (omega arith) (refused-gone w actor it.0 file why parts.0 b ten s)
tried-gone w actor file a b events count valid f (inr (why, ten, (waited, (xs, ys, cut, some, inl (none, inr m))), is)) =
    absurd (ten-not why refused.Memory ten (some-memory why (Commit (Plain (change.DbDelete file)) [] (Err why)) refl m.0) refl)
tried-gone w actor file a b events count valid f (inr (why, ten, (waited, (xs, ys, cut, some, inr (inl (e, (h, (zs, ws, apart, tried, awaited)), same)))), is)) =
    let like : why ≡ e = cc in
    absurd (awaits-ten h e ws awaited (subst IsTen like ten))
tried-gone w actor file a b events count valid f (inr (why, ten, (waited, (xs, ys, cut, some, inr (inr h))), is)) =
    let same : Err why ≡ Err refused.Memory = h.2 in
    let like : why ≡ refused.Memory = cc in
    absurd (ten-not why refused.Memory ten like refl)

all-gone : (w : History) (actor : ℕ) (a b : Own) (files : List ℕ) (events : List Event) (count file : ℕ) → AreValid w → Fits w actor a events b → AreTried files events count → IsIn file files
    → IsGoneBetween w file a.reached b.reached
all-gone w actor a b [] events count file valid f h m = absurd m
all-gone w actor a b (k ∷ files) events count file valid f (i, j, is, (xs, ys, cut, one, others)) m =
    let parts = fits-cut w actor a b xs ys (subst (λ (es : List Event). Fits w actor a es b) cut f) in
    let before : a.reached ≤ parts.0.reached = fits-rises w actor a parts.0 xs parts.1 in
    let behind : parts.0.reached ≤ b.reached = fits-rises w actor parts.0 b ys parts.2 in
    elim m as (λ _. IsGoneBetween w file a.reached b.reached) [
      | inl same ↦ wider w file a.reached parts.0.reached a.reached b.reached (omega arith) behind (subst (λ (n : ℕ). IsGoneBetween w n a.reached parts.0.reached) same (tried-gone w actor k a parts.0 xs i valid parts.1 one))
      | inr more ↦ wider w file parts.0.reached b.reached a.reached b.reached before (omega arith) (all-gone w actor parts.0 b files ys j file valid parts.2 others more)
    ]

-- ---- which are due

due-in : (to : ℕ) (lines : List BackupLine) (line : BackupLine) → IsIn line lines → is_due to lines line ≡ true → IsIn line.file (due_files to lines)
due-in to lines line i due = flat-member (due_file to lines (newest_file lines)) line.file line lines i (only-member (is_due_by to lines (newest_file lines) line) line.file line.file due refl)

only-from : {A : Type 0} (b : Bool) (line x : A) → IsIn x (only b line) → (b ≡ true) × (line ≡ x)
only-from true line x (inl same) = (refl, same)
only-from true line x (inr never) = absurd never
only-from false line x never = absurd never

due-of : (to : ℕ) (lines those : List BackupLine) (file : ℕ) → IsIn file (flat_map (due_file to lines (newest_file lines)) those) → (line : BackupLine) × IsIn line those × (line.file ≡ file) × (is_due to lines line ≡ true)
due-of to lines [] file m = absurd m
due-of to lines (l ∷ those) file m = elim (in-either file (due_file to lines (newest_file lines) l) (flat_map (due_file to lines (newest_file lines)) those) m) as
    (λ _. (line : BackupLine) × IsIn line (l ∷ those) × (line.file ≡ file) × (is_due to lines line ≡ true)) [
      | inl here ↦ (let is = only-from (is_due_by to lines (newest_file lines) l) l.file file here in (l, inl refl, is.1, is.0))
      | inr there ↦ (let is = due-of to lines those file there in (is.0, inr is.1, is.2, is.3))
    ]

-- ---- what went

pub refused-none : (file : ℕ) (events : List Event) (why : Refusal) → Joins (Plain (change.DbDelete file)) events (Err why) → made events ≡ []
refused-none file events why (waited, (xs, ys, cut, some, inl (none, f))) =
    two-none events xs ys cut (waited-none (change.DbDelete file) waited xs some) (made-none (Commit (Plain (change.DbDelete file)) [] (Err why)) ys f refl)
refused-none file events why (waited, (xs, ys, cut, some, inr (inl (e, (h, (zs, ws, apart, tried, awaited)), is)))) =
    two-none events xs ys cut (waited-none (change.DbDelete file) waited xs some)
    (two-none ys zs ws apart (made-none (Commit (Plain (change.DbDelete file)) [] (Err (refused.Busy h))) zs tried refl) (awaits-none h ws (Err e) awaited))
refused-none file events why (waited, (xs, ys, cut, some, inr (inr (all, none, is)))) = two-none events xs ys cut (waited-none (change.DbDelete file) waited xs some) (ap made none)

pub files-append : (xs ys : List Event) → deleted_files (xs ++ ys) ≡ deleted_files xs ++ deleted_files ys
files-append [] ys = refl
files-append (x ∷ xs) ys = ap (λ (l : List ℕ). file_by x.deed ++ l) (files-append xs ys) ∙ sym (append_assoc (file_by x.deed) (deleted_files xs) (deleted_files ys))

one-went : (file k : ℕ) (events : List Event) (count : ℕ) → Tried file events count → IsIn k (deleted_files (made events)) → file ≡ k
one-went file k events count (inl (number, j, is)) m =
    let it = joins-made (change.DbDelete file) number events j in
    elim (subst (λ (es : List Event). IsIn k (deleted_files es)) it.1 m) as (λ _. file ≡ k) [ inl same ↦ same | inr never ↦ absurd never ]
one-went file k events count (inr (why, ten, j, is)) m = absurd (subst (λ (es : List Event). IsIn k (deleted_files es)) (refused-none file events why j) m)

those-went : (files : List ℕ) (events : List Event) (count k : ℕ) → AreTried files events count → IsIn k (deleted_files (made events)) → IsIn k files
those-went [] events count k h m = absurd (subst (λ (es : List Event). IsIn k (deleted_files (made es))) h.0 m)
those-went (file ∷ files) events count k (i, j, is, (xs, ys, cut, one, others)) m =
    let apart : deleted_files (made events) ≡ deleted_files (made xs) ++ deleted_files (made ys) =
    ap (λ (es : List Event). deleted_files (made es)) cut ∙ ap deleted_files (made-append xs ys) ∙ files-append (made xs) (made ys) in
    elim (in-either k (deleted_files (made xs)) (deleted_files (made ys)) (subst (IsIn k) apart m)) as (λ _. IsIn k (file ∷ files)) [
      | inl first ↦ inl (one-went file k xs i one first)
      | inr more ↦ inr (those-went files ys j k others more)
    ]

-- ---- the whole

pub listed-asks : (lines : List BackupLine) (events : List Event) → Listed events lines → AreAsking events
listed-asks lines events h = subst AreAsking (sym h.2) ((query.History, Ok h.1, refl), tt)

-- behind questions, and before all was made durable, what joined is what is acknowledged
pub acknowledged : (xs us vs : List Event) → AreAsking xs → is_forced vs ≡ true → receipts vs ≡ [] → receipts (xs ++ (us ++ vs)) ≡ made us
acknowledged xs us vs asks forced none =
    ap receipts (sym (append_assoc xs us vs)) ∙ receipts-behind (xs ++ us) vs forced ∙ ap (λ (l : List Event). made (xs ++ us) ++ l) none ∙ append-nil (made (xs ++ us))
    ∙ made-append xs us ∙ ap (λ (l : List Event). l ++ made us) (asks-unmade xs asks)

line-past : (line : BackupLine) (limit : ℕ) (backups : List (ℕ × Backup)) → list_all (λ b. nat_le b.1.number limit) backups ≡ true → IsIn line (backup_lines backups) → line.number ≤ limit
line-past line limit [] all m = absurd m
line-past line limit (b ∷ backups) all m =
    let parts = and_parts (nat_le b.1.number limit) (list_all (λ b. nat_le b.1.number limit) backups) all in
    elim m as (λ _. line.number ≤ limit) [
      | inl same ↦ (let le : b.1.number ≤ limit = leb-true b.1.number limit parts.0 in subst (λ (l : BackupLine). l.number ≤ limit) same le)
      | inr more ↦ line-past line limit backups parts.1 more
    ]

between : (to : ℕ) (lines : List BackupLine) (n : ℕ) (answer : Answer) (us : List Event) (count k number m : ℕ) (told : Answer) → answer.rows ≡ rows.History lines → AreTried (due_files to lines) us count
    → AreDeleted to (deleted_files (made us)) ((event n (Ask query.History (Ok answer)) ∷ us) ++ (event k (Force (Ok number)) ∷ event m (Ask query.Today (Ok told)) ∷ []))
between to lines n answer us count k number m told is tried = λ w actor a b valid fits.
    let first : Event = event n (Ask query.History (Ok answer)) in
    let force : Event = event k (Force (Ok number)) in
    let end : Event = event m (Ask query.Today (Ok told)) in
    let r = fits-first w actor a b first (us ++ (force ∷ end ∷ [])) fits in
    let t = fits-cut w actor r.0 b us (force ∷ end ∷ []) r.2 in
    let s : Step w actor a first r.0 = r.1 in
    let q = fits-first w actor t.0 b force (end ∷ []) t.2 in
    let z : Step w actor q.0 end b = fits-one w actor q.0 b end q.2 in
    let same : lines ≡ lines_at w n = asked-lines w actor a r.0 n answer lines s is in
    let ends : last_of ((first ∷ us) ++ (force ∷ end ∷ [])) ≡ m = last-behind (first ∷ us) force (end ∷ []) in
    let up : t.0.reached ≤ k = q.1.since in
    let over : k ≤ q.0.reached = reaches w actor t.0 q.0 force q.1 in
    let on : q.0.reached ≤ m = z.since in
    let low : n ≤ r.0.reached = reaches w actor a r.0 first s in
    let valid_there : is_valid (inv w n) ≡ true = valid n s.begun s.within in
    let number_there : (inv w n).number ≡ n = inv-number w n s.begun s.within in (
      λ line i due.
          let i_told : IsIn line lines = subst (λ (ls : List BackupLine). IsIn line ls) (sym same) i in
          let due_told : is_due to lines line ≡ true = subst (λ (ls : List BackupLine). is_due to ls line ≡ true) (sym same) due in
          let g = all-gone w actor r.0 t.0 (due_files to lines) us count line.file valid t.1 tried (due-in to lines line i_told due_told) in
          let after : r.0.reached ≤ g.0 = g.1 in
          let before : g.0 ≤ t.0.reached = g.2 in
          let past : line.number ≤ (inv w n).number = line-past line (inv w n).number (inv w n).backups (facts_of (inv w n) valid_there).backups_past i in
          let past_then : line.number ≤ g.0 = omega (arith, past, number_there, low, after) in
          let till : g.0 ≤ m = omega (arith, before, up, over, on) in
          subst (λ (x : ℕ). is_listed_as line (inv w x) ≡ false) (sym ends) (gone-stays w line.file line.number g.0 m valid g.3 past_then till z.within g.4),
      λ file i.
          let d = due-of to lines lines file (those-went (due_files to lines) us count file tried i) in
          (d.0, subst (λ (ls : List BackupLine). IsIn d.0 ls) same d.1, d.2, subst (λ (ls : List BackupLine). is_due to ls d.0 ≡ true) same d.3),
    )

pub all-deleted : (to : ℕ) (lines : List BackupLine) (xs us vs ys : List Event) (count : ℕ) → Listed xs lines → ys ≡ us ++ vs → AreTried (due_files to lines) us count → Finished vs
    → AreDeleted to (deleted_files (receipts (xs ++ ys))) (xs ++ ys)
all-deleted to lines xs us vs ys count listed cut tried fin =
    let ends = finish-is vs fin in
    let same : receipts (xs ++ ys) ≡ made us = ap (λ (l : List Event). receipts (xs ++ l)) cut ∙ acknowledged xs us vs (listed-asks lines xs listed) ends.forced ends.none in
    let shape : xs ++ ys ≡ (event listed.0 (Ask query.History (Ok listed.1)) ∷ us) ++ (event fin.0 (Force (Ok fin.2)) ∷ event fin.1 (Ask query.Today (Ok fin.3)) ∷ []) =
    ap (λ (l : List Event). l ++ ys) listed.2 ∙ ap (λ (l : List Event). event listed.0 (Ask query.History (Ok listed.1)) ∷ l) (cut ∙ ap (λ (l : List Event). us ++ l) fin.4) in
    subst (λ (es : List Event). AreDeleted to (deleted_files es) (xs ++ ys)) (sym same)
    (subst (λ (es : List Event). AreDeleted to (deleted_files (made us)) es) (sym shape) (between to lines listed.0 listed.1 us count fin.0 fin.2 fin.1 fin.3 listed.3 tried))
