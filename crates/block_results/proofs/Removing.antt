-- The deletions of a filespace and of a volume aren't refused in a block, but since something is kept in the one, or lies on the other, still, or where a wait for those who have space on a volume is.
use Rattle.std.proofs.Common.{◌≡◌, ◌⊎◌, inl, inr, ℕ, is_some, true, false, if◌then◌else◌, List, [], ◌∷◌, ◌++◌, Option, None, Some, Result, Ok, Err, refl, sym, ap, subst, ◌∙◌}
use Rattle.std.proofs.lemmas.Bool.{false≢true}
use Rattle.std.proofs.lemmas.Option.{same_Some}
use Rattle.std.specs.List.{AllByRecursion, find}
use Rattle.std.specs.Option.{option_map_or}
use Rattle.std.specs.Map.{remove_entry}
use Rattle.kinds.specs.Least.{lesser}
use Rattle.kinds.specs.Refusals.{foremost, refusal_of}
use Rattle.kinds.specs.declared.change.DefineOrDelete.TheVariants as two
use Rattle.kinds.specs.declared.change.ObjectChange.TheVariants as client
use Rattle.kinds.specs.declared.change.PoolChange.TheVariants as store
use Rattle.kinds.specs.declared.change.Verb.TheVariants as verb
use Rattle.kinds.specs.declared.pool.Access.{Access}
use Rattle.kinds.specs.declared.refusal.By.TheVariants as by
use Rattle.kinds.specs.declared.refusal.Holder.TheVariants as holder
use Rattle.kinds.specs.declared.refusal.Refusal.{Refusal}
use Rattle.kinds.specs.declared.refusal.Refusal.TheVariants as refused
use Rattle.entries.specs.declared.change.Change.{Change}
use Rattle.entries.specs.declared.change.Change.TheVariants as change
use Rattle.inventory_rows.specs.object_rows.Changes as spaces
use Rattle.inventory_rows.specs.object_rows.Changes.{by_object, least_in, rows_changed, unless_used}
use Rattle.inventory_rows.specs.object_rows.Filespaces.{at_number, filespace_at}
use Rattle.inventory_rows.specs.object_rows.Rows.{Rows as Clients, with_filespaces}
use Rattle.inventory_rows.specs.pool_rows.Changes.{delete_filed, delete_volume, object_on, unless_held}
use Rattle.inventory_rows.specs.pool_rows.PoolRows.{PoolRows, volume_named}
use Rattle.inventory_rows.specs.pool_tables.Rows.{row_at}
use Rattle.inventory_rows.specs.State.{Inv}
use Rattle.inventory_rows.specs.version_groups.Entries.{if_found, on_ok}
use Rattle.inventory_rows.specs.version_groups.declared.groups.Filespace.{Filespace}
use Rattle.inventory_rules.specs.Transactions.{causes, refused as refused_by, sizes_refused}
use Rattle.inventory_rules.specs.Valid.{is_valid}
use Rattle.inventory_laws.proofs.ClientCounts.{clients_take}
use Rattle.inventory_laws.proofs.CopyCounts.{drops_take}
use Rattle.inventory_laws.proofs.Facts.{facts_of}
use Rattle.inventory_laws.proofs.Removals.{discard_all_takes}
use Rattle.inventory_laws.proofs.StoreCounts.{stores_take}
use Rattle.inventory_answers.specs.Answered.{answered, rows_of}
use Rattle.inventory_answers.specs.Clients.{filespace_lines, versions_at}
use Rattle.inventory_answers.specs.Held.{held_lines}
use Rattle.inventory_answers.specs.Stores.{volume_lines}
use Rattle.inventory_answers.specs.declared.lines.FilespaceLine.{FilespaceLine}
use Rattle.inventory_answers.specs.declared.lines.VolumeLine.{VolumeLine}
use Rattle.inventory_answers.specs.declared.query.Query.{Query}
use Rattle.inventory_answers.specs.declared.query.Query.TheVariants as query
use Rattle.inventory_answers.specs.declared.reply.Answer.{Answer}
use Rattle.inventory_answers.specs.declared.reply.Rows.{Rows}
use Rattle.inventory_answers.specs.declared.reply.Rows.TheVariants as rows
use Rattle.steps.specs.Calls.{Then}
use Rattle.steps.specs.Events.{Deed, Event, refusal}
use Rattle.steps.specs.Events.Deed.{Ask, Commit}
use Rattle.machine.specs.Causes.{change_illegal, change_refused}
use Rattle.machine.specs.Machine.{Places, ended, has_file, held_by}
use Rattle.machine.specs.Pieces.{RoseAt}
use Rattle.machine.specs.State.{Machine, Ticket, inventory, sight}
use Rattle.machine.proofs.Elsewhere.{append-all, ended-all, foremost-all, unless-all}
use Rattle.line_results.specs.command_steps.Answers.{halt_by}
use Rattle.line_results.specs.copy_attempts.Outcomes.{MetBy}
use Rattle.line_results.specs.copy_runs.Ends.{IsStopped}
use Rattle.line_results.specs.deletions.Filespaces.{FilespaceDeletion, Found, IsDeleting, IsInPlace, IsKept, IsUnfound, IsUnlisted, deleting, is_kept_by, names_in, with_node}
use Rattle.line_results.specs.deletions.Volumes as volumes
use Rattle.line_results.specs.deletions.Volumes.{VolumeDeletion, row_in}
use Rattle.line_results.specs.Removing.{IsVolume as IsThere}
use Rattle.line_results.specs.Resting.{database}
use Rattle.line_results.proofs.Asked.{is_log}
use Rattle.line_results.proofs.Bounds.{discard-takes, drop-takes, filespace-takes, listed-all, refused-all, volume-takes}
use Rattle.line_results.proofs.Emptying.{IsUnremoved, bare-sizes, names-shown, unstopped}
use Rattle.line_results.proofs.Reasons.{kept-so}
use Rattle.line_results.proofs.Removable.{its-row, named-row}
use Rattle.line_results.proofs.Types.{Names, Row}
use Rattle.block_results.specs.Filled.{IsLeastIn, IsLeastOn, IsLeftBehind}
use Rattle.block_results.specs.Processes.{IsFilespace, IsWithin, MayEmpty, MayRemove}
use Rattle.block_results.specs.Refusing.{Failed, HasNoPlace, IsRefusedFor, bounds, held_reasons, own_reasons}
use Rattle.block_results.proofs.Attempting.{none-first}
use Rattle.block_results.proofs.Fitting.{met-next}
use Rattle.block_results.proofs.Mild.{not-memory}
use Rattle.block_results.proofs.Processes.{AllStood, IsBusy, Stops, ending-never, missing-is, missing-never, stopping-stops, take-held, volume-there}

-- an object of which this holds uses it still
abbrev pub IsUsed : (Uses : ℕ → Type 0) → Refusal → Type 0
IsUsed Uses e = (object : ℕ) × (e ≡ refused.InUse (by.Object object)) × Uses object

-- a refusal of a row's own transaction is that one uses it
abbrev OnlyUsed : (Uses : ℕ → Type 0) → Refusal → Type 0
OnlyUsed Uses e = is_kept_by e ≡ true → IsUsed Uses e

-- ---- the filespace's row

-- a filespace that is there is refused to go only while something uses it
user-only : (Uses : ℕ → Type 0) (user : Option ℕ) (left : List (ℕ × Filespace)) (clients : Clients) → ((object : ℕ) → user ≡ Some object → Uses object)
    → AllByRecursion (OnlyUsed Uses) (refusal_of (with_filespaces clients (unless_used (by_object user) left)))
user-only Uses None left clients uses = tt
user-only Uses (Some object) left clients uses = ((λ kept. (object, refl, uses object refl)), tt)

module _ (places : Places) (actor : ℕ) (before after : Machine) where
  abbrev v : Inv
  v = inventory before.core

  row-own : (name : List ℕ) (filespace : ℕ) (x : Filespace) → filespace_at filespace v.clients.filespaces ≡ Some x
      → AllByRecursion (OnlyUsed (λ object. IsLeastIn filespace object v)) (causes (sight actor before.core).journal (change.Object (client.Filespace two.Delete 0 name filespace)) v)
  row-own name filespace x at =
      append-all (OnlyUsed (λ object. IsLeastIn filespace object v)) (refusal_of (rows_changed (client.Filespace two.Delete 0 name filespace) v.next_node v.clients)) []
      (subst
      (λ (o : Option Filespace). AllByRecursion (OnlyUsed (λ object. IsLeastIn filespace object v)) (refusal_of (with_filespaces v.clients
      (if_found o (λ (f : Filespace). unless_used (by_object (lesser (spaces.least_object f.groups) (least_in filespace v.clients.held))) (remove_entry (at_number filespace) v.clients.filespaces)))))) (sym at)
      (user-only (λ object. IsLeastIn filespace object v) (lesser (spaces.least_object x.groups) (least_in filespace v.clients.held)) (remove_entry (at_number filespace) v.clients.filespaces) v.clients (λ object least. (x, at, least)))) tt

  failed-kept : (d : Deed) (e : Refusal) → IsUnremoved e → Failed actor d before after e → ⊥
  failed-kept d e (inl is) h = subst (λ (x : Refusal). Failed actor d before after x) is h
  failed-kept d e (inr (inl (user, is))) h = subst (λ (x : Refusal). Failed actor d before after x) is h
  failed-kept d e (inr (inr (file, day, is))) h = subst (λ (x : Refusal). Failed actor d before after x) is h

  -- a row's own transaction is refused so only while something uses it
  bare-used : (Uses : ℕ → Type 0) (list : List Refusal) → AllByRecursion (λ y. is_kept_by y ≡ false) list → AllByRecursion (OnlyUsed Uses) list
  bare-used Uses [] h = tt
  bare-used Uses (y ∷ list) h = ((λ kept. absurd (false≢true (sym h.0 ∙ kept))), bare-used Uses list h.1)

  change-used : (Uses : ℕ → Type 0) (w : Change) → AllByRecursion (OnlyUsed Uses) (causes (sight actor before.core).journal w v) → AllByRecursion (OnlyUsed Uses) (change_refused actor (Some w) (sight actor before.core))
  change-used Uses w own =
      append-all (OnlyUsed Uses) (change_illegal w (sight actor before.core)) _
      (listed-all (OnlyUsed Uses) (refused_by (sight actor before.core).journal w v)
      (λ y is. refused-all (OnlyUsed Uses) (sight actor before.core).journal w v y (λ odd. absurd cc) own (bare-used Uses (sizes_refused w v) (bare-sizes w v)) is)) (unless-all (OnlyUsed Uses) _ refused.RecordFull (λ odd. absurd cc))

  kept-for : (Uses : ℕ → Type 0) (d : Deed) (e : Refusal) → is_kept_by e ≡ true → AllByRecursion (OnlyUsed Uses) (own_reasons actor d (sight actor before.core)) → AllByRecursion (OnlyUsed Uses) (held_reasons actor d before.core) → bounds d before.core ≡ []
      → (HasNoPlace places actor d before e → ⊥) → IsRefusedFor places actor d before after e → IsUsed Uses e
  kept-for Uses d e kept own held bound place (inl h) = foremost-all (OnlyUsed Uses) (own_reasons actor d (sight actor before.core)) own e h kept
  kept-for Uses d e kept own held bound place (inr (inl h)) = absurd (place h)
  kept-for Uses d e kept own held bound place (inr (inr (inl h))) = foremost-all (OnlyUsed Uses) (held_reasons actor d before.core) held e h kept
  kept-for Uses d e kept own held bound place (inr (inr (inr (inl h)))) = absurd (none-first e (bounds d before.core) bound h)
  kept-for Uses d e kept own held bound place (inr (inr (inr (inr (inl h))))) = foremost-all (OnlyUsed Uses) (ended before) (ended-all (OnlyUsed Uses) (λ odd. absurd cc) (λ log count odd. absurd cc) before) e h kept
  kept-for Uses d e kept own held bound place (inr (inr (inr (inr (inr (inl h)))))) = absurd (failed-kept d e (kept-so e kept) h)
  kept-for Uses d e kept own held bound place (inr (inr (inr (inr (inr (inr h)))))) = (let odd : is_kept_by refused.Memory ≡ true = subst (λ (y : Refusal). is_kept_by y ≡ true) h kept in absurd cc)

  pub row-used : (name : List ℕ) (filespace : ℕ) (x : Filespace) (e : Refusal) → filespace_at filespace v.clients.filespaces ≡ Some x → is_kept_by e ≡ true
      → IsRefusedFor places actor (Commit (deleting name filespace) [] (Err e)) before after e → IsUsed (λ object. IsLeastIn filespace object v) e
  row-used name filespace x e at kept for =
      kept-for (λ object. IsLeastIn filespace object v) (Commit (deleting name filespace) [] (Err e)) e kept (change-used (λ object. IsLeastIn filespace object v) (change.Object (client.Filespace two.Delete 0 name filespace)) (row-own name filespace x at)) tt refl (λ h. h) for

  -- so is a volume's
  object-only : (file : ℕ) (s : PoolRows) (o : Option ℕ) → AllByRecursion (OnlyUsed (λ object. o ≡ Some object)) (refusal_of (unless_held file s o))
  object-only file s None = tt
  object-only file s (Some object) = ((λ kept. (object, refl, refl)), tt)

  volume-own : (name : List ℕ) (file capacity : ℕ) (access : Access) → volume_named name v.stores ≡ Some file
      → AllByRecursion (OnlyUsed (λ object. IsLeastOn file object v)) (causes (sight actor before.core).journal (change.Pool (store.Volume verb.Delete name 0 file capacity access)) v)
  volume-own name file capacity access named =
      append-all (OnlyUsed (λ object. IsLeastOn file object v)) (refusal_of (delete_volume name v.stores)) []
      (subst (λ (o : Option ℕ). AllByRecursion (OnlyUsed (λ object. IsLeastOn file object v)) (refusal_of (delete_filed v.stores o))) (sym named) (object-only file v.stores (object_on (row_at file v.stores.volumes)))) tt

  tickets-only : (Uses : ℕ → Type 0) (tickets : List Ticket) (o : Option ℕ) → AllByRecursion (OnlyUsed Uses) (option_map_or (λ (it : ℕ). held_by (has_file it) tickets) o [])
  tickets-only Uses tickets None = tt
  tickets-only Uses tickets (Some it) = elim (find (has_file it) tickets) as (λ o. AllByRecursion (OnlyUsed Uses) (option_map_or (λ t. refused.Busy (holder.Ticket t.number) ∷ []) o [])) [
    | None ↦ tt
    | Some t ↦ ((λ odd. absurd cc), tt)
  ]

  volume-used : (row : Row) (file : ℕ) (e : Refusal) → volume_named row.name v.stores ≡ Some file → is_kept_by e ≡ true → IsRefusedFor places actor (Commit (volumes.deleting row file) [] (Err e)) before after e → IsUsed (λ object. IsLeastOn file object v) e
  volume-used row file e named kept for =
      kept-for (λ object. IsLeastOn file object v) (Commit (volumes.deleting row file) [] (Err e)) e kept
      (change-used (λ object. IsLeastOn file object v) (change.Pool (store.Volume verb.Delete row.name 0 file row.capacity row.access)) (volume-own row.name file row.capacity row.access named)) (tickets-only (λ object. IsLeastOn file object v) before.core.tickets (volume_named row.name v.stores)) refl
      (λ h. h) for

  -- only a volume's row is waited for
  tickets-busy : (e : Refusal) (tickets : List Ticket) (o : Option ℕ) → foremost (option_map_or (λ (it : ℕ). held_by (has_file it) tickets) o []) ≡ Some e → IsBusy e
  tickets-busy e tickets None h = absurd cc
  tickets-busy e tickets (Some it) h = found-busy (find (has_file it) tickets) h where
    found-busy : (o : Option Ticket) → foremost (option_map_or (λ (t : Ticket). refused.Busy (holder.Ticket t.number) ∷ []) o []) ≡ Some e → IsBusy e
    found-busy None h = absurd cc
    found-busy (Some t) h = (holder.Ticket t.number, sym (same_Some (refused.Busy (holder.Ticket t.number)) e h))

  clearing-busy : (e : Refusal) → Stops e → ((file : ℕ) → RoseAt before.counts after.counts file → ⊥) → (file : ℕ) (d : Deed) → volumes.IsDeleting true file d → is_valid v ≡ true → IsWithin before → IsRefusedFor places actor d before after e
      → IsBusy e
  clearing-busy e stops unrisen file d (inl (inl h)) valid within for = absurd (ending-never places actor before after e stops unrisen d h for)
  clearing-busy e stops unrisen file d (inl (inr (row, answer, is))) valid within for =
      tickets-busy e before.core.tickets (volume_named row.name v.stores)
      (take-held places actor before after e stops unrisen (change.Pool (store.Volume verb.Delete row.name 0 file row.capacity row.access)) answer (volume-takes row.name file row.capacity row.access) within
      (stores_take (store.Volume verb.Delete row.name 0 file row.capacity row.access) v refl) (subst (λ (x : Deed). IsRefusedFor places actor x before after e) is for))
  clearing-busy e stops unrisen file d (inr (inl (lines, answer, is))) valid within for =
      absurd
      (none-first e [] refl
      (take-held places actor before after e stops unrisen _ answer (drop-takes _) within (drops_take _ v (facts_of v valid).objects_apart) (subst (λ (x : Deed). IsRefusedFor places actor x before after e) is for)))
  clearing-busy e stops unrisen file d (inr (inr (objects, answer, is))) valid within for =
      absurd (none-first e [] refl (take-held places actor before after e stops unrisen _ answer (discard-takes _) within (discard_all_takes _ v) (subst (λ (x : Deed). IsRefusedFor places actor x before after e) is for)))

  -- a question that is answered isn't refused as something isn't there
  told-never : (q : Query) (told : Answer) → answered q v ≡ Ok told → IsRefusedFor places actor (Ask q (Err refused.NotFound)) before after refused.NotFound → ⊥
  told-never q told is for =
      missing-never places actor before after (Ask q (Err refused.NotFound)) (λ h. none-first refused.NotFound (refusal_of (answered q v)) (ap refusal_of is) h) (λ h. h) (λ h. cc) refl for

  abbrev shape : Rows → Answer
  shape it = record { n = v.number; today = v.today; rows = it }

  volumes-never : IsRefusedFor places actor (Ask (query.Volumes None None) (Err refused.NotFound)) before after refused.NotFound → ⊥
  volumes-never for = told-never (query.Volumes None None) (shape (rows.Volumes (volume_lines None None v.stores))) refl for

  unfound-never : IsRefusedFor places actor (Ask (query.Filespaces None) (Err refused.NotFound)) before after refused.NotFound → ⊥
  unfound-never for = told-never (query.Filespaces None) (shape (rows.Filespaces (filespace_lines v.clients None))) refl for

  versions-never : (filespace : ℕ) (node name : List ℕ) → IsFilespace filespace node name v → IsRefusedFor places actor (Ask (query.Versions node name) (Err refused.NotFound)) before after refused.NotFound → ⊥
  versions-never filespace node name it for =
      told-never (query.Versions node name) (shape (rows.Versions (versions_at filespace v))) (ap (λ (r : Result ℕ Refusal). on_ok shape (on_ok rows.Versions (on_ok (λ n. versions_at n v) r))) it.4) for

  held-never : (filespace : ℕ) (node name : List ℕ) → IsFilespace filespace node name v → IsRefusedFor places actor (Ask (query.Held filespace) (Err refused.NotFound)) before after refused.NotFound → ⊥
  held-never filespace node name it for =
      told-never (query.Held filespace) (shape (rows.Held (held_lines v.today filespace v.clients.held)))
      (ap (λ (o : Option Filespace). on_ok shape (on_ok rows.Held (if is_some o then Ok (held_lines v.today filespace v.clients.held) else Err refused.NotFound))) it.1) for

  -- what stops a process stops none of its steps
  emptying-never : (e : Refusal) → Stops e → ((file : ℕ) → RoseAt before.counts after.counts file → ⊥) → (filespace : ℕ) (d : Deed) → IsDeleting filespace d → IsWithin before → IsRefusedFor places actor d before after e → ⊥
  emptying-never e stops unrisen filespace d (inl h) within for = ending-never places actor before after e stops unrisen d h for
  emptying-never e stops unrisen filespace d (inr (inl (objects, answer, is))) within for =
      none-first e [] refl (take-held places actor before after e stops unrisen _ answer (discard-takes _) within (discard_all_takes _ v) (subst (λ (x : Deed). IsRefusedFor places actor x before after e) is for))
  emptying-never e stops unrisen filespace d (inr (inr (name, answer, is))) within for =
      none-first e [] refl
      (take-held places actor before after e stops unrisen (change.Object (client.Filespace two.Delete 0 name filespace)) answer (filespace-takes name filespace) within
      (clients_take (client.Filespace two.Delete 0 name filespace) v refl) (subst (λ (x : Deed). IsRefusedFor places actor x before after e) is for))

-- its names are those that were told
names-so : (filespace : ℕ) (node name : List ℕ) (v : Inv) → IsFilespace filespace node name v → names_in filespace (filespace_lines v.clients None) ≡ Ok (record { node = node; name = name })
names-so filespace node name v (x, at, named, known, asked) =
    names-shown filespace v.clients v.clients.filespaces x at ∙ ap (λ (o : Option (List ℕ)). with_node x.name o) known ∙ ap (λ (n : List ℕ). with_node n (Some node)) named

abbrev lines-of : Rows → List FilespaceLine
lines-of (rows.Filespaces lines) = lines
lines-of _ = []

module _ (places : Places) (actor : ℕ) (Is : Machine → Type 0) (events : List Event) (stood : AllStood places actor Is events) (e : Refusal) (mild : halt_by e ≡ None) (filespace : ℕ) (may : MayEmpty Is filespace)
    (did : FilespaceDeletion filespace events (Err e)) where
  abbrev its : Names
  its = record { node = may.0; name = may.1 }

  unstopped-here : IsStopped events e → ⊥
  unstopped-here (inl memory) = not-memory e mild memory
  unstopped-here (inr met) =
      let s = stood (IsDeleting filespace) (λ d. refusal d ≡ Some e) did.only met.1 in
      emptying-never places actor s.before s.after e (stopping-stops e met.0 mild) s.unrisen filespace s.deed s.is.1 (may.2 s.before s.passes).1 (s.for e s.is.0)

  names-told : (answer : Answer) (lines : List FilespaceLine) (m : Machine) → Is m → rows_of (query.Filespaces None) (database m) ≡ Ok answer.rows → answer.rows ≡ rows.Filespaces lines → names_in filespace lines ≡ Ok its
  names-told answer lines m at told is =
      let both : ◌≡◌ {A = Result Rows Refusal} (Ok (rows.Filespaces (filespace_lines (database m).clients None))) (Ok (rows.Filespaces lines)) = told ∙ ap (λ (r : Rows). Ok r) is in
      let same : lines ≡ filespace_lines (database m).clients None = cc in
      ap (names_in filespace) same ∙ names-so filespace may.0 may.1 (database m) (may.2 m at).0

  as-missing : (d : Deed) (before after : Machine) → IsRefusedFor places actor d before after e → e ≡ refused.NotFound → IsRefusedFor places actor d before after refused.NotFound
  as-missing d before after for same = subst (λ (x : Refusal). IsRefusedFor places actor d before after x) same for

  unfound-not : e ≡ refused.NotFound → MetBy (IsUnfound filespace e) events → ⊥
  unfound-not same met = (let s = stood (IsDeleting filespace) (IsUnfound filespace e) did.only met in by s.deed s.before s.after s.passes s.is.0 (λ is. s.for e (ap refusal is)) s.answers) where
    by : (d : Deed) (before after : Machine) → Is before → IsUnfound filespace e d → ((is : d ≡ Ask (query.Filespaces None) (Err e)) → IsRefusedFor places actor d before after e)
        → ((q : Query) (a : Answer) → is_log q ≡ false → d ≡ Ask q (Ok a) → rows_of q (database before) ≡ Ok a.rows) → ⊥
    by d before after at (inl is) for answers =
        unfound-never places actor before after
        (subst (λ (x : Refusal). IsRefusedFor places actor (Ask (query.Filespaces None) (Err x)) before after refused.NotFound) same
        (subst (λ (x : Deed). IsRefusedFor places actor x before after refused.NotFound) is (as-missing d before after (for is) same)))
    by d before after at (inr (answer, lines, is, shown, none)) for answers =
        let odd : ◌≡◌ {A = Result Names Refusal} (Ok its) (Err e) = sym (names-told answer lines before at (answers (query.Filespaces None) answer refl is) shown) ∙ none in
        cc

  unlisted-not : (names : Names) → names ≡ its → e ≡ refused.NotFound → MetBy (IsUnlisted filespace names e) events → ⊥
  unlisted-not names named same met = (let s = stood (IsDeleting filespace) (IsUnlisted filespace names e) did.only met in by s.deed s.before s.after s.passes s.is.0 (λ is. s.for e is)) where
    by : (d : Deed) (before after : Machine) → Is before → IsUnlisted filespace names e d → (refusal d ≡ Some e → IsRefusedFor places actor d before after e) → ⊥
    by d before after at (inl is) for =
        versions-never places actor before after filespace may.0 may.1 (may.2 before at).0
        (subst (λ (n : Names). IsRefusedFor places actor (Ask (query.Versions n.node n.name) (Err refused.NotFound)) before after refused.NotFound) named
        (subst (λ (x : Refusal). IsRefusedFor places actor (Ask (query.Versions names.node names.name) (Err x)) before after refused.NotFound) same
        (subst (λ (x : Deed). IsRefusedFor places actor x before after refused.NotFound) is (as-missing d before after (for (ap refusal is)) same))))
    by d before after at (inr is) for =
        held-never places actor before after filespace may.0 may.1 (may.2 before at).0
        (subst (λ (x : Refusal). IsRefusedFor places actor (Ask (query.Held filespace) (Err x)) before after refused.NotFound) same
        (subst (λ (x : Deed). IsRefusedFor places actor x before after refused.NotFound) is (as-missing d before after (for (ap refusal is)) same)))

  found-its : (names : Names) (xs ys : List Event) → events ≡ xs ++ ys → Found filespace xs names → names ≡ its
  found-its names xs ys cut (answer, lines, (n, one), shown, told) =
      let met : MetBy (λ d. d ≡ Ask (query.Filespaces None) (Ok answer)) events =
      subst (λ (l : List Event). MetBy (λ d. d ≡ Ask (query.Filespaces None) (Ok answer)) l) (sym (cut ∙ ap (λ (l : List Event). l ++ ys) one)) (inl refl) in
      let s = stood (IsDeleting filespace) (λ d. d ≡ Ask (query.Filespaces None) (Ok answer)) did.only met in
      let both : ◌≡◌ {A = Result Names Refusal} (Ok names) (Ok its) = sym told ∙ names-told answer lines s.before s.passes (s.answers (query.Filespaces None) answer refl s.is.0) shown in
      cc

  -- its own transaction was refused, behind the steps that listed what is there and took it away
  abbrev pub IsKeptStill : Type 0
  IsKeptStill = (is_kept_by e ≡ true) × Then (λ l. Found filespace l its) (λ l. IsKept filespace its l e) events

  -- what it names is there, so that only its own transaction was refused, behind all that comes before it
  row-kept : is_kept_by e ≡ true → IsInPlace filespace events e → IsKeptStill
  row-kept kept (inl stopped) = absurd (unstopped e events (kept-so e kept) stopped)
  row-kept kept (inr (inl (ten, asks, met))) = absurd (unfound-not (missing-is e ten) met)
  row-kept kept (inr (inr (names, (xs, ys, cut, found, inl (ten, asks, met))))) =
      absurd
      (unlisted-not names (found-its names xs ys cut found) (missing-is e ten)
      (subst (λ (l : List Event). MetBy (IsUnlisted filespace names e) l) (sym cut) (met-next xs ys (IsUnlisted filespace names e) met)))
  row-kept kept (inr (inr (names, (xs, ys, cut, found, inr (count, (us, ws, apart, cleared, (n, name, one))))))) =
      let all : Then (λ l. Found filespace l its) (λ l. IsKept filespace its l e) events =
      subst (λ (x : Names). Then (λ l. Found filespace l x) (λ l. IsKept filespace x l e) events) (found-its names xs ys cut found) (xs, ys, cut, found, (count, (us, ws, apart, cleared, (n, name, one)))) in
      (kept, all)

  pub unemptied : IsKeptStill
  unemptied = elim did.came as (λ _. IsKeptStill) [
    | inl stopped ↦ absurd (unstopped-here stopped)
    | inr rest ↦ elim rest as (λ _. IsKeptStill) [
      | inl missing ↦ row-kept (ap is_kept_by (missing-is e missing.0)) did.place
      | inr kept ↦ row-kept kept.0 did.place
    ]
  ]

-- ---- DELETE VOLUME

module _ (places : Places) (actor : ℕ) (Is : Machine → Type 0) (events : List Event) (stood : AllStood places actor Is events) (e : Refusal) (mild : halt_by e ≡ None) (file : ℕ) (may : MayRemove Is file)
    (did : VolumeDeletion true file events (Err e)) where
  stopped-busy : IsStopped events e → IsBusy e
  stopped-busy (inl memory) = absurd (not-memory e mild memory)
  stopped-busy (inr met) =
      let s = stood (volumes.IsDeleting true file) (λ d. refusal d ≡ Some e) did.only met.1 in
      clearing-busy places actor s.before s.after e (stopping-stops e met.0 mild) s.unrisen file s.deed s.is.1 (s.sound e s.is.0 mild).valid (may.1 s.before s.passes).1 (s.for e s.is.0)

  abbrev there-at : (m : Machine) → Is m → IsThere file (database m)
  there-at m at = (let it = (may.1 m at).0 in (it.0, it.1, ap (λ (n : List ℕ). volume_named n (database m).stores) it.2 ∙ it.3))

  row-told : (answer : Answer) (lines : List VolumeLine) (m : Machine) (at : Is m) → rows_of (query.Volumes None None) (database m) ≡ Ok answer.rows → answer.rows ≡ rows.Volumes lines
      → row_in file lines ≡ Ok (its-row file (database m) (there-at m at))
  row-told answer lines m at told is = named-row file (database m) (there-at m at) lines (told ∙ ap (λ (r : Rows). Ok r) is)

  volume-unfound : e ≡ refused.NotFound → MetBy (volumes.IsUnfound file e) events → ⊥
  volume-unfound same met = (let s = stood (volumes.IsDeleting true file) (volumes.IsUnfound file e) did.only met in by s.deed s.before s.after s.passes s.is.0 (λ is. s.for e (ap refusal is)) s.answers) where
    by : (d : Deed) (before after : Machine) → Is before → volumes.IsUnfound file e d → ((is : d ≡ Ask (query.Volumes None None) (Err e)) → IsRefusedFor places actor d before after e)
        → ((q : Query) (a : Answer) → is_log q ≡ false → d ≡ Ask q (Ok a) → rows_of q (database before) ≡ Ok a.rows) → ⊥
    by d before after at (inl is) for answers =
        volumes-never places actor before after
        (subst (λ (x : Refusal). IsRefusedFor places actor (Ask (query.Volumes None None) (Err x)) before after refused.NotFound) same
        (subst (λ (x : Deed). IsRefusedFor places actor x before after refused.NotFound) is (subst (λ (x : Refusal). IsRefusedFor places actor d before after x) same (for is))))
    by d before after at (inr (answer, lines, is, shown, none)) for answers =
        let odd : ◌≡◌ {A = Result Row Refusal} (Ok (its-row file (database before) (there-at before at))) (Err e) = sym (row-told answer lines before at (answers (query.Volumes None None) answer refl is) shown) ∙ none in
        cc

  volume-unlisted : e ≡ refused.NotFound → MetBy (λ d. d ≡ Ask (query.OnVolume file) (Err e)) events → ⊥
  volume-unlisted same met =
      let s = stood (volumes.IsDeleting true file) (λ d. d ≡ Ask (query.OnVolume file) (Err e)) did.only met in
      volume-there places actor s.before s.after file (Err e) (ap is_some (may.1 s.before s.passes).0.1)
      (subst (λ (d : Deed). IsRefusedFor places actor d s.before s.after refused.NotFound) s.is.0 (subst (λ (x : Refusal). IsRefusedFor places actor s.deed s.before s.after x) same (s.for e (ap refusal s.is.0))))

  found-name : (row : Row) (xs ys : List Event) → events ≡ xs ++ ys → volumes.Found file xs row → row.name ≡ may.0
  found-name row xs ys cut (answer, lines, (n, one), shown, told) =
      let met : MetBy (λ d. d ≡ Ask (query.Volumes None None) (Ok answer)) events =
      subst (λ (l : List Event). MetBy (λ d. d ≡ Ask (query.Volumes None None) (Ok answer)) l) (sym (cut ∙ ap (λ (l : List Event). l ++ ys) one)) (inl refl) in
      let s = stood (volumes.IsDeleting true file) (λ d. d ≡ Ask (query.Volumes None None) (Ok answer)) did.only met in
      let both : ◌≡◌ {A = Result Row Refusal} (Ok row) (Ok (its-row file (database s.before) (there-at s.before s.passes))) =
      sym told ∙ row-told answer lines s.before s.passes (s.answers (query.Volumes None None) answer refl s.is.0) shown in
      let same : row ≡ its-row file (database s.before) (there-at s.before s.passes) = cc in
      ap (λ (r : Row). r.name) same ∙ (may.1 s.before s.passes).0.2

  abbrev pub IsLeftStill : Type 0
  IsLeftStill = (object : ℕ) × (e ≡ refused.InUse (by.Object object)) × IsLeftBehind file events e × ((m : Machine) × Is m × IsLeastOn file object (database m))

  refused-used : (row : Row) → row.name ≡ may.0 → is_kept_by e ≡ true → IsLeftBehind file events e → MetBy (λ d. d ≡ Commit (volumes.deleting row file) [] (Err e)) events → IsLeftStill
  refused-used row named kept left met =
      let s = stood (volumes.IsDeleting true file) (λ d. d ≡ Commit (volumes.deleting row file) [] (Err e)) did.only met in
      let used = volume-used places actor s.before s.after row file e (ap (λ (n : List ℕ). volume_named n (database s.before).stores) named ∙ (may.1 s.before s.passes).0.3) kept
      (subst (λ (d : Deed). IsRefusedFor places actor d s.before s.after e) s.is.0 (s.for e (ap refusal s.is.0))) in
      (used.0, used.1, left, (s.before, s.passes, used.2))

  kept-here : is_kept_by e ≡ true → volumes.IsInPlace true file events e → IsLeftStill
  kept-here kept (inl stopped) = absurd (unstopped e events (kept-so e kept) stopped)
  kept-here kept (inr (inl (ten, asks, met))) = absurd (volume-unfound (missing-is e ten) met)
  kept-here kept (inr (inr (row, (xs, ys, cut, found, inl (ten, asks, met))))) =
      absurd
      (volume-unlisted (missing-is e ten)
      (subst (λ (l : List Event). MetBy (λ d. d ≡ Ask (query.OnVolume file) (Err e)) l) (sym cut) (met-next xs ys (λ d. d ≡ Ask (query.OnVolume file) (Err e)) met)))
  kept-here kept (inr (inr (row, (xs, ys, cut, found, inr (m, (us, ws, apart, cleared, (number, (ps, qs, split, waited, (n, one))))))))) =
      let So : Deed → Type 0 = (λ d. d ≡ Commit (volumes.deleting row file) [] (Err e)) in
      let last : MetBy So qs = subst (λ (l : List Event). MetBy So l) (sym one) (inl refl) in
      let third : MetBy So ws = subst (λ (l : List Event). MetBy So l) (sym split) (met-next ps qs So last) in
      let second : MetBy So ys = subst (λ (l : List Event). MetBy So l) (sym apart) (met-next us ws So third) in
      let left : IsLeftBehind file events e = (row.name, row.capacity, row.access, m.discarded, m.dropped, (xs, ys, cut, found, (us, ws, apart, cleared, (number, (ps, qs, split, waited, (n, one)))))) in
      refused-used row (found-name row xs ys cut found) kept left (subst (λ (l : List Event). MetBy So l) (sym cut) (met-next xs ys So second))

  pub unremoved : IsBusy e ⊎ IsLeftStill
  unremoved = elim did.came as (λ _. IsBusy e ⊎ IsLeftStill) [
    | inl stopped ↦ inl (stopped-busy stopped)
    | inr rest ↦ elim rest as (λ _. IsBusy e ⊎ IsLeftStill) [
      | inl missing ↦ inr (kept-here (ap is_kept_by (missing-is e missing.0)) did.place)
      | inr kept ↦ inr (kept-here kept.0 did.place)
    ]
  ]
