-- A backup that follows the newest one, and when there is none to follow.
use Rattle.std.proofs.Common.{◌≡◌, ◌⊎◌, inl, inr, ℕ, ◌+◌, ◌-◌, ◌^◌, ◌≤◌, ◌==◌, ◌&&◌, nat_le, nat_lt, Bool, true, false, if◌then◌else◌, List, [], ◌∷◌, ◌++◌, Option, None, Some, Result, Ok, Err, refl, sym, ap, subst, ◌∙◌, arith}
use Rattle.std.proofs.lemmas.Bool.{false≢true}
use Rattle.std.proofs.lemmas.List.{append-nil}
use Rattle.std.specs.Option.{option_map_or}
use Rattle.kinds.specs.Refusals.{bad_value, foremost, number_of, unless}
use Rattle.kinds.specs.declared.refusal.Refusal.{Refusal}
use Rattle.kinds.specs.declared.refusal.Refusal.TheVariants as refused
use Rattle.entries.specs.declared.change.Change.TheVariants.{DbBegin}
use Rattle.inventory_answers.specs.declared.lines.BackupLine.{BackupLine}
use Rattle.inventory_answers.specs.declared.query.Query.TheVariants as query
use Rattle.inventory_answers.specs.declared.reply.Answer.{Answer}
use Rattle.inventory_answers.specs.declared.reply.Rows.TheVariants as rows
use Rattle.inventory_rules.specs.Backups.{after_refused, backup_at, is_done}
use Rattle.inventory_rules.specs.Common.{file_bound, files_refused}
use Rattle.inventory_rules.specs.Journal.{Journal}
use Rattle.inventory_rules.specs.Transactions.{refused as change_refused}
use Rattle.inventory_rows.specs.declared.backup.Backup.{Backup}
use Rattle.inventory_rows.specs.State.{Inv}
use Rattle.item_refusals.proofs.Foremost.{foremost_append}
use Rattle.copy_attempts.proofs.Facts.{some-memory}
use Rattle.copy_attempts.specs.Attempts.{is_stopping, stopping}
use Rattle.copy_runs.proofs.Told.{reaches}
use Rattle.copy_runs.proofs.Whole.{last-behind}
use Rattle.copy_runs.specs.Ends.{first_of, last_of}
use Rattle.machine.proofs.Elsewhere.{append-all, foremost-all, sooner-one, unless-all}
use Rattle.machine.proofs.Runs.{fits-cut, fits-first, fits-one, fits-rises}
use Rattle.machine.specs.Causes.{change_illegal, image_refused, since_refused}
use Rattle.machine.specs.Fits.{Fits, History, Own, Step, sight_at}
use Rattle.machine.specs.Says.{Says}
use Rattle.machine.specs.State.{Sight}
use Rattle.reuse_delay.proofs.Causes.{listed-is, own-cause, refused-for}
use Rattle.sessions.specs.Waiting.{Waited}
use Rattle.steps.specs.declared.image.ImageKind.TheVariants as image
use Rattle.steps.specs.Events.{Event, event, has_number}
use Rattle.steps.specs.Events.Deed.{Ask, Image}
use Rattle.db_backup.specs.declared.taking.Taken.{Taken}
use Rattle.db_backup.specs.Backups.{Follows, FollowsNewest}
use Rattle.db_backup.specs.Listing.{newest_file}
use Rattle.db_backup.specs.Rows.{FollowsAt, IsNoneToFollow, IsUnfollowed, lines_at}
use Rattle.db_backup.specs.Taking.{Backs, Begins, Completes, Continues, GivesUp, Opens, Starts, TakesOff, begun_file, failed_file, since_numbers}
use Rattle.db_backup.proofs.Journaled.{backed-up}
use Rattle.db_backup.proofs.Rows.{IsTen, asked-lines, awaits-ten}

-- ---- what was made

made-by : (w : History) (actor : ℕ) (old new : Own) (n : ℕ) (answer : Answer) (lines : List BackupLine) (ys : List Event) (t : Taken) (after : Option ℕ) → newest_file lines ≡ after
    → Fits w actor old (event n (Ask query.History (Ok answer)) ∷ ys) new → answer.rows ≡ rows.History lines → Follows after ys (Ok t) → FollowsAt w actor n t
made-by w actor old new n answer lines ys t None is f told (none, same) = absurd cc
made-by w actor old new n answer lines ys t (Some file) is f told h =
    let r = fits-first w actor old new (event n (Ask query.History (Ok answer))) ys f in
    let same : lines ≡ lines_at w n = asked-lines w actor old r.0 n answer lines r.1 told in
    (file, ap newest_file (sym same) ∙ is, backed-up w actor r.0 new (Some file) ys t r.2 h.order)

pub followed : (w : History) (actor : ℕ) (old new : Own) (events : List Event) (t : Taken) → Fits w actor old events new → FollowsNewest events (Ok t) → FollowsAt w actor (first_of events) t
followed w actor old new events t f (inl (e, un, is)) = absurd cc
followed w actor old new events t f (inr (lines, (xs, ys, cut, listed, h))) =
    let shape : events ≡ event listed.0 (Ask query.History (Ok listed.1)) ∷ ys = cut ∙ ap (λ (l : List Event). l ++ ys) listed.2 in
    subst (λ (es : List Event). FollowsAt w actor (first_of es) t) (sym shape)
    (made-by w actor old new listed.0 listed.1 lines ys t (newest_file lines) refl (subst (λ (es : List Event). Fits w actor old es new) shape f) listed.3 h)

-- ---- which refusals aren't this one

not-stopping : (why : Refusal) (t : Bool) → is_stopping why ≡ t → refused.NotFound ≡ (if t then why else refused.Memory) → ⊥
not-stopping why true is same = (let never : is_stopping refused.NotFound ≡ true = ap is_stopping same ∙ is in false≢true never)
not-stopping why false is same = absurd cc

not-gone : (why : Refusal) (t : Bool) → ◌≡◌ {A = Result (Unit {0}) Refusal} (Err refused.NotFound) (if t then Ok tt else Err (stopping why)) → ⊥
not-gone why true is = absurd cc
not-gone why false is = (let same : refused.NotFound ≡ stopping why = cc in not-stopping why (is_stopping why) refl same)

off-not : (file : ℕ) (events : List Event) → TakesOff file events (Err refused.NotFound) → ⊥
off-not file events (inl (number, c, is)) = absurd cc
off-not file events (inr (why, c, is)) = not-gone why (number_of why == 10) is

-- what is given up with this refusal was so refused, and nothing is done
given-up : (file : Option ℕ) (why : Refusal) (events : List Event) → GivesUp file why events refused.NotFound → ((file ≡ None) → events ≡ []) × (why ≡ refused.NotFound)
given-up None why events (none, same) = ((λ _. none), sym same)
given-up (Some file) why events (inl (off, same)) = ((λ is. absurd cc), sym same)
given-up (Some file) why events (inr off) = absurd (off-not file events off)

not-unwritten : (why : Refusal) (t : Bool) → has_number (25 ∷ 31 ∷ 40 ∷ 41 ∷ 50 ∷ []) why ≡ t → refused.NotFound ≡ (if t then why else refused.Memory) → ⊥
not-unwritten why true is same = (let never : has_number (25 ∷ 31 ∷ 40 ∷ 41 ∷ 50 ∷ []) refused.NotFound ≡ true = ap (has_number (25 ∷ 31 ∷ 40 ∷ 41 ∷ 50 ∷ [])) same ∙ is in false≢true never)
not-unwritten why false is same = absurd cc

continues-not : (events : List Event) → Continues events (Err refused.NotFound) → ⊥
continues-not events (zs, (xs, ys, cut, more, inl (why, same, m))) = not-unwritten why (has_number (25 ∷ 31 ∷ 40 ∷ 41 ∷ 50 ∷ []) why) refl same
continues-not events (zs, (xs, ys, cut, more, inr (inl (file, seq, same, m)))) = absurd cc
continues-not events (zs, (xs, ys, cut, more, inr (inr h))) = (let same : refused.NotFound ≡ refused.Memory = h.1 in absurd cc)

completes-not : (t : Taken) (events : List Event) → Completes t events (Err refused.NotFound) → ⊥
completes-not t events (inl (why, (xs, ys, cut, h, gives))) = continues-not xs (subst (λ (e : Refusal). Continues xs (Err e)) (given-up (begun_file t.file why) why ys gives).1 h)
completes-not t events (inr (seq, why, same, h)) = not-stopping why (is_stopping why) refl same

-- ---- the step that was so refused

-- it is the last of these, behind tries that waited
abbrev pub EndsSo : (file : ℕ) → List Event → Type 0
EndsSo file events =
    (us : List Event) × (k : ℕ) × (events ≡ us ++ (event k (Image (image.Since file) (Err refused.NotFound)) ∷ [])) × (number : ℕ) × Waited (Begins (image.Since file)) number us

unbegun-is : (why : Refusal) (t : Bool) → refused.NotFound ≡ (if t then why else refused.Memory) → why ≡ refused.NotFound
unbegun-is why true same = sym same
unbegun-is why false same = absurd cc

opens-so : (file : ℕ) (events : List Event) → Opens (image.Since file) events (Err refused.NotFound) → EndsSo file events
opens-so file events (waited, (us, vs, cut, some, inl (none, inl (why, same, inl it)))) =
    let is : why ≡ refused.NotFound = unbegun-is why (has_number since_numbers why) same in
    (us, it.0, cut ∙ ap (λ (l : List Event). us ++ l) (it.1 ∙ ap (λ (e : Refusal). event it.0 (Image (image.Since file) (Err e)) ∷ []) is), waited, some)
opens-so file events (waited, (us, vs, cut, some, inl (none, inl (why, same, inr m)))) =
    let is : why ≡ refused.NotFound = unbegun-is why (has_number since_numbers why) same in
    absurd (let never : refused.NotFound ≡ refused.Memory = sym is ∙ some-memory why (Image (image.Since file) (Err why)) refl m.0 in cc)
opens-so file events (waited, (us, vs, cut, some, inl (none, inr (told, same, m)))) = absurd cc
opens-so file events (waited, (us, vs, cut, some, inr (inl (e, (h, (zs, ws, apart, tried, awaited)), same)))) =
    let is : refused.NotFound ≡ e = cc in
    absurd (awaits-ten h e ws awaited (subst IsTen is refl))
opens-so file events (waited, (us, vs, cut, some, inr (inr h))) = (let same : Err refused.NotFound ≡ Err refused.Memory = h.2 in absurd cc)

starts-so : (file : ℕ) (events : List Event) (e : Refusal) → e ≡ refused.NotFound → Starts (image.Since file) events (Err e) → EndsSo file events
starts-so file events e is (why, (xs, ys, cut, opens, gives)) =
    let given = given-up (failed_file why) why ys (subst (λ (x : Refusal). GivesUp (failed_file why) why ys x) is gives) in
    let so : EndsSo file xs = opens-so file xs (subst (λ (x : Refusal). Opens (image.Since file) xs (Err x)) given.1 opens) in
    let none : ys ≡ [] = given.0 (ap failed_file given.1) in
    (so.0, so.1, cut ∙ ap (λ (l : List Event). xs ++ l) none ∙ append-nil xs ∙ so.2, so.3, so.4)

pub backs-so : (file : ℕ) (events : List Event) → Backs (image.Since file) events (Err refused.NotFound) → EndsSo file events
backs-so file events (inl (e, starts, is)) = (let same : e ≡ refused.NotFound = cc in starts-so file events e same starts)
backs-so file events (inr (t, (xs, ys, cut, starts, completes))) = absurd (completes-not t ys completes)

-- ---- what it says

abbrev IsNot : Refusal → Type 0
IsNot e = e ≡ refused.NotFound → ⊥

both-not : (a b : Bool) → (a && b) ≡ false → (a ≡ false) ⊎ (b ≡ false)
both-not true b h = inr h
both-not false b h = inl refl

unless-is : (b : Bool) (e f : Refusal) → foremost (unless b e) ≡ Some f → b ≡ false
unless-is true e f h = absurd cc
unless-is false e f h = refl

begin-refused : (j : Journal) (next file : ℕ) (v : Inv) → change_refused j (DbBegin next (Some file)) v ≡ Some refused.NotFound → is_done (backup_at file v) ≡ false
begin-refused j next file v h = elim (refused-for j (DbBegin next (Some file)) v refused.NotFound h) as (λ _. is_done (backup_at file v) ≡ false) [
  | inl cause ↦ elim (sooner-one (foremost (after_refused (Some file) v)) _ refused.NotFound (sym (foremost_append (after_refused (Some file) v) (files_refused (next ∷ []) v ++ file_bound next v)) ∙ cause)) as (λ _. is_done (backup_at file v) ≡ false) [
    | inl first ↦ unless-is (is_done (backup_at file v)) refused.NotFound refused.NotFound first
    | inr other ↦ absurd (foremost-all IsNot (files_refused (next ∷ []) v ++ file_bound next v)
        (append-all IsNot (files_refused (next ∷ []) v) (file_bound next v) (unless-all IsNot _ bad_value (λ s. absurd cc)) (unless-all IsNot _ refused.InventoryFull (λ s. absurd cc))) refused.NotFound other refl)
  ]
  | inr size ↦ elim size as (λ _. is_done (backup_at file v) ≡ false) [ inl full ↦ absurd cc | inr bad ↦ absurd cc ]
]

-- what is so refused isn't a whole one, or is of an earlier run
pub not-followed : (file : ℕ) (v : Sight) → foremost (image_refused (image.Since file) v) ≡ Some refused.NotFound
    → (is_done (backup_at file v.inventory) ≡ false) ⊎ (option_map_or (λ (b : Backup). nat_le v.first b.number) (backup_at file v.inventory) false ≡ false)
not-followed file v held =
    let begins = change_illegal (DbBegin v.next_file (Some file)) v in
    let done : Bool = is_done (backup_at file v.inventory) in
    let late : Bool = option_map_or (λ (b : Backup). nat_le v.first b.number) (backup_at file v.inventory) false in
    let few : Bool = option_map_or (λ (b : Backup). nat_lt (v.inventory.number + 1 - b.number) (2 ^ 32)) (backup_at file v.inventory) true in
    elim (sooner-one (foremost (since_refused file v)) (foremost begins) refused.NotFound (sym (foremost_append (since_refused file v) begins) ∙ held)) as (λ _. (done ≡ false) ⊎ (late ≡ false)) [
      | inl since ↦ elim (sooner-one (foremost (unless (done && late) refused.NotFound)) _ refused.NotFound (sym (foremost_append (unless (done && late) refused.NotFound) (unless few refused.InventoryFull)) ∙ since)) as
          (λ _. (done ≡ false) ⊎ (late ≡ false)) [
            | inl first ↦ both-not done late (unless-is (done && late) refused.NotFound refused.NotFound first)
            | inr full ↦ absurd (foremost-all IsNot (unless few refused.InventoryFull) (unless-all IsNot few refused.InventoryFull (λ x. absurd cc)) refused.NotFound full refl)
          ]
      | inr begin ↦ inl (begin-refused v.journal v.next_file file v.inventory (listed-is (change_refused v.journal (DbBegin v.next_file (Some file)) v.inventory) refused.NotFound begin))
    ]

said : (w : History) (actor : ℕ) (a b : Own) (n file : ℕ) → Step w actor a (event n (Image (image.Since file) (Err refused.NotFound))) b → IsUnfollowed file w n
unfolding Says
said w actor a b n file s =
    let v : Sight = sight_at w a n s.next_file in
    let held : foremost (image_refused (image.Since file) v) ≡ Some refused.NotFound = own-cause (10 ∷ []) (image_refused (image.Since file) v) refused.NotFound refl s.says refl in
    not-followed file v held

-- ---- the whole

none-by : (w : History) (actor : ℕ) (old new : Own) (n : ℕ) (answer : Answer) (lines : List BackupLine) (ys : List Event) (after : Option ℕ) → newest_file lines ≡ after
    → Fits w actor old (event n (Ask query.History (Ok answer)) ∷ ys) new → answer.rows ≡ rows.History lines → Follows after ys (Err refused.NotFound) → IsNoneToFollow w (event n (Ask query.History (Ok answer)) ∷ ys)
none-by w actor old new n answer lines ys None is f told h =
    let r = fits-first w actor old new (event n (Ask query.History (Ok answer))) ys f in
    let same : lines ≡ lines_at w n = asked-lines w actor old r.0 n answer lines r.1 told in
    inl (ap newest_file (sym same) ∙ is)
none-by w actor old new n answer lines ys (Some file) is f told h =
    let first : Event = event n (Ask query.History (Ok answer)) in
    let r = fits-first w actor old new first ys f in
    let same : lines ≡ lines_at w n = asked-lines w actor old r.0 n answer lines r.1 told in
    let so = backs-so file ys h.order in
    let e : Event = event so.1 (Image (image.Since file) (Err refused.NotFound)) in
    let parts = fits-cut w actor r.0 new so.0 (e ∷ []) (subst (λ (es : List Event). Fits w actor r.0 es new) so.2 r.2) in
    let s : Step w actor parts.0 e new = fits-one w actor parts.0 new e parts.2 in
    let low : n ≤ r.0.reached = reaches w actor old r.0 first r.1 in
    let on : r.0.reached ≤ parts.0.reached = fits-rises w actor r.0 parts.0 so.0 parts.1 in
    let up : parts.0.reached ≤ so.1 = s.since in
    let after : n ≤ so.1 = omega arith in
    let end : last_of (first ∷ ys) ≡ so.1 = ap (λ (l : List Event). last_of (first ∷ l)) so.2 ∙ last-behind (first ∷ so.0) e [] in
    let till : so.1 ≤ last_of (first ∷ ys) = omega (arith, end) in
    inr (file, so.1, ap newest_file (sym same) ∙ is, after, till, said w actor parts.0 new so.1 file s)

pub unfollowed : (w : History) (actor : ℕ) (old new : Own) (events : List Event) → Fits w actor old events new → FollowsNewest events (Err refused.NotFound) → IsNoneToFollow w events
unfollowed w actor old new events f (inl (e, (inl memory, asks), is)) = absurd (let never : refused.NotFound ≡ refused.Memory = (let same : refused.NotFound ≡ e = cc in same ∙ memory) in cc)
unfollowed w actor old new events f (inl (e, (inr met, asks), is)) = absurd (let never : is_stopping refused.NotFound ≡ true = (let same : refused.NotFound ≡ e = cc in ap is_stopping same ∙ met.0) in false≢true never)
unfollowed w actor old new events f (inr (lines, (xs, ys, cut, listed, h))) =
    let shape : events ≡ event listed.0 (Ask query.History (Ok listed.1)) ∷ ys = cut ∙ ap (λ (l : List Event). l ++ ys) listed.2 in
    subst (IsNoneToFollow w) (sym shape)
    (none-by w actor old new listed.0 listed.1 lines ys (newest_file lines) refl (subst (λ (es : List Event). Fits w actor old es new) shape f) listed.3 h)
