-- Behind the transaction of its ticket a copy isn't wanted any more.
use Rattle.std.proofs.Common.{◌≡◌, ℕ, ◌+◌, ◌-◌, ◌≤◌, ◌==◌, ◌||◌, Bool, true, false, cond, eqb, not, nat_lt, List, [], ◌∷◌, ◌++◌, length, take, Option, Some, None, Ok, refl, sym, ap, subst, ◌∙◌, arith}
use Rattle.std.proofs.lemmas.Bool.{eq-eqb, ne_eqb}
use Rattle.std.proofs.lemmas.List.{length-take}
use Rattle.std.specs.List.{slice_get}
use Rattle.std.specs.Option.{option_map_or}
use Rattle.kinds.specs.Refusals.{bad_value, foremost, unless}
use Rattle.kinds.specs.declared.refusal.Refusal.{Refusal}
use Rattle.entries.specs.change_items.declared.items.MovedCopy.{MovedCopy}
use Rattle.entries.specs.change_items.declared.items.NewCopy.{NewCopy}
use Rattle.entries.specs.declared.change.Change.{Change}
use Rattle.entries.specs.declared.change.Change.TheVariants as change
use Rattle.inventory_rows.specs.version_groups.Copies.{copies_after, has_copy, with_copy, without_copy}
use Rattle.inventory_rows.specs.version_groups.Versions.{version_of, with_copies}
use Rattle.inventory_rows.specs.version_groups.declared.copies.CopyChange.{CopyChange}
use Rattle.inventory_rows.specs.version_groups.declared.copies.CopyRow.{CopyRow}
use Rattle.inventory_rows.specs.version_groups.declared.versions.Version.{Version}
use Rattle.inventory_rows.specs.object_rows.Rows.{Rows, kept_of, rows_copied}
use Rattle.inventory_rows.specs.Search.{copy_in, version, versions}
use Rattle.inventory_rows.specs.State.{Inv}
use Rattle.inventory_rules.specs.Common.{each}
use Rattle.inventory_rules.specs.Copies.{added, change_copy, copied_refused, copy_list_refused, copy_refused, move_refused, moved, moved_refused, placed_by, placed_now, put_moved, segments_in, stale_copy, take_moved, version_at}
use Rattle.inventory_rules.specs.Journal.{Journal}
use Rattle.inventory_rules.specs.Run.{journal_of}
use Rattle.inventory_rules.specs.Segments.{make_scratch}
use Rattle.inventory_rules.specs.Transactions.{causes, changed, effect, refused, sizes_refused, then_valid}
use Rattle.inventory_rules.specs.Valid.{is_valid}
use Rattle.inventory_rules.specs.Versions.{name_once, of_version}
use Rattle.inventory_rules.proofs.CopiedLists.{kept_of-copied}
use Rattle.inventory_laws.proofs.Copied.{altered}
use Rattle.inventory_laws.proofs.CopyLists.{in_pool}
use Rattle.inventory_laws.proofs.CopySteps.{said_replace}
use Rattle.inventory_laws.proofs.Keeping.{put_kept}
use Rattle.inventory_laws.proofs.VersionVolumes.{all_scratch_only, taken_only}
use Rattle.space.specs.declared.aim.Aim.{Aim}
use Rattle.space.specs.declared.aim.Aim.TheVariants as aim
use Rattle.steps.specs.declared.asked.Asked.TheVariants as asked
use Rattle.steps.specs.Events.{event}
use Rattle.steps.specs.Events.Deed.{Commit}
use Rattle.machine.specs.Changes.{scratch_of}
use Rattle.machine.specs.Fits.{History, IsMadeOf, JoinsAt, Own, Step, entries_to, inv, last, number_after, sight_at}
use Rattle.machine.specs.State.{Ticket}
use Rattle.machine.proofs.Elsewhere.{append-none, none-held}
use Rattle.machine.proofs.Histories.{after-number, inv-next}
use Rattle.machine.proofs.Legality.{joined-legal}
use Rattle.copy_runs.proofs.Carrying.{Carries, IsAimed}
use Rattle.copy_runs.proofs.Passing.{change-is, change_for, copied_item, moved_item, one_copied, one_moved}
use Rattle.copy_runs.specs.Runs.{IsEntryFor}
use Rattle.copy_runs.specs.Wanting.{IsPast, is_open_for, is_wanted}

-- ---- lists of copies and versions

has-with : (row : CopyRow) (cs : List CopyRow) → has_copy row.pool (with_copy row cs) ≡ true
has-with row [] = ap (λ b. b || false) (eq-eqb row.pool row.pool refl)
has-with row (c ∷ cs) =
    elim (nat_lt row.pool c.pool) as (λ b. has_copy row.pool (cond b (row ∷ c ∷ cs) (c ∷ with_copy row cs)) ≡ true) [
      | true ↦ ap (λ b. b || has_copy row.pool (c ∷ cs)) (eq-eqb row.pool row.pool refl)
      | false ↦ elim (c.pool == row.pool) as (λ b. (b || has_copy row.pool (with_copy row cs)) ≡ true) [ true ↦ refl | false ↦ has-with row cs ]
    ]

-- a copy of another transaction comes, where none of that transaction's is in the pool
placed-with : (from placed : ℕ) (row : CopyRow) (cs : List CopyRow) → (row.placed == placed) ≡ false → placed_by placed (in_pool from cs) ≡ false
    → placed_by placed (in_pool from (with_copy row cs)) ≡ false
placed-with from placed row [] other h = elim (eqb row.pool from) as (λ b. placed_by placed (cond b (Some row) None) ≡ false) [ true ↦ other | false ↦ refl ]
placed-with from placed row (c ∷ cs) other h =
    elim (nat_lt row.pool c.pool) as (λ b. placed_by placed (in_pool from (cond b (row ∷ c ∷ cs) (c ∷ with_copy row cs))) ≡ false) [
      | true ↦ elim (eqb row.pool from) as (λ b. placed_by placed (cond b (Some row) (in_pool from (c ∷ cs))) ≡ false) [ true ↦ other | false ↦ h ]
      | false ↦ elim (eqb c.pool from) as (λ b. placed_by placed (cond b (Some c) (in_pool from cs)) ≡ false → placed_by placed (cond b (Some c) (in_pool from (with_copy row cs))) ≡ false) [
        | true ↦ λ g. g
        | false ↦ λ g. placed-with from placed row cs other g
      ] h
    ]

none-without : (from placed : ℕ) (cs : List CopyRow) → placed_by placed (in_pool from (without_copy from cs)) ≡ false
none-without from placed [] = refl
none-without from placed (c ∷ cs) =
    elim (eqb c.pool from) as (λ b. eqb c.pool from ≡ b → placed_by placed (in_pool from (cond (not b) (c ∷ without_copy from cs) (without_copy from cs))) ≡ false) [
      | true ↦ λ e. none-without from placed cs
      | false ↦ λ e. ap (λ b. placed_by placed (cond b (Some c) (in_pool from (without_copy from cs)))) e ∙ none-without from placed cs
    ] refl

found-copied : (k : ℕ) (cs : List CopyRow) (w : Version) (vs : List Version) → version_of k vs ≡ Some w → version_of k (with_copies k cs vs) ≡ Some (record w { copies = cs })
found-copied k cs w [] h = absurd cc
found-copied k cs w (v ∷ vs) h =
    elim (eqb v.object k) as (λ b. eqb v.object k ≡ b → cond b (Some v) (version_of k vs) ≡ Some w
    → version_of k (cond {A = Version} b (record v { copies = cs }) v ∷ with_copies k cs vs) ≡ Some (record w { copies = cs })) [
      | true ↦ λ t g. (let same : v ≡ w = cc in
          ap (λ b. cond b (Some (record v { copies = cs })) (version_of k (with_copies k cs vs))) t ∙ ap (λ (x : Version). Some (record x { copies = cs })) same)
      | false ↦ λ t g. ap (λ b. cond b (Some v) (version_of k (with_copies k cs vs))) t ∙ found-copied k cs w vs g
    ] refl h

-- ---- the database behind a change of one object's copies

-- where the rows of the clients are those with these copies of the object, so is its version
version-after : (object : ℕ) (cs : List CopyRow) (v new : Inv) (x : Version) → version object v ≡ Some x → new.clients ≡ rows_copied object cs v.clients
    → version object new ≡ Some (record x { copies = cs })
version-after object cs v new x there is =
    ap (λ (c : Rows). version_of object (kept_of c)) is ∙ ap (version_of object) (kept_of-copied object cs v.clients) ∙ found-copied object cs x (versions v) there

effect-clients : (c : Change) (v : Inv) → (effect c v).clients ≡ (changed c v).clients
unfolding effect
effect-clients c v = refl

-- what a change of the copies makes of the clients of a database that has the clients of another
clients-altered : (object : ℕ) (step : CopyChange) (v u : Inv) (x : Version) (cs : List CopyRow) → u.clients ≡ v.clients → version object v ≡ Some x → copies_after step x.copies ≡ Ok cs
    → (change_copy object step u).clients ≡ rows_copied object cs v.clients
clients-altered object step v u x cs same there said =
    let here : version object u ≡ Some x = ap (λ (c : Rows). version_of object (kept_of c)) same ∙ there in
    ap (λ (z : Inv). z.clients) (sym (altered object step u x cs here said)) ∙ ap (rows_copied object cs) same

-- ---- a further copy

copied-version : (object : ℕ) (t : Ticket) (v : Inv) (x : Version) → version object v ≡ Some x
    → (row : CopyRow) × (row.pool ≡ t.place.pool) × (version object (effect (one_copied object t v) v) ≡ Some (record x { copies = with_copy row x.copies }))
copied-version object t v x there =
    let i : NewCopy = copied_item object t in
    let u : Inv = each make_scratch (scratch_of v (t ∷ [])) v in
    let row : CopyRow = placed_now t.place.pool t.place.segments u in
    let same : u.clients ≡ v.clients = (all_scratch_only (scratch_of v (t ∷ [])) v).clients in
    let clients : (effect (one_copied object t v) v).clients ≡ rows_copied object (with_copy row x.copies) v.clients =
    effect-clients (one_copied object t v) v
    ∙ ap (λ (z : Inv). z.clients) (put_kept object t.place.segments (change_copy object (added i u) u)).only
    ∙ clients-altered object (added i u) v u x (with_copy row x.copies) same there refl in
    (row, refl, version-after object (with_copy row x.copies) v (effect (one_copied object t v) v) x there clients)

-- ---- a copy that moves

moved-version : (object from placed : ℕ) (t : Ticket) (v : Inv) (x : Version) (old : CopyRow) → version object v ≡ Some x → in_pool from x.copies ≡ Some old
    → (row : CopyRow) × (row.placed ≡ v.number + 1) × (version object (effect (one_moved object from placed t v) v) ≡ Some (record x { copies = with_copy row (without_copy from x.copies) }))
moved-version object from placed t v x old there held =
    let i : MovedCopy = moved_item object from placed t in
    let u : Inv = each make_scratch (scratch_of v (t ∷ [])) v in
    let scratch = all_scratch_only (scratch_of v (t ∷ [])) v in
    let filled : Inv = put_moved i u in
    let come = (put_kept object t.place.segments u).only in
    let taken : Inv = take_moved i filled in
    let gone = taken_only object (segments_in from (version_at object filled)) filled in
    let row : CopyRow = placed_now t.place.pool t.place.segments filled in
    let cs : List CopyRow = with_copy row (without_copy from x.copies) in
    let same : taken.clients ≡ v.clients = gone.clients ∙ ap (λ (z : Inv). z.clients) come ∙ scratch.clients in
    let number : filled.number ≡ v.number = ap (λ (z : Inv). z.number) come ∙ scratch.number in
    let clients : (effect (one_moved object from placed t v) v).clients ≡ rows_copied object cs v.clients =
    effect-clients (one_moved object from placed t v) v ∙ clients-altered object (moved i filled) v taken x cs same there (said_replace from row x.copies old held) in
    (row, ap (λ n. n + 1) number, version-after object cs v (effect (one_moved object from placed t v) v) x there clients)

-- ---- what isn't refused

-- the object is there, and the rule refuses nothing
record Found (object : ℕ) (v : Inv) (rule : Version → List Refusal) : Type 0 where
  x : Version
  there : version object v ≡ Some x
  none : rule x ≡ []

of-none : (j : Journal) (object : ℕ) (v : Inv) (rule : Version → List Refusal) → of_version j object rule (version object v) ≡ [] → Found object v rule
of-none j object v rule h = go (version object v) refl h where
  go : (o : Option Version) → version object v ≡ o → of_version j object rule o ≡ [] → Found object v rule
  go None e t = absurd cc
  go (Some x) e t = record { x = x; there = e; none = t }

unless-none : (b : Bool) (e : Refusal) → unless b e ≡ [] → b ≡ true
unless-none true e h = refl
unless-none false e h = absurd cc

placed-there : (placed : ℕ) (o : Option CopyRow) → placed_by placed o ≡ true → (old : CopyRow) × (o ≡ Some old)
placed-there placed None h = let never : false ≡ true = h in absurd cc
placed-there placed (Some c) h = (c, refl)

new-unwanted : (pool object : ℕ) (v : Inv) → is_wanted (aim.New pool) object v ≡ false
new-unwanted pool object v = go (version object v) where
  go : (o : Option Version) → option_map_or (is_open_for (aim.New pool)) o false ≡ false
  go None = refl
  go (Some x) = refl

other-number : (n m placed : ℕ) → n ≡ m + 1 → placed ≤ m → (n == placed) ≡ false
other-number n m placed h l = ne_eqb n placed (λ (e : n ≡ placed). absurd (omega arith))

left-copied : (j : Journal) (object to : ℕ) (t : Ticket) (v : Inv) → causes j (one_copied object t v) v ≡ [] → t.place.pool ≡ to
    → is_wanted (aim.Copy to) object (effect (one_copied object t v) v) ≡ false
left-copied j object to t v h at =
    let i : NewCopy = copied_item object t in
    let list = append-none (copy_list_refused j (i ∷ []) v) _ h in
    let items = append-none (unless (name_once (object ∷ [])) bad_value) _ list.0 in
    let one = append-none (copied_refused j v i) [] items.1 in
    let f : Found object v _ = of-none j object v _ one.0 in
    let after = copied-version object t v f.x f.there in
    ap (λ (o : Option Version). option_map_or (is_open_for (aim.Copy to)) o false) after.2
    ∙ ap not (subst (λ (p : ℕ). has_copy p (with_copy after.0 f.x.copies) ≡ true) (after.1 ∙ at) (has-with after.0 f.x.copies))

left-moved : (j : Journal) (object from placed to : ℕ) (along : Bool) (t : Ticket) (v : Inv) → causes j (one_moved object from placed t v) v ≡ [] → placed ≤ v.number
    → is_wanted (aim.Move from placed to along) object (effect (one_moved object from placed t v) v) ≡ false
left-moved j object from placed to along t v h past =
    let i : MovedCopy = moved_item object from placed t in
    let list = append-none (move_refused j (i ∷ []) v) _ h in
    let items = append-none (unless (name_once (object ∷ [])) bad_value) _ list.0 in
    let one = append-none (moved_refused j v i) [] items.1 in
    let f : Found object v (copy_refused j object from placed) = of-none j object v (copy_refused j object from placed) one.0 in
    let old = placed-there placed (copy_in from f.x) (unless-none (placed_by placed (copy_in from f.x)) (stale_copy (j.copy_changed object from) (copy_in from f.x)) f.none) in
    let after = moved-version object from placed t v f.x old.0 f.there old.1 in
    ap (λ (o : Option Version). option_map_or (is_open_for (aim.Move from placed to along)) o false) after.2
    ∙ placed-with from placed after.0 (without_copy from f.x.copies) (other-number after.0.placed v.number placed after.1 past) (none-without from placed f.x.copies)

-- what its aim asks isn't wanted behind the transaction
left : (j : Journal) (object : ℕ) (a : Aim) (t : Ticket) (v : Inv) → causes j (change_for object a t v) v ≡ [] → IsAimed a t.place.pool → IsPast v.number a
    → is_wanted a object (effect (change_for object a t v) v) ≡ false
left j object (aim.New number) t v h at past = new-unwanted number object (effect (one_copied object t v) v)
left j object (aim.Move from placed to along) t v h at past = left-moved j object from placed to along t v h past
left j object (aim.Copy to) t v h at past = left-copied j object to t v h at

-- ---- the step

no-cause : (o : Option Refusal) (valid : Bool) → then_valid o valid ≡ None → o ≡ None
no-cause None valid h = refl
no-cause (Some e) valid h = absurd cc

legal-causes : (j : Journal) (c : Change) (v : Inv) → refused j c v ≡ None → causes j c v ≡ []
unfolding refused
legal-causes j c v h =
    (append-none (causes j c v) (sizes_refused c v) (none-held (causes j c v ++ sizes_refused c v) (no-cause (foremost (causes j c v ++ sizes_refused c v)) (is_valid (effect c v)) h))).0

number-is : (w : History) (n : ℕ) → w.base.number ≤ n → n ≤ last w → (inv w n).number ≡ n
unfolding inv
number-is w n begun within =
    let h : (inv w n).number ≡ w.base.number + length (take (n - w.base.number) w.journal) = after-number w.base (take (n - w.base.number) w.journal) in
    omega (arith, length-take (n - w.base.number) w.journal)

past-now : (n number : ℕ) (a : Aim) → number ≡ n → IsPast n a → IsPast number a
past-now n number a same h = subst (λ (m : ℕ). IsPast m a) (sym same) h

made-change : (w : History) (actor : ℕ) (a : Own) (n next_file number object : ℕ) (to : Aim) → (c : Carries actor number object to true a) → (joined : Option Change)
    → IsMadeOf asked.Placed (number ∷ []) (sight_at w a n next_file) joined → joined ≡ Some (change_for object to c.t (inv w n))
made-change w actor a n next_file number object to c None h = absurd h
made-change w actor a n next_file number object to c (Some d) h = sym h ∙ change-is w actor a n next_file number object to true c

-- the number behind it, and that the copy isn't wanted there
pub record Leaves (w : History) (n object : ℕ) (to : Aim) (b : Own) : Type 0 where
  pub reached : b.reached ≡ n + 1
  pub unwanted : is_wanted to object (inv w (n + 1)) ≡ false

pub committed : (w : History) (actor : ℕ) (a b : Own) (n number object : ℕ) (to : Aim) (made : ℕ) → Carries actor number object to true a
    → Step w actor a (event n (Commit asked.Placed (number ∷ []) (Ok made))) b → IsPast n to
    → Leaves w n object to b
committed w actor a b n number object to made c s past =
    let it : Change = change_for object to c.t (inv w n) in
    let j : Journal = journal_of w.base (entries_to w n) in
    let is : s.joined ≡ Some it = made-change w actor a n s.next_file number object to c s.joined s.joins in
    let there : slice_get w.journal (n - w.base.number) ≡ Some (record { actor = actor; change = it }) = subst (λ (o : Option Change). JoinsAt w actor n o) is s.joins_at in
    let next : inv w (n + 1) ≡ effect it (inv w n) = inv-next w n (record { actor = actor; change = it }) s.begun there in
    let cause : causes j it (inv w n) ≡ [] = legal-causes j it (inv w n) (joined-legal w actor a b n asked.Placed (number ∷ []) made it s is) in
    record {
      reached = s.has.reached ∙ ap (number_after n) is;
      unwanted = ap (is_wanted to object) next ∙ left j object to c.t (inv w n) cause c.pool (past-now n (inv w n).number to (number-is w n s.begun s.within) past);
    }

-- ---- its entry

abbrev copied_into : (object : ℕ) → Ticket → Inv → (pool : ℕ) → Change
copied_into object t v pool = change.Copy (record { scratch = scratch_of v (t ∷ []); items = (record { object = object; pool = pool; segments = t.place.segments }) ∷ [] })

entry-for : (object : ℕ) (a : Aim) (t : Ticket) (v : Inv) → IsAimed a t.place.pool → IsEntryFor object a (change_for object a t v)
entry-for object (aim.New number) t v at = (scratch_of v (t ∷ []), t.place.pool, t.place.segments, refl)
entry-for object (aim.Move from placed to along) t v at = (scratch_of v (t ∷ []), t.place.pool, t.place.segments, refl)
entry-for object (aim.Copy to) t v at = (scratch_of v (t ∷ []), t.place.segments, ap (copied_into object t v) at)

pub entered : (w : History) (actor : ℕ) (a b : Own) (n number object : ℕ) (to : Aim) (made : ℕ) → Carries actor number object to true a → Step w actor a (event n (Commit asked.Placed (number ∷ []) (Ok made))) b
    → (c : Change) × IsEntryFor object to c × (slice_get w.journal (n - w.base.number) ≡ Some (record { actor = actor; change = c }))
entered w actor a b n number object to made c s =
    let is : s.joined ≡ Some (change_for object to c.t (inv w n)) = made-change w actor a n s.next_file number object to c s.joined s.joins in
    (change_for object to c.t (inv w n), entry-for object to c.t (inv w n) c.pool, subst (λ (o : Option Change). JoinsAt w actor n o) is s.joins_at)
