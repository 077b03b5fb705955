-- Behind the filespace's own transaction it isn't there, and nothing is kept in it.
use Rattle.std.proofs.Common.{◌≡◌, ℕ, ◌+◌, ◌-◌, ◌≤◌, ◌==◌, ◌&&◌, ◌||◌, cond, Bool, true, false, List, [], ◌∷◌, ◌++◌, Option, Some, None, Result, Ok, refl, sym, ap, subst, ◌∙◌, arith, if◌then◌else◌}
use Rattle.std.proofs.lemmas.Map.{lookup-remove_entry}
use Rattle.std.proofs.lemmas.Map.Keys.{IsDistinct-from_sorted}
use Rattle.std.specs.Cmp.{eq_by_cmp_equiv, nat_cmp_total}
use Rattle.std.specs.List.{slice_get}
use Rattle.std.specs.List.Sorted.{IsStrictlySortedBy}
use Rattle.std.specs.Map.{keys_of, remove_entry}
use Rattle.std.specs.Option.{option_map_or}
use Rattle.std.specs.Ordering.{eq_by_cmp, nat_cmp}
use Rattle.kinds.specs.Least.{lesser}
use Rattle.kinds.specs.Refusals.{foremost, refusal_of}
use Rattle.kinds.specs.declared.change.DefineOrDelete.TheVariants as two
use Rattle.kinds.specs.declared.change.ObjectChange.TheVariants as client
use Rattle.kinds.specs.declared.refusal.Refusal.{Refusal}
use Rattle.entries.specs.declared.change.Change.{Change}
use Rattle.entries.specs.declared.change.Change.TheVariants as change
use Rattle.inventory_rows.specs.version_groups.declared.groups.Filespace.{Filespace}
use Rattle.inventory_rows.specs.version_groups.Entries.{if_found}
use Rattle.inventory_rows.specs.object_rows.declared.held_object.HeldRow.{HeldRow}
use Rattle.inventory_rows.specs.object_rows.Changes.{by_object, least, least_in, least_object, numbers_in, unless_used}
use Rattle.inventory_rows.specs.object_rows.Filespaces.{at_number, filespace_at, groups_in, versions_at}
use Rattle.inventory_rows.specs.object_rows.HeldRows.{has_under, held_at, is_under as row_under}
use Rattle.inventory_rows.specs.object_rows.Rows.{Rows, with_filespaces}
use Rattle.inventory_rows.specs.version_groups.Versions.{has_object}
use Rattle.inventory_rows.specs.version_groups.Groups as grouped
use Rattle.inventory_rows.proofs.of_object_rows.Stands.{at_itself}
use Rattle.inventory_rows.specs.State.{Inv}
use Rattle.inventory_rules.specs.Common.{or_same}
use Rattle.inventory_rules.specs.Journal.{Journal}
use Rattle.inventory_rules.specs.Ordered.{IsOrdered}
use Rattle.inventory_rules.specs.Run.{journal_of}
use Rattle.inventory_rules.specs.Transactions.{causes, effect, refused as change_refused, sizes_refused, then_valid}
use Rattle.inventory_rules.specs.Valid.{is_valid}
use Rattle.inventory_rules.specs.Versions.{is_under}
use Rattle.steps.specs.Events.{Event, event}
use Rattle.steps.specs.Events.Deed.{Commit, Force}
use Rattle.machine.specs.Fits.{IsMadeOf, JoinsAt, Step, entries_to, inv, number_after, sight_at}
use Rattle.machine.specs.State.{Sight}
use Rattle.machine.proofs.Elsewhere.{append-none, none-held}
use Rattle.machine.proofs.Histories.{inv-next}
use Rattle.machine.proofs.Legality.{joined-legal}
use Rattle.machine.proofs.Runs.{fits-cut, fits-first, fits-one, fits-rises}
use Rattle.copy_runs.proofs.Told.{reaches}
use Rattle.copy_runs.specs.Ends.{last_of}
use Rattle.deletions.specs.Filespaces.{IsGone, deleting}

abbrev row_change : (name : List ℕ) (filespace : ℕ) → Change
row_change name filespace = change.Object (client.Filespace two.Delete 0 name filespace)

-- ---- held objects

none-least : (n : ℕ) (ns : List ℕ) → least (n ∷ ns) ≡ None → ⊥
none-least n ns h = go (least ns) h where
  go : (o : Option ℕ) → lesser (Some n) o ≡ None → ⊥
  go None s = cc
  go (Some m) s = cc

none-numbers : (ns : List ℕ) → least ns ≡ None → ns ≡ []
none-numbers [] h = refl
none-numbers (n ∷ ns) h = absurd (none-least n ns h)

and-false : (a b : Bool) → a ≡ false → (a && b) ≡ false
and-false a b h = ap (λ x. x && b) h

unheld-row : (filespace : ℕ) (path : List ℕ) (row : HeldRow) → (row.filespace == filespace) ≡ false → row_under filespace path row ≡ false
unheld-row filespace path row h = and-false (row.filespace == filespace) _ h

unheld : (filespace object : ℕ) (path : List ℕ) (held : List (ℕ × HeldRow)) → numbers_in filespace held ≡ [] → has_under filespace path object held ≡ false
unheld filespace object path [] h = refl
unheld filespace object path (e ∷ held) h =
    elim (e.1.filespace == filespace) as (λ b. (e.1.filespace == filespace) ≡ b → (if b then e.0 ∷ numbers_in filespace held else numbers_in filespace held) ≡ []
    → option_map_or (row_under filespace path) (held_at object (e ∷ held)) false ≡ false) [
      | true ↦ λ t s. absurd (let never : e.0 ∷ numbers_in filespace held ≡ [] = s in cc)
      | false ↦ λ t s. at-first (at_number object e.0) t (unheld filespace object path held s)
    ] refl h where
      at-first : (b : Bool) → (e.1.filespace == filespace) ≡ false → has_under filespace path object held ≡ false → option_map_or (row_under filespace path) (cond b (Some e.1) (held_at object held)) false ≡ false
      at-first true other rest = unheld-row filespace path e.1 other
      at-first false other rest = rest

-- ---- the rows

one-number : (k x y : ℕ) → at_number k x ≡ true → at_number k y ≡ eq_by_cmp nat_cmp x y
one-number k x y h = (eq_by_cmp_equiv nat_cmp_total).congr k x y h

removed : (k : ℕ) (fs : List (ℕ × Filespace)) → IsStrictlySortedBy nat_cmp (keys_of fs) → filespace_at k (remove_entry (at_number k) fs) ≡ None
removed k fs sorted =
    lookup-remove_entry (eq_by_cmp_equiv nat_cmp_total) (at_number k) (one-number k) k fs (IsDistinct-from_sorted nat_cmp (keys_of fs) sorted) ∙ ap (λ b. cond b None (filespace_at k fs)) (at_itself k)

both-none : (a b : Option ℕ) → lesser a b ≡ None → b ≡ None
both-none None b h = h
both-none (Some n) None h = refl
both-none (Some n) (Some m) h = absurd cc

-- what the rows are behind the transaction, and that nothing is held in the filespace
record Gone (filespace : ℕ) (rows new : Rows) : Type 0 where
  pub filespaces : new.filespaces ≡ remove_entry (at_number filespace) rows.filespaces
  pub held : new.held ≡ rows.held
  pub none : least_in filespace rows.held ≡ None

abbrev IsDone : (filespace : ℕ) → Rows → Result Rows Refusal → Type 0
IsDone filespace rows said = (new : Rows) × (said ≡ Ok new) × Gone filespace rows new

by-user : (filespace : ℕ) (rows : Rows) (f : Filespace) (o : Option ℕ) → lesser (least_object f.groups) (least_in filespace rows.held) ≡ o
    → refusal_of (with_filespaces rows (unless_used (by_object o) (remove_entry (at_number filespace) rows.filespaces))) ≡ []
    → IsDone filespace rows (with_filespaces rows (unless_used (by_object o) (remove_entry (at_number filespace) rows.filespaces)))
by-user filespace rows f None is h = (
  record { nodes = rows.nodes; filespaces = remove_entry (at_number filespace) rows.filespaces; held = rows.held },
  refl,
  record { filespaces = refl; held = refl; none = both-none (least_object f.groups) (least_in filespace rows.held) is },
)
by-user filespace rows f (Some n) is h = absurd cc

-- the rows by the filespace that was found
abbrev deleted_by : (filespace : ℕ) → Rows → Option Filespace → Result Rows Refusal
deleted_by filespace rows o =
    with_filespaces rows (if_found o (λ f. unless_used (by_object (lesser (least_object f.groups) (least_in filespace rows.held))) (remove_entry (at_number filespace) rows.filespaces)))

by-found : (filespace : ℕ) (rows : Rows) (o : Option Filespace) → refusal_of (deleted_by filespace rows o) ≡ [] → IsDone filespace rows (deleted_by filespace rows o)
by-found filespace rows None h = absurd cc
by-found filespace rows (Some f) h = by-user filespace rows f (lesser (least_object f.groups) (least_in filespace rows.held)) refl h

no-cause : (o : Option Refusal) (valid : Bool) → then_valid o valid ≡ None → o ≡ None
no-cause None valid h = refl
no-cause (Some e) valid h = absurd cc

legal-causes : (j : Journal) (c : Change) (v : Inv) → change_refused j c v ≡ None → causes j c v ≡ []
unfolding change_refused
legal-causes j c v h =
    (append-none (causes j c v) (sizes_refused c v) (none-held (causes j c v ++ sizes_refused c v) (no-cause (foremost (causes j c v ++ sizes_refused c v)) (is_valid (effect c v)) h))).0

-- the clients behind the transaction
clients-are : (name : List ℕ) (filespace : ℕ) (v : Inv) (new : Rows) → deleted_by filespace v.clients (filespace_at filespace v.clients.filespaces) ≡ Ok new
    → (effect (row_change name filespace) v).clients ≡ new
unfolding effect
clients-are name filespace v new h = ap (λ (r : Result Rows Refusal). or_same v.clients r) h

unfilespaced : (filespace : ℕ) (c new : Rows) → IsStrictlySortedBy nat_cmp (keys_of c.filespaces) → Gone filespace c new → filespace_at filespace new.filespaces ≡ None
unfilespaced filespace c new sorted g = ap (filespace_at filespace) g.filespaces ∙ removed filespace c.filespaces sorted

nothing-under : (filespace object : ℕ) (path : List ℕ) (c new : Rows) → Gone filespace c new → filespace_at filespace new.filespaces ≡ None
    → (has_under filespace path object new.held || has_object object (versions_at filespace path new.filespaces)) ≡ false
nothing-under filespace object path c new g none =
    ap (λ (b : Bool). b || has_object object (versions_at filespace path new.filespaces))
    (ap (has_under filespace path object) g.held ∙ unheld filespace object path c.held (none-numbers (numbers_in filespace c.held) g.none))
    ∙ ap (λ (o : Option Filespace). has_object object (grouped.versions_at path (groups_in o))) none

-- the filespace isn't there, and nothing is kept under a path of it
record IsOut (filespace : ℕ) (v : Inv) : Type 0 where
  pub row : filespace_at filespace v.clients.filespaces ≡ None
  pub nothing : (path : List ℕ) (object : ℕ) → is_under filespace path object v ≡ false

gone-behind : (j : Journal) (name : List ℕ) (filespace : ℕ) (v : Inv) → IsOrdered v → causes j (row_change name filespace) v ≡ [] → IsOut filespace (effect (row_change name filespace) v)
gone-behind j name filespace v ordered h =
    let d : IsDone filespace v.clients (deleted_by filespace v.clients (filespace_at filespace v.clients.filespaces)) =
    by-found filespace v.clients (filespace_at filespace v.clients.filespaces)
    (append-none (refusal_of (deleted_by filespace v.clients (filespace_at filespace v.clients.filespaces))) [] h).0 in
    let is : (effect (row_change name filespace) v).clients ≡ d.0 = clients-are name filespace v d.0 d.1 in
    let none : filespace_at filespace d.0.filespaces ≡ None = unfilespaced filespace v.clients d.0 ordered.by_number d.2 in
    record {
      row = ap (λ (c : Rows). filespace_at filespace c.filespaces) is ∙ none;
      nothing = λ path object.
          ap (λ (c : Rows). has_under filespace path object c.held || has_object object (versions_at filespace path c.filespaces)) is ∙ nothing-under filespace object path v.clients d.0 d.2 none;
    }

-- ---- the steps

made-row : (name : List ℕ) (filespace : ℕ) (s : Sight) (joined : Option Change) → IsMadeOf (deleting name filespace) [] s joined → joined ≡ Some (row_change name filespace)
made-row name filespace s None h = absurd h
made-row name filespace s (Some c) h = sym h

pub last-behind : (xs : List Event) (y : Event) (ys : List Event) → last_of (xs ++ (y ∷ ys)) ≡ last_of (y ∷ ys)
last-behind [] y ys = refl
last-behind (x ∷ []) y ys = refl
last-behind (x ∷ k ∷ xs) y ys = last-behind (k ∷ xs) y ys

pub goes : (filespace : ℕ) (name : List ℕ) (x : Event) (rest : List Event) (n number m told : ℕ)
    → IsGone filespace ((x ∷ rest) ++ event n (Commit (deleting name filespace) [] (Ok number)) ∷ event m (Force (Ok told)) ∷ [])
goes filespace name x rest n number m told = λ w actor a b ordered fits.
    let c : Change = row_change name filespace in
    let y : Event = event n (Commit (deleting name filespace) [] (Ok number)) in
    let z : Event = event m (Force (Ok told)) in
    let t = fits-cut w actor a b (x ∷ rest) (y ∷ z ∷ []) fits in
    let f = fits-first w actor a t.0 x rest t.1 in
    let r = fits-first w actor t.0 b y (z ∷ []) t.2 in
    let s : Step w actor t.0 y r.0 = r.1 in
    let last_step : Step w actor r.0 z b = fits-one w actor r.0 b z r.2 in
    let is : s.joined ≡ Some c = made-row name filespace (sight_at w t.0 n s.next_file) s.joined s.joins in
    let reached : r.0.reached ≡ n + 1 = s.has.reached ∙ ap (number_after n) is in
    let there : slice_get w.journal (n - w.base.number) ≡ Some (record { actor = actor; change = c }) = subst (λ (o : Option Change). JoinsAt w actor n o) is s.joins_at in
    let next : inv w (n + 1) ≡ effect c (inv w n) = inv-next w n (record { actor = actor; change = c }) s.begun there in
    let j : Journal = journal_of w.base (entries_to w n) in
    let cause : causes j c (inv w n) ≡ [] = legal-causes j c (inv w n) (joined-legal w actor t.0 r.0 n (deleting name filespace) [] number c s is) in
    let out : IsOut filespace (effect c (inv w n)) = gone-behind j name filespace (inv w n) (ordered n s.begun s.within) cause in
    let one : x.n ≤ f.0.reached = reaches w actor a f.0 x f.1 in
    let rise : f.0.reached ≤ t.0.reached = fits-rises w actor f.0 t.0 rest f.2 in
    let since : t.0.reached ≤ n = s.since in
    let end : r.0.reached ≤ m = last_step.since in
    let low : x.n ≤ n + 1 = omega arith in
    let high : n + 1 ≤ m = omega arith in (
      n + 1,
      low,
      subst (λ (k : ℕ). n + 1 ≤ k) (sym (last-behind (x ∷ rest) y (z ∷ []))) high,
      ap (λ (v : Inv). filespace_at filespace v.clients.filespaces) next ∙ out.row,
      λ path object. ap (is_under filespace path object) next ∙ out.nothing path object,
    )
