-- A step of an attempt that passes over its object: there the copy isn't wanted any more.
use Rattle.std.proofs.Common.{◌≡◌, ◌⊎◌, inl, inr, ℕ, ◌==◌, ◌&&◌, ◌||◌, Bool, true, false, not, is_some, nat_le, List, [], ◌∷◌, ◌++◌, map, length, Option, Some, None, Err, refl, sym, ap, subst, ◌∙◌, if◌then◌else◌}
use Rattle.std.proofs.lemmas.Bool.{false≢true}
use Rattle.std.specs.List.{AllByRecursion, flat_map, list_all}
use Rattle.std.specs.Option.{option_map_or}
use Rattle.kinds.specs.Refusals.{bad_value, foremost, number_of, unless}
use Rattle.kinds.specs.declared.refusal.Refusal.{Refusal}
use Rattle.kinds.specs.declared.refusal.Refusal.TheVariants as refusal
use Rattle.entries.specs.change_items.declared.items.MovedCopy.{MovedCopy}
use Rattle.entries.specs.change_items.declared.items.NewCopy.{NewCopy}
use Rattle.entries.specs.change_items.declared.items.ScratchVolume.{ScratchVolume}
use Rattle.entries.specs.declared.change.Change.{Change}
use Rattle.entries.specs.declared.change.Change.TheVariants as change
use Rattle.inventory_rows.specs.version_groups.Entries.{is_nil}
use Rattle.inventory_rows.specs.version_groups.Copies.{has_copy}
use Rattle.inventory_rows.specs.version_groups.declared.copies.CopyRow.{CopyRow}
use Rattle.inventory_rows.specs.version_groups.declared.versions.Version.{Version}
use Rattle.inventory_rows.specs.Items.{count_items, most_items}
use Rattle.inventory_rows.specs.Search.{copy_in, version}
use Rattle.inventory_rows.specs.State.{Inv}
use Rattle.inventory_rules.specs.Common.{file_bound, files_refused}
use Rattle.inventory_rules.specs.Copies.{copied_refused, copy_list_refused, copy_refused, move_refused, moved_refused, stale_copy}
use Rattle.inventory_rules.specs.Journal.{Journal}
use Rattle.inventory_rules.specs.Segments.{scratch_refused}
use Rattle.inventory_rules.specs.Transactions.{causes, effect, refused, sizes_refused, then_valid}
use Rattle.inventory_rules.specs.Valid.{is_valid}
use Rattle.inventory_rules.specs.Versions.{name_once, of_version}
use Rattle.inventory_laws.proofs.CopyLists.{has-in_pool}
use Rattle.space.specs.declared.aim.Aim.{Aim}
use Rattle.space.specs.declared.aim.Aim.TheVariants as aim
use Rattle.steps.specs.declared.asked.Asked.TheVariants as asked
use Rattle.steps.specs.Events.{event}
use Rattle.steps.specs.Events.Deed.{OpenCopy, CopyPiece, Seal, Commit}
use Rattle.copy_attempts.specs.Attempts.{is_passed}
use Rattle.machine.specs.Causes.{are_there, asked_refused, change_illegal, change_refused, commit_refused, copied_already, copy_refused_by, copying_refused, listed, object_gone, of_ticket, of_tickets, seal_refused, ticket_in_use}
use Rattle.machine.specs.Changes.{all_tickets, change_of, is_copied, is_moved, is_moved_by, move_from, placed_change, scratch_of}
use Rattle.machine.specs.Fits.{History, Own, Step, inv, sight_at}
use Rattle.machine.specs.Says.{Says, is_elsewhere}
use Rattle.machine.specs.State.{Purpose, Sight, Ticket, copying, is_storing, object_of, ticket}
use Rattle.machine.proofs.Elsewhere.{append-all, foremost-all, unless-all}
use Rattle.copy_runs.proofs.Carrying.{Carries, IsAimed, found}
use Rattle.copy_runs.specs.Wanting.{is_open_for, is_wanted}

-- ---- refusals by number

abbrev IsUnpassed : Refusal → Type 0
IsUnpassed e = is_passed e ≡ false

-- a passed refusal comes of what the actor sees
not-elsewhere : (e : Refusal) → is_passed e ≡ true → is_elsewhere e ≡ true → ⊥
not-elsewhere (refusal.Syntax at) p q = cc
not-elsewhere (refusal.UnknownWord at) p q = cc
not-elsewhere (refusal.Ambiguous at) p q = cc
not-elsewhere (refusal.BadValue at) p q = cc
not-elsewhere refusal.NotFound p q = cc
not-elsewhere refusal.Exists p q = cc
not-elsewhere (refusal.InUse by) p q = cc
not-elsewhere refusal.NoDefaultClass p q = cc
not-elsewhere refusal.BadHierarchy p q = cc
not-elsewhere (refusal.DayBack today given) p q = cc
not-elsewhere refusal.NoBackupGroup p q = cc
not-elsewhere refusal.NoArchiveGroup p q = cc
not-elsewhere (refusal.NoSpace pool) p q = cc
not-elsewhere (refusal.Busy holder) p q = cc
not-elsewhere (refusal.Stale seq) p q = cc
not-elsewhere (refusal.Gone seq) p q = cc
not-elsewhere refusal.Unavailable p q = cc
not-elsewhere (refusal.WriteFault file) p q = cc
not-elsewhere refusal.TreeFault p q = cc
not-elsewhere (refusal.Changed listed read) p q = cc
not-elsewhere (refusal.DigestDiffers kept given) p q = cc
not-elsewhere refusal.TooLarge p q = cc
not-elsewhere refusal.RecordFull p q = cc
not-elsewhere refusal.InventoryFull p q = cc
not-elsewhere (refusal.NotYet file day) p q = cc
not-elsewhere (refusal.LogFault file count) p q = cc
not-elsewhere refusal.RunFull p q = cc
not-elsewhere refusal.Memory p q = cc

-- so it is the foremost of them
own-cause : (held : List Refusal) (e : Refusal) → (foremost held ≡ Some e) ⊎ (is_elsewhere e ≡ true) → is_passed e ≡ true → foremost held ≡ Some e
own-cause held e h p = elim h as (λ _. foremost held ≡ Some e) [
  | inl f ↦ f
  | inr away ↦ absurd (not-elsewhere e p away)
]

-- where none of them is passed, while the copy is wanted, it isn't wanted
unwanted-by : (a : Aim) (object : ℕ) (v : Inv) (held : List Refusal) (e : Refusal) (P : Refusal → Type 0) → (is_wanted a object v ≡ true → AllByRecursion P held) → foremost held ≡ Some e → (P e → ⊥)
    → is_wanted a object v ≡ false
unwanted-by a object v held e P all f not =
    elim (is_wanted a object v) as (λ b. is_wanted a object v ≡ b → b ≡ false) [
      | true ↦ λ t. absurd (not (foremost-all P held (all t) e f))
      | false ↦ λ t. refl
    ] refl

passes : (e : Refusal) → is_passed e ≡ true → IsUnpassed e → ⊥
passes e p u = false≢true (sym u ∙ p)

-- ---- what is wanted

no-object : (a : Aim) → option_map_or (is_open_for a) None false ≡ true → ⊥
no-object a h = let never : false ≡ true = h in absurd cc

-- of what is wanted, a rule that holds of its version refuses nothing
of-wanted : (a : Aim) (object : ℕ) (v : Inv) (j : Journal) (rule : Version → List Refusal) → is_wanted a object v ≡ true → ((x : Version) → is_open_for a x ≡ true → rule x ≡ [])
    → of_version j object rule (version object v) ≡ []
of-wanted a object v j rule h holds = go (version object v) h where
  go : (o : Option Version) → option_map_or (is_open_for a) o false ≡ true → of_version j object rule o ≡ []
  go None t = absurd (no-object a t)
  go (Some x) t = holds x t

no-copy : (copy : Option CopyRow) → is_some copy ≡ false → copied_already copy ≡ []
no-copy None h = refl
no-copy (Some c) h = let never : true ≡ false = h in absurd cc

not-is : (b : Bool) → not b ≡ true → b ≡ false
not-is true h = let never : false ≡ true = h in absurd cc
not-is false h = refl

none-there : (to : ℕ) (x : Version) → is_open_for (aim.Copy to) x ≡ true → is_some (copy_in to x) ≡ false
none-there to x h = sym (has-in_pool to x.copies) ∙ not-is (has_copy to x.copies) h

-- ---- the opening of a ticket

-- the pool isn't there, or it isn't passed
abbrev IsOther : Refusal → Type 0
IsOther e = (number_of e ≡ 10) ⊎ IsUnpassed e

new-unwanted : (pool object : ℕ) (v : Inv) → is_wanted (aim.New pool) object v ≡ true → ⊥
new-unwanted pool object v h = go (version object v) h where
  go : (o : Option Version) → option_map_or (is_open_for (aim.New pool)) o false ≡ true → ⊥
  go None t = let never : false ≡ true = t in absurd cc
  go (Some x) t = let never : false ≡ true = t in absurd cc

all-none : (P : Refusal → Type 0) (es : List Refusal) → es ≡ [] → AllByRecursion P es
all-none P es h = subst (λ (xs : List Refusal). AllByRecursion P xs) (sym h) tt

open-causes : (object : ℕ) (a : Aim) (s : Sight) → is_wanted a object s.inventory ≡ true → AllByRecursion IsOther (copy_refused_by object a s)
open-causes object (aim.New pool) s h = absurd (new-unwanted pool object s.inventory h)
open-causes object (aim.Move from placed to along) s h =
    append-all IsOther (unless _ refusal.NotFound) _ (unless-all IsOther _ refusal.NotFound (inl refl))
    (all-none IsOther _ (of-wanted (aim.Move from placed to along) object s.inventory s.journal (copy_refused s.journal object from placed) h (λ x t. ap (λ b. unless b (stale_copy
    (s.journal.copy_changed object from) (copy_in from x))) t)))
open-causes object (aim.Copy to) s h =
    append-all IsOther (unless _ refusal.NotFound) _ (unless-all IsOther _ refusal.NotFound (inl refl))
    (all-none IsOther _ (of-wanted (aim.Copy to) object s.inventory s.journal (λ x. copied_already (copy_in to x)) h (λ x t. no-copy (copy_in to x) (none-there to x t))))

not-other : (e : Refusal) → (number_of e == 10) ≡ false → is_passed e ≡ true → IsOther e → ⊥
not-other e n p (inl ten) = let never : true ≡ false = sym (ap (λ m. m == 10) ten) ∙ n in absurd cc
not-other e n p (inr u) = passes e p u

pub open-passed : (w : History) (actor : ℕ) (a b : Own) (n object : ℕ) (to : Aim) (avoid : ℕ) (e : Refusal) → Step w actor a (event n (OpenCopy object to avoid (Err e))) b
    → (number_of e == 10) ≡ false → is_passed e ≡ true → is_wanted to object (inv w n) ≡ false
unfolding Says
open-passed w actor a b n object to avoid e s other p =
    let v : Sight = sight_at w a n s.next_file in
    unwanted-by to object (inv w n) (copy_refused_by object to v) e IsOther (λ t. open-causes object to v t) (own-cause (copy_refused_by object to v) e s.says p) (not-other e other p)

-- ---- pieces and seals

gone-none : (a : Aim) (object : ℕ) (s : Sight) → is_wanted a object s.inventory ≡ true → object_gone object s ≡ []
gone-none a object s h = of-wanted a object s.inventory s.journal (λ x. []) h (λ x t. refl)

pub piece-passed : (w : History) (actor : ℕ) (a b : Own) (n number object : ℕ) (to : Aim) (e : Refusal) → Carries actor number object to false a → Step w actor a (event n (CopyPiece number (Err e))) b
    → is_passed e ≡ true → is_wanted to object (inv w n) ≡ false
unfolding Says
piece-passed w actor a b n number object to e c s p =
    let v : Sight = sight_at w a n s.next_file in
    let rule : Ticket → List Refusal = λ t. if is_storing t.purpose then ticket_in_use number ∷ [] else unless (not t.is_sealed) (ticket_in_use number) ++ object_gone (object_of t.purpose) v in
    unwanted-by to object (inv w n) (copying_refused number v) e IsUnpassed
    (λ t. all-none IsUnpassed (copying_refused number v)
    (ap (of_ticket rule) (found actor number object to false a c)
    ∙ ap (λ (q : Purpose). if is_storing q then ticket_in_use number ∷ [] else unless (not c.t.is_sealed) (ticket_in_use number) ++ object_gone (object_of q) v) c.purpose
    ∙ ap (λ f. unless (not f) (ticket_in_use number) ++ object_gone object v) c.full
    ∙ gone-none to object v t))
    (own-cause (copying_refused number v) e s.says p) (passes e p)

pub seal-passed : (w : History) (actor : ℕ) (a b : Own) (n number object : ℕ) (to : Aim) (e : Refusal) → Carries actor number object to false a → Step w actor a (event n (Seal number (Err e))) b
    → is_passed e ≡ true → ⊥
unfolding Says
seal-passed w actor a b n number object to e c s p =
    let v : Sight = sight_at w a n s.next_file in
    let rule : Ticket → List Refusal = λ t. unless (length t.bytes == t.size) (refusal.Changed t.size (length t.bytes)) in
    passes e p (foremost-all IsUnpassed (seal_refused number v)
    (subst (λ (o : Option Ticket). AllByRecursion IsUnpassed (of_ticket rule o)) (sym (found actor number object to false a c))
    (unless-all IsUnpassed (length c.t.bytes == c.t.size) (refusal.Changed c.t.size (length c.t.bytes)) refl))
    e (own-cause (seal_refused number v) e s.says p))

-- ---- the transaction of one ticket

abbrev pub copied_item : (object : ℕ) → Ticket → NewCopy
copied_item object t = record { object = object; pool = t.place.pool; segments = t.place.segments }

abbrev pub moved_item : (object from placed : ℕ) → Ticket → MovedCopy
moved_item object from placed t = record { object = object; from = from; placed = placed; pool = t.place.pool; segments = t.place.segments }

abbrev pub one_copied : (object : ℕ) → Ticket → Inv → Change
one_copied object t v = change.Copy (record { scratch = scratch_of v (t ∷ []); items = copied_item object t ∷ [] })

abbrev pub one_moved : (object from placed : ℕ) → Ticket → Inv → Change
one_moved object from placed t v = change.Move (record { scratch = scratch_of v (t ∷ []); items = moved_item object from placed t ∷ [] })

-- what it is by the ticket's aim
abbrev pub change_for : (object : ℕ) → Aim → Ticket → Inv → Change
change_for object (aim.New number) t v = one_copied object t v
change_for object (aim.Move from placed to along) t v = one_moved object from placed t v
change_for object (aim.Copy to) t v = one_copied object t v

abbrev by_purpose : Inv → Ticket → Purpose → Change
by_purpose v t q =
    if is_moved_by q && true
    then change.Move (record { scratch = scratch_of v (t ∷ []); items = move_from t q ++ [] })
    else change.Copy (record { scratch = scratch_of v (t ∷ []); items = copied_item (object_of q) t ∷ [] })

aimed-change : (object : ℕ) (a : Aim) (t : Ticket) (v : Inv) → by_purpose v t (copying object a) ≡ change_for object a t v
aimed-change object (aim.New number) t v = refl
aimed-change object (aim.Move from placed to along) t v = refl
aimed-change object (aim.Copy to) t v = refl

all-is : (w : History) (actor : ℕ) (a : Own) (n next_file number object : ℕ) (to : Aim) (full : Bool) → (c : Carries actor number object to full a)
    → all_tickets (number ∷ []) (sight_at w a n next_file) ≡ c.t ∷ []
all-is w actor a n next_file number object to full c = ap (λ (o : Option Ticket). option_map_or (λ (t : Ticket). t ∷ []) o [] ++ []) (found actor number object to full a c)

pub change-is : (w : History) (actor : ℕ) (a : Own) (n next_file number object : ℕ) (to : Aim) (full : Bool) → (c : Carries actor number object to full a)
    → change_of asked.Placed (number ∷ []) (sight_at w a n next_file) ≡ Some (change_for object to c.t (inv w n))
change-is w actor a n next_file number object to full c =
    ap (λ (ts : List Ticket). if (length ts == 1 && 1 == 1) && true then Some (placed_change (inv w n) ts) else None) (all-is w actor a n next_file number object to full c)
    ∙ ap (λ (q : Purpose). Some (by_purpose (inv w n) c.t q)) c.purpose ∙ ap Some (aimed-change object to c.t (inv w n))

-- ---- its refusals

scratch-causes : (scratch : List ScratchVolume) (v : Inv) → AllByRecursion IsUnpassed (scratch_refused scratch v)
scratch-causes scratch v = append-all IsUnpassed (files_refused (map (λ (s : ScratchVolume). s.file) scratch) v) _ (unless-all IsUnpassed _ bad_value refl) (bounds scratch) where
  bounds : (xs : List ScratchVolume) → AllByRecursion IsUnpassed (flat_map (λ (s : ScratchVolume). file_bound s.file v) xs)
  bounds [] = tt
  bounds (x ∷ xs) = append-all IsUnpassed (file_bound x.file v) _ (unless-all IsUnpassed _ refusal.InventoryFull refl) (bounds xs)

copied-none : (j : Journal) (object to : ℕ) (t : Ticket) (v : Inv) → is_wanted (aim.Copy to) object v ≡ true → t.place.pool ≡ to → copied_refused j v (copied_item object t) ≡ []
copied-none j object to t v h at =
    of-wanted (aim.Copy to) object v j _ h
    (λ x o. ap (λ (b : Bool). unless (not b) (stale_copy (j.copy_changed object t.place.pool) (copy_in t.place.pool x))) (ap (λ (p : ℕ). is_some (copy_in p x)) at ∙ none-there to x o))

change-causes : (j : Journal) (object : ℕ) (a : Aim) (t : Ticket) (v : Inv) → is_wanted a object v ≡ true → IsAimed a t.place.pool → AllByRecursion IsUnpassed (causes j (change_for object a t v) v)
change-causes j object (aim.New number) t v h at = absurd (new-unwanted number object v h)
change-causes j object (aim.Move from placed to along) t v h at =
    append-all IsUnpassed (move_refused j (moved_item object from placed t ∷ []) v) _
    (append-all IsUnpassed (unless (name_once (object ∷ [])) bad_value) _ (unless-all IsUnpassed (name_once (object ∷ [])) bad_value refl)
    (all-none IsUnpassed (moved_refused j v (moved_item object from placed t) ++ [])
    (ap (λ (es : List Refusal). es ++ []) (of-wanted (aim.Move from placed to along) object v j (copy_refused j object from placed) h
    (λ x o. ap (λ b. unless b (stale_copy (j.copy_changed object from) (copy_in from x))) o)))))
    (scratch-causes (scratch_of v (t ∷ [])) v)
change-causes j object (aim.Copy to) t v h at =
    append-all IsUnpassed (copy_list_refused j (copied_item object t ∷ []) v) _
    (append-all IsUnpassed (unless (name_once (object ∷ [])) bad_value) _ (unless-all IsUnpassed (name_once (object ∷ [])) bad_value refl)
    (all-none IsUnpassed (copied_refused j v (copied_item object t) ++ []) (ap (λ (es : List Refusal). es ++ []) (copied-none j object to t v h at))))
    (scratch-causes (scratch_of v (t ∷ [])) v)

sizes-causes : (c : Change) (v : Inv) → AllByRecursion IsUnpassed (sizes_refused c v)
sizes-causes c v = append-all IsUnpassed (unless (nat_le (count_items (effect c v)) most_items) refusal.InventoryFull) _ (unless-all IsUnpassed _ refusal.InventoryFull refl)
    (unless-all IsUnpassed _ refusal.InventoryFull refl)

-- one of the causes, or a database that wouldn't be valid
listed-all : (P : Refusal → Type 0) (held : List Refusal) (valid : Bool) → AllByRecursion P held → P bad_value → AllByRecursion P (listed (then_valid (foremost held) valid))
listed-all P held valid all bad = go (foremost held) refl where
  go : (o : Option Refusal) → foremost held ≡ o → AllByRecursion P (listed (then_valid o valid))
  go None f = elim valid as (λ b. AllByRecursion P (listed (then_valid None b))) [ true ↦ tt | false ↦ (bad, tt) ]
  go (Some e) f = (foremost-all P held all e f, tt)

illegal-causes : (object : ℕ) (a : Aim) (t : Ticket) (s : Sight) → is_wanted a object s.inventory ≡ true → IsAimed a t.place.pool
    → AllByRecursion IsUnpassed (change_illegal (change_for object a t s.inventory) s)
unfolding refused
illegal-causes object a t s h at =
    let c : Change = change_for object a t s.inventory in
    listed-all IsUnpassed (causes s.journal c s.inventory ++ sizes_refused c s.inventory) (is_valid (effect c s.inventory))
    (append-all IsUnpassed (causes s.journal c s.inventory) (sizes_refused c s.inventory) (change-causes s.journal object a t s.inventory h at) (sizes-causes c s.inventory)) refl

change-all : (actor object : ℕ) (a : Aim) (t : Ticket) (s : Sight) → is_wanted a object s.inventory ≡ true → IsAimed a t.place.pool
    → AllByRecursion IsUnpassed (change_refused actor (Some (change_for object a t s.inventory)) s)
change-all actor object a t s h at =
    append-all IsUnpassed (change_illegal (change_for object a t s.inventory) s) _ (illegal-causes object a t s h at) (unless-all IsUnpassed _ refusal.RecordFull refl)

commit-causes : (w : History) (actor : ℕ) (a : Own) (n next_file number object : ℕ) (to : Aim) → (c : Carries actor number object to true a) → is_wanted to object (inv w n) ≡ true
    → AllByRecursion IsUnpassed (commit_refused actor asked.Placed (number ∷ []) (sight_at w a n next_file))
commit-causes w actor a n next_file number object to c h =
    let v : Sight = sight_at w a n next_file in
    let kinds : Bool = list_all is_moved (all_tickets (number ∷ []) v) || list_all is_copied (all_tickets (number ∷ []) v) in
    let there : ticket number a.tickets ≡ Some c.t = found actor number object to true a c in
    append-all IsUnpassed (are_there (number ∷ []) v) _
    (all-none IsUnpassed (are_there (number ∷ []) v) (ap (λ (o : Option Ticket). unless (is_some o) refusal.NotFound ++ []) there))
    (append-all IsUnpassed (unless (name_once (number ∷ []) && nat_le (length (number ∷ [])) 256) bad_value) _ (unless-all IsUnpassed (name_once (number ∷ []) && nat_le (length
    (number ∷ [])) 256) bad_value refl)
    (append-all IsUnpassed (asked_refused asked.Placed (number ∷ []) v) _
    (append-all IsUnpassed (unless (not (is_nil (number ∷ []))) bad_value) (unless kinds bad_value) (unless-all IsUnpassed (not (is_nil (number ∷ []))) bad_value refl)
    (unless-all IsUnpassed kinds bad_value refl))
    (append-all IsUnpassed (of_tickets (λ t. unless t.is_sealed (ticket_in_use t.number)) (number ∷ []) v) _
    (all-none IsUnpassed _ (ap (λ (o : Option Ticket). option_map_or (λ t. unless t.is_sealed (ticket_in_use t.number)) o [] ++ []) there ∙ ap (λ b. unless b (ticket_in_use c.t.number) ++ []) c.full))
    (subst (λ (o : Option Change). AllByRecursion IsUnpassed (change_refused actor o v)) (sym (change-is w actor a n next_file number object to true c)) (change-all actor object to c.t v h c.pool)))))

pub commit-passed : (w : History) (actor : ℕ) (a b : Own) (n number object : ℕ) (to : Aim) (e : Refusal) → Carries actor number object to true a
    → Step w actor a (event n (Commit asked.Placed (number ∷ []) (Err e))) b → is_passed e ≡ true → is_wanted to object (inv w n) ≡ false
unfolding Says
commit-passed w actor a b n number object to e c s p =
    let v : Sight = sight_at w a n s.next_file in
    unwanted-by to object (inv w n) (commit_refused actor asked.Placed (number ∷ []) v) e IsUnpassed (λ t. commit-causes w actor a n s.next_file number object to c t)
    (own-cause (commit_refused actor asked.Placed (number ∷ []) v) e s.says p) (passes e p)
