-- Behind a commit the objects that it stored have the bytes of its tickets, in every history that agrees with the machine then.
use Rattle.std.proofs.Common.{◌≡◌, ℕ, ◌==◌, ◌&&◌, ◌||◌, if◌then◌else◌, Bool, true, false, cond, not, List, [], ◌∷◌, ◌++◌, length, map, nat_le, is_some, Option, Some, None, Ok, Err, refl, sym, ap, subst, ◌∙◌}
use Rattle.std.proofs.lemmas.Bool.{and_parts, eqb-true, false≢true}
use Rattle.std.specs.List.{AllByRecursion, find, list_all}
use Rattle.std.specs.Option.{option_map_or}
use Rattle.kinds.specs.Refusals.{bad_value, foremost, unless}
use Rattle.kinds.specs.declared.refusal.Refusal.{Refusal}
use Rattle.kinds.specs.declared.refusal.Refusal.TheVariants as refusal
use Rattle.steps.specs.entries.change_items.declared.items.NewVersion.{NewVersion}
use Rattle.steps.specs.entries.declared.change.Change.{Change}
use Rattle.steps.specs.entries.declared.change.Change.TheVariants as change
use Rattle.steps.specs.entries.declared.entry.Entry.{Entry}
use Rattle.steps.specs.inventory_rows.version_groups.Entries.{is_nil}
use Rattle.steps.specs.inventory_rows.object_rows.Filespaces.{filespace_at}
use Rattle.steps.specs.inventory_rows.object_rows.Rows.{Rows}
use Rattle.steps.specs.inventory_rows.Search.{version}
use Rattle.steps.specs.inventory_rows.State.{Inv}
use Rattle.item_refusals.specs.inventory_rules.Common.{each}
use Rattle.item_refusals.specs.inventory_rules.Journal.{Journal}
use Rattle.item_refusals.specs.inventory_rules.Segments.{make_scratch, scratch_refused}
use Rattle.item_refusals.specs.inventory_rules.Transactions.{causes, effect, refused, sizes_refused, then_valid}
use Rattle.item_refusals.specs.inventory_rules.Valid.{is_valid}
use Rattle.item_refusals.specs.inventory_rules.Versions.{arrivals_refused, back_up, filespace_there, hold, name_once, new_refused, objects_refused}
use Rattle.steps.specs.declared.asked.Asked.{Asked}
use Rattle.steps.specs.declared.asked.Asked.TheVariants as asked
use Rattle.steps.specs.declared.asked.HeldItem.{HeldItem}
use Rattle.steps.specs.declared.asked.Item.{Item}
use Rattle.steps.specs.Events.{Deed}
use Rattle.steps.specs.Events.Deed.{OpenNew, OpenCopy, WritePiece, CopyPiece, Seal, Commit, DropTicket, ReadPiece, Ask, Image, Reuse, Force}
use Rattle.machine.specs.Causes.{are_there, asked_refused, commit_refused}
use Rattle.machine.specs.Changes.{all_tickets, are_so_many, change_of, held_from, is_copied, is_copied_by, is_moved, is_moved_by, paired, scratch_of, version_from}
use Rattle.machine.specs.Fits.{History, IsStored}
use Rattle.machine.specs.Machine.{Case, Commits, Places, ended, asked_change, held_refused, storing_contents, stored_by}
use Rattle.machine.specs.State.{Machine, Sight, Ticket, copying, inventory, is_storing, object_of, sight, storing}
use Rattle.machine.specs.Turns.{Agrees}
use Rattle.machine.proofs.Arriving.{all-backed, all-held, archived-found, is_archived, is_version, scratch-clients, version-found}
use Rattle.machine.proofs.Elsewhere.{append-none, none-held, own-none}
use Rattle.machine.proofs.Histories.{after-append}
use Rattle.machine.proofs.Legality.{commit-legal}

-- ---- what isn't refused

unless-holds : (b : Bool) (e : Refusal) → unless b e ≡ [] → b ≡ true
unless-holds true e h = refl
unless-holds false e h = absurd cc

then-none : (o : Option Refusal) (valid : Bool) → then_valid o valid ≡ None → o ≡ None
then-none None valid h = refl
then-none (Some e) valid h = absurd cc

no-cause : (j : Journal) (c : Change) (v : Inv) → refused j c v ≡ None → causes j c v ≡ []
unfolding refused
no-cause j c v h = (append-none (causes j c v) (sizes_refused c v) (none-held (causes j c v ++ sizes_refused c v) (then-none (foremost (causes j c v ++ sizes_refused c v)) (is_valid (effect c v)) h))).0

there-by : (n : ℕ) (objects : List ℕ) (v : Inv) (others : List Refusal) → new_refused n objects v ++ others ≡ [] → is_some (filespace_at n v.clients.filespaces) ≡ true
there-by n objects v others h =
    unless-holds (is_some (filespace_at n v.clients.filespaces)) refusal.NotFound (append-none (filespace_there n v) (arrivals_refused objects v) (append-none (new_refused n objects v) others h).0).0

asked-holds : (actor : ℕ) (asked : Asked) (numbers : List ℕ) (s : Sight) → foremost (commit_refused actor asked numbers s) ≡ None → asked_refused asked numbers s ≡ []
asked-holds actor asked numbers s h =
    let a = append-none (are_there numbers s) _ (none-held (commit_refused actor asked numbers s) h) in
    let b = append-none (unless (name_once numbers && nat_le (length numbers) 256) bad_value) _ a.1 in
    (append-none (asked_refused asked numbers s) _ b.1).0

-- ---- new objects are kept

-- the ticket's new object is kept in the database
abbrev IsKeptIn : Inv → Ticket → Type 0
IsKeptIn v t = is_storing t.purpose ≡ true → is_some (version (object_of t.purpose) v) ≡ true

each-kept : (P Q : Ticket → Type 0) → ((t : Ticket) → P t → Q t) → (tickets : List Ticket) → AllByRecursion P tickets → AllByRecursion Q tickets
each-kept P Q f [] all = tt
each-kept P Q f (t ∷ tickets) all = (f t all.0, each-kept P Q f tickets all.1)

-- tickets for copies store nothing
none-stored : (v : Inv) (test : Ticket → Bool) → ((t : Ticket) → test t ≡ true → is_storing t.purpose ≡ false) → (tickets : List Ticket) → list_all test tickets ≡ true → AllByRecursion (IsKeptIn v) tickets
none-stored v test copies [] h = tt
none-stored v test copies (t ∷ tickets) h =
    let parts = and_parts (test t) (list_all test tickets) h in
    (λ yes. absurd (false≢true (sym (copies t parts.0) ∙ yes)), none-stored v test copies tickets parts.1)

moved-copies : (t : Ticket) → is_moved t ≡ true → is_storing t.purpose ≡ false
moved-copies t h = elim t.purpose as (λ p. is_moved_by p ≡ true → is_storing p ≡ false) [
  | storing object ↦ λ h. absurd cc
  | copying object aim ↦ λ _. refl
] h

copied-copies : (t : Ticket) → is_copied t ≡ true → is_storing t.purpose ≡ false
copied-copies t h = elim t.purpose as (λ p. is_copied_by p ≡ true → is_storing p ≡ false) [
  | storing object ↦ λ h. absurd cc
  | copying object aim ↦ λ _. refl
] h

all-placed : (v : Inv) (tickets : List Ticket) → (list_all is_moved tickets || list_all is_copied tickets) ≡ true → AllByRecursion (IsKeptIn v) tickets
all-placed v tickets h = elim (list_all is_moved tickets) as (λ b. list_all is_moved tickets ≡ b → (b || list_all is_copied tickets) ≡ true → AllByRecursion (IsKeptIn v) tickets) [
  | true ↦ λ is _. none-stored v is_moved moved-copies tickets is
  | false ↦ λ _ h. none-stored v is_copied copied-copies tickets h
] refl h

same-some : (c d : Change) → Some d ≡ Some c → d ≡ c
same-some c d h = cc

module _ (s : Sight) where
  abbrev Kept : List ℕ → Change → Type 0
  Kept numbers c = AllByRecursion (IsKeptIn (effect c s.inventory)) (all_tickets numbers s)

  -- each ticket of a backup brings its object
  backed-kept : (filespace : ℕ) (items : List Item) (numbers : List ℕ) (c : Change) → change_of (asked.Backup filespace items) numbers s ≡ Some c → causes s.journal c s.inventory ≡ [] → Kept numbers c
  unfolding effect
  backed-kept filespace items numbers c is none =
      let tickets : List Ticket = all_tickets numbers s in
      let made : Change = change.Backup (record { filespace = filespace; scratch = scratch_of s.inventory tickets; items = paired version_from items tickets }) in
      elim (are_so_many (length items) numbers s) as (λ b. are_so_many (length items) numbers s ≡ b → (if b then Some made else None) ≡ Some c → Kept numbers c) [
        | false ↦ λ _ is. absurd cc
        | true ↦ λ many is.
            (let same : made ≡ c = same-some c made is in
            let scratched : Inv = each make_scratch (scratch_of s.inventory tickets) s.inventory in
            let long : length tickets ≡ length items = eqb-true (length tickets) (length items) (and_parts (length tickets == length items) (length numbers == length items) many).0 in
            let clients : scratched.clients ≡ s.inventory.clients = scratch-clients (scratch_of s.inventory tickets) s.inventory in
            let there : is_some (filespace_at filespace s.inventory.clients.filespaces) ≡ true = there-by filespace (map (λ (i : NewVersion). i.object) (paired version_from items tickets)) s.inventory
            (scratch_refused (scratch_of s.inventory tickets) s.inventory ++ objects_refused (map (λ (i : NewVersion). i.object) (paired version_from items tickets)) s.inventory)
            (subst (λ (x : Change). causes s.journal x s.inventory ≡ []) (sym same) none) in
            let all = all-backed filespace items tickets scratched long (subst (λ (r : Rows). is_some (filespace_at filespace r.filespaces) ≡ true) (sym clients) there) in
            subst (Kept numbers) same (each-kept (λ (t : Ticket). is_version (object_of t.purpose) (each (back_up filespace) (paired version_from items tickets) scratched).clients.filespaces ≡ true) (IsKeptIn (effect made s.inventory))
            (λ t has _. version-found (object_of t.purpose) (effect made s.inventory) has) tickets all))
      ] refl is

  held-kept : (filespace : ℕ) (items : List HeldItem) (numbers : List ℕ) (c : Change) → change_of (asked.Hold filespace items) numbers s ≡ Some c → Kept numbers c
  unfolding effect
  held-kept filespace items numbers c is =
      let tickets : List Ticket = all_tickets numbers s in
      let made : Change = change.Hold (record { filespace = filespace; scratch = scratch_of s.inventory tickets; items = paired held_from items tickets }) in
      elim (are_so_many (length items) numbers s) as (λ b. are_so_many (length items) numbers s ≡ b → (if b then Some made else None) ≡ Some c → Kept numbers c) [
        | false ↦ λ _ is. absurd cc
        | true ↦ λ many is.
            (let same : made ≡ c = same-some c made is in
            let scratched : Inv = each make_scratch (scratch_of s.inventory tickets) s.inventory in
            let long : length tickets ≡ length items = eqb-true (length tickets) (length items) (and_parts (length tickets == length items) (length numbers == length items) many).0 in
            let all = all-held filespace items tickets scratched long in
            subst (Kept numbers) same (each-kept (λ (t : Ticket). is_archived (object_of t.purpose) (each (hold filespace) (paired held_from items tickets) scratched).clients.held ≡ true) (IsKeptIn (effect made s.inventory))
            (λ t has _. archived-found (object_of t.purpose) (effect made s.inventory) has) tickets all))
      ] refl is

  -- what a commit stores is kept behind it
  committed-kept : (asked : Asked) (numbers : List ℕ) (c : Change) → change_of asked numbers s ≡ Some c → asked_refused asked numbers s ≡ [] → causes s.journal c s.inventory ≡ [] → Kept numbers c
  committed-kept (asked.Plain x) [] c is holds none = tt
  committed-kept (asked.Plain x) (number ∷ numbers) c is holds none = absurd cc
  committed-kept (asked.Backup filespace items) numbers c is holds none = backed-kept filespace items numbers c is none
  committed-kept (asked.Hold filespace items) numbers c is holds none = held-kept filespace items numbers c is
  committed-kept asked.Placed numbers c is holds none =
      all-placed (effect c s.inventory) (all_tickets numbers s)
      (unless-holds (list_all is_moved (all_tickets numbers s) || list_all is_copied (all_tickets numbers s)) bad_value (append-none (unless (not (is_nil numbers)) bad_value) _ holds).1)

-- ---- their bytes

found-holds : {X : Type 0} (P : X → Type 0) (test : X → Bool) (xs : List X) (x : X) → AllByRecursion P xs → find test xs ≡ Some x → P x × (test x ≡ true)
found-holds P test [] x all h = absurd cc
found-holds P test (y ∷ xs) x all h =
    elim (test y) as (λ b. test y ≡ b → cond b (Some y) (find test xs) ≡ Some x → P x × (test x ≡ true)) [
      | true ↦ λ is h. (let same : y ≡ x = cc in subst (λ z. P z × (test z ≡ true)) same (all.0, is))
      | false ↦ λ _ h. found-holds P test xs x all.1 h
    ] refl h

-- a history that agrees with the machine behind the commit
module _ (w : History) (actor : ℕ) (asked : Asked) (numbers : List ℕ) (number : ℕ) (old new : Machine) (h : Commits actor asked numbers old new (Ok number)) (agrees : Agrees w new) where
  abbrev seen : Sight
  seen = sight actor old.core

  abbrev tickets : List Ticket
  tickets = all_tickets numbers seen

  abbrev entry : Entry
  entry = record { actor = actor; change = h.1.0 }

  not-refused : foremost (commit_refused actor asked numbers seen) ≡ None
  not-refused = own-none (ended old) (commit_refused actor asked numbers seen) (option_map_or (λ change. held_refused change old.core) (asked_change actor asked numbers old.core) []) h.0

  behind : effect h.1.0 (inventory old.core) ≡ inventory new.core
  behind = sym (after-append old.core.base old.core.journal (entry ∷ [])) ∙ ap inventory (sym h.1.3.0)

  all-kept : AllByRecursion (IsKeptIn (inventory new.core)) tickets
  all-kept =
      subst (λ (v : Inv). AllByRecursion (IsKeptIn v) tickets) behind
      (committed-kept seen asked numbers h.1.0 h.1.1 (asked-holds actor asked numbers seen not-refused)
      (no-cause seen.journal h.1.0 (inventory old.core) (commit-legal actor asked numbers seen h.1.0 h.1.1 not-refused)))

  -- behind a commit: those of the ticket, or what they were
  abbrev given_by : (contents : ℕ → List ℕ) → (object : ℕ) → Option Ticket → List ℕ
  given_by contents object found = option_map_or (λ t. t.bytes) found (contents object)

  commit-stored : (object : ℕ) → w.contents object ≡ storing_contents tickets w.contents object
  commit-stored object = elim (find (stored_by object) tickets) as (λ o. find (stored_by object) tickets ≡ o → w.contents object ≡ given_by w.contents object o) [
    | None ↦ λ _. refl
    | Some t ↦ λ at.
        (let found = found-holds (IsKeptIn (inventory new.core)) (stored_by object) tickets t all-kept at in
        let parts = and_parts (is_storing t.purpose) (object_of t.purpose == object) found.1 in
        let there : is_some (version object (inventory new.core)) ≡ true = subst (λ (o : ℕ). is_some (version o (inventory new.core)) ≡ true) (eqb-true (object_of t.purpose) object parts.1) (found.0 parts.0) in
        agrees object there ∙ ap (λ (f : ℕ → List ℕ). f object) h.1.3.1 ∙ ap (given_by old.contents object) at)
  ] refl

pub stores : (places : Places) (w : History) (actor : ℕ) (deed : Deed) (old new : Machine) → Case places actor deed old new → Agrees w new → IsStored w.contents (sight actor old.core) deed
stores places w actor (OpenNew number size prefer answer) old new h agrees = tt
stores places w actor (OpenCopy object a avoid answer) old new h agrees = tt
stores places w actor (WritePiece number bytes answer) old new h agrees = tt
stores places w actor (CopyPiece number answer) old new h agrees = tt
stores places w actor (Seal number answer) old new h agrees = tt
stores places w actor (Commit asked numbers (Ok number)) old new h agrees = commit-stored w actor asked numbers number old new h agrees
stores places w actor (Commit asked numbers (Err e)) old new h agrees = tt
stores places w actor (DropTicket number answer) old new h agrees = tt
stores places w actor (ReadPiece object kept from offset wanted answer) old new h agrees = tt
stores places w actor (Ask query answer) old new h agrees = tt
stores places w actor (Image kind answer) old new h agrees = tt
stores places w actor (Reuse file answer) old new h agrees = tt
stores places w actor (Force answer) old new h agrees = tt
