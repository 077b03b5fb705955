-- What came before the refusal of a deletion of a filespace, or of a volume with its data, since something uses it still: what the line had found there had been taken away or passed over, and then something was there. Into a filespace it
-- was brought meanwhile.
use Rattle.std.specs.Prelude.{◌≡◌, ◌⊎◌, ◌==◌, ℕ, Bool, true, List, ◌++◌, Some, Ok}
use Rattle.std.specs.List.{list_any}
use Rattle.kinds.specs.Least.{lesser}
use Rattle.kinds.specs.declared.pool.Access.{Access}
use Rattle.kinds.specs.declared.refusal.By.TheVariants as by
use Rattle.kinds.specs.declared.refusal.Refusal.{Refusal}
use Rattle.kinds.specs.declared.refusal.Refusal.TheVariants.{InUse}
use Rattle.inventory_rows.specs.object_rows.Changes.{least_in, least_object, numbers_in}
use Rattle.inventory_rows.specs.object_rows.Filespaces.{filespace_at, groups_in, versions_in}
use Rattle.inventory_rows.specs.pool_rows.Changes.{object_on}
use Rattle.inventory_rows.specs.pool_tables.Rows.{row_at}
use Rattle.inventory_rows.specs.version_groups.declared.groups.Filespace.{Filespace}
use Rattle.inventory_rows.specs.version_groups.Versions.{has_object}
use Rattle.inventory_rows.specs.State.{Inv}
use Rattle.inventory_answers.specs.declared.query.Query.TheVariants as query
use Rattle.inventory_answers.specs.declared.reply.Answer as reply
use Rattle.script_loop.specs.Reply.{Answer}
use Rattle.steps.specs.Calls.{Then}
use Rattle.steps.specs.Events.{Deed, Event}
use Rattle.steps.specs.Events.Deed.{Ask}
use Rattle.machine.specs.State.{Machine}
use Rattle.line_results.specs.command_steps.Answers.{refusal}
use Rattle.line_results.specs.command_steps.Owns.{Own, empty_filespace, empty_volume}
use Rattle.line_results.specs.deletions.Filespaces as filespaces
use Rattle.line_results.specs.deletions.Volumes as volumes
use Rattle.line_results.specs.Resting.{database}

-- ---- a filespace

-- the object is a version of a path of the filespace or held in it, and the one with the least number of these
abbrev pub IsLeastIn : (filespace object : ℕ) → Inv → Type 0
IsLeastIn filespace object v = (x : Filespace) × (filespace_at filespace v.clients.filespaces ≡ Some x) × (lesser (least_object x.groups) (least_in filespace v.clients.held) ≡ Some object)

-- the object has a version under a path of the filespace
abbrev pub is_version_in : (filespace object : ℕ) → Inv → Bool
is_version_in filespace object v = has_object object (versions_in (groups_in (filespace_at filespace v.clients.filespaces)))

-- it is held in it
abbrev pub is_held_in : (filespace object : ℕ) → Inv → Bool
is_held_in filespace object v = list_any (λ n. n == object) (numbers_in filespace v.clients.held)

-- the step asked for the versions of a filespace, and was answered
abbrev pub IsListing : Deed → Type 0
IsListing d = (node : List ℕ) × (name : List ℕ) × (answer : reply.Answer) × (d ≡ Ask (query.Versions node name) (Ok answer))

-- A step brought the object there before this state, as a version or as one that is held, behind the one that asked for the versions (`Brings`).
abbrev pub IsBroughtIn : (Brings : (Deed → Type 0) → (Inv → Bool) → Machine → Type 0) → (filespace object : ℕ) → Machine → Type 0
IsBroughtIn Brings filespace object m = Brings IsListing (is_version_in filespace object) m ⊎ Brings IsListing (is_held_in filespace object) m

-- These steps found the filespace, listed its versions and what is held in it, discarded each of these objects or found it gone, or not as it was listed, and then its own transaction was so refused.
abbrev pub IsKeptBehind : (filespace : ℕ) → List Event → Refusal → Type 0
IsKeptBehind filespace events e =
    (node : List ℕ) × (name : List ℕ)
    × Then (λ xs. filespaces.Found filespace xs (record { node = node; name = name })) (λ ys. filespaces.IsKept filespace (record { node = node; name = name }) ys e) events

-- ---- a volume

-- a copy of the object lies on the volume, and of none with a smaller number
abbrev pub IsLeastOn : (file object : ℕ) → Inv → Type 0
IsLeastOn file object v = object_on (row_at file v.stores.volumes) ≡ Some object

-- These steps found the volume, listed the copies on it, dropped each or discarded its object, or found it gone, or not as it was listed, and then, where it was tried last, the volume's own transaction was so refused.
abbrev pub IsLeftBehind : (file : ℕ) → List Event → Refusal → Type 0
IsLeftBehind file events e =
    (name : List ℕ) × (capacity : ℕ) × (access : Access) × (discarded : ℕ) × (dropped : ℕ)
    × Then (λ xs. volumes.Found file xs (record { name = name; capacity = capacity; access = access }))
    (λ ys. Then (λ us. volumes.Cleared true file us (record { discarded = discarded; dropped = dropped })) (λ vs. volumes.IsRefusedLast (volumes.deleting (record { name = name; capacity = capacity; access = access }) file) e vs) ys)
    events

-- ---- a line

-- The refusal names an object that uses what is to go at one of the states that are meant (`Is`), and is that of the transaction by which it is to go, behind steps of the line that took away or passed over what they had found there. Into a
-- filespace the object was brought behind the step that listed its versions, before that state.
abbrev pub IsFilled : (Is : Machine → Type 0) → (Brings : (Deed → Type 0) → (Inv → Bool) → Machine → Type 0) → Own → List Event → Refusal → Type 0
IsFilled Is Brings empty_filespace events e =
    (filespace : ℕ) × (object : ℕ) × (front : List Event) × (own : List Event) × (back : List Event) × (events ≡ front ++ (own ++ back)) × (e ≡ InUse (by.Object object)) × IsKeptBehind filespace own e
    × ((m : Machine) × Is m × IsLeastIn filespace object (database m) × IsBroughtIn Brings filespace object m)
IsFilled Is Brings empty_volume events e =
    (file : ℕ) × (object : ℕ) × (front : List Event) × (own : List Event) × (back : List Event) × (events ≡ front ++ (own ++ back)) × (e ≡ InUse (by.Object object)) × IsLeftBehind file own e
    × ((m : Machine) × Is m × IsLeastOn file object (database m))
IsFilled Is Brings own events e = ⊥

-- it was refused so
abbrev pub IsInUse : (Is : Machine → Type 0) → (Brings : (Deed → Type 0) → (Inv → Bool) → Machine → Type 0) → Own → (n : ℕ) → List Event → Answer → Type 0
IsInUse Is Brings own n events answer = (e : Refusal) × (answer ≡ refusal n e) × IsFilled Is Brings own events e
