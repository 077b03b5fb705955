-- The transaction that a commit makes of what is asked and of the tickets.
use Rattle.std.specs.Prelude.{ℕ, ◌==◌, Bool, true, false, not, ◌&&◌, is_none, List, [], ◌∷◌, map, length, Option, None, Some, if◌then◌else◌}
use Rattle.std.specs.List.{list_all, list_any, flat_map}
use Rattle.std.specs.Option.{option_map_or}
use Rattle.kinds.specs.declared.change.DefineOrDelete.TheVariants as two
use Rattle.kinds.specs.declared.change.ObjectChange.TheVariants as client
use Rattle.kinds.specs.declared.change.PoolChange.TheVariants as store
use Rattle.kinds.specs.declared.change.Verb.TheVariants as verb
use Rattle.steps.specs.entries.change_items.declared.items.MovedCopy.{MovedCopy}
use Rattle.steps.specs.entries.change_items.declared.items.NewCopy.{NewCopy}
use Rattle.steps.specs.entries.change_items.declared.items.NewHeldObject.{NewHeldObject}
use Rattle.steps.specs.entries.change_items.declared.items.NewVersion.{NewVersion}
use Rattle.steps.specs.entries.change_items.declared.items.ScratchVolume.{ScratchVolume}
use Rattle.steps.specs.entries.declared.change.Change.{Change}
use Rattle.steps.specs.entries.declared.change.Change.TheVariants as change
use Rattle.steps.specs.inventory_rows.version_groups.Entries.{is_nil}
use Rattle.steps.specs.inventory_rows.pool_tables.Rows.{row_at}
use Rattle.steps.specs.inventory_rows.State.{Inv}
use Rattle.steps.specs.space.declared.aim.Aim.{Aim}
use Rattle.steps.specs.space.declared.aim.Aim.TheVariants as aim
use Rattle.steps.specs.declared.asked.Asked.{Asked}
use Rattle.steps.specs.declared.asked.Asked.TheVariants as asked
use Rattle.steps.specs.declared.asked.HeldItem.{HeldItem}
use Rattle.steps.specs.declared.asked.Item.{Item}
use Rattle.machine.specs.State.{Purpose, storing, copying, Sight, Ticket, object_of, ticket}

-- ---- tickets

abbrev pub is_moving : Aim → Bool
is_moving (aim.New pool) = false
is_moving (aim.Move from placed to along) = true
is_moving (aim.Copy to) = false

abbrev pub is_moved_by : Purpose → Bool
is_moved_by (storing object) = false
is_moved_by (copying object aim) = is_moving aim

abbrev pub is_copied_by : Purpose → Bool
is_copied_by (storing object) = false
is_copied_by (copying object aim) = not (is_moving aim)

-- the ticket is for a copy that moves
abbrev pub is_moved : Ticket → Bool
is_moved t = is_moved_by t.purpose

-- the ticket is for a further copy
abbrev pub is_copied : Ticket → Bool
is_copied t = is_copied_by t.purpose

-- those of the caller's tickets that have these numbers
abbrev pub all_tickets : List ℕ → Sight → List Ticket
all_tickets numbers s = flat_map (λ number. option_map_or (λ t. t ∷ []) (ticket number s.tickets) []) numbers

-- ---- scratch volumes

-- the files of a ticket's segments that no volume of the database has, each with the ticket's pool
abbrev pub new_files : Inv → Ticket → List ScratchVolume
new_files v t = flat_map (λ s. if is_none (row_at s.file v.stores.volumes) then record { pool = t.place.pool; file = s.file } ∷ [] else []) t.place.segments

-- each file once
abbrev pub once : List ℕ → List ScratchVolume → List ScratchVolume
once seen [] = []
once seen (volume ∷ volumes) =
    if list_any (λ file. file == volume.file) seen then once seen volumes else volume ∷ once (volume.file ∷ seen) volumes

-- the scratch volumes that the transaction makes: those that the tickets' segments lie on and that aren't there yet
abbrev pub scratch_of : Inv → List Ticket → List ScratchVolume
scratch_of v tickets = once [] (flat_map (new_files v) tickets)

-- ---- items

abbrev pub version_from : Item → Ticket → NewVersion
version_from i t = record {
  path = i.path;
  class = i.class;
  size = t.size;
  mtime = i.mtime;
  digest = i.digest;
  object = object_of t.purpose;
  pool = t.place.pool;
  segments = t.place.segments;
}

abbrev pub held_from : HeldItem → Ticket → NewHeldObject
held_from i t = record {
  path = i.path;
  description = i.description;
  size = t.size;
  mtime = i.mtime;
  digest = i.digest;
  object = object_of t.purpose;
  pool = t.place.pool;
  segments = t.place.segments;
  until = i.until;
}

-- what comes of each two that stand at the same place
abbrev pub paired : {A B C : Type 0} → (A → B → C) → List A → List B → List C
paired f [] ys = []
paired f (x ∷ xs) [] = []
paired f (x ∷ xs) (y ∷ ys) = f x y ∷ paired f xs ys

abbrev pub move_from : Ticket → Purpose → List MovedCopy
move_from t (copying object (aim.Move from placed to along)) = record { object = object; from = from; placed = placed; pool = t.place.pool; segments = t.place.segments } ∷ []
move_from t _ = []

abbrev pub copy_from : Ticket → NewCopy
copy_from t = record { object = object_of t.purpose; pool = t.place.pool; segments = t.place.segments }

abbrev pub placed_change : Inv → List Ticket → Change
placed_change v tickets =
    if list_all is_moved tickets
    then change.Move (record { scratch = scratch_of v tickets; items = flat_map (λ t. move_from t t.purpose) tickets })
    else change.Copy (record { scratch = scratch_of v tickets; items = map copy_from tickets })

-- ---- the change

-- file numbers and filespace numbers are those that are drawn next
abbrev pub filled : ℕ → Inv → Change → Change
filled next_file v (change.Pool (store.Volume verb.Define name pool file capacity access)) = change.Pool (store.Volume verb.Define name pool next_file capacity access)
filled next_file v (change.Object (client.Filespace two.Define node name filespace)) = change.Object (client.Filespace two.Define node name v.next_filespace)
filled next_file v c = c

-- all tickets are there, and so many
abbrev pub are_so_many : ℕ → List ℕ → Sight → Bool
are_so_many count numbers s = length (all_tickets numbers s) == count && length numbers == count

-- what is asked, as a change; none where a ticket is missing, or not as many items as tickets are given
abbrev pub change_of : Asked → List ℕ → Sight → Option Change
change_of (asked.Plain c) numbers s = Some (filled s.next_file s.inventory c)
change_of (asked.Backup filespace items) numbers s =
    (let tickets = all_tickets numbers s in
    if are_so_many (length items) numbers s then Some (change.Backup (record { filespace = filespace; scratch = scratch_of s.inventory tickets; items = paired version_from items tickets })) else None)
change_of (asked.Hold filespace items) numbers s =
    (let tickets = all_tickets numbers s in
    if are_so_many (length items) numbers s then Some (change.Hold (record { filespace = filespace; scratch = scratch_of s.inventory tickets; items = paired held_from items tickets })) else None)
change_of asked.Placed numbers s =
    if are_so_many (length numbers) numbers s && not (is_nil numbers) then Some (placed_change s.inventory (all_tickets numbers s)) else None
