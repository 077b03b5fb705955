-- Each step of the machine, as the actor sees it.
use Rattle.std.proofs.Common.{◌≡◌, ◌⊎◌, inl, inr, ℕ, ◌+◌, ◌^◌, ◌==◌, not, Bool, true, false, nat_lt, List, [], ◌∷◌, length, Option, Some, None, Result, Ok, Err, refl, sym, subst}
use Rattle.std.proofs.lemmas.List.{append-nil}
use Rattle.std.specs.List.{find}
use Rattle.std.specs.Option.{option_map_or}
use Rattle.kinds.specs.Refusals.{foremost, unless}
use Rattle.kinds.specs.declared.refusal.Holder.TheVariants as holder
use Rattle.kinds.specs.declared.refusal.Refusal.{Refusal}
use Rattle.kinds.specs.declared.refusal.Refusal.TheVariants as refusal
use Rattle.kinds.specs.declared.change.PoolChange.{PoolChange}
use Rattle.kinds.specs.declared.change.PoolChange.TheVariants as store
use Rattle.kinds.specs.declared.change.Verb.TheVariants as verb
use Rattle.steps.specs.entries.declared.change.Change.{Change}
use Rattle.steps.specs.entries.declared.change.Change.TheVariants as change
use Rattle.steps.specs.inventory_rows.pool_rows.PoolRows.{pool_named, volume_named}
use Rattle.steps.specs.space.declared.aim.Aim.{Aim}
use Rattle.steps.specs.space.declared.aim.Aim.TheVariants as aim
use Rattle.steps.specs.declared.image.ImageKind.{ImageKind}
use Rattle.steps.specs.declared.image.ImageKind.TheVariants as image
use Rattle.steps.specs.declared.image.ImageReply.{ImageReply}
use Rattle.steps.specs.declared.image.ImageReply.TheVariants as reply
use Rattle.steps.specs.Events.{Deed}
use Rattle.steps.specs.Events.Deed.{OpenNew, OpenCopy, WritePiece, CopyPiece, Seal, Commit, DropTicket, ReadPiece, Ask, Image, Reuse, Force}
use Rattle.machine.specs.Causes.{ask_refused, commit_refused, copy_refused_by, copying_refused, drop_refused, image_refused, new_refused, read_refused, reuse_refused, seal_refused, write_refused}
use Rattle.machine.specs.Laws.{RefusesElsewhere}
use Rattle.machine.specs.Machine.{BeginsBackup, Becomes, Case, DropsTicket, GoesOn, Images, IsPlaced, Never, BackupBegun, BackupFails, ForceFails, CheckpointBegun, CheckpointFails, opened, opened_new, OpensCopy, OpensNew, Places, Stays, StopsShort, asked_change, can_place_copy, can_place_new, ended, has_file, held_by, held_refused, in_progress, placing_refused, size_of, space, written_by, IsTicket, CantRead, next_count}
use Rattle.machine.specs.Says.{Answered, Any, ImageTold, Says, is_elsewhere}
use Rattle.machine.specs.State.{Core, Image as Picture, Machine, Place, Ticket, copying, inventory, object_of, sight}
use Rattle.machine.proofs.Answering.{alone-err, alone-none, elsewhere-by, ends-answered, others-err}
use Rattle.machine.proofs.Elsewhere.{AreElsewhere, append-elsewhere, ended-elsewhere, own-none, unless-elsewhere}

-- ---- others' causes

placed-elsewhere : (can : Bool) (Is : Result Place Refusal → Type 0) (placed : Result Place Refusal) → ((e : Refusal) → Is (Err e) → is_elsewhere e ≡ true)
    → IsPlaced can Is placed → AreElsewhere (placing_refused can placed)
placed-elsewhere true Is (Ok place) f h = tt
placed-elsewhere true Is (Err e) f h = (f e h, tt)
placed-elsewhere false Is placed f h = tt

room-elsewhere : (fits : Bool) → AreElsewhere (unless fits refusal.InventoryFull)
room-elsewhere fits = unless-elsewhere fits refusal.InventoryFull refl

found-elsewhere : (found : Option Ticket) → AreElsewhere (option_map_or (λ t. refusal.Busy (holder.Ticket t.number) ∷ []) found [])
found-elsewhere None = tt
found-elsewhere (Some t) = (refl, tt)

held-elsewhere : (test : Ticket → Bool) (tickets : List Ticket) → AreElsewhere (held_by test tickets)
held-elsewhere test tickets = found-elsewhere (find test tickets)

of-found : (f : ℕ → List Refusal) → ((n : ℕ) → AreElsewhere (f n)) → (found : Option ℕ) → AreElsewhere (option_map_or f found [])
of-found f h None = tt
of-found f h (Some n) = h n

written-elsewhere : (file : ℕ) (i : Option Picture) → AreElsewhere (written_by file i)
written-elsewhere file None = tt
written-elsewhere file (Some i) = unless-elsewhere (not (i.file == file)) (refusal.Busy (holder.Image i.actor)) refl

progress-elsewhere : (i : Option Picture) → AreElsewhere (in_progress i)
progress-elsewhere None = tt
progress-elsewhere (Some i) = (refl, tt)

store-elsewhere : (p : PoolChange) (c : Core) → AreElsewhere (held_refused (change.Pool p) c)
store-elsewhere (store.DevClass v1 class capacity) c = tt
store-elsewhere (store.Pool verb.Define name class kind rule) c = tt
store-elsewhere (store.Pool verb.Update name class kind rule) c = tt
store-elsewhere (store.Pool verb.Delete name class kind rule) c =
    of-found (λ it. held_by (λ t. t.place.pool == it) c.tickets) (λ it. held-elsewhere (λ t. t.place.pool == it) c.tickets) (pool_named name (inventory c).stores)
store-elsewhere (store.Volume verb.Define name number file capacity access) c = tt
store-elsewhere (store.Volume verb.Update name number file capacity access) c = tt
store-elsewhere (store.Volume verb.Delete name number file capacity access) c =
    of-found (λ it. held_by (has_file it) c.tickets) (λ it. held-elsewhere (has_file it) c.tickets) (volume_named name (inventory c).stores)

change-elsewhere : (change : Change) (c : Core) → AreElsewhere (held_refused change c)
change-elsewhere (change.Day day) c = tt
change-elsewhere (change.Policy p) c = tt
change-elsewhere (change.Object p) c = tt
change-elsewhere (change.Pool p) c = store-elsewhere p c
change-elsewhere (change.Backup p) c = tt
change-elsewhere (change.Rebind p) c = tt
change-elsewhere (change.Gone p) c = tt
change-elsewhere (change.Move p) c = tt
change-elsewhere (change.Copy p) c = tt
change-elsewhere (change.DropCopies p) c = tt
change-elsewhere (change.Expire p) c = tt
change-elsewhere (change.Discard p) c = tt
change-elsewhere (change.Reuse file) c = tt
change-elsewhere (change.DbBegin file after) c = tt
change-elsewhere (change.DbEnd file) c = tt
change-elsewhere (change.DbDelete file) c = written-elsewhere file c.image
change-elsewhere (change.Hold p) c = tt

asked-elsewhere : (asked : Option Change) (c : Core) → AreElsewhere (option_map_or (λ change. held_refused change c) asked [])
asked-elsewhere None c = tt
asked-elsewhere (Some change) c = change-elsewhere change c

-- ---- device calls that fail

dropped : (actor number : ℕ) (old new : Machine) (e : Refusal) → DropsTicket actor number old e new → is_elsewhere e ≡ true
dropped actor number old new e h = elsewhere-by e (refusal.WriteFault h.1) refl h.4

-- ---- the steps

says-new : (places : Places) → RefusesElsewhere places → (actor number size prefer : ℕ) (old new : Machine) (answer : Result ℕ Refusal)
    → OpensNew places actor number size prefer old new answer → Answered (new_refused number size (sight actor old.core)) Any answer
says-new places elsewhere actor number size prefer old new answer h =
    ends-answered (ended old) (new_refused number size (sight actor old.core)) _ Any
    (λ number after. (place : Place) × (h.0 ≡ Ok place) × (number ≡ old.core.next_ticket) × Becomes (opened_new actor size place old.core) old after) Never old new answer (ended-elsewhere old)
    (append-elsewhere (placing_refused (can_place_new number size (sight actor old.core)) h.0) _
    (placed-elsewhere (can_place_new number size (sight actor old.core)) (places (inventory old.core) (space old.core) actor size (aim.New number) prefer 0) h.0
    (elsewhere (inventory old.core) (space old.core) actor size (aim.New number) prefer 0) h.1)
    (append-elsewhere (unless (nat_lt (old.core.next_object + 1) (2 ^ 62)) refusal.InventoryFull) _ (room-elsewhere _) (room-elsewhere _)))
    (λ x d. tt) (λ e d. absurd d) h.2

says-copy : (places : Places) → RefusesElsewhere places → (actor object : ℕ) (a : Aim) (avoid : ℕ) (old new : Machine) (answer : Result ℕ Refusal)
    → OpensCopy places actor object a avoid old new answer → Answered (copy_refused_by object a (sight actor old.core)) Any answer
says-copy places elsewhere actor object a avoid old new answer h =
    ends-answered (ended old) (copy_refused_by object a (sight actor old.core)) _ Any
    (λ number after. (place : Place) × (h.0 ≡ Ok place) × (number ≡ old.core.next_ticket) × Becomes (opened actor (size_of object (inventory old.core)) (copying object a) place old.core) old after) Never old new answer (ended-elsewhere old)
    (append-elsewhere (placing_refused (can_place_copy object a (inventory old.core)) h.0) _
    (placed-elsewhere (can_place_copy object a (inventory old.core)) (places (inventory old.core) (space old.core) actor (size_of object (inventory old.core)) a 0 avoid) h.0
    (elsewhere (inventory old.core) (space old.core) actor (size_of object (inventory old.core)) a 0 avoid) h.1)
    (room-elsewhere _))
    (λ x d. tt) (λ e d. absurd d) h.2

copy-fails : (actor number : ℕ) (old new : Machine) (e : Refusal)
    → ((t : Ticket) × IsTicket actor number old t × (e ≡ refusal.Unavailable) × CantRead (object_of t.purpose) 0 (length t.bytes) (next_count t) old new × Stays old new)
    ⊎ DropsTicket actor number old e new
    → is_elsewhere e ≡ true
copy-fails actor number old new e (inl h) = elsewhere-by e refusal.Unavailable refl h.2
copy-fails actor number old new e (inr h) = dropped actor number old new e h

begin-fails : (actor : ℕ) (after : Option ℕ) (old new : Machine) (e : Refusal) → BackupFails actor after old e new → is_elsewhere e ≡ true
begin-fails actor after old new e (inl h) = elsewhere-by e (refusal.LogFault h.0 h.1) refl h.2
begin-fails actor after old new e (inr h) = elsewhere-by e (refusal.WriteFault old.core.next_file) refl h.1

says-begun : (actor : ℕ) (after : Option ℕ) (kind : ImageKind) (old new : Machine) (answer : Result ImageReply Refusal)
    → ((file : ℕ) → ImageTold kind (sight actor old.core) (reply.Begun file ((inventory old.core).number + 1)))
    → BeginsBackup actor after (image_refused kind (sight actor old.core)) old new answer
    → Answered (image_refused kind (sight actor old.core)) (ImageTold kind (sight actor old.core)) answer
says-begun actor after kind old new answer is h =
    ends-answered (ended old) (image_refused kind (sight actor old.core)) (in_progress old.core.image) (ImageTold kind (sight actor old.core)) (BackupBegun actor after old) (BackupFails actor after old) old new answer
    (ended-elsewhere old) (progress-elsewhere old.core.image)
    (λ told (d : BackupBegun actor after old told new). subst (ImageTold kind (sight actor old.core)) (sym d.1) (is old.core.next_file))
    (λ e d. begin-fails actor after old new e d) h

stop-fails : (actor : ℕ) (old new : Machine) (e : Refusal) → StopsShort actor old e new → is_elsewhere e ≡ true
stop-fails actor old new e h = elim h.2 as (λ _. is_elsewhere e ≡ true) [
  | inl d ↦ elsewhere-by e (refusal.WriteFault h.0.file) refl d.1
  | inr rest ↦ elim rest as (λ _. is_elsewhere e ≡ true) [
    | inl d ↦ elsewhere-by e refusal.InventoryFull refl d.2
    | inr d ↦ elsewhere-by e (refusal.LogFault d.0 d.1) refl d.4
  ]
]

goes-on : (actor : ℕ) (old new : Machine) (told : ImageReply) → GoesOn actor old told new → ImageTold image.Next (sight actor old.core) told
goes-on actor old new (reply.Begun file seq) h = h
goes-on actor old new reply.More h = (h.0, h.2)
goes-on actor old new (reply.Done seq) h = (h.0, h.1, h.2)

says-image : (actor : ℕ) (kind : ImageKind) (old new : Machine) (answer : Result ImageReply Refusal)
    → Images actor kind old new answer → Answered (image_refused kind (sight actor old.core)) (ImageTold kind (sight actor old.core)) answer
says-image actor image.Checkpoint old new answer h =
    ends-answered (ended old) [] _ (ImageTold image.Checkpoint (sight actor old.core)) (CheckpointBegun actor old) (CheckpointFails old) old new answer (ended-elsewhere old)
    (append-elsewhere (in_progress old.core.image) _ (progress-elsewhere old.core.image) (room-elsewhere _))
    (λ told (d : CheckpointBegun actor old told new). subst (ImageTold image.Checkpoint (sight actor old.core)) (sym d.1) refl)
    (λ e (d : CheckpointFails old e new). elsewhere-by e (refusal.LogFault d.0 d.1) refl d.4) h
says-image actor image.Backup old new answer h = says-begun actor None image.Backup old new answer (λ file. refl) h
says-image actor (image.Since after) old new answer h = says-begun actor (Some after) (image.Since after) old new answer (λ file. refl) h
says-image actor image.Next old new (Ok told) h = (alone-none (ended old) (image_refused image.Next (sight actor old.core)) h.0, goes-on actor old new told h.1)
says-image actor image.Next old new (Err e) h =
    alone-err (ended old) (image_refused image.Next (sight actor old.core)) (StopsShort actor old e new) old new e (ended-elsewhere old) h (λ d. stop-fails actor old new e d)

-- each step of the machine says so
pub made-says : (places : Places) → RefusesElsewhere places → (actor : ℕ) (deed : Deed) (old new : Machine) → Case places actor deed old new
    → Says actor old.contents (sight actor old.core) deed
unfolding Says
made-says places elsewhere actor (OpenNew number size prefer answer) old new h = says-new places elsewhere actor number size prefer old new answer h
made-says places elsewhere actor (OpenCopy object a avoid answer) old new h = says-copy places elsewhere actor object a avoid old new answer h
made-says places elsewhere actor (WritePiece number bytes (Ok count)) old new h = (alone-none (ended old) (write_refused number (length bytes) (sight actor old.core)) h.0, (h.1.0, h.1.1, h.1.2))
made-says places elsewhere actor (WritePiece number bytes (Err e)) old new h =
    alone-err (ended old) (write_refused number (length bytes) (sight actor old.core)) _ old new e (ended-elsewhere old) h (λ d. dropped actor number old new e d)
made-says places elsewhere actor (CopyPiece number (Ok count)) old new h = (alone-none (ended old) (copying_refused number (sight actor old.core)) h.0, (h.1.0, h.1.1, h.1.2))
made-says places elsewhere actor (CopyPiece number (Err e)) old new h =
    alone-err (ended old) (copying_refused number (sight actor old.core)) _ old new e (ended-elsewhere old) h (λ d. copy-fails actor number old new e d)
made-says places elsewhere actor (Seal number (Ok done)) old new h = (alone-none (ended old) (seal_refused number (sight actor old.core)) h.0, tt)
made-says places elsewhere actor (Seal number (Err e)) old new h =
    alone-err (ended old) (seal_refused number (sight actor old.core)) _ old new e (ended-elsewhere old) h (λ d. dropped actor number old new e d)
made-says places elsewhere actor (Commit asked numbers (Ok number)) old new h =
    (own-none (ended old) (commit_refused actor asked numbers (sight actor old.core)) _ h.0, h.1.2)
made-says places elsewhere actor (Commit asked numbers (Err e)) old new h =
    others-err (ended old) (commit_refused actor asked numbers (sight actor old.core)) _ _ old new e (ended-elsewhere old) (asked-elsewhere (asked_change actor asked numbers old.core) old.core) h
    (λ d. elsewhere-by e (refusal.LogFault d.1 d.2) refl d.4)
made-says places elsewhere actor (DropTicket number (Ok done)) old new h = (alone-none (ended old) (drop_refused number (sight actor old.core)) h.0, tt)
made-says places elsewhere actor (DropTicket number (Err e)) old new h =
    alone-err (ended old) (drop_refused number (sight actor old.core)) ⊥ old new e (ended-elsewhere old) h (λ d. absurd d)
made-says places elsewhere actor (ReadPiece object kept from offset wanted (Ok bytes)) old new h =
    (alone-none (ended old) (read_refused object kept from offset wanted (sight actor old.core)) h.0, h.1.0)
made-says places elsewhere actor (ReadPiece object kept from offset wanted (Err e)) old new h =
    alone-err (ended old) (read_refused object kept from offset wanted (sight actor old.core)) _ old new e (ended-elsewhere old) h (λ d. elsewhere-by e refusal.Unavailable refl d.0)
made-says places elsewhere actor (Ask query (Ok told)) old new h = (alone-none (ended old) (ask_refused query (sight actor old.core)) h.0, (old.core.log_length, h.1.0))
made-says places elsewhere actor (Ask query (Err e)) old new h =
    alone-err (ended old) (ask_refused query (sight actor old.core)) ⊥ old new e (ended-elsewhere old) h (λ d. absurd d)
made-says places elsewhere actor (Image kind answer) old new h = says-image actor kind old new answer h
made-says places elsewhere actor (Reuse file (Ok number)) old new h = (own-none (ended old) (reuse_refused file (sight actor old.core)) (held_by (has_file file) old.core.tickets) h.0, h.1.0)
made-says places elsewhere actor (Reuse file (Err e)) old new h =
    others-err (ended old) (reuse_refused file (sight actor old.core)) (held_by (has_file file) old.core.tickets) _ old new e (ended-elsewhere old) (held-elsewhere (has_file file) old.core.tickets) h
    (λ d. elsewhere-by e (refusal.LogFault d.0 d.1) refl d.2)
made-says places elsewhere actor (Force (Ok number)) old new h = (refl, h.1.0)
made-says places elsewhere actor (Force (Err e)) old new h =
    alone-err (ended old) [] _ old new e (ended-elsewhere old) (subst (λ (xs : List Refusal). (((foremost xs ≡ Some e) ⊎ (e ≡ refusal.Memory)) × Stays old new) ⊎ ((foremost xs ≡ None) × ForceFails old e new)) (sym (append-nil (ended old))) h)
    (λ d. elsewhere-by e (refusal.LogFault d.0 d.1) refl d.2)
