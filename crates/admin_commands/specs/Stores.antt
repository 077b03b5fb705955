-- Changes of storage pools and volumes, and what is done with their contents.
use Rattle.std.specs.Prelude.{ℕ, ◌*◌, ◌==◌, Bool, true, ◌&&◌, ◌||◌, nat_le, false, not, is_some, List, [], ◌∷◌, codes, Option, Some, None, unwrap_or, Result, Ok, Err, if◌then◌else◌}
use Rattle.kinds.specs.Names.{is_same_name}
use Rattle.kinds.specs.Pools.{is_capacity, is_pool}
use Rattle.kinds.specs.Refusals.{bad_value}
use Rattle.kinds.specs.declared.change.DefineOrDelete.TheVariants as two
use Rattle.kinds.specs.declared.change.PoolChange.TheVariants as store
use Rattle.kinds.specs.declared.change.Verb.{Verb}
use Rattle.kinds.specs.declared.change.Verb.TheVariants as verb
use Rattle.kinds.specs.declared.pool.Access.TheVariants.{ReadWrite}
use Rattle.kinds.specs.declared.pool.PoolKind.{PoolKind}
use Rattle.kinds.specs.declared.pool.PoolRule.{PoolRule}
use Rattle.kinds.specs.declared.refusal.Refusal.{Refusal}
use Rattle.kinds.specs.declared.refusal.Refusal.TheVariants.{NotFound, BadHierarchy}
use Rattle.entries.specs.declared.change.Change.TheVariants as change
use Rattle.inventory_rows.specs.Search.{is_primary_kind}
use Rattle.inventory_rows.specs.version_groups.Entries.{if_found}
use Rattle.admin_words.specs.declared.pools.Migration.{Migration}
use Rattle.admin_words.specs.declared.pools.PoolDefinition.{PoolDefinition}
use Rattle.admin_words.specs.declared.pools.PoolUpdate.{PoolUpdate}
use Rattle.admin_words.specs.declared.pools.Reclamation.{Reclamation}
use Rattle.admin_words.specs.declared.volumes.VolumeDefinition.{VolumeDefinition}
use Rattle.admin_words.specs.declared.volumes.VolumeUpdate.{VolumeUpdate}
use Rattle.inventory_answers.specs.declared.lines.PoolLine.{PoolLine}
use Rattle.inventory_answers.specs.declared.lines.VolumeLine.{VolumeLine}
use Rattle.inventory_answers.specs.declared.reply.Answer.{Answer}
use Rattle.admin_commands.specs.declared.work.Work.{Work}
use Rattle.admin_commands.specs.declared.work.Work.TheVariants as work
use Rattle.admin_commands.specs.Found.{behind, number_found, device_found, next_found, next_among, device_named, pool_named, pool_called, the_pool, the_volume}

-- ---- device classes

abbrev pub class_deleted : List ℕ → Option ℕ → Result Work Refusal
class_deleted class None = Err NotFound
class_deleted class (Some capacity) = Ok (work.Commit (change.Pool (store.DevClass two.Delete class capacity)))

-- DELETE DEVCLASS, but not of DISK: the change has the capacity that stands there
abbrev pub delete_dev_class : List ℕ → List Answer → Result Work Refusal
delete_dev_class class answers = if_found (device_found answers) (λ device. class_deleted class device)

-- ---- pools

-- a change of a storage pool; a value outside its range, as LOWMIG above HIGHMIG, is `BadValue`
abbrev pub pool_changed : Verb → List ℕ → List ℕ → PoolKind → PoolRule → Result Work Refusal
pool_changed v pool class kind rule =
    if is_pool rule then Ok (work.Commit (change.Pool (store.Pool v pool class kind rule))) else Err bad_value

-- the settings of a pool that is defined
abbrev pub new_settings : PoolDefinition → Option ℕ → PoolRule
new_settings d next = record {
  max_size = d.max_size;
  next = next;
  high = d.high;
  low = d.low;
  reclaim = d.reclaim;
  reuse_delay = d.reuse_delay;
  max_scratch = d.max_scratch;
  collocate = d.collocate;
}

-- the volumes of this device class are of random access, and no client's objects are kept together on them
abbrev pub is_disk : List ℕ → Bool
is_disk class = is_same_name class (codes "DISK")

-- the values of a definition go together, whatever its other names lead to: COLLOCATE=NODE isn't for pools of the device class DISK
abbrev pub is_definition : PoolDefinition → Bool
is_definition d = is_pool (new_settings d None) && not (d.collocate && is_disk d.class)

-- the settings of a pool that is updated: what isn't given stays
abbrev pub other_settings : PoolUpdate → PoolRule → Option ℕ → PoolRule
other_settings u old next = record {
  max_size = unwrap_or u.max_size old.max_size;
  next = next;
  high = unwrap_or u.high old.high;
  low = unwrap_or u.low old.low;
  reclaim = unwrap_or u.reclaim old.reclaim;
  reuse_delay = unwrap_or u.reuse_delay old.reuse_delay;
  max_scratch = unwrap_or u.max_scratch old.max_scratch;
  collocate = unwrap_or u.collocate old.collocate;
}

-- LOWMIG is at most HIGHMIG, where both are given
abbrev pub is_ordered : Option ℕ → Option ℕ → Bool
is_ordered (Some low) (Some high) = nat_le low high
is_ordered (Some low) None = true
is_ordered None high = true

-- the next pool: the one that stands there, none, or the one with this name among all
abbrev pub next_for : Option (Option (List ℕ)) → Option ℕ → List Answer → Option (Option ℕ)
next_for None old answers = Some old
next_for (Some name) old answers = next_among name answers

-- DEFINE STGPOOL
abbrev pub define_pool : PoolDefinition → List Answer → Result Work Refusal
define_pool d answers =
    if is_definition d then if_found (next_found d.next answers) (λ next. pool_changed verb.Define d.pool d.class d.kind (new_settings d next)) else Err bad_value

-- what is given of an update replaces what stands there
abbrev pub update_settings : PoolUpdate → PoolLine → List Answer → Result Work Refusal
update_settings u old answers =
    if_found (next_for u.next old.settings.next answers) (λ next. pool_changed verb.Update u.pool old.class old.kind (other_settings u old.settings next))

-- COLLOCATE=NODE is asked for a pool of the device class DISK
abbrev pub collocates_disk : PoolUpdate → PoolLine → Bool
collocates_disk u old = unwrap_or u.collocate false && is_disk old.class

-- a pool that is there; that is refused whatever pool is to be the next
abbrev pub update_found : PoolUpdate → PoolLine → List Answer → Result Work Refusal
update_found u old answers = if collocates_disk u old then Err bad_value else update_settings u old answers

-- UPDATE STGPOOL
abbrev pub update_pool : PoolUpdate → List Answer → Result Work Refusal
update_pool u answers =
    if is_ordered u.low u.high then if_found (the_pool answers) (λ old. update_found u old (behind answers)) else Err bad_value

-- DELETE STGPOOL
abbrev pub delete_pool : List ℕ → List Answer → Result Work Refusal
delete_pool pool answers = if_found (the_pool answers) (λ old. pool_changed verb.Delete pool old.class old.kind old.settings)

-- MIGRATE STGPOOL, of a pool with a next one: its number, and the percentage at which migration ends
abbrev pub migrate : Migration → List Answer → Result Work Refusal
migrate m answers =
    if_found (the_pool answers) (λ p. if is_some p.settings.next then Ok (work.Run (p.number ∷ unwrap_or m.low p.settings.low ∷ [])) else Err BadHierarchy)

-- RECLAIM STGPOOL: the pool's number, and the percentage from which on a volume is emptied
abbrev pub reclaim : Reclamation → List Answer → Result Work Refusal
reclaim r answers = if_found (the_pool answers) (λ p. Ok (work.Run (p.number ∷ unwrap_or r.threshold p.settings.reclaim ∷ [])))

-- BACKUP STGPOOL: the numbers of both pools
abbrev pub back_up_pool : List Answer → Result Work Refusal
back_up_pool answers =
    if_found (number_found answers) (λ primary. if_found (number_found (behind answers)) (λ copy. Ok (work.Run (primary ∷ copy ∷ []))))

-- ---- volumes

-- How many bytes a volume that is defined gets. A sequential one has those of its device class, and no FORMATSIZE; one of random access has FORMATSIZE mebibytes, 16 where it isn't given.
abbrev pub mebibytes : ℕ → Option ℕ
mebibytes count = if is_capacity (count * 1048576) then Some (count * 1048576) else None

abbrev pub capacity_for : Option ℕ → Option ℕ → Option ℕ
capacity_for (Some bytes) None = Some bytes
capacity_for (Some bytes) (Some format_size) = None
capacity_for None format_size = mebibytes (unwrap_or format_size 16)

-- a volume of this pool, with so many bytes; FORMATSIZE that may not be given is `BadValue`. Its file number is drawn where the transaction is made.
abbrev pub new_volume : List ℕ → ℕ → Option ℕ → Result Work Refusal
new_volume volume pool None = Err bad_value
new_volume volume pool (Some capacity) = Ok (work.Commit (change.Pool (store.Volume verb.Define volume pool 0 capacity ReadWrite)))

-- DEFINE VOLUME
abbrev pub define_volume : VolumeDefinition → List Answer → Result Work Refusal
define_volume d answers =
    if_found (the_pool answers) (λ p. if_found (device_named p.class (behind answers)) (λ device. new_volume d.volume p.number (capacity_for device.capacity d.format_size)))

-- a volume's access changes, and all else that the change says is what stands there
abbrev pub access_changed : VolumeUpdate → ℕ → VolumeLine → Result Work Refusal
access_changed u pool old = Ok (work.Commit (change.Pool (store.Volume verb.Update u.volume pool old.file old.capacity u.access)))

-- UPDATE VOLUME
abbrev pub update_volume : VolumeUpdate → List Answer → Result Work Refusal
update_volume u answers =
    if_found (the_volume answers) (λ old. if_found (pool_called old.pool (behind answers)) (λ p. access_changed u p.number old))

-- a volume is taken off its pool; the change has what stands there
abbrev pub volume_deleted : List ℕ → ℕ → VolumeLine → Result Work Refusal
volume_deleted volume pool old = Ok (work.Commit (change.Pool (store.Volume verb.Delete volume pool old.file old.capacity old.access)))

-- DELETE VOLUME, without discarding data
abbrev pub delete_volume : List ℕ → List Answer → Result Work Refusal
delete_volume volume answers =
    if_found (the_volume answers) (λ old. if_found (pool_called old.pool (behind answers)) (λ p. volume_deleted volume p.number old))

-- data may move from a pool to another where both are primary
abbrev pub may_move : PoolLine → PoolLine → Bool
may_move own to = own.number == to.number || (is_primary_kind own.kind && is_primary_kind to.kind)

abbrev pub moved : ℕ → PoolLine → PoolLine → Result Work Refusal
moved file own to = if may_move own to then Ok (work.Run (file ∷ to.number ∷ [])) else Err BadHierarchy

-- the volume's data moves to the pool that is named; the answers are those with the pools
abbrev pub moved_from : VolumeLine → List ℕ → List Answer → Result Work Refusal
moved_from v name answers = if_found (pool_called v.pool answers) (λ own. if_found (pool_named name answers) (λ to. moved v.file own to))

-- MOVE DATA, within the volume's pool or to a pool that is named: the volume's file number, and the number of that pool, or 0
abbrev pub move_data : Option (List ℕ) → List Answer → Result Work Refusal
move_data None answers = if_found (number_found answers) (λ file. Ok (work.Run (file ∷ 0 ∷ [])))
move_data (Some name) answers = if_found (the_volume answers) (λ v. moved_from v name (behind answers))
