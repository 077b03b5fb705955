-- Which commands are processes, behind whose work something comes.
use Rattle.std.proofs.Common.{◌≡◌, ◌⊎◌, inl, inr, ℕ, Bool, true, false, if◌then◌else◌, List, [], ◌∷◌, Option, None, Some, is_some, Result, Ok, Err, refl}
use Rattle.std.specs.Option.{unwrap_or}
use Rattle.kinds.specs.declared.refusal.Refusal.{Refusal}
use Rattle.kinds.specs.declared.refusal.Refusal.TheVariants.{BadHierarchy}
use Rattle.inventory_rows.specs.version_groups.Entries.{if_found}
use Rattle.inventory_rows.specs.State.{Inv}
use Rattle.inventory_answers.specs.declared.reply.Answer.{Answer}
use Rattle.command_words.specs.Reading.{◌>>=◌}
use Rattle.admin_words.specs.declared.command.Command.{Command}
use Rattle.admin_words.specs.declared.command.Command.TheVariants as commands
use Rattle.admin_words.specs.declared.command.DatabaseCommand.{DatabaseCommand}
use Rattle.admin_words.specs.declared.command.DatabaseCommand.TheVariants.{BackupDatabase, Checkpoint, Day, DeleteHistory, ExpireInventory}
use Rattle.admin_words.specs.declared.command.FileCommand.{FileCommand}
use Rattle.admin_words.specs.declared.command.FileCommand.TheVariants.{Erase, Get, Incremental, Put, RestoreFiles, Write}
use Rattle.admin_words.specs.declared.command.NodeCommand.{NodeCommand}
use Rattle.admin_words.specs.declared.command.NodeCommand.TheVariants.{DeleteFilespace}
use Rattle.admin_words.specs.declared.command.PolicyCommand.{PolicyCommand}
use Rattle.admin_words.specs.declared.command.PolicyCommand.TheVariants.{ValidateSet}
use Rattle.admin_words.specs.declared.command.VolumeCommand.{VolumeCommand}
use Rattle.admin_words.specs.declared.command.VolumeCommand.TheVariants.{AuditVolume, DeleteVolume, MoveData, RestoreVolume, ReuseVolumes}
use Rattle.admin_words.specs.declared.command.PoolCommand.{PoolCommand}
use Rattle.admin_words.specs.declared.command.PoolCommand.TheVariants.{BackupPool, MigrateAll, MigratePool, ReclaimPool, RestorePool}
use Rattle.admin_words.specs.declared.words.BackupType.{BackupType}
use Rattle.admin_words.specs.declared.words.BackupType.TheVariants.{Full, Incremental}
use Rattle.admin_commands.specs.Found.{behind as others, device_found, filespace_named, number_found, pool_called, pool_named, the_pool, the_volume}
use Rattle.admin_commands.specs.Orders.{needs, run, work_of}
use Rattle.admin_commands.specs.Stores.{delete_volume, may_move, move_data, moved, moved_from}
use Rattle.admin_commands.specs.Orders.{run_found, run_in}
use Rattle.admin_commands.specs.declared.work.Work.{Work}
use Rattle.admin_commands.specs.declared.work.Work.TheVariants as work
use Rattle.command_steps.specs.Behind.{Behind, behind, database_behind, forces, node_behind, no_more, pool_behind, reuses, volume_behind}
use Rattle.command_steps.specs.Owns.{OnTree, Own, audit_volume, back_up, back_up_database, back_up_pool, back_up_since, backup_own, checkpoint, database_own, delete_history, empty_filespace, empty_volume, expire, file_own, get, moves, node_own, none_but_reuse, none_yet, on_tree, own_of, policy_own, pool_own, put, validate, volume_own}
use Rattle.line_results.specs.Commands.{answers_to, work_over}

-- work on a tree behind which something comes: a backup
abbrev pub IsProcessTree : OnTree → Type 0
IsProcessTree (back_up i) = Unit {0}
IsProcessTree work = ⊥

abbrev pub IsPlainTree : OnTree → Type 0
IsPlainTree (back_up i) = ⊥
IsPlainTree work = Unit {0}

-- work of a command's own that is done by the steps of a process, or isn't done so far
abbrev pub IsProcessOwn : Own → Type 0
IsProcessOwn (on_tree work) = IsProcessTree work
IsProcessOwn (validate set) = ⊥
IsProcessOwn (put p) = ⊥
IsProcessOwn (get g) = ⊥
IsProcessOwn checkpoint = ⊥
IsProcessOwn own = Unit {0}

-- work of a command's own that isn't
abbrev pub IsPlainOwn : Own → Type 0
IsPlainOwn (on_tree work) = IsPlainTree work
IsPlainOwn expire = ⊥
IsPlainOwn empty_filespace = ⊥
IsPlainOwn empty_volume = ⊥
IsPlainOwn back_up_pool = ⊥
IsPlainOwn (moves mover) = ⊥
IsPlainOwn none_but_reuse = ⊥
IsPlainOwn back_up_database = ⊥
IsPlainOwn back_up_since = ⊥
IsPlainOwn (delete_history to) = ⊥
IsPlainOwn (audit_volume fix) = ⊥
IsPlainOwn own = Unit {0}

-- work of a command's own behind which volumes may be reused, or that isn't done so far
abbrev pub HasReuse : Own → Type 0
HasReuse expire = Unit {0}
HasReuse empty_filespace = Unit {0}
HasReuse (moves mover) = Unit {0}
HasReuse none_but_reuse = Unit {0}
HasReuse none_yet = Unit {0}
HasReuse own = ⊥

-- it shows no rows
abbrev pub IsRowless : Result Work Refusal → Type 0
IsRowless (Ok (work.Show q)) = ⊥
IsRowless w = Unit {0}

pub record IsProcess (c : Command) : Type 0 where
  pub some : behind c ≡ no_more → ⊥
  pub own : IsProcessOwn (own_of c)
  pub reused : behind c ≡ reuses → HasReuse (own_of c)
  pub rowless : (answers : List Answer) → IsRowless (work_of c answers)

-- nothing comes behind a command's work, or it is a process
abbrev pub Kind : Command → Type 0
Kind c = ((behind c ≡ no_more) × IsPlainOwn (own_of c)) ⊎ IsProcess c

found-rowless : {X : Type 0} (o : Option X) (f : X → Result Work Refusal) → ((x : X) → IsRowless (f x)) → IsRowless (if_found o f)
found-rowless None f h = tt
found-rowless (Some x) f h = h x

policy-kind : (c : PolicyCommand) → Kind (commands.Policy c)
policy-kind (ValidateSet s) = inl (refl, tt)
policy-kind c = inl (refl, tt)

node-kind : (c : NodeCommand) → Kind (commands.Node c)
node-kind (DeleteFilespace f) = inr (record { some = λ is. cc; own = tt; reused = λ is. tt; rowless = λ answers. found-rowless (filespace_named f.filespace answers) (λ it. run (it.number ∷ [])) (λ it. tt) })
node-kind c = inl (refl, tt)

moved-rowless : (b : Bool) (w : Work) → IsRowless (Ok w) → IsRowless (if b then Ok w else Err BadHierarchy)
moved-rowless true w h = h
moved-rowless false w h = tt

pool-kind : (c : PoolCommand) → Kind (commands.Pool c)
pool-kind (BackupPool b) = inr (record {
  some = λ is. cc;
  own = tt;
  reused = λ is. cc;
  rowless = λ answers. found-rowless (number_found answers) (λ primary. if_found (number_found (others answers)) (λ copy. run (primary ∷ copy ∷ [])))
      (λ primary. found-rowless (number_found (others answers)) (λ copy. run (primary ∷ copy ∷ [])) (λ copy. tt));
})
pool-kind MigrateAll = inr (record { some = λ is. cc; own = tt; reused = λ is. tt; rowless = λ answers. tt })
pool-kind (MigratePool m) = inr (record {
  some = λ is. cc;
  own = tt;
  reused = λ is. tt;
  rowless = λ answers. found-rowless (the_pool answers) (λ p. if is_some p.settings.next then run (p.number ∷ unwrap_or m.low p.settings.low ∷ []) else Err BadHierarchy)
      (λ p. moved-rowless (is_some p.settings.next) (work.Run (p.number ∷ unwrap_or m.low p.settings.low ∷ [])) tt);
})
pool-kind (ReclaimPool r) = inr (record {
  some = λ is. cc;
  own = tt;
  reused = λ is. tt;
  rowless = λ answers. found-rowless (the_pool answers) (λ p. run (p.number ∷ unwrap_or r.threshold p.settings.reclaim ∷ [])) (λ p. tt);
})
pool-kind (RestorePool p) = inr (record { some = λ is. cc; own = tt; reused = λ is. tt; rowless = λ answers. found-rowless (number_found answers) (λ number. run (number ∷ [])) (λ number. tt) })
pool-kind c = inl (refl, tt)

-- DELETE VOLUME is one where its data goes
abbrev deleted_behind : Bool → Behind
deleted_behind discard = if discard then forces else no_more

abbrev deleted_own : Bool → Own
deleted_own discard = if discard then empty_volume else none_yet

abbrev DeletedKind : (discard : Bool) → (work : List Answer → Result Work Refusal) → Type 0
DeletedKind discard work =
    ((deleted_behind discard ≡ no_more) × IsPlainOwn (deleted_own discard))
    ⊎ ((deleted_behind discard ≡ no_more → ⊥) × IsProcessOwn (deleted_own discard) × (deleted_behind discard ≡ reuses → HasReuse (deleted_own discard)) × ((answers : List Answer) → IsRowless (work answers)))

deleted-kind : (discard : Bool) (volume : List ℕ) → DeletedKind discard (λ answers. if discard then run_found answers else delete_volume volume answers)
deleted-kind true volume = inr (λ is. cc, tt, λ is. cc, λ answers. found-rowless (number_found answers) (λ number. run (number ∷ [])) (λ number. tt))
deleted-kind false volume = inl (refl, tt)

data-rowless : (pool : Option (List ℕ)) (answers : List Answer) → IsRowless (move_data pool answers)
data-rowless None answers = found-rowless (number_found answers) (λ file. run (file ∷ 0 ∷ [])) (λ file. tt)
data-rowless (Some name) answers =
    found-rowless (the_volume answers) (λ v. moved_from v name (others answers))
    (λ v. found-rowless (pool_called v.pool (others answers)) (λ own. if_found (pool_named name (others answers)) (λ to. moved v.file own to))
    (λ own. found-rowless (pool_named name (others answers)) (λ to. moved v.file own to) (λ to. moved-rowless (may_move own to) (work.Run (v.file ∷ to.number ∷ [])) tt)))

volume-kind : (c : VolumeCommand) → Kind (commands.Volume c)
volume-kind (DeleteVolume d) = elim (deleted-kind d.discard_data d.volume) as (λ _. Kind (commands.Volume (DeleteVolume d))) [
  | inl plain ↦ inl plain
  | inr process ↦ inr (record { some = process.0; own = process.1; reused = process.2; rowless = process.3 })
]
volume-kind (MoveData m) = inr (record { some = λ is. cc; own = tt; reused = λ is. tt; rowless = λ answers. data-rowless m.pool answers })
volume-kind (RestoreVolume v) = inr (record { some = λ is. cc; own = tt; reused = λ is. tt; rowless = λ answers. found-rowless (number_found answers) (λ number. run (number ∷ [])) (λ number. tt) })
volume-kind (AuditVolume a) = inr (record { some = λ is. cc; own = tt; reused = λ is. cc; rowless = λ answers. found-rowless (number_found answers) (λ number. run (number ∷ [])) (λ number. tt) })
volume-kind ReuseVolumes = inr (record { some = λ is. cc; own = tt; reused = λ is. tt; rowless = λ answers. tt })
volume-kind c = inl (refl, tt)

file-kind : (c : FileCommand) → Kind (commands.File c)
file-kind (Put p) = inl (refl, tt)
file-kind (Get g) = inl (refl, tt)
file-kind (Write w) = inl (refl, tt)
file-kind (Erase e) = inl (refl, tt)
file-kind (RestoreFiles r) = inl (refl, tt)
file-kind (Incremental i) = inr (record { some = λ is. cc; own = tt; reused = λ is. cc; rowless = λ answers. found-rowless (number_found answers) (λ number. run (number ∷ [])) (λ number. tt) })
file-kind c = inl (refl, tt)

-- BACKUP DB is one, of whichever type, whether a device class is named or not
backup-process : (kind : BackupType) → IsProcessOwn (backup_own kind)
backup-process Full = tt
backup-process Incremental = tt

in-rowless : (class : Option (List ℕ)) (answers : List Answer) → IsRowless (run_in class answers)
in-rowless None answers = tt
in-rowless (Some class) answers = found-rowless (device_found answers) (λ device. run []) (λ device. tt)

database-kind : (c : DatabaseCommand) → Kind (commands.Database c)
database-kind (BackupDatabase b) = inr (record { some = λ is. cc; own = backup-process b.backup_type; reused = λ is. absurd cc; rowless = λ answers. in-rowless b.dev_class answers })
database-kind (DeleteHistory h) = inr (record { some = λ is. cc; own = tt; reused = λ is. cc; rowless = λ answers. tt })
database-kind (Day d) = inr (record { some = λ is. cc; own = tt; reused = λ is. tt; rowless = λ answers. tt })
database-kind ExpireInventory = inr (record { some = λ is. cc; own = tt; reused = λ is. tt; rowless = λ answers. tt })
database-kind Checkpoint = inl (refl, tt)
database-kind c = inl (refl, tt)

pub kind : (c : Command) → Kind c
kind (commands.Policy c) = policy-kind c
kind (commands.Node c) = node-kind c
kind (commands.Pool c) = pool-kind c
kind (commands.Volume c) = volume-kind c
kind (commands.File c) = file-kind c
kind (commands.Database c) = database-kind c
kind c = inl (refl, tt)

-- a process shows no rows, over any database
then-rowless : (r : Result (List Answer) Refusal) (f : List Answer → Result Work Refusal) → ((x : List Answer) → IsRowless (f x)) → IsRowless (r >>= f)
then-rowless (Ok x) f h = h x
then-rowless (Err e) f h = tt

pub over-rowless : (c : Command) (v : Inv) → IsProcess c → IsRowless (work_over c v)
over-rowless c v p = then-rowless (answers_to (needs c) v) (λ answers. work_of c answers) p.rowless
