-- What a cursor finds, seen from what a store tells.
use Rattle.std.proofs.Common.{◌≡◌, ℕ, ◌+◌, true, false, List, Option, Some, None, Result, Ok, Err, IfOk, OnErr, IfErr, subst, Vec, Global}
use Rattle.store_api.specs.Disk.{History}
use Rattle.store_api.specs.Told.{Told}
use Rattle.kinds.specs.declared.refusal.OpenRefused.{OpenRefused}
use Rattle.kinds.specs.declared.refusal.OpenRefused.TheVariants.{ReadFault, NotFormatted, Damaged, RunFull, Memory}
use Rattle.log_file.specs.declared.found.Record.{Record}
use Rattle.log_file.specs.Cursor.{Held, Place, Shows, CameTo, DamageBehind, Looked}
use Rattle.log_file.specs.Starts.{Finds, Advanced}
use Rattle.log_file.specs.Windows.{IfReads, NoDamage, HeadIs, between}
use Rattle.log_file.proofs.Told.{looked_standing, back_reads, reads_map, reads_both, told_reads}
use Rattle.log_file.proofs.Pieces.{came_again, came_end, came_damage, came_on}

-- what a step of a cursor says of the bytes
abbrev pub StepOf : Place → Place → Result (Option Record) OpenRefused → List ℕ → Type 0
StepOf cursor next result bytes = (payloads : List (List ℕ)) → CameTo bytes cursor payloads → IfOk result (λ found. Finds bytes payloads found next) × OnErr result (CameTo bytes next payloads) × IfErr result (DamageBehind bytes payloads)

pub advanced_by : (x y : Option History) (cursor next : Place) (result : Result (Option Record) OpenRefused) → Told x y Looked → IfReads x cursor.held.file (StepOf cursor next result) → Told x y (Advanced cursor next result)
advanced_by x y cursor next result looked step =
    told_reads x y cursor.held.file (StepOf cursor next result) Looked (Advanced cursor next result) (λ old new looked step. record {
      looked = looked;
      same = λ file. looked_standing old new file looked;
      finds = λ payloads came. (step payloads came).0;
      again = λ payloads came. (step payloads came).1;
      damaged = λ payloads came. (step payloads came).2;
    }) looked step

-- the head says that the log ends
pub step_end : (x : Option History) (cursor : Place) (held : Held) → IfReads x cursor.held.file (λ bytes. Shows bytes cursor.held → Shows bytes held × HeadIs bytes cursor.at (Ok None)) → IfReads x cursor.held.file (StepOf cursor (record { held = held; at = cursor.at; ended = true }) (Ok None))
step_end x cursor held head = reads_map x cursor.held.file (λ bytes. Shows bytes cursor.held → Shows bytes held × HeadIs bytes cursor.at (Ok None)) (StepOf cursor (record { held = held; at = cursor.at; ended = true }) (Ok None)) (λ bytes f payloads came.
    let here = f came.shows in (came_end bytes cursor payloads held came here.0 here.1, tt, tt)) head

-- the head was refused
pub step_refused : (x : Option History) (cursor : Place) (held : Held) (refusal : OpenRefused) → IfReads x cursor.held.file (λ bytes. Shows bytes cursor.held → Shows bytes held × HeadIs bytes cursor.at (Err refusal)) → IfReads x cursor.held.file (StepOf cursor (record { held = held; at = cursor.at; ended = cursor.ended }) (Err refusal))
step_refused x cursor held refusal head = reads_map x cursor.held.file (λ bytes. Shows bytes cursor.held → Shows bytes held × HeadIs bytes cursor.at (Err refusal)) (StepOf cursor (record { held = held; at = cursor.at; ended = cursor.ended }) (Err refusal)) (λ bytes f payloads came.
    let here = f came.shows in (tt, came_again bytes cursor payloads held came here.0, came_damage bytes cursor payloads refusal came here.1)) head

-- a refusal that doesn't say that the bytes are damaged
pub no_damage : (bytes : List ℕ) (payloads : List (List ℕ)) (refusal : OpenRefused) → NoDamage refusal → DamageBehind bytes payloads refusal
no_damage bytes payloads (Damaged which at) not = absurd not
no_damage bytes payloads (ReadFault which) not = tt
no_damage bytes payloads NotFormatted not = tt
no_damage bytes payloads RunFull not = tt
no_damage bytes payloads Memory not = tt

-- the head has a record, and its bytes were refused
pub step_stopped : (x y : Option History) (cursor : Place) (mid held : Held) (len : ℕ) (refusal : OpenRefused) → mid.file ≡ cursor.held.file → Told x y Looked → IfReads x cursor.held.file (λ bytes. Shows bytes cursor.held → Shows bytes mid × HeadIs bytes cursor.at (Ok (Some len)))
    → IfReads y mid.file (λ bytes. Shows bytes mid → Shows bytes held × NoDamage refusal) → IfReads x cursor.held.file (StepOf cursor (record { held = held; at = cursor.at; ended = cursor.ended }) (Err refusal))
step_stopped x y cursor mid held len refusal same looked head body =
    reads_both x cursor.held.file (λ bytes. Shows bytes cursor.held → Shows bytes mid × HeadIs bytes cursor.at (Ok (Some len))) (λ bytes. Shows bytes mid → Shows bytes held × NoDamage refusal) (StepOf cursor (record { held = held; at = cursor.at; ended = cursor.ended }) (Err refusal)) (λ bytes f h payloads came.
    let here = h (f came.shows).0 in (tt, came_again bytes cursor payloads held came here.0, no_damage bytes payloads refusal here.1)) head
    (back_reads x y cursor.held.file (λ bytes. Shows bytes mid → Shows bytes held × NoDamage refusal) looked (subst (λ file. IfReads y file (λ bytes. Shows bytes mid → Shows bytes held × NoDamage refusal)) same body))

-- the head has a record, and its bytes were read
pub step_record : (x y : Option History) (cursor : Place) (mid held : Held) (len next : ℕ) (payload : Vec ℕ Global) → mid.file ≡ cursor.held.file → Told x y Looked → next ≡ cursor.at + 5 + len → IfReads x cursor.held.file (λ bytes. Shows bytes cursor.held → Shows bytes mid × HeadIs bytes cursor.at (Ok (Some len)))
    → IfReads y mid.file (λ bytes. Shows bytes mid → Shows bytes held × Unit {0}) → IfReads y mid.file (λ bytes. Shows bytes mid → payload.items ≡ between bytes (cursor.at + 5) (cursor.at + (5 + len)))
    → IfReads x cursor.held.file (StepOf cursor (record { held = held; at = next; ended = false }) (Ok (Some (record { at = cursor.at; payload = payload }))))
step_record x y cursor mid held len next payload same looked on head body bytes_read =
    let Both : List ℕ → Type 0 = λ bytes. Shows bytes mid → Shows bytes held × (payload.items ≡ between bytes (cursor.at + 5) (cursor.at + (5 + len))) in
    reads_both x cursor.held.file (λ bytes. Shows bytes cursor.held → Shows bytes mid × HeadIs bytes cursor.at (Ok (Some len))) Both (StepOf cursor (record { held = held; at = next; ended = false }) (Ok (Some (record { at = cursor.at; payload = payload })))) (λ bytes f h payloads came.
    let first = f came.shows in
    let then = h first.0 in
    ((came.at, came_on bytes cursor payloads held payload.items len next came then.0 first.1.0 first.1.1 first.1.2 then.1 on), tt, tt)) head
    (back_reads x y cursor.held.file Both looked (subst (λ file. IfReads y file Both) same (reads_both y mid.file (λ bytes. Shows bytes mid → Shows bytes held × Unit {0}) (λ bytes. Shows bytes mid → payload.items ≡ between bytes (cursor.at + 5) (cursor.at + (5 + len))) Both (λ bytes f h s. ((f s).0, h s)) body bytes_read)))
