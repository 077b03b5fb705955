-- A log is read from its start to its end.
use Rattle.std.proofs.Common.{◌≡◌, ℕ, ◌<◌, ◌^◌, List, [], ◌∷◌, ◌++◌, length, map, Some, None, Ok, Err, sym, ◌∙◌, ap, subst, Vec, Global}
use Rattle.std.proofs.lemmas.List.{map-append}
use Rattle.store_api.specs.Disk.{settled, History, standing, reads}
use Rattle.store_api.specs.Runs.{GoesOn}
use Rattle.store_api.proofs.Runs.{goes_later}
use Rattle.kinds.specs.declared.refusal.OpenRefused.{OpenRefused}
use Rattle.kinds.specs.declared.refusal.OpenRefused.TheVariants.{ReadFault, NotFormatted, Damaged, RunFull, Memory}
use Rattle.log_file.specs.declared.found.Record.{Record}
use Rattle.log_file.specs.Blocks.{blocks, LogIs, LogEnds}
use Rattle.log_file.specs.Sure.{State, IsSure}
use Rattle.log_file.specs.Cursor.{Place, CameTo, DamageBehind, SaysDamage, Looked}
use Rattle.log_file.specs.Starts.{KeepsEnd, Advanced, payloads_of, Started}
use Rattle.log_file.proofs.Told.{looked_reads, looked_standing}
use Rattle.log_file.proofs.Logs.{settled_sure}
use Rattle.log_file.proofs.Opening.{keeps_looked, goes_looked}

-- the cursor has come past these records of the file, which is all on the disk
pub record Underway (file : ℕ) (cursor : Place) (payloads : List (List ℕ)) (old new : History) : Type 0 where
  pub goes : GoesOn (λ other. other ≡ file) old new
  pub same : reads new file ≡ reads old file
  pub images : KeepsEnd file old new
  pub durable : standing new file ≡ settled (reads old file)
  pub small : length (reads old file) < 2 ^ 64
  pub came : CameTo (reads old file) cursor payloads
  pub here : cursor.held.file ≡ file

said_damage : (bytes : List ℕ) (payloads : List (List ℕ)) (refusal : OpenRefused) → DamageBehind bytes payloads refusal → SaysDamage bytes refusal
said_damage bytes payloads (Damaged which at) is = (payloads, is)
said_damage bytes payloads (ReadFault which) is = tt
said_damage bytes payloads NotFormatted is = tt
said_damage bytes payloads RunFull is = tt
said_damage bytes payloads Memory is = tt

-- where a log ends within the file, it is there to stay
pub under_sure : (file : ℕ) (cursor : Place) (payloads others : List (List ℕ)) (old new : History) → Underway file cursor payloads old new → LogEnds (reads old file) others → IsSure new file others (length (blocks others))
under_sure file cursor payloads others old new under ends = settled_sure new file (reads old file) others under.durable under.small ends

module _ (file : ℕ) (cursor next : Place) (payloads : List (List ℕ)) (old mid new : History) (under : Underway file cursor payloads old mid) where
  bytes_are : reads mid cursor.held.file ≡ reads old file
  bytes_are = ap (reads mid) under.here ∙ under.same

  came_mid : CameTo (reads mid cursor.held.file) cursor payloads
  came_mid = subst (λ (bytes : List ℕ). CameTo bytes cursor payloads) (sym bytes_are) under.came

  module _ (looked : Looked mid new) where
    goes_new : GoesOn (λ other. other ≡ file) old new
    goes_new = goes_looked file old mid new under.goes looked

    same_new : reads new file ≡ reads old file
    same_new = looked_reads mid new file looked ∙ under.same

    images_new : KeepsEnd file old new
    images_new = keeps_looked file old mid new (goes_later (λ other. other ≡ file) old mid under.goes) under.images looked

    durable_new : standing new file ≡ settled (reads old file)
    durable_new = looked_standing mid new file looked ∙ under.durable

  pub goes_further : (found : Record) → next.held.file ≡ cursor.held.file → Advanced cursor next (Ok (Some found)) mid new → Underway file next (payloads ++ found.payload.items ∷ []) old new
  goes_further found same advanced = record {
    goes = goes_new advanced.looked;
    same = same_new advanced.looked;
    images = images_new advanced.looked;
    durable = durable_new advanced.looked;
    small = under.small;
    came = subst (λ (bytes : List ℕ). CameTo bytes next (payloads ++ found.payload.items ∷ [])) bytes_are (advanced.finds payloads came_mid).1;
    here = same ∙ under.here;
  }

  damage_there : (refusal : OpenRefused) → Advanced cursor next (Err refusal) mid new → DamageBehind (reads old file) payloads refusal
  damage_there refusal advanced = subst (λ (bytes : List ℕ). DamageBehind bytes payloads refusal) bytes_are (advanced.damaged payloads came_mid)

  still : next.held.file ≡ cursor.held.file → Looked mid new → CameTo (reads mid cursor.held.file) next payloads → Underway file next payloads old new
  still same looked came = record {
    goes = goes_new looked;
    same = same_new looked;
    images = images_new looked;
    durable = durable_new looked;
    small = under.small;
    came = subst (λ (bytes : List ℕ). CameTo bytes next payloads) bytes_are came;
    here = same ∙ under.here;
  }

  -- the record that was found begins behind those that were read
  pub found_at : (found : Record) → Advanced cursor next (Ok (Some found)) mid new → found.at ≡ length (blocks payloads)
  found_at found advanced = (advanced.finds payloads came_mid).0

  -- the log ends behind them
  pub found_end : next.held.file ≡ cursor.held.file → Advanced cursor next (Ok None) mid new → Underway file next payloads old new × LogIs (reads old file) payloads
  found_end same advanced =
      let found = advanced.finds payloads came_mid in
      (still same advanced.looked found.1, subst (λ (bytes : List ℕ). LogIs bytes payloads) bytes_are found.0)

  -- reading on was refused
  pub found_refusal : (refusal : OpenRefused) → next.held.file ≡ cursor.held.file → Advanced cursor next (Err refusal) mid new → Underway file next payloads old new × DamageBehind (reads old file) payloads refusal
  found_refusal refusal same advanced = (still same advanced.looked (advanced.again payloads came_mid), damage_there refusal advanced)

  pub no_memory : (found : Record) → Advanced cursor next (Ok (Some found)) mid new → Started file (Err Memory) old new
  no_memory found advanced = record { goes = goes_new advanced.looked; same = same_new advanced.looked; images = images_new advanced.looked; records = tt; end = tt; sure = tt; damaged = tt }

  pub is_refused : (refusal : OpenRefused) → Advanced cursor next (Err refusal) mid new → Started file (Err refusal) old new
  is_refused refusal advanced = record {
    goes = goes_new advanced.looked;
    same = same_new advanced.looked;
    images = images_new advanced.looked;
    records = tt;
    end = tt;
    sure = tt;
    damaged = said_damage (reads old file) payloads refusal (damage_there refusal advanced);
  }

  pub is_started : (log : State) (vec : Vec (Vec ℕ Global) Global) → payloads_of vec ≡ payloads → log.end ≡ next.at → Advanced cursor next (Ok None) mid new → Started file (Ok (log, vec)) old new
  is_started log vec are ends advanced =
      let found = advanced.finds payloads came_mid in
      record {
        goes = goes_new advanced.looked;
        same = same_new advanced.looked;
        images = images_new advanced.looked;
        records = subst (LogIs (reads old file)) (sym are) (subst (λ (bytes : List ℕ). LogIs bytes payloads) bytes_are found.0);
        end = ends ∙ found.1.at ∙ ap (λ (ps : List (List ℕ)). length (blocks ps)) (sym are);
        sure = λ whole.
            subst (λ (ps : List (List ℕ)). IsSure new file ps log.end) (sym are) (subst (IsSure new file payloads) (sym (ends ∙ found.1.at))
            (settled_sure new file (reads old file) payloads (durable_new advanced.looked) under.small (subst (LogEnds (reads old file)) are whole)));
        damaged = tt;
      }

-- one more record was put behind those that were read
pub payloads-push : (old new : Vec (Vec ℕ Global) Global) (payload : Vec ℕ Global) → new.items ≡ old.items ++ payload ∷ [] → payloads_of new ≡ payloads_of old ++ payload.items ∷ []
payloads-push old new payload e = ap (map (λ (record_bytes : Vec ℕ Global). record_bytes.items)) e ∙ map-append (λ (record_bytes : Vec ℕ Global). record_bytes.items) old.items (payload ∷ [])
