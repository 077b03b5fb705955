-- What came of restoring a database, as an exit status; and what it leaves.
use Rattle.std.proofs.Common.{◌≡◌, ◌⊎◌, ⊎_elim, inl, inr, ℕ, ◌<◌, ◌≤◌, Option, None, Some, IfErr, List, [], ◌∷◌, Result, Ok, Err, refl, sym, ◌∙◌, ap, subst, arith, String, Global, map, string_bytes}
use Rattle.store_api.specs.Cause.{Rose}
use Rattle.store_api.specs.Disk.{History, ImageAt, now, reads}
use Rattle.store_api.specs.Told.{Told}
use Rattle.store_api.proofs.Pieces.{image_reads}
use Rattle.store_api.proofs.Runs.{told_map}
use Rattle.contents.specs.Contents.{Holds}
use Rattle.db_losses.specs.Losses.{restored as left_of}
use Rattle.db_restore.specs.Restoring.{AreAlike, IsInstalled}
use Rattle.hall.specs.Opening.{IsSound}
use Rattle.inventory.specs.Meant.{meaning}
use Rattle.inventory.specs.Meaningful.{is_meaning}
use Rattle.vault.specs.Recovery.{IsBase, Recovers}
use Rattle.vault.proofs.Sounding.{within_recovers}
use Rattle.vault.proofs.Unique.{one_database}
use Rattle.tsm_top.specs.Restored.{IsRestored}
use Rattle.tsm_top.proofs.Returning.{has_restored, returns, since_restored}
use Rattle.kinds.specs.declared.refusal.OpenRefused.TheVariants as opening
use Rattle.db_chains.specs.declared.refused.ChainRefused.TheVariants as chain
use Rattle.db_losses.specs.declared.lost.Lost.{Lost}
use Rattle.db_restore.specs.Chained.{MayNotRestore, RestoresFrom}
use Rattle.db_restore.specs.declared.done.RestoreDone.{RestoreDone}
use Rattle.db_restore.specs.declared.refused.NotRestored.{NotRestored}
use Rattle.db_restore.specs.declared.refused.NotRestored.TheVariants.{Chain, Database}
use Rattle.db_restore.specs.declared.refused.RestoreRefused.TheVariants as unrestored
use Rattle.entries.specs.declared.entry.Entry.{Entry}
use Rattle.inventory_rows.specs.State.{Inv}
use Rattle.recoveries.specs.Telling.{done_status, told_status}
use Rattle.program_words.specs.Words.{AskNothing, Reads, wanted}
use Rattle.program_words.specs.declared.words.Asked.{Asked}
use Rattle.tsm_top.specs.declared.note.Note.{Note}
use Rattle.tsm_top.specs.Serve.{AskToRestore, Asks, Closing, Command, HasCause, PutsLine, Shuts, closing_status, exists, format, formatted, fresh_run, no_command, refused_opening, restore, restored, run, unread, untold}

done_small : (lost : List (ℕ × Lost)) → done_status lost ≤ 1
done_small [] = omega arith
done_small (x ∷ lost) = omega arith

-- the status is 0 or 1, 5, or 7 to 9
told_kinds : (came : Result RestoreDone NotRestored) → (told_status came ≤ 1) ⊎ ((told_status came ≡ 5) ⊎ (7 ≤ told_status came))
told_kinds (Ok done) = inl (done_small done.lost)
told_kinds (Err (Chain (chain.ReadFault at))) = inr (inl refl)
told_kinds (Err (Chain (chain.NotABackup at))) = inr (inr (omega arith))
told_kinds (Err (Chain chain.RunFull)) = inr (inr (omega arith))
told_kinds (Err (Chain chain.Memory)) = inr (inr (omega arith))
told_kinds (Err (Database (unrestored.ReadFault at))) = inr (inl refl)
told_kinds (Err (Database unrestored.NotABackup)) = inr (inr (omega arith))
told_kinds (Err (Database (unrestored.DayBack taken given))) = inl (omega arith)
told_kinds (Err (Database unrestored.RunFull)) = inr (inr (omega arith))
told_kinds (Err (Database unrestored.Memory)) = inr (inr (omega arith))

-- so it is none of the others
pub told_other : (came : Result RestoreDone NotRestored) (n : ℕ) → 2 ≤ n → n < 7 → (n ≡ 5 → ⊥) → told_status came ≡ n → ⊥
told_other came n two seven five is = ⊎_elim (λ small. absurd (omega (arith, small, two, is))) (λ more. ⊎_elim (λ fault. five (sym is ∙ fault)) (λ big. absurd (omega (arith, big, seven, is))) more) (told_kinds came)

-- ---- a call that ran no script

-- where its status is 2, the words ask nothing
closing_none : (words : List (String Global)) (why : Closing) (told left : Option History) (last : ℕ) (before after : ℕ → ℕ) → HasCause (Asks words) why told left last before after → closing_status why ≡ 2 → (command : Command) → Asks words command → ⊥
closing_none words no_command told left last before after cause is = cause.0
closing_none words formatted told left last before after cause is = absurd (omega (arith, is))
closing_none words exists told left last before after cause is = absurd (omega (arith, is))
closing_none words (refused_opening (opening.ReadFault file)) told left last before after cause is = absurd (omega (arith, is))
closing_none words (refused_opening (opening.Damaged file at)) told left last before after cause is = absurd (omega (arith, is))
closing_none words (refused_opening opening.NotFormatted) told left last before after cause is = absurd (omega (arith, is))
closing_none words (refused_opening opening.RunFull) told left last before after cause is = absurd (omega (arith, is))
closing_none words (refused_opening opening.Memory) told left last before after cause is = absurd (omega (arith, is))
closing_none words (restored file came) told left last before after cause is = absurd (told_other came 2 (omega arith) (omega arith) (λ five. omega (arith, five)) is)
closing_none words (untold file came) told left last before after cause is = absurd (omega (arith, is))
closing_none words unread told left last before after cause is = absurd (omega (arith, is))

pub shut_none : (why : Closing) (before_put after_put : Option (List ℕ)) (sink_rose : Type 0) (status : ℕ) (journal : List Entry) (stamps : List ℕ) (notes : List Note) (base : Option Inv) (generation opened end : ℕ)
    → Shuts why before_put after_put sink_rose status journal stamps notes base generation opened end → (words : List (String Global)) (told left : Option History) (last : ℕ) (before after : ℕ → ℕ)
    → HasCause (Asks words) why told left last before after → status ≡ 2 → (command : Command) → Asks words command → ⊥
shut_none why before_put after_put sink_rose status journal stamps notes base generation opened end shut words told left last before after cause is =
    ⊎_elim (λ own. closing_none words why told left last before after cause (sym own.0 ∙ is)) (λ sink. absurd (omega (arith, sink.0, is))) shut.line

-- ---- a database was restored

-- what is restored is what the files recover to, and it is sound
is_sound : (p : Inv) (file day : ℕ) (skipped : List ℕ) (done : RestoreDone) (old new : History) → IsInstalled p file day skipped done old new
    → (v : Inv) × Recovers meaning (reads new) v × ((contents : ℕ → List ℕ) → AreAlike contents (reads old) v → IsSound contents new)
is_sound p file day skipped done old new is =
    let v = left_of is.losses file day p in
    let base : (image : ℕ → List ℕ) → ImageAt new (now new) image → IsBase meaning is.next v image = λ image here. is.images (now new) image (omega arith) (omega arith) here in
    let read : Recovers meaning (reads new) v = within_recovers meaning (reads new) v (base (reads new) (image_reads new)).recovers in (
      v,
      read,
      λ contents alike. (let holds : (image : ℕ → List ℕ) → ImageAt new (now new) image → Holds contents image v = λ image here. is.holds contents alike (now new) image (omega arith) (omega arith) here in record {
        each = λ image here. (v, ((base image here).recovers, holds image here));
        read = λ w recovers image here. subst (λ (x : Inv). Holds contents image x) (one_database meaning is_meaning (reads new) v w read recovers) (holds image here);
      }),
    )

restored_from : (file day : ℕ) (skipped : List ℕ) (came : Result RestoreDone NotRestored) (old new : History) → RestoresFrom file day skipped came old new → IsRestored file day skipped came old new
restored_from file day skipped (Ok done) old new from = record { from = from; sound = is_sound from.0 file day skipped done old new from.2.1.installed; backups = has_restored from.0 file day skipped done old new from.2.1.installed; kept = returns file day skipped (Ok done) old new from; within = λ contents known unspent backed. since_restored contents old new known unspent backed file day skipped (Ok done) from }
restored_from file day skipped (Err why) old new from = record { from = from; sound = tt; backups = tt; kept = returns file day skipped (Err why) old new from; within = λ contents known unspent backed. since_restored contents old new known unspent backed file day skipped (Err why) from }

module _ {S : Type 0} (told : S → Option History) (moment : S → ℕ) (faults : S → ℕ → ℕ) (store mid left : S) (file day : ℕ) (skipped : List ℕ) (came : Result RestoreDone NotRestored) (same : left ≡ mid) (from : Told (told store) (told mid) (RestoresFrom file day skipped came)) where
  is_restored : Told (told store) (told left) (IsRestored file day skipped came)
  is_restored =
      subst (λ (s : S). Told (told store) (told s) (IsRestored file day skipped came)) (sym same)
      (told_map (told store) (told mid) (RestoresFrom file day skipped came) (IsRestored file day skipped came) (λ old new is. restored_from file day skipped came old new is) from)

  pub cause_told : IfErr came (MayNotRestore day (faults store) (faults mid) (moment mid)) → HasCause (λ command. command ≡ restore file day skipped) (restored file came) (told store) (told left) (moment left) (faults store) (faults left)
  cause_told may = (
    day,
    skipped,
    refl,
    is_restored,
    subst (λ (s : S). IfErr came (MayNotRestore day (faults store) (faults s) (moment s))) (sym same) may,
  )

  pub cause_untold : HasCause (λ command. command ≡ restore file day skipped) (untold file came) (told store) (told left) (moment left) (faults store) (faults left)
  cause_untold = (day, skipped, refl, is_restored)

-- the same line, and the same status
pub puts_as : (line own_line : List ℕ) (own own_status status : ℕ) (before after : Option (List ℕ)) (rose : Type 0) → line ≡ own_line → own ≡ own_status → PutsLine line own status before after rose → PutsLine own_line own_status status before after rose
puts_as line own_line own own_status status before after rose lines statuses puts =
    subst (λ (l : List ℕ). PutsLine l own_status status before after rose) lines (subst (λ (n : ℕ). PutsLine line n status before after rose) statuses puts)

no_wanted : (o : Option (ℕ × ℕ × List ℕ)) (x : ℕ × ℕ × List ℕ) → o ≡ None → o ≡ Some x → ⊥
no_wanted None x is some = absurd (cc)
no_wanted (Some y) x is some = absurd (cc)

-- what was read is what the words ask
pub read_as : (words : List (String Global)) (read : Option Asked) (asked one : Asked) → read ≡ Some asked → asked ≡ one → Reads read (map string_bytes words) → Reads (Some one) (map string_bytes words)
read_as words read asked one is same reads = subst (λ (o : Option Asked). Reads o (map string_bytes words)) (is ∙ ap (λ (a : Asked). Some a) same) reads

pub read_none : (words : List (String Global)) (read : Option Asked) → read ≡ None → Reads read (map string_bytes words) → AskNothing (map string_bytes words)
read_none words read is reads = subst (λ (o : Option Asked). Reads o (map string_bytes words)) is reads

-- words that ask nothing are no command
pub asks_none : (words : List (String Global)) → AskNothing (map string_bytes words) → (command : Command) → Asks words command → ⊥
asks_none words it format asks = it.no_format asks
asks_none words it run asks = it.no_run asks
asks_none words it fresh_run asks = it.no_fresh asks
asks_none words it (restore file day skipped) asks = no_wanted (wanted (map string_bytes words)) (file, day, skipped) it.no_restore asks

-- ---- a call that ran no script and ends with status 5

-- a file's count rose where what came of restoring a database says so
came_of_fault : (came : Result RestoreDone NotRestored) (day : ℕ) (before after : ℕ → ℕ) (last : ℕ) → IfErr came (MayNotRestore day before after last) → told_status came ≡ 5 → (file : ℕ) × Rose (before file) (after file)
came_of_fault (Ok done) day before after last may five = (let few = done_small done.lost in absurd (omega (arith, few, five)))
came_of_fault (Err (Chain (chain.ReadFault at))) day before after last may five = (at, may.1)
came_of_fault (Err (Chain (chain.NotABackup at))) day before after last may five = absurd (omega (arith, five))
came_of_fault (Err (Chain chain.RunFull)) day before after last may five = absurd (omega (arith, five))
came_of_fault (Err (Chain chain.Memory)) day before after last may five = absurd (omega (arith, five))
came_of_fault (Err (Database (unrestored.ReadFault at))) day before after last may five = (at, may.1)
came_of_fault (Err (Database unrestored.NotABackup)) day before after last may five = absurd (omega (arith, five))
came_of_fault (Err (Database (unrestored.DayBack taken given))) day before after last may five = absurd (omega (arith, five))
came_of_fault (Err (Database unrestored.RunFull)) day before after last may five = absurd (omega (arith, five))
came_of_fault (Err (Database unrestored.Memory)) day before after last may five = absurd (omega (arith, five))

closed_by_fault : (words : List (String Global)) (why : Closing) (told left : Option History) (last : ℕ) (before after : ℕ → ℕ) → HasCause (Asks words) why told left last before after → closing_status why ≡ 5 → (file : ℕ) × ((file < 4) ⊎ AskToRestore words) × Rose (before file) (after file)
closed_by_fault words no_command told left last before after cause five = absurd (omega (arith, five))
closed_by_fault words formatted told left last before after cause five = absurd (omega (arith, five))
closed_by_fault words exists told left last before after cause five = absurd (omega (arith, five))
closed_by_fault words (refused_opening (opening.ReadFault file)) told left last before after (command, asks, (ours, rose), spares) five = (file, inl ours, rose)
closed_by_fault words (refused_opening (opening.Damaged file at)) told left last before after cause five = absurd (omega (arith, five))
closed_by_fault words (refused_opening opening.NotFormatted) told left last before after cause five = absurd (omega (arith, five))
closed_by_fault words (refused_opening opening.RunFull) told left last before after cause five = absurd (omega (arith, five))
closed_by_fault words (refused_opening opening.Memory) told left last before after cause five = absurd (omega (arith, five))
closed_by_fault words (restored file came) told left last before after (day, skipped, asks, is, may) five = (let fault = came_of_fault came day before after last may five in (fault.0, inr (file, day, skipped, asks), fault.1))
closed_by_fault words (untold file came) told left last before after cause five = absurd (omega (arith, five))
closed_by_fault words unread told left last before after cause five = absurd (omega (arith, five))

-- where its status is 5, a file's count rose, one of the vault's, or the words ask to restore a database
pub shut_by_fault : (why : Closing) (before_put after_put : Option (List ℕ)) (sink_rose : Type 0) (status : ℕ) (journal : List Entry) (stamps : List ℕ) (notes : List Note) (base : Option Inv) (generation opened end : ℕ)
    → Shuts why before_put after_put sink_rose status journal stamps notes base generation opened end → (words : List (String Global)) (told left : Option History) (last : ℕ) (before after : ℕ → ℕ)
    → HasCause (Asks words) why told left last before after → status ≡ 5 → (file : ℕ) × ((file < 4) ⊎ AskToRestore words) × Rose (before file) (after file)
shut_by_fault why before_put after_put sink_rose status journal stamps notes base generation opened end shut words told left last before after cause five =
    ⊎_elim (λ own. closed_by_fault words why told left last before after cause (sym own.0 ∙ five)) (λ sink. absurd (omega (arith, sink.0, five))) shut.line
