use Rattle.std.proofs.Common.{List, refl, sym, ap, ◌∙◌}
use Rattle.std.specs.List.{flat_map}
use Rattle.entries.specs.change_items.declared.items.ScratchVolume.{ScratchVolume}
use Rattle.entries.specs.declared.change.Change.{Change}
use Rattle.entries.specs.declared.change.Change.TheVariants.{Backup, Copy, Hold}
use Rattle.inventory_rules.specs.Transactions.{effect}
use Rattle.kept_index.specs.Steps.{of_object, puts, scratches}
use Rattle.kept_index.proofs.Effects.{backup_brings, copy_brings, effect_stores, hold_brings, on_ok_then}
use Rattle.kept_index.proofs.Rows.{begins, ends}
use Rattle.kept_index.proofs.following.follow_brought.Goals as goal

pub returns-in-Backup : goal.returns-in-Backup
returns-in-Backup c = λ v claims is made.
    let x = c.in-Backup.it in
    let final = c.args.pools.now in
    let all = ap (λ (l : List ScratchVolume). puts (flat_map (λ i. of_object (i.object, i.segments)) c.as_slice-in-Backup.result.now) (scratches l v.stores)) c.as_slice.ensures.same
    ∙ ap (λ l. puts (flat_map (λ i. of_object (i.object, i.segments)) l) (scratches x.scratch v.stores)) c.as_slice-in-Backup.ensures.same
    ∙ sym (backup_brings x.filespace x.scratch x.items v) ∙ sym (effect_stores (Backup x) v) ∙ sym (made ∙ ap (λ (k : Change). (effect k v).stores) c.in-Backup.is) in
    on_ok_then c.bring.result (λ way. ends c.bring.new.index claims final final refl way) (c.bring.ensures v.stores final claims (begins c.args.index.now claims v.stores final is) all (λ pool. refl))

pub returns-in-Hold : goal.returns-in-Hold
returns-in-Hold c = λ v claims is made.
    let x = c.in-Hold.it in
    let final = c.args.pools.now in
    let all = ap (λ (l : List ScratchVolume). puts (flat_map (λ i. of_object (i.object, i.segments)) c.as_slice-in-Hold-2.result.now) (scratches l v.stores)) c.as_slice-in-Hold.ensures.same
    ∙ ap (λ l. puts (flat_map (λ i. of_object (i.object, i.segments)) l) (scratches x.scratch v.stores)) c.as_slice-in-Hold-2.ensures.same
    ∙ sym (hold_brings x.filespace x.scratch x.items v) ∙ sym (effect_stores (Hold x) v) ∙ sym (made ∙ ap (λ (k : Change). (effect k v).stores) c.in-Hold.is) in
    on_ok_then c.bring-in-Hold.result (λ way. ends c.bring-in-Hold.new.index claims final final refl way) (c.bring-in-Hold.ensures v.stores final claims (begins c.args.index.now claims v.stores final is) all (λ pool. refl))

pub returns-in-Copy : goal.returns-in-Copy
returns-in-Copy c = λ v claims is made.
    let x = c.in-Copy.it in
    let final = c.args.pools.now in
    let all = ap (λ (l : List ScratchVolume). puts (flat_map (λ i. of_object (i.object, i.segments)) c.as_slice-in-Copy-2.result.now) (scratches l v.stores)) c.as_slice-in-Copy.ensures.same
    ∙ ap (λ l. puts (flat_map (λ i. of_object (i.object, i.segments)) l) (scratches x.scratch v.stores)) c.as_slice-in-Copy-2.ensures.same
    ∙ sym (copy_brings x.scratch x.items v) ∙ sym (effect_stores (Copy x) v) ∙ sym (made ∙ ap (λ (k : Change). (effect k v).stores) c.in-Copy.is) in
    on_ok_then c.bring-in-Copy.result (λ way. ends c.bring-in-Copy.new.index claims final final refl way) (c.bring-in-Copy.ensures v.stores final claims (begins c.args.index.now claims v.stores final is) all (λ pool. refl))
