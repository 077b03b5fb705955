use Rattle.std.proofs.Common.{List, sym, ap, subst, ◌∙◌}
use Rattle.std.specs.List.{flat_map}
use Rattle.entries.specs.change_items.declared.items.ScratchVolume.{ScratchVolume}
use Rattle.entries.specs.declared.change.Change.{Change}
use Rattle.entries.specs.declared.change.Change.TheVariants.{Move}
use Rattle.inventory_rows.specs.State.{Inv}
use Rattle.inventory_rules.specs.Common.{each}
use Rattle.inventory_rules.specs.Copies.{put_moved}
use Rattle.inventory_rules.specs.Journal.{no_journal}
use Rattle.inventory_rules.specs.Segments.{make_scratch}
use Rattle.inventory_rules.specs.Transactions.{effect}
use Rattle.kept_index.specs.Steps.{IsLegalOn, gone, of_object, puts, scratches}
use Rattle.kept_index.proofs.Effects.{effect_stores, legal_after, legal_causes, moves_bring, on_ok_then}
use Rattle.kept_index.proofs.Moved.{all_moved, all_moving}
use Rattle.kept_index.proofs.Rows.{begins}
use Rattle.kept_index.proofs.Taken.{left}
use Rattle.kept_index.proofs.following.follow_moved.Goals as goal

pub returns-in-Move : goal.returns-in-Move
returns-in-Move c = λ v claims is legal taken made.
    let x = c.in-Move.it in
    let final = c.args.pools.now in
    let law : IsLegalOn (Move x) v = subst (λ (k : Change). IsLegalOn k v) c.in-Move.is legal in
    let moved = all_moved no_journal x v law.valid law.tied (legal_causes no_journal (Move x) v law.allowed) (legal_after no_journal (Move x) v law.allowed) in
    let full : Inv = each put_moved x.items (each make_scratch x.scratch v) in
    let came = ap (λ (l : List ScratchVolume). puts (flat_map (λ i. of_object (i.object, i.segments)) c.as_slice-in-Move.result.now) (scratches l v.stores)) c.as_slice.ensures.same
    ∙ ap (λ l. puts (flat_map (λ i. of_object (i.object, i.segments)) l) (scratches x.scratch v.stores)) c.as_slice-in-Move.ensures.same
    ∙ sym (moves_bring x.scratch x.items v) in
    let rest = sym (made ∙ ap (λ (k : Change). (effect k v).stores) c.in-Move.is ∙ effect_stores (Move x) v ∙ moved.took.stores) in
    on_ok_then c.move_all.result (left c.move_all.new.index claims full.today final)
    (c.move_all.ensures v.stores full.stores claims full.today (all_moving x.items v) (begins c.args.index.now claims v.stores final is) came
    (moved.segments ∙ sym (taken ∙ ap (λ (k : Change). gone k v) c.in-Move.is)) moved.took.lie rest)
