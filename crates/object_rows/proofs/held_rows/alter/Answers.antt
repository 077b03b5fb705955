use Rattle.std.proofs.Common.{ℕ, List, Result, sym, subst, ⊎_elim}
use Rattle.std.specs.Bool.{IsTrue}
use Rattle.version_groups.specs.kinds.declared.refusal.Refusal.{Refusal}
use Rattle.version_groups.specs.declared.copies.CopyRow.{CopyRow}
use Rattle.version_groups.specs.Copies.{Alters, takes_free_pool}
use Rattle.object_rows.specs.declared.held_object.HeldRow.{HeldRow}
use Rattle.object_rows.specs.HeldRows.{held_altered_at}
use Rattle.object_rows.proofs.Answered.{altered}
use Rattle.object_rows.proofs.HeldCounts.{alter_exchanges_held, counted_held_after, nothing_exchanged_held}
use Rattle.object_rows.proofs.HeldLists.{altered-held, copies-held, held_altered_so}
use Rattle.object_rows.proofs.held_rows.alter.Goals as goal

pub change-result-requires : goal.change-result-requires
change-result-requires c =
    subst (λ (copies : List CopyRow). IsTrue (takes_free_pool c.args.by copies)) (sym (copies-held c.args.object c.args.map.now.entries c.requires.held.numbered)) c.requires.free

pub returns-clause-value : goal.returns-clause-value
returns-clause-value c =
    subst (λ (said : Result (List (ℕ × HeldRow)) Refusal). Alters c.args.by c.change-result.result c.args.map.now.entries c.change-result.new.map.entries said)
    (altered-held c.args.object c.args.by c.args.map.now.entries c.requires.held) c.change-result.ensures

pub returns-clause-held : goal.returns-clause-held
returns-clause-held c =
    held_altered_so c.args.object c.args.by c.args.map.now.entries c.change-result.new.map.entries c.requires.held
    (altered c.args.by c.change-result.result c.args.map.now.entries c.change-result.new.map.entries (held_altered_at c.args.object c.args.by c.args.map.now.entries) c.change-result.ensures)

pub returns-clause-counted : goal.returns-clause-counted
returns-clause-counted c =
    counted_held_after c.args.object c.args.map.now.entries c.change-result.new.map.entries c.args.tally.now c.leave_held.new.self c.enter_held.new.self
    (⊎_elim (nothing_exchanged_held c.args.object c.args.map.now.entries c.change-result.new.map.entries)
    (alter_exchanges_held c.args.map.now.entries c.change-result.new.map.entries c.args.object c.args.by)
    (altered c.args.by c.change-result.result c.args.map.now.entries c.change-result.new.map.entries (held_altered_at c.args.object c.args.by c.args.map.now.entries) c.change-result.ensures))
    c.leave_held.ensures.items c.enter_held.ensures.items c.leave_held.ensures.pools c.enter_held.ensures.pools c.requires.counted
