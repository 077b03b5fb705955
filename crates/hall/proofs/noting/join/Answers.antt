use Rattle.std.proofs.Common.{◌∙◌}
use Rattle.std.specs.Vec.{vec_capacity}
use Rattle.inventory.specs.Meant.{meaning}
use Rattle.inventory_rows.specs.State.{inv_of}
use Rattle.vault.proofs.Committing.{told_not_waiting}
use Rattle.hall.proofs.Journaled.{made_noted, refused_noted, still}
use Rattle.hall.proofs.noting.join.Goals as goal

pub returns-in-Err-clause-told : goal.returns-in-Err-clause-told
returns-in-Err-clause-told g c = told_not_waiting (g.S.Store.told c.args.store.now) meaning c.args.vault.now _ c.args.entry _

pub returns-in-Err-clause-keeps : goal.returns-in-Err-clause-keeps
returns-in-Err-clause-keeps g c = λ base keeps.
    still base c.args.vault.now c.args.past.now c.ready.new.past (vec_capacity c.args.stamps.now) (vec_capacity c.ready.new.stamps) keeps c.ready.ensures.same c.ready.ensures.capacity

pub returns-in-Ok-commit-clause-keeps : goal.returns-in-Ok-commit-clause-keeps
returns-in-Ok-commit-clause-keeps g c = λ base keeps.
    made_noted base c.args.vault.now c.commit.new.self c.args.entry c.args.past.now c.ready.new.past c.note.new.self (vec_capacity c.args.stamps.now) (vec_capacity c.ready.new.stamps) c.in-Ok.prepared keeps c.ready.ensures.same c.in-Ok.ensures.stamps
    c.in-Ok-commit.ensures.sure c.in-Ok-commit.ensures.ok c.in-Ok.ensures.before c.in-Ok.ensures.valid c.requires.legal (inv_of c.tables.result.now) (c.tables.ensures.value ∙ c.database.ensures)
    (λ before follows. c.note.ensures c.args.entry.change c.args.vault.now.database before follows)

pub returns-in-Err-commit-clause-keeps : goal.returns-in-Err-commit-clause-keeps
returns-in-Err-commit-clause-keeps g c = λ base keeps.
    refused_noted base c.args.vault.now c.commit.new.self c.args.entry c.args.past.now c.ready.new.past (vec_capacity c.args.stamps.now) (vec_capacity c.ready.new.stamps) (g.S.Store.faults_of c.args.store.now) (g.S.Store.faults_of c.commit.new.store) c.in-Err-commit.refusal
    keeps c.ready.ensures.same c.ready.ensures.capacity c.in-Ok.ensures.stamps c.in-Err-commit.ensures.err
