use Rattle.std.proofs.Common.{◌-◌, ℕ, List, length, take, drop, Ok, Err, ap, subst, arith}
use Rattle.store_api.specs.Told.{Told}
use Rattle.store_api.proofs.Runs.{told_map, told_then}
use Rattle.db_image.specs.declared.phase.Phase.TheVariants.{Written, Durable, Failed as Stuck}
use Rattle.db_image.specs.declared.phase.Progress.TheVariants.{More}
use Rattle.db_image.specs.Steps.{Job, Put}
use Rattle.db_image.proofs.Writing.{job, put_failed, put_more, put_durable, put_not_synced}
use Rattle.db_image.proofs.writer.Image.put.Goals as goal

pub returns-in-Err-clause-told : goal.returns-in-Err-clause-told
returns-in-Err-clause-told g c =
    let i = c.self.inside in
    subst (λ image. Told (g.S.Store.told c.args.store.now) (g.S.Store.told c.write_within.new.store) (Put image (job i.file i.number i.mark i.payload.items i.phase c.args.done c.min-end.result Stuck) c.args.done (Err c.in-Err.failed))) c.self.view_is
    (told_map _ _ _ _ (λ old new wrote. put_failed i.file i.number i.mark i.payload.items i.phase c.args.done c.min-end.result (take (c.min-end.result - c.args.done) (drop c.args.done c.deref.result.now)) (ap (λ (l : List ℕ). take (c.min-end.result - c.args.done) (drop c.args.done l)) c.deref.ensures.value) (omega (arith, ap (λ (j : Job). length j.payload) c.self.view_is, ap length c.deref.ensures.value)) (omega (arith, ap length c.deref.ensures.value)) (omega arith) c.in-Err.failed c.in-Err.failed old new wrote) c.in-Err.ensures.told)

pub returns-then-end-len-clause-told : goal.returns-then-end-len-clause-told
returns-then-end-len-clause-told g c =
    let i = c.self.inside in
    subst (λ image. Told (g.S.Store.told c.args.store.now) (g.S.Store.told c.write_within.new.store) (Put image (job i.file i.number i.mark i.payload.items i.phase c.args.done c.min-end.result (Written c.min-end.result)) c.args.done (Ok More))) c.self.view_is
    (told_map _ _ _ _ (λ old new wrote. put_more i.file i.number i.mark i.payload.items i.phase c.args.done c.min-end.result (take (c.min-end.result - c.args.done) (drop c.args.done c.deref.result.now)) (ap (λ (l : List ℕ). take (c.min-end.result - c.args.done) (drop c.args.done l)) c.deref.ensures.value) (omega arith) (omega arith) (omega arith) c.in-Ok.field-0 old new wrote More) c.in-Ok.ensures.told)

pub returns-in-Ok-sync_within-clause-told : goal.returns-in-Ok-sync_within-clause-told
returns-in-Ok-sync_within-clause-told g c =
    let i = c.self.inside in
    subst (λ image. Told (g.S.Store.told c.args.store.now) (g.S.Store.told c.sync_within.new.store) (Put image (job i.file i.number i.mark i.payload.items i.phase c.args.done c.min-end.result Durable) c.args.done (Ok More))) c.self.view_is
    (told_then _ _ _ _ _ _ (λ old mid new wrote synced. put_durable i.file i.number i.mark i.payload.items i.phase c.args.done c.min-end.result (take (c.min-end.result - c.args.done) (drop c.args.done c.deref.result.now)) (ap (λ (l : List ℕ). take (c.min-end.result - c.args.done) (drop c.args.done l)) c.deref.ensures.value) (omega (arith, ap (λ (j : Job). length j.payload) c.self.view_is)) (omega arith) (omega arith) c.in-Ok.field-0 old mid wrote new More c.in-Ok-sync_within.field-0 (omega (arith, ap length c.deref.ensures.value)) synced) c.in-Ok.ensures.told c.in-Ok-sync_within.ensures.told)

pub returns-in-Err-sync_within-clause-told : goal.returns-in-Err-sync_within-clause-told
returns-in-Err-sync_within-clause-told g c =
    let i = c.self.inside in
    subst (λ image. Told (g.S.Store.told c.args.store.now) (g.S.Store.told c.sync_within.new.store) (Put image (job i.file i.number i.mark i.payload.items i.phase c.args.done c.min-end.result Stuck) c.args.done (Err c.in-Err-sync_within.failed))) c.self.view_is
    (told_then _ _ _ _ _ _ (λ old mid new wrote synced. put_not_synced i.file i.number i.mark i.payload.items i.phase c.args.done c.min-end.result (take (c.min-end.result - c.args.done) (drop c.args.done c.deref.result.now)) (ap (λ (l : List ℕ). take (c.min-end.result - c.args.done) (drop c.args.done l)) c.deref.ensures.value) (omega (arith, ap (λ (j : Job). length j.payload) c.self.view_is)) (omega arith) (omega arith) c.in-Ok.field-0 old mid wrote new c.in-Err-sync_within.failed c.in-Err-sync_within.failed synced) c.in-Ok.ensures.told c.in-Err-sync_within.ensures.told)
