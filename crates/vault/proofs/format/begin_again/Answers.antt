-- That the files were made durable is looked for, and not cited: a body that makes no such call is refused for want of that fact.
use Rattle.std.proofs.Common.{refl, rules}
use Rattle.vault.proofs.Formatting.{told_not_cleared, told_not_put, told_put}
use Rattle.vault.proofs.format.begin_again.Goals as goal

pub returns-in-Err-clear-clause-told : goal.returns-in-Err-clear-clause-told
returns-in-Err-clear-clause-told g c = told_not_cleared g.D.Database.meaning c.args.database.now (g.S.Store.told c.args.store.now) _ (g.S.Store.told c.clear.new.store) _ _ c.in-Err-clear.ensures.told (search rules)

pub returns-in-Ok-put_generation-clause-told : goal.returns-in-Ok-put_generation-clause-told
returns-in-Ok-put_generation-clause-told g c =
    told_put g.D.Database.meaning c.args.database.now (g.S.Store.told c.args.store.now) _ (g.S.Store.told c.clear.new.store) (g.S.Store.told c.put_generation.new.store) _ c.in-Ok.payload.items _ _ g.met.D.Database.is_meaning c.encode.ensures.valid c.in-Ok.ensures.spelled c.in-Ok-clear.ensures.told c.in-Ok-put_generation.ensures.told (search rules) refl

pub returns-in-Err-put_generation-clause-told : goal.returns-in-Err-put_generation-clause-told
returns-in-Err-put_generation-clause-told g c =
    told_not_put g.D.Database.meaning c.args.database.now (g.S.Store.told c.args.store.now) _ (g.S.Store.told c.clear.new.store) (g.S.Store.told c.put_generation.new.store) _ c.in-Ok.payload.items _ _ c.in-Ok-clear.ensures.told c.in-Err-put_generation.ensures.told (search rules)
