-- That the image written is of the next generation is looked for: a body that writes another is refused for want of that fact.
use Rattle.std.proofs.Common.{rules, ◌+◌, ◌<◌, ◌^◌, arith}
use Rattle.store_api.proofs.Runs.{told_map}
use Rattle.vault.proofs.Installing.{put_again, told_none_put, told_put, told_not_put}
use Rattle.vault.proofs.format.put_behind.Goals as goal

pub returns-in-Err-clause-told : goal.returns-in-Err-clause-told
returns-in-Err-clause-told g c = told_none_put (g.S.Store.told c.args.store.now) g.D.Database.meaning c.args.vault c.args.database.now _

pub returns-in-Ok-put_generation-clause-told : goal.returns-in-Ok-put_generation-clause-told
returns-in-Ok-put_generation-clause-told g c =
    told_put g.D.Database.meaning c.args.vault c.args.database.now g.met.D.Database.is_meaning c.encode.ensures.valid (g.S.Store.told c.args.store.now) (g.S.Store.told c.put_generation.new.store) _ c.in-Ok.payload.items c.in-Ok.ensures.spelled _ _ c.in-Ok-put_generation.ensures.told (search rules) (search rules)

pub returns-clause-told : goal.returns-clause-told
returns-clause-told g c =
    told_not_put g.D.Database.meaning c.args.vault c.args.database.now g.met.D.Database.is_meaning c.encode.ensures.valid (g.S.Store.told c.args.store.now) (g.S.Store.told c.put_generation.new.store) _ c.in-Ok.payload.items c.in-Ok.ensures.spelled _ _ c.in-Err-put_generation.ensures.told (search rules)

pub returns-then-generation-ge-LAST-clause-told : goal.returns-then-generation-ge-LAST-clause-told
returns-then-generation-ge-LAST-clause-told g c =
    told_map _ _ _ _ (λ h n formatted. put_again g.D.Database.meaning c.args.vault c.args.database.now c.begin_again.result h n (λ few. let few : c.args.vault.generation + 1 < 2 ^ 62 = few in absurd (omega (arith, few))) formatted) c.begin_again.ensures.told
