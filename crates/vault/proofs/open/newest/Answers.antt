use Rattle.std.proofs.Common.{sym, Ok}
use Rattle.store_api.specs.Disk.{reads}
use Rattle.log_file.proofs.Told.{looked_then}
use Rattle.db_image.specs.declared.mark.Mark.TheVariants.{Server}
use Rattle.db_image.specs.Reads.{FindsHead, SaysDamage}
use Rattle.vault.proofs.Finding.{heads_all, second_refused, newest_found, none_found}
use Rattle.vault.proofs.open.newest.Goals as goal

pub returns-in-Err-head-clause-looked : goal.returns-in-Err-head-clause-looked
returns-in-Err-head-clause-looked g c = looked_then (g.S.Store.told c.args.store.now) (g.S.Store.told c.head.new.store) (g.S.Store.told c.head-2.new.store) c.in-Ok.ensures.looked c.in-Err-head.ensures.looked

pub returns-in-Err-head-clause-finds : goal.returns-in-Err-head-clause-finds
returns-in-Err-head-clause-finds g c =
    heads_all (g.S.Store.told c.args.store.now) (g.S.Store.told c.head.new.store) (λ bytes. FindsHead 0 Server bytes (Ok c.in-Ok.first)) (λ bytes. SaysDamage 1 Server bytes c.in-Err-head.refused) _ (λ h a b. second_refused (reads h) c.in-Ok.first c.in-Err-head.refused (g.S.Store.faults_of c.head.new.store) (g.S.Store.faults_of c.head-2.new.store) (g.S.Store.moment_of c.head-2.new.store) c.in-Err-head.ensures.refused a b) c.in-Ok.ensures.looked c.in-Ok.ensures.finds c.in-Err-head.ensures.finds

pub returns-in-Some-clause-looked : goal.returns-in-Some-clause-looked
returns-in-Some-clause-looked g c = looked_then (g.S.Store.told c.args.store.now) (g.S.Store.told c.head.new.store) (g.S.Store.told c.head-2.new.store) c.in-Ok.ensures.looked c.in-Ok-head.ensures.looked

pub returns-in-Some-clause-finds : goal.returns-in-Some-clause-finds
returns-in-Some-clause-finds g c =
    heads_all (g.S.Store.told c.args.store.now) (g.S.Store.told c.head.new.store) (λ bytes. FindsHead 0 Server bytes (Ok c.in-Ok.first)) (λ bytes. FindsHead 1 Server bytes (Ok c.in-Ok-head.second)) _ (λ h a b. newest_found (reads h) c.in-Ok.first c.in-Ok-head.second c.in-Some.generation a b (sym c.in-Some.ensures)) c.in-Ok.ensures.looked c.in-Ok.ensures.finds c.in-Ok-head.ensures.finds

pub returns-in-None-clause-looked : goal.returns-in-None-clause-looked
returns-in-None-clause-looked g c = looked_then (g.S.Store.told c.args.store.now) (g.S.Store.told c.head.new.store) (g.S.Store.told c.head-2.new.store) c.in-Ok.ensures.looked c.in-Ok-head.ensures.looked

pub returns-in-None-clause-finds : goal.returns-in-None-clause-finds
returns-in-None-clause-finds g c =
    heads_all (g.S.Store.told c.args.store.now) (g.S.Store.told c.head.new.store) (λ bytes. FindsHead 0 Server bytes (Ok c.in-Ok.first)) (λ bytes. FindsHead 1 Server bytes (Ok c.in-Ok-head.second)) _ (λ h a b. none_found (reads h) c.in-Ok.first c.in-Ok-head.second a b (sym c.in-None.ensures)) c.in-Ok.ensures.looked c.in-Ok.ensures.finds c.in-Ok-head.ensures.finds
