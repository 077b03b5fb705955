use Rattle.std.proofs.Common.{ap, sym, ◌∙◌, length, Ok, Err, ℕ, List}
use Rattle.store_api.specs.Disk.{reads}
use Rattle.store_api.proofs.Runs.{told_then, told_map}
use Rattle.log_file.specs.Cursor.{Looked}
use Rattle.vault.specs.Recovery.{Newest}
use Rattle.vault.specs.Vaults.{State}
use Rattle.vault.specs.Openings.{FindsNewest, FindsBase, form_of}
use Rattle.vault.proofs.Sounding.{Found, Based, told_with, settled_below, newest_is, base_is, not_settled, no_newest, no_base, not_replayed, is_opened}
use Rattle.vault.proofs.open.recover.Goals as goal

pub returns-in-Err-clause-told : goal.returns-in-Err-clause-told
returns-in-Err-clause-told g c = told_map _ _ _ _ (λ h n all. not_settled g.D.Database.meaning c.in-Err.refused h n c.in-Err.ensures.device all) c.in-Err.ensures.told

pub returns-in-Err-newest-clause-told : goal.returns-in-Err-newest-clause-told
returns-in-Err-newest-clause-told g c =
    told_then (g.S.Store.told c.args.store.now) (g.S.Store.told c.settle_all.new.store) (g.S.Store.told c.newest.new.store) _ (λ h n. Looked h n × FindsNewest (reads h) (Err c.in-Err-newest.refused)) _
    (λ h k n all next. no_newest g.D.Database.meaning c.in-Err-newest.refused h k n (settled_below tt h k all) next) c.in-Ok.ensures.told (told_with (g.S.Store.told c.settle_all.new.store) (g.S.Store.told c.newest.new.store) Looked (λ h. FindsNewest (reads h) (Err c.in-Err-newest.refused)) c.in-Err-newest.ensures.looked c.in-Err-newest.ensures.finds)

pub returns-in-Err-read_base-clause-told : goal.returns-in-Err-read_base-clause-told
returns-in-Err-read_base-clause-told g c =
    let found = told_then (g.S.Store.told c.args.store.now) (g.S.Store.told c.settle_all.new.store) (g.S.Store.told c.newest.new.store) _ (λ h n. Looked h n × FindsNewest (reads h) (Ok c.in-Ok-newest.generation)) (Found c.in-Ok-newest.generation)
    (λ h k n all next. newest_is c.in-Ok-newest.generation h k n (settled_below tt h k all) next) c.in-Ok.ensures.told (told_with (g.S.Store.told c.settle_all.new.store) (g.S.Store.told c.newest.new.store) Looked (λ h. FindsNewest (reads h) (Ok c.in-Ok-newest.generation)) c.in-Ok-newest.ensures.looked c.in-Ok-newest.ensures.finds) in
    told_then (g.S.Store.told c.args.store.now) (g.S.Store.told c.newest.new.store) (g.S.Store.told c.read_base.new.store) (Found c.in-Ok-newest.generation)
    (λ h n. Looked h n × ((payload : List ℕ) → Newest (reads h) c.in-Ok-newest.generation payload → FindsBase g.D.Database.meaning c.in-Ok-newest.generation payload (Err c.in-Err-read_base.refused))) _
    (λ h k n f next. no_base g.D.Database.meaning c.in-Ok-newest.generation c.in-Err-read_base.refused h k n f next) found
    (told_with (g.S.Store.told c.newest.new.store) (g.S.Store.told c.read_base.new.store) Looked (λ h. (payload : List ℕ) → Newest (reads h) c.in-Ok-newest.generation payload → FindsBase g.D.Database.meaning c.in-Ok-newest.generation payload (Err c.in-Err-read_base.refused)) c.in-Err-read_base.ensures.looked c.in-Err-read_base.ensures.finds)

pub returns-in-Ok-replay-clause-told : goal.returns-in-Ok-replay-clause-told
returns-in-Ok-replay-clause-told g c =
    let found = told_then (g.S.Store.told c.args.store.now) (g.S.Store.told c.settle_all.new.store) (g.S.Store.told c.newest.new.store) _ (λ h n. Looked h n × FindsNewest (reads h) (Ok c.in-Ok-newest.generation)) (Found c.in-Ok-newest.generation)
    (λ h k n all next. newest_is c.in-Ok-newest.generation h k n (settled_below tt h k all) next) c.in-Ok.ensures.told (told_with (g.S.Store.told c.settle_all.new.store) (g.S.Store.told c.newest.new.store) Looked (λ h. FindsNewest (reads h) (Ok c.in-Ok-newest.generation)) c.in-Ok-newest.ensures.looked c.in-Ok-newest.ensures.finds) in
    let based = told_then (g.S.Store.told c.args.store.now) (g.S.Store.told c.newest.new.store) (g.S.Store.told c.read_base.new.store) (Found c.in-Ok-newest.generation)
    (λ h n. Looked h n × ((payload : List ℕ) → Newest (reads h) c.in-Ok-newest.generation payload → FindsBase g.D.Database.meaning c.in-Ok-newest.generation payload (Ok c.in-Ok-read_base.found))) (Based (form_of c.in-Ok-read_base.found.1) g.D.Database.meaning c.in-Ok-newest.generation c.in-Ok-read_base.found.0)
    (base_is g.D.Database.meaning c.in-Ok-newest.generation c.in-Ok-read_base.found.0 c.in-Ok-read_base.found.1) found
    (told_with (g.S.Store.told c.newest.new.store) (g.S.Store.told c.read_base.new.store) Looked (λ h. (payload : List ℕ) → Newest (reads h) c.in-Ok-newest.generation payload → FindsBase g.D.Database.meaning c.in-Ok-newest.generation payload (Ok c.in-Ok-read_base.found)) c.in-Ok-read_base.ensures.looked c.in-Ok-read_base.ensures.finds) in
    told_then (g.S.Store.told c.args.store.now) (g.S.Store.told c.read_base.new.store) (g.S.Store.told c.replay.new.store) (Based (form_of c.in-Ok-read_base.found.1) g.D.Database.meaning c.in-Ok-newest.generation c.in-Ok-read_base.found.0) _ _
    (λ h k n b replayed. is_opened g.D.Database.meaning g.met.D.Database.is_meaning c.in-Ok-read_base.found.1 c.in-Ok-newest.generation c.log_file.result c.log_file.ensures.value c.in-Ok-read_base.found.0 c.replay.new.database h k n b c.in-Ok-replay.log replayed c.opened.result (ap (λ (v : State g.row.D.Denot). v.generation) c.opened.ensures) (ap (λ (v : State g.row.D.Denot). v.database) c.opened.ensures) (ap (λ (v : State g.row.D.Denot). v.end) c.opened.ensures) (ap (λ (v : State g.row.D.Denot). v.sure) c.opened.ensures ∙ c.in-Ok-replay.ensures.log.1 ∙ sym (ap (λ (v : State g.row.D.Denot). v.end) c.opened.ensures)) (ap (λ (v : State g.row.D.Denot). v.forced) c.opened.ensures ∙ sym (ap (λ (v : State g.row.D.Denot). length v.journal) c.opened.ensures))) based c.in-Ok-replay.ensures.told

pub returns-in-Err-replay-clause-told : goal.returns-in-Err-replay-clause-told
returns-in-Err-replay-clause-told g c =
    let found = told_then (g.S.Store.told c.args.store.now) (g.S.Store.told c.settle_all.new.store) (g.S.Store.told c.newest.new.store) _ (λ h n. Looked h n × FindsNewest (reads h) (Ok c.in-Ok-newest.generation)) (Found c.in-Ok-newest.generation)
    (λ h k n all next. newest_is c.in-Ok-newest.generation h k n (settled_below tt h k all) next) c.in-Ok.ensures.told (told_with (g.S.Store.told c.settle_all.new.store) (g.S.Store.told c.newest.new.store) Looked (λ h. FindsNewest (reads h) (Ok c.in-Ok-newest.generation)) c.in-Ok-newest.ensures.looked c.in-Ok-newest.ensures.finds) in
    let based = told_then (g.S.Store.told c.args.store.now) (g.S.Store.told c.newest.new.store) (g.S.Store.told c.read_base.new.store) (Found c.in-Ok-newest.generation)
    (λ h n. Looked h n × ((payload : List ℕ) → Newest (reads h) c.in-Ok-newest.generation payload → FindsBase g.D.Database.meaning c.in-Ok-newest.generation payload (Ok c.in-Ok-read_base.found))) (Based (form_of c.in-Ok-read_base.found.1) g.D.Database.meaning c.in-Ok-newest.generation c.in-Ok-read_base.found.0)
    (base_is g.D.Database.meaning c.in-Ok-newest.generation c.in-Ok-read_base.found.0 c.in-Ok-read_base.found.1) found
    (told_with (g.S.Store.told c.newest.new.store) (g.S.Store.told c.read_base.new.store) Looked (λ h. (payload : List ℕ) → Newest (reads h) c.in-Ok-newest.generation payload → FindsBase g.D.Database.meaning c.in-Ok-newest.generation payload (Ok c.in-Ok-read_base.found)) c.in-Ok-read_base.ensures.looked c.in-Ok-read_base.ensures.finds) in
    told_then (g.S.Store.told c.args.store.now) (g.S.Store.told c.read_base.new.store) (g.S.Store.told c.replay.new.store) (Based (form_of c.in-Ok-read_base.found.1) g.D.Database.meaning c.in-Ok-newest.generation c.in-Ok-read_base.found.0) _ _
    (λ h k n b replayed. not_replayed g.D.Database.meaning g.met.D.Database.is_meaning c.in-Ok-read_base.found.1 c.in-Ok-newest.generation c.log_file.result c.log_file.ensures.value c.in-Ok-read_base.found.0 c.replay.new.database h k n b c.in-Err-replay.refused replayed) based c.in-Err-replay.ensures.told
