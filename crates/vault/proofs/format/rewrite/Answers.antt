-- That the image written is of the next generation, and of the vault's database, is looked up in what the calls say.
use Rattle.std.proofs.Common.{◌≡◌, ◌+◌, ℕ, length, Result, Ok, Err, sym, ◌∙◌, ap, subst}
use Rattle.store_api.proofs.Runs.{told_map}
use Rattle.log_file.specs.declared.writer.Log.{Log}
use Rattle.log_file.specs.Sure as log
use Rattle.fields.specs.Editions.{second_form}
use Rattle.vault.specs.Images.{Replaced}
use Rattle.vault.specs.Vaults.{State}
use Rattle.vault.proofs.Rewriting.{told_none_rewritten, not_rewritten, is_rewritten}
use Rattle.vault.proofs.format.rewrite.Goals as goal

pub returns-in-Err-clause-told : goal.returns-in-Err-clause-told
returns-in-Err-clause-told g c = told_none_rewritten g.D.Database.meaning c.args.vault (g.S.Store.told c.args.store.now) _

pub returns-in-Err-encode-clause-told : goal.returns-in-Err-encode-clause-told
returns-in-Err-encode-clause-told g c = told_none_rewritten g.D.Database.meaning c.args.vault (g.S.Store.told c.args.store.now) _

pub returns-in-Ok-put_generation-clause-told : goal.returns-in-Ok-put_generation-clause-told
returns-in-Ok-put_generation-clause-told g c =
    let m = g.D.Database.meaning in
    let vault = c.args.vault in
    let payload = c.in-Ok-encode.payload.items in
    let valid : m.Valid second_form vault.database = subst (λ (d : g.row.D.Denot). m.Valid second_form d) c.database.ensures c.encode.ensures.valid in
    let spelled : payload ≡ m.spelled second_form vault.database = subst (λ (d : g.row.D.Denot). payload ≡ m.spelled second_form d) c.database.ensures c.in-Ok-encode.ensures.spelled in
    let opened = c.opened.ensures in
    let made = c.in-Ok-put_generation.ensures.log in
    told_map _ _ _ _ (λ h n replaced.
    is_rewritten m vault g.met.D.Database.is_meaning payload valid spelled h n c.opened.result c.in-Ok-put_generation.log c.requires.number
    (ap (λ (v : State g.row.D.Denot). v.generation) opened ∙ ap (λ (k : ℕ). k + 1) c.generation-generation.ensures)
    (ap (λ (v : State g.row.D.Denot). v.database) opened ∙ c.into_database.ensures)
    (ap (λ (v : State g.row.D.Denot). v.end) opened ∙ ap (λ (l : log.State). l.end) made)
    (ap (λ (v : State g.row.D.Denot). v.sure) opened ∙ ap (λ (l : log.State). l.sure) made ∙ sym (ap (λ (v : State g.row.D.Denot). v.end) opened ∙ ap (λ (l : log.State). l.end) made))
    (ap (λ (v : State g.row.D.Denot). v.forced) opened ∙ sym (ap (λ (v : State g.row.D.Denot). length v.journal) opened))
    (subst (λ (k : ℕ). let put : Result Log ℕ = Ok c.in-Ok-put_generation.log in Replaced (k + 1) payload put h n) c.generation-generation.ensures replaced)) c.in-Ok-put_generation.ensures.told

pub returns-in-Err-put_generation-clause-told : goal.returns-in-Err-put_generation-clause-told
returns-in-Err-put_generation-clause-told g c =
    let m = g.D.Database.meaning in
    let vault = c.args.vault in
    let payload = c.in-Ok-encode.payload.items in
    let valid : m.Valid second_form vault.database = subst (λ (d : g.row.D.Denot). m.Valid second_form d) c.database.ensures c.encode.ensures.valid in
    let spelled : payload ≡ m.spelled second_form vault.database = subst (λ (d : g.row.D.Denot). payload ≡ m.spelled second_form d) c.database.ensures c.in-Ok-encode.ensures.spelled in
    told_map _ _ _ _ (λ h n replaced. not_rewritten m vault g.met.D.Database.is_meaning payload valid spelled h n _ c.in-Err-put_generation.file
    (subst (λ (k : ℕ). let put : Result Log ℕ = Err c.in-Err-put_generation.file in Replaced (k + 1) payload put h n) c.generation-generation.ensures replaced)) c.in-Err-put_generation.ensures.told
