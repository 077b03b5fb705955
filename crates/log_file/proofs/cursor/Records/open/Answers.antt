use Rattle.std.proofs.Common.{◌≡◌, length, refl}
use Rattle.store_api.specs.Disk.{reads}
use Rattle.store_api.proofs.Runs.{told_then}
use Rattle.log_file.specs.Cursor.{Looked}
use Rattle.log_file.proofs.Told.{told_reads}
use Rattle.log_file.proofs.Opening.{not_opened, opened_ok}
use Rattle.log_file.proofs.cursor.Records.open.Goals as goal

pub returns-in_err-len-clause-told : goal.returns-in_err-len-clause-told
returns-in_err-len-clause-told g c =
    told_then _ _ _ _ _ _ (not_opened c.args.file c.from_residual-in_err-len.result c.from_residual-in_err-len.ensures.0 c.in_ok-settle.field-0) c.in_ok-settle.ensures.told c.file_len.ensures.looked

pub returns-in_err-window-clause-told : goal.returns-in_err-window-clause-told
returns-in_err-window-clause-told g c =
    told_then _ _ _ _ _ _ (not_opened c.args.file c.from_residual-in_err-window.result c.from_residual-in_err-window.ensures.0 c.in_ok-settle.field-0) c.in_ok-settle.ensures.told c.file_len.ensures.looked

pub returns-clause-told : goal.returns-clause-told
returns-clause-told g c =
    told_then _ _ _ _ _ _ (opened_ok c.args.file c.in_ok-len.len c.in_ok-settle.field-0 c.in_ok-window.window _ c.in_ok-window.ensures refl c.in_ok-len.ensures.len.0) c.in_ok-settle.ensures.told
    (told_reads (g.S.Store.told c.settle.new.store) (g.S.Store.told c.file_len.new.store) c.args.file (λ bytes. c.in_ok-len.len ≡ length bytes) Looked (λ mid new. Looked mid new × (c.in_ok-len.len ≡ length (reads mid c.args.file))) (λ mid new looked long. (looked, long)) c.in_ok-len.ensures.looked c.in_ok-len.ensures.len.1)
