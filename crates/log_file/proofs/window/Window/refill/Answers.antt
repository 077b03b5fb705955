use Rattle.std.proofs.Common.{◌∙◌, ap, subst}
use Rattle.store_api.specs.Told.{ReadsFrom}
use Rattle.log_file.specs.Cursor.{Held}
use Rattle.log_file.specs.Windows.{IfReads}
use Rattle.log_file.proofs.Told.{reads_map}
use Rattle.log_file.proofs.Pieces.{read_shows}
use Rattle.log_file.proofs.window.Window.refill.Goals as goal

pub returns-else-have-need-clause-shows : goal.returns-else-have-need-clause-shows
returns-else-have-need-clause-shows g c =
    reads_map (g.S.Store.told c.args.store.now) c.args.self.now.file (λ bytes. ReadsFrom bytes c.args.at c.read_buffer.new.into.items c.in-Ok.read) _ (λ bytes r shows.
    let lens = ap (λ (h : Held). h.len) c.self.view_is ∙ shows.len in
    (read_shows bytes c.self.inside.file c.self.inside.len c.args.at c.min-have.result c.in-Ok.read c.read_buffer.new.into.items lens r c.in-Ok.ensures.bound c.min-have.ensures, tt))
    (subst (λ f. IfReads (g.S.Store.told c.args.store.now) f (λ bytes. ReadsFrom bytes c.args.at c.read_buffer.new.into.items c.in-Ok.read)) (ap (λ (h : Held). h.file) c.self.view_is) c.in-Ok.ensures.bytes)
