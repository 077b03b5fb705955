use Rattle.std.proofs.Common.{◌≡◌, ◌-◌, ◌∙◌, length, take, drop, ap, sym, arith}
use Rattle.log_file.specs.Cursor.{Held, Shows}
use Rattle.log_file.specs.Windows.{HeadIs}
use Rattle.log_file.proofs.Told.{reads_map}
use Rattle.log_file.proofs.Pieces.{part_shown, head_is}
use Rattle.log_file.proofs.window.Window.head.Goals as goal

pub returns-in-Ok-clause-shows : goal.returns-in-Ok-clause-shows
returns-in-Ok-clause-shows g c =
    reads_map (g.S.Store.told c.args.store.now) c.args.self.now.file (λ bytes. Shows bytes c.args.self.now → Shows bytes c.fill.new.self × Unit {0}) (λ bytes. Shows bytes c.args.self.now → Shows bytes c.fill.new.self × HeadIs bytes c.args.at c.read_head.result) (λ bytes f shows.
    let held = c.fill.new.self in
    let now_shows : Shows bytes held = (f shows).0 in
    let lens : c.self.inside.len ≡ length bytes = ap (λ (h : Held). h.len) c.self.view_is ∙ shows.len in
    let front = part_shown bytes held.piece held.from c.args.at c.min-need.result now_shows.piece c.in-Ok.ensures.covers.0 (omega (arith, c.in-Ok.ensures.covers.1)) in
    let own : c.shown.result.now ≡ take (length c.shown.result.now) (drop c.args.at bytes) = c.shown.ensures.bytes ∙ front ∙ ap (λ n. take n (drop c.args.at bytes)) (ap length (sym c.shown.ensures.bytes)) in (
      now_shows,
      head_is bytes c.shown.result.now c.self.inside.file c.args.at (c.self.inside.len - c.args.at) c.read_head.result (omega (arith, lens)) (ap (λ n. n - c.args.at) lens) (omega arith)
          (omega (arith, c.shown.ensures.len, c.min-need.ensures, c.in-Ok.ensures.covers.0, c.in-Ok.ensures.covers.1)) own c.read_head.ensures.head c.read_head.ensures.file c.read_head.ensures.within,
    )) c.in-Ok.ensures.shows
