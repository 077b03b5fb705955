use Rattle.std.proofs.Common.{◌≡◌, ◌+◌, ◌-◌, ◌++◌, ◌∙◌, ℕ, List, length, take, drop, ap, sym, arith}
use Rattle.log_file.specs.Cursor.{Shows}
use Rattle.log_file.specs.Windows.{between}
use Rattle.log_file.proofs.Told.{reads_map}
use Rattle.log_file.proofs.Pieces.{part_shown}
use Rattle.log_file.proofs.window.Window.add_piece.Goals as goal

pub returns-in-Ok-extend_from_slice-clause-adds : goal.returns-in-Ok-extend_from_slice-clause-adds
returns-in-Ok-extend_from_slice-clause-adds g c =
    reads_map (g.S.Store.told c.args.store.now) c.args.self.now.file (λ bytes. Shows bytes c.args.self.now → Shows bytes c.fill.new.self × Unit {0}) (λ bytes. Shows bytes c.args.self.now → c.extend_from_slice.new.self.items ≡ c.args.payload.now.items ++ between bytes c.args.at (c.args.at + length c.shown-piece.result.now)) (λ bytes f shows.
    let held = c.fill.new.self in
    let now_shows : Shows bytes held = (f shows).0 in
    let piece = c.shown-piece.result.now in
    let front = part_shown bytes held.piece held.from c.args.at (c.args.end - c.args.at) now_shows.piece c.in-Ok.ensures.covers.0 (omega (arith, c.in-Ok.ensures.covers.1)) in
    let own : piece ≡ take (length piece) (drop c.args.at bytes) = c.shown-piece.ensures.bytes ∙ front ∙ ap (λ n. take n (drop c.args.at bytes)) (ap length (sym c.shown-piece.ensures.bytes)) in
    c.in-Ok-extend_from_slice.ensures.items ∙ ap (λ (l : List ℕ). c.args.payload.now.items ++ l) (own ∙ ap (λ n. take n (drop c.args.at bytes)) (let e : length piece ≡ c.args.at + length piece - c.args.at = omega arith in e))) c.in-Ok.ensures.shows
