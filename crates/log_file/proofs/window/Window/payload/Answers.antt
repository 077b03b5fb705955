use Rattle.std.proofs.Common.{◌≡◌, ◌+◌, ◌++◌, ◌∙◌, ℕ, List, ap, subst, arith}
use Rattle.log_file.specs.Cursor.{Shows}
use Rattle.log_file.specs.Windows.{IfReads, NoDamage, between}
use Rattle.log_file.proofs.Told.{back_reads, reads_both, reads_map, looked_then, onward_then}
use Rattle.log_file.proofs.Pieces.{between_join}
use Rattle.log_file.proofs.window.Window.payload.Goals as goal

pub pieces-preserved : goal.pieces-preserved
pieces-preserved g c =
    let inv = c.pieces.invariant in
    let told = g.S.Store.told c.args.store.now in
    let mid = g.S.Store.told c.pieces.store in
    let file = c.args.self.now.file in
    let Was : List ℕ → Type 0 = λ bytes. Shows bytes c.args.self.now → Shows bytes c.pieces.self in
    let So_far : List ℕ → Type 0 = λ bytes. Shows bytes c.args.self.now → c.pieces.payload.items ≡ between bytes (c.args.at + 5) c.pieces.place in
    let then_shows : IfReads mid file (λ bytes. Shows bytes c.pieces.self → Shows bytes c.add_piece.new.self) =
    subst (λ f. IfReads mid f (λ bytes. Shows bytes c.pieces.self → Shows bytes c.add_piece.new.self)) inv.file (reads_map mid c.pieces.self.file (λ bytes. Shows bytes c.pieces.self → Shows bytes c.add_piece.new.self × Unit {0}) (λ bytes. Shows bytes c.pieces.self → Shows bytes c.add_piece.new.self) (λ bytes f s. (f s).0) c.in-Ok-add_piece.ensures.shows) in
    let then_adds : IfReads mid file (λ bytes. Shows bytes c.pieces.self → c.add_piece.new.payload.items ≡ c.pieces.payload.items ++ between bytes c.pieces.place c.in-Ok-add_piece.further) =
    subst (λ f. IfReads mid f (λ bytes. Shows bytes c.pieces.self → c.add_piece.new.payload.items ≡ c.pieces.payload.items ++ between bytes c.pieces.place c.in-Ok-add_piece.further)) inv.file c.in-Ok-add_piece.ensures.adds in
    record {
      low = omega (arith, inv.low, c.in-Ok-add_piece.ensures.further.0);
      high = omega (arith, c.in-Ok-add_piece.ensures.further.1);
      end = inv.end;
      file = c.add_piece.ensures.same.0 ∙ inv.file;
      len = c.add_piece.ensures.same.1 ∙ inv.len;
      looked = looked_then told mid (g.S.Store.told c.add_piece.new.store) inv.looked c.add_piece.ensures.looked;
      shows = reads_both told file Was (λ bytes. Shows bytes c.pieces.self → Shows bytes c.add_piece.new.self) (λ bytes. Shows bytes c.args.self.now → Shows bytes c.add_piece.new.self) (λ bytes f h s. h (f s)) inv.shows (back_reads told mid file _ inv.looked then_shows);
      bytes = reads_both told file (λ bytes. Was bytes × So_far bytes) (λ bytes. Shows bytes c.pieces.self → c.add_piece.new.payload.items ≡ c.pieces.payload.items ++ between bytes c.pieces.place c.in-Ok-add_piece.further)
          (λ bytes. Shows bytes c.args.self.now → c.add_piece.new.payload.items ≡ between bytes (c.args.at + 5) c.in-Ok-add_piece.further)
          (λ bytes f h s. h (f.0 s) ∙ ap (λ (l : List ℕ). l ++ between bytes c.pieces.place c.in-Ok-add_piece.further) (f.1 s) ∙ between_join bytes (c.args.at + 5) c.pieces.place c.in-Ok-add_piece.further (omega (arith, inv.low)) (omega (arith, c.in-Ok-add_piece.ensures.further.0)))
          (reads_both told file Was So_far (λ bytes. Was bytes × So_far bytes) (λ bytes a b. (a, b)) inv.shows inv.bytes) (back_reads told mid file _ inv.looked then_adds);
      onward = onward_then _ _ _ _ _ _ inv.onward c.add_piece.ensures.onward;
    }

pub returns-in-Err-add_piece-clause-looked : goal.returns-in-Err-add_piece-clause-looked
returns-in-Err-add_piece-clause-looked g c = looked_then (g.S.Store.told c.args.store.now) (g.S.Store.told c.pieces.store) (g.S.Store.told c.add_piece.new.store) c.pieces.invariant.looked c.add_piece.ensures.looked

pub returns-in-Err-add_piece-clause-shows : goal.returns-in-Err-add_piece-clause-shows
returns-in-Err-add_piece-clause-shows g c =
    let inv = c.pieces.invariant in
    let told = g.S.Store.told c.args.store.now in
    let mid = g.S.Store.told c.pieces.store in
    let file = c.args.self.now.file in
    let then_shows : IfReads mid file (λ bytes. Shows bytes c.pieces.self → Shows bytes c.add_piece.new.self × NoDamage c.in-Err-add_piece.refused) =
    subst (λ f. IfReads mid f (λ bytes. Shows bytes c.pieces.self → Shows bytes c.add_piece.new.self × NoDamage c.in-Err-add_piece.refused)) inv.file c.in-Err-add_piece.ensures.shows in
    reads_both told file (λ bytes. Shows bytes c.args.self.now → Shows bytes c.pieces.self) (λ bytes. Shows bytes c.pieces.self → Shows bytes c.add_piece.new.self × NoDamage c.in-Err-add_piece.refused) (λ bytes. Shows bytes c.args.self.now → Shows bytes c.add_piece.new.self × NoDamage c.in-Err-add_piece.refused) (λ bytes f h s. h (f s)) inv.shows (back_reads told mid file _ inv.looked then_shows)
