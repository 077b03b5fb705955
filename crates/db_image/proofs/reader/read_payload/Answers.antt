use Rattle.std.proofs.Common.{◌≡◌, ◌≤◌, ◌-◌, ◌+◌, ◌++◌, min, ◌∙◌, ℕ, List, length, take, drop, ap, arith}
use Rattle.log_file.specs.Windows.{NoDamage}
use Rattle.log_file.proofs.Told.{looked_same, looked_then, reads_all, reads_both, reads_map, back_reads, onward_then}
use Rattle.db_image.proofs.Reading.{piece_more, refused_later}
use Rattle.db_image.proofs.reader.read_payload.Goals as goal

pub returns-in-Err-with_capacity-clause-looked : goal.returns-in-Err-with_capacity-clause-looked
returns-in-Err-with_capacity-clause-looked g c = looked_same (g.S.Store.told c.args.store.now)

pub returns-in-Err-with_capacity-clause-undamaged : goal.returns-in-Err-with_capacity-clause-undamaged
returns-in-Err-with_capacity-clause-undamaged g c = reads_all (g.S.Store.told c.args.store.now) c.args.file _ (λ bytes long. tt)

pub pieces-init : goal.pieces-init
pieces-init g c =
    record {
      within = omega arith;
      is = omega (arith, ap length c.in-Ok-with_capacity.ensures.items);
      room = c.in-Ok.ensures.room;
      looked = looked_same (g.S.Store.told c.args.store.now);
      bytes = reads_all (g.S.Store.told c.args.store.now) c.args.file _ (λ bytes long. c.in-Ok-with_capacity.ensures.items);
      onward = record { later = omega arith; time = omega arith; counts = λ file. omega arith };
    }

pub pieces-preserved : goal.pieces-preserved
pieces-preserved g c =
    let inv = c.pieces.invariant in
    let told = g.S.Store.told c.args.store.now in
    let mid = g.S.Store.told c.pieces.store in
    let file = c.args.file in
    let now : c.len-done.result ≡ length c.add_piece.new.payload.items = omega arith in
    let So_far : List ℕ → Type 0 = λ bytes. 24 + c.args.len ≤ length bytes → c.pieces.payload.items ≡ take c.pieces.done (drop 24 bytes) in
    let Adds : List ℕ → Type 0 = λ bytes. 24 + c.pieces.done + (c.args.len - c.pieces.done) ≤ length bytes → c.add_piece.new.payload.items ≡ c.pieces.payload.items ++ take (min (length c.pieces.buffer.items) (c.args.len - c.pieces.done)) (drop (24 + c.pieces.done) bytes) in
    let Then : List ℕ → Type 0 = λ bytes. 24 + c.args.len ≤ length bytes → c.add_piece.new.payload.items ≡ take c.len-done.result (drop 24 bytes) in
    record {
      within = omega (arith, now, inv.is, inv.within, c.in-Ok-add_piece.ensures.further);
      is = now;
      room = omega (arith, inv.room, c.add_piece.ensures.same);
      looked = looked_then told mid _ inv.looked c.add_piece.ensures.looked;
      bytes = reads_both told file So_far Adds Then
          (λ bytes was added long. piece_more bytes c.pieces.payload.items c.add_piece.new.payload.items c.pieces.done (length c.pieces.buffer.items) c.args.len c.len-done.result (was long) (added (omega (arith, long, inv.within))) inv.within long now)
          inv.bytes (back_reads told mid file Adds inv.looked c.in-Ok-add_piece.ensures.adds);
      onward = onward_then _ _ _ _ _ _ inv.onward c.add_piece.ensures.onward;
    }

pub returns-in-Err-add_piece-clause-looked : goal.returns-in-Err-add_piece-clause-looked
returns-in-Err-add_piece-clause-looked g c = looked_then _ _ _ c.pieces.invariant.looked c.add_piece.ensures.looked

pub returns-in-Err-add_piece-clause-undamaged : goal.returns-in-Err-add_piece-clause-undamaged
returns-in-Err-add_piece-clause-undamaged g c =
    let inv = c.pieces.invariant in
    let told = g.S.Store.told c.args.store.now in
    let mid = g.S.Store.told c.pieces.store in
    let Undamaged : List ℕ → Type 0 = λ bytes. 24 + c.pieces.done + (c.args.len - c.pieces.done) ≤ length bytes → NoDamage c.in-Err-add_piece.refused in
    reads_map told c.args.file Undamaged _ (λ bytes undamaged long. undamaged (omega (arith, long, inv.within))) (back_reads told mid c.args.file Undamaged inv.looked c.in-Err-add_piece.ensures.undamaged)

pub returns-in-Err-add_piece-clause-refused : goal.returns-in-Err-add_piece-clause-refused
returns-in-Err-add_piece-clause-refused g c = refused_later c.args.file (g.S.Store.faults_of c.args.store.now) (g.S.Store.faults_of c.pieces.store) (g.S.Store.faults_of c.add_piece.new.store) (g.S.Store.moment_of c.add_piece.new.store) c.in-Err-add_piece.refused c.pieces.invariant.onward.counts c.in-Err-add_piece.ensures.refused

pub returns-clause-bytes : goal.returns-clause-bytes
returns-clause-bytes g c =
    let done : c.pieces.done ≡ c.args.len = omega (arith, c.pieces.invariant.within) in
    reads_map (g.S.Store.told c.args.store.now) c.args.file _ _ (λ bytes was long. was long ∙ ap (λ n. take n (drop 24 bytes)) done) c.pieces.invariant.bytes

pub returns-clause-undamaged : goal.returns-clause-undamaged
returns-clause-undamaged g c = reads_all (g.S.Store.told c.args.store.now) c.args.file _ (λ bytes long. tt)
