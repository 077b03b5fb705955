use Rattle.std.proofs.Common.{◌≡◌, ◌∙◌, ap, refl, subst, sym, true}
use Rattle.inventory_rows.specs.State.{inv_of}
use Rattle.inventory_rows.specs.pool_tables.Rows.{row_at}
use Rattle.inventory_rules.specs.Valid.{is_valid}
use Rattle.hall.specs.Copying.{IsCopyOf}
use Rattle.hall.specs.Held.{Held}
use Rattle.hall.proofs.PieceCopying.{copy_brief, copy_did, copy_pieces, copy_time, seat_that}
use Rattle.hall.proofs.parts.Parts.copy_through.Goals as goal

pub copy_any-copied-requires-clause-pieces : goal.copy_any-copied-requires-clause-pieces
copy_any-copied-requires-clause-pieces g c =
    let v = c.args.self.now.vault.database in
    let same = c.tables-tables.ensures.value ∙ c.database.ensures ∙ ap (λ (h : Held). h.vault.database) c.self.view_is in
    let seat = c.in-Some.ensures.value ∙ ap (λ (h : Held). row_at c.args.number h.seats) c.self.view_is in
    let it = seat_that (IsCopyOf v) (row_at c.args.number c.args.self.now.seats) c.in-Some.seat.now c.requires.there seat in
    let valid = subst (λ x. is_valid x ≡ true) (sym c.tables-tables.ensures.value) c.tables-tables.ensures.valid in
    copy_pieces v (inv_of c.tables-tables.result.now) c.in-Some.seat.now c.in-Some-find.version.now c.object.result c.piece_length-count.result c.args.buffer.now c.as_slice-copies.result.now it same valid
    c.object.ensures c.in-Some-find.ensures.value c.piece_length-count.ensures c.requires.room c.as_slice-copies.ensures.value

pub copy_any-copied-requires-clause-time : goal.copy_any-copied-requires-clause-time
copy_any-copied-requires-clause-time g c =
    let v = c.args.self.now.vault.database in
    let same = c.tables-tables.ensures.value ∙ c.database.ensures ∙ ap (λ (h : Held). h.vault.database) c.self.view_is in
    let seat = c.in-Some.ensures.value ∙ ap (λ (h : Held). row_at c.args.number h.seats) c.self.view_is in
    let it = seat_that (IsCopyOf v) (row_at c.args.number c.args.self.now.seats) c.in-Some.seat.now c.requires.there seat in
    let valid = subst (λ x. is_valid x ≡ true) (sym c.tables-tables.ensures.value) c.tables-tables.ensures.valid in
    copy_time v (inv_of c.tables-tables.result.now) c.in-Some.seat.now c.in-Some-find.version.now c.object.result c.piece_length-count.result c.args.buffer.now c.as_slice-copies.result.now it same valid
    c.object.ensures c.in-Some-find.ensures.value c.piece_length-count.ensures c.requires.room c.as_slice-copies.ensures.value (g.S.Store.moment_of c.args.store.now) c.requires.time

pub returns-clause-did : goal.returns-clause-did
returns-clause-did g c =
    let v = c.args.self.now.vault.database in
    let same = c.tables-tables.ensures.value ∙ c.database.ensures ∙ ap (λ (h : Held). h.vault.database) c.self.view_is in
    let seat = c.in-Some.ensures.value ∙ ap (λ (h : Held). row_at c.args.number h.seats) c.self.view_is in
    let it = seat_that (IsCopyOf v) (row_at c.args.number c.args.self.now.seats) c.in-Some.seat.now c.requires.there seat in
    let valid = subst (λ x. is_valid x ≡ true) (sym c.tables-tables.ensures.value) c.tables-tables.ensures.valid in
    copy_did v (inv_of c.tables-tables.result.now) c.in-Some.seat.now c.in-Some-find.version.now c.object.result c.piece_length-count.result c.args.buffer.now c.as_slice-copies.result.now it same valid
    c.object.ensures c.in-Some-find.ensures.value c.piece_length-count.ensures c.requires.room c.as_slice-copies.ensures.value g.S.Store.told g.S.Store.moment_of
    g.S.Store.faults_of c.args.number c.args.self.now c.copied.new.self c.args.store.now c.copy_any-copied.new.store c.copy_any-copied.result c.copied.result c.copy_any-copied.new.into refl seat
    c.copy_any-copied.ensures.len c.copy_any-copied.ensures.calls c.copy_any-copied.ensures.ends
    c.copied.ensures

pub returns-clause-brief : goal.returns-clause-brief
returns-clause-brief g c =
    let v = c.args.self.now.vault.database in
    let same = c.tables-tables.ensures.value ∙ c.database.ensures ∙ ap (λ (h : Held). h.vault.database) c.self.view_is in
    let seat = c.in-Some.ensures.value ∙ ap (λ (h : Held). row_at c.args.number h.seats) c.self.view_is in
    let it = seat_that (IsCopyOf v) (row_at c.args.number c.args.self.now.seats) c.in-Some.seat.now c.requires.there seat in
    let valid = subst (λ x. is_valid x ≡ true) (sym c.tables-tables.ensures.value) c.tables-tables.ensures.valid in
    copy_brief v (inv_of c.tables-tables.result.now) c.in-Some.seat.now c.in-Some-find.version.now c.object.result c.piece_length-count.result c.args.buffer.now c.as_slice-copies.result.now it same valid
    c.object.ensures c.in-Some-find.ensures.value c.piece_length-count.ensures c.requires.room c.as_slice-copies.ensures.value (g.S.Store.moment_of c.args.store.now)
    (g.S.Store.moment_of c.copy_any-copied.new.store) c.copy_any-copied.result c.copy_any-copied.ensures.brief
