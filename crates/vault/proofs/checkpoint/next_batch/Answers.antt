use Rattle.std.proofs.Common.{rules, inl, inr, ℕ, List, sym, subst, arith}
use Rattle.log_file.specs.Blocks.{Fits}
use Rattle.vault.proofs.Piecing.{batch_more}
use Rattle.vault.proofs.checkpoint.next_batch.Goals.{else-place-from-via-then-place-from+else-saturating_add-gt-PIECE, else-place-from-via-else-place-from}
use Rattle.vault.proofs.checkpoint.next_batch.Goals as goal

pub entries-preserved : goal.entries-preserved
entries-preserved c =
    let inv = c.entries.invariant in
    let fits : Fits c.in-Ok-frame_entry.framed = subst (λ (l : List ℕ). Fits l) (sym c.in-Ok-frame_entry.ensures.framed) c.in-Ok-frame_entry.ensures.short in
    let more = batch_more c.args.journal.now c.args.from c.entries.place c.index-journal-place.result c.entries.batch c.add.new.self c.in-Ok-frame_entry.framed inv.from c.entries-test.true (search rules) c.in-Ok-frame_entry.ensures.framed fits c.in-Ok-add.ensures.ok inv.batch inv.fits in
    record {
      batch = more.0;
      fits = more.1;
      from = omega (arith, inv.from);
      within = omega (arith, c.entries-test.true);
      few = elim c.else-place-from.branch [
        | else-place-from-via-then-place-from+else-saturating_add-gt-PIECE w ↦ inl (omega (arith, more.2, w.if-saturating_add-gt-PIECE.false, w.saturating_add.ensures, w.len.ensures, w.len-then-place-from.ensures))
        | else-place-from-via-else-place-from w ↦ inr (omega (arith, inv.from, w.if-place-from.false))
      ];
    }
