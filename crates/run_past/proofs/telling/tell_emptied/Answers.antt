use Rattle.std.proofs.Common.{◌≡◌, ◌∙◌, true, ◌&&◌, ap, rules}
use Rattle.inventory_rows.specs.State.{inv_of}
use Rattle.run_past.specs.Telling.{is_empty_now, is_path}
use Rattle.run_past.specs.Told.{has_path, now_or, told_of_path}
use Rattle.run_past.specs.declared.prepared.PathAt.{PathAt}
use Rattle.run_past.proofs.Loops.{all_also, all_at, told_end, told_on}
use Rattle.run_past.proofs.telling.tell_emptied.Goals as goal

pub tell-requires : goal.tell-requires
tell-requires c = (all_at (λ (x : PathAt). has_path x.filespace x.path c.paths.map.entries ≡ true) c.args.stood.now c.paths.path-index c.path-item.result c.paths-test.true c.path-item.is c.paths.invariant.room).0

pub paths-preserved : goal.paths-preserved
paths-preserved c = record {
  room = all_also (λ (x : PathAt). has_path x.filespace x.path c.paths.map.entries ≡ true) (λ (x : PathAt). has_path x.filespace x.path c.tell.new.map.entries ≡ true) (λ x has. c.tell.ensures.keeps x.filespace x.path ∙ has) _
      (all_at (λ (x : PathAt). has_path x.filespace x.path c.paths.map.entries ≡ true) c.args.stood.now c.paths.path-index c.path-item.result c.paths-test.true c.path-item.is c.paths.invariant.room).1;
  tells = λ f p.
      told_on (λ (x : PathAt). is_path f p x && is_empty_now x (inv_of c.args.tables.now)) c.args.stood.now c.paths.path-index c.path-item.result c.args.number _ _ _ c.paths-test.true c.path-item.is
      (c.tell.ensures.tells f p ∙ ap (λ b. now_or (is_path f p c.path-item.result && b) c.args.number (told_of_path f p c.paths.map.entries)) (search rules)) (c.paths.invariant.tells f p);
}

pub returns : goal.returns
returns c = λ f p. told_end (λ (x : PathAt). is_path f p x && is_empty_now x (inv_of c.args.tables.now)) c.args.stood.now c.paths.path-index c.args.number _ _ c.paths-test.false (c.paths.invariant.tells f p)
