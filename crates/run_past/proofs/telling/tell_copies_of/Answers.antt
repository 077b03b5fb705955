use Rattle.std.proofs.Common.{◌≡◌, ◌∙◌, true, ◌&&◌, ap, subst, sym, List, rules}
use Rattle.std.specs.BTreeMap.{is_at}
use Rattle.std.specs.List.{AllByRecursion, list_any}
use Rattle.std.specs.Option.{option_copied}
use Rattle.inventory_rows.specs.version_groups.declared.copies.CopyRow.{CopyRow}
use Rattle.run_past.specs.Telling.{copy_differs_in}
use Rattle.run_past.specs.Told.{has_key, now_or, pair_cmp, told_at}
use Rattle.run_past.proofs.Loops.{all_also, all_at, told_end, told_on}
use Rattle.run_past.proofs.telling.tell_copies_of.Goals as goal

pub copies-init : goal.copies-init
copies-init c = record {
  room = subst (AllByRecursion (λ (x : CopyRow). has_key (pair_cmp (c.args.old.now.object, x.pool)) c.args.map.now.entries ≡ true)) (sym c.as_slice-copies.ensures.value) c.requires;
  keeps = search rules;
  tells = search rules;
}

pub tell-requires : goal.tell-requires
tell-requires c = (all_at (λ (x : CopyRow). has_key (pair_cmp (c.args.old.now.object, x.pool)) c.copies.map.entries ≡ true) c.as_slice-copies.result.now c.copies.copy-index c.copy-item.result c.copies-test.true c.copy-item.is c.copies.invariant.room).0

pub copies-preserved : goal.copies-preserved
copies-preserved c = record {
  room = all_also (λ (x : CopyRow). has_key (pair_cmp (c.args.old.now.object, x.pool)) c.copies.map.entries ≡ true) (λ (x : CopyRow). has_key (pair_cmp (c.args.old.now.object, x.pool)) c.tell.new.map.entries ≡ true) (λ x has. c.tell.ensures.keeps (c.args.old.now.object, x.pool) ∙ has) _
      (all_at (λ (x : CopyRow). has_key (pair_cmp (c.args.old.now.object, x.pool)) c.copies.map.entries ≡ true) c.as_slice-copies.result.now c.copies.copy-index c.copy-item.result c.copies-test.true c.copy-item.is c.copies.invariant.room).1;
  keeps = λ q. c.tell.ensures.keeps q ∙ c.copies.invariant.keeps q;
  tells = λ q.
      told_on (λ (x : CopyRow). is_at (pair_cmp (c.args.old.now.object, x.pool)) q && copy_differs_in x.pool c.args.old.now (option_copied c.args.now)) c.as_slice-copies.result.now c.copies.copy-index c.copy-item.result c.args.number _ _ _ c.copies-test.true c.copy-item.is
      (c.tell.ensures.tells q ∙ ap (λ b. now_or (is_at (pair_cmp (c.args.old.now.object, c.copy-item.result.pool)) q && b) c.args.number (told_at (pair_cmp q) c.copies.map.entries)) (search rules)) (c.copies.invariant.tells q);
}

pub returns-clause-tells : goal.returns-clause-tells
returns-clause-tells c = λ q.
    subst (λ (l : List CopyRow). told_at (pair_cmp q) c.copies.map.entries ≡ now_or (list_any (λ (x : CopyRow). is_at (pair_cmp (c.args.old.now.object, x.pool)) q && copy_differs_in x.pool c.args.old.now (option_copied c.args.now)) l) c.args.number (told_at (pair_cmp q) c.args.map.now.entries)) c.as_slice-copies.ensures.value
    (told_end (λ (x : CopyRow). is_at (pair_cmp (c.args.old.now.object, x.pool)) q && copy_differs_in x.pool c.args.old.now (option_copied c.args.now)) c.as_slice-copies.result.now c.copies.copy-index c.args.number _ _ c.copies-test.false (c.copies.invariant.tells q))
