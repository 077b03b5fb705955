use Rattle.std.proofs.Common.{rules, ◌≡◌, ◌≤◌, List, length, sym, ap, subst, ◌∙◌, arith}
use Rattle.std.specs.Vec.{vec_capacity}
use Rattle.entries.specs.declared.entry.Entry.{Entry}
use Rattle.inventory_rows.specs.pool_rows.PoolRows.{PoolRows}
use Rattle.inventory_rows.specs.State.{Inv}
use Rattle.inventory_rules.specs.Run.{journal_of}
use Rattle.run_past.specs.Told.{behind_all, journal_from}
use Rattle.kept_index.specs.Kept.{IsKeptOf}
use Rattle.hall.proofs.parts.Parts.begun.Goals as goal

pub invariant_of-result : goal.invariant_of-result
invariant_of-result c = (
  record {
    room = subst (λ (journal : List Entry). length journal ≤ vec_capacity c.new.result) (sym c.requires.0) (omega arith);
    behind = λ sure. subst (λ (journal : List Entry). c.args.vault.database ≡ behind_all c.in_ok-base.base journal) (sym c.requires.0) (search rules);
    tells = λ sure. subst (λ (journal : List Entry). journal_from c.new-3.result ≡ journal_of c.in_ok-base.base journal) (sym c.requires.0) c.new-3.ensures;
  },
  subst (λ (s : PoolRows). IsKeptOf c.of-index.result s c.new-space.result) (ap (λ (v : Inv). v.stores) (c.tables-3.ensures.value ∙ c.database-2.ensures)) c.of-index.ensures,
)
