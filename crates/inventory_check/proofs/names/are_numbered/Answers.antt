use Rattle.std.proofs.Common.{Bool, ◌&&◌, ◌++◌, map, sym, ap, subst, ℕ}
use Rattle.std.specs.Map.{keys_of}
use Rattle.kinds.specs.Answers.{AnswersBy}
use Rattle.inventory_rows.specs.declared.backup.Backup.{Backup}
use Rattle.inventory_rules.specs.Valid.{are_apart}
use Rattle.inventory_check.proofs.names.are_numbered.Goals as goal

pub returns : goal.returns
returns c =
    let rest : Bool = are_apart (keys_of c.args.tables.now.pools.volumes ++ keys_of c.args.tables.now.backups.entries) && are_apart (map (λ (b : ℕ × Backup). b.1.number) c.args.tables.now.backups.entries) in
    subst (λ (said : Bool). AnswersBy (λ (b : Bool). b) c.numbers_apart.result said) (sym (ap (λ b. b && rest) c.filespaces.ensures.sound.objects)) c.numbers_apart.ensures
