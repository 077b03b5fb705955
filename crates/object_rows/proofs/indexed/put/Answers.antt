use Rattle.std.proofs.Common.{ℕ, List, cond, Some, sym, ap, subst, ◌∙◌}
use Rattle.std.specs.Map.{lookup}
use Rattle.object_rows.specs.Filespaces.{at_number, versions_at, versions_of}
use Rattle.object_rows.specs.Places.{Indexed}
use Rattle.object_rows.proofs.Kept.{indexed_put, indexed_back}
use Rattle.object_rows.proofs.Steps.{versions-within}
use Rattle.object_rows.proofs.VersionLists.{has-part}
use Rattle.object_rows.proofs.indexed.put.Goals as goal

pub put-requires : goal.put-requires
put-requires c =
    has-part c.args.version.object (versions_at c.args.number c.args.path.now c.args.filespaces.now.entries) (versions_at c.args.number c.args.path.now c.args.filespaces.now.entries) (versions_of c.args.filespaces.now.entries) (versions_of c.args.filespaces.now.entries)
    (versions-within c.args.number c.args.path.now c.args.filespaces.now.entries) c.requires.new

pub returns-in-Ok-clause-indexed : goal.returns-in-Ok-clause-indexed
returns-in-Ok-clause-indexed c =
    indexed_put c.args.places.now.entries c.insert.new.self.entries c.args.number c.args.path.now c.args.class c.args.version c.args.filespaces.now.entries c.put.new.map.entries c.requires.indexed c.requires.new c.in-Ok.ensures.value
    (c.in-Ok.ensures.orderly c.requires.indexed.orderly)
    (λ q. c.in_ok-insert.ensures.updates.0 q ∙ ap (λ (p : List ℕ). cond (at_number c.args.version.object q) (Some (record { filespace = c.args.number; path = p })) (lookup (at_number q) c.args.places.now.entries)) c.in_ok-clone.ensures.cases)
    c.in_ok-insert.field-0 c.in_ok-insert.ensures.old c.in_ok-insert.ensures.len

pub returns-in-Err-clause-indexed : goal.returns-in-Err-clause-indexed
returns-in-Err-clause-indexed c =
    subst (Indexed c.remove.new.self.entries) (sym c.in-Err.ensures.value.0)
    (indexed_back c.args.places.now.entries c.insert.new.self.entries c.remove.new.self.entries c.args.version.object (record { filespace = c.args.number; path = c.in_ok-clone.field-0 }) c.args.filespaces.now.entries c.requires.indexed c.requires.new
    (λ q. c.in_ok-insert.ensures.updates.0 q)
    c.in_ok-insert.field-0 c.in_ok-insert.ensures.old c.in_ok-insert.ensures.len
    (λ q. c.remove.ensures.updates.0 q) c.remove.result c.remove.ensures.value c.remove.ensures.len)
