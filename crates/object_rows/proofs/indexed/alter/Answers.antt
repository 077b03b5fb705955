use Rattle.std.proofs.Common.{ℕ, List, Result, sym, subst, ◌∙◌}
use Rattle.std.specs.Bool.{IsTrue}
use Rattle.version_groups.specs.kinds.declared.refusal.Refusal.{Refusal}
use Rattle.version_groups.specs.declared.copies.CopyRow.{CopyRow}
use Rattle.version_groups.specs.declared.groups.Filespace.{Filespace}
use Rattle.version_groups.specs.Copies.{Alters, takes_free_pool}
use Rattle.object_rows.specs.Filespaces.{filespaces_altered_at}
use Rattle.object_rows.proofs.ByNumber.{altered-at, altered-missing, copies-there}
use Rattle.object_rows.proofs.Counts.{distinct_there}
use Rattle.object_rows.proofs.Kept.{indexed_alter}
use Rattle.object_rows.proofs.Answered.{altered}
use Rattle.object_rows.proofs.Stands.{distinct-listed, missing, stands}
use Rattle.object_rows.proofs.indexed.alter.Goals as goal

pub alter-requires : goal.alter-requires
alter-requires c =
    subst (λ (copies : List CopyRow). IsTrue (takes_free_pool c.args.change copies))
    (sym (copies-there c.args.object c.args.filespaces.now.entries c.in-Some.place.now
    (stands c.args.object c.args.filespaces.now.entries c.in-Some.place.now c.requires.indexed.by_number c.requires.indexed.orderly (sym (c.requires.indexed.index.found c.args.object) ∙ sym c.in-Some.ensures.value))))
    c.requires.free

pub returns-in-None-clause-value : goal.returns-in-None-clause-value
returns-in-None-clause-value c =
    altered-missing (Unit {0}) c.args.object c.args.change c.args.filespaces.now.entries
    (missing c.args.object c.args.filespaces.now.entries (sym (c.requires.indexed.index.found c.args.object) ∙ sym c.in-None.ensures.value))

pub returns-in-Some-clause-value : goal.returns-in-Some-clause-value
returns-in-Some-clause-value c =
    subst (λ (said : Result (List (ℕ × Filespace)) Refusal). Alters c.args.change c.alter.result c.args.filespaces.now.entries c.alter.new.map.entries said)
    (altered-at c.args.object c.args.change c.args.filespaces.now.entries c.in-Some.place.now (distinct-listed c.args.filespaces.now.entries c.requires.indexed.index.distinct)
    (stands c.args.object c.args.filespaces.now.entries c.in-Some.place.now c.requires.indexed.by_number c.requires.indexed.orderly (sym (c.requires.indexed.index.found c.args.object) ∙ sym c.in-Some.ensures.value)))
    c.alter.ensures.value

pub returns-in-Some-clause-indexed : goal.returns-in-Some-clause-indexed
returns-in-Some-clause-indexed c =
    indexed_alter c.args.places.now.entries c.in-Some.place.now.filespace c.in-Some.place.now.path c.args.object c.args.change c.args.filespaces.now.entries c.alter.new.map.entries c.requires.indexed
    (altered c.args.change c.alter.result c.args.filespaces.now.entries c.alter.new.map.entries (filespaces_altered_at c.in-Some.place.now.filespace c.in-Some.place.now.path c.args.object c.args.change c.args.filespaces.now.entries) c.alter.ensures.value)
    (c.alter.ensures.orderly c.requires.indexed.orderly)

pub returns-in-Some-clause-counted : goal.returns-in-Some-clause-counted
returns-in-Some-clause-counted c =
    c.alter.ensures.counted (distinct_there c.args.places.now.entries c.in-Some.place.now.filespace c.in-Some.place.now.path c.args.filespaces.now.entries c.requires.indexed) c.requires.counted
