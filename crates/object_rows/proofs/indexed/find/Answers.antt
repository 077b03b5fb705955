use Rattle.std.proofs.Common.{◌≡◌, Option, Some, None, sym, ap, ◌∙◌}
use Rattle.version_groups.specs.declared.groups.Filespace.{Filespace}
use Rattle.version_groups.specs.Groups as grouped
use Rattle.version_groups.specs.Versions.{version_of}
use Rattle.version_groups.proofs.Lists.{version_of-none}
use Rattle.object_rows.specs.Filespaces.{groups_in, versions_of}
use Rattle.object_rows.proofs.ByNumber.{found-there}
use Rattle.object_rows.proofs.Stands.{Stands, missing, stands}
use Rattle.object_rows.proofs.indexed.find.Goals as goal

pub returns-in-None : goal.returns-in-None
returns-in-None c =
    sym (version_of-none c.args.object (versions_of c.args.filespaces.now.entries)
    (missing c.args.object c.args.filespaces.now.entries (sym (c.requires.index.found c.args.object) ∙ sym c.in-None.ensures.value)))

pub returns-in-None-get : goal.returns-in-None-get
returns-in-None-get c =
    let s : Stands c.args.object c.in-Some.place.now c.args.filespaces.now.entries =
    stands c.args.object c.args.filespaces.now.entries c.in-Some.place.now c.requires.by_number c.requires.orderly (sym (c.requires.index.found c.args.object) ∙ sym c.in-Some.ensures.value) in
    let clash : None ≡ Some s.filespace = c.in-None-get.ensures.value ∙ s.there in
    absurd (cc)

pub returns-in-Some-get : goal.returns-in-Some-get
returns-in-Some-get c =
    c.find.ensures
    ∙ ap (λ (o : Option Filespace). version_of c.args.object (grouped.versions_at c.in-Some.place.now.path (groups_in o))) c.in-Some-get.ensures.value
    ∙ found-there c.args.object c.args.filespaces.now.entries c.in-Some.place.now
    (stands c.args.object c.args.filespaces.now.entries c.in-Some.place.now c.requires.by_number c.requires.orderly (sym (c.requires.index.found c.args.object) ∙ sym c.in-Some.ensures.value))
