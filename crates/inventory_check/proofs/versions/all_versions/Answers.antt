use Rattle.std.proofs.Common.{◌≡◌, Bool, true, false, ◌&&◌, sym, ap, ◌∙◌}
use Rattle.std.specs.List.{list_all}
use Rattle.inventory_rows.specs.version_groups.declared.versions.Version.{Version}
use Rattle.inventory_rows.specs.object_rows.Rows.{Rows, kept_of}
use Rattle.inventory_rows.specs.State.{inv_of}
use Rattle.inventory_check.specs.Asked.{all_in_filespaces, all_in_held, holds}
use Rattle.inventory_check.proofs.Walking.{all_of_kept}
use Rattle.inventory_check.proofs.versions.all_versions.Goals as goal

-- where those of the filespaces pass, all do if the held ones do
held_decide : (p : Version → Bool) (rows : Rows) → all_in_filespaces p rows.filespaces ≡ true → all_in_held p rows.held ≡ list_all p (kept_of rows)
held_decide p rows pass = sym (all_of_kept p rows ∙ ap (λ b. b && all_in_held p rows.held) pass)

one_fails : (p : Version → Bool) (rows : Rows) → all_in_filespaces p rows.filespaces ≡ false → false ≡ list_all p (kept_of rows)
one_fails p rows fail = sym (all_of_kept p rows ∙ ap (λ b. b && all_in_held p rows.held) fail)

pub returns-then-all_in_filespaces : goal.returns-then-all_in_filespaces
returns-then-all_in_filespaces c =
    let asked : Version → Bool = holds c.args.asked (inv_of c.args.tables.now) in
    c.all_in_held.ensures ∙ ap (all_in_held asked) c.held.ensures.value
    ∙ held_decide asked (inv_of c.args.tables.now).clients (sym (c.all_in_filespaces.ensures ∙ ap (all_in_filespaces asked) c.filespaces.ensures.value) ∙ c.if-all_in_filespaces.true)

pub returns-else-all_in_filespaces : goal.returns-else-all_in_filespaces
returns-else-all_in_filespaces c =
    let asked : Version → Bool = holds c.args.asked (inv_of c.args.tables.now) in
    c.if-all_in_filespaces.false
    ∙ one_fails asked (inv_of c.args.tables.now).clients (sym (c.all_in_filespaces.ensures ∙ ap (all_in_filespaces asked) c.filespaces.ensures.value) ∙ c.if-all_in_filespaces.false)
