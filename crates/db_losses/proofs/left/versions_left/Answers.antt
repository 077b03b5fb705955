use Rattle.std.proofs.Common.{◌+◌, ◌∙◌, ◌∷◌, [], ◌++◌, List, ap, append-nil, append_assoc, drop, sym}
use Rattle.std.proofs.lemmas.List.{drop_all}
use Rattle.inventory_rows.specs.version_groups.declared.versions.Version.{Version}
use Rattle.inventory_effects.proofs.Loops.{split_item}
use Rattle.db_losses.specs.Losses.{versions_left}
use Rattle.db_losses.proofs.Flat.{left_joined}
use Rattle.db_losses.proofs.left.versions_left.Goals as goal

pub versions-preserved : goal.versions-preserved
versions-preserved c =
    let losses = c.args.losses.now in
    let vs = c.args.versions.now in
    let i = c.versions.version-index in
    let x = c.version-item.result in
    let out = c.versions.out.items in
    ap (λ (l : List Version). l ++ versions_left losses (drop (i + 1) vs)) c.in_ok-put_version.ensures.put
    ∙ append_assoc out (versions_left losses (x ∷ [])) (versions_left losses (drop (i + 1) vs))
    ∙ ap (λ (l : List Version). out ++ l) (sym (left_joined losses (x ∷ []) (drop (i + 1) vs)))
    ∙ ap (λ (l : List Version). out ++ versions_left losses l) (sym (split_item vs i x c.versions-test.true c.version-item.is)) ∙ c.versions.invariant

pub returns : goal.returns
returns c =
    let vs = c.args.versions.now in
    sym (append-nil c.versions.out.items) ∙ ap (λ (l : List Version). c.versions.out.items ++ versions_left c.args.losses.now l) (sym (drop_all c.versions.version-index vs c.versions-test.false)) ∙ c.versions.invariant
