use Rattle.std.proofs.Common.{◌∙◌, ◌&&◌, ap, sym}
use Rattle.std.specs.BTreeMap.{is_at}
use Rattle.std.specs.Cmp.Lexicographic.{slice_cmp}
use Rattle.std.specs.Ordering.{nat_cmp}
use Rattle.run_past.specs.Told.{has_key, has_path, now_or, told_at, told_of_path}
use Rattle.run_past.proofs.Paths.{has_same, path_told}
use Rattle.run_past.proofs.emptied.tell.Goals as goal

pub returns-in-Some-clause-tells : goal.returns-in-Some-clause-tells
returns-in-Some-clause-tells c = λ f p.
    ap (told_of_path f p) (c.get_mut.follows.holds c.tell.new.map.entries).0
    ∙ path_told f p c.args.at.now c.args.did c.args.number c.args.map.now.entries c.in-Some.emptied.now c.tell.new.map.entries (sym c.in-Some.ensures.value)
    (λ q. c.tell.ensures.tells q ∙ ap (λ t. now_or (is_at (slice_cmp nat_cmp c.args.at.now.path) q && c.args.did) c.args.number (told_at (slice_cmp nat_cmp q) t)) c.emptied.view_is)

pub returns-in-Some-clause-keeps : goal.returns-in-Some-clause-keeps
returns-in-Some-clause-keeps c = λ f p.
    ap (has_path f p) (c.get_mut.follows.holds c.tell.new.map.entries).0
    ∙ has_same c.args.at.now.filespace f p c.args.map.now.entries c.in-Some.emptied.now c.tell.new.map.entries (sym c.in-Some.ensures.value) (λ q. c.tell.ensures.keeps q ∙ ap (has_key (slice_cmp nat_cmp q)) c.emptied.view_is)
