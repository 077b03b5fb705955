use Rattle.std.proofs.Common.{◌≡◌, rules, sym, ap, ◌∙◌, subst}
use Rattle.crossbeam_utils.specs.Seq.{cell_view}
use Rattle.crew.specs.Knowing.{Knows, acting, both, told_all, told_own}
use Rattle.crew.proofs.Keeping.{cuts_as, joins_as, tells_as}
use Rattle.crew.proofs.known.tell_turn.Goals as goal

pub split_pass-moved-requires : goal.split_pass-moved-requires
split_pass-moved-requires g c = (search rules, (search rules, (c.requires.own, cuts_as _ _ c.requires.acts)))

pub join_pass-requires : goal.join_pass-requires
join_pass-requires g c =
    let m = c.split_pass-moved.ensures in (
      search rules,
      (
        search rules,
        (
          (c.requires.cell, m.given.0 ∙ c.requires.own ∙ sym c.requires.cell, m.given.2),
          joins_as _ _ _ _ c.requires.keeps (subst (λ (x : Knows). x ≡ acting x.actor x.mine) (sym m.given.1) c.requires.acts),
        ),
      ),
    )

pub split_pass-fresh-requires : goal.split_pass-fresh-requires
split_pass-fresh-requires g c =
    let m = c.split_pass-moved.ensures in
    let j = c.join_pass.ensures in
    (search rules, (search rules, (j.0.0 ∙ c.requires.cell, tells_as _ _ _ _ _ _ _ (j.1 ∙ (λ i. both (c.requires.keeps i) ((m.given.1 ∙ c.requires.acts) i))))))

pub returns-clause-keeps : goal.returns-clause-keeps
returns-clause-keeps g c =
    let m = c.split_pass-moved.ensures in
    let j = c.join_pass.ensures in
    let s = c.split_pass-fresh.ensures in
    (s.kept.0.0 ∙ j.0.0, s.kept.1 ∙ ap (told_all g.T.Telling.told) (j.1 ∙ (λ i. both (c.requires.keeps i) ((m.given.1 ∙ c.requires.acts) i))))

pub returns-clause-acts : goal.returns-clause-acts
returns-clause-acts g c =
    let m = c.split_pass-moved.ensures in
    let j = c.join_pass.ensures in
    let s = c.split_pass-fresh.ensures in
    (s.given.0 ∙ j.0.0 ∙ c.requires.cell ∙ sym c.requires.own, s.given.1 ∙ ap (told_own g.T.Telling.told) (j.1 ∙ (λ i. both (c.requires.keeps i) ((m.given.1 ∙ c.requires.acts) i))))
