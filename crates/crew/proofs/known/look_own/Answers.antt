use Rattle.std.proofs.Common.{◌≡◌, rules, sym, ap, ◌∙◌, subst}
use Rattle.crossbeam_utils.specs.Seq.{cell_view}
use Rattle.machine.specs.Turns.{events_of}
use Rattle.crew.specs.Knowing.{Knows, acting, both, kept_all, kept_own}
use Rattle.crew.proofs.Keeping.{cuts_as, gives_as, joins_as, looks_as}
use Rattle.crew.proofs.known.look_own.Goals as goal

pub split_pass-moved-requires : goal.split_pass-moved-requires
split_pass-moved-requires g c = (search rules, (search rules, (c.requires.own, cuts_as _ _ c.requires.acts)))

pub join_pass-requires : goal.join_pass-requires
join_pass-requires g c =
    let m = c.split_pass-moved.ensures in (
      search rules,
      (
        search rules,
        (
          (c.requires.cell, m.given.0 ∙ c.requires.own ∙ sym c.requires.cell, m.given.2),
          joins_as _ _ _ _ c.requires.keeps (subst (λ (x : Knows). x ≡ acting x.actor x.mine) (sym m.given.1) c.requires.acts),
        ),
      ),
    )

pub load_as-requires : goal.load_as-requires
load_as-requires g c =
    let m = c.split_pass-moved.ensures in
    let j = c.join_pass.ensures in
    (search rules, (search rules, (j.0.0 ∙ c.requires.cell, looks_as _ _ _ _ _ _ (j.1 ∙ (λ i. both (c.requires.keeps i) ((m.given.1 ∙ c.requires.acts) i))))))

pub split_pass-back-requires : goal.split_pass-back-requires
split_pass-back-requires g c =
    let m = c.split_pass-moved.ensures in
    let j = c.join_pass.ensures in
    let l = c.load_as.ensures in
    (search rules, (search rules, (l.cell.0 ∙ j.0.0 ∙ c.requires.cell, gives_as _ _ _ _ _ _ (l.rule.0 ∙ j.1 ∙ (λ i. both (c.requires.keeps i) ((m.given.1 ∙ c.requires.acts) i))))))

pub returns-clause-keeps : goal.returns-clause-keeps
returns-clause-keeps g c =
    let m = c.split_pass-moved.ensures in
    let j = c.join_pass.ensures in
    let l = c.load_as.ensures in
    let s = c.split_pass-back.ensures in
    (s.kept.0.0 ∙ l.cell.0 ∙ j.0.0, s.kept.1 ∙ ap kept_all (l.rule.0 ∙ j.1 ∙ (λ i. both (c.requires.keeps i) ((m.given.1 ∙ c.requires.acts) i))) ∙ sym c.requires.keeps)

pub returns-clause-acts : goal.returns-clause-acts
returns-clause-acts g c =
    let m = c.split_pass-moved.ensures in
    let j = c.join_pass.ensures in
    let l = c.load_as.ensures in
    let s = c.split_pass-back.ensures in
    (s.given.0 ∙ l.cell.0 ∙ j.0.0 ∙ c.requires.cell ∙ sym c.requires.own, s.given.1 ∙ ap kept_own (l.rule.0 ∙ j.1 ∙ (λ i. both (c.requires.keeps i) ((m.given.1 ∙ c.requires.acts) i))) ∙ sym c.requires.acts)

pub returns-clause-same : goal.returns-clause-same
returns-clause-same g c =
    let m = c.split_pass-moved.ensures in
    let j = c.join_pass.ensures in
    let known = subst (λ (v : Knows). v.mine ≡ events_of v.actor v.all) j.1 c.load_as.ensures.rule.1 in
    subst (λ (x : Knows). x.mine ≡ events_of x.actor (cell_view c.args.keeper.now).all) m.given.1 known
