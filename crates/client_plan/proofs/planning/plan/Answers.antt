use Rattle.std.proofs.Common.{◌≡◌, List, Some, None, arith, sym, subst, ◌∙◌}
use Rattle.client_trees.specs.declared.tree.FileRow.{FileRow}
use Rattle.inventory_answers.specs.declared.lines.VersionLine.{VersionLine}
use Rattle.client_plan.specs.Plans.{Scheme, Lists, scheme, AreListed, actives, plan_of, task_listed}
use Rattle.client_plan.specs.Parts.{IsParted, KeepsListed}
use Rattle.client_plan.proofs.Parted.{parted, keeps_listed}
use Rattle.client_plan.proofs.Walk.{Planned, active_first, before_none, before_listed, before_active, tail_listed, planned_version, planned_file, planned_both, planned_last, skips_on, skips_same}
use Rattle.client_plan.proofs.planning.plan.Goals as goal

pub paths-preserved-in-None : goal.paths-preserved-in-None
paths-preserved-in-None c =
    let s : Scheme = scheme c.args.classes.now c.args.binder.now c.args.today in
    let all : List VersionLine = actives c.args.versions.now in
    let v : VersionLine = c.in-Some.version.now in
    let vs : List VersionLine = actives c.in-Some.others.now in
    let first = active_first c.paths.versions_left.now v c.in-Some.others.now c.in-Some.ensures.cases.0 (sym c.is_inactive.ensures ∙ c.if-is_inactive.false) in
    record {
      planned = λ active. planned_version s c.args.files.now all c.paths.plan c.add_gone.new.self c.paths.files_left.now v vs
          (before_none v.path c.paths.files_left.now c.in-None.ensures.cases) c.in_ok-add_gone-in-None.ensures
          (subst (λ left. Planned s c.args.files.now all c.paths.plan c.paths.files_left.now left) first (c.paths.invariant.planned active));
      listed = c.paths.invariant.listed;
      few = omega (arith, c.paths.invariant.few, skips_same c.paths.plan c.add_gone.new.self v.path v.object c.in_ok-add_gone-in-None.ensures);
    }

pub paths-preserved-in-Less : goal.paths-preserved-in-Less
paths-preserved-in-Less c =
    let s : Scheme = scheme c.args.classes.now c.args.binder.now c.args.today in
    let all : List VersionLine = actives c.args.versions.now in
    let v : VersionLine = c.in-Some.version.now in
    let vs : List VersionLine = actives c.in-Some.others.now in
    let f : FileRow = c.in-Some-split_first.file.now in
    let first = active_first c.paths.versions_left.now v c.in-Some.others.now c.in-Some.ensures.cases.0 (sym c.is_inactive.ensures ∙ c.if-is_inactive.false) in
    record {
      planned = λ active. planned_version s c.args.files.now all c.paths.plan c.add_gone-in-Less.new.self c.paths.files_left.now v vs
          (before_listed v f c.in-Some-split_first.more.now c.paths.files_left.now c.in-Some-split_first.ensures.cases.0 (sym c.in-Less.ensures) c.paths.invariant.listed)
          c.in_ok-add_gone-in-Less.ensures
          (subst (λ left. Planned s c.args.files.now all c.paths.plan c.paths.files_left.now left) first (c.paths.invariant.planned active));
      listed = c.paths.invariant.listed;
      few = omega (arith, c.paths.invariant.few, skips_same c.paths.plan c.add_gone-in-Less.new.self v.path v.object c.in_ok-add_gone-in-Less.ensures);
    }

pub paths-preserved-in-Equal : goal.paths-preserved-in-Equal
paths-preserved-in-Equal c =
    let s : Scheme = scheme c.args.classes.now c.args.binder.now c.args.today in
    let all : List VersionLine = actives c.args.versions.now in
    let v : VersionLine = c.in-Some.version.now in
    let vs : List VersionLine = actives c.in-Some.others.now in
    let f : FileRow = c.in-Some-split_first.file.now in
    let fs : List FileRow = c.in-Some-split_first.more.now in
    let first = active_first c.paths.versions_left.now v c.in-Some.others.now c.in-Some.ensures.cases.0 (sym c.is_inactive.ensures ∙ c.if-is_inactive.false) in
    let cut = c.in-Some-split_first.ensures.cases in
    let listed = subst (λ (left : List FileRow). AreListed left) cut.0 c.paths.invariant.listed in
    record {
      planned = λ active. planned_both s c.args.files.now all c.paths.plan c.add_listed.new.plan c.paths.files_left.now f fs v vs cut.0 (sym c.in-Equal.ensures) listed
          c.in_ok-add_listed-in-Equal.ensures (subst (λ left. Planned s c.args.files.now all c.paths.plan c.paths.files_left.now left) first (c.paths.invariant.planned active));
      listed = (tail_listed f fs listed).1;
      few = omega (arith, c.paths.invariant.few, cut.1, skips_on c.paths.plan c.add_listed.new.plan (task_listed s f (Some v)) c.in_ok-add_listed-in-Equal.ensures);
    }

pub paths-preserved : goal.paths-preserved
paths-preserved c =
    let s : Scheme = scheme c.args.classes.now c.args.binder.now c.args.today in
    let all : List VersionLine = actives c.args.versions.now in
    let v : VersionLine = c.in-Some.version.now in
    let vs : List VersionLine = actives c.in-Some.others.now in
    let left : List VersionLine = actives c.paths.versions_left.now in
    let f : FileRow = c.in-Some-split_first.file.now in
    let fs : List FileRow = c.in-Some-split_first.more.now in
    let first = active_first c.paths.versions_left.now v c.in-Some.others.now c.in-Some.ensures.cases.0 (sym c.is_inactive.ensures ∙ c.if-is_inactive.false) in
    let cut = c.in-Some-split_first.ensures.cases in
    let listed = subst (λ (rest : List FileRow). AreListed rest) cut.0 c.paths.invariant.listed in
    record {
      planned = λ active. planned_file s c.args.files.now all c.paths.plan c.add_listed-in-Greater.new.plan c.paths.files_left.now f fs left cut.0
          (before_active f v vs left first (sym c.in-Greater.ensures) (c.paths.invariant.planned active).ordered) c.in_ok-add_listed-in-Greater.ensures (c.paths.invariant.planned active);
      listed = (tail_listed f fs listed).1;
      few = omega (arith, c.paths.invariant.few, cut.1, skips_on c.paths.plan c.add_listed-in-Greater.new.plan (task_listed s f None) c.in_ok-add_listed-in-Greater.ensures);
    }

pub returns-clause-parted : goal.returns-clause-parted
returns-clause-parted c active =
    let s : Scheme = scheme c.args.classes.now c.args.binder.now c.args.today in
    let all : List VersionLine = actives c.args.versions.now in
    let whole : c.add_rest.new.plan ≡ plan_of s c.args.files.now all = planned_last s c.args.files.now all c.paths.plan c.add_rest.new.plan c.paths.files_left.now
    c.paths.versions_left.now c.in_default.ensures.cases c.in_ok-add_rest.ensures (c.paths.invariant.planned active) in
    subst (λ (plan : Lists). IsParted c.args.files.now all plan) (sym whole) (parted s c.args.files.now all c.requires active)

pub returns-clause-kept : goal.returns-clause-kept
returns-clause-kept c active =
    let s : Scheme = scheme c.args.classes.now c.args.binder.now c.args.today in
    let all : List VersionLine = actives c.args.versions.now in
    let whole : c.add_rest.new.plan ≡ plan_of s c.args.files.now all = planned_last s c.args.files.now all c.paths.plan c.add_rest.new.plan c.paths.files_left.now
    c.paths.versions_left.now c.in_default.ensures.cases c.in_ok-add_rest.ensures (c.paths.invariant.planned active) in
    subst (λ (plan : Lists). KeepsListed s c.args.files.now plan) (sym whole) (keeps_listed s c.args.files.now all active)
