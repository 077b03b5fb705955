-- The plan of what is left of both lists, one path after another.
use Rattle.std.proofs.Common.{◌≡◌, ℕ, ◌+◌, ◌≤◌, true, false, List, [], ◌∷◌, ◌++◌, map, length, Option, Some, None, refl, sym, ap, subst, ◌∙◌, is_some, suc-ne-zero, append_assoc, append-nil, flat_map, length-append, arith}
use Rattle.std.proofs.lemmas.Map.Text.{is_eq-slice_cmp}
use Rattle.std.proofs.lemmas.Slice.Eq.{bytes_eq-Decides}
use Rattle.std.specs.Cmp.Lexicographic.{slice_cmp, nat_list_cmp_total}
use Rattle.std.specs.List.{AllByRecursion, find}
use Rattle.std.specs.List.Sorted.{IsStrictlySortedBy}
use Rattle.std.specs.Ordering.{is_eq, nat_cmp, ordering_reverse}
use Rattle.std.specs.Prelude.{if◌then◌else◌}
use Rattle.std.specs.Str.{bytes_eq}
use Rattle.std.specs.declared.cmp.Ordering.TheVariants.{Less, Equal, Greater}
use Rattle.kinds.specs.Names.{is_same_name}
use Rattle.kinds.specs.declared.rule.BackupRule.{BackupRule}
use Rattle.client_trees.specs.declared.tree.FileRow.{FileRow}
use Rattle.inventory_answers.specs.declared.lines.VersionLine.{VersionLine}
use Rattle.inventory_work.specs.declared.lines.ClassRule.{ClassRule}
use Rattle.client_plan.specs.Classes.{own_group, is_left_out, bound_to}
use Rattle.client_plan.specs.Plans.{Scheme, Task, to_send, to_rebind, to_end, to_fail, to_skip, is_due, task_ruled, task_grouped, task_bound, task_left, task_listed, task_of, Lists, sends, rebinds, goes, fails, skips, actives, file_task, version_task, lists_from, plan_of, lists_of, joined, AreListed, AreActive}

-- the path lies before each of these
abbrev pub IsBefore : List ℕ → List (List ℕ) → Type 0
IsBefore path paths = AllByRecursion (λ p. slice_cmp nat_cmp path p ≡ Less) paths

apart : (p q : List ℕ) → slice_cmp nat_cmp p q ≡ Less → bytes_eq p q ≡ false
apart p q below = sym (is_eq-slice_cmp p q) ∙ ap is_eq below

apart_back : (p q : List ℕ) → slice_cmp nat_cmp p q ≡ Less → bytes_eq q p ≡ false
apart_back p q below = sym (is_eq-slice_cmp q p) ∙ ap is_eq (nat_list_cmp_total.antisymm q p ∙ ap ordering_reverse below)

same : (p q : List ℕ) → p ≡ q → bytes_eq p q ≡ true
same p q e = (bytes_eq-Decides p q).1 e

pub before_further : (p q : List ℕ) (paths : List (List ℕ)) → slice_cmp nat_cmp p q ≡ Less → IsBefore q paths → IsBefore p paths
before_further p q [] below h = h
before_further p q (r ∷ paths) below h = (nat_list_cmp_total.trans p q r below h.0, before_further p q paths below h.1)

-- a path that lies before those of a list isn't found there
pub find_none : {B : Type 0} (key : B → List ℕ) (path : List ℕ) (bs : List B) → IsBefore path (map key bs) → find (λ b. bytes_eq path (key b)) bs ≡ None
find_none key path [] h = refl
find_none key path (b ∷ bs) h = rw (apart path (key b) h.0) (find_none key path bs h.1)

-- what stands before all that are looked up isn't found
others_same : {A B T : Type 0} (ka : A → List ℕ) (kb : B → List ℕ) (make : A → Option B → T) (rows : List A) (b : B) (bs : List B) → IsBefore (kb b) (map ka rows)
    → map (λ a. make a (find (λ x. bytes_eq (ka a) (kb x)) (b ∷ bs))) rows ≡ map (λ a. make a (find (λ x. bytes_eq (ka a) (kb x)) bs)) rows
others_same ka kb make [] b bs h = refl
others_same ka kb make (a ∷ rows) b bs h =
    rw (apart_back (kb b) (ka a) h.0) (ap (λ ts. make a (find (λ x. bytes_eq (ka a) (kb x)) bs) ∷ ts) (others_same ka kb make rows b bs h.1))

files_same : (s : Scheme) (files : List FileRow) (v : VersionLine) (vs : List VersionLine) → IsBefore v.path (map (λ (f : FileRow). f.path) files)
    → map (file_task s (v ∷ vs)) files ≡ map (file_task s vs) files
files_same s files v vs h = others_same (λ (f : FileRow). f.path) (λ (w : VersionLine). w.path) (λ f o. task_of s f.path (Some f) o) files v vs h

versions_same : (s : Scheme) (f : FileRow) (fs : List FileRow) (vs : List VersionLine) → IsBefore f.path (map (λ (v : VersionLine). v.path) vs)
    → map (version_task s (f ∷ fs)) vs ≡ map (version_task s fs) vs
versions_same s f fs vs h = others_same (λ (v : VersionLine). v.path) (λ (g : FileRow). g.path) (λ v o. task_of s v.path o (Some v)) vs f fs h

-- a task of a path that ends, in front of others
end_front : (path : List ℕ) (object : ℕ) (ts us : List Task) → lists_from ts (to_end path object ∷ us) ≡ joined (lists_of (to_end path object)) (lists_from ts us)
end_front path object ts us =
    let e : length (flat_map skips ts) ≡ 0 + length (flat_map skips ts) = omega arith in
    ap (λ n. record { send = flat_map sends ts; rebind = flat_map rebinds ts; gone = goes (to_end path object) ++ flat_map goes us; failed = flat_map fails ts; skip = n }) e

-- a task of a listed path, in front of others, where its version is among them, or it has none
both_front : (t : Task) (ts us : List Task) → lists_from (t ∷ ts) (t ∷ us) ≡ joined (lists_of t) (lists_from ts us)
both_front t ts us = rw (length-append (skips t) (flat_map skips ts)) refl

file_front : (t : Task) (ts us : List Task) → goes t ≡ [] → lists_from (t ∷ ts) us ≡ joined (lists_of t) (lists_from ts us)
file_front t ts us none = rw (length-append (skips t) (flat_map skips ts), none) refl

-- an active version whose path comes before all listed ones
pub version_first : (s : Scheme) (files : List FileRow) (v : VersionLine) (vs : List VersionLine) → IsBefore v.path (map (λ (f : FileRow). f.path) files)
    → plan_of s files (v ∷ vs) ≡ joined (lists_of (to_end v.path v.object)) (plan_of s files vs)
version_first s files v vs h =
    ap (λ ts. lists_from ts (map (version_task s files) (v ∷ vs))) (files_same s files v vs h)
    ∙ ap (λ o. lists_from (map (file_task s vs) files) (task_of s v.path o (Some v) ∷ map (version_task s files) vs)) (find_none (λ (f : FileRow). f.path) v.path files h)
    ∙ end_front v.path v.object (map (file_task s vs) files) (map (version_task s files) vs)

-- without an active version nothing goes
grouped_goes : (today : ℕ) (class : List ℕ) (rule : Option BackupRule) (f : FileRow) → goes (task_grouped today class rule f None) ≡ []
grouped_goes today class None f = refl
grouped_goes today class (Some rule) f = refl

bound_goes : (today : ℕ) (row : Option ClassRule) (f : FileRow) → goes (task_bound today row f None) ≡ []
bound_goes today None f = refl
bound_goes today (Some row) f = grouped_goes today row.class (own_group row.rule) f

pub none_goes : (s : Scheme) (f : FileRow) → goes (task_listed s f None) ≡ []
none_goes s f = elim (is_left_out s.choice f.path) as (λ b. goes (if b then task_left f.path None else task_bound s.today (bound_to s.rules s.choice f.path) f None) ≡ []) [
  | true ↦ refl
  | false ↦ bound_goes s.today (bound_to s.rules s.choice f.path) f
]

-- a listed path that comes before those of all active versions
pub file_first : (s : Scheme) (f : FileRow) (fs : List FileRow) (vs : List VersionLine) → IsBefore f.path (map (λ (v : VersionLine). v.path) vs)
    → plan_of s (f ∷ fs) vs ≡ joined (lists_of (task_listed s f None)) (plan_of s fs vs)
file_first s f fs vs h =
    ap (λ us. lists_from (map (file_task s vs) (f ∷ fs)) us) (versions_same s f fs vs h)
    ∙ ap (λ o. lists_from (task_of s f.path (Some f) o ∷ map (file_task s vs) fs) (map (version_task s fs) vs)) (find_none (λ (v : VersionLine). v.path) f.path vs h)
    ∙ file_front (task_listed s f None) (map (file_task s vs) fs) (map (version_task s fs) vs) (none_goes s f)

found_first : {B : Type 0} (key : B → List ℕ) (path : List ℕ) (b : B) (bs : List B) → path ≡ key b → find (λ x. bytes_eq path (key x)) (b ∷ bs) ≡ Some b
found_first key path b bs e = rw (same path (key b) e) refl

-- a listed path with its active version
pub both_first : (s : Scheme) (f : FileRow) (fs : List FileRow) (v : VersionLine) (vs : List VersionLine) → v.path ≡ f.path → IsBefore v.path (map (λ (g : FileRow). g.path) fs)
    → IsBefore f.path (map (λ (w : VersionLine). w.path) vs) → plan_of s (f ∷ fs) (v ∷ vs) ≡ joined (lists_of (task_listed s f (Some v))) (plan_of s fs vs)
both_first s f fs v vs e hf hv =
    ap (λ o. lists_from (task_of s f.path (Some f) o ∷ map (file_task s (v ∷ vs)) fs) (map (version_task s (f ∷ fs)) (v ∷ vs))) (found_first (λ (w : VersionLine). w.path) f.path v vs (sym e))
    ∙ ap (λ ts. lists_from (task_listed s f (Some v) ∷ ts) (map (version_task s (f ∷ fs)) (v ∷ vs))) (files_same s fs v vs hf)
    ∙ ap (λ o. lists_from (task_listed s f (Some v) ∷ map (file_task s vs) fs) (task_of s v.path o (Some v) ∷ map (version_task s (f ∷ fs)) vs)) (found_first (λ (g : FileRow). g.path) v.path f fs e)
    ∙ ap (λ us. lists_from (task_listed s f (Some v) ∷ map (file_task s vs) fs) (task_listed s f (Some v) ∷ us)) (versions_same s f fs vs hv)
    ∙ both_front (task_listed s f (Some v)) (map (file_task s vs) fs) (map (version_task s fs) vs)

joined_assoc : (a b c : Lists) → joined (joined a b) c ≡ joined a (joined b c)
joined_assoc a b c =
    let e : a.skip + b.skip + c.skip ≡ a.skip + (b.skip + c.skip) = omega arith in
    rw (append_assoc a.send b.send c.send, append_assoc a.rebind b.rebind c.rebind, append_assoc a.gone b.gone c.gone, append_assoc a.failed b.failed c.failed, e) refl

none_joined : (a : Lists) → joined (record { send = []; rebind = []; gone = []; failed = []; skip = 0 }) a ≡ a
none_joined a =
    let e : 0 + a.skip ≡ a.skip = omega arith in
    ap (λ n. record a { skip = n }) e

pub joined_none : (s : Scheme) (a : Lists) → joined a (plan_of s [] []) ≡ a
joined_none s a =
    let e : a.skip + 0 ≡ a.skip = omega arith in
    rw (append-nil a.send, append-nil a.rebind, append-nil a.gone, append-nil a.failed, e) refl

-- what was planned, and then the plan of what is left, is the whole plan, also once one more path is planned
pub planned_on : (plan new whole left next : Lists) (t : Task) → new ≡ joined plan (lists_of t) → left ≡ joined (lists_of t) next → joined plan left ≡ whole → joined new next ≡ whole
planned_on plan new whole left next t grown cut all = ap (λ (x : Lists). joined x next) grown ∙ joined_assoc plan (lists_of t) next ∙ ap (joined plan) (sym cut) ∙ all

skips_most : (t : Task) → length (skips t) ≤ 1
skips_most (to_send file class) = omega arith
skips_most (to_rebind path class) = omega arith
skips_most (to_end path object) = omega arith
skips_most (to_fail path) = omega arith
skips_most (to_skip path) = omega arith

pub skips_on : (plan new : Lists) (t : Task) → new ≡ joined plan (lists_of t) → new.skip ≤ plan.skip + 1
skips_on plan new t grown =
    let e : new.skip ≡ plan.skip + length (skips t) = ap (λ (l : Lists). l.skip) grown in
    omega (arith, e, skips_most t)

pub skips_same : (plan new : Lists) (path : List ℕ) (object : ℕ) → new ≡ joined plan (lists_of (to_end path object)) → new.skip ≡ plan.skip
skips_same plan new path object grown =
    let e : new.skip ≡ plan.skip + 0 = ap (λ (l : Lists). l.skip) grown in
    omega (arith, e)

-- What was planned, and then the plan of what is left, is the whole plan; and what is left of the active versions ascends.
pub record Planned (s : Scheme) (files : List FileRow) (versions : List VersionLine) (plan : Lists) (files_left : List FileRow) (versions_left : List VersionLine) : Type 0 where
  pub whole : joined plan (plan_of s files_left versions_left) ≡ plan_of s files versions
  pub ordered : AreActive versions_left

-- nothing is planned yet
pub planned_first : (s : Scheme) (files : List FileRow) (versions : List VersionLine) → AreActive versions
    → Planned s files versions (record { send = []; rebind = []; gone = []; failed = []; skip = 0 }) files versions
planned_first s files versions ordered = record { whole = none_joined (plan_of s files versions); ordered = ordered }

pub tail_listed : (f : FileRow) (fs : List FileRow) → AreListed (f ∷ fs) → IsBefore f.path (map (λ (g : FileRow). g.path) fs) × AreListed fs
unfolding IsStrictlySortedBy
tail_listed f fs h = h

tail_active : (v : VersionLine) (vs : List VersionLine) → AreActive (v ∷ vs) → IsBefore v.path (map (λ (w : VersionLine). w.path) vs) × AreActive vs
unfolding IsStrictlySortedBy
tail_active v vs h = h

-- the first of some versions is an active one
pub active_first : (left : List VersionLine) (v : VersionLine) (others : List VersionLine) → left ≡ v ∷ others → is_some v.since ≡ false → actives left ≡ v ∷ actives others
active_first left v others cut active = ap actives cut ∙ rw active refl

-- the next path has an active version and isn't listed
pub planned_version : (s : Scheme) (files : List FileRow) (versions : List VersionLine) (plan new : Lists) (files_left : List FileRow) (v : VersionLine) (vs : List VersionLine)
    → IsBefore v.path (map (λ (f : FileRow). f.path) files_left) → new ≡ joined plan (lists_of (to_end v.path v.object)) → Planned s files versions plan files_left (v ∷ vs)
    → Planned s files versions new files_left vs
planned_version s files versions plan new files_left v vs before grown h = record {
  whole = planned_on plan new (plan_of s files versions) (plan_of s files_left (v ∷ vs)) (plan_of s files_left vs) (to_end v.path v.object) grown (version_first s files_left v vs before) h.whole;
  ordered = (tail_active v vs h.ordered).1;
}

-- it lies before all that are listed, as there are none, or as it lies before the first
pub before_none : (path : List ℕ) (left : List FileRow) → length left ≡ 0 → IsBefore path (map (λ (f : FileRow). f.path) left)
before_none path [] none = tt
before_none path (f ∷ fs) none = absurd (suc-ne-zero (length fs) none)

pub before_listed : (v : VersionLine) (f : FileRow) (fs left : List FileRow) → left ≡ f ∷ fs → slice_cmp nat_cmp v.path f.path ≡ Less → AreListed left
    → IsBefore v.path (map (λ (g : FileRow). g.path) left)
before_listed v f fs left cut below h =
    subst (λ (l : List FileRow). IsBefore v.path (map (λ (g : FileRow). g.path) l)) (sym cut)
    (below, before_further v.path f.path (map (λ (g : FileRow). g.path) fs) below (tail_listed f fs (subst (λ (l : List FileRow). AreListed l) cut h)).0)

-- the next path is listed and has no active version
pub planned_file : (s : Scheme) (files : List FileRow) (versions : List VersionLine) (plan new : Lists) (left : List FileRow) (f : FileRow) (fs : List FileRow) (vs : List VersionLine)
    → left ≡ f ∷ fs → IsBefore f.path (map (λ (v : VersionLine). v.path) vs) → new ≡ joined plan (lists_of (task_listed s f None)) → Planned s files versions plan left vs
    → Planned s files versions new fs vs
planned_file s files versions plan new left f fs vs cut before grown h = record {
  whole = planned_on plan new (plan_of s files versions) (plan_of s left vs) (plan_of s fs vs) (task_listed s f None) grown
      (ap (λ (l : List FileRow). plan_of s l vs) cut ∙ file_first s f fs vs before) h.whole;
  ordered = h.ordered;
}

-- it lies before all that have one, as it lies before the first
pub before_active : (f : FileRow) (v : VersionLine) (vs left : List VersionLine) → left ≡ v ∷ vs → slice_cmp nat_cmp v.path f.path ≡ Greater → AreActive left
    → IsBefore f.path (map (λ (w : VersionLine). w.path) left)
before_active f v vs left cut above h =
    let below : slice_cmp nat_cmp f.path v.path ≡ Less = nat_list_cmp_total.antisymm f.path v.path ∙ ap ordering_reverse above in
    subst (λ (l : List VersionLine). IsBefore f.path (map (λ (w : VersionLine). w.path) l)) (sym cut)
    (below, before_further f.path v.path (map (λ (w : VersionLine). w.path) vs) below (tail_active v vs (subst (λ (l : List VersionLine). AreActive l) cut h)).0)

-- the next path is listed and has an active version
pub planned_both : (s : Scheme) (files : List FileRow) (versions : List VersionLine) (plan new : Lists) (left : List FileRow) (f : FileRow) (fs : List FileRow) (v : VersionLine)
    (vs : List VersionLine)
    → left ≡ f ∷ fs → slice_cmp nat_cmp v.path f.path ≡ Equal → AreListed (f ∷ fs) → new ≡ joined plan (lists_of (task_listed s f (Some v))) → Planned s files versions plan left (v ∷ vs)
    → Planned s files versions new fs vs
planned_both s files versions plan new left f fs v vs cut tie listed grown h =
    let one : v.path ≡ f.path = (bytes_eq-Decides v.path f.path).0 (sym (is_eq-slice_cmp v.path f.path) ∙ ap is_eq tie) in
    let of_files = subst (λ (p : List ℕ). IsBefore p (map (λ (g : FileRow). g.path) fs)) (sym one) (tail_listed f fs listed).0 in
    let of_versions = subst (λ (p : List ℕ). IsBefore p (map (λ (w : VersionLine). w.path) vs)) one (tail_active v vs h.ordered).0 in
    record {
      whole = planned_on plan new (plan_of s files versions) (plan_of s left (v ∷ vs)) (plan_of s fs vs) (task_listed s f (Some v)) grown
          (ap (λ (l : List FileRow). plan_of s l (v ∷ vs)) cut ∙ both_first s f fs v vs one of_files of_versions) h.whole;
      ordered = (tail_active v vs h.ordered).1;
    }

-- no active version is left, and the files that are left were planned
pub planned_last : (s : Scheme) (files : List FileRow) (versions : List VersionLine) (plan new : Lists) (files_left : List FileRow) (left : List VersionLine)
    → length left ≡ 0 → new ≡ joined plan (plan_of s files_left []) → Planned s files versions plan files_left (actives left) → new ≡ plan_of s files versions
planned_last s files versions plan new files_left [] none grown h = grown ∙ h.whole
planned_last s files versions plan new files_left (v ∷ left) none grown h = absurd (suc-ne-zero (length left) none)

-- a file that has an active version, and neither is due nor bound to another class, is left as it is
pub ruled_skips : (plan new : Lists) (today : ℕ) (class : List ℕ) (rule : BackupRule) (file : FileRow) (active : Option VersionLine) (v : VersionLine) → active ≡ Some v
    → is_due today rule file v ≡ false
    → is_same_name class v.class ≡ true → ((path : List ℕ) → new ≡ joined plan (lists_of (to_skip path))) → new ≡ joined plan (lists_of (task_ruled today class rule file active))
ruled_skips plan new today class rule file active v there due same_class grown = rw (there, due, same_class) (grown file.path)
