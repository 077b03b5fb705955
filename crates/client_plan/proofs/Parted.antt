-- Every path of a plan stands in one of its sets, once.
use Rattle.std.proofs.Common.{◌≡◌, ℕ, ◌+◌, Bool, true, false, ◌||◌, cond, if◌then◌else◌, List, [], ◌∷◌, ◌++◌, map, Option, Some, None, is_some, refl, sym, ap, ap₂, subst, ◌∙◌, IfSome, flat_map, find, true≢false, arith}
use Rattle.std.proofs.lemmas.List.{map-append}
use Rattle.std.proofs.lemmas.List.Sums.{sum_by-append}
use Rattle.std.proofs.lemmas.Slice.Eq.{bytes_eq-Decides}
use Rattle.std.specs.Cmp.Lexicographic.{slice_cmp}
use Rattle.std.specs.List.Sorted.{IsStrictlySortedBy}
use Rattle.std.specs.Ordering.{nat_cmp}
use Rattle.std.specs.Str.{bytes_eq}
use Rattle.kinds.specs.Names.{is_same_name}
use Rattle.kinds.specs.declared.rule.BackupRule.{BackupRule}
use Rattle.client_trees.specs.declared.tree.FileRow.{FileRow}
use Rattle.inventory_answers.specs.declared.lines.VersionLine.{VersionLine}
use Rattle.inventory_work.specs.declared.lines.ClassRule.{ClassRule}
use Rattle.client_plan.specs.declared.lines.SendLine.{SendLine}
use Rattle.client_plan.specs.declared.lines.RebindLine.{RebindLine}
use Rattle.client_plan.specs.declared.lines.GoneLine.{GoneLine}
use Rattle.client_plan.specs.Classes.{own_group, is_left_out, bound_to}
use Rattle.client_plan.specs.Plans.{Scheme, Task, to_send, to_rebind, to_end, to_fail, to_skip, is_due, task_ruled, task_grouped, task_bound, task_left, task_listed, task_of, Lists, sends, rebinds, goes, fails, skips, active_at, listed_at, file_task, version_task, AreListed, AreActive, plan_of}
use Rattle.client_plan.specs.Parts.{times, sent_paths, rebound_paths, gone_paths, all_paths, IsParted, KeepsListed}
use Rattle.client_plan.proofs.Walk.{IsBefore, find_none, none_goes}

-- the path of a task
abbrev path_of : Task → List ℕ
path_of (to_send file class) = file.path
path_of (to_rebind path class) = path
path_of (to_end path object) = path
path_of (to_fail path) = path
path_of (to_skip path) = path

-- the paths that a task gives to each of the sets whose lines aren't paths
abbrev sent : Task → List (List ℕ)
sent t = map (λ (l : SendLine). l.file.path) (sends t)

abbrev rebound : Task → List (List ℕ)
rebound t = map (λ (l : RebindLine). l.path) (rebinds t)

abbrev gone : Task → List (List ℕ)
gone t = map (λ (l : GoneLine). l.path) (goes t)

-- how often a path stands in the sets of one task
abbrev weight : List ℕ → Task → ℕ
weight p t = times p (sent t) + (times p (rebound t) + (times p (gone t) + (times p (fails t) + times p (skips t))))

times-append : (p : List ℕ) (xs ys : List (List ℕ)) → times p (xs ++ ys) ≡ times p xs + times p ys
times-append p xs ys = sum_by-append (λ q. cond (bytes_eq p q) 1 0) xs ys

once : (p q : List ℕ) → bytes_eq p q ≡ true → times p (q ∷ []) ≡ 1
once p q e = rw e refl

never : (p q : List ℕ) → bytes_eq p q ≡ false → times p (q ∷ []) ≡ 0
never p q e = rw e refl

weight_one : (p : List ℕ) (t : Task) → bytes_eq p (path_of t) ≡ true → weight p t ≡ 1
weight_one p (to_send file class) e = omega (arith, once p file.path e)
weight_one p (to_rebind path class) e = omega (arith, once p path e)
weight_one p (to_end path object) e = omega (arith, once p path e)
weight_one p (to_fail path) e = omega (arith, once p path e)
weight_one p (to_skip path) e = omega (arith, once p path e)

weight_none : (p : List ℕ) (t : Task) → bytes_eq p (path_of t) ≡ false → weight p t ≡ 0
weight_none p (to_send file class) e = omega (arith, never p file.path e)
weight_none p (to_rebind path class) e = omega (arith, never p path e)
weight_none p (to_end path object) e = omega (arith, never p path e)
weight_none p (to_fail path) e = omega (arith, never p path e)
weight_none p (to_skip path) e = omega (arith, never p path e)

-- a listed file's task is one of its path
left_path : (path : List ℕ) (a : Option VersionLine) → path_of (task_left path a) ≡ path
left_path path None = refl
left_path path (Some v) = refl

ruled_path : (today : ℕ) (class : List ℕ) (rule : BackupRule) (f : FileRow) (a : Option VersionLine) → path_of (task_ruled today class rule f a) ≡ f.path
ruled_path today class rule f None = refl
ruled_path today class rule f (Some v) =
    elim (is_due today rule f v) as (λ b. path_of (if b then to_send f class else if is_same_name class v.class then to_skip f.path else to_rebind f.path class) ≡ f.path) [
      | true ↦ refl
      | false ↦ elim (is_same_name class v.class) as (λ b. path_of (if b then to_skip f.path else to_rebind f.path class) ≡ f.path) [
        | true ↦ refl
        | false ↦ refl
      ]
    ]

grouped_path : (today : ℕ) (class : List ℕ) (rule : Option BackupRule) (f : FileRow) (a : Option VersionLine) → path_of (task_grouped today class rule f a) ≡ f.path
grouped_path today class None f a = refl
grouped_path today class (Some rule) f a = ruled_path today class rule f a

bound_path : (today : ℕ) (row : Option ClassRule) (f : FileRow) (a : Option VersionLine) → path_of (task_bound today row f a) ≡ f.path
bound_path today None f a = refl
bound_path today (Some row) f a = grouped_path today row.class (own_group row.rule) f a

listed_path : (s : Scheme) (f : FileRow) (a : Option VersionLine) → path_of (task_listed s f a) ≡ f.path
listed_path s f a = elim (is_left_out s.choice f.path) as (λ b. path_of (if b then task_left f.path a else task_bound s.today (bound_to s.rules s.choice f.path) f a) ≡ f.path) [
  | true ↦ left_path f.path a
  | false ↦ bound_path s.today (bound_to s.rules s.choice f.path) f a
]

-- nothing of a bound path goes
ruled_stays : (today : ℕ) (class : List ℕ) (rule : BackupRule) (f : FileRow) (a : Option VersionLine) → goes (task_ruled today class rule f a) ≡ []
ruled_stays today class rule f None = refl
ruled_stays today class rule f (Some v) =
    elim (is_due today rule f v) as (λ b. goes (if b then to_send f class else if is_same_name class v.class then to_skip f.path else to_rebind f.path class) ≡ []) [
      | true ↦ refl
      | false ↦ elim (is_same_name class v.class) as (λ b. goes (if b then to_skip f.path else to_rebind f.path class) ≡ []) [
        | true ↦ refl
        | false ↦ refl
      ]
    ]

grouped_stays : (today : ℕ) (class : List ℕ) (rule : Option BackupRule) (f : FileRow) (a : Option VersionLine) → goes (task_grouped today class rule f a) ≡ []
grouped_stays today class None f a = refl
grouped_stays today class (Some rule) f a = ruled_stays today class rule f a

bound_stays : (today : ℕ) (row : Option ClassRule) (f : FileRow) (a : Option VersionLine) → goes (task_bound today row f a) ≡ []
bound_stays today None f a = refl
bound_stays today (Some row) f a = grouped_stays today row.class (own_group row.rule) f a

-- what is found passes the test
passes_first : {X : Type 0} (test : X → Bool) (x : X) (xs : List X) → IfSome (find test xs) (λ y. test y ≡ true) → (b : Bool) → test x ≡ b
    → IfSome (cond b (Some x) (find test xs)) (λ y. test y ≡ true)
passes_first test x xs rest true e = e
passes_first test x xs rest false e = rest

passes_all : {X : Type 0} (test : X → Bool) (xs : List X) → IfSome (find test xs) (λ y. test y ≡ true)
passes_all test [] = tt
passes_all test (x ∷ xs) = passes_first test x xs (passes_all test xs) (test x) refl

found_passes : {X : Type 0} (test : X → Bool) (xs : List X) (x : X) → find test xs ≡ Some x → test x ≡ true
found_passes test xs x e = subst (λ o. IfSome o (λ y. test y ≡ true)) e (passes_all test xs)

-- how often a path stands in what an element gives, where there is one
abbrev at : {X : Type 0} → List ℕ → (X → List (List ℕ)) → Option X → ℕ
at p give None = 0
at p give (Some x) = times p (give x)

-- where elements have keys that ascend, and give no other path than their key, a path stands only in what the element with this key gives
at_first : {X : Type 0} (key : X → List ℕ) (give : X → List (List ℕ)) (p : List ℕ) → ((x : X) → bytes_eq p (key x) ≡ false → times p (give x) ≡ 0)
    → (x : X) (xs : List X) → IsBefore (key x) (map key xs) → times p (flat_map give xs) ≡ at p give (find (λ y. bytes_eq p (key y)) xs) → (b : Bool) → bytes_eq p (key x) ≡ b
    → times p (give x) + times p (flat_map give xs) ≡ at p give (cond b (Some x) (find (λ y. bytes_eq p (key y)) xs))
at_first key give p apart x xs before rest true e =
    let same : p ≡ key x = (bytes_eq-Decides p (key x)).0 e in
    let none : find (λ y. bytes_eq p (key y)) xs ≡ None = find_none key p xs (subst (λ q. IsBefore q (map key xs)) (sym same) before) in
    let zero : times p (flat_map give xs) ≡ 0 = rest ∙ ap (at p give) none in
    omega (arith, zero)
at_first key give p apart x xs before rest false e =
    let zero : times p (give x) ≡ 0 = apart x e in
    let same : times p (give x) + times p (flat_map give xs) ≡ times p (flat_map give xs) = omega (arith, zero) in
    same ∙ rest

at_key : {X : Type 0} (key : X → List ℕ) (give : X → List (List ℕ)) (p : List ℕ) → ((x : X) → bytes_eq p (key x) ≡ false → times p (give x) ≡ 0)
    → (xs : List X) → IsStrictlySortedBy (slice_cmp nat_cmp) (map key xs) → times p (flat_map give xs) ≡ at p give (find (λ y. bytes_eq p (key y)) xs)
unfolding IsStrictlySortedBy
at_key key give p apart [] sorted = refl
at_key key give p apart (x ∷ xs) sorted =
    times-append p (give x) (flat_map give xs) ∙ at_first key give p apart x xs sorted.0 (at_key key give p apart xs sorted.1) (bytes_eq p (key x)) refl

-- what tasks give, one after another
plain_of : {X : Type 0} (give : Task → List (List ℕ)) (task : X → Task) (xs : List X) → flat_map give (map task xs) ≡ flat_map (λ x. give (task x)) xs
plain_of give task [] = refl
plain_of give task (x ∷ xs) = ap (λ l. give (task x) ++ l) (plain_of give task xs)

lines_of : {X L : Type 0} (key : L → List ℕ) (lines : Task → List L) (task : X → Task) (xs : List X) → map key (flat_map lines (map task xs)) ≡ flat_map (λ x. map key (lines (task x))) xs
lines_of key lines task [] = refl
lines_of key lines task (x ∷ xs) = map-append key (lines (task x)) (flat_map lines (map task xs)) ∙ ap (λ l. map key (lines (task x)) ++ l) (lines_of key lines task xs)

-- the keys of lists
abbrev file_key : FileRow → List ℕ
file_key f = f.path

abbrev version_key : VersionLine → List ℕ
version_key v = v.path

-- a listed file whose path isn't this one gives it to no set
file_apart : (s : Scheme) (versions : List VersionLine) (p : List ℕ) (f : FileRow) → bytes_eq p f.path ≡ false → weight p (file_task s versions f) ≡ 0
file_apart s versions p f e = weight_none p (file_task s versions f) (ap (bytes_eq p) (listed_path s f (active_at f.path versions)) ∙ e)

-- nor does an active version
version_path : (s : Scheme) (files : List FileRow) (v : VersionLine) (o : Option FileRow) → listed_at v.path files ≡ o → path_of (task_of s v.path o (Some v)) ≡ v.path
version_path s files v None e = refl
version_path s files v (Some f) e =
    listed_path s f (Some v) ∙ sym ((bytes_eq-Decides v.path f.path).0 (found_passes (λ (g : FileRow). bytes_eq v.path g.path) files f e))

version_apart : (s : Scheme) (files : List FileRow) (p : List ℕ) (v : VersionLine) → bytes_eq p v.path ≡ false → weight p (version_task s files v) ≡ 0
version_apart s files p v e = weight_none p (version_task s files v) (ap (bytes_eq p) (version_path s files v (listed_at v.path files) refl) ∙ e)

-- how often a path stands in each set of a plan
in_sent : (s : Scheme) (files : List FileRow) (versions : List VersionLine) (p : List ℕ) → AreListed files
    → times p (map (λ (l : SendLine). l.file.path) (flat_map sends (map (file_task s versions) files))) ≡ at p (λ f. sent (file_task s versions f)) (listed_at p files)
in_sent s files versions p sorted =
    ap (times p) (lines_of (λ (l : SendLine). l.file.path) sends (file_task s versions) files)
    ∙ at_key file_key (λ f. sent (file_task s versions f)) p (λ f e. omega (arith, file_apart s versions p f e)) files sorted

in_rebound : (s : Scheme) (files : List FileRow) (versions : List VersionLine) (p : List ℕ) → AreListed files
    → times p (map (λ (l : RebindLine). l.path) (flat_map rebinds (map (file_task s versions) files))) ≡ at p (λ f. rebound (file_task s versions f)) (listed_at p files)
in_rebound s files versions p sorted =
    ap (times p) (lines_of (λ (l : RebindLine). l.path) rebinds (file_task s versions) files)
    ∙ at_key file_key (λ f. rebound (file_task s versions f)) p (λ f e. omega (arith, file_apart s versions p f e)) files sorted

in_gone : (s : Scheme) (files : List FileRow) (versions : List VersionLine) (p : List ℕ) → AreActive versions
    → times p (map (λ (l : GoneLine). l.path) (flat_map goes (map (version_task s files) versions))) ≡ at p (λ v. gone (version_task s files v)) (active_at p versions)
in_gone s files versions p sorted =
    ap (times p) (lines_of (λ (l : GoneLine). l.path) goes (version_task s files) versions)
    ∙ at_key version_key (λ v. gone (version_task s files v)) p (λ v e. omega (arith, version_apart s files p v e)) versions sorted

in_failed : (s : Scheme) (files : List FileRow) (versions : List VersionLine) (p : List ℕ) → AreListed files
    → times p (flat_map fails (map (file_task s versions) files)) ≡ at p (λ f. fails (file_task s versions f)) (listed_at p files)
in_failed s files versions p sorted =
    ap (times p) (plain_of fails (file_task s versions) files)
    ∙ at_key file_key (λ f. fails (file_task s versions f)) p (λ f e. omega (arith, file_apart s versions p f e)) files sorted

in_skipped : (s : Scheme) (files : List FileRow) (versions : List VersionLine) (p : List ℕ) → AreListed files
    → times p (flat_map skips (map (file_task s versions) files)) ≡ at p (λ f. skips (file_task s versions f)) (listed_at p files)
in_skipped s files versions p sorted =
    ap (times p) (plain_of skips (file_task s versions) files)
    ∙ at_key file_key (λ f. skips (file_task s versions f)) p (λ f e. omega (arith, file_apart s versions p f e)) files sorted

-- the tasks of a path's file and of its active version, where these are what is found for it
path_same : {X : Type 0} (key : X → List ℕ) (p : List ℕ) (xs : List X) (x : X) → find (λ y. bytes_eq p (key y)) xs ≡ Some x → p ≡ key x
path_same key p xs x e = (bytes_eq-Decides p (key x)).0 (found_passes (λ y. bytes_eq p (key y)) xs x e)

task_of_file : (s : Scheme) (files : List FileRow) (versions : List VersionLine) (p : List ℕ) (f : FileRow) (a : Option VersionLine) → listed_at p files ≡ Some f → active_at p versions ≡ a
    → file_task s versions f ≡ task_listed s f a
task_of_file s files versions p f a listed active =
    ap (task_listed s f) (subst (λ q. active_at q versions ≡ a) (path_same file_key p files f listed) active)

task_of_version : (s : Scheme) (files : List FileRow) (versions : List VersionLine) (p : List ℕ) (o : Option FileRow) (v : VersionLine) → listed_at p files ≡ o → active_at p versions ≡ Some v
    → version_task s files v ≡ task_of s v.path o (Some v)
task_of_version s files versions p o v listed active =
    ap (λ x. task_of s v.path x (Some v)) (subst (λ q. listed_at q files ≡ o) (path_same version_key p versions v active) listed)

-- how often a path stands in all sets of a plan
abbrev total : Scheme → List FileRow → List VersionLine → List ℕ → Option FileRow → Option VersionLine → ℕ
total s files versions p o a =
    at p (λ f. sent (file_task s versions f)) o
    + (at p (λ f. rebound (file_task s versions f)) o
    + (at p (λ v. gone (version_task s files v)) a
    + (at p (λ f. fails (file_task s versions f)) o
    + at p (λ f. skips (file_task s versions f)) o)))

listed_weight : (s : Scheme) (files : List FileRow) (p : List ℕ) (f : FileRow) (a : Option VersionLine) → listed_at p files ≡ Some f → weight p (task_listed s f a) ≡ 1
listed_weight s files p f a listed =
    weight_one p (task_listed s f a) (ap (bytes_eq p) (listed_path s f a) ∙ found_passes (λ (g : FileRow). bytes_eq p g.path) files f listed)

total_one : (s : Scheme) (files : List FileRow) (versions : List VersionLine) (p : List ℕ) (o : Option FileRow) (a : Option VersionLine) → listed_at p files ≡ o → active_at p versions ≡ a
    → total s files versions p o a ≡ (if is_some o || is_some a then 1 else 0)
total_one s files versions p None None listed active = refl
total_one s files versions p None (Some v) listed active =
    let task : version_task s files v ≡ to_end v.path v.object = task_of_version s files versions p None v listed active in
    let one : times p (gone (version_task s files v)) ≡ 1 = ap (λ t. times p (gone t)) task ∙ once p v.path (found_passes (λ (w : VersionLine). bytes_eq p w.path) versions v active) in
    omega (arith, one)
total_one s files versions p (Some f) None listed active =
    let task : file_task s versions f ≡ task_listed s f None = task_of_file s files versions p f None listed active in
    let none : times p (gone (task_listed s f None)) ≡ 0 = ap (λ (l : List GoneLine). times p (map (λ (g : GoneLine). g.path) l)) (none_goes s f) in
    rw task (omega (arith, none, listed_weight s files p f None listed))
total_one s files versions p (Some f) (Some v) listed active =
    let of_file : file_task s versions f ≡ task_listed s f (Some v) = task_of_file s files versions p f (Some v) listed active in
    let of_version : version_task s files v ≡ task_listed s f (Some v) = task_of_version s files versions p (Some f) v listed active in
    rw (of_file, of_version) (listed_weight s files p f (Some v) listed)

-- five lists, one behind the other
times_five : (p : List ℕ) (a b c d e : List (List ℕ)) → times p (a ++ b ++ c ++ d ++ e) ≡ times p a + (times p b + (times p c + (times p d + times p e)))
times_five p a b c d e =
    omega (arith, times-append p (a ++ b ++ c ++ d) e, times-append p (a ++ b ++ c) d, times-append p (a ++ b) c, times-append p a b)

-- every path that is listed or has an active version stands in one set of the plan, once, and no other does
parted_at : (s : Scheme) (files : List FileRow) (versions : List VersionLine) (p : List ℕ) → AreListed files → AreActive versions
    → times p (all_paths (plan_of s files versions) (flat_map skips (map (file_task s versions) files))) ≡ (if is_some (listed_at p files) || is_some (active_at p versions) then 1 else 0)
parted_at s files versions p of_files of_versions =
    let plan : Lists = plan_of s files versions in
    let skipped : List (List ℕ) = flat_map skips (map (file_task s versions) files) in
    times_five p (sent_paths plan) (rebound_paths plan) (gone_paths plan) plan.failed skipped
    ∙ ap₂ (λ m n. m + n) (in_sent s files versions p of_files)
    (ap₂ (λ m n. m + n) (in_rebound s files versions p of_files)
    (ap₂ (λ m n. m + n) (in_gone s files versions p of_versions)
    (ap₂ (λ m n. m + n) (in_failed s files versions p of_files) (in_skipped s files versions p of_files))))
    ∙ total_one s files versions p (listed_at p files) (active_at p versions) refl refl

pub parted : (s : Scheme) (files : List FileRow) (versions : List VersionLine) → AreListed files → AreActive versions → IsParted files versions (plan_of s files versions)
parted s files versions of_files of_versions =
    (flat_map skips (map (file_task s versions) files), refl, λ p. parted_at s files versions p of_files of_versions)

-- a listed path that isn't left out doesn't go
listed_stays : (s : Scheme) (f : FileRow) (a : Option VersionLine) → is_left_out s.choice f.path ≡ false → goes (task_listed s f a) ≡ []
listed_stays s f a kept = rw kept (bound_stays s.today (bound_to s.rules s.choice f.path) f a)

none_gone : (s : Scheme) (files : List FileRow) (versions : List VersionLine) (p : List ℕ) (o : Option FileRow) (a : Option VersionLine) → listed_at p files ≡ o → active_at p versions ≡ a
    → is_some o ≡ true → is_left_out s.choice p ≡ false → at p (λ v. gone (version_task s files v)) a ≡ 0
none_gone s files versions p o None listed active there kept = refl
none_gone s files versions p None (Some v) listed active there kept = absurd (true≢false (sym there))
none_gone s files versions p (Some f) (Some v) listed active there kept =
    let task : version_task s files v ≡ task_listed s f (Some v) = task_of_version s files versions p (Some f) v listed active in
    let stays : goes (task_listed s f (Some v)) ≡ [] = listed_stays s f (Some v) (subst (λ q. is_left_out s.choice q ≡ false) (path_same file_key p files f listed) kept) in
    ap (λ (t : Task). times p (gone t)) task ∙ ap (λ (l : List GoneLine). times p (map (λ (g : GoneLine). g.path) l)) stays

pub keeps_listed : (s : Scheme) (files : List FileRow) (versions : List VersionLine) → AreActive versions → KeepsListed s files (plan_of s files versions)
keeps_listed s files versions of_versions p there kept =
    in_gone s files versions p of_versions ∙ none_gone s files versions p (listed_at p files) (active_at p versions) refl refl there kept
