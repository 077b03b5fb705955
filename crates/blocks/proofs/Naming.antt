-- The first job that names a tree has it.
use Rattle.std.proofs.Common.{◌≡◌, ℕ, ◌+◌, ◌-◌, ◌≤◌, ◌<◌, ◌==◌, nat_lt, Bool, true, false, List, [], ◌∷◌, ◌++◌, Option, None, Some, refl, sym, ap, subst, ◌∙◌, arith, if◌then◌else◌}
use Rattle.std.proofs.lemmas.Bool.{eq-eqb, eqb-true, lt-ltb, ltb-true}
use Rattle.blocks.specs.declared.block.Fate.{Fate}
use Rattle.blocks.specs.declared.block.Fate.TheVariants.{Beyond, Done}
use Rattle.blocks.specs.Parts.{part}
use Rattle.blocks.specs.Shapes.{Placed, Shape, block, in_front, is_end, opens, placed, shape}
use Rattle.blocks.specs.Trees.{IsNamedBefore, behind, first_job, in_use, in_use_by, named, names}

-- ---- lines stand job by job

abbrev Ascends : ℕ → List Placed → Type 0
Ascends low [] = Unit {0}
Ascends low (x ∷ lines) = (low ≤ x.job) × Ascends x.job lines

lower : (low high : ℕ) (lines : List Placed) → low ≤ high → Ascends high lines → Ascends low lines
lower low high [] l up = tt
lower low high (x ∷ lines) l up = (omega (arith, l, up.0), up.1)

ascends_in_front : (opened : Bool) (job : ℕ) (x : Placed) (rest : Shape) → x.job ≡ job → Ascends (if opened then job + 1 else job) rest.lines → Ascends job (in_front opened x rest).lines
ascends_in_front true job x rest at up = lower job (job + 1) rest.lines (omega arith) up
ascends_in_front false job x rest at up = (let l : job ≤ x.job = omega (arith, at) in l, subst (λ (k : ℕ). Ascends k rest.lines) (sym at) up)

ascends_ended : (ended : Bool) (job : ℕ) (s : Shape) → Ascends job s.lines → Ascends job (if ended then record { lines = []; jobs = job + 1 } else s).lines
ascends_ended true job s up = tt
ascends_ended false job s up = up

ascends : (room job : ℕ) (lines : List (ℕ × List ℕ)) → Ascends job (shape room job lines).lines
ascends room job [] = tt
ascends room job (l ∷ lines) =
    let opened : Bool = opens room job (part l.1) in
    let rest : Shape = shape (room - 1) (if opened then job + 1 else job) lines in
    let one : Placed = placed room job l.0 l.1 (part l.1) in
    ascends_ended (is_end (part l.1)) job (in_front opened one rest) (ascends_in_front opened job one rest refl (ascends (room - 1) (if opened then job + 1 else job) lines))

ascends_at : (low : ℕ) (front : List Placed) (q : Placed) (back : List Placed) → Ascends low (front ++ q ∷ back) → low ≤ q.job
ascends_at low [] q back up = up.0
ascends_at low (x ∷ front) q back up = let l : x.job ≤ q.job = ascends_at x.job front q back up.1 in omega (arith, up.0, l)

-- ---- the first job that names a tree is the least

-- one that names it stands in a job that isn't above this
abbrev AtMost : ℕ → Option ℕ → Type 0
AtMost bound first = (j : ℕ) × (first ≡ Some j) × (j ≤ bound)

either : (b : Bool) (job bound : ℕ) (later : Option ℕ) → job ≤ bound → AtMost bound later → AtMost bound (if b then Some job else later)
either true job bound later l rest = (job, refl, l)
either false job bound later l rest = rest

least : (tree low : ℕ) (front : List Placed) (q : Placed) (back : List Placed) → Ascends low (front ++ q ∷ back) → names tree q ≡ true → AtMost q.job (first_job tree (front ++ q ∷ back))
least tree low [] q back up is = (q.job, ap (λ (b : Bool). if b then Some q.job else first_job tree back) is, omega arith)
least tree low (x ∷ front) q back up is =
    either (names tree x) x.job q.job (first_job tree (front ++ q ∷ back)) (ascends_at x.job front q back up.1) (least tree x.job front q back up.1 is)

-- ---- what names a tree

named_is : (tree : ℕ) (f : Fate) → named tree f ≡ true → f ≡ Done (Some tree)
named_is tree (Done (Some number)) is = ap (λ (k : ℕ). Done (Some k)) (eqb-true number tree is)
named_is tree (Done None) is = absurd cc
named_is tree Beyond is = absurd cc

behind_first : (tree job : ℕ) (first : Option ℕ) (q : ℕ) → AtMost q first → q < job → behind tree job first ≡ Some tree
behind_first tree job first q at l =
    ap (λ (o : Option ℕ). behind tree job o) at.1 ∙ ap (λ (b : Bool). if b then Some tree else None) (lt-ltb at.0 job (omega (arith, at.2, l)))

pub named_before : (lines : List (ℕ × List ℕ)) (line : Placed) (tree : ℕ) → names tree line ≡ true → IsNamedBefore (block lines).lines line.job tree → in_use (block lines).lines line ≡ Some tree
named_before lines line tree is before =
    let up = subst (λ (l : List Placed). Ascends 0 l) before.3 (ascends 1024 0 lines) in
    let at = subst (λ (l : List Placed). AtMost before.1.job (first_job tree l)) (sym before.3) (least tree 0 before.0 before.1 before.2 up before.4) in
    ap (λ (f : Fate). in_use_by (block lines).lines line.job f) (named_is tree line.fate is) ∙ behind_first tree line.job (first_job tree (block lines).lines) before.1.job at before.5

-- ---- a tree that is in use is named before

abbrev Found : ℕ → List Placed → ℕ → Type 0
Found tree lines j = (front : List Placed) × (line : Placed) × (back : List Placed) × (lines ≡ front ++ line ∷ back) × (names tree line ≡ true) × (line.job ≡ j)

found : (tree : ℕ) (lines : List Placed) (j : ℕ) → first_job tree lines ≡ Some j → Found tree lines j
found tree [] j is = absurd cc
found tree (x ∷ lines) j is =
    elim (names tree x) as (λ b. (names tree x) ≡ b → (if b then Some x.job else first_job tree lines) ≡ Some j → Found tree (x ∷ lines) j) [
      | true ↦ λ n e. ([], x, lines, refl, n, cc)
      | false ↦ λ n e. (let f = found tree lines j e in (x ∷ f.0, f.1, f.2, ap (λ (l : List Placed). x ∷ l) f.3, f.4, f.5))
    ] refl is

used_behind : (lines : List Placed) (job number tree j : ℕ) → first_job number lines ≡ Some j → (b : Bool) → nat_lt j job ≡ b → (if b then Some number else None) ≡ Some tree → (named tree (Done (Some number)) ≡ true) × IsNamedBefore lines job tree
used_behind lines job number tree j first true l is =
    let same : number ≡ tree = cc in
    let f = subst (λ (k : ℕ). Found k lines j) same (found number lines j first) in
    (eq-eqb number tree same, (f.0, f.1, f.2, f.3, f.4, omega (arith, f.5, ltb-true j job l)))
used_behind lines job number tree j first false l is = absurd cc

used_first : (lines : List Placed) (job number tree : ℕ) (first : Option ℕ) → first_job number lines ≡ first → behind number job first ≡ Some tree → (named tree (Done (Some number)) ≡ true) × IsNamedBefore lines job tree
used_first lines job number tree None first is = absurd cc
used_first lines job number tree (Some j) first is = used_behind lines job number tree j first (nat_lt j job) refl is

used_by : (lines : List Placed) (job tree : ℕ) (f : Fate) → in_use_by lines job f ≡ Some tree → (named tree f ≡ true) × IsNamedBefore lines job tree
used_by lines job tree (Done (Some number)) is = used_first lines job number tree (first_job number lines) refl is
used_by lines job tree (Done None) is = absurd cc
used_by lines job tree Beyond is = absurd cc

pub used : (lines : List Placed) (line : Placed) (tree : ℕ) → in_use lines line ≡ Some tree → (names tree line ≡ true) × IsNamedBefore lines line.job tree
used lines line tree is = used_by lines line.job tree line.fate is
