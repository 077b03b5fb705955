-- What came of a block's jobs together.
use Rattle.std.proofs.Common.{◌≡◌, ◌⊎◌, inl, inr, ℕ, ◌+◌, List, map, length, Result, Ok, Err, Option, None, sym, ap, subst, ◌∙◌, arith}
use Rattle.std.proofs.lemmas.List.{length-map}
use Rattle.std.specs.Prelude.{IfErr, IfOk, OnOk, replicate, slice_index_or}
use Rattle.std.specs.List.{AllByRecursion}
use Rattle.store_api.specs.Disk.{History}
use Rattle.choosers.specs.declared.rule.Rule.{Rule}
use Rattle.client_trees.specs.Files.{Files}
use Rattle.script_loop.specs.declared.ends.Halt.{Halt}
use Rattle.script_loop.specs.declared.ends.Halt.TheVariants.{Memory}
use Rattle.machine.specs.Turns.{events_of}
use Rattle.steps.specs.Events.{Event}
use Rattle.hall.specs.Held.{Hall}
use Rattle.crew.specs.Blocks.{CameTo}
use Rattle.crew.specs.Knowing.{IsWithin}
use Rattle.command_steps.specs.Clients.{Known, all_seen, seen}
use Rattle.blocks.specs.Shapes.{Placed}
use Rattle.line_jobs.specs.Jobs.{Did, Job}
use Rattle.line_jobs.specs.Lents.{faults_of, files_of}
use Rattle.line_jobs.specs.Ran.{EndsLines, IsEnding, RanLines, Worked, shared, trees_behind}
use Rattle.line_jobs.specs.Rooms.{taken_in}
use Rattle.line_jobs.specs.Shares.{AreDone, Came, all_said, away, begun_jobs, ends_by, given_back, kept, taken}
use Rattle.line_jobs.specs.declared.job.Said.{Said}
use Rattle.line_jobs.specs.declared.lent.Lent.{Lent}
use Rattle.line_jobs.specs.declared.lent.Lent.TheVariants.{Away, Here}
use Rattle.line_jobs.proofs.Exchanging.{given_map, kept_map, kept_rooms, replicate_length, taken_in_length, taken_length, taken_map, taken_rooms}
use Rattle.line_jobs.proofs.Gathering.{are_done, begun_length, came_of, endings, here_known, known, lefts, saids}

-- there are as many jobs as there is room for
pub many_seats : {T : Type 0} (choice : List Rule) (lines : List Placed) (jobs many : ℕ) (rooms : List (List (Lent T))) (before : List (Lent T)) (seats : List (Job T)) → seats ≡ begun_jobs choice lines 0 (taken_in lines 0 rooms before)
    → rooms ≡ replicate jobs (replicate many (Away 0)) → length seats ≡ jobs
many_seats {T} choice lines jobs many rooms before seats is are =
    let empty : List (Lent T) = replicate many (Away 0) in
    ap (λ (l : List (Job T)). length l) is ∙ begun_length choice lines 0 (taken_in lines 0 rooms before) ∙ taken_in_length lines 0 rooms before ∙ ap (λ (l : List (List (Lent T))). length l) are ∙ replicate_length jobs empty

pub on_ok : {A E : Type 0} (P : Type 0) (r : Result A E) (x : A) → r ≡ Ok x → OnOk r P → P
on_ok {A} {E} P r x is p = subst (λ (y : Result A E). OnOk y P) is p

pub map_ok : {A E : Type 0} (P Q : A → Type 0) (r : Result A E) → ((x : A) → P x → Q x) → IfOk r P → IfOk r Q
map_ok P Q (Ok x) leads p = leads x p
map_ok P Q (Err e) leads p = tt

pub map_err : {A E : Type 0} (P Q : E → Type 0) (r : Result A E) → ((e : E) → P e → Q e) → IfErr r P → IfErr r Q
map_err P Q (Ok x) leads p = tt
map_err P Q (Err e) leads p = leads e p

module _ {S T : Type 0} (told : S → Option History) (moment : S → ℕ) (faults : S → ℕ → ℕ) (files : T → Option Files) (tree_faults : T → ℕ) (choice : List Rule) (lines : List Placed) (jobs first : ℕ) (hall after : Hall S) (trees : List T)
    (many : ℕ) (same_many : many ≡ length trees) where
  -- so many empty places for each job
  abbrev pub rooms : List (List (Lent T))
  rooms = replicate jobs (replicate many (Away 0))

  abbrev pub did : Job T → ℕ → List Event → Job T → Type 0
  did old actor events new = Did (files_of files) (faults_of tree_faults) old events new

  -- the trees that the jobs have, as they are known
  known_taken : map (λ own. map (seen (files_of files) (faults_of tree_faults)) own) (taken_in lines 0 rooms (map Here trees)) ≡ shared lines jobs (all_seen files tree_faults trees)
  known_taken =
      ap (λ (l : List (List (Lent T))). map (λ (own : List (Lent T)). map (seen (files_of files) (faults_of tree_faults)) own) l) (taken_rooms (Away 0) many lines jobs 0 (map Here trees))
      ∙ taken_map (seen (files_of files) (faults_of tree_faults)) lines (Away 0) many jobs 0 (map Here trees)
      ∙ ap (λ (l : List Known). taken away many lines jobs 0 l) (here_known files tree_faults trees)
      ∙ ap (λ (n : ℕ). taken away n lines jobs 0 (all_seen files tree_faults trees)) (same_many ∙ sym (length-map trees (seen files tree_faults)))

  known_kept : known files tree_faults (given_back lines 0 rooms (map Here trees)) ≡ kept away (length (all_seen files tree_faults trees)) lines jobs 0 (all_seen files tree_faults trees)
  known_kept =
      ap (λ (l : List (Lent T)). known files tree_faults l) (kept_rooms (Away 0) many lines jobs 0 (map Here trees))
      ∙ kept_map (seen (files_of files) (faults_of tree_faults)) lines (Away 0) many jobs 0 (map Here trees)
      ∙ ap (λ (l : List Known). kept away many lines jobs 0 l) (here_known files tree_faults trees)
      ∙ ap (λ (n : ℕ). kept away n lines jobs 0 (all_seen files tree_faults trees)) (same_many ∙ sym (length-map trees (seen files tree_faults)))

  long : length (begun_jobs choice lines 0 (taken_in lines 0 rooms (map Here trees))) ≡ jobs
  long =
      begun_length choice lines 0 (taken_in lines 0 rooms (map Here trees)) ∙ ap (λ (l : List (List (Lent T))). length l) (taken_rooms (Away 0) many lines jobs 0 (map Here trees)) ∙ taken_length (Away 0) many lines jobs 0 (map Here trees)

  all_worked : (done : List (Job T)) → CameTo told moment faults did first hall (begun_jobs choice lines 0 (taken_in lines 0 rooms (map Here trees))) after done
      → length done ≡ length (begun_jobs choice lines 0 (taken_in lines 0 rooms (map Here trees))) → Worked told moment faults choice lines jobs first hall after (all_seen files tree_faults trees) (map (came_of files tree_faults) done)
  all_worked done (turns, ran, nobody, each) same =
      let all : List (List (Lent T)) = taken_in lines 0 rooms (map Here trees) in
      let begun : length (begun_jobs choice lines 0 all) ≡ length all = begun_length choice lines 0 all in
      record {
        turns = turns;
        ran = ran;
        nobody = subst (λ (n : ℕ). AllByRecursion (IsWithin first (first + n)) turns) long nobody;
        done = subst (λ (l : List (List Known)). AreDone choice lines 0 first turns l (map (came_of files tree_faults) done)) known_taken
            (are_done files tree_faults choice lines first turns 0 all done (same ∙ begun)
            (λ i d l. subst (λ (k : ℕ). Did (files_of files) (faults_of tree_faults) (slice_index_or (begun_jobs choice lines 0 all) i d) (events_of (first + k) turns) (slice_index_or done i d))
            (let zero_in_front : i ≡ 0 + i = omega arith in zero_in_front) (each i d (omega (arith, l, begun)))));
      }

  -- how the jobs and the trees are in the code
  pub record Parts (seats done : List (Job T)) (before between behind : List (Lent T)) : Type 0 where
    pub here : before ≡ map Here trees
    pub begun : seats ≡ begun_jobs choice lines 0 (taken_in lines 0 rooms before)
    pub lent : between ≡ given_back lines 0 rooms before
    pub given : behind ≡ given_back lines 0 (map (λ j. j.trees) done) between
    pub came : CameTo told moment faults did first hall seats after done
    pub same : length done ≡ length seats

  worked : (seats done : List (Job T)) (before between behind : List (Lent T)) → Parts seats done before between behind
      → Worked told moment faults choice lines jobs first hall after (all_seen files tree_faults trees) (map (came_of files tree_faults) done)
  worked seats done before between behind p =
      let is : seats ≡ begun_jobs choice lines 0 (taken_in lines 0 rooms (map Here trees)) = p.begun ∙ ap (λ (l : List (Lent T)). begun_jobs choice lines 0 (taken_in lines 0 rooms l)) p.here in
      all_worked done (subst (λ (s : List (Job T)). CameTo told moment faults did first hall s after done) is p.came) (p.same ∙ ap (λ (s : List (Job T)). length s) is)

  -- so the trees are left, where all of them came back
  left_behind : (seats done : List (Job T)) (before between behind : List (Lent T)) (back : List T) → Parts seats done before between behind → behind ≡ map Here back
      → all_seen files tree_faults back ≡ trees_behind lines jobs (all_seen files tree_faults trees) (map (came_of files tree_faults) done)
  left_behind seats done before between behind back p are_back =
      sym (here_known files tree_faults back) ∙ ap (λ (l : List (Lent T)). known files tree_faults l) (sym are_back ∙ p.given)
      ∙ given_map (seen (files_of files) (faults_of tree_faults)) lines 0 (map (λ (j : Job T). j.trees) done) between
      ∙ ap (λ (l : List (List Known)). given_back lines 0 l (known files tree_faults between)) (lefts files tree_faults done)
      ∙ ap (λ (l : List Known). given_back lines 0 (map (λ (c : Came). c.left) (map (came_of files tree_faults) done)) l)
      (ap (λ (l : List (Lent T)). known files tree_faults l) (p.lent ∙ ap (λ (l : List (Lent T)). given_back lines 0 rooms l) p.here) ∙ known_kept)

  pub ran : (seats done : List (Job T)) (before between behind : List (Lent T)) (back : List T) (said : List Said) → Parts seats done before between behind → behind ≡ map Here back → said ≡ all_said (map (λ j. j.said) done)
      → ends_by None (map (λ j. j.ended) done) ≡ None → RanLines told moment faults choice lines jobs first hall after (all_seen files tree_faults trees) said (all_seen files tree_faults back)
  ran seats done before between behind back said p are_back said_is none = (
    map (came_of files tree_faults) done,
    worked seats done before between behind p,
    ap (λ (l : List (Option Halt)). ends_by None l) (sym (endings files tree_faults done)) ∙ none,
    said_is ∙ ap (λ (l : List (List Said)). all_said l) (saids files tree_faults done),
    left_behind seats done before between behind back p are_back,
  )

  pub ended : (seats done : List (Job T)) (before between behind : List (Lent T)) (back : List T) (how : Halt) → Parts seats done before between behind
      → ((behind ≡ map Here back) × IsEnding (ends_by None (map (λ j. j.ended) done)) how) ⊎ (how ≡ Memory) → EndsLines told moment faults choice lines jobs first hall after (all_seen files tree_faults trees) how (all_seen files tree_faults back)
  ended seats done before between behind back how p (inl (are_back, ends)) = inl (
    map (came_of files tree_faults) done,
    worked seats done before between behind p,
    inl (subst (λ (l : List (Option Halt)). IsEnding (ends_by None l) how) (endings files tree_faults done) ends, left_behind seats done before between behind back p are_back),
  )
  ended seats done before between behind back how p (inr wanted) = inl (map (came_of files tree_faults) done, worked seats done before between behind p, inr wanted)
