-- The jobs of a block, one after the other.
use Rattle.std.proofs.Common.{◌≡◌, ℕ, suc, ◌&&◌, Bool, true, false, ◌+◌, ◌<◌, List, [], ◌∷◌, ◌++◌, map, length, Option, None, refl, sym, ap, subst, ◌∙◌, append_assoc, arith}
use Rattle.std.proofs.lemmas.List.{append-nil, length-map}
use Rattle.std.specs.Prelude.{slice_index_or}
use Rattle.choosers.specs.declared.rule.Rule.{Rule}
use Rattle.client_trees.specs.Files.{Files}
use Rattle.script_loop.specs.declared.ends.Halt.{Halt}
use Rattle.machine.specs.Turns.{Turn, events_of}
use Rattle.command_steps.specs.Clients.{Known, all_seen, seen}
use Rattle.blocks.specs.Shapes.{Placed}
use Rattle.line_jobs.specs.Jobs.{Did, DoesLines, Job, lines_of}
use Rattle.line_jobs.specs.Lents.{faults_of, files_of}
use Rattle.line_jobs.specs.Rooms.{taken_in}
use Rattle.line_jobs.specs.Shares.{AreDone, Came, all_said, begun_jobs, ends_by, exchanged, given_back, or_weightier}
use Rattle.line_jobs.specs.declared.job.Said.{Said}
use Rattle.line_jobs.specs.declared.lent.Lent.{Lent}
use Rattle.line_jobs.specs.declared.lent.Lent.TheVariants.{Here}
use Rattle.line_jobs.proofs.Exchanging.{exchanged_more, taken_in_length, taken_more}

pub map_more : {A B : Type 0} (f : A → B) (xs : List A) (x : A) → map f (xs ++ x ∷ []) ≡ map f xs ++ f x ∷ []
map_more f [] x = refl
map_more f (y ∷ xs) x = ap (λ l. f y ∷ l) (map_more f xs x)

pub said_more : (all : List (List Said)) (own : List Said) → all_said (all ++ own ∷ []) ≡ all_said all ++ own
said_more [] own = append-nil own
said_more (first ∷ all) own = ap (λ (l : List Said). first ++ l) (said_more all own) ∙ sym (append_assoc first (all_said all) own)

pub ends_more : (how : Option Halt) (all : List (Option Halt)) (one : Option Halt) → ends_by how (all ++ one ∷ []) ≡ or_weightier (ends_by how all) one
ends_more how [] one = refl
ends_more how (first ∷ all) one = ends_more (or_weightier how first) all one

module _ {T : Type 0} (choice : List Rule) (all : List Placed) where
  pub begun_more : (job : ℕ) (trees : List (List (Lent T))) (own : List (Lent T)) → begun_jobs choice all job (trees ++ own ∷ [])
      ≡ begun_jobs choice all job trees ++ (record { choice = choice; lines = all; job = job + length trees; trees = own; said = []; ended = None }) ∷ []
  begun_more job [] own = ap (λ (j : ℕ). (let one : Job T = record { choice = choice; lines = all; job = j; trees = own; said = []; ended = None } in one) ∷ []) (let same : job ≡ job + 0 = omega arith in same)
  begun_more job (first ∷ trees) own =
      ap (λ (l : List (Job T)). (record { choice = choice; lines = all; job = job; trees = first; said = []; ended = None }) ∷ l)
      (begun_more (job + 1) trees own
      ∙ ap (λ (j : ℕ). begun_jobs choice all (job + 1) trees ++ (let one : Job T = record { choice = choice; lines = all; job = j; trees = own; said = []; ended = None } in one) ∷ [])
      (let same : (job + 1) + length trees ≡ job + suc (length trees) = omega arith in same))

  pub begun_length : (job : ℕ) (trees : List (List (Lent T))) → length (begun_jobs choice all job trees) ≡ length trees
  begun_length job [] = refl
  begun_length job (own ∷ trees) = ap suc (begun_length (job + 1) trees)

  abbrev job_of : (job : ℕ) → List (Lent T) → Job T
  job_of job own = record { choice = choice; lines = all; job = job; trees = own; said = []; ended = None }

  -- one job more has begun
  pub seated : (rooms : List (List (Lent T))) (room trees now : List (Lent T)) (job : ℕ) (jobs new : List (Job T)) (one : Job T) → new ≡ jobs ++ one ∷ [] → jobs ≡ begun_jobs choice all 0 (taken_in all 0 rooms trees)
      → one ≡ record { choice = choice; lines = all; job = job; trees = exchanged all job 0 room now; said = []; ended = None } → now ≡ given_back all 0 rooms trees → job ≡ length rooms
      → new ≡ begun_jobs choice all 0 (taken_in all 0 (rooms ++ room ∷ []) trees)
  seated rooms room trees now job jobs new one grown are is before place =
      let front : List (Job T) = begun_jobs choice all 0 (taken_in all 0 rooms trees) in
      let own : List (Lent T) = exchanged all (0 + length rooms) 0 room (given_back all 0 rooms trees) in
      let here : job ≡ 0 + length rooms = place ∙ (let same : length rooms ≡ 0 + length rooms = omega arith in same) in
      let there : 0 + length (taken_in all 0 rooms trees) ≡ 0 + length rooms = ap (λ (n : ℕ). 0 + n) (taken_in_length all 0 rooms trees) in
      grown ∙ ap (λ (l : List (Job T)). l ++ one ∷ []) are
      ∙ ap (λ (j : Job T). front ++ j ∷ []) (is ∙ ap (λ (n : ℕ). job_of n (exchanged all n 0 room now)) here ∙ ap (λ (l : List (Lent T)). job_of (0 + length rooms) (exchanged all (0 + length rooms) 0 room l)) before)
      ∙ ap (λ (n : ℕ). front ++ job_of n own ∷ []) (sym there) ∙ sym (begun_more 0 (taken_in all 0 rooms trees) own) ∙ sym (ap (λ (l : List (List (Lent T))). begun_jobs choice all 0 l) (taken_more all 0 rooms room trees))

pub both_true : (a b : Bool) → (a && b) ≡ true → (a ≡ true) × (b ≡ true)
both_true true true is = (refl, refl)
both_true true false is = absurd cc
both_true false b is = absurd cc

-- one job more has ended
module _ {T : Type 0} (all : List Placed) (yielded : List (Job T)) (job : Job T) where
  pub unseated : (trees now new : List (Lent T)) (at : ℕ) → new ≡ exchanged all at 0 now job.trees → now ≡ given_back all 0 (map (λ j. j.trees) yielded) trees → at ≡ length yielded
      → new ≡ given_back all 0 (map (λ j. j.trees) (yielded ++ job ∷ [])) trees
  unseated trees now new at is before place =
      exchanged_more all (map (λ (j : Job T). j.trees) yielded) job.trees trees now new at is before (place ∙ sym (length-map yielded (λ (j : Job T). j.trees)))
      ∙ ap (λ (l : List (List (Lent T))). given_back all 0 l trees) (sym (map_more (λ (j : Job T). j.trees) yielded job))

  pub gathered : (was now own : List Said) → now ≡ was ++ own → own ≡ job.said → was ≡ all_said (map (λ j. j.said) yielded) → now ≡ all_said (map (λ j. j.said) (yielded ++ job ∷ []))
  gathered was now own grown is before =
      grown ∙ ap (λ (l : List Said). was ++ l) is ∙ ap (λ (l : List Said). l ++ job.said) before ∙ sym (said_more (map (λ (j : Job T). j.said) yielded) job.said)
      ∙ ap (λ (l : List (List Said)). all_said l) (sym (map_more (λ (j : Job T). j.said) yielded job))

  pub ended_too : (was new one : Option Halt) → new ≡ or_weightier was one → one ≡ job.ended → was ≡ ends_by None (map (λ j. j.ended) yielded) → new ≡ ends_by None (map (λ j. j.ended) (yielded ++ job ∷ []))
  ended_too was new one is own before =
      is ∙ ap (λ (o : Option Halt). or_weightier was o) own ∙ ap (λ (o : Option Halt). or_weightier o job.ended) before ∙ sym (ends_more None (map (λ (j : Job T). j.ended) yielded) job.ended)
      ∙ ap (λ (l : List (Option Halt)). ends_by None l) (sym (map_more (λ (j : Job T). j.ended) yielded job))

-- ---- what came of them

module _ {T : Type 0} (files : T → Option Files) (faults : T → ℕ) where
  abbrev pub known : List (Lent T) → List Known
  known trees = all_seen (files_of files) (faults_of faults) trees

  abbrev pub came_of : Job T → Came
  came_of j = record { said = j.said; ended = j.ended; left = known j.trees }

  pub here_known : (trees : List T) → known (map Here trees) ≡ all_seen files faults trees
  here_known [] = refl
  here_known (t ∷ trees) = ap (λ (l : List Known). seen files faults t ∷ l) (here_known trees)

  pub lefts : (jobs : List (Job T)) → map (λ own. map (seen (files_of files) (faults_of faults)) own) (map (λ j. j.trees) jobs) ≡ map (λ c. c.left) (map came_of jobs)
  lefts [] = refl
  lefts (j ∷ jobs) = ap (λ (l : List (List Known)). known j.trees ∷ l) (lefts jobs)

  pub saids : (jobs : List (Job T)) → map (λ j. j.said) jobs ≡ map (λ c. c.said) (map came_of jobs)
  saids [] = refl
  saids (j ∷ jobs) = ap (λ (l : List (List Said)). j.said ∷ l) (saids jobs)

  pub endings : (jobs : List (Job T)) → map (λ j. j.ended) jobs ≡ map (λ c. c.ended) (map came_of jobs)
  endings [] = refl
  endings (j ∷ jobs) = ap (λ (l : List (Option Halt)). j.ended ∷ l) (endings jobs)

  module _ (choice : List Rule) (all : List Placed) (first : ℕ) (turns : List Turn) where
    did_lines : (job : ℕ) (own : List (Lent T)) (after : Job T) → Did (files_of files) (faults_of faults) (record { choice = choice; lines = all; job = job; trees = own; said = []; ended = None }) (events_of (first + (job + 0)) turns) after
        → DoesLines choice (lines_of all job all) (known own) (events_of (first + job) turns) after.said after.ended (known after.trees)
    did_lines job own after (same, lines, place, said, grown, did) =
        subst (λ (s : List Said). DoesLines choice (lines_of all job all) (known own) (events_of (first + job) turns) s after.ended (known after.trees)) (sym grown)
        (subst (λ (j : ℕ). DoesLines choice (lines_of all job all) (known own) (events_of (first + j) turns) said after.ended (known after.trees)) (let same : job + 0 ≡ job = omega arith in same) did)

    -- what each job did by its place is what all of them did, one after the other
    pub are_done : (job : ℕ) (trees : List (List (Lent T))) (after : List (Job T)) → length after ≡ length trees
        → ((i : ℕ) (d : Job T) → i < length trees → Did (files_of files) (faults_of faults) (slice_index_or (begun_jobs choice all job trees) i d) (events_of (first + (job + i)) turns) (slice_index_or after i d))
        → AreDone choice all job first turns (map (λ own. map (seen (files_of files) (faults_of faults)) own) trees) (map came_of after)
    are_done job [] [] same did = tt
    are_done job [] (a ∷ after) same did = absurd (omega (arith, same))
    are_done job (own ∷ trees) [] same did = absurd (omega (arith, same))
    are_done job (own ∷ trees) (a ∷ after) same did = (
      did_lines job own a (did 0 a (omega arith)),
      are_done (job + 1) trees after (omega (arith, same))
          (λ i d l. subst (λ (j : ℕ). Did (files_of files) (faults_of faults) (slice_index_or (begun_jobs choice all (job + 1) trees) i d) (events_of (first + j) turns) (slice_index_or after i d))
          (let same : job + suc i ≡ (job + 1) + i = omega arith in same) (did (suc i) d (omega (arith, l)))),
    )
