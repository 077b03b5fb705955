-- Each line of a job that was answered is complete.
use Rattle.std.proofs.Common.{◌≡◌, ◌+◌, ℕ, List, [], ◌∷◌, ◌++◌, Option, None, Some, Ok, sym, ap, subst, ◌∙◌, append_assoc, true}
use Rattle.std.proofs.lemmas.List.{append-nil}
use Rattle.choosers.specs.declared.rule.Rule.{Rule}
use Rattle.blocks.specs.Shapes.{Placed}
use Rattle.blocks.specs.declared.block.Fate.{Fate}
use Rattle.blocks.specs.declared.block.Fate.TheVariants.{Beyond, Done}
use Rattle.kinds.specs.declared.refusal.Refusal.{Refusal}
use Rattle.script_loop.specs.Reply.{Answer}
use Rattle.script_loop.specs.declared.ends.Halt.{Halt}
use Rattle.steps.specs.Events.{Event}
use Rattle.machine.specs.Machine.{Places}
use Rattle.machine.specs.State.{Machine}
use Rattle.machine.specs.Turns.{Turn, events_of}
use Rattle.crew.specs.Ran.{Turned}
use Rattle.line_results.specs.command_steps.Clients.{Client, Known}
use Rattle.line_results.specs.command_steps.Lines.{line_in}
use Rattle.line_results.specs.Resting.{database}
use Rattle.line_results.specs.Sound.{HasSoundRows}
use Rattle.line_jobs.specs.Jobs.{AnswersFate, AreAnswered, DoesLines, JobLine, between, lines_of}
use Rattle.line_jobs.specs.Shares.{AreDone, Came}
use Rattle.line_jobs.specs.declared.job.Said.{Said}
use Rattle.block_results.specs.Legal.{AreComplete, FateComplete, JobsComplete}
use Rattle.block_results.proofs.Completing.{line-complete}
use Rattle.block_results.proofs.InOrder.{split}
use Rattle.block_results.proofs.Sounding.{AreSound, turned-sound}

module _ (trusted : Type 0) (places : Places) (choice : List Rule) where
  -- ---- where each line's turns are

  -- Of these lines, of which this is said, each was answered by its actor's steps among some of these turns, one after the other, over the one state of the trees and the next.
  abbrev pub AreCut : (actor : ℕ) → List JobLine → (trees : List Known) → List Turn → (old new : Machine) → List Said → Type 0
  AreCut actor lines trees turns old new [] = Unit {0}
  AreCut actor [] trees turns old new (s ∷ said) = ⊥
  AreCut actor (l ∷ lines) trees turns old new (s ∷ said) =
      (mid : List Known) × (mine : List Turn) × (others : List Turn) × (next : Machine) × (turns ≡ mine ++ others)
      × Turned trusted places mine old next × Turned trusted places others next new
      × AnswersFate (between choice trees mid) l.line.fate l (events_of actor mine) (Ok (s.reply, s.why))
      × AreCut actor lines mid others next new said

  abbrev pub JobsCut : (all : List Placed) → (job first : ℕ) → List Turn → (old new : Machine) → (trees : List (List Known)) → List Came → Type 0
  JobsCut all job first turns old new trees [] = Unit {0}
  JobsCut all job first turns old new [] came = Unit {0}
  JobsCut all job first turns old new (own ∷ trees) (c ∷ came) = AreCut (first + job) (lines_of all job all) own turns old new c.said × JobsCut all (job + 1) first turns old new trees came

  module _ (actor : ℕ) where
    nothing-cut : (lines : List JobLine) (trees : List Known) (turns : List Turn) (old new : Machine) → AreCut actor lines trees turns old new []
    nothing-cut [] trees turns old new = tt
    nothing-cut (l ∷ lines) trees turns old new = tt

    -- some of its lines, in front of others
    front-cut : (front others : List JobLine) (trees left : List Known) (xs ys : List Event) (said : List Said) (turns : List Turn) (old new : Machine) → events_of actor turns ≡ xs ++ ys → Turned trusted places turns old new
        → AreAnswered choice front trees xs said left → AreCut actor (front ++ others) trees turns old new said
    front-cut [] others trees left xs ys said turns old new cut ran (none, is, same) = subst (λ (s : List Said). AreCut actor others trees turns old new s) (sym is) (nothing-cut others trees turns old new)
    front-cut (l ∷ front) others trees left xs ys said turns old new cut ran (reply, next, more, is, (us, vs, apart, one, rest)) =
        let all : events_of actor turns ≡ us ++ (vs ++ ys) = cut ∙ ap (λ (es : List Event). es ++ ys) apart ∙ append_assoc us vs ys in
        let s = split trusted places actor us (vs ++ ys) turns old new all ran in
        let did : AnswersFate (between choice trees next) l.line.fate l (events_of actor s.mine) (Ok reply) =
        subst (λ (es : List Event). AnswersFate (between choice trees next) l.line.fate l es (Ok reply)) (sym s.own) one in
        subst (λ (x : List Said). AreCut actor (l ∷ (front ++ others)) trees turns old new x) (sym is)
        (next, s.mine, s.others, s.mid, s.parts, s.led, s.leads, did, front-cut front others next left vs ys more s.others s.mid new s.rest s.leads rest)

    job-cut : (lines : List JobLine) (trees left : List Known) (said : List Said) (ended : Option Halt) (turns : List Turn) (old new : Machine) → Turned trusted places turns old new
        → DoesLines choice lines trees (events_of actor turns) said ended left → AreCut actor lines trees turns old new said
    job-cut lines trees left said None turns old new ran h =
        subst (λ (ls : List JobLine). AreCut actor ls trees turns old new said) (append-nil lines)
        (front-cut lines [] trees left (events_of actor turns) [] said turns old new (sym (append-nil (events_of actor turns))) ran h)
    job-cut lines trees left said (Some how) turns old new ran (front, l, back, mid, is, (xs, ys, cut, answered, ended)) =
        subst (λ (ls : List JobLine). AreCut actor ls trees turns old new said) (sym is) (front-cut front (l ∷ back) trees mid xs ys said turns old new cut ran answered)

  pub jobs-cut : (all : List Placed) (job first : ℕ) (turns : List Turn) (old new : Machine) (trees : List (List Known)) (came : List Came) → Turned trusted places turns old new → AreDone choice all job first turns trees came
      → JobsCut all job first turns old new trees came
  jobs-cut all job first turns old new [] [] ran h = tt
  jobs-cut all job first turns old new (own ∷ trees) [] ran h = tt
  jobs-cut all job first turns old new [] (c ∷ came) ran h = tt
  jobs-cut all job first turns old new (own ∷ trees) (c ∷ came) ran (one, later) =
      (job-cut (first + job) (lines_of all job all) own c.left c.said c.ended turns old new ran one, jobs-cut all (job + 1) first turns old new trees came ran later)

  -- ---- each is complete

  fate-complete : (actor : ℕ) (k : Client) (fate : Fate) (l : JobLine) (reply : Answer × Option Refusal) (turns : List Turn) (old new : Machine) → AreSound old.core → Turned trusted places turns old new
      → AnswersFate k fate l (events_of actor turns) (Ok reply) → FateComplete trusted places actor k fate l turns old new reply.0
  fate-complete actor k Beyond l reply turns old new sound ran h = tt
  fate-complete actor k (Done tree) l reply turns old new sound ran h = line-complete trusted places actor k l.in_use l.line.number (line_in true l.line.text) reply.0 reply.1 turns old new ran sound h.1 h.0

  -- the state at which one line's turns end is sound as the one at which they began
  lines-complete : (actor : ℕ) (lines : List JobLine) (trees : List Known) (turns : List Turn) (old new : Machine) (said : List Said) → AreSound old.core → AreCut actor lines trees turns old new said
      → AreComplete trusted places actor choice lines trees turns old new said
  lines-complete actor lines trees turns old new [] sound h = tt
  lines-complete actor [] trees turns old new (s ∷ said) sound h = absurd h
  lines-complete actor (l ∷ lines) trees turns old new (s ∷ said) sound (mid, mine, others, next, parts, led, leads, did, rest) = (
    mid,
    mine,
    others,
    next,
    parts,
    led,
    leads,
    did,
    fate-complete actor (between choice trees mid) l.line.fate l (s.reply, s.why) mine old next sound led did,
    lines-complete actor lines mid others next new said (turned-sound trusted places mine old next led sound) rest,
  )

  all-complete : (all : List Placed) (job first : ℕ) (turns : List Turn) (old new : Machine) (trees : List (List Known)) (came : List Came) → AreSound old.core → JobsCut all job first turns old new trees came
      → JobsComplete trusted places choice all job first turns old new trees came
  all-complete all job first turns old new [] [] sound h = tt
  all-complete all job first turns old new (own ∷ trees) [] sound h = tt
  all-complete all job first turns old new [] (c ∷ came) sound h = tt
  all-complete all job first turns old new (own ∷ trees) (c ∷ came) sound (one, later) =
      (lines-complete (first + job) (lines_of all job all) own turns old new c.said sound one, all-complete all (job + 1) first turns old new trees came sound later)

  pub jobs-complete : (all : List Placed) (job first : ℕ) (turns : List Turn) (old new : Machine) (trees : List (List Known)) (came : List Came) → HasSoundRows (database old) → Turned trusted places turns old new
      → AreDone choice all job first turns trees came → JobsComplete trusted places choice all job first turns old new trees came
  jobs-complete all job first turns old new trees came sound ran h = all-complete all job first turns old new trees came (λ free. sound) (jobs-cut all job first turns old new trees came ran h)
