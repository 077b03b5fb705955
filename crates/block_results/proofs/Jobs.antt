-- Each line of a job that was answered holds, and what is said of one at which the run ended.
use Rattle.std.proofs.Common.{◌≡◌, ◌+◌, ℕ, List, [], ◌∷◌, ◌++◌, Option, None, Some, Ok, Err, refl, sym, ap, subst, ◌∙◌, append_assoc, true}
use Rattle.std.proofs.lemmas.List.{append-nil}
use Rattle.choosers.specs.declared.rule.Rule.{Rule}
use Rattle.blocks.specs.Shapes.{Placed}
use Rattle.blocks.specs.declared.block.Fate.{Fate}
use Rattle.blocks.specs.declared.block.Fate.TheVariants.{Beyond, Done}
use Rattle.kinds.specs.declared.refusal.Refusal.{Refusal}
use Rattle.script_loop.specs.Reply.{Answer}
use Rattle.script_loop.specs.declared.ends.Halt.{Halt}
use Rattle.steps.specs.Events.{Event}
use Rattle.machine.specs.Fits.{Fits, History, Own as Holding}
use Rattle.machine.specs.State.{Core, Image as Picture, Ticket, own_image, own_tickets}
use Rattle.machine.specs.Turns.{Turn, events_of, own_in}
use Rattle.line_results.specs.command_steps.Clients.{Client, Known}
use Rattle.line_results.specs.command_steps.Lines.{line_in}
use Rattle.line_jobs.specs.Jobs.{AnswersFate, AreAnswered, DoesLines, JobLine, between, lines_of}
use Rattle.line_jobs.specs.Shares.{AreDone, Came}
use Rattle.line_jobs.specs.declared.job.Said.{Said}
use Rattle.block_results.specs.Ended.{FateEnded}
use Rattle.block_results.specs.Jobs.{AreHeld, FateHolds, JobsHold, nothing_at}
use Rattle.block_results.proofs.Ended.{line-ended}
use Rattle.block_results.proofs.Fitting.{fits-parts}
use Rattle.block_results.proofs.Lines.{fits-nothing, line-holds}

pub fate-holds : (w : History) (actor : ℕ) (k : Client) (fate : Fate) (l : JobLine) (events : List Event) (reply : Answer × Option Refusal) (old new : Holding) → old.tickets ≡ [] → Fits w actor old events new → AnswersFate k fate l events (Ok reply)
    → FateHolds w actor k fate l old events reply.0 new
fate-holds w actor k Beyond l events reply old new free f (kept, none, is) = (kept, none, fits-nothing w actor old new events none f, ap (λ (r : Answer × Option Refusal). r.0) is)
fate-holds w actor k (Done tree) l events reply old new free f h = line-holds w actor k l.in_use l.line.number (line_in true l.line.text) events reply.0 reply.1 old new free f h.0

pub fate-ended : (w : History) (actor : ℕ) (k : Client) (fate : Fate) (l : JobLine) (events : List Event) (how : Halt) (old new : Holding) → old.tickets ≡ [] → Fits w actor old events new → AnswersFate k fate l events (Err how)
    → FateEnded w actor k fate l old events new
fate-ended w actor k Beyond l events how old new free f (kept, none, is) = none
fate-ended w actor k (Done tree) l events how old new free f h = line-ended w actor k l.in_use l.line.number (line_in true l.line.text) events how old new free f h.0

pub fate-none : (w : History) (actor : ℕ) (k : Client) (fate : Fate) (l : JobLine) (events : List Event) (answer : Answer) (old new : Holding) → old.tickets ≡ [] → FateHolds w actor k fate l old events answer new → new.tickets ≡ []
fate-none w actor k Beyond l events answer old new free (kept, none, same, is) = ap (λ (o : Holding). o.tickets) same ∙ free
fate-none w actor k (Done tree) l events answer old new free h = h.tickets

module _ (w : History) (actor : ℕ) (choice : List Rule) where
  -- some of its lines, in front of others
  front-held : (front others : List JobLine) (trees mids left : List Known) (events xs ys : List Event) (said : List Said) (ended : Option Halt) (old mid : Holding) → old.tickets ≡ [] → events ≡ xs ++ ys → Fits w actor old xs mid
      → AreAnswered choice front trees xs said mids → (mid.tickets ≡ [] → AreHeld w actor choice others mids left mid ys [] ended) → AreHeld w actor choice (front ++ others) trees left old events said ended
  front-held [] others trees mids left events xs ys said ended old mid free cut f (none, is, same) rest =
      let still = fits-nothing w actor old mid xs none f in
      let all : ys ≡ events = sym (cut ∙ ap (λ (es : List Event). es ++ ys) none) in
      let first = subst (λ (ts : List Known). AreHeld w actor choice others ts left mid ys [] ended) same (rest (ap (λ (o : Holding). o.tickets) still ∙ free)) in
      let second = subst (λ (o : Holding). AreHeld w actor choice others trees left o ys [] ended) still first in
      subst (λ (s : List Said). AreHeld w actor choice others trees left old events s ended) (sym is) (subst (λ (es : List Event). AreHeld w actor choice others trees left old es [] ended) all second)
  front-held (l ∷ front) others trees mids left events xs ys said ended old mid free cut f (reply, next, more, is, (us, vs, apart, one, rest)) behind =
      let parts = fits-parts w actor old mid xs us vs apart f in
      let holds = fate-holds w actor (between choice trees next) l.line.fate l us reply old parts.0 free parts.1 one in
      subst (λ (s : List Said). AreHeld w actor choice (l ∷ (front ++ others)) trees left old events s ended) (sym is) (
        next,
        parts.0,
        us,
        vs ++ ys,
        cut ∙ ap (λ (es : List Event). es ++ ys) apart ∙ append_assoc us vs ys,
        holds,
        front-held front others next mids left (vs ++ ys) vs ys more ended parts.0 mid (fate-none w actor (between choice trees next) l.line.fate l us reply.0 old parts.0 free holds) refl parts.2 rest behind,
      )

  pub job-held : (lines : List JobLine) (trees left : List Known) (events : List Event) (said : List Said) (ended : Option Halt) (old new : Holding) → old.tickets ≡ [] → Fits w actor old events new → DoesLines choice lines trees events said ended left
      → AreHeld w actor choice lines trees left old events said ended
  job-held lines trees left events said None old new free f h =
      subst (λ (ls : List JobLine). AreHeld w actor choice ls trees left old events said None) (append-nil lines)
      (front-held lines [] trees left left events events [] said None old new free (sym (append-nil events)) f h (λ free. refl))
  job-held lines trees left events said (Some how) old new free f (front, l, back, mid, is, (xs, ys, cut, answered, ended)) =
      let parts = fits-parts w actor old new events xs ys cut f in
      subst (λ (ls : List JobLine). AreHeld w actor choice ls trees left old events said (Some how)) (sym is)
      (front-held front (l ∷ back) trees mid left events xs ys said (Some how) old parts.0 free cut parts.1 answered
      (λ none. (new, parts.2, fate-ended w actor (between choice mid left) l.line.fate l ys how parts.0 new none parts.2 ended)))

-- each of these jobs
pub jobs-held : (w : History) (choice : List Rule) (all : List Placed) (job first reached : ℕ) (turns : List Turn) (trees : List (List Known)) (came : List Came)
    → ((actor : ℕ) → (last : Holding) × Fits w actor (nothing_at reached) (events_of actor turns) last) → AreDone choice all job first turns trees came → JobsHold w choice all job first reached turns trees came
jobs-held w choice all job first reached turns [] came fits h = tt
jobs-held w choice all job first reached turns (own ∷ trees) [] fits h = tt
jobs-held w choice all job first reached turns (own ∷ trees) (c ∷ came) fits (one, later) =
    let f = fits (first + job) in
    (job-held w (first + job) choice (lines_of all job all) own c.left (events_of (first + job) turns) c.said c.ended (nothing_at reached) f.0 refl f.1 one, jobs-held w choice all (job + 1) first reached turns trees came fits later)

-- ---- where nothing is in progress

abbrev has : (reached : ℕ) → List Ticket → Option Picture → Holding
has reached tickets image = record { reached = reached; tickets = tickets; image = image }

pub nothing-in : (actor reached : ℕ) (c : Core) → c.tickets ≡ [] → c.image ≡ None → own_in actor reached c ≡ nothing_at reached
nothing-in actor reached c tickets image =
    ap (λ (ts : List Ticket). has reached (own_tickets actor ts) (own_image actor c.image)) tickets ∙ ap (λ (i : Option Picture). has reached [] (own_image actor i)) image

-- the jobs of a block that begins where nothing is in progress
pub block-held : (w : History) (choice : List Rule) (all : List Placed) (first reached : ℕ) (c : Core) (turns : List Turn) (trees : List (List Known)) (came : List Came) → c.tickets ≡ [] → c.image ≡ None
    → ((actor : ℕ) → (last : Holding) × Fits w actor (own_in actor reached c) (events_of actor turns) last) → AreDone choice all 0 first turns trees came → JobsHold w choice all 0 first reached turns trees came
block-held w choice all first reached c turns trees came tickets image fits h =
    jobs-held w choice all 0 first reached turns trees came
    (λ actor. (let f = fits actor in (f.0, subst (λ (o : Holding). Fits w actor o (events_of actor turns) f.0) (nothing-in actor reached c tickets image) f.1))) h
