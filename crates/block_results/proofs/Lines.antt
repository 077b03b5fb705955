-- A line of a job that was answered holds, clause by clause.
use Rattle.std.proofs.Common.{◌≡◌, false, inl, inr, ℕ, List, [], ◌∷◌, ◌++◌, Option, None, Some, Result, Ok, Err, refl, sym, ap, subst, ◌∙◌}
use Rattle.std.proofs.lemmas.List.{append-nil}
use Rattle.std.specs.List.{AllByRecursion}
use Rattle.kinds.specs.declared.refusal.Refusal.{Refusal}
use Rattle.kinds.specs.declared.refusal.Refusal.TheVariants as refused
use Rattle.inventory_answers.specs.declared.query.Query.{Query}
use Rattle.inventory_answers.specs.declared.reply.Answer as rows
use Rattle.admin_words.specs.declared.command.Command.{Command}
use Rattle.admin_commands.specs.Orders.{needs, work_of}
use Rattle.admin_commands.specs.declared.work.Work.{Work}
use Rattle.admin_commands.specs.declared.work.Work.TheVariants.{Commit, Run, Show}
use Rattle.line_results.specs.incrementals.Orders.{AreQuestions, IsQuestion}
use Rattle.script_loop.specs.Reply.{Answer}
use Rattle.machine.proofs.Runs.{fits-none, fits-rises}
use Rattle.machine.specs.Fits.{Fits, History, Own as Holding}
use Rattle.line_results.proofs.of_sessions.Causes.{made-all, then-all}
use Rattle.line_results.proofs.of_sessions.Changed.{two-none}
use Rattle.line_results.specs.sessions.InTurn.{OrMemory}
use Rattle.steps.specs.Events.{Deed, Event}
use Rattle.steps.specs.Receipts.{is_made, made}
use Rattle.steps.specs.Events.Deed.{Ask}
use Rattle.line_results.specs.command_steps.Answering.{DoesLine}
use Rattle.line_results.specs.command_steps.Answers.{Ends, nothing, refusal}
use Rattle.line_results.specs.command_steps.Behind.{behind}
use Rattle.line_results.specs.command_steps.Clients.{Client, IsKept}
use Rattle.line_results.specs.command_steps.Doing.{Asked, AsksAll, Does, DoesOwn, DoesWork, Doing, WorksOrWants}
use Rattle.line_results.specs.command_steps.Jobs.{AnswersInJob, DoesInJob, Withholds}
use Rattle.line_results.specs.command_steps.Leaving.{ChangesOnly, named_by}
use Rattle.line_results.specs.command_steps.Lines.{Line, asks, comment, refused as refused_line}
use Rattle.line_results.specs.command_steps.Owns.{OnTree, Own, on_tree, own_of, tree_of}
use Rattle.line_results.specs.command_steps.Trees.{DoesThere}
use Rattle.line_results.specs.command_steps.declared.outcome.Outcome.{Outcome}
use Rattle.line_results.proofs.Mild.{IsMild}
use Rattle.line_results.proofs.Needs.{IsPlainWork, work-plain}
use Rattle.block_results.specs.Clauses.{CommandHolds, Holds, IsWithheld, answer_by, orders}
use Rattle.block_results.specs.Standing.{WorkAt}
use Rattle.block_results.proofs.Acked.{AreAcked, acked-receipts, all-acked, both-acked, command-acked}
use Rattle.block_results.proofs.Came.{Said}
use Rattle.block_results.proofs.Entering.{all-so, entered-none, none-made}
use Rattle.block_results.proofs.Fitting.{fits-parts}
use Rattle.block_results.proofs.Journal.{command-entered}
use Rattle.block_results.proofs.Leaving.{follows-none, looks-none, work-none}
use Rattle.block_results.proofs.Looking.{work-found, work-refused}
use Rattle.block_results.proofs.Mild.{came-mild, not-memory}
use Rattle.block_results.proofs.Owned.{work-came}

-- ---- answers

said-mild : (n : ℕ) (said : Said) (reply : Answer × Option Refusal) → Ends n said (Ok reply) → IsMild said
said-mild n (Ok it) reply h = tt
said-mild n (Err e) reply h = h.0

said-answer : (n : ℕ) (said : Said) (answer : Answer) (why : Option Refusal) → Ends n said (Ok (answer, why)) → answer ≡ answer_by n said
said-answer n (Ok it) answer why h = ap (λ (r : Answer × Option Refusal). r.0) h
said-answer n (Err e) answer why h = ap (λ (r : Answer × Option Refusal). r.0) h.1

-- ---- no step

pub fits-nothing : (w : History) (actor : ℕ) (a b : Holding) (events : List Event) → events ≡ [] → Fits w actor a events b → b ≡ a
unfolding Fits
fits-nothing w actor a b [] none f = f
fits-nothing w actor a b (e ∷ events) none f = absurd cc

-- ---- trees

kept-only : (named : Option ℕ) (k : Client) → IsKept k → ChangesOnly named k
kept-only None k h = h
kept-only (Some number) k h = inl h

there-only : (k : Client) (work : OnTree) (events : List Event) (r : Said) → DoesThere k work events r → ChangesOnly (Some (tree_of work)) k
there-only k work events r (inl (before, after, turns, does)) = inr (before, after, turns)
there-only k work events r (inr (missing, kept, none, is)) = inl kept

own-only : (k : Client) (own : Own) (numbers : List ℕ) (events : List Event) (r : Said) → DoesOwn k own numbers events r → ChangesOnly (named_by own) k
own-only k (on_tree work) numbers events r h = there-only k work events r h
own-only k own numbers events r h = kept-only (named_by own) k h.0

does-only : (k : Client) (c : Command) (work : Work) (events : List Event) (r : Said) → Does k c work events r → ChangesOnly (named_by (own_of c)) k
does-only k c (Commit what) events r h = kept-only (named_by (own_of c)) k h.0
does-only k c (Show q) events r h = kept-only (named_by (own_of c)) k h.0
does-only k c (Run numbers) events r h = own-only k (own_of c) numbers events r h

works-only : (k : Client) (c : Command) (work : Result Work Refusal) (events : List Event) (r : Said) → WorksOrWants k c work events r → ChangesOnly (named_by (own_of c)) k
works-only k c (Ok work) events r (inl (came, (xs, ys, cut, does, ends))) = does-only k c work xs came does
works-only k c (Err why) events r (inl h) = kept-only (named_by (own_of c)) k h.0
works-only k c work events r (inr h) = kept-only (named_by (own_of c)) k h.0

doing-only : (k : Client) (c : Command) (events : List Event) (r : Said) → Doing k c events r → ChangesOnly (named_by (own_of c)) k
doing-only k c events r (inl (e, kept, looks, is)) = kept-only (named_by (own_of c)) k kept
doing-only k c events r (inr (answers, (xs, ys, cut, looks, works))) = works-only k c (work_of c answers) ys r works

-- ---- look-ups

asked-questions : (queries : List Query) (answers : List rows.Answer) (events : List Event) → Asked queries answers events → AreQuestions events
asked-questions [] [] events h = subst AreQuestions (sym h) tt
asked-questions [] (x ∷ answers) events h = absurd h
asked-questions (q ∷ queries) [] events h = absurd h
asked-questions (q ∷ queries) (x ∷ answers) events (xs, ys, cut, step, next) =
    then-all (λ e. IsQuestion e.deed) events xs ys cut (made-all (λ e. IsQuestion e.deed) (Ask q (Ok x)) xs (inl step) (λ n. tt)) (asked-questions queries answers ys next)

pub looks-questions : (queries : List Query) (events : List Event) (r : Result (List rows.Answer) Refusal) → OrMemory (AsksAll queries) events r → AreQuestions events
looks-questions queries events (Ok answers) (inl h) = asked-questions queries answers events h
looks-questions queries events (Err e) (inl (front, answers, inl (q, rest, same, (xs, ys, cut, asked, made)))) =
    then-all (λ e. IsQuestion e.deed) events xs ys cut (asked-questions front answers xs asked) (made-all (λ e. IsQuestion e.deed) (Ask q (Err e)) ys made (λ n. tt))
looks-questions queries events (Err e) (inl (front, answers, inr (rest, same, asked, wanted))) = asked-questions front answers events asked
looks-questions queries events r (inr (none, is)) = subst AreQuestions (sym none) tt

question-unmade : (d : Deed) → IsQuestion d → is_made d ≡ false
question-unmade (Ask q answer) h = refl
question-unmade d h = absurd h

pub questions-unmade : (events : List Event) → AreQuestions events → AllByRecursion (λ e. is_made e.deed ≡ false) events
questions-unmade events h = all-so (λ e. IsQuestion e.deed) (λ e. is_made e.deed ≡ false) (λ e q. question-unmade e.deed q) events h

pub questions-made : (events : List Event) → AreQuestions events → made events ≡ []
questions-made events h = none-made events (questions-unmade events h)

-- ---- a command

never-ok : (r : Said) (e : Refusal) (it : Outcome) → r ≡ Err e → r ≡ Ok it → ⊥
never-ok r e it is same = let both : ◌≡◌ {A = Said} (Err e) (Ok it) = sym is ∙ same in cc

err-same : (r : Said) (e why : Refusal) → r ≡ Err e → r ≡ Err why → why ≡ e
err-same r e why is same = let both : ◌≡◌ {A = Said} (Err e) (Err why) = sym is ∙ same in cc

module _ (w : History) (actor : ℕ) (k : Client) (n : ℕ) (c : Command) (old new : Holding) (answer : Answer) where
  -- it was refused before its work
  refused-holds : (looks works : List Event) (events : List Event) (why : Refusal) (said : Said) (mid : Holding) → AreQuestions looks → events ≡ looks ++ works → works ≡ [] → said ≡ Err why → WorkAt w old.reached mid.reached c (Err why)
      → Fits w actor old looks mid → Fits w actor mid works new → answer ≡ answer_by n said → CommandHolds w actor k n c old events answer new
  refused-holds looks works events why said mid questions cut none is found f g answered = record {
    looks = looks;
    works = works;
    follows = [];
    parts = cut ∙ ap (λ (l : List Event). looks ++ l) (sym (append-nil works));
    asked = mid;
    done = new;
    looked = f;
    worked = g;
    followed = fits-none w actor new;
    work = Err why;
    found = found;
    came = said;
    said = said;
    ends = (refl, refl);
    answered = answered;
    acknowledged = acked-receipts events (both-acked events looks works cut (all-acked looks (questions-unmade looks questions)) (subst AreAcked (sym none) tt));
    journal = entered-none w actor (orders w mid.reached new.reached k c (Err why)) events (two-none events looks works cut (questions-made looks questions) (ap made none));
    shows = λ it same. absurd (never-ok said why it is same);
    causes = λ e same. err-same said why e is same;
    did = λ it same. absurd (never-ok said why it is same);
  }

  works-holds : (looks ys : List Event) (events : List Event) (work : Result Work Refusal) (said : Said) (mid : Holding) → mid.tickets ≡ [] → AreQuestions looks → IsPlainWork work → IsMild said → events ≡ looks ++ ys → WorkAt w old.reached mid.reached c work
      → Fits w actor old looks mid → Fits w actor mid ys new → DoesWork k c work ys said → answer ≡ answer_by n said → CommandHolds w actor k n c old events answer new
  works-holds looks ys events (Err why) said mid free questions plain m cut found f g (kept, none, is) answered = refused-holds looks ys events why said mid questions cut none is found f g answered
  works-holds looks ys events (Ok work) said mid free questions plain m cut found f g (came, (us, vs, apart, does, ends)) answered =
      let parts = fits-parts w actor mid new ys us vs apart g in
      let h = work-came w actor k mid parts.0 us parts.1 c work came plain (came-mild (Ok work) (behind c) came vs said ends m) does in
      record {
        looks = looks;
        works = us;
        follows = vs;
        parts = cut ∙ ap (λ (l : List Event). looks ++ l) apart;
        asked = mid;
        done = parts.0;
        looked = f;
        worked = parts.1;
        followed = parts.2;
        work = Ok work;
        found = found;
        came = came;
        said = said;
        ends = ends;
        answered = answered;
        acknowledged =
            acked-receipts events
            (command-acked k c work events looks us vs came said (cut ∙ ap (λ (l : List Event). looks ++ l) apart) (questions-unmade looks questions) (came-mild (Ok work) (behind c) came vs said ends m) m does ends);
        journal = command-entered w actor k c work new.reached events looks us vs came said mid parts.0 new (fits-rises w actor parts.0 new vs parts.2) (cut ∙ ap (λ (l : List Event). looks ++ l) apart) (questions-unmade looks questions) free does ends parts.1 parts.2;
        shows = h.shows;
        causes = h.causes;
        did = λ it same. h.did it same free;
      }

  command-holds : (events : List Event) (said : Said) → old.tickets ≡ [] → IsMild said → answer ≡ answer_by n said → Doing k c events said → Fits w actor old events new → CommandHolds w actor k n c old events answer new
  command-holds events said free m answered (inl (e, kept, looks, is)) f =
      refused-holds events [] events e said new (looks-questions (needs c) events (Err e) looks) (sym (append-nil events)) refl is (work-refused w actor c e events old new (subst (λ (x : Said). IsMild x) is m) looks f) f (fits-none w actor new) answered
  command-holds events said free m answered (inr (answers, (xs, ys, cut, looks, inl works))) f =
      let parts = fits-parts w actor old new events xs ys cut f in
      works-holds xs ys events (work_of c answers) said parts.0 (looks-none w actor xs old parts.0 free (looks-questions (needs c) xs (Ok answers) looks) parts.1) (looks-questions (needs c) xs (Ok answers) looks) (work-plain c answers) m cut (work-found w actor c answers xs old parts.0 looks parts.1) parts.1 parts.2 works answered
  command-holds events said free m answered (inr (answers, (xs, ys, cut, looks, inr (kept, none, is)))) f = absurd (not-memory refused.Memory (subst (λ (x : Said). IsMild x) is m) refl)

-- ---- a command whose tree is withheld

withheld-holds : (w : History) (actor : ℕ) (k : Client) (number n : ℕ) (c : Command) (old new : Holding) (events : List Event) (answer : Answer) (said : Said) → IsMild said → answer ≡ answer_by n said → Withholds k number c events said
    → Fits w actor old events new → IsWithheld w actor k number n c old events answer new
withheld-holds w actor k number n c old new events answer said m answered (e, kept, is, inl looks) f = record {
  kept = kept;
  work = Err e;
  found = work-refused w actor c e events old new (subst (λ (x : Said). IsMild x) is m) looks f;
  answered = answered ∙ ap (answer_by n) is;
  none = looks-questions (needs c) events (Err e) looks;
}
withheld-holds w actor k number n c old new events answer said m answered (e, kept, is, inr (answers, looks, inl wanted)) f = absurd (not-memory e (subst (λ (x : Said). IsMild x) is m) wanted)
withheld-holds w actor k number n c old new events answer said m answered (e, kept, is, inr (answers, looks, inr same)) f = record {
  kept = kept;
  work = work_of c answers;
  found = work-found w actor c answers events old new looks f;
  answered = answered ∙ ap (answer_by n) is ∙ ap (refusal n) same;
  none = looks-questions (needs c) events (Ok answers) looks;
}

pub withheld-questions : (k : Client) (number : ℕ) (c : Command) (events : List Event) (said : Said) → Withholds k number c events said → AreQuestions events
withheld-questions k number c events said (e, kept, is, inl looks) = looks-questions (needs c) events (Err e) looks
withheld-questions k number c events said (e, kept, is, inr (answers, looks, why)) = looks-questions (needs c) events (Ok answers) looks

-- ---- tickets

works-none : (w : History) (actor : ℕ) (k : Client) (c : Command) (work : Result Work Refusal) (events : List Event) (said : Said) (a b : Holding) → a.tickets ≡ [] → IsMild said → DoesWork k c work events said → Fits w actor a events b → b.tickets ≡ []
works-none w actor k c (Err why) events said a b free m (kept, none, is) f = ap (λ (o : Holding). o.tickets) (fits-nothing w actor a b events none f) ∙ free
works-none w actor k c (Ok work) events said a b free m (came, (us, vs, apart, does, ends)) f =
    let parts = fits-parts w actor a b events us vs apart f in
    follows-none w actor (behind c) came said vs parts.0 b (work-none w actor k a parts.0 free us parts.1 c work came (came-mild (Ok work) (behind c) came vs said ends m) does) ends parts.2

command-none : (w : History) (actor : ℕ) (k : Client) (c : Command) (events : List Event) (said : Said) (old new : Holding) → old.tickets ≡ [] → IsMild said → Doing k c events said → Fits w actor old events new → new.tickets ≡ []
command-none w actor k c events said old new free m (inl (e, kept, looks, is)) f = looks-none w actor events old new free (looks-questions (needs c) events (Err e) looks) f
command-none w actor k c events said old new free m (inr (answers, (xs, ys, cut, looks, inl works))) f =
    let parts = fits-parts w actor old new events xs ys cut f in
    works-none w actor k c (work_of c answers) ys said parts.0 new (looks-none w actor xs old parts.0 free (looks-questions (needs c) xs (Ok answers) looks) parts.1) m works parts.2
command-none w actor k c events said old new free m (inr (answers, (xs, ys, cut, looks, inr (kept, none, is)))) f = absurd (not-memory refused.Memory (subst (λ (x : Said). IsMild x) is m) refl)

-- ---- a line

module _ (w : History) (actor : ℕ) (k : Client) (n : ℕ) (events : List Event) (answer : Answer) (why : Option Refusal) (old new : Holding) (free : old.tickets ≡ []) (f : Fits w actor old events new) where
  comment-holds : (in_use : Option ℕ) → DoesLine k n comment events (Ok (answer, why)) → Holds w actor k in_use n comment old events answer new
  comment-holds in_use (kept, none, is) = record {
    clauses = (kept, none, fits-nothing w actor old new events none f, (let same : ◌≡◌ {A = Answer × Option Refusal} (answer, why) (nothing, None) = cc in ap (λ (r : Answer × Option Refusal). r.0) same));
    trees = kept;
    tickets = ap (λ (o : Holding). o.tickets) (fits-nothing w actor old new events none f) ∙ free;
  }

  refused-line-holds : (in_use : Option ℕ) (given : Refusal) → DoesLine k n (refused_line given) events (Ok (answer, why)) → Holds w actor k in_use n (refused_line given) old events answer new
  refused-line-holds in_use given (kept, none, is) = record { clauses = (kept, none, fits-nothing w actor old new events none f, ap (λ (r : Answer × Option Refusal). r.0) is); trees = kept; tickets = ap (λ (o : Holding). o.tickets) (fits-nothing w actor old new events none f) ∙ free }

  in-job-holds : (in_use : Option ℕ) (line : Line) → DoesInJob k in_use n line events (Ok (answer, why)) → Holds w actor k in_use n line old events answer new
  in-job-holds None comment h = comment-holds None h
  in-job-holds (Some number) comment h = comment-holds (Some number) h
  in-job-holds None (refused_line given) h = refused-line-holds None given h
  in-job-holds (Some number) (refused_line given) h = refused-line-holds (Some number) given h
  in-job-holds None (asks c) (said, doing, ends) = record {
    clauses = command-holds w actor k n c old new answer events said free (said-mild n said (answer, why) ends) (said-answer n said answer why ends) doing f;
    trees = doing-only k c events said doing;
    tickets = command-none w actor k c events said old new free (said-mild n said (answer, why) ends) doing f;
  }
  in-job-holds (Some number) (asks c) (said, withholds, ends) = record {
    clauses = withheld-holds w actor k number n c old new events answer said (said-mild n said (answer, why) ends) (said-answer n said answer why ends) withholds f;
    trees = kept-only (named_by (own_of c)) k withholds.1;
    tickets = looks-none w actor events old new free (withheld-questions k number c events said withholds) f;
  }

pub line-holds : (w : History) (actor : ℕ) (k : Client) (in_use : Option ℕ) (n : ℕ) (line : Line) (events : List Event) (answer : Answer) (why : Option Refusal) (old new : Holding) → old.tickets ≡ []
    → Fits w actor old events new → AnswersInJob k in_use n line events (Ok (answer, why)) → Holds w actor k in_use n line old events answer new
line-holds w actor k in_use n line events answer why old new free f (inl h) = in-job-holds w actor k n events answer why old new free f in_use line h
line-holds w actor k in_use n line events answer why old new free f (inr (kept, none, is)) = absurd cc
