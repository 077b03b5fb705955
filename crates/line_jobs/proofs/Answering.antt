-- Lines of a job, one after the other.
use Rattle.std.proofs.Common.{◌≡◌, ◌⊎◌, inl, inr, ℕ, zero, suc, ◌+◌, ◌<◌, ◌==◌, Bool, true, false, if◌then◌else◌, List, [], ◌∷◌, ◌++◌, length, get_or, take, drop, Option, None, Some, Result, Ok, Err, IfOk, refl, sym, ap, subst, ◌∙◌, append_assoc, arith}
use Rattle.std.proofs.lemmas.List.{append-nil}
use Rattle.kinds.specs.declared.refusal.Refusal.{Refusal}
use Rattle.choosers.specs.declared.rule.Rule.{Rule}
use Rattle.script_loop.specs.Reply.{Answer}
use Rattle.script_loop.specs.declared.ends.Halt.{Halt}
use Rattle.script_loop.specs.declared.ends.Halt.TheVariants.{Memory}
use Rattle.steps.proofs.Joining.{GoesOn, call_of_none, call_then, so_call}
use Rattle.steps.specs.Calls.{Call}
use Rattle.steps.specs.Events.{Event}
use Rattle.command_steps.specs.Answering.{DoesLine}
use Rattle.command_steps.specs.Answers.{Ends as EndsLine}
use Rattle.command_steps.specs.Clients.{Client, Known}
use Rattle.command_steps.specs.Jobs.{AnswersInJob, DoesInJob}
use Rattle.command_steps.specs.Lines.{Line, asks, comment, refused}
use Rattle.command_steps.specs.declared.outcome.Outcome.{Outcome}
use Rattle.blocks.specs.declared.block.Fate.{Fate}
use Rattle.blocks.specs.declared.block.Fate.TheVariants.{Beyond, Done}
use Rattle.blocks.specs.Shapes.{Placed}
use Rattle.blocks.specs.Trees.{in_use}
use Rattle.line_jobs.specs.Jobs.{AnswersFate, AnswersOne, AreAnswered, DoesLines, JobLine, Takes, between, is_held, lines_of, said_of}
use Rattle.line_jobs.specs.declared.job.Said.{Said}

-- ---- what a line came to

module _ {S : Type 0} (did : S → List Event → S → Type 0) (k : Client) (in_use : Option ℕ) (n : ℕ) (line : Line) where
  abbrev Answered : Type 0
  Answered = Result (Answer × Option Refusal) Halt

  wants-end : (said : Result Outcome Refusal) → EndsLine n said (Err Memory)
  wants-end (Ok it) = refl
  wants-end (Err e) = inr refl

  -- memory may be wanted for its printed line, whatever it did
  wants-line : (line : Line) (events : List Event) (said : Answered) → DoesLine k n line events said → AnswersInJob k None n line events (Err Memory)
  wants-line comment events said (kept, none, is) = inr (kept, none, refl)
  wants-line (refused why) events said (kept, none, is) = inr (kept, none, refl)
  wants-line (asks c) events said (outcome, doing, ends) = inl (outcome, doing, wants-end outcome)

  wants-in : (in_use : Option ℕ) (line : Line) (events : List Event) (said : Answered) → DoesInJob k in_use n line events said → AnswersInJob k in_use n line events (Err Memory)
  wants-in None line events said h = wants-line line events said h
  wants-in (Some number) comment events said (kept, none, is) = inr (kept, none, refl)
  wants-in (Some number) (refused why) events said (kept, none, is) = inr (kept, none, refl)
  wants-in (Some number) (asks c) events said (outcome, withholds, ends) = inl (outcome, withholds, wants-end outcome)

  wants-instead : (events : List Event) (said : Answered) → AnswersInJob k in_use n line events said → AnswersInJob k in_use n line events (Err Memory)
  wants-instead events said (inl h) = wants-in in_use line events said h
  wants-instead events said (inr (kept, none, is)) = inr (kept, none, refl)

  -- it is answered as it was, or memory was wanted
  pub settled : (p q : S) (said result : Answered) → (result ≡ said) ⊎ (result ≡ Err Memory) → IfOk result (λ reply. is_held reply.1 ≡ false) → Call did p q (λ events. AnswersInJob k in_use n line events said)
      → Call did p q (λ events. AnswersInJob k in_use n line events result × IfOk result (λ reply. is_held reply.1 ≡ false))
  settled p q said result (inl same) unheld a =
      so_call did (λ events. AnswersInJob k in_use n line events said) (λ events. AnswersInJob k in_use n line events result × IfOk result (λ reply. is_held reply.1 ≡ false)) p q a
      (λ xs f. (subst (λ (r : Answered). AnswersInJob k in_use n line xs r) (sym same) f, unheld))
  settled p q said result (inr wanted) unheld a =
      so_call did (λ events. AnswersInJob k in_use n line events said) (λ events. AnswersInJob k in_use n line events result × IfOk result (λ reply. is_held reply.1 ≡ false)) p q a
      (λ xs f. (subst (λ (r : Answered). AnswersInJob k in_use n line xs r) (sym wanted) (wants-instead xs said f), unheld))

-- ---- lists

next-line : (lines : List Placed) (i : ℕ) (d : Placed) → i < length lines → take (i + 1) lines ≡ take i lines ++ (get_or lines i d ∷ [])
next-line lines i d l = ap (λ (n : ℕ). take n lines) (let one : i + 1 ≡ suc i = omega arith in one) ∙ next lines i d l
  where
    next : (lines : List Placed) (i : ℕ) (d : Placed) → i < length lines → take (suc i) lines ≡ take i lines ++ (get_or lines i d ∷ [])
    next [] i d l = absurd (omega (arith, l))
    next (x ∷ lines) zero d l = refl
    next (x ∷ lines) (suc i) d l = ap (λ (xs : List Placed). x ∷ xs) (next lines i d (omega (arith, l)))

around : (lines : List Placed) (i : ℕ) (d : Placed) → i < length lines → lines ≡ take i lines ++ (get_or lines i d ∷ drop (suc i) lines)
around [] i d l = absurd (omega (arith, l))
around (x ∷ lines) zero d l = refl
around (x ∷ lines) (suc i) d l = ap (λ (xs : List Placed). x ∷ xs) (around lines i d (omega (arith, l)))

abbrev pub one_of : List Placed → Placed → JobLine
one_of all l = record { line = l; in_use = in_use all l }

module _ (all : List Placed) (job : ℕ) where
  by_own : (b : Bool) (x : JobLine) (front back whole : List JobLine) → whole ≡ front ++ back → (if b then x ∷ whole else whole) ≡ (if b then x ∷ front else front) ++ back
  by_own true x front back whole is = ap (λ (l : List JobLine). x ∷ l) is
  by_own false x front back whole is = is

  -- the job's lines of two runs of lines
  both : (front back : List Placed) → lines_of all job (front ++ back) ≡ lines_of all job front ++ lines_of all job back
  both [] back = refl
  both (x ∷ front) back = by_own (x.job == job) (one_of all x) (lines_of all job front) (lines_of all job back) (lines_of all job (front ++ back)) (both front back)

  own : (l : Placed) (back : List Placed) → (l.job == job) ≡ true → lines_of all job (l ∷ back) ≡ one_of all l ∷ lines_of all job back
  own l back is = ap (λ (b : Bool). if b then one_of all l ∷ lines_of all job back else lines_of all job back) is

  other : (l : Placed) (back : List Placed) → (l.job == job) ≡ false → lines_of all job (l ∷ back) ≡ lines_of all job back
  other l back is = ap (λ (b : Bool). if b then one_of all l ∷ lines_of all job back else lines_of all job back) is

module _ (choice : List Rule) where
  -- one line more was answered
  more : (lines : List JobLine) (l : JobLine) (old mid new : List Known) (xs ys : List Event) (said : List Said) (reply : Answer × Option Refusal) → AreAnswered choice lines old xs said mid
      → AnswersOne (between choice mid new) l ys (Ok reply) → AreAnswered choice (lines ++ (l ∷ [])) old (xs ++ ys) (said ++ (said_of l reply ∷ [])) new
  more [] l old mid new xs ys said reply (none, unsaid, same) answered = (
    reply,
    new,
    [],
    ap (λ (s : List Said). s ++ (said_of l reply ∷ [])) unsaid,
    (ys, [], ap (λ (e : List Event). e ++ ys) none ∙ sym (append-nil ys), subst (λ (t : List Known). AnswersOne (between choice t new) l ys (Ok reply)) same answered, (refl, refl, refl)),
  )
  more (first ∷ lines) l old mid new xs ys said reply (answer, state, others, said_is, (us, vs, cut, one, rest)) answered = (
    answer,
    state,
    others ++ (said_of l reply ∷ []),
    ap (λ (s : List Said). s ++ (said_of l reply ∷ [])) said_is,
    (us, vs ++ ys, ap (λ (e : List Event). e ++ ys) cut ∙ append_assoc us vs ys, one, more lines l state mid new vs ys others reply rest answered),
  )

  -- memory is wanted before a line
  wants-fate : (fate : Fate) (l : JobLine) (trees : List Known) → AnswersFate (between choice trees trees) fate l [] (Err Memory)
  wants-fate Beyond l trees = (refl, refl, refl)
  wants-fate (Done tree) l trees = (inr (refl, refl, refl), tt)

  -- ---- one line

  module _ {S : Type 0} (did : S → List Event → S → Type 0) (all : List Placed) where
    pub wants : (p : S) (l : Placed) (was now : List Said) (trees : List Known) → did p [] p → now ≡ was → (l.job == l.job) ≡ true → Call did p p (λ events. Takes choice all l.job l trees events was now (Err Memory) trees)
    wants p l was now trees stays same own = call_of_none did (λ events. Takes choice all l.job l trees events was now (Err Memory) trees) p p stays (own, wants-fate l.fate (one_of all l) trees, same)

    pub keeps : (p q : S) (l : Placed) (was now : List Said) (old new : List Known) (reply : Answer × Option Refusal) → now ≡ was ++ (said_of (one_of all l) reply ∷ []) → (l.job == l.job) ≡ true
        → Call did p q (λ events. AnswersOne (between choice old new) (one_of all l) events (Ok reply)) → Call did p q (λ events. Takes choice all l.job l old events was now (Ok tt) new)
    keeps p q l was now old new reply grown own a =
        so_call did (λ events. AnswersOne (between choice old new) (one_of all l) events (Ok reply)) (λ events. Takes choice all l.job l old events was now (Ok tt) new) p q a (λ xs f. inr (own, reply, f, grown))

    pub ends : (p q : S) (l : Placed) (was now : List Said) (old new : List Known) (how : Halt) → now ≡ was → (l.job == l.job) ≡ true → Call did p q (λ events. AnswersOne (between choice old new) (one_of all l) events (Err how))
        → Call did p q (λ events. Takes choice all l.job l old events was now (Err how) new)
    ends p q l was now old new how same own a =
        so_call did (λ events. AnswersOne (between choice old new) (one_of all l) events (Err how)) (λ events. Takes choice all l.job l old events was now (Err how) new) p q a (λ xs f. (own, f, same))

    pub passes : (p : S) (job : ℕ) (l : Placed) (said : List Said) (trees : List Known) → did p [] p → (l.job == job) ≡ false → Call did p p (λ events. Takes choice all job l trees events said said (Ok tt) trees)
    passes p job l said trees stays other = call_of_none did (λ events. Takes choice all job l trees events said said (Ok tt) trees) p p stays (inl (other, refl, refl, refl))

  -- ---- all lines

  module _ {S : Type 0} (did : S → List Event → S → Type 0) (goes : GoesOn did) (all : List Placed) (job : ℕ) (first : List Said) (old : List Known) where
    -- the job's lines among the first ones were answered, and what is said of them was added
    abbrev pub Has : (count : ℕ) → (now : List Said) → (mid : List Known) → List Event → Type 0
    Has count now mid events = (said : List Said) × (now ≡ first ++ said) × AreAnswered choice (lines_of all job (take count all)) old events said mid

    -- all were, up to one that ended the run, if one did
    abbrev pub Ends : (ended : Option Halt) → (now : List Said) → (new : List Known) → List Event → Type 0
    Ends ended now new events = (said : List Said) × (now ≡ first ++ said) × DoesLines choice (lines_of all job all) old events said ended new

    pub begins : (p : S) → did p [] p → Call did p p (λ events. Has 0 first old events)
    begins p stays = call_of_none did (λ events. Has 0 first old events) p p stays ([], sym (append-nil first), (refl, refl, refl))

    taken : (i : ℕ) (l d : Placed) → i < length all → l ≡ get_or all i d → lines_of all job (take (i + 1) all) ≡ lines_of all job (take i all) ++ lines_of all job (l ∷ [])
    taken i l d within is = ap (lines_of all job) (next-line all i d within ∙ ap (λ (x : Placed). take i all ++ (x ∷ [])) (sym is)) ∙ both all job (take i all) (l ∷ [])

    step : (i : ℕ) (l d : Placed) (was now : List Said) (mid new : List Known) (xs ys : List Event) → i < length all → l ≡ get_or all i d → Has i was mid xs → Takes choice all job l mid ys was now (Ok tt) new → Has (i + 1) now new (xs ++ ys)
    step i l d was now mid new xs ys within is (said, grown, are) (inl (other_one, none, same, kept)) = (
      said,
      same ∙ grown,
      subst (λ (ls : List JobLine). AreAnswered choice ls old (xs ++ ys) said new)
          (sym (taken i l d within is ∙ ap (λ (x : List JobLine). lines_of all job (take i all) ++ x) (other all job l [] other_one) ∙ append-nil (lines_of all job (take i all))))
          (subst (λ (e : List Event). AreAnswered choice (lines_of all job (take i all)) old (xs ++ e) said new) (sym none)
          (subst (λ (e : List Event). AreAnswered choice (lines_of all job (take i all)) old e said new) (sym (append-nil xs))
          (subst (λ (t : List Known). AreAnswered choice (lines_of all job (take i all)) old xs said t) (sym kept) are))),
    )
    step i l d was now mid new xs ys within is (said, grown, are) (inr (own_one, reply, answers, told)) = (
      said ++ (said_of (one_of all l) reply ∷ []),
      told ∙ ap (λ (s : List Said). s ++ (said_of (one_of all l) reply ∷ [])) grown ∙ append_assoc first said (said_of (one_of all l) reply ∷ []),
      subst (λ (ls : List JobLine). AreAnswered choice ls old (xs ++ ys) (said ++ (said_of (one_of all l) reply ∷ [])) new)
          (sym (taken i l d within is ∙ ap (λ (x : List JobLine). lines_of all job (take i all) ++ x) (own all job l [] own_one)))
          (more (lines_of all job (take i all)) (one_of all l) old mid new xs ys said reply are answers),
    )

    pub goes-on : (p q r : S) (i : ℕ) (l d : Placed) (was now : List Said) (mid new : List Known) → i < length all → l ≡ get_or all i d
        → Call did p q (λ events. Has i was mid events) → Call did q r (λ events. Takes choice all job l mid events was now (Ok tt) new) → Call did p r (λ events. Has (i + 1) now new events)
    goes-on p q r i l d was now mid new within is a b =
        call_then did goes (λ events. Has i was mid events) (λ events. Takes choice all job l mid events was now (Ok tt) new) (λ events. Has (i + 1) now new events) p q r a b
        (λ xs ys h f. step i l d was now mid new xs ys within is h f)

    pub ends-all : (p q : S) (i : ℕ) (now : List Said) (new : List Known) → take i all ≡ all → Call did p q (λ events. Has i now new events) → Call did p q (λ events. Ends None now new events)
    ends-all p q i now new whole a =
        so_call did (λ events. Has i now new events) (λ events. Ends None now new events) p q a (λ xs h. (h.0, h.1, subst (λ (ls : List Placed). AreAnswered choice (lines_of all job ls) old xs h.0 new) whole h.2))

    pub ends-at : (p q r : S) (i : ℕ) (l d : Placed) (was now : List Said) (mid new : List Known) (how : Halt) → i < length all → l ≡ get_or all i d → Call did p q (λ events. Has i was mid events)
        → Call did q r (λ events. Takes choice all job l mid events was now (Err how) new) → Call did p r (λ events. Ends (Some how) now new events)
    ends-at p q r i l d was now mid new how within is a b =
        call_then did goes (λ events. Has i was mid events) (λ events. Takes choice all job l mid events was now (Err how) new) (λ events. Ends (Some how) now new events) p q r a b
        (λ xs ys h f. (
          h.0,
          f.2 ∙ h.1,
          (
            lines_of all job (take i all),
            one_of all l,
            lines_of all job (drop (suc i) all),
            mid,
            ap (lines_of all job) (around all i d within ∙ ap (λ (x : Placed). take i all ++ (x ∷ drop (suc i) all)) (sym is)) ∙ both all job (take i all) (l ∷ drop (suc i) all)
                ∙ ap (λ (x : List JobLine). lines_of all job (take i all) ++ x) (own all job l (drop (suc i) all) f.0),
            (xs, ys, refl, h.2, f.1),
          ),
        ))
