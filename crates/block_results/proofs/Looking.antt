-- Look-ups in a history: what they are answered at their numbers, and so what a command asks for.
use Rattle.std.proofs.Common.{◌≡◌, inl, inr, ℕ, ◌≤◌, true, false, List, [], ◌∷◌, ◌++◌, None, Result, Ok, Err, refl, sym, ap, subst, ◌∙◌, arith}
use Rattle.std.proofs.lemmas.Option.{same_Some}
use Rattle.kinds.specs.declared.refusal.Refusal.{Refusal}
use Rattle.kinds.specs.declared.refusal.Refusal.TheVariants as refused
use Rattle.inventory_rows.specs.State.{Inv}
use Rattle.inventory_answers.specs.Answered.{answered}
use Rattle.inventory_answers.specs.declared.query.Query.{Query}
use Rattle.inventory_answers.specs.declared.query.Query.TheVariants as query
use Rattle.inventory_answers.specs.declared.reply.Answer.{Answer}
use Rattle.admin_words.specs.declared.command.Command.{Command}
use Rattle.admin_commands.specs.Orders.{needs, work_of}
use Rattle.machine.proofs.Runs.{fits-rises}
use Rattle.machine.specs.Fits.{Fits, History, Own, Step, inv}
use Rattle.machine.specs.Machine.{IsAnswer, answer_with}
use Rattle.machine.specs.Says.{Says, is_elsewhere}
use Rattle.line_results.proofs.of_sessions.Got.{step-between}
use Rattle.line_results.specs.sessions.InTurn.{OrMemory}
use Rattle.steps.specs.Calls.{Made}
use Rattle.steps.specs.Events.{Event, event, has_number, is_listed}
use Rattle.steps.specs.Events.Deed.{Ask}
use Rattle.line_results.specs.command_steps.Answers.{halt_by}
use Rattle.line_results.specs.command_steps.Doing.{Asked, AsksAll}
use Rattle.line_results.proofs.Asked.{AreUnlogged, is_log, refused-of}
use Rattle.line_results.proofs.Mild.{IsMild}
use Rattle.line_results.proofs.Needs.{needs-unlogged}
use Rattle.block_results.specs.Standing.{AnswersTo, At, WorkAt}
use Rattle.block_results.proofs.Fitting.{fits-parts, fits-step-of}
use Rattle.block_results.proofs.Mild.{not-memory}

-- ---- one question

with-same : (n : ℕ) (q : Query) (x : Answer) → is_log q ≡ false → answer_with n q x ≡ x
with-same n query.LogBytes x h = absurd cc
with-same n q x h = refl

pub told-as : (log_length : ℕ) (q : Query) (v : Inv) (x : Answer) → is_log q ≡ false → IsAnswer log_length q v x → answered q v ≡ Ok x
told-as log_length q v x un (told, is, same) = is ∙ ap Ok (sym (same ∙ with-same log_length q told un))

-- a refusal of a question by which no run ends is none of a cause elsewhere
ask-ends : (e : Refusal) → has_number (10 ∷ 40 ∷ 41 ∷ 50 ∷ []) e ≡ true → is_elsewhere e ≡ true → halt_by e ≡ None → ⊥
ask-ends (refused.LogFault file count) l s m = cc
ask-ends refused.RunFull l s m = cc
ask-ends refused.Memory l s m = cc
ask-ends e l s m = cc

listed-ask : (q : Query) (e : Refusal) → is_listed (Ask q (Err e)) ≡ true → has_number (10 ∷ 40 ∷ 41 ∷ 50 ∷ []) e ≡ true
unfolding is_listed
listed-ask q e h = h

module _ (w : History) (actor : ℕ) where
  pub asked-at : (a b : Own) (q : Query) (answer : Result Answer Refusal) (events : List Event) → is_log q ≡ false → IsMild answer → Made (Ask q answer) events → Fits w actor a events b
      → At a.reached b.reached (λ n. answered q (inv w n) ≡ answer)
  unfolding Says
  asked-at a b q (Ok x) events un mild (inl (n, one, listed)) f =
      let s : Step w actor a (event n (Ask q (Ok x))) b = fits-step-of w actor a b n (Ask q (Ok x)) events one f in
      let between = step-between w actor a b (event n (Ask q (Ok x))) s in
      (n, between.0, between.1, told-as s.says.1.0 q (inv w n) x un s.says.1.1)
  asked-at a b q (Ok x) events un mild (inr (memory, none)) f = absurd cc
  asked-at a b q (Err e) events un mild (inl (n, one, listed)) f =
      let s : Step w actor a (event n (Ask q (Err e))) b = fits-step-of w actor a b n (Ask q (Err e)) events one f in
      let between = step-between w actor a b (event n (Ask q (Err e))) s in (
        n,
        between.0,
        between.1,
        elim s.says as (λ _. answered q (inv w n) ≡ Err e) [
          | inl held ↦ refused-of (answered q (inv w n)) e held
          | inr is ↦ absurd (ask-ends e (listed-ask q e listed) is mild)
        ],
      )
  asked-at a b q (Err e) events un mild (inr (memory, none)) f = absurd (not-memory e mild (same_Some e refused.Memory memory))

  -- ---- several

  answers-from : (less since until : ℕ) (queries : List Query) (result : Result (List Answer) Refusal) → less ≤ since → AnswersTo w since until queries result → AnswersTo w less until queries result
  answers-from less since until [] result low h = h
  answers-from less since until (q ∷ queries) result low (n, since_n, n_until, h) = (n, omega arith, n_until, h)

  asks-found : (queries : List Query) (answers : List Answer) (events : List Event) (a b : Own) → AreUnlogged queries → Asked queries answers events → Fits w actor a events b → AnswersTo w a.reached b.reached queries (Ok answers)
  asks-found [] [] events a b un h f = refl
  asks-found [] (x ∷ answers) events a b un h f = absurd h
  asks-found (q ∷ queries) [] events a b un h f = absurd h
  asks-found (q ∷ queries) (x ∷ answers) events a b un (xs, ys, cut, step, next) f =
      let parts = fits-parts w actor a b events xs ys cut f in
      let one = asked-at a parts.0 q (Ok x) xs un.0 tt (inl step) parts.1 in
      let rises : parts.0.reached ≤ b.reached = fits-rises w actor parts.0 b ys parts.2 in
      let high : one.0 ≤ parts.0.reached = one.2 in
      let others = answers-from one.0 parts.0.reached b.reached queries (Ok answers) high (asks-found queries answers ys parts.0 b un.1 next parts.2) in
      (one.0, one.1, omega arith, inr (x, Ok answers, one.3, others, refl))

  asks-refused : (front : List Query) (answers : List Answer) (q : Query) (rest : List Query) (e : Refusal) (xs ys : List Event) (a m b : Own) → AreUnlogged (front ++ (q ∷ rest)) → halt_by e ≡ None → Asked front answers xs
      → Made (Ask q (Err e)) ys → Fits w actor a xs m → Fits w actor m ys b → AnswersTo w a.reached b.reached (front ++ (q ∷ rest)) (Err e)
  asks-refused [] [] q rest e xs ys a m b un mild none made f g =
      let one = asked-at m b q (Err e) ys un.0 mild made g in
      let rises : a.reached ≤ m.reached = fits-rises w actor a m xs f in
      let low : m.reached ≤ one.0 = one.1 in
      (one.0, omega arith, one.2, inl (e, one.3, refl))
  asks-refused [] (x ∷ answers) q rest e xs ys a m b un mild h made f g = absurd h
  asks-refused (p ∷ front) [] q rest e xs ys a m b un mild h made f g = absurd h
  asks-refused (p ∷ front) (x ∷ answers) q rest e xs ys a m b un mild (us, vs, cut, step, next) made f g =
      let parts = fits-parts w actor a m xs us vs cut f in
      let one = asked-at a parts.0 p (Ok x) us un.0 tt (inl step) parts.1 in
      let rises : parts.0.reached ≤ m.reached = fits-rises w actor parts.0 m vs parts.2 in
      let more : m.reached ≤ b.reached = fits-rises w actor m b ys g in
      let high : one.0 ≤ parts.0.reached = one.2 in
      let others = answers-from one.0 parts.0.reached b.reached (front ++ (q ∷ rest)) (Err e) high (asks-refused front answers q rest e vs ys parts.0 m b un.1 mild next made parts.2 g) in
      (one.0, one.1, omega arith, inr (x, Err e, one.3, others, refl))

  looked : (queries : List Query) (events : List Event) (result : Result (List Answer) Refusal) (a b : Own) → AreUnlogged queries → IsMild result → AsksAll queries events result → Fits w actor a events b
      → AnswersTo w a.reached b.reached queries result
  looked queries events (Ok answers) a b un mild h f = asks-found queries answers events a b un h f
  looked queries events (Err e) a b un mild (front, answers, inl (q, rest, same, (xs, ys, cut, asked, made))) f =
      let parts = fits-parts w actor a b events xs ys cut f in
      subst (λ (qs : List Query). AnswersTo w a.reached b.reached qs (Err e)) (sym same)
      (asks-refused front answers q rest e xs ys a parts.0 b (subst AreUnlogged same un) mild asked made parts.1 parts.2)
  looked queries events (Err e) a b un mild (front, answers, inr (rest, same, asked, wanted)) f = absurd (not-memory e mild wanted)

  -- what the command asks for
  pub work-found : (c : Command) (answers : List Answer) (events : List Event) (a b : Own) → OrMemory (AsksAll (needs c)) events (Ok answers) → Fits w actor a events b → WorkAt w a.reached b.reached c (work_of c answers)
  work-found c answers events a b (inl h) f = (Ok answers, looked (needs c) events (Ok answers) a b (needs-unlogged c) tt h f, refl)
  work-found c answers events a b (inr (none, is)) f = absurd cc

  -- or why it asks for nothing
  pub work-refused : (c : Command) (e : Refusal) (events : List Event) (a b : Own) → halt_by e ≡ None → OrMemory (AsksAll (needs c)) events (Err e) → Fits w actor a events b → WorkAt w a.reached b.reached c (Err e)
  work-refused c e events a b mild (inl h) f = (Err e, looked (needs c) events (Err e) a b (needs-unlogged c) mild h f, refl)
  work-refused c e events a b mild (inr (none, is)) f = (let same : e ≡ refused.Memory = cc in absurd (not-memory e mild same))
