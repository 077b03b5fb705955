-- Rows that were asked for in a history, at their numbers.
use Rattle.std.proofs.Common.{◌≡◌, if◌then◌else◌, inl, inr, ℕ, Bool, true, false, List, [], ◌∷◌, None, Some, Result, Ok, Err, refl, sym, ap, subst, ◌∙◌}
use Rattle.std.proofs.lemmas.Option.{same_Some}
use Rattle.kinds.specs.declared.refusal.Refusal.{Refusal}
use Rattle.kinds.specs.declared.refusal.Refusal.TheVariants as refused
use Rattle.inventory_rows.specs.version_groups.Entries.{on_ok}
use Rattle.inventory_answers.specs.Answered.{answered, rows_of}
use Rattle.inventory_answers.specs.declared.query.Query.{Query}
use Rattle.inventory_answers.specs.declared.reply.Answer.{Answer}
use Rattle.inventory_answers.specs.declared.reply.Rows.{Rows}
use Rattle.line_results.specs.copy_attempts.Outcomes.{Met}
use Rattle.machine.specs.Fits.{Fits, History, Own, inv}
use Rattle.line_results.specs.sessions.Asking.{Asks}
use Rattle.steps.specs.Calls.{Made}
use Rattle.steps.specs.Events.{Deed, Event, has_number, refusal}
use Rattle.steps.specs.Events.Deed.{Ask}
use Rattle.line_results.specs.command_steps.Answers.{halt_by}
use Rattle.line_results.proofs.Asked.{is_log}
use Rattle.line_results.proofs.PutHomes.{err-of}
use Rattle.block_results.specs.Standing.{At}
use Rattle.block_results.proofs.Fitting.{at-so}
use Rattle.block_results.proofs.Looking.{asked-at}
use Rattle.block_results.proofs.Mild.{not-memory}

abbrev ok_rows : Answer → Result Rows Refusal
ok_rows a = Ok a.rows

pub rows-told : (r : Result Rows Refusal) (n today : ℕ) (answer : Answer) → on_ok (λ (x : Rows). record { n = n; today = today; rows = x }) r ≡ Ok answer → (r ≡ Ok answer.rows) × (answer.today ≡ today)
rows-told (Ok x) n today answer h =
    let same : answer ≡ record { n = n; today = today; rows = x } = cc in
    (sym (ap ok_rows same), ap (λ (a : Answer). a.today) same)
rows-told (Err e) n today answer h = absurd cc

-- a refusal that stands for another one, or for want of memory
pub limited-same : (why e : Refusal) (test : Bool) → e ≡ (if test then why else refused.Memory) → halt_by e ≡ None → e ≡ why
limited-same why e true same mild = same
limited-same why e false same mild = absurd (not-memory e mild same)

pub limited-met : (d : Deed) (why e : Refusal) (events : List Event) → Made d events → refusal d ≡ Some why → e ≡ why → halt_by e ≡ None → Met e events
limited-met d why e events (inl (n, one, listed)) is same mild = subst (λ (es : List Event). Met e es) (sym one) (inl (is ∙ ap (λ (x : Refusal). Some x) (sym same)))
limited-met d why e events (inr (memory, none)) is same mild = absurd (not-memory e mild (same ∙ same_Some why refused.Memory (sym is ∙ memory)))

module _ (w : History) (actor : ℕ) (a b : Own) (events : List Event) (f : Fits w actor a events b) where
  -- the rows, and the day
  pub rows-at : (q : Query) (answer : Answer) → is_log q ≡ false → Made (Ask q (Ok answer)) events → At a.reached b.reached (λ n. (rows_of q (inv w n) ≡ Ok answer.rows) × (answer.today ≡ (inv w n).today))
  rows-at q answer un made =
      at-so a.reached b.reached (λ n. answered q (inv w n) ≡ Ok answer) (λ n. (rows_of q (inv w n) ≡ Ok answer.rows) × (answer.today ≡ (inv w n).today))
      (λ n is. rows-told (rows_of q (inv w n)) (inv w n).number (inv w n).today answer is) (asked-at w actor a b q (Ok answer) events un tt made f)

  pub unrows-at : (q : Query) (why : Refusal) → is_log q ≡ false → halt_by why ≡ None → Made (Ask q (Err why)) events → At a.reached b.reached (λ n. rows_of q (inv w n) ≡ Err why)
  unrows-at q why un mild made =
      at-so a.reached b.reached (λ n. answered q (inv w n) ≡ Err why) (λ n. rows_of q (inv w n) ≡ Err why)
      (λ n is. err-of (λ (x : Rows). record { n = (inv w n).number; today = (inv w n).today; rows = x }) (rows_of q (inv w n)) why is) (asked-at w actor a b q (Err why) events un mild made f)

  -- what a session asks for
  pub asks-at : {A : Type 0} (q : Query) (kind : A → Rows) (x : A) → is_log q ≡ false → Asks q kind events (Ok x) → At a.reached b.reached (λ n. rows_of q (inv w n) ≡ Ok (kind x))
  asks-at q kind x un (answer, is, made) =
      at-so a.reached b.reached (λ n. (rows_of q (inv w n) ≡ Ok answer.rows) × (answer.today ≡ (inv w n).today)) (λ n. rows_of q (inv w n) ≡ Ok (kind x)) (λ n h. h.0 ∙ ap Ok is) (rows-at q answer un made)

-- a question of a session that was refused met that
pub asks-met : {A : Type 0} (q : Query) (kind : A → Rows) (e : Refusal) (events : List Event) → halt_by e ≡ None → Asks q kind events (Err e) → Met e events
asks-met q kind e events mild (inl (why, same, made)) = limited-met (Ask q (Err why)) why e events made refl (limited-same why e (has_number (10 ∷ 40 ∷ 41 ∷ []) why) same mild) mild
asks-met q kind e events mild (inr (answer, same, made)) = absurd (not-memory e mild same)
