-- A query is answered, and nothing changes.
use Rattle.std.proofs.Common.{◌≡◌, ◌⊎◌, inl, inr, ℕ, ◌≤◌, true, List, ◌++◌, Option, Some, None, Result, Ok, Err, refl, sym, ap, subst, ◌∙◌, arith}
use Rattle.std.specs.List.{AllByRecursion}
use Rattle.store_api.specs.Disk.{History}
use Rattle.kinds.specs.Answers.{Answers}
use Rattle.kinds.specs.Refusals.{foremost, place_of, refusal_of}
use Rattle.kinds.specs.declared.refusal.Refusal.{Refusal}
use Rattle.kinds.specs.declared.refusal.Refusal.TheVariants as refusal
use Rattle.inventory_rows.specs.State.{Inv}
use Rattle.inventory_rows.specs.version_groups.Entries.{on_ok}
use Rattle.inventory_answers.specs.Answered.{answered}
use Rattle.inventory_answers.specs.declared.query.Query.{Query}
use Rattle.inventory_answers.specs.declared.reply.Answer.{Answer}
use Rattle.steps.specs.Events.{is_listed}
use Rattle.steps.specs.Events.Deed.{Ask}
use Rattle.machine.specs.Causes.{ask_refused}
use Rattle.machine.specs.Machine.{IsAnswer, answer_with, ended}
use Rattle.machine.specs.State.{Machine, inventory, sight}
use Rattle.hall.specs.Good.{Is}
use Rattle.hall.specs.Held.{Hall, Held}
use Rattle.hall.specs.Seats.{ended_at, told as told_of}
use Rattle.hall.specs.Steps.{Steps}
use Rattle.hall.proofs.Dropping.{no_later}
use Rattle.hall.proofs.Ended.{ended_first, ended_has, ended_is, next_answers, none_halted}
use Rattle.hall.proofs.Unfound.{answer_there, err_unfound}

-- ---- what is answered

was_ok : {A B : Type 0} (f : A → B) (r : Result A Refusal) (y : B) → on_ok f r ≡ Ok y → (x : A) × (r ≡ Ok x) × (y ≡ f x)
was_ok f (Ok x) y h = (x, refl, let same : f x ≡ y = cc in sym same)
was_ok f (Err e) y h = absurd cc

was_err : {A B : Type 0} (f : A → B) (r : Result A Refusal) (e : Refusal) → on_ok f r ≡ Err e → r ≡ Err e
was_err f (Ok x) e h = absurd cc
was_err f (Err d) e h = let same : d ≡ e = cc in ap Err same

refused_after : {A : Type 0} (r : Result A Refusal) → ((e : Refusal) → r ≡ Err e → 1 ≤ place_of e) → AllByRecursion (λ y. 1 ≤ place_of y) (refusal_of r)
refused_after (Ok x) low = tt
refused_after (Err e) low = (low e refl, tt)

refused_one : {A : Type 0} (r : Result A Refusal) (e : Refusal) → r ≡ Err e → foremost (refusal_of r) ≡ Some e
refused_one r e h = ap (λ x. foremost (refusal_of x)) h

refused_none : {A : Type 0} (r : Result A Refusal) (x : A) → r ≡ Ok x → foremost (refusal_of r) ≡ None
refused_none r x h = ap (λ y. foremost (refusal_of y)) h

module _ {S : Type 0} (told : S → Option History) (moment : S → ℕ) (faults : S → ℕ → ℕ) (actor : ℕ) (query : Query) (hall : Hall S) where
  -- the refusals that hold, as the hall tells them
  held_is : (m : Machine) → Is told moment faults hall m
      → ended m ++ ask_refused query (sight actor m.core) ≡ ended_at (moment hall.store) hall.held ++ refusal_of (answered query hall.held.vault.database)
  held_is m is =
      ap (λ (l : List Refusal). l ++ ask_refused query (sight actor m.core)) (ended_is (moment hall.store) hall.held m is.core is.clock)
      ∙ ap (λ v. ended_at (moment hall.store) hall.held ++ refusal_of (answered query v)) (sym is.core.database)

  answers : (x : Answer) → foremost (ended_at (moment hall.store) hall.held) ≡ None → told_of query hall.held ≡ Ok x → Steps told moment faults actor (Ask query (Ok x)) hall hall
  answers x free said = λ m is.
      let from = was_ok (answer_with hall.held.vault.end query) (answered query hall.held.vault.database) x said in
      let none : foremost (ended m ++ ask_refused query (sight actor m.core)) ≡ None =
      ap foremost (held_is m is)
      ∙ next_answers (ended_at (moment hall.store) hall.held) (refusal_of (answered query hall.held.vault.database)) free
      ∙ refused_none (answered query hall.held.vault.database) from.0 from.1 in
      let is_answer : IsAnswer m.core.log_length query (inventory m.core) x =
      (from.0, ap (answered query) (sym is.core.database) ∙ from.1, from.2 ∙ ap (λ n. answer_with n query from.0) (sym (is.core.log_length (none_halted (moment hall.store) hall.held free)))) in
      (m.contents, m, refl, record { number = refl; later = no_later m m.contents m refl refl; step = (none, (is_answer, record { core = refl; contents = refl })) }, is)

  refuses : (e : Refusal) → foremost (ended_at (moment hall.store) hall.held) ≡ None → (e ≡ refusal.Memory) ⊎ (told_of query hall.held ≡ Err e)
      → Steps told moment faults actor (Ask query (Err e)) hall hall
  refuses e free (inl memory) = λ m is.
      (m.contents, m, refl, record { number = refl; later = no_later m m.contents m refl refl; step = inl (inr memory, record { core = refl; contents = refl }) }, is)
  refuses e free (inr said) = λ m is.
      let held : foremost (ended m ++ ask_refused query (sight actor m.core)) ≡ Some e =
      ap foremost (held_is m is)
      ∙ next_answers (ended_at (moment hall.store) hall.held) (refusal_of (answered query hall.held.vault.database)) free
      ∙ refused_one (answered query hall.held.vault.database) e (was_err (answer_with hall.held.vault.end query) (answered query hall.held.vault.database) e said) in
      (m.contents, m, refl, record { number = refl; later = no_later m m.contents m refl refl; step = inl (inl held, record { core = refl; contents = refl }) }, is)

  pub asks : (result : Result Answer Refusal) → foremost (ended_at (moment hall.store) hall.held) ≡ None → Answers result (told_of query hall.held)
      → Steps told moment faults actor (Ask query result) hall hall
  asks (Ok x) free said = answers x free said
  asks (Err e) free said = refuses e free said

-- ---- its refusals

is_found_listed : (query : Query) (e : Refusal) → e ≡ refusal.NotFound → is_listed (Ask query (Err e)) ≡ true
unfolding is_listed
is_found_listed query e h = ap (λ x. is_listed (Ask query (Err x))) h

memory_listed : (query : Query) (e : Refusal) → e ≡ refusal.Memory → is_listed (Ask query (Err e)) ≡ true
unfolding is_listed
memory_listed query e h = ap (λ x. is_listed (Ask query (Err x))) h

answer_listed : (query : Query) (x : Answer) → is_listed (Ask query (Ok x)) ≡ true
unfolding is_listed
answer_listed query x = refl

pub ask_listed : (query : Query) (h : Held) (result : Result Answer Refusal) → Answers result (told_of query h) → is_listed (Ask query result) ≡ true
ask_listed query h (Ok x) said = answer_listed query x
ask_listed query h (Err e) (inl memory) = memory_listed query e memory
ask_listed query h (Err e) (inr said) =
    is_found_listed query e (err_unfound (answered query h.vault.database) e (answer_there query h.vault.database) (was_err (answer_with h.vault.end query) (answered query h.vault.database) e said))

pub ask_ended_listed : (query : Query) (moment : ℕ) (h : Held) (e : Refusal) → foremost (ended_at moment h) ≡ Some e → is_listed (Ask query (Err e)) ≡ true
unfolding is_listed
ask_ended_listed query moment h e is = ended_has (λ x. is_listed (Ask query (Err x)) ≡ true) refl (λ file count. refl) moment h e is

-- what a query is refused for comes behind a full run and a fault
unfound_after : (query : Query) (v : Inv) (e : Refusal) → answered query v ≡ Err e → 1 ≤ place_of e
unfound_after query v e at = let same : e ≡ refusal.NotFound = err_unfound (answered query v) e (answer_there query v) at in subst (λ y. 1 ≤ place_of y) (sym same) (omega arith)

-- ---- a step that may not begin

pub asks_ended : {S : Type 0} (told : S → Option History) (moment : S → ℕ) (faults : S → ℕ → ℕ) (actor : ℕ) (query : Query) (hall : Hall S) (e : Refusal)
    → foremost (ended_at (moment hall.store) hall.held) ≡ Some e
    → Steps told moment faults actor (Ask query (Err e)) hall hall
asks_ended told moment faults actor query hall e full = λ m is.
    let held : foremost (ended m ++ ask_refused query (sight actor m.core)) ≡ Some e =
    ap foremost (held_is told moment faults actor query hall m is)
    ∙ ended_first (moment hall.store) hall.held (refusal_of (answered query hall.held.vault.database)) e full
    (refused_after (answered query hall.held.vault.database) (unfound_after query hall.held.vault.database)) in
    (m.contents, m, refl, record { number = refl; later = no_later m m.contents m refl refl; step = inl (inl held, record { core = refl; contents = refl }) }, is)
