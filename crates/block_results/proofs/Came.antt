-- What the work of a command came to, clause by clause.
use Rattle.std.proofs.Common.{◌≡◌, ℕ, List, [], Result, Ok, Err, sym, subst, ◌∙◌}
use Rattle.kinds.specs.declared.refusal.Refusal.{Refusal}
use Rattle.admin_commands.specs.declared.work.Work.{Work}
use Rattle.machine.specs.Fits.{History, Own as Holding}
use Rattle.steps.specs.Events.{Event}
use Rattle.line_results.specs.command_steps.Clients.{Client}
use Rattle.line_results.specs.command_steps.Owns.{Own}
use Rattle.line_results.specs.command_steps.declared.outcome.Outcome.{Outcome}
use Rattle.block_results.specs.Clauses.{CauseBy, DidBy, ShowsBy}

abbrev pub Said : Type 0
Said = Result Outcome Refusal

pub record Came (w : History) (actor : ℕ) (k : Client) (own : Own) (work : Result Work Refusal) (a b : Holding) (events : List Event) (r : Said) : Type 0 where
  pub shows : (it : Outcome) → r ≡ Ok it → ShowsBy w a.reached b.reached k own work it
  pub causes : (why : Refusal) → r ≡ Err why → CauseBy w actor a.reached b.reached k own work events why
  pub did : (it : Outcome) → r ≡ Ok it → a.tickets ≡ [] → DidBy w actor a.reached b.reached k own work events it

module _ (w : History) (actor : ℕ) (k : Client) (own : Own) (work : Result Work Refusal) (a b : Holding) (events : List Event) where
  done-so : (r : Said) (x : Outcome) → r ≡ Ok x → ShowsBy w a.reached b.reached k own work x → (a.tickets ≡ [] → DidBy w actor a.reached b.reached k own work events x) → (it : Outcome) → r ≡ Ok it
      → ShowsBy w a.reached b.reached k own work it × (a.tickets ≡ [] → DidBy w actor a.reached b.reached k own work events it)
  done-so r x is shows did it same =
      let both : ◌≡◌ {A = Said} (Ok x) (Ok it) = sym is ∙ same in
      let one : x ≡ it = cc in
      (subst (λ (y : Outcome). ShowsBy w a.reached b.reached k own work y) one shows, subst (λ (y : Outcome). a.tickets ≡ [] → DidBy w actor a.reached b.reached k own work events y) one did)

  never-refused : (r : Said) (x : Outcome) (why : Refusal) → r ≡ Ok x → r ≡ Err why → ⊥
  never-refused r x why is same = let both : ◌≡◌ {A = Said} (Ok x) (Err why) = sym is ∙ same in cc

  refused-as : (r : Said) (e why : Refusal) → r ≡ Err e → r ≡ Err why → e ≡ why
  refused-as r e why is same = let both : ◌≡◌ {A = Said} (Err e) (Err why) = sym is ∙ same in cc

  pub came-ok : (r : Said) (x : Outcome) → r ≡ Ok x → ShowsBy w a.reached b.reached k own work x → (a.tickets ≡ [] → DidBy w actor a.reached b.reached k own work events x) → Came w actor k own work a b events r
  came-ok r x is shows did = record {
    shows = λ it same. (done-so r x is shows did it same).0;
    causes = λ why same. absurd (never-refused r x why is same);
    did = λ it same. (done-so r x is shows did it same).1;
  }

  pub came-err : (r : Said) (e : Refusal) → r ≡ Err e → CauseBy w actor a.reached b.reached k own work events e → Came w actor k own work a b events r
  came-err r e is cause = record {
    shows = λ it same. absurd (never-refused r it e same is);
    causes = λ why same. subst (λ (x : Refusal). CauseBy w actor a.reached b.reached k own work events x) (refused-as r e why is same) cause;
    did = λ it same. absurd (never-refused r it e same is);
  }
