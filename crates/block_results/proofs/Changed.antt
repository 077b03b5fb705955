-- A change in a history: where it was made, and why it wasn't.
use Rattle.std.proofs.Common.{◌≡◌, inl, inr, ℕ, ◌+◌, ◌-◌, ◌≤◌, List, [], Option, None, Some, Ok, Err, refl, sym, ap, subst, ◌∙◌, arith}
use Rattle.std.proofs.lemmas.Option.{same_Some}
use Rattle.std.specs.List.{slice_get}
use Rattle.kinds.specs.declared.refusal.Refusal.{Refusal}
use Rattle.kinds.specs.declared.refusal.Refusal.TheVariants as refused
use Rattle.entries.specs.declared.change.Change.{Change}
use Rattle.inventory_rules.specs.Run.{journal_of}
use Rattle.inventory_rules.specs.Transactions as legal
use Rattle.machine.proofs.Legality.{joined-legal}
use Rattle.machine.proofs.Runs.{fits-rises}
use Rattle.machine.specs.Changes.{filled}
use Rattle.machine.specs.Fits.{Fits, History, IsMadeOf, JoinsAt, Own, Step, entries_to, inv, number_after, sight_at}
use Rattle.line_results.specs.sessions.Changing.{Changing, Joins}
use Rattle.line_results.specs.sessions.Outcomes.{IsCaused}
use Rattle.steps.specs.declared.asked.Asked.TheVariants.{Plain}
use Rattle.steps.specs.Events.{Event, event}
use Rattle.steps.specs.Events.Deed.{Commit}
use Rattle.line_results.specs.command_steps.Answers.{halt_by}
use Rattle.block_results.specs.Standing.{IsRefusedAt}
use Rattle.block_results.specs.Works.{IsMadeAt}
use Rattle.block_results.proofs.Fitting.{fits-parts, fits-step-of, refused-at}
use Rattle.block_results.proofs.Mild.{not-memory}

made-wider : (w : History) (actor less since until more : ℕ) (c : Change) → less ≤ since → until ≤ more → IsMadeAt w actor since until c → IsMadeAt w actor less more c
made-wider w actor less since until more c low high (n, next_file, since_n, n_until, at, is) = (n, next_file, omega arith, omega arith, at, is)

module _ (w : History) (actor : ℕ) where
  made-as : (a b : Own) (n number : ℕ) (c : Change) (s : Step w actor a (event n (Commit (Plain c) [] (Ok number))) b) (joined : Option Change) → s.joined ≡ joined → IsMadeAt w actor a.reached b.reached c
  made-as a b n number c s None is = absurd (subst (λ (o : Option Change). IsMadeOf (Plain c) [] (sight_at w a n s.next_file) o) is s.joins)
  made-as a b n number c s (Some d) is =
      let made : Some (filled s.next_file (inv w n) c) ≡ Some d = subst (λ (o : Option Change). IsMadeOf (Plain c) [] (sight_at w a n s.next_file) o) is s.joins in
      let same : d ≡ filled s.next_file (inv w n) c = sym (same_Some (filled s.next_file (inv w n) c) d made) in
      let at : slice_get w.journal (n - w.base.number) ≡ Some (record { actor = actor; change = d }) = subst (λ (o : Option Change). JoinsAt w actor n o) is s.joins_at in
      let reached : b.reached ≡ n + 1 = s.has.reached ∙ ap (λ (o : Option Change). number_after n o) is in (
        n,
        s.next_file,
        s.since,
        omega (arith, reached),
        subst (λ (it : Change). slice_get w.journal (n - w.base.number) ≡ Some (record { actor = actor; change = it })) same at,
        subst (λ (it : Change). legal.refused (journal_of w.base (entries_to w n)) it (inv w n) ≡ None) same (joined-legal w actor a b n (Plain c) [] number d s is),
      )

  joins-made-at : (a b : Own) (c : Change) (number : ℕ) (events : List Event) → Fits w actor a events b → Joins (Plain c) events (Ok number) → IsMadeAt w actor a.reached b.reached c
  joins-made-at a b c number events f (waited, (xs, ys, cut, some, inl (none, inl (n, one, listed)))) =
      let parts = fits-parts w actor a b events xs ys cut f in
      let rises : a.reached ≤ parts.0.reached = fits-rises w actor a parts.0 xs parts.1 in
      let s : Step w actor parts.0 (event n (Commit (Plain c) [] (Ok number))) b = fits-step-of w actor parts.0 b n (Commit (Plain c) [] (Ok number)) ys one parts.2 in
      made-wider w actor a.reached parts.0.reached b.reached b.reached c rises (omega arith) (made-as parts.0 b n number c s s.joined refl)
  joins-made-at a b c number events f (waited, (xs, ys, cut, some, inl (none, inr m))) = absurd cc
  joins-made-at a b c number events f (waited, (xs, ys, cut, some, inr (inl (e, held, is)))) = absurd cc
  joins-made-at a b c number events f (waited, (xs, ys, cut, some, inr (inr h))) = (let is : Ok number ≡ Err refused.Memory = h.2 in absurd cc)

  pub changed-at : (a b : Own) (c : Change) (number : ℕ) (events : List Event) → Fits w actor a events b → Changing c events (Ok number) → IsMadeAt w actor a.reached b.reached c
  changed-at a b c number events f h =
      let last = h.order.0 in
      let xs = h.order.1.0 in
      let ys = h.order.1.1 in
      let parts = fits-parts w actor a b events xs ys h.order.1.2 f in
      made-wider w actor a.reached a.reached parts.0.reached b.reached c (omega arith) (fits-rises w actor parts.0 b ys parts.2) (joins-made-at a parts.0 c number xs parts.1 h.order.1.3)

  pub caused-at : (a b : Own) (list : List ℕ) (e : Refusal) (events : List Event) → Fits w actor a events b → halt_by e ≡ None → IsCaused list events e → IsRefusedAt w actor a.reached b.reached events e
  caused-at a b list e events f mild (inl memory) = absurd (not-memory e mild memory)
  caused-at a b list e events f mild (inr (listed, met)) = refused-at w actor a b events e f met
