-- A checkpoint in a history: the number of the database that its image is of.
use Rattle.std.proofs.Common.{◌≡◌, inl, inr, ℕ, ◌≤◌, List, [], ◌∷◌, Some, Ok, Err, refl, sym, ap, subst, ◌∙◌, arith}
use Rattle.std.proofs.lemmas.Option.{same_Some}
use Rattle.kinds.specs.declared.refusal.Refusal.TheVariants as refused
use Rattle.line_results.specs.copy_attempts.Outcomes.{MetBy}
use Rattle.machine.proofs.Runs.{fits-rises}
use Rattle.machine.specs.Fits.{Fits, History, Own, Step, inv}
use Rattle.machine.specs.Says.{Says}
use Rattle.machine.specs.State.{Image as Picture}
use Rattle.line_results.proofs.of_sessions.Changed.{inv-number}
use Rattle.line_results.proofs.of_sessions.Got.{step-between}
use Rattle.line_results.specs.sessions.Checkpoints.{AreMore, Checkpoints, Opens}
use Rattle.steps.specs.declared.image.ImageKind.TheVariants as image
use Rattle.steps.specs.declared.image.ImageReply.TheVariants as reply
use Rattle.steps.specs.Calls.{Made}
use Rattle.steps.specs.Events.{Deed, Event, event}
use Rattle.steps.specs.Events.Deed.{Image}
use Rattle.block_results.specs.Works.{IsImagedAt}
use Rattle.block_results.proofs.Fitting.{fits-parts, fits-step-of, met-first, met-next}

-- the actor's image is of this number
abbrev IsOf : (seq : ℕ) → Own → Type 0
IsOf seq own = (i : Picture) × (own.image ≡ Some i) × (i.seq ≡ seq)

abbrev begun : (file seq : ℕ) → Deed
begun file seq = Image image.Checkpoint (Ok (reply.Begun file seq))

abbrev done : ℕ → Deed
done seq = Image image.Next (Ok (reply.Done seq))

module _ (w : History) (actor : ℕ) where
  begun-at : (a b : Own) (file seq : ℕ) (events : List Event) → Made (begun file seq) events → Fits w actor a events b
      → (a.reached ≤ seq) × (seq ≤ b.reached) × IsOf seq b × MetBy (λ d. d ≡ begun file seq) events
  unfolding Says
  begun-at a b file seq events (inl (n, one, listed)) f =
      let s : Step w actor a (event n (begun file seq)) b = fits-step-of w actor a b n (begun file seq) events one f in
      let told : seq ≡ (inv w n).number = s.says.1 in
      let this : (inv w n).number ≡ n = inv-number w n s.begun s.within in
      let between = step-between w actor a b (event n (begun file seq)) s in
      let low : a.reached ≤ n = between.0 in
      let high : n ≤ b.reached = between.1 in
      (omega (arith, told, this, low), omega (arith, told, this, high), (s.has.image.0, s.has.image.1, s.has.image.2), subst (λ (es : List Event). MetBy (λ d. d ≡ begun file seq) es) (sym one) (inl refl))
  begun-at a b file seq events (inr (memory, none)) f = absurd cc

  more-step : (a b : Own) (seq n : ℕ) (d : Deed) → d ≡ Image image.Next (Ok reply.More) → IsOf seq a → Step w actor a (event n d) b → IsOf seq b
  more-step a b seq n d is (i, has, same) s =
      let t : Step w actor a (event n (Image image.Next (Ok reply.More))) b = subst (λ (x : Deed). Step w actor a (event n x) b) is s in
      let i2 : Picture = t.has.image.0 in
      let j : Picture = t.has.image.1 in
      let one : i2 ≡ i = same_Some i2 i (sym t.has.image.2 ∙ has) in
      let seqs : j.seq ≡ i2.seq = t.has.image.4 in
      (j, t.has.image.3, seqs ∙ ap (λ (x : Picture). x.seq) one ∙ same)

  more-of : (a b : Own) (seq : ℕ) (events : List Event) → AreMore events → IsOf seq a → Fits w actor a events b → IsOf seq b
  unfolding Fits
  more-of a b seq [] more has f = subst (λ (o : Own). IsOf seq o) (sym f) has
  more-of a b seq (e ∷ events) more has f = more-of f.0 b seq events more.1 (more-step a f.0 seq e.n e.deed more.0 has f.1) f.2

  done-of : (a b : Own) (seq its : ℕ) (events : List Event) → IsOf seq a → Made (done its) events → Fits w actor a events b → MetBy (λ d. d ≡ done seq) events
  unfolding Says
  done-of a b seq its events (i, has, same) (inl (n, one, listed)) f =
      let s : Step w actor a (event n (done its)) b = fits-step-of w actor a b n (done its) events one f in
      let j : Picture = s.says.1.0 in
      let is : j ≡ i = same_Some j i (sym s.says.1.1 ∙ has) in
      let told : its ≡ j.seq = s.says.1.2 in
      let number : its ≡ seq = told ∙ ap (λ (x : Picture). x.seq) is ∙ same in
      subst (λ (es : List Event). MetBy (λ d. d ≡ done seq) es) (sym one) (inl (ap done number))
  done-of a b seq its events has (inr (memory, none)) f = absurd cc

  opened-at : (a b : Own) (seq : ℕ) (events : List Event) → Opens events (Ok seq) → Fits w actor a events b
      → (a.reached ≤ seq) × (seq ≤ b.reached) × IsOf seq b × ((file : ℕ) × MetBy (λ d. d ≡ begun file seq) events)
  opened-at a b seq events (waited, (xs, ys, cut, some, inl (none, (file, made)))) f =
      let parts = fits-parts w actor a b events xs ys cut f in
      let r = begun-at parts.0 b file seq ys made parts.2 in
      let rises : a.reached ≤ parts.0.reached = fits-rises w actor a parts.0 xs parts.1 in
      let low : parts.0.reached ≤ seq = r.0 in
      (omega arith, r.1, r.2, (file, subst (λ (es : List Event). MetBy (λ d. d ≡ begun file seq) es) (sym cut) (met-next xs ys (λ d. d ≡ begun file seq) r.3)))
  opened-at a b seq events (waited, (xs, ys, cut, some, inr (inl (e, held, is)))) f = absurd cc
  opened-at a b seq events (waited, (xs, ys, cut, some, inr (inr h))) f = (let is : Ok seq ≡ Err refused.Memory = h.2 in absurd cc)

  pub imaged-at : (a b : Own) (number : ℕ) (events : List Event) → Checkpoints events (Ok number) → Fits w actor a events b → IsImagedAt a.reached b.reached events
  imaged-at a b number events (inl (e, h, is)) f = absurd cc
  imaged-at a b number events (inr (seq, (xs, ys, cut, opens, (zs, ws, apart, more, last)))) f =
      let parts = fits-parts w actor a b events xs ys cut f in
      let o = opened-at a parts.0 seq xs opens parts.1 in
      let pieces = fits-parts w actor parts.0 b ys zs ws apart parts.2 in
      let has = more-of parts.0 pieces.0 seq zs more o.2 pieces.1 in
      let ends = done-of pieces.0 b seq number ws has last pieces.2 in
      let rises : parts.0.reached ≤ b.reached = fits-rises w actor parts.0 b ys parts.2 in
      let high : seq ≤ parts.0.reached = o.1 in
      let behind : MetBy (λ d. d ≡ done seq) ys = subst (λ (es : List Event). MetBy (λ d. d ≡ done seq) es) (sym apart) (met-next zs ws (λ d. d ≡ done seq) ends) in (
        seq,
        o.0,
        omega arith,
        (
          (o.3.0, subst (λ (es : List Event). MetBy (λ d. d ≡ begun o.3.0 seq) es) (sym cut) (met-first xs ys (λ d. d ≡ begun o.3.0 seq) o.3.1)),
          subst (λ (es : List Event). MetBy (λ d. d ≡ done seq) es) (sym cut) (met-next xs ys (λ d. d ≡ done seq) behind),
        ),
      )
