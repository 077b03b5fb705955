-- The questions of a restore.
use Rattle.std.proofs.Common.{◌≡◌, ◌⊎◌, inl, inr, ℕ, ◌+◌, ◌<◌, Bool, true, false, List, [], ◌∷◌, ◌++◌, length, take, drop, get_or, Option, Some, None, Result, Ok, Err, refl, sym, ap, subst, ◌∙◌, arith, append_assoc}
use Rattle.std.proofs.lemmas.List.{append-nil, take-append-drop, take_all, take_more}
use Rattle.std.specs.List.{AllByRecursion}
use Rattle.kinds.specs.Answers.{AnswersBy}
use Rattle.kinds.specs.declared.refusal.Refusal.{Refusal}
use Rattle.kinds.specs.declared.refusal.Refusal.TheVariants as refused
use Rattle.inventory_answers.specs.declared.lines.PoolLine.{PoolLine}
use Rattle.inventory_answers.specs.declared.lines.VolumeLine.{VolumeLine}
use Rattle.inventory_answers.specs.Stores.{pool_lines}
use Rattle.inventory_answers.specs.declared.query.Query.TheVariants as query
use Rattle.inventory_answers.specs.declared.reply.Answer.{Answer}
use Rattle.inventory_answers.specs.declared.reply.Rows.TheVariants as rows
use Rattle.inventory_work.specs.declared.lines.CopyLine.{CopyLine}
use Rattle.steps.proofs.Joining.{GoesOn, call_then}
use Rattle.steps.specs.Calls.{Call}
use Rattle.steps.specs.Events.{Deed, Event, event}
use Rattle.steps.specs.Events.Deed.{Ask}
use Rattle.machine.specs.Fits.{Fits, History, Own, Step, inv}
use Rattle.machine.proofs.Runs.{fits-cut, fits-one, fits-rises}
use Rattle.copy_attempts.specs.Outcomes.{MetBy}
use Rattle.copy_attempts.proofs.Facts.{all-append, met-before, met-behind}
use Rattle.copy_pools.proofs.Missing.{asked-pools}
use Rattle.copy_runs.specs.declared.wanted.Wanted.{Wanted}
use Rattle.copy_runs.specs.Ends.{AreAsking, AsksPools, IsAsking, IsStopped, IsUnlisted, Unanswered}
use Rattle.copy_runs.specs.Wanting.{IsIn}
use Rattle.copy_runs.proofs.Ending.{stopped-behind}
use Rattle.copy_runs.proofs.Outcomes.{in-before, in-behind}
use Rattle.copy_runs.proofs.Told.{reaches}
use Rattle.pool_restores.specs.Listing.{AskedVolumes, AsksVolumes, Collected, Collecting, Collects, IsUncollected, Listed, Lists, destroyed_of, is_there, with_all}
use Rattle.pool_restores.specs.Restoring.{BegunPool, BeginsPool, ChecksThere, IsPoolBarred, IsThereSo, ToldThere}

asks-append : (xs ys : List Event) → AreAsking xs → AreAsking ys → AreAsking (xs ++ ys)
asks-append xs ys a b = all-append (λ e. IsAsking e.deed) xs ys a b

-- ---- the copies

listed-asks : (file : ℕ) (xs : List Event) (lines : List CopyLine) → Listed file xs lines → AreAsking xs
listed-asks file xs lines h = subst AreAsking (sym h.2) ((query.OnVolume file, Ok h.1, refl), tt)

pub collected-asks : (pool : Option ℕ) (files : List ℕ) (from to : List Wanted) (xs : List Event) → Collected pool files from to xs → AreAsking xs
collected-asks pool [] from to xs h = subst AreAsking (sym h.0) tt
collected-asks pool (file ∷ files) from to xs h =
    subst AreAsking (sym h.1.2) (asks-append h.1.0 h.1.1 (listed-asks file h.1.0 h.0 h.1.3) (collected-asks pool files (with_all pool h.0 from) to h.1.1 h.1.4))

collected-more : (pool : Option ℕ) (files : List ℕ) (file : ℕ) (from to : List Wanted) (lines : List CopyLine) (xs ys : List Event) → Collected pool files from to xs → Listed file ys lines
    → Collected pool (files ++ file ∷ []) from (with_all pool lines to) (xs ++ ys)
collected-more pool [] file from to lines xs ys h g =
    (lines, (ys, [], ap (λ (es : List Event). es ++ ys) h.0 ∙ sym (append-nil ys), g, (refl, ap (with_all pool lines) h.1)))
collected-more pool (f ∷ files) file from to lines xs ys h g =
    (h.0, (h.1.0, h.1.1 ++ ys, ap (λ (es : List Event). es ++ ys) h.1.2 ∙ append_assoc h.1.0 h.1.1 ys, h.1.3, collected-more pool files file (with_all pool h.0 from) to lines h.1.1 ys h.1.4 g))

one-more : (files : List ℕ) (place file : ℕ) → place < length files → file ≡ get_or files place 0 → take (place + 1) files ≡ take place files ++ file ∷ []
one-more files place file l is = take_more files place 0 l ∙ ap (λ (f : ℕ). take place files ++ f ∷ []) (sym is)

pub collecting-none : {S : Type 0} (did : S → List Event → S → Type 0) → ((p : S) → did p [] p) → (p : S) (pool : Option ℕ) → Call did p p (λ events. Collecting pool [] events [])
collecting-none did stays p pool = ([], stays p, (refl, refl))

pub collecting-next : {S : Type 0} (did : S → List Event → S → Type 0) → GoesOn did → (p q r : S) (pool : Option ℕ) (files : List ℕ) (place file : ℕ) (wanted new : List Wanted) (lines those : List CopyLine)
    → place < length files → file ≡ get_or files place 0 → those ≡ lines → new ≡ with_all pool those wanted
    → Call did p q (λ events. Collecting pool (take place files) events wanted) → Call did q r (λ events. Lists file events (Ok lines))
    → Call did p r (λ events. Collecting pool (take (place + 1) files) events new)
collecting-next did goes p q r pool files place file wanted new lines those l is alike same a b =
    call_then did goes (λ events. Collecting pool (take place files) events wanted) (λ events. Lists file events (Ok lines)) (λ events. Collecting pool (take (place + 1) files) events new) p q r a b
    (λ xs ys f g. subst (λ (ws : List Wanted). Collecting pool (take (place + 1) files) (xs ++ ys) ws) (sym (same ∙ ap (λ (ls : List CopyLine). with_all pool ls wanted) alike))
    (subst (λ (fs : List ℕ). Collecting pool fs (xs ++ ys) (with_all pool lines wanted)) (sym (one-more files place file l is)) (collected-more pool (take place files) file [] wanted lines xs ys f g)))

unlisted-behind : (file : ℕ) (xs ys : List Event) (e : Refusal) → IsUnlisted (query.OnVolume file) ys e → IsUnlisted (query.OnVolume file) (xs ++ ys) e
unlisted-behind file xs ys e (inl h) = inl (stopped-behind xs ys e h)
unlisted-behind file xs ys e (inr h) = inr (h.0, met-behind (λ d. d ≡ Ask (query.OnVolume file) (Err e)) xs ys h.1)

pub uncollected-behind : (files : List ℕ) (xs ys : List Event) (e : Refusal) → IsUncollected files ys e → IsUncollected files (xs ++ ys) e
uncollected-behind files xs ys e h = (h.0, h.1, unlisted-behind h.0 xs ys e h.2)

in-place : (files : List ℕ) (place file : ℕ) → place < length files → file ≡ get_or files place 0 → IsIn file files
in-place files place file l is =
    subst (λ (fs : List ℕ). IsIn file fs) (take-append-drop (place + 1) files)
    (in-before file (take (place + 1) files) (drop (place + 1) files)
    (subst (λ (fs : List ℕ). IsIn file fs) (sym (one-more files place file l is)) (in-behind file (take place files) (file ∷ []) (inl refl))))

pub collecting-breaks : {S : Type 0} (did : S → List Event → S → Type 0) → GoesOn did → (p q r : S) (pool : Option ℕ) (files : List ℕ) (place file : ℕ) (wanted : List Wanted) (e : Refusal)
    → place < length files → file ≡ get_or files place 0
    → Call did p q (λ events. Collecting pool (take place files) events wanted) → Call did q r (λ events. Lists file events (Err e)) → Call did p r (λ events. Collects pool files events (Err e))
collecting-breaks did goes p q r pool files place file wanted e l at a b =
    call_then did goes (λ events. Collecting pool (take place files) events wanted) (λ events. Lists file events (Err e)) (λ events. Collects pool files events (Err e)) p q r a b
    (λ xs ys f g. ((file, in-place files place file l at, unlisted-behind file xs ys e g.0), asks-append xs ys (collected-asks pool (take place files) [] wanted xs f) g.1))

pub collecting-full : {S : Type 0} (did : S → List Event → S → Type 0) → GoesOn did → (p q r : S) (pool : Option ℕ) (files : List ℕ) (place file : ℕ) (wanted : List Wanted) (lines : List CopyLine) (e : Refusal)
    → place < length files → file ≡ get_or files place 0 → e ≡ refused.Memory
    → Call did p q (λ events. Collecting pool (take place files) events wanted) → Call did q r (λ events. Lists file events (Ok lines)) → Call did p r (λ events. Collects pool files events (Err e))
collecting-full did goes p q r pool files place file wanted lines e l at is a b =
    call_then did goes (λ events. Collecting pool (take place files) events wanted) (λ events. Lists file events (Ok lines)) (λ events. Collects pool files events (Err e)) p q r a b
    (λ xs ys f g. ((file, in-place files place file l at, inl (inl is)), asks-append xs ys (collected-asks pool (take place files) [] wanted xs f) (listed-asks file ys lines g)))

pub collecting-all : {S : Type 0} (did : S → List Event → S → Type 0) (p q : S) (pool : Option ℕ) (files : List ℕ) (wanted those : List Wanted) → those ≡ wanted
    → Call did p q (λ events. Collecting pool (take (length files) files) events wanted) → Call did p q (λ events. Collects pool files events (Ok those))
collecting-all did p q pool files wanted those same a = (
  a.0,
  a.1,
  subst (λ (ws : List Wanted). Collected pool files [] ws a.0) (sym same)
      (subst (λ (fs : List ℕ). Collected pool fs [] wanted a.0) (take_all (length files) files (omega arith)) a.2),
)

-- ---- the pool

pub checked : {S : Type 0} (did : S → List Event → S → Type 0) (p q : S) (pool : ℕ) (lines those : List PoolLine) → those ≡ lines → is_there pool those ≡ true → Call did p q (λ events. AsksPools events (Ok lines))
    → Call did p q (λ events. ChecksThere pool events (Ok tt))
checked did p q pool lines those same h a = (a.0, a.1, (lines, a.2, ap (is_there pool) (sym same) ∙ h))

pub not-checked : {S : Type 0} (did : S → List Event → S → Type 0) (p q : S) (pool : ℕ) (lines those : List PoolLine) → those ≡ lines → is_there pool those ≡ false → Call did p q (λ events. AsksPools events (Ok lines))
    → Call did p q (λ events. ChecksThere pool events (Err refused.NotFound))
not-checked did p q pool lines those same h a = (a.0, a.1, inr (refl, (lines, a.2, ap (is_there pool) (sym same) ∙ h)))

there-asks : (pool : ℕ) (xs : List Event) (is : Bool) → ToldThere pool xs is → AreAsking xs
there-asks pool xs is h = subst AreAsking (sym h.1.2) ((query.Pools None, Ok h.1.1, refl), tt)

pub there-so : (pool : ℕ) (xs : List Event) (is : Bool) → ToldThere pool xs is → IsThereSo pool xs is
there-so pool xs is h w actor a b f =
    let n : ℕ = h.1.0 in
    let s : Step w actor a (event n (Ask (query.Pools None) (Ok h.1.1))) b =
    fits-one w actor a b (event n (Ask (query.Pools None) (Ok h.1.1))) (subst (λ (es : List Event). Fits w actor a es b) h.1.2 f) in
    let lines : h.0 ≡ pool_lines None (inv w n).stores = asked-pools w actor a b n h.1.1 h.0 s h.1.3 in
    (n, s.since, reaches w actor a b (event n (Ask (query.Pools None) (Ok h.1.1))) s, ap (is_there pool) (sym lines) ∙ h.2)

pub there-behind : (pool : ℕ) (xs ys : List Event) (is : Bool) → IsThereSo pool ys is → IsThereSo pool (xs ++ ys) is
there-behind pool xs ys is h w actor a b f =
    let r = fits-cut w actor a b xs ys f in
    let g = h w actor r.0 b r.2 in
    let rise = fits-rises w actor a r.0 xs r.1 in
    let low = g.1 in
    (g.0, omega (arith, rise, low), g.2, g.3)

pub there-before : (pool : ℕ) (xs ys : List Event) (is : Bool) → IsThereSo pool xs is → IsThereSo pool (xs ++ ys) is
there-before pool xs ys is h w actor a b f =
    let r = fits-cut w actor a b xs ys f in
    let g = h w actor a r.0 r.1 in
    let rise = fits-rises w actor r.0 b ys r.2 in
    let high = g.2 in
    (g.0, g.1, omega (arith, rise, high), g.3)

-- what the pools were answered
abbrev TellsNone : (pool : ℕ) → Deed → Type 0
TellsNone pool d = (answer : Answer) × (lines : List PoolLine) × (d ≡ Ask (query.Pools None) (Ok answer)) × (answer.rows ≡ rows.Pools lines) × (is_there pool lines ≡ false)

told-none : (pool : ℕ) (xs : List Event) → ToldThere pool xs false → MetBy (TellsNone pool) xs
told-none pool xs h = subst (λ (es : List Event). MetBy (TellsNone pool) es) (sym h.1.2) (inl (h.1.1, h.0, refl, h.1.3, h.2))

-- and the volumes
abbrev TellsVolumes : List VolumeLine → Deed → Type 0
TellsVolumes volumes d = (answer : Answer) × (d ≡ Ask (query.Volumes None None) (Ok answer)) × (answer.rows ≡ rows.Volumes volumes)

told-volumes : (volumes : List VolumeLine) (xs : List Event) → AskedVolumes xs volumes → MetBy (TellsVolumes volumes) xs
told-volumes volumes xs h = subst (λ (es : List Event). MetBy (TellsVolumes volumes) es) (sym h.2) (inl (h.1, refl, h.3))

-- ---- all of them

pub volumes-ask : (xs : List Event) (lines : List VolumeLine) → AskedVolumes xs lines → AreAsking xs
volumes-ask xs lines h = subst AreAsking (sym h.2) ((query.Volumes None None, Ok h.1, refl), tt)

pub begin-unasked : {S : Type 0} (did : S → List Event → S → Type 0) (p q : S) (pool : ℕ) (e : Refusal) → Call did p q (λ events. AsksVolumes events (Err e)) → Call did p q (λ events. BeginsPool pool events (Err e))
begin-unasked did p q pool e a = (a.0, a.1, (inl a.2.0, a.2.1))

unchecked : (pool : ℕ) (volumes : List VolumeLine) (xs ys : List Event) (e : Refusal) → AskedVolumes xs volumes → ChecksThere pool ys (Err e) → BeginsPool pool (xs ++ ys) (Err e)
unchecked pool volumes xs ys e f (inl g) = (inl (stopped-behind xs ys e g.0), asks-append xs ys (volumes-ask xs volumes f) g.1)
unchecked pool volumes xs ys e f (inr g) =
    let asks : AreAsking (xs ++ ys) = asks-append xs ys (volumes-ask xs volumes f) (there-asks pool ys false g.1) in
    (inr (inl (g.0, there-behind pool xs ys false (there-so pool ys false g.1), (asks, met-behind (TellsNone pool) xs ys (told-none pool ys g.1)))), asks)

pub begin-unchecked : {S : Type 0} (did : S → List Event → S → Type 0) → GoesOn did → (p q r : S) (pool : ℕ) (volumes : List VolumeLine) (e : Refusal) → Call did p q (λ events. AsksVolumes events (Ok volumes))
    → Call did q r (λ events. ChecksThere pool events (Err e)) → Call did p r (λ events. BeginsPool pool events (Err e))
begin-unchecked did goes p q r pool volumes e a b =
    call_then did goes (λ events. AsksVolumes events (Ok volumes)) (λ events. ChecksThere pool events (Err e)) (λ events. BeginsPool pool events (Err e)) p q r a b
    (λ xs ys f g. unchecked pool volumes xs ys e f g)

pub begin-full : {S : Type 0} (did : S → List Event → S → Type 0) → GoesOn did → (p q r : S) (pool : ℕ) (volumes : List VolumeLine) (e : Refusal) → e ≡ refused.Memory
    → Call did p q (λ events. AsksVolumes events (Ok volumes)) → Call did q r (λ events. ChecksThere pool events (Ok tt)) → Call did p r (λ events. BeginsPool pool events (Err e))
begin-full did goes p q r pool volumes e is a b =
    call_then did goes (λ events. AsksVolumes events (Ok volumes)) (λ events. ChecksThere pool events (Ok tt)) (λ events. BeginsPool pool events (Err e)) p q r a b
    (λ xs ys f g. (inl (inl is), asks-append xs ys (volumes-ask xs volumes f) (there-asks pool ys true g)))

begin-by : (pool : ℕ) (volumes : List VolumeLine) (files : List ℕ) (result : Result (List Wanted) Refusal) (xs us vs : List Event) → files ≡ destroyed_of volumes → AskedVolumes xs volumes → ToldThere pool us true
    → Collects (Some pool) files vs result → BeginsPool pool (xs ++ (us ++ vs)) result
begin-by pool volumes files (Ok wanted) xs us vs same f g h =
    (volumes, (xs, us ++ vs, refl, f, (us, vs, refl, g, subst (λ (fs : List ℕ). Collected (Some pool) fs [] wanted vs) same h)))
begin-by pool volumes files (Err e) xs us vs same f g h =
    let asks : AreAsking (xs ++ (us ++ vs)) = asks-append xs (us ++ vs) (volumes-ask xs volumes f) (asks-append us vs (there-asks pool us true g) h.1) in
    let those : List ℕ = destroyed_of volumes in
    let lost : IsUncollected those (xs ++ (us ++ vs)) e =
    uncollected-behind those xs (us ++ vs) e (uncollected-behind those us vs e (subst (λ (fs : List ℕ). IsUncollected fs vs e) same h.0)) in
    (inr (inr (inl (volumes, lost, asks, met-before (TellsVolumes volumes) xs (us ++ vs) (told-volumes volumes xs f)))), asks)

pub begins : {S : Type 0} (did : S → List Event → S → Type 0) → GoesOn did → (p q r s : S) (pool : ℕ) (volumes those : List VolumeLine) (files all : List ℕ) (result : Result (List Wanted) Refusal)
    → those ≡ volumes → files ≡ destroyed_of those → all ≡ files
    → Call did p q (λ events. AsksVolumes events (Ok volumes)) → Call did q r (λ events. ChecksThere pool events (Ok tt)) → Call did r s (λ events. Collects (Some pool) all events result)
    → Call did p s (λ events. BeginsPool pool events result)
begins did goes p q r s pool volumes those files all result alike is same a b c = (
  a.0 ++ (b.0 ++ c.0),
  goes p q s a.0 (b.0 ++ c.0) a.1 (goes q r s b.0 c.0 b.1 c.1),
  begin-by pool volumes all result a.0 b.0 c.0 (same ∙ is ∙ ap destroyed_of alike) a.2 b.2 c.2,
)
