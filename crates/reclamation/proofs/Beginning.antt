-- The questions of a move.
use Rattle.std.proofs.Common.{◌≡◌, inl, inr, ℕ, ◌==◌, Bool, true, false, List, [], ◌++◌, map, None, Result, Ok, Err, refl, sym, ap, subst, ◌∙◌}
use Rattle.kinds.specs.Answers.{AnswersBy}
use Rattle.kinds.specs.declared.refusal.Refusal.{Refusal}
use Rattle.kinds.specs.declared.refusal.Refusal.TheVariants as refused
use Rattle.inventory_answers.specs.declared.lines.PoolLine.{PoolLine}
use Rattle.inventory_answers.specs.declared.lines.VolumeLine.{VolumeLine}
use Rattle.inventory_answers.specs.declared.query.Query.TheVariants as query
use Rattle.inventory_answers.specs.declared.reply.Answer.{Answer}
use Rattle.inventory_answers.specs.declared.reply.Rows.TheVariants as rows
use Rattle.inventory_work.specs.declared.lines.CopyLine.{CopyLine}
use Rattle.steps.proofs.Joining.{GoesOn, call_then, does_alone}
use Rattle.steps.specs.Calls.{Call, Does}
use Rattle.steps.specs.Events.{Event}
use Rattle.steps.specs.Events.Deed.{Ask}
use Rattle.copy_attempts.proofs.Facts.{all-append}
use Rattle.copy_runs.proofs.Ending.{ask-nothing, stopped-behind, unlisted-by}
use Rattle.copy_runs.specs.declared.wanted.Wanted.{Wanted}
use Rattle.copy_runs.specs.Ends.{AreAsking, AskedPools, AsksPools, IsAsking, Unanswered, unlisted}
use Rattle.reclamation.specs.Moving.{Allows, AskedVolumes, AsksVolumes, Begins, Checks, IsRefused, Listed, Lists, Told, goes, moving}

-- ---- the lists

pub listed : {S : Type 0} (did : S → List Event → S → Type 0) (p q : S) (file : ℕ) (answer : Answer) (result : Result (List CopyLine) Refusal)
    → ((lines : List CopyLine) → result ≡ Ok lines → answer.rows ≡ rows.OnVolume lines) → ((e : Refusal) → result ≡ Err e → e ≡ refused.Memory)
    → Does did p q (Ask (query.OnVolume file) (Ok answer)) → Call did p q (λ events. Lists file events result)
listed did p q file answer (Ok lines) good bad d =
    does_alone did (λ events. Lists file events (Ok lines)) p q (Ask (query.OnVolume file) (Ok answer)) d (λ n listed. (n, answer, refl, good lines refl)) (λ m. absurd cc)
listed did p q file answer (Err e) good bad d =
    let c : Call did p q (λ events. Unanswered events e) = ask-nothing did p q (query.OnVolume file) answer e (bad e refl) d in
    (c.0, c.1, (inl c.2.0, c.2.1))

pub unlisted-copies : {S : Type 0} (did : S → List Event → S → Type 0) (p q : S) (file : ℕ) (e other : Refusal) → other ≡ unlisted e → Does did p q (Ask (query.OnVolume file) (Err e))
    → Call did p q (λ events. Lists file events (Err other))
unlisted-copies did p q file e other is d = subst (λ (x : Refusal). Call did p q (λ events. Lists file events (Err x))) (sym is) (unlisted-by did p q (query.OnVolume file) e d)

pub listed-volumes : {S : Type 0} (did : S → List Event → S → Type 0) (p q : S) (answer : Answer) (result : Result (List VolumeLine) Refusal)
    → ((lines : List VolumeLine) → result ≡ Ok lines → answer.rows ≡ rows.Volumes lines) → ((e : Refusal) → result ≡ Err e → e ≡ refused.Memory)
    → Does did p q (Ask (query.Volumes None None) (Ok answer)) → Call did p q (λ events. AsksVolumes events result)
listed-volumes did p q answer (Ok lines) good bad d =
    does_alone did (λ events. AsksVolumes events (Ok lines)) p q (Ask (query.Volumes None None) (Ok answer)) d (λ n listed. (n, answer, refl, good lines refl)) (λ m. absurd cc)
listed-volumes did p q answer (Err e) good bad d = ask-nothing did p q (query.Volumes None None) answer e (bad e refl) d

-- ---- where it goes

volumes-asks : (events : List Event) (lines : List VolumeLine) → AskedVolumes events lines → AreAsking events
volumes-asks events lines h = subst AreAsking (sym h.2) ((query.Volumes None None, Ok h.1, refl), tt)

pub pools-asks : (events : List Event) (lines : List PoolLine) → AskedPools events lines → AreAsking events
pools-asks events lines h = subst AreAsking (sym h.2) ((query.Pools None, Ok h.1, refl), tt)

pub asks-append : (xs ys : List Event) → AreAsking xs → AreAsking ys → AreAsking (xs ++ ys)
asks-append xs ys a b = all-append (λ e. IsAsking e.deed) xs ys a b

told-by : (file to : ℕ) (volumes : List VolumeLine) (pools : List PoolLine) (result : Result (Unit {0}) Refusal) (xs ys : List Event) → goes file to volumes pools ≡ result → AskedVolumes xs volumes
    → AskedPools ys pools → Checks file to (xs ++ ys) result
told-by file to volumes pools (Ok done) xs ys is a b = (volumes, pools, is, (xs, ys, refl, a, b))
told-by file to volumes pools (Err e) xs ys is a b = inr (volumes, pools, is, (xs, ys, refl, a, b))

pub checks : {S : Type 0} (did : S → List Event → S → Type 0) → GoesOn did → (p q r : S) (file to : ℕ) (volumes those : List VolumeLine) (pools these : List PoolLine) (result : Result (Unit {0}) Refusal)
    → those ≡ volumes → these ≡ pools → result ≡ goes file to those these
    → Call did p q (λ events. AsksVolumes events (Ok volumes)) → Call did q r (λ events. AsksPools events (Ok pools)) → Call did p r (λ events. Checks file to events result)
checks did on p q r file to volumes those pools these result a b is x y =
    call_then did on (λ events. AskedVolumes events volumes) (λ events. AskedPools events pools) (λ events. Checks file to events result) p q r x y
    (λ xs ys f g. told-by file to volumes pools result xs ys (sym (is ∙ ap (λ (vs : List VolumeLine). goes file to vs these) a ∙ ap (λ (ps : List PoolLine). goes file to volumes ps) b)) f g)

pub checks-unpooled : {S : Type 0} (did : S → List Event → S → Type 0) → GoesOn did → (p q r : S) (file to : ℕ) (volumes : List VolumeLine) (e : Refusal)
    → Call did p q (λ events. AsksVolumes events (Ok volumes)) → Call did q r (λ events. AsksPools events (Err e)) → Call did p r (λ events. Checks file to events (Err e))
checks-unpooled did on p q r file to volumes e a b =
    call_then did on (λ events. AskedVolumes events volumes) (λ events. Unanswered events e) (λ events. Checks file to events (Err e)) p q r a b
    (λ xs ys f g. inl (stopped-behind xs ys e g.0, asks-append xs ys (volumes-asks xs volumes f) g.1))

pub checks-unlisted : {S : Type 0} (did : S → List Event → S → Type 0) (p q : S) (file to : ℕ) (e : Refusal) → Call did p q (λ events. AsksVolumes events (Err e))
    → Call did p q (λ events. Checks file to events (Err e))
checks-unlisted did p q file to e a = (a.0, a.1, inl a.2)

pub allows-own : {S : Type 0} (did : S → List Event → S → Type 0) (p : S) (file to : ℕ) → did p [] p → (to == 0) ≡ true → Call did p p (λ events. Allows (to == 0) file to events (Ok tt))
allows-own did p file to stays own = subst (λ (b : Bool). Call did p p (λ events. Allows b file to events (Ok tt))) (sym own) ([], stays, refl)

pub allows-other : {S : Type 0} (did : S → List Event → S → Type 0) (p q : S) (file to : ℕ) (result : Result (Unit {0}) Refusal) → (to == 0) ≡ false → Call did p q (λ events. Checks file to events result)
    → Call did p q (λ events. Allows (to == 0) file to events result)
allows-other did p q file to result other a = subst (λ (b : Bool). Call did p q (λ events. Allows b file to events result)) (sym other) a

-- ---- both

listed-asks : (file : ℕ) (events : List Event) (lines : List CopyLine) → Listed file events lines → AreAsking events
listed-asks file events lines h = subst AreAsking (sym h.2) ((query.OnVolume file, Ok h.1, refl), tt)

told-asks : (file to : ℕ) (events : List Event) (is : Result (Unit {0}) Refusal) → Told file to events is → AreAsking events
told-asks file to events is (volumes, pools, told, (xs, ys, same, a, b)) = subst AreAsking (sym same) (asks-append xs ys (volumes-asks xs volumes a) (pools-asks ys pools b))

pub allows-asks : (own : Bool) (file to : ℕ) (events : List Event) → Allows own file to events (Ok tt) → AreAsking events
allows-asks true file to events h = subst AreAsking (sym h) tt
allows-asks false file to events h = told-asks file to events (Ok tt) h

abbrev Refused : (file to : ℕ) → List Event → Refusal → Type 0
Refused file to events e = IsRefused file to events e × AreAsking events

barred : (own : Bool) (file to : ℕ) (lines : List CopyLine) (xs ys : List Event) (e : Refusal) → (to == 0) ≡ own → Listed file xs lines → Allows own file to ys (Err e) → Refused file to (xs ++ ys) e
barred true file to lines xs ys e is a b = absurd b
barred false file to lines xs ys e is a (inl b) = (inl (inl (stopped-behind xs ys e b.0)), asks-append xs ys (listed-asks file xs lines a) b.1)
barred false file to lines xs ys e is a (inr b) = (inr (is, lines, (xs, ys, refl, a, b)), asks-append xs ys (listed-asks file xs lines a) (told-asks file to ys (Err e) b))

pub begin-refused : {S : Type 0} (did : S → List Event → S → Type 0) → GoesOn did → (p q r : S) (file to : ℕ) (lines : List CopyLine) (e : Refusal)
    → Call did p q (λ events. Lists file events (Ok lines)) → Call did q r (λ events. Allows (to == 0) file to events (Err e)) → Call did p r (λ events. Begins file to events (Err e))
begin-refused did on p q r file to lines e a b =
    call_then did on (λ events. Listed file events lines) (λ events. Allows (to == 0) file to events (Err e)) (λ events. Begins file to events (Err e)) p q r a b
    (λ xs ys f g. barred (to == 0) file to lines xs ys e refl f g)

pub begin-unlisted : {S : Type 0} (did : S → List Event → S → Type 0) (p q : S) (file to : ℕ) (e : Refusal) → Call did p q (λ events. Lists file events (Err e))
    → Call did p q (λ events. Begins file to events (Err e))
begin-unlisted did p q file to e a = (a.0, a.1, (inl a.2.0, a.2.1))

begins-by : (file to : ℕ) (lines those : List CopyLine) (result : Result (List Wanted) Refusal) (xs ys : List Event) → those ≡ lines → AnswersBy (λ w. w) result (map (moving to) those)
    → Listed file xs lines → Allows (to == 0) file to ys (Ok tt) → Begins file to (xs ++ ys) result
begins-by file to lines those (Ok wanted) xs ys same said a b = (lines, said ∙ ap (map (moving to)) same, (xs, ys, refl, a, b))
begins-by file to lines those (Err e) xs ys same said a b = (inl (inl (inl said)), asks-append xs ys (listed-asks file xs lines a) (allows-asks (to == 0) file to ys b))

pub begins : {S : Type 0} (did : S → List Event → S → Type 0) → GoesOn did → (p q r : S) (file to : ℕ) (lines those : List CopyLine) (result : Result (List Wanted) Refusal)
    → those ≡ lines → AnswersBy (λ w. w) result (map (moving to) those)
    → Call did p q (λ events. Lists file events (Ok lines)) → Call did q r (λ events. Allows (to == 0) file to events (Ok tt)) → Call did p r (λ events. Begins file to events result)
begins did on p q r file to lines those result same said a b =
    call_then did on (λ events. Listed file events lines) (λ events. Allows (to == 0) file to events (Ok tt)) (λ events. Begins file to events result) p q r a b
    (λ xs ys f g. begins-by file to lines those result xs ys same said f g)

pub begins-asks : (file to : ℕ) (events : List Event) (wanted : List Wanted) → Begins file to events (Ok wanted) → AreAsking events
begins-asks file to events wanted (lines, is, (xs, ys, same, a, b)) = subst AreAsking (sym same) (asks-append xs ys (listed-asks file xs lines a) (allows-asks (to == 0) file to ys b))
