-- A backup, piece by piece.
use Rattle.std.proofs.Common.{◌≡◌, inl, inr, ℕ, ◌+◌, ◌-◌, ◌^◌, List, [], ◌∷◌, length, Option, None, Some, Result, Ok, Err, refl, sym, ap, subst}
use Rattle.kinds.specs.declared.refusal.Refusal.{Refusal}
use Rattle.kinds.specs.declared.refusal.Refusal.TheVariants as refused
use Rattle.entries.specs.declared.change.Change.TheVariants.{DbDelete}
use Rattle.copy_attempts.specs.Attempts.{stopping}
use Rattle.sessions.proofs.Checkpointed.{Written}
use Rattle.sessions.specs.Changing.{Changing}
use Rattle.sessions.specs.Checkpoints.{AreMore}
use Rattle.steps.proofs.Joining.{GoesOn, call_of_none, call_then, does_made, so_call, then_call}
use Rattle.steps.specs.declared.image.ImageKind.{ImageKind}
use Rattle.steps.specs.declared.image.ImageKind.TheVariants as image
use Rattle.steps.specs.declared.image.ImageReply.TheVariants as reply
use Rattle.steps.specs.Calls.{Call, Does, Made, Then}
use Rattle.steps.specs.Events.{Event}
use Rattle.steps.specs.Events.Deed.{Force, Image}
use Rattle.db_backup.specs.declared.taking.Taken.{Taken}
use Rattle.db_backup.specs.Taking.{Backs, Begins, BreaksOff, Completes, Continues, GivesUp, Opens, Starts, TakesOff, begun_file, failed_file, gone_by, unbegun, unwritten}

-- ---- the beginning

pub begins-not : {S : Type 0} (did : S → List Event → S → Type 0) (p q : S) (kind : ImageKind) (why e : Refusal) → e ≡ unbegun kind why → Does did p q (Image kind (Err why)) → Call did p q (λ events. Begins kind (Err e) events)
begins-not did p q kind why e is d =
    so_call did (λ events. Made (Image kind (Err why)) events) (λ events. Begins kind (Err e) events) p q (does_made did p q (Image kind (Err why)) d) (λ xs f. inl (why, is, f))

-- ---- pieces

pub continues-done : {S : Type 0} (did : S → List Event → S → Type 0) → GoesOn did → (p q r : S) (count seq : ℕ) → Call did p q (Written count) → Does did q r (Image image.Next (Ok (reply.Done seq)))
    → Call did p r (λ events. Continues events (Ok seq))
continues-done did goes p q r count seq a d =
    then_call did goes AreMore (λ events. Made (Image image.Next (Ok (reply.Done seq))) events) p q r (so_call did (Written count) AreMore p q a (λ xs f. f.0)) (does_made did q r (Image image.Next (Ok (reply.Done seq))) d)

breaks-behind : {S : Type 0} (did : S → List Event → S → Type 0) → GoesOn did → (p q r : S) (count : ℕ) (e : Refusal) → Call did p q (Written count) → Call did q r (BreaksOff count e)
    → Call did p r (λ events. Continues events (Err e))
breaks-behind did goes p q r count e a b =
    so_call did (λ events. Then (Written count) (BreaksOff count e) events) (λ events. Continues events (Err e)) p r (then_call did goes (Written count) (BreaksOff count e) p q r a b)
    (λ events f. (f.0, (f.0, f.1, f.2, (refl, f.3.0), subst (λ (k : ℕ). BreaksOff k e f.1) (sym f.3.1) f.4)))

pub continues-refused : {S : Type 0} (did : S → List Event → S → Type 0) → GoesOn did → (p q r : S) (count : ℕ) (why e : Refusal) → Call did p q (Written count) → Does did q r (Image image.Next (Err why)) → e ≡ unwritten why
    → Call did p r (λ events. Continues events (Err e))
continues-refused did goes p q r count why e a d same =
    breaks-behind did goes p q r count e a
    (so_call did (λ events. Made (Image image.Next (Err why)) events) (BreaksOff count e) q r (does_made did q r (Image image.Next (Err why)) d) (λ xs f. inl (why, same, f)))

pub continues-begun : {S : Type 0} (did : S → List Event → S → Type 0) → GoesOn did → (p q r : S) (count file seq : ℕ) → Call did p q (Written count) → Does did q r (Image image.Next (Ok (reply.Begun file seq)))
    → Call did p r (λ events. Continues events (Err refused.Memory))
continues-begun did goes p q r count file seq a d =
    breaks-behind did goes p q r count refused.Memory a
    (so_call did (λ events. Made (Image image.Next (Ok (reply.Begun file seq))) events) (BreaksOff count refused.Memory) q r (does_made did q r (Image image.Next (Ok (reply.Begun file seq))) d)
    (λ xs f. inr (inl (file, seq, refl, f))))

pub continues-used : {S : Type 0} (did : S → List Event → S → Type 0) → GoesOn did → (p q : S) (count : ℕ) → did q [] q → count ≡ 2 ^ 64 - 1 → Call did p q (Written count)
    → Call did p q (λ events. Continues events (Err refused.Memory))
continues-used did goes p q count stays all a = breaks-behind did goes p q q count refused.Memory a ([], stays, inr (inr (all, refl, refl)))

-- ---- a file that can't be written

pub took-off : {S : Type 0} (did : S → List Event → S → Type 0) (p q : S) (file number : ℕ) → Call did p q (λ events. Changing (DbDelete file) events (Ok number)) → Call did p q (λ events. TakesOff file events (Ok tt))
took-off did p q file number a =
    so_call did (λ events. Changing (DbDelete file) events (Ok number)) (λ events. TakesOff file events (Ok tt)) p q a (λ xs f. inl (number, f, refl))

pub took-not : {S : Type 0} (did : S → List Event → S → Type 0) (p q : S) (file : ℕ) (why : Refusal) (result : Result (Unit {0}) Refusal) → result ≡ gone_by why
    → Call did p q (λ events. Changing (DbDelete file) events (Err why)) → Call did p q (λ events. TakesOff file events result)
took-not did p q file why result is a =
    so_call did (λ events. Changing (DbDelete file) events (Err why)) (λ events. TakesOff file events result) p q a (λ xs f. inr (why, f, is))

pub gave-up : {S : Type 0} (did : S → List Event → S → Type 0) (p q : S) (given : Option ℕ) (file : ℕ) (e : Refusal) → given ≡ Some file → Call did p q (λ events. TakesOff file events (Ok tt))
    → Call did p q (λ events. GivesUp given e events e)
gave-up did p q given file e is a =
    so_call did (λ events. TakesOff file events (Ok tt)) (λ events. GivesUp given e events e) p q a (λ xs f. subst (λ (o : Option ℕ). GivesUp o e xs e) (sym is) (inl (f, refl)))

pub gave-other : {S : Type 0} (did : S → List Event → S → Type 0) (p q : S) (given : Option ℕ) (file : ℕ) (e other : Refusal) → given ≡ Some file → Call did p q (λ events. TakesOff file events (Err other))
    → Call did p q (λ events. GivesUp given e events other)
gave-other did p q given file e other is a =
    so_call did (λ events. TakesOff file events (Err other)) (λ events. GivesUp given e events other) p q a (λ xs f. subst (λ (o : Option ℕ). GivesUp o e xs other) (sym is) (inr f))

-- ---- the whole

pub starts-not : {S : Type 0} (did : S → List Event → S → Type 0) → GoesOn did → (p q r : S) (kind : ImageKind) (why e : Refusal) (file : Option ℕ) → file ≡ failed_file why → Call did p q (λ events. Opens kind events (Err why))
    → Call did q r (λ events. GivesUp file why events e) → Call did p r (λ events. Starts kind events (Err e))
starts-not did goes p q r kind why e file is a b =
    so_call did (λ events. Then (λ xs. Opens kind xs (Err why)) (λ ys. GivesUp file why ys e) events) (λ events. Starts kind events (Err e)) p r
    (then_call did goes (λ events. Opens kind events (Err why)) (λ events. GivesUp file why events e) p q r a b)
    (λ xs f. (why, subst (λ (o : Option ℕ). Then (λ zs. Opens kind zs (Err why)) (λ ys. GivesUp o why ys e) xs) is f))

pub completes-forced : {S : Type 0} (did : S → List Event → S → Type 0) → GoesOn did → (p q r : S) (t : Taken) (seq last : ℕ) → Call did p q (λ events. Continues events (Ok seq)) → Does did q r (Force (Ok last))
    → Call did p r (λ events. Completes t events (Ok t))
completes-forced did goes p q r t seq last a d =
    so_call did (λ events. Then (λ xs. Continues xs (Ok seq)) (λ ys. Made (Force (Ok last)) ys) events) (λ events. Completes t events (Ok t)) p r
    (then_call did goes (λ events. Continues events (Ok seq)) (λ events. Made (Force (Ok last)) events) p q r a (does_made did q r (Force (Ok last)) d)) (λ xs f. (refl, seq, last, f))

pub completes-unforced : {S : Type 0} (did : S → List Event → S → Type 0) → GoesOn did → (p q r : S) (t : Taken) (seq : ℕ) (why e : Refusal) → e ≡ stopping why → Call did p q (λ events. Continues events (Ok seq))
    → Does did q r (Force (Err why)) → Call did p r (λ events. Completes t events (Err e))
completes-unforced did goes p q r t seq why e is a d =
    so_call did (λ events. Then (λ xs. Continues xs (Ok seq)) (λ ys. Made (Force (Err why)) ys) events) (λ events. Completes t events (Err e)) p r
    (then_call did goes (λ events. Continues events (Ok seq)) (λ events. Made (Force (Err why)) events) p q r a (does_made did q r (Force (Err why)) d)) (λ xs f. inr (seq, why, is, f))

pub completes-not : {S : Type 0} (did : S → List Event → S → Type 0) → GoesOn did → (p q r : S) (t : Taken) (why e : Refusal) (file : Option ℕ) → file ≡ begun_file t.file why → Call did p q (λ events. Continues events (Err why))
    → Call did q r (λ events. GivesUp file why events e) → Call did p r (λ events. Completes t events (Err e))
completes-not did goes p q r t why e file is a b =
    so_call did (λ events. Then (λ xs. Continues xs (Err why)) (λ ys. GivesUp file why ys e) events) (λ events. Completes t events (Err e)) p r
    (then_call did goes (λ events. Continues events (Err why)) (λ events. GivesUp file why events e) p q r a b)
    (λ xs f. inl (why, subst (λ (o : Option ℕ). Then (λ zs. Continues zs (Err why)) (λ ys. GivesUp o why ys e) xs) is f))

pub backs-on : {S : Type 0} (did : S → List Event → S → Type 0) → GoesOn did → (p q r : S) (kind : ImageKind) (t : Taken) (result : Result Taken Refusal) → Call did p q (λ events. Starts kind events (Ok t))
    → Call did q r (λ events. Completes t events result) → Call did p r (λ events. Backs kind events result)
backs-on did goes p q r kind t result a b =
    so_call did (λ events. Then (λ xs. Starts kind xs (Ok t)) (λ ys. Completes t ys result) events) (λ events. Backs kind events result) p r
    (then_call did goes (λ events. Starts kind events (Ok t)) (λ events. Completes t events result) p q r a b) (λ xs f. inr (t, f))

pub backs-not : {S : Type 0} (did : S → List Event → S → Type 0) (p q : S) (kind : ImageKind) (e : Refusal) → Call did p q (λ events. Starts kind events (Err e)) → Call did p q (λ events. Backs kind events (Err e))
backs-not did p q kind e a = so_call did (λ events. Starts kind events (Err e)) (λ events. Backs kind events (Err e)) p q a (λ xs f. inl (e, f, refl))
