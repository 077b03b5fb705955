-- What is asked, and answered.
use Rattle.std.proofs.Common.{◌≡◌, inl, inr, ℕ, ◌==◌, Bool, true, false, true≢false, List, [], ◌∷◌, if◌then◌else◌, IfErr, IfOk, Result, Ok, Err, refl, sym, ap, subst, ◌∙◌}
use Rattle.kinds.specs.Refusals.{number_of}
use Rattle.kinds.specs.declared.refusal.Refusal.{Refusal}
use Rattle.kinds.specs.declared.refusal.Refusal.TheVariants as refused
use Rattle.inventory_answers.specs.declared.lines.VersionLine.{VersionLine}
use Rattle.inventory_answers.specs.declared.query.Query.{Query}
use Rattle.inventory_answers.specs.declared.query.Query.TheVariants as query
use Rattle.inventory_answers.specs.declared.reply.Answer.{Answer}
use Rattle.steps.proofs.Joining.{so_call}
use Rattle.steps.specs.Calls.{Call, Made}
use Rattle.steps.specs.Events.{Event, has_number}
use Rattle.steps.specs.Events.Deed.{Ask}
use Rattle.incrementals.specs.Asking.{AsksFor, AsksVersions, HasVersions, unasked, unlisted}

-- ---- any question

pub asks-none : {A S : Type 0} (did : S → List Event → S → Type 0) (p : S) (q : Query) (Has : A → Answer → Type 0) (e : Refusal) → did p [] p → e ≡ refused.Memory
    → Call did p p (λ events. AsksFor q Has events (Err e))
asks-none did p q Has e stays is = ([], stays, inl (is, refl))

pub asks-refused : {A S : Type 0} (did : S → List Event → S → Type 0) (p r : S) (q made : Query) (Has : A → Answer → Type 0) (why e : Refusal) → made ≡ q → Call did p r (λ events. Made (Ask made (Err why)) events)
    → e ≡ unasked why → Call did p r (λ events. AsksFor q Has events (Err e))
asks-refused did p r q made Has why e same a is =
    so_call did (λ events. Made (Ask made (Err why)) events) (λ events. AsksFor q Has events (Err e)) p r a
    (λ xs f. inr (inr (why, is, subst (λ (o : Query). Made (Ask o (Err why)) xs) same f)))

pub asks-answered : {A S : Type 0} (did : S → List Event → S → Type 0) (p r : S) (q made : Query) (Has : A → Answer → Type 0) (answer : Answer) (result : Result A Refusal) → made ≡ q
    → Call did p r (λ events. Made (Ask made (Ok answer)) events) → IfOk result (λ x. Has x answer) → IfErr result (λ e. e ≡ refused.Memory)
    → Call did p r (λ events. AsksFor q Has events result)
asks-answered did p r q made Has answer (Ok x) same a ok err =
    so_call did (λ events. Made (Ask made (Ok answer)) events) (λ events. AsksFor q Has events (Ok x)) p r a
    (λ xs f. (answer, ok, subst (λ (o : Query). Made (Ask o (Ok answer)) xs) same f))
asks-answered did p r q made Has answer (Err e) same a ok err =
    so_call did (λ events. Made (Ask made (Ok answer)) events) (λ events. AsksFor q Has events (Err e)) p r a
    (λ xs f. inr (inl (answer, err, subst (λ (o : Query). Made (Ask o (Ok answer)) xs) same f)))

-- ---- versions

not_there : (e : Refusal) → e ≡ refused.Memory → (number_of e == 10) ≡ false
not_there e is = subst (λ (x : Refusal). (number_of x == 10) ≡ false) (sym is) refl

pub versions-none : {S : Type 0} (did : S → List Event → S → Type 0) (p : S) (node filespace : List ℕ) (e : Refusal) → did p [] p → e ≡ refused.Memory
    → Call did p p (λ events. AsksVersions node filespace events (Err e))
versions-none did p node filespace e stays is = ([], stays, (not_there e is, inl (is, refl)))

pub versions-answered : {S : Type 0} (did : S → List Event → S → Type 0) (p r : S) (node filespace : List ℕ) (made : Query) (answer : Answer) (result : Result (List VersionLine) Refusal)
    → made ≡ query.Versions node filespace → Call did p r (λ events. Made (Ask made (Ok answer)) events) → IfOk result (λ lines. HasVersions lines answer)
    → IfErr result (λ e. e ≡ refused.Memory) → Call did p r (λ events. AsksVersions node filespace events result)
versions-answered did p r node filespace made answer (Ok lines) same a ok err =
    so_call did (λ events. Made (Ask made (Ok answer)) events) (λ events. AsksVersions node filespace events (Ok lines)) p r a
    (λ xs f. inl (answer, ok, subst (λ (o : Query). Made (Ask o (Ok answer)) xs) same f))
versions-answered did p r node filespace made answer (Err e) same a ok err =
    so_call did (λ events. Made (Ask made (Ok answer)) events) (λ events. AsksVersions node filespace events (Err e)) p r a
    (λ xs f. (not_there e err, inr (inl (answer, err, subst (λ (o : Query). Made (Ask o (Ok answer)) xs) same f))))

not_as : (e : Refusal) (b : Bool) → (number_of e == 10) ≡ false → (number_of (if b then e else refused.Memory) == 10) ≡ false
not_as e true not = not
not_as e false not = refl

unlisted_as : (node filespace : List ℕ) (why : Refusal) (xs : List Event) → Made (Ask (query.Versions node filespace) (Err why)) xs → (b : Bool) → (number_of why == 10) ≡ b
    → AsksVersions node filespace xs (if b then Ok [] else Err (unasked why))
unlisted_as node filespace why xs f true there = inr (refl, why, there, f)
unlisted_as node filespace why xs f false there = (not_as why (has_number (10 ∷ 40 ∷ 41 ∷ []) why) there, inr (inr (why, refl, f)))

pub versions-refused : {S : Type 0} (did : S → List Event → S → Type 0) (p r : S) (node filespace : List ℕ) (made : Query) (why : Refusal) (result : Result (List VersionLine) Refusal)
    → made ≡ query.Versions node filespace → Call did p r (λ events. Made (Ask made (Err why)) events) → result ≡ unlisted why → Call did p r (λ events. AsksVersions node filespace events result)
versions-refused did p r node filespace made why result same a is =
    subst (λ (x : Result (List VersionLine) Refusal). Call did p r (λ events. AsksVersions node filespace events x)) (sym is)
    (so_call did (λ events. Made (Ask made (Err why)) events) (λ events. AsksVersions node filespace events (unlisted why)) p r a
    (λ xs f. unlisted_as node filespace why xs (subst (λ (o : Query). Made (Ask o (Err why)) xs) same f) (number_of why == 10) refl))
