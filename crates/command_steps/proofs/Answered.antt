-- A line that is answered, part by part.
use Rattle.std.proofs.Common.{◌≡◌, inl, inr, ℕ, true, false, nat_lt, List, [], Option, None, Some, Result, Ok, Err, refl, sym, ap, subst}
use Rattle.kinds.specs.declared.refusal.Refusal.{Refusal}
use Rattle.inventory_answers.specs.declared.query.Query.TheVariants as query
use Rattle.inventory_rows.specs.version_groups.Entries.{on_ok}
use Rattle.admin_words.specs.declared.command.Command.{Command}
use Rattle.script_loop.specs.Reply.{Answer}
use Rattle.script_loop.specs.declared.ends.Halt.{Halt}
use Rattle.script_loop.specs.declared.ends.Halt.TheVariants as halt
use Rattle.sessions.specs.Asking.{unasked}
use Rattle.sessions.specs.Checkpoints.{Checkpointing}
use Rattle.steps.proofs.Joining.{GoesOn, call_of_none, does_made, so_call, then_call}
use Rattle.steps.specs.Calls.{Call, Does, Made, Then}
use Rattle.steps.specs.Events.{Event}
use Rattle.steps.specs.Events.Deed.{Ask}
use Rattle.command_steps.specs.Answering.{AnswersLine, AsksLog, DoesLine, DoesOrWants, Follows, IfLong, halted_behind, long_log, unless_full}
use Rattle.command_steps.specs.Answers.{Ends, IsRefused, halt_by, nothing}
use Rattle.command_steps.specs.Clients.{Client, IsKept}
use Rattle.command_steps.specs.Doing.{Doing}
use Rattle.command_steps.specs.Lines.{Line, asks, comment, refused}
use Rattle.command_steps.specs.declared.outcome.Outcome.{Outcome}

-- ---- the line itself

pub wants : {S : Type 0} (did : S → List Event → S → Type 0) (p : S) (k : Client) (n : ℕ) (line : Line) → did p [] p → IsKept k → Call did p p (λ events. DoesOrWants k n line events (Err halt.Memory))
wants did p k n line stays kept = call_of_none did (λ events. DoesOrWants k n line events (Err halt.Memory)) p p stays (inr (kept, refl, refl))

pub comments : {S : Type 0} (did : S → List Event → S → Type 0) (p : S) (k : Client) (n : ℕ) (line : Line) (result : Result (Answer × Option Refusal) Halt) → did p [] p → IsKept k → comment ≡ line → result ≡ Ok (nothing, None)
    → Call did p p (λ events. DoesOrWants k n line events result)
comments did p k n line result stays kept is said =
    subst (λ (it : Line). Call did p p (λ events. DoesOrWants k n it events result)) is (call_of_none did (λ events. DoesOrWants k n comment events result) p p stays (inl (kept, refl, said)))

pub refuses : {S : Type 0} (did : S → List Event → S → Type 0) (p : S) (k : Client) (n : ℕ) (line : Line) (why : Refusal) (result : Result (Answer × Option Refusal) Halt) → did p [] p → IsKept k → refused why ≡ line
    → IsRefused n why result → Call did p p (λ events. DoesOrWants k n line events result)
refuses did p k n line why result stays kept is said =
    subst (λ (it : Line). Call did p p (λ events. DoesOrWants k n it events result)) is (call_of_none did (λ events. DoesOrWants k n (refused why) events result) p p stays (inl (kept, refl, said)))

pub does-asked : {S : Type 0} (did : S → List Event → S → Type 0) (p q : S) (k : Client) (n : ℕ) (line : Line) (c : Command) (said : Result Outcome Refusal) (result : Result (Answer × Option Refusal) Halt)
    → asks c ≡ line → Call did p q (λ events. Doing k c events said) → Ends n said result → Call did p q (λ events. DoesOrWants k n line events result)
does-asked did p q k n line c said result is a ends =
    subst (λ (it : Line). Call did p q (λ events. DoesOrWants k n it events result)) is
    (so_call did (λ events. Doing k c events said) (λ events. DoesOrWants k n (asks c) events result) p q a (λ xs f. inl (said, f, ends)))

-- what doesn't end the run is answered by its refusal
pub answers-refused : (n : ℕ) (why : Refusal) (result : Result (Answer × Option Refusal) Halt) → halt_by why ≡ None → IsRefused n why result → Ends n (Err why) result
answers-refused n why (Ok reply) none h = (none, h)
answers-refused n why (Err how) none h = inr h

-- ---- behind it

pub log-refused : {S : Type 0} (did : S → List Event → S → Type 0) (p q : S) (why e : Refusal) → Does did p q (Ask query.LogBytes (Err why)) → e ≡ unasked why → Call did p q (λ events. AsksLog events (Err e))
log-refused did p q why e d same =
    so_call did (λ events. Made (Ask query.LogBytes (Err why)) events) (λ events. AsksLog events (Err e)) p q (does_made did p q (Ask query.LogBytes (Err why)) d) (λ xs made. inl (why, same, made))

pub short-log : {S : Type 0} (did : S → List Event → S → Type 0) (p : S) (count : ℕ) → did p [] p → nat_lt count long_log ≡ true → Call did p p (λ events. IfLong count events (Ok tt))
short-log did p count stays short = call_of_none did (λ events. IfLong count events (Ok tt)) p p stays (inl (short, refl, refl))

pub long-log : {S : Type 0} (did : S → List Event → S → Type 0) (p q : S) (count : ℕ) (answer : Result ℕ Refusal) (result : Result (Unit {0}) Refusal) → nat_lt count long_log ≡ false
    → Call did p q (λ events. Checkpointing events answer) → result ≡ on_ok (λ seq. tt) answer → Call did p q (λ events. IfLong count events result)
long-log did p q count answer result long a is =
    so_call did (λ events. Checkpointing events answer) (λ events. IfLong count events result) p q a (λ xs f. inr (long, answer, f, is))

pub follows-refused : {S : Type 0} (did : S → List Event → S → Type 0) (p q : S) (e : Refusal) (result : Result (Unit {0}) Refusal) → Call did p q (λ events. AsksLog events (Err e)) → result ≡ unless_full e
    → Call did p q (λ events. Follows events result)
follows-refused did p q e result a is = so_call did (λ events. AsksLog events (Err e)) (λ events. Follows events result) p q a (λ xs f. inl (e, f, is))

pub follows-asked : {S : Type 0} (did : S → List Event → S → Type 0) → GoesOn did → (p q r : S) (count : ℕ) (result : Result (Unit {0}) Refusal) → Call did p q (λ events. AsksLog events (Ok count))
    → Call did q r (λ events. IfLong count events result) → Call did p r (λ events. Follows events result)
follows-asked did goes p q r count result a b =
    so_call did (λ events. Then (λ xs. AsksLog xs (Ok count)) (λ ys. IfLong count ys result) events) (λ events. Follows events result) p r
    (then_call did goes (λ events. AsksLog events (Ok count)) (λ events. IfLong count events result) p q r a b) (λ xs f. inr (count, f))

-- ---- both

behind : {S : Type 0} (did : S → List Event → S → Type 0) → GoesOn did → (p q r : S) (k : Client) (n : ℕ) (line : Line) (reply : Answer × Option Refusal) (made : Result (Unit {0}) Refusal) (how : Option Halt)
    → Call did p q (λ events. DoesOrWants k n line events (Ok reply)) → Call did q r (λ events. Follows events made) → halted_behind made ≡ how
    → Call did p r (λ events. Then (λ xs. DoesOrWants k n line xs (Ok reply)) (λ ys. (made : Result (Unit {0}) Refusal) × Follows ys made × (halted_behind made ≡ how)) events)
behind did goes p q r k n line reply made how a b is =
    then_call did goes (λ events. DoesOrWants k n line events (Ok reply)) (λ events. (made : Result (Unit {0}) Refusal) × Follows events made × (halted_behind made ≡ how)) p q r a
    (so_call did (λ events. Follows events made) (λ events. (made : Result (Unit {0}) Refusal) × Follows events made × (halted_behind made ≡ how)) q r b (λ xs f. (made, f, is)))

pub answered : {S : Type 0} (did : S → List Event → S → Type 0) → GoesOn did → (p q r : S) (k : Client) (n : ℕ) (line : Line) (reply : Answer × Option Refusal) (made : Result (Unit {0}) Refusal)
    → Call did p q (λ events. DoesOrWants k n line events (Ok reply)) → Call did q r (λ events. Follows events made) → halted_behind made ≡ None
    → Call did p r (λ events. AnswersLine k n line events (Ok reply))
answered did goes p q r k n line reply made a b is = behind did goes p q r k n line reply made None a b is

pub halted : {S : Type 0} (did : S → List Event → S → Type 0) → GoesOn did → (p q r : S) (k : Client) (n : ℕ) (line : Line) (reply : Answer × Option Refusal) (made : Result (Unit {0}) Refusal) (how : Halt)
    → Call did p q (λ events. DoesOrWants k n line events (Ok reply)) → Call did q r (λ events. Follows events made) → halted_behind made ≡ Some how
    → Call did p r (λ events. AnswersLine k n line events (Err how))
halted did goes p q r k n line reply made how a b is =
    so_call did (λ events. Then (λ xs. DoesOrWants k n line xs (Ok reply)) (λ ys. (made : Result (Unit {0}) Refusal) × Follows ys made × (halted_behind made ≡ Some how)) events)
    (λ events. AnswersLine k n line events (Err how)) p r (behind did goes p q r k n line reply made (Some how) a b is) (λ xs f. inr (reply, f))

pub ended : {S : Type 0} (did : S → List Event → S → Type 0) (p q : S) (k : Client) (n : ℕ) (line : Line) (how : Halt)
    → Call did p q (λ events. DoesOrWants k n line events (Err how)) → Call did p q (λ events. AnswersLine k n line events (Err how))
ended did p q k n line how a =
    so_call did (λ events. DoesOrWants k n line events (Err how)) (λ events. AnswersLine k n line events (Err how)) p q a (λ xs f. inl f)
