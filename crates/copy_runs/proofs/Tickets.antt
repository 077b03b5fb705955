-- Tickets for copies that were listed: behind questions, and behind other steps.
use Rattle.std.proofs.Common.{◌≡◌, inl, inr, ℕ, Bool, List, [], ◌∷◌, ◌++◌, Result, Ok, Err, refl, sym, ap, subst, ◌∙◌, append_assoc}
use Rattle.kinds.specs.declared.refusal.Refusal.{Refusal}
use Rattle.inventory_answers.specs.declared.query.Query.TheVariants as query
use Rattle.inventory_answers.specs.declared.reply.Answer.{Answer}
use Rattle.inventory_answers.specs.declared.reply.Rows.TheVariants as rows
use Rattle.inventory_work.specs.declared.lines.CopyLine.{CopyLine}
use Rattle.space.specs.declared.aim.Aim.{Aim}
use Rattle.steps.specs.Events.{Deed, Event, event}
use Rattle.steps.specs.Events.Deed.{Ask, OpenCopy}
use Rattle.copy_attempts.proofs.Facts.{met-behind}
use Rattle.copy_attempts.specs.Outcomes.{MetBy}
use Rattle.copy_runs.specs.Ends.{AreAsking, IsAsking}
use Rattle.copy_runs.specs.Tickets.{GotNoTicket, ListsCopy}
use Rattle.copy_runs.specs.Wanting.{IsIn}

-- each of these copies was listed by one of the steps
abbrev pub AreListed : List CopyLine → List Event → Type 0
AreListed lines events = (l : CopyLine) → IsIn l lines → MetBy (ListsCopy l.object l.pool) events

-- those with which the question for the copies on a volume was answered were listed
pub lists-all : (file : ℕ) (events : List Event) (lines : List CopyLine) → (n : ℕ) × (answer : Answer) × (events ≡ event n (Ask (query.OnVolume file) (Ok answer)) ∷ []) × (answer.rows ≡ rows.OnVolume lines)
    → AreListed lines events
lists-all file events lines (n, answer, is, told) l among =
    subst (λ (es : List Event). MetBy (ListsCopy l.object l.pool) es) (sym is) (inl (inl (file, answer, lines, l, refl, told, among, refl, refl)))

-- a question opens no ticket
asks-none : (d : Deed) (object : ℕ) (a : Aim) (avoid : ℕ) (answer : Result ℕ Refusal) → IsAsking d → d ≡ OpenCopy object a avoid answer → ⊥
asks-none d object a avoid answer (q, told, is) opens = (let odd : ◌≡◌ {A = Deed} (Ask q told) (OpenCopy object a avoid answer) = sym is ∙ opens in cc)

pub met-later : (object : ℕ) (a : Aim) (avoid : ℕ) (answer : Result ℕ Refusal) (xs ys : List Event) → AreAsking xs → MetBy (λ d. d ≡ OpenCopy object a avoid answer) (xs ++ ys)
    → MetBy (λ d. d ≡ OpenCopy object a avoid answer) ys
met-later object a avoid answer [] ys asks met = met
met-later object a avoid answer (x ∷ xs) ys asks (inl is) = absurd (asks-none x.deed object a avoid answer asks.0 is)
met-later object a avoid answer (x ∷ xs) ys asks (inr met) = met-later object a avoid answer xs ys asks.1 met

pub ticket-behind : (object from placed to : ℕ) (along : Bool) (avoid : ℕ) (xs ys : List Event) (e : Refusal) → GotNoTicket object from placed to along avoid ys e → GotNoTicket object from placed to along avoid (xs ++ ys) e
ticket-behind object from placed to along avoid xs ys e (us, vs, is, listed, met) =
    (xs ++ us, vs, ap (λ (es : List Event). xs ++ es) is ∙ sym (append_assoc xs us vs), met-behind (ListsCopy object from) xs us listed, met)
