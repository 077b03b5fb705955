-- What is left where nothing joined.
use Rattle.std.proofs.Common.{◌≡◌, ◌⊎◌, inl, inr, ℕ, ◌+◌, ◌≤◌, Bool, true, false, List, [], ◌∷◌, ◌++◌, length, Result, refl, sym, ap, subst, ◌∙◌, arith}
use Rattle.std.proofs.lemmas.Bool.{false≢true}
use Rattle.std.proofs.lemmas.List.{append-nil, length-append}
use Rattle.kinds.specs.declared.refusal.Refusal.{Refusal}
use Rattle.machine.specs.Machine.{records_length}
use Rattle.machine.specs.State.{Core, Machine}
use Rattle.entries.specs.declared.entry.Entry.{Entry}
use Rattle.line_results.specs.Resting.{Adds, HasSizes, IsAtRest, IsNearlyDurable, Leaves, LogEnds, Onward, has_broken, has_ended}
use Rattle.line_results.proofs.Runs.{Became, is-as}

pub rest-as : (c d : Core) → c ≡ d → IsAtRest d → IsAtRest c
rest-as c d same rest = subst IsAtRest (sym same) rest

-- each transaction is durable, or the newest joined behind such
pub nearly-all : (c : Core) → length c.stamps ≡ length c.journal → IsNearlyDurable c
nearly-all c all = omega (arith, all)

pub nearly-joined : (stamps : List ℕ) (journal : List Entry) (e : Entry) → length stamps ≡ length journal → length (journal ++ e ∷ []) ≤ length stamps + 1
nearly-joined stamps journal e all = let long : length (journal ++ e ∷ []) ≡ length journal + 1 = length-append journal (e ∷ []) in omega (arith, long, all)

pub nearly-as : (c d : Core) → c ≡ d → IsNearlyDurable d → IsNearlyDurable c
nearly-as c d same nearly = subst IsNearlyDurable (sym same) nearly

-- What every command leaves, whatever may be in doubt behind it: unless the run ended the machine is at rest; and each transaction is durable unless a fault or a full run ended it, or memory was
-- wanted behind one that was made.
pub record Left {A : Type 0} (result : Result A Refusal) (added : List Entry) (old new : Machine) : Type 0 where
  pub adds : Adds added old new
  pub onward : Onward old new
  pub log : LogEnds added old new
  pub rests : has_ended result ≡ false → IsAtRest new.core
  pub durable : has_broken result ≡ false → (length new.core.stamps ≡ length new.core.journal) ⊎ ((has_ended result ≡ true) × (added ≡ [] → ⊥))

pub left-of : {A : Type 0} (result : Result A Refusal) (added : List Entry) (old new : Machine) → Leaves result added old new → Left result added old new
left-of result added old new l = record { adds = l.adds; onward = l.onward; log = l.log; rests = l.rests; durable = l.durable }

-- nothing joined, and the log is as long as it was
pub record IsQuiet (c d : Core) : Type 0 where
  pub base : d.base ≡ c.base
  pub journal : d.journal ≡ c.journal
  pub generation : d.generation ≡ c.generation
  pub log_length : d.log_length ≡ c.log_length

pub quiet-adds : (c : Core) (old new : Machine) → IsQuiet old.core c → Became c old new → Adds [] old new
quiet-adds c old new q b = record {
  base = ap (λ (x : Core). x.base) b.core ∙ q.base;
  journal = ap (λ (x : Core). x.journal) b.core ∙ q.journal ∙ sym (append-nil old.core.journal);
}

pub quiet-log : (c : Core) (old new : Machine) → IsQuiet old.core c → Became c old new → LogEnds [] old new
quiet-log c old new q b =
    let long : new.core.log_length ≡ old.core.log_length = ap (λ (x : Core). x.log_length) b.core ∙ q.log_length in
    let none : records_length [] ≡ 0 = refl in
    inl (ap (λ (x : Core). x.generation) b.core ∙ q.generation, omega (arith, long, none))

pub same-quiet : (c : Core) → IsQuiet c c
same-quiet c = record { base = refl; journal = refl; generation = refl; log_length = refl }

-- the machine is as it was but for counts and the moment
pub still-leaves : {A : Type 0} (result : Result A Refusal) (old new : Machine) → IsAtRest old.core → Became old.core old new → Leaves result [] old new
still-leaves result old new rest b = record {
  adds = quiet-adds old.core old new (same-quiet old.core) b;
  onward = b.onward;
  log = quiet-log old.core old new (same-quiet old.core) b;
  nearly = nearly-all new.core (rest-as new.core old.core b.core rest).durable;
  rests = λ _. rest-as new.core old.core b.core rest;
  durable = λ _. inl (rest-as new.core old.core b.core rest).durable;
}

stamps-kept : (broken : Bool) (c d : Core) → d ≡ c → (broken ≡ true) ⊎ (length c.stamps ≡ length c.journal) → broken ≡ false → length d.stamps ≡ length d.journal
stamps-kept broken c d same (inl h) not = absurd (false≢true (sym not ∙ h))
stamps-kept broken c d same (inr h) not = subst (λ (x : Core). length x.stamps ≡ length x.journal) (sym same) h

-- the run ended, and the machine may not be at rest
pub ended-leaves : {A : Type 0} (result : Result A Refusal) (c : Core) (old new : Machine) → IsQuiet old.core c → Became c old new → IsNearlyDurable c → has_ended result ≡ true
    → (has_broken result ≡ true) ⊎ (length c.stamps ≡ length c.journal) → Leaves result [] old new
ended-leaves result c old new q b nearly ended durable = record {
  adds = quiet-adds c old new q b;
  onward = b.onward;
  log = quiet-log c old new q b;
  nearly = nearly-as new.core c b.core nearly;
  rests = λ not. absurd (false≢true (sym not ∙ ended));
  durable = λ not. inl (stamps-kept (has_broken result) c new.core b.core durable not);
}

-- objects have the sizes that they had
pub sizes-as : (old new : Machine) → Became old.core old new → HasSizes old → HasSizes new
sizes-as old new b h = subst HasSizes (sym (is-as old.core old new b)) h
