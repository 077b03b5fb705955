-- A file that is sent and stored, where one actor has the machine alone and it was at rest: what it comes to.
use Rattle.std.proofs.Common.{◌≡◌, ◌⊎◌, inl, inr, ℕ, ◌+◌, ◌-◌, ◌≤◌, Bool, true, false, if◌then◌else◌, List, [], ◌∷◌, ◌++◌, length, replicate, append-nil, length-append, length-drop, Option, None, Some, Result, Ok, Err, refl, sym, ap, subst, ◌∙◌, arith}
use Rattle.std.proofs.lemmas.Bool.{false≢true}
use Rattle.std.proofs.lemmas.List.{length-replicate}
use Rattle.sha2.specs.Sha256.{sha256}
use Rattle.kinds.specs.ValueForms.{digest_with}
use Rattle.kinds.specs.declared.refusal.Refusal.{Refusal}
use Rattle.kinds.specs.declared.refusal.Refusal.TheVariants as refused
use Rattle.entries.specs.declared.change.Change.{Change}
use Rattle.entries.specs.declared.entry.Entry.{Entry}
use Rattle.steps.specs.Events.{Event, has_number}
use Rattle.admin_words.specs.declared.files.FilePut.{FilePut}
use Rattle.command_steps.specs.Owns.{row_put}
use Rattle.command_steps.specs.sessions.Putting as putting
use Rattle.command_steps.specs.sessions.Putting.{ForcesOne, is_lasting, is_unplaced, unplaced}
use Rattle.command_steps.specs.sessions.declared.homes.Home.{Home}
use Rattle.command_steps.specs.sessions.declared.sending.Sealed.{Sealed}
use Rattle.machine.specs.Alone.{Alone}
use Rattle.machine.specs.Machine.{Places, halting, record_length, stamped}
use Rattle.machine.specs.State.{Core, Machine, Place, unforced}
use Rattle.line_results.specs.Files.{HasStored, IsNext, IsPlacedIn, Stores, StoresBy, backed_up, why_no_place}
use Rattle.line_results.specs.Resting.{Commits, EndsRun, IsAtRest, IsNearlyDurable, Leaves, Onward, SameImage, entry, has_broken, has_ended, why_not}
use Rattle.line_results.proofs.Leaving.{IsQuiet, ended-leaves, nearly-all, nearly-as, nearly-joined, quiet-adds, quiet-log, rest-as, still-leaves}
use Rattle.line_results.proofs.PutSending.{Keeps, SentNot}
use Rattle.line_results.proofs.PutSteps.{holding, idle}
use Rattle.line_results.proofs.PutStoring.{Back, Forced, ForcedNot, InDoubt, Joined, JoinsNot, commits-err, commits-ok, forces-err, forces-ok, gives-back, joined_core, still-held, stored_in}
use Rattle.line_results.proofs.Runs.{Became, Stops, alone-parts, stops-run}

-- ---- what is to be shown

-- so much is said of the transactions that are added, and of what is left
abbrev pub Done : (Is : Result ℕ Refusal → List Entry → Type 0) → Result ℕ Refusal → (old new : Machine) → Type 0
Done Is result old new = (added : List Entry) × Is result added × SameImage old new × Leaves result added old new

-- the same of want of memory, where a call on the tree failed
abbrev pub DoneOr : (Is : Result ℕ Refusal → List Entry → Type 0) → Result ℕ Refusal → (old new : Machine) → Type 0
DoneOr Is result old new = (Done Is result old new × (result ≡ Err refused.TreeFault → ⊥)) ⊎ ((result ≡ Err refused.TreeFault) × Done Is (Err refused.Memory) old new)

abbrev pub IsStored : Places → FilePut → Home → (filespace : ℕ) → (old new : Machine) → Result ℕ Refusal → List Entry → Type 0
IsStored places p home filespace old new result added = Stores places p home filespace old new result added

-- ---- refusals that aren't the tree's

abbrev pub IsOther : Refusal → Type 0
IsOther e = e ≡ refused.TreeFault → ⊥

pub stops-other : (new : Machine) (e : Refusal) → Stops new e → IsOther e
stops-other new e (inl h) tree = (let w : refused.RunFull ≡ refused.TreeFault = sym h.0 ∙ tree in absurd cc)
stops-other new e (inr h) tree = (let w : refused.Memory ≡ refused.TreeFault = sym h ∙ tree in absurd cc)

pub unplaced-other : (why : Refusal) → unplaced why ≡ refused.TreeFault → ⊥
unplaced-other why h = elim (is_unplaced why) as (λ b. is_unplaced why ≡ b → (if b then why else refused.Memory) ≡ refused.TreeFault → ⊥) [
  | true ↦ λ is same. (let w : is_unplaced refused.TreeFault ≡ true = subst (λ (x : Refusal). is_unplaced x ≡ true) same is in absurd cc)
  | false ↦ λ is same. absurd cc
] refl h

err-same : (a b : Refusal) (r : Result ℕ Refusal) → r ≡ Err a → r ≡ Err b → a ≡ b
err-same a b r h k = cc

abbrev pub NoTree : Result ℕ Refusal → Type 0
NoTree result = result ≡ Err refused.TreeFault → ⊥

pub err-other : (e : Refusal) → IsOther e → NoTree (Err e)
err-other e other h = other (err-same e refused.TreeFault (Err e) refl h)

-- ---- refusals that end the run

pub stops-ended : (new : Machine) (e : Refusal) → Stops new e → has_number (40 ∷ 41 ∷ 50 ∷ []) e ≡ true
stops-ended new e (inl h) = subst (λ (x : Refusal). has_number (40 ∷ 41 ∷ 50 ∷ []) x ≡ true) (sym h.0) refl
stops-ended new e (inr h) = subst (λ (x : Refusal). has_number (40 ∷ 41 ∷ 50 ∷ []) x ≡ true) (sym h) refl

-- a halted hall or a full run is answered as it is, and has ended the run
lasting-same : (e : Refusal) → is_lasting e ≡ true → (unplaced e ≡ e) × (has_number (40 ∷ 41 ∷ 50 ∷ []) e ≡ true)
lasting-same (refused.LogFault file count) h = (refl, refl)
lasting-same refused.RunFull h = (refl, refl)
lasting-same e h = absurd cc

-- ---- what is left

pub quiet-held : (size : ℕ) (place : Place) (bytes : List ℕ) (is : Bool) (c : Core) → IsQuiet c (holding size place bytes is c)
quiet-held size place bytes is c = record { base = refl; journal = refl; generation = refl; log_length = refl }

pub quiet-idle : (size : ℕ) (place : Place) (c : Core) → IsQuiet c (idle size place c)
quiet-idle size place c = record { base = refl; journal = refl; generation = refl; log_length = refl }

rest-idle : (size : ℕ) (place : Place) (old new : Machine) → IsAtRest old.core → Became (idle size place old.core) old new → IsAtRest new.core
rest-idle size place old new rest b = rest-as new.core (idle size place old.core) b.core (record { tickets = refl; image = rest.image; durable = rest.durable; fault = rest.fault })

idle-leaves : (result : Result ℕ Refusal) (size : ℕ) (place : Place) (old new : Machine) → IsAtRest old.core → Became (idle size place old.core) old new → Leaves result [] old new
idle-leaves result size place old new rest b = record {
  adds = quiet-adds (idle size place old.core) old new (quiet-idle size place old.core) b;
  onward = b.onward;
  log = quiet-log (idle size place old.core) old new (quiet-idle size place old.core) b;
  nearly = nearly-all new.core (rest-idle size place old new rest b).durable;
  rests = λ _. rest-idle size place old new rest b;
  durable = λ _. inl (rest-idle size place old new rest b).durable;
}

held-leaves : (result : Result ℕ Refusal) (p : FilePut) (place : Place) (old new : Machine) → IsAtRest old.core → Became (holding (length p.text) place p.text true old.core) old new → has_ended result ≡ true
    → Leaves result [] old new
held-leaves result p place old new rest b ended =
    ended-leaves result (holding (length p.text) place p.text true old.core) old new (quiet-held (length p.text) place p.text true old.core) b (nearly-all old.core rest.durable) ended (inr rest.durable)

kept-leaves : (result : Result ℕ Refusal) (old new : Machine) → IsAtRest old.core → Keeps old new → has_ended result ≡ true → Leaves result [] old new
kept-leaves result old new rest k ended =
    let long : new.core.log_length ≡ old.core.log_length = k.log_length in
    record {
      adds = record { base = k.base; journal = k.journal ∙ sym (append-nil old.core.journal) };
      onward = k.onward;
      log = inl (k.generation, omega (arith, long));
      nearly = nearly-all new.core (ap length k.stamps ∙ rest.durable ∙ sym (ap length k.journal));
      rests = λ not. absurd (false≢true (sym not ∙ ended));
      durable = λ _. inl (ap length k.stamps ∙ rest.durable ∙ sym (ap length k.journal));
    }

-- one transaction joined
record IsGrown (c : Core) (e : Entry) (d : Core) : Type 0 where
  base : d.base ≡ c.base
  journal : d.journal ≡ c.journal ++ e ∷ []
  generation : d.generation ≡ c.generation
  log_length : d.log_length ≡ c.log_length + record_length e
  nearly : IsNearlyDurable d

grown-leaves : (result : Result ℕ Refusal) (e : Entry) (c : Core) (old new : Machine) → IsGrown old.core e c → new.core ≡ c → Onward old new → (has_ended result ≡ false → IsAtRest c)
    → (has_broken result ≡ false → (length c.stamps ≡ length c.journal) ⊎ (has_ended result ≡ true)) → Leaves result (e ∷ []) old new
grown-leaves result e c old new g is onward rests durable =
    let long : new.core.log_length ≡ old.core.log_length + record_length e = ap (λ (x : Core). x.log_length) is ∙ g.log_length in
    record {
      adds = record { base = ap (λ (x : Core). x.base) is ∙ g.base; journal = ap (λ (x : Core). x.journal) is ∙ g.journal };
      onward = onward;
      log = inl (ap (λ (x : Core). x.generation) is ∙ g.generation, omega (arith, long));
      nearly = nearly-as new.core c is g.nearly;
      rests = λ not. rest-as new.core c is (rests not);
      durable = λ not. elim (durable not) as (λ _. (length new.core.stamps ≡ length new.core.journal) ⊎ ((has_ended result ≡ true) × (e ∷ [] ≡ [] → ⊥))) [
        | inl all ↦ inl (subst (λ (x : Core). length x.stamps ≡ length x.journal) (sym is) all)
        | inr ended ↦ inr (ended, λ none. absurd cc)
      ];
    }

grown-joined : (filespace : ℕ) (p : FilePut) (class : List ℕ) (place : Place) (c : Core) → IsAtRest c → IsGrown c (entry (backed_up filespace p class place c)) (joined_core filespace p class place c)
grown-joined filespace p class place c rest = record { base = refl; journal = refl; generation = refl; log_length = refl; nearly = nearly-joined c.stamps c.journal (entry (backed_up filespace p class place c)) rest.durable }

grown-stamped : (moment : ℕ) (c : Core) (e : Entry) (d : Core) → IsGrown c e d → IsGrown c e (stamped moment d)
grown-stamped moment c e d g =
    let more : length (d.stamps ++ replicate (length (unforced d)) moment) ≡ length d.stamps + length (replicate (length (unforced d)) moment) = length-append d.stamps (replicate (length (unforced d)) moment) in
    let nearly : length d.journal ≤ length d.stamps + 1 = g.nearly in
    record { base = g.base; journal = g.journal; generation = g.generation; log_length = g.log_length; nearly = omega (arith, more, nearly) }

grown-halting : (file count : ℕ) (c : Core) (e : Entry) (d : Core) → IsGrown c e d → IsGrown c e (halting file count d)
grown-halting file count c e d g = record { base = g.base; journal = g.journal; generation = g.generation; log_length = g.log_length; nearly = g.nearly }

pub stamped-all : (moment : ℕ) (c d : Core) (e : Entry) → length c.stamps ≡ length c.journal → d.stamps ≡ c.stamps → d.journal ≡ c.journal ++ e ∷ [] → length (stamped moment d).stamps ≡ length (stamped moment d).journal
stamped-all moment c d e all stamps journal =
    let s : length d.stamps ≡ length c.stamps = ap length stamps in
    let j : length d.journal ≡ length c.journal + 1 = ap length journal ∙ length-append c.journal (e ∷ []) in
    let k : length (replicate (length (unforced d)) moment) ≡ length (unforced d) = length-replicate (length (unforced d)) moment in
    let u : length (unforced d) ≡ length d.journal - length d.stamps = length-drop (length d.stamps) d.journal in
    let w : length (d.stamps ++ replicate (length (unforced d)) moment) ≡ length d.stamps + length (replicate (length (unforced d)) moment) = length-append d.stamps (replicate (length (unforced d)) moment) in
    omega (arith, s, j, k, u, w, all)

pub rest-stored : (moment filespace : ℕ) (p : FilePut) (class : List ℕ) (place : Place) (c : Core) → IsAtRest c → IsAtRest (stamped moment (joined_core filespace p class place c))
rest-stored moment filespace p class place c rest = record {
  tickets = refl;
  image = rest.image;
  durable = stamped-all moment c (joined_core filespace p class place c) (entry (backed_up filespace p class place c)) rest.durable refl refl;
  fault = rest.fault;
}

-- ---- the file isn't sent

pub sent-not : (places : Places) (p : FilePut) (home : Home) (filespace : ℕ) (e : Refusal) (old new : Machine) → IsAtRest old.core → SentNot places home.pool p.text old new e
    → DoneOr (IsStored places p home filespace old new) (Err e) old new
sent-not places p home filespace e old new rest (inl h) =
    inl (
      (
        [],
        inr (h.0, h.1, subst (λ (o : Option Refusal). StoresBy o p home.class filespace h.0 old new (Err e) []) (sym h.2) (refl, refl, h.3.contents)),
        ap (λ (c : Core). c.generation) h.3.core,
        still-leaves (Err e) old new rest h.3,
      ),
      err-other e h.4,
    )
sent-not places p home filespace e old new rest (inr (inl h)) =
    inl (
      (
        [],
        inr (Ok h.0, h.2, subst (λ (o : Option Refusal). StoresBy o p home.class filespace (Ok h.0) old new (Err e) []) (sym h.3) (inl (h.1, ap Err h.4, h.5, h.6, refl, h.7.contents))),
        ap (λ (c : Core). c.generation) h.7.core,
        idle-leaves (Err e) (length p.text) h.0 old new rest h.7,
      ),
      err-other e (λ tree. (let w : refused.WriteFault h.1 ≡ refused.TreeFault = sym h.4 ∙ tree in absurd cc)),
    )
sent-not places p home filespace e old new rest (inr (inr (inl h))) =
    inl (([], inl ((stops-run old new e h.0, refl), h.1.contents), h.1.generation, kept-leaves (Err e) old new rest h.1 (stops-ended new e h.0)), err-other e (stops-other new e h.0))
sent-not places p home filespace e old new rest (inr (inr (inr h))) =
    inr (ap Err h.1, ([], inl ((tt, refl), h.2.contents), ap (λ (c : Core). c.generation) h.2.core, idle-leaves (Err refused.Memory) (length p.text) h.0 old new rest h.2))

-- ---- the transaction isn't made, or isn't durable

-- where the file is placed
abbrev pub HasPlace : Places → (pool : ℕ) → (text : List ℕ) → Machine → Place → Type 0
HasPlace places pool text old place = IsPlacedIn places pool (length text) old.core (Ok place) × (why_no_place pool (length text) old.core (Ok place) ≡ None)

abbrev pub It : (filespace : ℕ) → FilePut → Home → Place → Machine → Change
It filespace p home place old = backed_up filespace p home.class place old.core

placed-there : (places : Places) (p : FilePut) (home : Home) (filespace : ℕ) (place : Place) (result : Result ℕ Refusal) (added : List Entry) (old new : Machine) → HasPlace places home.pool p.text old place
    → Commits (It filespace p home place old) old new result added × IsNext old result × HasStored p place old new added → IsStored places p home filespace old new result added
placed-there places p home filespace place result added old new at done =
    inr (Ok place, at.0, subst (λ (o : Option Refusal). StoresBy o p home.class filespace (Ok place) old new result added) (sym at.1) (inr done))

-- nothing joined
none-joined : (places : Places) (p : FilePut) (home : Home) (filespace : ℕ) (place : Place) (e : Refusal) (old new : Machine) → HasPlace places home.pool p.text old place
    → (why_not (It filespace p home place old) old.core ≡ Some e) ⊎ EndsRun old new e → new.contents ≡ old.contents → IsStored places p home filespace old new (Err e) []
none-joined places p home filespace place e old new at (inl why) same = placed-there places p home filespace place (Err e) [] old new at (inl (why, refl), tt, same)
none-joined places p home filespace place e old new at (inr ends) same = placed-there places p home filespace place (Err e) [] old new at (inr (ends, inl refl), tt, same)

-- it joined
one-joined : (places : Places) (p : FilePut) (home : Home) (filespace : ℕ) (place : Place) (e : Refusal) (c : Core) (old new : Machine) → HasPlace places home.pool p.text old place
    → why_not (It filespace p home place old) old.core ≡ None → EndsRun old new e → Became c (stored_in p place old) new
    → IsStored places p home filespace old new (Err e) (entry (It filespace p home place old) ∷ [])
one-joined places p home filespace place e c old new at none ends b =
    placed-there places p home filespace place (Err e) (entry (It filespace p home place old) ∷ []) old new at (inr (ends, inr (none, refl)), tt, b.contents)

same-onward : (p : FilePut) (place : Place) (c : Core) (old new : Machine) → Became c (stored_in p place old) new → Onward old new
same-onward p place c old new b = record { counts = b.onward.counts; since = b.onward.since }

in-doubt : (places : Places) (p : FilePut) (home : Home) (filespace : ℕ) (place : Place) (e : Refusal) (c : Core) (old new : Machine) → HasPlace places home.pool p.text old place
    → why_not (It filespace p home place old) old.core ≡ None → IsGrown old.core (entry (It filespace p home place old)) c → InDoubt c old (stored_in p place old) new e
    → DoneOr (IsStored places p home filespace old new) (Err e) old new
in-doubt places p home filespace place e c old new at none g d =
    let it : Entry = entry (It filespace p home place old) in
    let ends : EndsRun old new e = subst (λ (x : Refusal). EndsRun old new x) (sym d.2) (d.3, d.4) in
    let ended : has_number (40 ∷ 41 ∷ 50 ∷ []) e ≡ true = subst (λ (x : Refusal). has_number (40 ∷ 41 ∷ 50 ∷ []) x ≡ true) (sym d.2) refl in
    let h : Core = halting d.0 d.1 c in
    inl (
      (
        it ∷ [],
        one-joined places p home filespace place e h old new at none ends d.5,
        ap (λ (x : Core). x.generation) d.5.core ∙ g.generation,
        grown-leaves (Err e) it h old new (grown-halting d.0 d.1 old.core it c g) d.5.core (same-onward p place h old new d.5) (λ not. absurd (false≢true (sym not ∙ ended))) (λ _. inr ended),
      ),
      err-other e (λ tree. (let w : refused.LogFault d.0 d.1 ≡ refused.TreeFault = sym d.2 ∙ tree in absurd cc)),
    )

unforced-done : (places : Places) (p : FilePut) (home : Home) (filespace : ℕ) (place : Place) (e : Refusal) (c : Core) (old new : Machine) → HasPlace places home.pool p.text old place
    → why_not (It filespace p home place old) old.core ≡ None → IsGrown old.core (entry (It filespace p home place old)) c → Stops new e → Became c (stored_in p place old) new
    → DoneOr (IsStored places p home filespace old new) (Err e) old new
unforced-done places p home filespace place e c old new at none g stops b =
    let it : Entry = entry (It filespace p home place old) in
    let ended : has_number (40 ∷ 41 ∷ 50 ∷ []) e ≡ true = stops-ended new e stops in
    inl (
      (
        it ∷ [],
        one-joined places p home filespace place e c old new at none (stops-run old new e stops) b,
        ap (λ (x : Core). x.generation) b.core ∙ g.generation,
        grown-leaves (Err e) it c old new g b.core (same-onward p place c old new b) (λ not. absurd (false≢true (sym not ∙ ended))) (λ _. inr ended),
      ),
      err-other e (stops-other new e stops),
    )

forced-not : (places : Places) (p : FilePut) (home : Home) (filespace : ℕ) (place : Place) (e : Refusal) (old new : Machine) → IsAtRest old.core → HasPlace places home.pool p.text old place
    → why_not (It filespace p home place old) old.core ≡ None → ForcedNot (joined_core filespace p home.class place old.core) old (stored_in p place old) new e
    → DoneOr (IsStored places p home filespace old new) (Err e) old new
forced-not places p home filespace place e old new rest at none (inl d) =
    in-doubt places p home filespace place e (joined_core filespace p home.class place old.core) old new at none (grown-joined filespace p home.class place old.core rest) d
forced-not places p home filespace place e old new rest at none (inr s) =
    unforced-done places p home filespace place e (joined_core filespace p home.class place old.core) old new at none (grown-joined filespace p home.class place old.core rest) s.0 s.1

-- a refusal of the transaction, or that the run ended, behind which the ticket is gone
gone-done : (places : Places) (p : FilePut) (home : Home) (filespace : ℕ) (place : Place) (why e : Refusal) (old new : Machine) → IsAtRest old.core → HasPlace places home.pool p.text old place
    → (why_not (It filespace p home place old) old.core ≡ Some why) ⊎ Stops new why → is_lasting why ≡ false → e ≡ unplaced why → Became (idle (length p.text) place old.core) old new
    → DoneOr (IsStored places p home filespace old new) (Err e) old new
gone-done places p home filespace place why e old new rest at cause lasting is b =
    let same : SameImage old new = ap (λ (c : Core). c.generation) b.core in
    let cause_of : (why_not (It filespace p home place old) old.core ≡ Some e) ⊎ EndsRun old new e =
    subst (λ (x : Refusal). (why_not (It filespace p home place old) old.core ≡ Some x) ⊎ EndsRun old new x) (sym is) (elim (is_unplaced why) as (λ b. (why_not (It filespace p home place old) old.core ≡ Some (if b then why else refused.Memory)) ⊎ EndsRun old new (if b then why else refused.Memory)) [
      | true ↦ elim cause as (λ _. (why_not (It filespace p home place old) old.core ≡ Some why) ⊎ EndsRun old new why) [
        | inl held ↦ inl held
        | inr stops ↦ inr (stops-run old new why stops)
      ]
      | false ↦ inr tt
    ]) in
    inl (
      ([], none-joined places p home filespace place e old new at cause_of b.contents, same, idle-leaves (Err e) (length p.text) place old new rest b),
      err-other e (λ tree. unplaced-other why (sym is ∙ tree)),
    )

-- the ticket is still there: the run ended
still-done : (places : Places) (p : FilePut) (home : Home) (filespace : ℕ) (place : Place) (e : Refusal) (old new : Machine) → IsAtRest old.core → HasPlace places home.pool p.text old place
    → (why_not (It filespace p home place old) old.core ≡ Some e) ⊎ EndsRun old new e → has_number (40 ∷ 41 ∷ 50 ∷ []) e ≡ true → IsOther e
    → Became (holding (length p.text) place p.text true old.core) old new → DoneOr (IsStored places p home filespace old new) (Err e) old new
still-done places p home filespace place e old new rest at cause ended other b =
    inl (([], none-joined places p home filespace place e old new at cause b.contents, ap (λ (c : Core). c.generation) b.core, held-leaves (Err e) p place old new rest b ended), err-other e other)

pub lasting-other : (e : Refusal) → has_number (40 ∷ 41 ∷ 50 ∷ []) e ≡ true → IsOther e
lasting-other e h tree = (let w : has_number (40 ∷ 41 ∷ 50 ∷ []) refused.TreeFault ≡ true = subst (λ (x : Refusal). has_number (40 ∷ 41 ∷ 50 ∷ []) x ≡ true) tree h in absurd cc)

pub joined-not : (places : Places) (p : FilePut) (home : Home) (filespace : ℕ) (place : Place) (why e : Refusal) (old mid new : Machine) → IsAtRest old.core → HasPlace places home.pool p.text old place
    → JoinsNot filespace p home.class place old mid why → Back p place why e old mid new → DoneOr (IsStored places p home filespace old new) (Err e) old new
joined-not places p home filespace place why e old mid new rest at (inl j) (inl b) =
    let log : why ≡ refused.LogFault j.1.0 j.1.1 = j.1.2 in
    let is : e ≡ refused.LogFault j.1.0 j.1.1 = b.1 ∙ ap unplaced log in
    let doubt : InDoubt (joined_core filespace p home.class place old.core) old (stored_in p place old) mid e = (j.1.0, j.1.1, is, j.1.3, j.1.4, j.1.5) in
    in-doubt places p home filespace place e (joined_core filespace p home.class place old.core) old new at j.0 (grown-joined filespace p home.class place old.core rest)
    (subst (λ (m : Machine). InDoubt (joined_core filespace p home.class place old.core) old (stored_in p place old) m e) (sym b.2) doubt)
joined-not places p home filespace place why e old mid new rest at (inl j) (inr (inl b)) =
    let w : is_lasting (refused.LogFault j.1.0 j.1.1) ≡ false = subst (λ (x : Refusal). is_lasting x ≡ false) j.1.2 b.0 in absurd cc
joined-not places p home filespace place why e old mid new rest at (inl j) (inr (inr b)) =
    let w : is_lasting (refused.LogFault j.1.0 j.1.1) ≡ false = subst (λ (x : Refusal). is_lasting x ≡ false) j.1.2 b.0 in absurd cc
joined-not places p home filespace place why e old mid new rest at (inr j) (inl b) =
    let same = lasting-same why b.0 in
    let is : e ≡ why = b.1 ∙ same.0 in
    let ended : has_number (40 ∷ 41 ∷ 50 ∷ []) e ≡ true = subst (λ (x : Refusal). has_number (40 ∷ 41 ∷ 50 ∷ []) x ≡ true) (sym is) same.1 in
    let held : Became (holding (length p.text) place p.text true old.core) old new = subst (λ (m : Machine). Became (holding (length p.text) place p.text true old.core) old m) (sym b.2) j.1 in
    let cause : (why_not (It filespace p home place old) old.core ≡ Some e) ⊎ EndsRun old new e =
    subst (λ (x : Refusal). (why_not (It filespace p home place old) old.core ≡ Some x) ⊎ EndsRun old new x) (sym is) (elim j.0 as (λ _. (why_not (It filespace p home place old) old.core ≡ Some why) ⊎ EndsRun old new why) [
      | inl w ↦ inl w
      | inr s ↦ inr (subst (λ (m : Machine). EndsRun old m why) (sym b.2) (stops-run old mid why s))
    ]) in
    still-done places p home filespace place e old new rest at cause ended (lasting-other e ended) held
joined-not places p home filespace place why e old mid new rest at (inr j) (inr (inl b)) =
    gone-done places p home filespace place why e old new rest at (elim j.0 as (λ _. (why_not (It filespace p home place old) old.core ≡ Some why) ⊎ Stops new why) [
      | inl w ↦ inl w
      | inr s ↦ elim s as (λ _. (why_not (It filespace p home place old) old.core ≡ Some why) ⊎ Stops new why) [
        | inl full ↦ (let w : is_lasting refused.RunFull ≡ false = subst (λ (x : Refusal). is_lasting x ≡ false) full.0 b.0 in absurd cc)
        | inr memory ↦ inr (inr memory)
      ]
    ]) b.0 b.1 b.2
joined-not places p home filespace place why e old mid new rest at (inr j) (inr (inr b)) =
    still-done places p home filespace place e old new rest at (inr (stops-run old new e b.1)) (stops-ended new e b.1) (stops-other new e b.1) b.2

-- ---- the session's calls

-- the transaction joined and is durable
abbrev pub StoredTo : (filespace : ℕ) → FilePut → (class : List ℕ) → Place → (old new : Machine) → Type 0
StoredTo filespace p class place old new =
    (why_not (backed_up filespace p class place old.core) old.core ≡ None) × Forced (joined_core filespace p class place old.core) (stored_in p place old) new

abbrev pub StoresTo : Places → FilePut → Home → (filespace : ℕ) → Place → (old new : Machine) → Result ℕ Refusal → Type 0
StoresTo places p home filespace place old new (Ok seq) = StoredTo filespace p home.class place old new
StoresTo places p home filespace place old new (Err e) = DoneOr (IsStored places p home filespace old new) (Err e) old new

forced-to : (trusted : Type 0) (places : Places) (p : FilePut) (home : Home) (filespace : ℕ) (place : Place) (number : ℕ) (events : List Event) (result : Result ℕ Refusal) (old mid new : Machine) → IsAtRest old.core
    → HasPlace places home.pool p.text old place → Joined filespace p home.class place old mid → ForcesOne number events result → Alone trusted places 0 events mid new
    → StoresTo places p home filespace place old new result
forced-to trusted places p home filespace place number events (Ok seq) old mid new rest at j f a = (j.0, forces-ok trusted places (joined_core filespace p home.class place old.core) f.1 events (stored_in p place old) mid new j.1 f.2 a)
forced-to trusted places p home filespace place number events (Err e) old mid new rest at j f a =
    forced-not places p home filespace place e old new rest at j.0
    (forces-err trusted places (joined_core filespace p home.class place old.core) e events old (stored_in p place old) mid new rest.fault (record { counts = λ file. omega arith; since = omega arith }) j.1 f a)

pub stores-to : (trusted : Type 0) (places : Places) (p : FilePut) (home : Home) (filespace : ℕ) (place : Place) (s : Sealed) (events : List Event) (result : Result ℕ Refusal) (old mid new : Machine) → IsAtRest old.core
    → HasPlace places home.pool p.text old place → s ≡ record { ticket = old.core.next_ticket; digest = digest_with (sha256 p.text) }
    → Became (holding (length p.text) place p.text true old.core) old mid → putting.Stores filespace (row_put p) home.class s events result → Alone trusted places 0 events mid new
    → StoresTo places p home filespace place old new result
stores-to trusted places p home filespace place s events result old mid new rest at is b given a =
    let h : putting.Stores filespace (row_put p) home.class (record { ticket = old.core.next_ticket; digest = digest_with (sha256 p.text) }) events result =
    subst (λ (x : Sealed). putting.Stores filespace (row_put p) home.class x events result) is given in
    elim h as (λ _. StoresTo places p home filespace place old new result) [
      | inl t ↦ (let why : Refusal = t.1.0 in
          let cut = alone-parts trusted places 0 events t.1.1.0 t.1.1.1 mid new t.1.1.2 a in
          let j : JoinsNot filespace p home.class place old cut.0 why = commits-err trusted places filespace p home.class place why t.1.1.0 old mid cut.0 rest.fault b t.1.1.3 cut.1 in
          let back : Back p place why t.0 old cut.0 new = gives-back trusted places p place why t.0 t.1.1.1 old cut.0 new rest.fault t.1.1.4 (still-held filespace p home.class place why old cut.0 j) cut.2 in
          subst (λ (r : Result ℕ Refusal). StoresTo places p home filespace place old new r) (sym t.2) (joined-not places p home filespace place why t.0 old cut.0 new rest at j back))
      | inr t ↦ (let cut = alone-parts trusted places 0 events t.1.0 t.1.1 mid new t.1.2 a in
          let j : Joined filespace p home.class place old cut.0 = commits-ok trusted places filespace p home.class place t.0 t.1.0 old mid cut.0 b t.1.3 cut.1 in
          forced-to trusted places p home filespace place t.0 t.1.1 result old cut.0 new rest at j t.1.4 cut.2)
    ]

-- the object was named: this is what its storing comes to
pub stored-done : (places : Places) (p : FilePut) (home : Home) (filespace : ℕ) (place : Place) (moment : ℕ) (old new : Machine) → IsAtRest old.core → HasPlace places home.pool p.text old place
    → why_not (It filespace p home place old) old.core ≡ None → Became (stamped moment (joined_core filespace p home.class place old.core)) (stored_in p place old) new
    → DoneOr (IsStored places p home filespace old new) (Ok old.core.next_object) old new
stored-done places p home filespace place moment old new rest at none b =
    let it : Entry = entry (It filespace p home place old) in
    let c : Core = stamped moment (joined_core filespace p home.class place old.core) in
    let g : IsGrown old.core it c = grown-stamped moment old.core it (joined_core filespace p home.class place old.core) (grown-joined filespace p home.class place old.core rest) in
    inl (
      (
        it ∷ [],
        placed-there places p home filespace place (Ok old.core.next_object) (it ∷ []) old new at ((none, refl), refl, b.contents),
        ap (λ (x : Core). x.generation) b.core,
        grown-leaves (Ok old.core.next_object) it c old new g b.core (same-onward p place c old new b) (λ _. rest-stored moment filespace p home.class place old.core rest)
            (λ _. inl (rest-stored moment filespace p home.class place old.core rest).durable),
      ),
      λ h. absurd cc,
    )

-- its naming was refused: the run ended
pub run-ended : (old new : Machine) (e : Refusal) → EndsRun old new e → has_number (40 ∷ 41 ∷ 50 ∷ []) e ≡ true
run-ended old new (refused.LogFault file count) h = refl
run-ended old new refused.RunFull h = refl
run-ended old new refused.Memory h = refl
run-ended old new e h = absurd h

pub run-done : (places : Places) (p : FilePut) (home : Home) (filespace : ℕ) (place : Place) (moment : ℕ) (e : Refusal) (old new : Machine) → IsAtRest old.core → HasPlace places home.pool p.text old place
    → why_not (It filespace p home place old) old.core ≡ None → EndsRun old new e → Became (stamped moment (joined_core filespace p home.class place old.core)) (stored_in p place old) new
    → DoneOr (IsStored places p home filespace old new) (Err e) old new
run-done places p home filespace place moment e old new rest at none ends b =
    let it : Entry = entry (It filespace p home place old) in
    let c : Core = stamped moment (joined_core filespace p home.class place old.core) in
    let g : IsGrown old.core it c = grown-stamped moment old.core it (joined_core filespace p home.class place old.core) (grown-joined filespace p home.class place old.core rest) in
    let ended : has_number (40 ∷ 41 ∷ 50 ∷ []) e ≡ true = run-ended old new e ends in
    inl (
      (
        it ∷ [],
        one-joined places p home filespace place e c old new at none ends b,
        ap (λ (x : Core). x.generation) b.core,
        grown-leaves (Err e) it c old new g b.core (same-onward p place c old new b) (λ not. absurd (false≢true (sym not ∙ ended))) (λ _. inr ended),
      ),
      err-other e (lasting-other e ended),
    )
