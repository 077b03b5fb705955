-- What holds of a PUT that was answered: which transactions it made, what they say of its bytes, and when it isn't refused.
use Rattle.std.proofs.Common.{◌≡◌, inl, inr, ℕ, Bool, cond, List, [], ◌∷◌, ◌++◌, length, Option, None, Some, Result, Ok, Err, refl, sym, ap, subst, ◌∙◌}
use Rattle.std.specs.List.{AllByRecursion}
use Rattle.std.specs.Option.{option_map_or}
use Rattle.std.proofs.lemmas.Bool.{eq-eqb}
use Rattle.kinds.specs.declared.refusal.Refusal.{Refusal}
use Rattle.kinds.specs.declared.refusal.Refusal.TheVariants as refused
use Rattle.choosers.specs.declared.rule.Rule.{Rule}
use Rattle.entries.specs.declared.entry.Entry.{Entry}
use Rattle.inventory_rows.specs.object_rows.Names.{filespace_named, node_named}
use Rattle.inventory_work.specs.Rules.{rules_of}
use Rattle.inventory_work.specs.declared.lines.Rules.{Rules}
use Rattle.admin_words.specs.declared.files.FilePut.{FilePut}
use Rattle.machine.specs.Machine.{Places}
use Rattle.machine.specs.State.{Core, Machine, Place, Ticket}
use Rattle.command_steps.specs.sessions.Homes.{home_of}
use Rattle.command_steps.specs.sessions.declared.homes.Home.{Home}
use Rattle.command_steps.specs.Answers.{halt_by}
use Rattle.command_steps.specs.Owns.{put}
use Rattle.line_results.specs.Clauses.{HasRoom, HasRoomUnder, HasText, IsOfFile, ItemsOwn, MayPut}
use Rattle.line_results.specs.Files.{Puts, PutsBy, PutsHome, PutsOf, PutsUnder, Stores, StoresAt, StoresBy, HasStored, backed_up, contents_with, filespace_defined, item_of, ticket_of, why_no_place}
use Rattle.line_results.specs.Resting.{Breaks, EndsRun, RoseFrom, database, entry, why_not}
use Rattle.line_results.proofs.Runs.{rose-from}

-- what ends a run is no answer
pub no-end : (e : Refusal) (old new : Machine) → EndsRun old new e → halt_by e ≡ None → ⊥
no-end (refused.LogFault file count) old new ends h = cc
no-end refused.RunFull old new ends h = cc
no-end refused.Memory old new ends h = cc
no-end e old new ends h = ends

-- a refusal by which the run goes on
abbrev pub IsMild : Result ℕ Refusal → Type 0
IsMild result = (e : Refusal) → result ≡ Err e → halt_by e ≡ None

no-breaks : (result : Result ℕ Refusal) (added : List Entry) (old new : Machine) → IsMild result → Breaks old new result added → ⊥
no-breaks (Ok object) added old new mild h = h
no-breaks (Err e) added old new mild h = no-end e old new h.0 (mild e refl)

abbrev put_refused : Refusal → Result ℕ Refusal
put_refused e = Err e

abbrev put_done : ℕ → Result ℕ Refusal
put_done object = Ok object

not-both : (result : Result ℕ Refusal) (object : ℕ) (e : Refusal) → result ≡ put_done object → result ≡ put_refused e → ⊥
not-both result object e a b = let odd : put_done object ≡ put_refused e = sym a ∙ b in cc

-- ---- what it made

-- the version is stored last, behind what was done before
abbrev pub IsStored : FilePut → (object : ℕ) → (added : List Entry) → Type 0
IsStored p object added =
    (filespace : ℕ) × (class : List ℕ) × (place : Place) × (at : Core) × (earlier : List Entry) × (added ≡ earlier ++ entry (backed_up filespace p class place at) ∷ []) × (object ≡ at.next_object)

pub record PutHeld (p : FilePut) (result : Result ℕ Refusal) (mid : Machine) (added : List Entry) : Type 0 where
  pub journal : AllByRecursion (λ e. (e.actor ≡ 0) × IsOfFile p e.change) added
  pub items : AllByRecursion (λ e. ItemsOwn (put p) mid e.change) added
  pub done : (object : ℕ) → result ≡ Ok object → IsStored p object added

nothing-put : (p : FilePut) (result : Result ℕ Refusal) (e : Refusal) (mid : Machine) (added : List Entry) → result ≡ Err e → added ≡ [] → PutHeld p result mid added
nothing-put p result e mid added is none = record {
  journal = subst (λ (l : List Entry). AllByRecursion (λ x. (x.actor ≡ 0) × IsOfFile p x.change) l) (sym none) tt;
  items = subst (λ (l : List Entry). AllByRecursion (λ x. ItemsOwn (put p) mid x.change) l) (sym none) tt;
  done = λ object ok. absurd (not-both result object e ok is);
}

-- the object's bytes are the text
stored-text : (p : FilePut) (place : Place) (old : Machine) → contents_with p place old old.core.next_object ≡ p.text
stored-text p place old =
    ap (λ (b : Bool). option_map_or (λ (t : Ticket). t.bytes) (cond b (Some (ticket_of p place old.core)) None) (old.contents old.core.next_object)) (eq-eqb old.core.next_object old.core.next_object refl)

abbrev object_in : Result ℕ Refusal → ℕ
object_in (Ok object) = object
object_in (Err e) = 0

same-object : (object other : ℕ) → put_done object ≡ put_done other → object ≡ other
same-object object other h = ap object_in h

one-stored : (p : FilePut) (class : List ℕ) (filespace : ℕ) (place : Place) (object : ℕ) (old mid : Machine) (added : List Entry) → added ≡ entry (backed_up filespace p class place old.core) ∷ []
    → object ≡ old.core.next_object → HasStored p place old mid added → PutHeld p (Ok object) mid added
one-stored p class filespace place object old mid added is next stored =
    let had : mid.contents ≡ contents_with p place old = subst (λ (l : List Entry). HasStored p place old mid l) is stored in
    let text : HasText p.text mid (item_of p class place old.core) = (refl, refl, ap (λ (f : ℕ → List ℕ). f old.core.next_object) had ∙ stored-text p place old) in
    record {
      journal = subst (λ (l : List Entry). AllByRecursion (λ x. (x.actor ≡ 0) × IsOfFile p x.change) l) (sym is) ((refl, inr (filespace, class, place, old.core, refl)), tt);
      items = subst (λ (l : List Entry). AllByRecursion (λ x. ItemsOwn (put p) mid x.change) l) (sym is) ((text, tt), tt);
      done = λ other ok. (filespace, class, place, old.core, [], is, sym (same-object object other ok) ∙ next);
    }

stored-at : (p : FilePut) (class : List ℕ) (filespace : ℕ) (place : Place) (result : Result ℕ Refusal) (old mid : Machine) (added : List Entry) → IsMild result
    → StoresAt p class filespace place old mid result added → PutHeld p result mid added
stored-at p class filespace place result old mid added mild (inl (file, is, has, rose, none, same)) = nothing-put p result (refused.WriteFault file) mid added is none
stored-at p class filespace place (Ok object) old mid added mild (inr (commits, next, stored)) = one-stored p class filespace place object old mid added commits.1 next stored
stored-at p class filespace place (Err e) old mid added mild (inr (inl (why, none), next, stored)) = nothing-put p (Err e) e mid added refl none
stored-at p class filespace place (Err e) old mid added mild (inr (inr (ends, h), next, stored)) = absurd (no-end e old mid ends (mild e refl))

stored-by : (p : FilePut) (why : Option Refusal) (placed : Result Place Refusal) (class : List ℕ) (filespace : ℕ) (result : Result ℕ Refusal) (old mid : Machine) (added : List Entry) → IsMild result
    → StoresBy why p class filespace placed old mid result added → PutHeld p result mid added
stored-by p (Some e) placed class filespace result old mid added mild (is, none, same) = nothing-put p result e mid added is none
stored-by p None (Ok place) class filespace result old mid added mild h = stored-at p class filespace place result old mid added mild h
stored-by p None (Err e) class filespace result old mid added mild h = absurd h

stored-in : (places : Places) (p : FilePut) (home : Home) (filespace : ℕ) (result : Result ℕ Refusal) (old mid : Machine) (added : List Entry) → IsMild result → Stores places p home filespace old mid result added
    → PutHeld p result mid added
stored-in places p home filespace result old mid added mild (inl (breaks, same)) = absurd (no-breaks result added old mid mild breaks)
stored-in places p home filespace result old mid added mild (inr (placed, is, by)) =
    stored-by p (why_no_place home.pool (length p.text) old.core placed) placed home.class filespace result old mid added mild by

defined-then : (p : FilePut) (node : ℕ) (result : Result ℕ Refusal) (old mid : Machine) (added more : List Entry) → added ≡ entry (filespace_defined node p.filespace (database old)) ∷ more → PutHeld p result mid more
    → PutHeld p result mid added
defined-then p node result old mid added more is h = record {
  journal = subst (λ (l : List Entry). AllByRecursion (λ x. (x.actor ≡ 0) × IsOfFile p x.change) l) (sym is) ((refl, inl (node, (database old).next_filespace, refl)), h.journal);
  items = subst (λ (l : List Entry). AllByRecursion (λ x. ItemsOwn (put p) mid x.change) l) (sym is) (tt, h.items);
  done = λ object ok.
      (let d = h.done object ok in
      (d.0, d.1, d.2, d.3, entry (filespace_defined node p.filespace (database old)) ∷ d.4, is ∙ ap (λ (l : List Entry). entry (filespace_defined node p.filespace (database old)) ∷ l) d.5, d.6));
}

under-held : (places : Places) (found : Option ℕ) (p : FilePut) (home : Home) (result : Result ℕ Refusal) (old mid : Machine) (added : List Entry) → IsMild result → PutsUnder places found p home old mid result added
    → PutHeld p result mid added
under-held places (Some filespace) p home result old mid added mild h = stored-in places p home filespace result old mid added mild h
under-held places None p home result old mid added mild (inl (e, is, inl (why, none), same)) = nothing-put p result e mid added is none
under-held places None p home result old mid added mild (inl (e, is, inr (ends, h), same)) = absurd (no-end e old mid ends (mild e is))
under-held places None p home result old mid added mild (inr (next, more, legal, makes, behind, is, stored)) =
    defined-then p home.node result old mid added more is (stored-in places p home (database old).next_filespace result next mid more mild stored)

home-held : (places : Places) (p : FilePut) (home : Result Home Refusal) (result : Result ℕ Refusal) (old mid : Machine) (added : List Entry) → IsMild result → PutsHome places p home old mid result added
    → PutHeld p result mid added
home-held places p (Err e) result old mid added mild (is, none, same) = nothing-put p result e mid added is none
home-held places p (Ok home) result old mid added mild h = under-held places (filespace_named home.node p.filespace (database old).clients.filespaces) p home result old mid added mild h

by-held : (places : Places) (choice : List Rule) (p : FilePut) (node : ℕ) (rules : Result Rules Refusal) (result : Result ℕ Refusal) (old mid : Machine) (added : List Entry) → IsMild result
    → PutsBy places choice p node rules old mid result added → PutHeld p result mid added
by-held places choice p node (Err e) result old mid added mild (is, none, same) = nothing-put p result e mid added is none
by-held places choice p node (Ok rules) result old mid added mild h = home-held places p (home_of node rules choice p.path) result old mid added mild h

of-held : (places : Places) (choice : List Rule) (p : FilePut) (found : Option ℕ) (result : Result ℕ Refusal) (old mid : Machine) (added : List Entry) → IsMild result
    → PutsOf places choice p found old mid result added → PutHeld p result mid added
of-held places choice p None result old mid added mild (is, none, same) = nothing-put p result refused.NotFound mid added is none
of-held places choice p (Some node) result old mid added mild h = by-held places choice p node (rules_of node (database old)) result old mid added mild h

pub put-held : (places : Places) (choice : List Rule) (p : FilePut) (result : Result ℕ Refusal) (old mid : Machine) (added : List Entry) → IsMild result → Puts places choice p old mid result added → PutHeld p result mid added
put-held places choice p result old mid added mild (inl (breaks, same)) = absurd (no-breaks result added old mid mild breaks)
put-held places choice p result old mid added mild (inr h) = of-held places choice p (node_named p.node (database old).clients.nodes) result old mid added mild h

-- ---- when it isn't refused

not-none : (o : Option Refusal) (e : Refusal) → o ≡ None → o ≡ Some e → ⊥
not-none o e a b = let odd : None ≡ Some e = sym a ∙ b in cc

no-at : (p : FilePut) (class : List ℕ) (filespace : ℕ) (place : Place) (result : Result ℕ Refusal) (e : Refusal) (old mid : Machine) (added : List Entry) → IsMild result → ((file : ℕ) → RoseFrom old mid file → ⊥)
    → why_not (backed_up filespace p class place old.core) old.core ≡ None → result ≡ Err e → StoresAt p class filespace place old mid result added → ⊥
no-at p class filespace place result e old mid added mild none legal is (inl (file, fault, has, rose, nothing, same)) = none file rose
no-at p class filespace place (Ok object) e old mid added mild none legal is (inr (commits, next, stored)) = cc
no-at p class filespace place (Err f) e old mid added mild none legal is (inr (inl (why, nothing), next, stored)) = not-none (why_not (backed_up filespace p class place old.core) old.core) f legal why
no-at p class filespace place (Err f) e old mid added mild none legal is (inr (inr (ends, h), next, stored)) = no-end f old mid ends (mild f refl)

no-by : (p : FilePut) (why : Option Refusal) (placed : Result Place Refusal) (class : List ℕ) (filespace : ℕ) (result : Result ℕ Refusal) (e : Refusal) (old mid : Machine) (added : List Entry) → IsMild result
    → ((file : ℕ) → RoseFrom old mid file → ⊥) → why ≡ None → ((place : Place) → placed ≡ Ok place → why_not (backed_up filespace p class place old.core) old.core ≡ None) → result ≡ Err e
    → StoresBy why p class filespace placed old mid result added → ⊥
no-by p (Some f) placed class filespace result e old mid added mild none free legal is h = cc
no-by p None (Ok place) class filespace result e old mid added mild none free legal is h = no-at p class filespace place result e old mid added mild none (legal place refl) is h
no-by p None (Err f) class filespace result e old mid added mild none free legal is h = h

no-in : (places : Places) (p : FilePut) (home : Home) (filespace : ℕ) (result : Result ℕ Refusal) (e : Refusal) (old mid : Machine) (added : List Entry) → IsMild result → ((file : ℕ) → RoseFrom old mid file → ⊥)
    → HasRoom places p home filespace old.core → result ≡ Err e → Stores places p home filespace old mid result added → ⊥
no-in places p home filespace result e old mid added mild none room is (inl (breaks, same)) = no-breaks result added old mid mild breaks
no-in places p home filespace result e old mid added mild none room is (inr (placed, at, by)) =
    let free = room placed at in
    no-by p (why_no_place home.pool (length p.text) old.core placed) placed home.class filespace result e old mid added mild none free.0 free.1 is by

no-under : (places : Places) (found : Option ℕ) (p : FilePut) (home : Home) (result : Result ℕ Refusal) (e : Refusal) (old mid : Machine) (added : List Entry) → IsMild result → ((file : ℕ) → RoseFrom old mid file → ⊥)
    → HasRoomUnder places found p home old → result ≡ Err e → PutsUnder places found p home old mid result added → ⊥
no-under places (Some filespace) p home result e old mid added mild none room is h = no-in places p home filespace result e old mid added mild none room is h
no-under places None p home result e old mid added mild none (legal, room) is (inl (f, other, inl (why, nothing), same)) =
    not-none (why_not (filespace_defined home.node p.filespace (database old)) old.core) f legal why
no-under places None p home result e old mid added mild none (legal, room) is (inl (f, other, inr (ends, h), same)) = no-end f old mid ends (mild f other)
no-under places None p home result e old mid added mild none (legal, room) is (inr (next, more, defined, makes, behind, all, stored)) =
    no-in places p home (database old).next_filespace result e next mid more mild (λ file rose. none file (rose-from old next mid file makes.3 rose)) (room next makes) is stored

pub no-put : (places : Places) (choice : List Rule) (p : FilePut) (result : Result ℕ Refusal) (e : Refusal) (old mid : Machine) (added : List Entry) → IsMild result → ((file : ℕ) → RoseFrom old mid file → ⊥)
    → MayPut places choice p old → result ≡ Err e → Puts places choice p old mid result added → ⊥
no-put places choice p result e old mid added mild none may is (inl (breaks, same)) = no-breaks result added old mid mild breaks
no-put places choice p result e old mid added mild none (node, at, rules, ruled, home, homed, room) is (inr h) =
    let by : PutsBy places choice p node (rules_of node (database old)) old mid result added = subst (λ (o : Option ℕ). PutsOf places choice p o old mid result added) at h in
    let to : PutsHome places p (home_of node rules choice p.path) old mid result added = subst (λ (r : Result Rules Refusal). PutsBy places choice p node r old mid result added) ruled by in
    let under : PutsUnder places (filespace_named home.node p.filespace (database old).clients.filespaces) p home old mid result added = subst (λ (r : Result Home Refusal). PutsHome places p r old mid result added) homed to in
    no-under places (filespace_named home.node p.filespace (database old).clients.filespaces) p home result e old mid added mild none room is under
