-- A file that is put into a filespace that is there, where one actor has the machine alone and it was at rest: it is sent, stored and named.
use Rattle.std.proofs.Common.{◌≡◌, ◌⊎◌, inl, inr, ℕ, List, length, Option, None, Some, Result, Ok, Err, refl, sym, ap, subst, ◌∙◌}
use Rattle.sha2.specs.Sha256.{sha256}
use Rattle.kinds.specs.Answers.{Answers}
use Rattle.kinds.specs.ValueForms.{digest_with}
use Rattle.kinds.specs.declared.refusal.Refusal.{Refusal}
use Rattle.kinds.specs.declared.refusal.Refusal.TheVariants as refused
use Rattle.entries.specs.declared.entry.Entry.{Entry}
use Rattle.inventory_rows.specs.object_rows.Names.{filespace_named, node_named}
use Rattle.inventory_rows.specs.State.{Inv}
use Rattle.inventory_rules.specs.Transactions.{effect}
use Rattle.inventory_answers.specs.Clients.{path_versions_of}
use Rattle.inventory_answers.specs.declared.lines.VersionLine.{VersionLine}
use Rattle.inventory_answers.specs.declared.query.Query.TheVariants as query
use Rattle.inventory_answers.specs.declared.reply.Rows.{Rows}
use Rattle.inventory_answers.specs.declared.reply.Rows.TheVariants as rows
use Rattle.steps.specs.Events.{Event}
use Rattle.admin_words.specs.declared.files.FilePut.{FilePut}
use Rattle.command_steps.specs.Owns.{file_put, row_put}
use Rattle.command_steps.specs.sessions.Putting as putting
use Rattle.command_steps.specs.sessions.Putting.{object_stored}
use Rattle.command_steps.specs.sessions.declared.homes.Home.{Home}
use Rattle.command_steps.specs.sessions.declared.sending.Sealed.{Sealed}
use Rattle.machine.specs.Alone.{Alone}
use Rattle.machine.specs.Machine.{Places, stamped}
use Rattle.machine.specs.State.{Core, Machine, Place, inventory}
use Rattle.line_results.specs.Files.{StoresAt, StoresBy, backed_up, why_no_place}
use Rattle.line_results.specs.Resting.{EndsRun, IsAtRest, Leaves, NobodyHolds, Onward, database, entry, why_not}
use Rattle.line_results.proofs.Leaving.{rest-as}
use Rattle.line_results.proofs.PutHomes.{after-one, asks-to, err-of, ok-of}
use Rattle.line_results.proofs.PutNaming.{named-object}
use Rattle.line_results.proofs.PutSending.{SentTo, sends-come-to}
use Rattle.line_results.proofs.PutStored.{DoneOr, HasPlace, IsStored, It, rest-stored, run-done, sent-not, stored-done, stores-to}
use Rattle.line_results.proofs.PutStoring.{joined_core, stored_in}
use Rattle.line_results.proofs.Runs.{Became, alone-none, alone-parts, as_is, became-still, ends-since, is-as, onward-then, rose-from}

-- ---- the object's number

-- the machine behind the transaction, forced
abbrev behind : (moment filespace : ℕ) → FilePut → (class : List ℕ) → Place → Core → Core
behind moment filespace p class place c = stamped moment (joined_core filespace p class place c)

behind-is : (moment filespace : ℕ) (p : FilePut) (class : List ℕ) (place : Place) (c : Core) → inventory (behind moment filespace p class place c) ≡ effect (backed_up filespace p class place c) (inventory c)
behind-is moment filespace p class place c = after-one c.base c.journal (entry (backed_up filespace p class place c))

abbrev versions-in : List VersionLine → Rows → List VersionLine
versions-in other (rows.Versions lines) = lines
versions-in other _ = other

abbrev NamedTo : (c : Core) → (old base new : Machine) → Result ℕ Refusal → Type 0
NamedTo c old base new result = Became c base new × ((result ≡ Ok old.core.next_object) ⊎ ((e : Refusal) × (result ≡ Err e) × EndsRun old new e))

pub err-is : (A : Type 0) (a b : Refusal) (r : Result A Refusal) → r ≡ Err a → r ≡ Err b → a ≡ b
err-is A a b r h k = cc

pub ok-is : {A : Type 0} (a b : A) (r : Result A Refusal) → r ≡ Ok a → r ≡ Ok b → a ≡ b
ok-is a b r h k = cc

base-onward : (p : FilePut) (place : Place) (c : Core) (old new : Machine) → Became c (stored_in p place old) new → Onward old new
base-onward p place c old new b = record { counts = b.onward.counts; since = b.onward.since }

-- what was found is the object
decided : (said result : Result ℕ Refusal) (object : ℕ) (new old : Machine) → said ≡ Ok object → Answers result said → (result ≡ Ok object) ⊎ ((e : Refusal) × (result ≡ Err e) × EndsRun old new e)
decided said (Ok x) object new old is h = inl (ap Ok (ok-is x object said h is))
decided said (Err e) object new old is (inl memory) = inr (e, refl, subst (λ (x : Refusal). EndsRun old new x) (sym memory) tt)
decided said (Err e) object new old is (inr h) = absurd cc

names-to : (trusted : Type 0) (places : Places) (p : FilePut) (node filespace : ℕ) (class : List ℕ) (place : Place) (moment : ℕ) (events : List Event) (result : Result ℕ Refusal) (old mid new : Machine) → IsAtRest old.core
    → node_named p.node (database old).clients.nodes ≡ Some node → filespace_named node p.filespace (database old).clients.filespaces ≡ Some filespace
    → Became (behind moment filespace p class place old.core) (stored_in p place old) mid → putting.Names p.node p.filespace (row_put p) (digest_with (sha256 p.text)) events result → Alone trusted places 0 events mid new
    → NamedTo (behind moment filespace p class place old.core) old (stored_in p place old) new result
names-to trusted places p node filespace class place moment events result old mid new rest known found b h a =
    let c : Core = behind moment filespace p class place old.core in
    let base : Machine = stored_in p place old in
    let named = named-object node filespace p class place old.core known found in
    let here : path_versions_of p.node p.filespace p.path (database mid) ≡ Ok named.0 =
    ap (λ (x : Core). path_versions_of p.node p.filespace p.path (inventory x)) b.core ∙ ap (λ (v : Inv). path_versions_of p.node p.filespace p.path v) (behind-is moment filespace p class place old.core) ∙ named.1 in
    let quiet : IsAtRest mid.core = rest-as mid.core c b.core (rest-stored moment filespace p class place old.core rest) in
    let low : Onward old mid = base-onward p place c old mid b in
    elim h as (λ _. NamedTo c old base new result) [
      | inl t ↦ elim t.1 as (λ _. NamedTo c old base new result) [
        | inl asked ↦ (let k = asks-to trusted places (query.Path p.node p.filespace p.path) rows.Versions (Err t.0) events mid new refl quiet asked a in (
          became-still c base mid new b k.0,
          inr (
            t.0,
            t.2,
            elim k.1 as (λ _. EndsRun old new t.0) [
              | inl refuses ↦ (let w : path_versions_of p.node p.filespace p.path (database mid) ≡ Err t.0 = err-of rows.Versions (path_versions_of p.node p.filespace p.path (database mid)) t.0 refuses in absurd cc)
              | inr ends ↦ ends-since old mid new t.0 low ends
            ],
          ),
        ))
        | inr none ↦ (let memory : t.0 ≡ refused.Memory = err-is (List VersionLine) t.0 refused.Memory (Err t.0) refl none.1 in
            (subst (λ (m : Machine). Became c base m) (sym (alone-none trusted places 0 events mid new none.0 a)) b, inr (t.0, t.2, subst (λ (x : Refusal). EndsRun old new x) (sym memory) tt)))
      ]
      | inr t ↦ (let lines : List VersionLine = t.0 in
          let cut = alone-parts trusted places 0 events t.1.0 t.1.1 mid new t.1.2 a in
          elim t.1.3 as (λ _. NamedTo c old base new result) [
            | inl asked ↦ (let k = asks-to trusted places (query.Path p.node p.filespace p.path) rows.Versions (Ok lines) t.1.0 mid cut.0 refl quiet asked cut.1 in
                let is : path_versions_of p.node p.filespace p.path (database mid) ≡ Ok lines =
                ok-of rows.Versions (versions-in lines) (λ x. refl) (path_versions_of p.node p.filespace p.path (database mid)) lines k.1 in
                let same : lines ≡ named.0 = ok-is lines named.0 (path_versions_of p.node p.filespace p.path (database mid)) is here in
                let said : object_stored (row_put p) (digest_with (sha256 p.text)) lines ≡ Ok old.core.next_object = ap (object_stored (row_put p) (digest_with (sha256 p.text))) same ∙ named.2 in
                let end : new ≡ cut.0 = alone-none trusted places 0 t.1.1 cut.0 new t.1.4.0 cut.2 in (
                  subst (λ (m : Machine). Became c base m) (sym end) (became-still c base mid cut.0 b k.0),
                  decided (object_stored (row_put p) (digest_with (sha256 p.text)) lines) result old.core.next_object new old said t.1.4.1,
                ))
            | inr none ↦ absurd cc
          ])
    ]

-- ---- stored and named

named-done : (places : Places) (p : FilePut) (home : Home) (filespace : ℕ) (place : Place) (moment : ℕ) (result : Result ℕ Refusal) (old new : Machine) → IsAtRest old.core → HasPlace places home.pool p.text old place
    → why_not (It filespace p home place old) old.core ≡ None → NamedTo (behind moment filespace p home.class place old.core) old (stored_in p place old) new result
    → DoneOr (IsStored places p home filespace old new) result old new
named-done places p home filespace place moment result old new rest at none (b, inl is) =
    subst (λ (r : Result ℕ Refusal). DoneOr (IsStored places p home filespace old new) r old new) (sym is) (stored-done places p home filespace place moment old new rest at none b)
named-done places p home filespace place moment result old new rest at none (b, inr (e, is, ends)) =
    subst (λ (r : Result ℕ Refusal). DoneOr (IsStored places p home filespace old new) r old new) (sym is) (run-done places p home filespace place moment e old new rest at none ends b)

puts-in : (trusted : Type 0) (places : Places) (p : FilePut) (home : Home) (node filespace : ℕ) (events : List Event) (result : Result ℕ Refusal) (old new : Machine) → NobodyHolds places → IsAtRest old.core
    → node_named p.node (database old).clients.nodes ≡ Some node → filespace_named node p.filespace (database old).clients.filespaces ≡ Some filespace
    → putting.PutsIn p.node p.filespace (Some (file_put p)) (row_put p) home filespace events result → Alone trusted places 0 events old new
    → DoneOr (IsStored places p home filespace old new) result old new
puts-in trusted places p home node filespace events result old new nobody rest known found (inl t) a =
    elim (sends-come-to trusted places (file_put p) home.pool events (Err t.0) old new nobody rest t.1 a) as (λ _. DoneOr (IsStored places p home filespace old new) result old new) [
      | inl s ↦ absurd cc
      | inr s ↦ (let same : t.0 ≡ s.0 = err-is Sealed t.0 s.0 (Err t.0) refl s.1 in
          subst (λ (r : Result ℕ Refusal). DoneOr (IsStored places p home filespace old new) r old new) (sym (t.2 ∙ ap Err same)) (sent-not places p home filespace s.0 old new rest s.2))
    ]
puts-in trusted places p home node filespace events result old new nobody rest known found (inr t) a =
    let cut = alone-parts trusted places 0 events t.1.0 t.1.1 old new t.1.2 a in
    elim (sends-come-to trusted places (file_put p) home.pool t.1.0 (Ok t.0) old cut.0 nobody rest t.1.3 cut.1) as (λ _. DoneOr (IsStored places p home filespace old new) result old new) [
      | inr s ↦ absurd cc
      | inl s ↦ (let same : t.0 ≡ s.0 = ok-is t.0 s.0 (Ok t.0) refl s.1 in
          let to : SentTo places home.pool p.text old cut.0 t.0 = subst (λ (x : Sealed). SentTo places home.pool p.text old cut.0 x) (sym same) s.2 in
          let at : HasPlace places home.pool p.text old to.0 = (to.1, to.2) in
          elim t.1.4 as (λ _. DoneOr (IsStored places p home filespace old new) result old new) [
            | inl u ↦ (let d : DoneOr (IsStored places p home filespace old new) (Err u.0) old new =
                stores-to trusted places p home filespace to.0 t.0 t.1.1 (Err u.0) old cut.0 new rest at to.3 to.4 u.1 cut.2 in
                subst (λ (r : Result ℕ Refusal). DoneOr (IsStored places p home filespace old new) r old new) (sym u.2) d)
            | inr u ↦ (let parts = alone-parts trusted places 0 t.1.1 u.1.0 u.1.1 cut.0 new u.1.2 cut.2 in
                let d = stores-to trusted places p home filespace to.0 t.0 u.1.0 (Ok u.0) old cut.0 parts.0 rest at to.3 to.4 u.1.3 parts.1 in
                let digest : t.0.digest ≡ digest_with (sha256 p.text) = ap (λ (x : Sealed). x.digest) to.3 in
                let names : putting.Names p.node p.filespace (row_put p) (digest_with (sha256 p.text)) u.1.1 result =
                subst (λ x. putting.Names p.node p.filespace (row_put p) x u.1.1 result) digest u.1.4 in
                named-done places p home filespace to.0 d.1.0 result old new rest at d.0
                (names-to trusted places p node filespace home.class to.0 d.1.0 u.1.1 result old parts.0 new rest known found d.1.1 names parts.2))
          ])
    ]

-- ---- from an earlier state, of which only counts and the moment differ

at-since : (places : Places) (p : FilePut) (class : List ℕ) (filespace : ℕ) (place : Place) (result : Result ℕ Refusal) (added : List Entry) (old mid new : Machine) → Onward old (as_is old.core old mid)
    → StoresAt p class filespace place (as_is old.core old mid) new result added → StoresAt p class filespace place old new result added
at-since places p class filespace place result added old mid new on (inl h) = inl (h.0, h.1, h.2, rose-from old (as_is old.core old mid) new h.0 on h.3, h.4, h.5)
at-since places p class filespace place (Ok x) added old mid new on (inr h) = inr h
at-since places p class filespace place (Err e) added old mid new on (inr (inl c, next, has)) = inr (inl c, next, has)
at-since places p class filespace place (Err e) added old mid new on (inr (inr c, next, has)) = inr (inr (ends-since old (as_is old.core old mid) new e on c.0, c.1), next, has)

by-since : (places : Places) (p : FilePut) (class : List ℕ) (filespace : ℕ) (why : Option Refusal) (placed : Result Place Refusal) (result : Result ℕ Refusal) (added : List Entry) (old mid new : Machine)
    → Onward old (as_is old.core old mid) → StoresBy why p class filespace placed (as_is old.core old mid) new result added → StoresBy why p class filespace placed old new result added
by-since places p class filespace (Some e) placed result added old mid new on h = h
by-since places p class filespace None (Ok place) result added old mid new on h = at-since places p class filespace place result added old mid new on h
by-since places p class filespace None (Err e) result added old mid new on h = absurd h

pub stored-since : (places : Places) (p : FilePut) (home : Home) (filespace : ℕ) (result : Result ℕ Refusal) (added : List Entry) (old mid new : Machine) → Onward old (as_is old.core old mid)
    → IsStored places p home filespace (as_is old.core old mid) new result added → IsStored places p home filespace old new result added
stored-since places p home filespace (Ok x) added old mid new on (inl h) = absurd h.0
stored-since places p home filespace (Err e) added old mid new on (inl h) = inl ((ends-since old (as_is old.core old mid) new e on h.0.0, h.0.1), h.1)
stored-since places p home filespace result added old mid new on (inr h) =
    inr (h.0, h.1, by-since places p home.class filespace (why_no_place home.pool (length p.text) old.core h.0) h.0 result added old mid new on h.2)

pub leaves-since : (result : Result ℕ Refusal) (added : List Entry) (old mid new : Machine) → Onward old (as_is old.core old mid) → Leaves result added (as_is old.core old mid) new → Leaves result added old new
leaves-since result added old mid new on l = record {
  adds = record { base = l.adds.base; journal = l.adds.journal };
  onward = onward-then old (as_is old.core old mid) new on l.onward;
  log = l.log;
  nearly = l.nearly;
  rests = l.rests;
  durable = l.durable;
}

done-since : (places : Places) (p : FilePut) (home : Home) (filespace : ℕ) (result : Result ℕ Refusal) (old mid new : Machine) → Onward old (as_is old.core old mid)
    → DoneOr (IsStored places p home filespace (as_is old.core old mid) new) result (as_is old.core old mid) new → DoneOr (IsStored places p home filespace old new) result old new
done-since places p home filespace result old mid new on (inl h) =
    inl ((h.0.0, stored-since places p home filespace result h.0.0 old mid new on h.0.1, h.0.2, leaves-since result h.0.0 old mid new on h.0.3), h.1)
done-since places p home filespace result old mid new on (inr h) =
    inr (h.0, (h.1.0, stored-since places p home filespace (Err refused.Memory) h.1.0 old mid new on h.1.1, h.1.2, leaves-since (Err refused.Memory) h.1.0 old mid new on h.1.3))

pub puts-in-since : (trusted : Type 0) (places : Places) (p : FilePut) (home : Home) (node filespace : ℕ) (events : List Event) (result : Result ℕ Refusal) (old mid new : Machine) → NobodyHolds places → IsAtRest old.core
    → node_named p.node (database old).clients.nodes ≡ Some node → filespace_named node p.filespace (database old).clients.filespaces ≡ Some filespace → Became old.core old mid
    → putting.PutsIn p.node p.filespace (Some (file_put p)) (row_put p) home filespace events result → Alone trusted places 0 events mid new
    → DoneOr (IsStored places p home filespace old new) result old new
puts-in-since trusted places p home node filespace events result old mid new nobody rest known found b h a =
    let m : Machine = as_is old.core old mid in
    done-since places p home filespace result old mid new (record { counts = b.onward.counts; since = b.onward.since })
    (puts-in trusted places p home node filespace events result m new nobody rest known found h (subst (λ (x : Machine). Alone trusted places 0 events x new) (is-as old.core old mid b) a))
