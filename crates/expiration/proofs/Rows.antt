-- What is unretained all along is gone behind an expiration.
use Rattle.std.proofs.Common.{◌≡◌, inl, inr, ℕ, ◌+◌, ◌-◌, ◌≤◌, Bool, true, false, List, [], ◌∷◌, ◌++◌, map, Option, Some, None, Result, Ok, Err, refl, sym, ap, subst, ◌∙◌, arith}
use Rattle.std.proofs.lemmas.Bool.{false≢true}
use Rattle.std.specs.List.{slice_get}
use Rattle.std.specs.Option.{is_some}
use Rattle.kinds.specs.Refusals.{foremost}
use Rattle.kinds.specs.declared.refusal.Refusal.{Refusal}
use Rattle.entries.specs.change_items.declared.lists.NamedVersions.{NamedVersions}
use Rattle.entries.specs.declared.change.Change.{Change}
use Rattle.entries.specs.declared.change.Change.TheVariants as change
use Rattle.inventory_rows.specs.version_groups.Versions.{has_object}
use Rattle.inventory_rows.specs.Search.{versions}
use Rattle.inventory_rows.specs.State.{Inv}
use Rattle.inventory_rules.specs.Journal.{Journal}
use Rattle.inventory_rules.specs.Run.{journal_of}
use Rattle.inventory_rules.specs.Transactions.{causes, effect, refused, sizes_refused, then_valid}
use Rattle.inventory_rules.specs.Valid.{is_valid}
use Rattle.inventory_laws.proofs.Arriving.{has-version}
use Rattle.inventory_laws.proofs.Facts.{facts_of}
use Rattle.inventory_laws.proofs.HeldNumbers.{held_object}
use Rattle.inventory_laws.proofs.Removals.{Expires, expire_found}
use Rattle.inventory_laws.proofs.VersionsWhole.{begins}
use Rattle.inventory_answers.specs.declared.query.Query.TheVariants as query
use Rattle.inventory_answers.specs.declared.reply.Answer.{Answer}
use Rattle.inventory_answers.specs.declared.reply.Rows.{Rows}
use Rattle.inventory_answers.specs.declared.reply.Rows.TheVariants as rows
use Rattle.inventory_work.specs.Expiring.{unretained}
use Rattle.inventory_work.specs.declared.lines.UnretainedLine.{UnretainedLine}
use Rattle.steps.specs.Events.{Event, event}
use Rattle.steps.specs.Events.Deed.{Ask, Commit}
use Rattle.steps.specs.Receipts.{is_forced}
use Rattle.machine.specs.Fits.{Fits, History, IsMadeOf, JoinsAt, Own, Step, entries_to, inv, last, number_after, sight_at}
use Rattle.machine.specs.Machine.{IsAnswer}
use Rattle.machine.specs.Says.{Says}
use Rattle.machine.specs.State.{Sight}
use Rattle.machine.proofs.Elsewhere.{append-none, none-held}
use Rattle.machine.proofs.Histories.{inv-next}
use Rattle.machine.proofs.Legality.{joined-legal}
use Rattle.machine.proofs.Runs.{fits-cut, fits-first, fits-rises, step-rises, step-within}
use Rattle.expiration.proofs.Gone.{removed-absent}
use Rattle.expiration.proofs.Listing.{AreNumbered, Member, expirable-listed, line, member-parts}
use Rattle.expiration.proofs.Refused.{expirable-causes, passed-over}
use Rattle.expiration.specs.Expiring.{Handles, Lists, is_passed, named, removing}
use Rattle.expiration.specs.Rows.{AreSound, IsExpired, is_expirable, last_of}

-- ---- numbers

not-before : (n : ℕ) (joined : Option Change) → n ≤ number_after n joined
not-before n None = omega arith
not-before n (Some c) = omega arith

reaches : (w : History) (actor : ℕ) (a b : Own) (e : Event) → Step w actor a e b → e.n ≤ b.reached
reaches w actor a b e s =
    let l : e.n ≤ number_after e.n s.joined = not-before e.n s.joined in
    let r : b.reached ≡ number_after e.n s.joined = s.has.reached in
    omega arith

-- the last step is made no earlier than at the number that was reached before
reached-last : (w : History) (actor : ℕ) (a b : Own) (e : Event) (events : List Event) → Fits w actor a (e ∷ events) b → a.reached ≤ last_of (e ∷ events)
reached-last w actor a b e [] f = (fits-first w actor a b e [] f).1.since
reached-last w actor a b e (x ∷ events) f =
    let r = fits-first w actor a b e (x ∷ events) f in
    let i : a.reached ≤ r.0.reached = step-rises w actor a r.0 e r.1 in
    let j : r.0.reached ≤ last_of (x ∷ events) = reached-last w actor r.0 b x events r.2 in
    omega arith

last-behind : (xs : List Event) (y : Event) (ys : List Event) → last_of (xs ++ (y ∷ ys)) ≡ last_of (y ∷ ys)
last-behind [] y ys = refl
last-behind (x ∷ []) y ys = refl
last-behind (x ∷ k ∷ xs) y ys = last-behind (k ∷ xs) y ys

-- ---- what was listed

named-one : (v : Inv) → is_valid v ≡ true → AreNumbered v.clients.held
named-one v valid k row there = held_object k v.clients.filespaces v.clients.held row (begins v (facts_of v valid)).held there

abbrev rows_told : Result Answer Refusal → Rows
rows_told (Ok a) = a.rows
rows_told (Err e) = rows.Today

told-lines : (log_length : ℕ) (v : Inv) (answer : Answer) (lines : List UnretainedLine) → IsAnswer log_length query.Unretained v answer → answer.rows ≡ rows.Unretained lines → lines ≡ unretained v
told-lines log_length v answer lines h is =
    let told : rows.Unretained (unretained v) ≡ h.0.rows = ap rows_told h.1 in
    let both : rows.Unretained lines ≡ rows.Unretained (unretained v) = sym is ∙ ap (λ (x : Answer). x.rows) h.2 ∙ sym told in
    cc

pub asked-lines : (w : History) (actor : ℕ) (a b : Own) (n : ℕ) (answer : Answer) (lines : List UnretainedLine) → Step w actor a (event n (Ask query.Unretained (Ok answer))) b
    → answer.rows ≡ rows.Unretained lines
    → lines ≡ unretained (inv w n)
unfolding Says
asked-lines w actor a b n answer lines s is = told-lines s.says.1.0 (inv w n) answer lines s.says.1.1 is

-- ---- a removal that joined

no-cause : (o : Option Refusal) (valid : Bool) → then_valid o valid ≡ None → o ≡ None
no-cause None valid h = refl
no-cause (Some e) valid h = absurd cc

pub legal-causes : (j : Journal) (c : Change) (v : Inv) → refused j c v ≡ None → causes j c v ≡ []
unfolding refused
legal-causes j c v h =
    (append-none (causes j c v) (sizes_refused c v) (none-held (causes j c v ++ sizes_refused c v) (no-cause (foremost (causes j c v ++ sizes_refused c v)) (is_valid (effect c v)) h))).0

abbrev pub gone : ℕ → List UnretainedLine → NamedVersions
gone filespace lines = record { filespace = filespace; items = map named lines }

pub made-change : (s : Sight) (filespace : ℕ) (lines : List UnretainedLine) (joined : Option Change) → IsMadeOf (removing filespace lines) [] s joined
    → joined ≡ Some (change.Expire (gone filespace lines))
made-change s filespace lines None h = absurd h
made-change s filespace lines (Some c) h = sym h

named-member : (l : UnretainedLine) (lines : List UnretainedLine) → Member l lines → Member (named l) (map named lines)
named-member l [] m = absurd m
named-member l (k ∷ lines) (inl same) = inl (ap named same)
named-member l (k ∷ lines) (inr m) = inr (named-member l lines m)

-- what can expire is kept
expirable-kept : (j : Journal) (l : UnretainedLine) (v : Inv) → is_valid v ≡ true → is_expirable l.filespace l.path l.object v ≡ true → has_object l.object (versions v) ≡ true
expirable-kept j l v valid h =
    let e : Expires l.filespace (named l) v = expire_found j l.filespace v.number v (begins v (facts_of v valid)) (named l) (expirable-causes j l.filespace (named l) v h) in
    has-version l.object (versions v) ∙ ap is_some e.found

-- the database behind it
pub joined-next : (w : History) (actor : ℕ) (a b : Own) (n number filespace : ℕ) (lines : List UnretainedLine) → Step w actor a (event n (Commit (removing filespace lines) [] (Ok number))) b
    → inv w (n + 1) ≡ effect (change.Expire (gone filespace lines)) (inv w n)
joined-next w actor a b n number filespace lines s =
    let c : Change = change.Expire (gone filespace lines) in
    let is : s.joined ≡ Some c = made-change (sight_at w a n s.next_file) filespace lines s.joined s.joins in
    let there : slice_get w.journal (n - w.base.number) ≡ Some (record { actor = actor; change = c }) = subst (λ (o : Option Change). JoinsAt w actor n o) is s.joins_at in
    inv-next w n (record { actor = actor; change = c }) s.begun there

-- the number behind it, and that its object isn't kept there
record Joins (w : History) (n : ℕ) (l : UnretainedLine) (b : Own) : Type 0 where
  pub reached : b.reached ≡ n + 1
  pub absent : has_object l.object (versions (inv w (n + 1))) ≡ false

joined-gone : (w : History) (actor : ℕ) (a b : Own) (n number filespace : ℕ) (l : UnretainedLine) (lines : List UnretainedLine) → AreSound w
    → Step w actor a (event n (Commit (removing filespace lines) [] (Ok number))) b → Member l lines → Joins w n l b
joined-gone w actor a b n number filespace l lines sound s m =
    let c : Change = change.Expire (gone filespace lines) in
    let j : Journal = journal_of w.base (entries_to w n) in
    let is : s.joined ≡ Some c = made-change (sight_at w a n s.next_file) filespace lines s.joined s.joins in
    let next : inv w (n + 1) ≡ effect c (inv w n) = joined-next w actor a b n number filespace lines s in
    let cause : causes j c (inv w n) ≡ [] = legal-causes j c (inv w n) (joined-legal w actor a b n (removing filespace lines) [] number c s is) in
    record {
      reached = s.has.reached ∙ ap (number_after n) is;
      absent = ap (λ (v : Inv). has_object l.object (versions v)) next
          ∙ removed-absent j (gone filespace lines) (inv w n) (named l) (sound.valid n s.begun s.within) (sound.ordered n s.begun s.within) cause (named-member l lines m);
    }

-- ---- a step that handles an object: there it can't expire, or right behind it

-- where it can expire at each number from one to another
abbrev AllAlong : History → (from to : ℕ) → UnretainedLine → Type 0
AllAlong w from to l = (n : ℕ) → from ≤ n → n ≤ to → is_expirable l.filespace l.path l.object (inv w n) ≡ true

joined-never : (w : History) (actor : ℕ) (a b : Own) (n number filespace from to : ℕ) (l : UnretainedLine) (lines : List UnretainedLine) → AreSound w → from ≤ n → b.reached ≤ to → AllAlong w from to l
    → Step w actor a (event n (Commit (removing filespace lines) [] (Ok number))) b → Member l lines → ⊥
joined-never w actor a b n number filespace from to l lines sound low high all s m =
    let g : Joins w n l b = joined-gone w actor a b n number filespace l lines sound s m in
    let reached : b.reached ≡ n + 1 = g.reached in
    let within : b.reached ≤ last w = step-within w actor a b (event n (Commit (removing filespace lines) [] (Ok number))) s in
    let begun : w.base.number ≤ n = s.begun in
    let next : from ≤ n + 1 = omega arith in
    let bound : n + 1 ≤ to = omega arith in
    let first : w.base.number ≤ n + 1 = omega arith in
    let end : n + 1 ≤ last w = omega arith in
    false≢true (sym g.absent ∙ expirable-kept (journal_of w.base (entries_to w n)) l (inv w (n + 1)) (sound.valid (n + 1) first end) (all (n + 1) next bound))

refused-never : (w : History) (actor : ℕ) (a b : Own) (n from to : ℕ) (e : Refusal) (l : UnretainedLine) → from ≤ n → b.reached ≤ to → AllAlong w from to l
    → Step w actor a (event n (Commit (removing l.filespace (l ∷ [])) [] (Err e))) b → is_passed e ≡ true → ⊥
refused-never w actor a b n from to e l low high all s passed =
    let r : n ≤ b.reached = reaches w actor a b (event n (Commit (removing l.filespace (l ∷ [])) [] (Err e))) s in
    let bound : n ≤ to = omega arith in
    passed-over w actor a b n l.filespace l e s passed (all n low bound)

-- of the objects that several steps handle none can expire all along
handled-never : (w : History) (actor : ℕ) (a b : Own) (from to : ℕ) (l : UnretainedLine) (lines : List UnretainedLine) (events : List Event) → AreSound w → from ≤ a.reached → b.reached ≤ to
    → AllAlong w from to l
    → Fits w actor a events b → Handles lines events → Member l lines → ⊥
handled-never w actor a b from to l lines [] sound low high all f h m = subst (λ (ls : List UnretainedLine). Member l ls) h m
handled-never w actor a b from to l lines (e ∷ events) sound low high all f h m =
    let r = fits-first w actor a b e events f in
    let s : Step w actor a e r.0 = r.1 in
    let since : a.reached ≤ e.n = s.since in
    let rise : a.reached ≤ r.0.reached = step-rises w actor a r.0 e s in
    let later : r.0.reached ≤ b.reached = fits-rises w actor r.0 b events r.2 in
    let first : from ≤ e.n = omega arith in
    let next : from ≤ r.0.reached = omega arith in
    let end : r.0.reached ≤ to = omega arith in
    elim h as (λ _. ⊥) [
      | inl run ↦ elim (member-parts l run.0 run.1 (subst (λ (ls : List UnretainedLine). Member l ls) run.2 m)) as (λ _. ⊥) [
        | inl here ↦ (let x = run.3 in
            let low_n : from ≤ x.0 = subst (λ (y : Event). from ≤ y.n) x.4 first in
            joined-never w actor a r.0 x.0 x.1 x.2 from to l run.0 sound low_n end all (subst (λ (y : Event). Step w actor a y r.0) x.4 s) here)
        | inr there ↦ handled-never w actor r.0 b from to l run.1 events sound next high all r.2 run.4 there
      ]
      | inr other ↦ elim other as (λ _. ⊥) [
        | inl one ↦ elim (subst (λ (ls : List UnretainedLine). Member l ls) one.2 m) as (λ _. ⊥) [
          | inl same ↦ (let x = one.3 in
              let low_n : from ≤ x.0 = subst (λ (y : Event). from ≤ y.n) x.3 first in
              let along : AllAlong w from to one.0 = subst (AllAlong w from to) (sym same) all in
              refused-never w actor a r.0 x.0 from to x.1 one.0 low_n end along (subst (λ (y : Event). Step w actor a y r.0) x.3 s) x.2)
          | inr there ↦ handled-never w actor r.0 b from to l one.1 events sound next high all r.2 one.4 there
        ]
        | inr more ↦ handled-never w actor r.0 b from to l lines events sound next high all r.2 more.1 m
      ]
    ]

-- ---- the whole

ends-later : (n : ℕ) (answer : Answer) (ys zs : List Event) (lines : List UnretainedLine) → answer.rows ≡ rows.Unretained lines → Handles lines ys → is_forced zs ≡ true
    → IsExpired ((event n (Ask query.Unretained (Ok answer)) ∷ ys) ++ zs)
ends-later n answer ys [] lines is handled forced = absurd (false≢true forced)
ends-later n answer ys (z ∷ zs) lines is handled forced = λ w actor a b sound fits filespace path object all.
    let x : Event = event n (Ask query.Unretained (Ok answer)) in
    let r = fits-first w actor a b x (ys ++ (z ∷ zs)) fits in
    let t = fits-cut w actor r.0 b ys (z ∷ zs) r.2 in
    let s : Step w actor a x r.0 = r.1 in
    let ending : last_of ((x ∷ ys) ++ (z ∷ zs)) ≡ last_of (z ∷ zs) = last-behind (x ∷ ys) z zs in
    let low : n ≤ r.0.reached = reaches w actor a r.0 x s in
    let middle : r.0.reached ≤ t.0.reached = fits-rises w actor r.0 t.0 ys t.1 in
    let high : t.0.reached ≤ last_of (z ∷ zs) = reached-last w actor t.0 b z zs t.2 in
    let here : n ≤ last_of ((x ∷ ys) ++ (z ∷ zs)) = omega arith in
    let same : n ≤ n = omega arith in
    let l : UnretainedLine = line filespace path object in
    let along : AllAlong w n (last_of (z ∷ zs)) l = λ m i j. all m i (subst (λ (k : ℕ). m ≤ k) (sym ending) j) in
    let there : Member l (unretained (inv w n)) = expirable-listed (inv w n) filespace path object (named-one (inv w n) (sound.valid n s.begun s.within)) (all n same here) in
    let among : Member l lines = subst (λ (ls : List UnretainedLine). Member l ls) (sym (asked-lines w actor a r.0 n answer lines s is)) there in
    handled-never w actor r.0 t.0 n (last_of (z ∷ zs)) l lines ys sound low high along t.1 handled among

pub all-expired : (xs ys zs : List Event) (lines : List UnretainedLine) → Lists xs (Ok lines) → Handles lines ys → is_forced zs ≡ true → IsExpired ((xs ++ ys) ++ zs)
all-expired xs ys zs lines h handled forced = subst (λ (es : List Event). IsExpired ((es ++ ys) ++ zs)) (sym h.2) (ends-later h.0 h.1 ys zs lines h.3 handled forced)
