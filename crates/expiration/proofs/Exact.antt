-- Alone, an expiration removes exactly what isn't retained where it begins.
use Rattle.std.proofs.Common.{◌≡◌, inl, inr, ℕ, ◌+◌, ◌<◌, ◌==◌, ◌||◌, Bool, true, List, [], ◌∷◌, ◌++◌, map, Option, Some, None, Ok, Err, refl, sym, ap, ap₂, subst, ◌∙◌}
use Rattle.std.proofs.lemmas.Bool.{eqb-true, false≢true}
use Rattle.std.specs.List.{list_any, AllByRecursion}
use Rattle.kinds.specs.Refusals.{number_of}
use Rattle.kinds.specs.declared.refusal.Refusal.{Refusal}
use Rattle.entries.specs.declared.change.Change.{Change}
use Rattle.inventory_rows.specs.State.{Inv}
use Rattle.inventory_answers.specs.declared.query.Query.TheVariants as query
use Rattle.inventory_answers.specs.declared.reply.Answer.{Answer}
use Rattle.inventory_answers.specs.declared.reply.Rows.TheVariants as rows
use Rattle.inventory_work.specs.Expiring.{unretained}
use Rattle.inventory_work.specs.declared.lines.UnretainedLine.{UnretainedLine}
use Rattle.steps.specs.declared.asked.Asked.{Asked}
use Rattle.steps.specs.Events.{Event, event}
use Rattle.steps.specs.Events.Deed.{Ask, Commit}
use Rattle.steps.specs.Receipts.{made, receipts}
use Rattle.machine.specs.Fits.{History, Nothing, Own, Step, inv, number_after, sight_at}
use Rattle.expiration.proofs.InTurn.{Waits, waits-expirable, waits-on}
use Rattle.expiration.proofs.Listed.{Rises, listed-rises, listed-waits}
use Rattle.expiration.proofs.Listing.{Member}
use Rattle.expiration.proofs.Refused.{passed-over}
use Rattle.expiration.proofs.Rows.{asked-lines, gone, joined-next, made-change}
use Rattle.expiration.specs.Alone.{FitsAlone}
use Rattle.expiration.specs.Expiring.{AreOf, Handles, IsExact, Lists, is_long, is_passed, line_of, named, removed_lines, removing}
use Rattle.expiration.specs.Rows.{is_expirable}

-- ---- events of one actor alone

alone-first : (w : History) (actor : ℕ) (a c : Own) (e : Event) (events : List Event) → FitsAlone w actor a (e ∷ events) c
    → (b : Own) × Step w actor a e b × (e.n ≡ a.reached) × FitsAlone w actor b events c
unfolding FitsAlone
alone-first w actor a c e events f = f

alone-cut : (w : History) (actor : ℕ) (a c : Own) (xs ys : List Event) → FitsAlone w actor a (xs ++ ys) c → (b : Own) × FitsAlone w actor a xs b × FitsAlone w actor b ys c
unfolding FitsAlone
alone-cut w actor a c [] ys f = (a, refl, f)
alone-cut w actor a c (x ∷ xs) ys f = let r = alone-cut w actor f.0 c xs ys f.3 in (r.0, (f.0, f.1, f.2, r.1), r.2)

nothing-after : (n : ℕ) (joined : Option Change) → Nothing joined → number_after n joined ≡ n
nothing-after n None h = refl
nothing-after n (Some c) h = absurd h

-- ---- lists

all-from : {A : Type 0} (P : A → Type 0) (xs : List A) → ((x : A) → Member x xs → P x) → AllByRecursion P xs
all-from P [] h = tt
all-from P (x ∷ xs) h = (h x (inl refl), all-from P xs (λ y m. h y (inr m)))

all-behind : {A : Type 0} (P : A → Type 0) (xs ys : List A) → AllByRecursion P (xs ++ ys) → AllByRecursion P ys
all-behind P [] ys h = h
all-behind P (x ∷ xs) ys h = all-behind P xs ys h.1

rises-behind : (xs ys : List UnretainedLine) → Rises (xs ++ ys) → Rises ys
rises-behind [] ys h = h
rises-behind (x ∷ xs) ys h = rises-behind xs ys h.1

-- those before an object are below it
abbrev AreBelow : List UnretainedLine → UnretainedLine → Type 0
AreBelow xs l = AllByRecursion (λ x. x.object < l.object) xs

none-below : (ys : List UnretainedLine) → AllByRecursion (AreBelow []) ys
none-below [] = tt
none-below (y ∷ ys) = (tt, none-below ys)

one-below : (x : UnretainedLine) (xs ys : List UnretainedLine) → AllByRecursion (λ y. x.object < y.object) ys → AllByRecursion (AreBelow xs) ys → AllByRecursion (AreBelow (x ∷ xs)) ys
one-below x xs [] a b = tt
one-below x xs (y ∷ ys) a b = ((a.0, b.0), one-below x xs ys a.1 b.1)

rises-below : (xs ys : List UnretainedLine) → Rises (xs ++ ys) → AllByRecursion (AreBelow xs) ys
rises-below [] ys h = none-below ys
rises-below (x ∷ xs) ys h = one-below x xs ys (all-behind (λ (y : UnretainedLine). x.object < y.object) xs ys h.0) (rises-below xs ys h.1)

below-named : (xs : List UnretainedLine) (l : UnretainedLine) → AreBelow xs l → AllByRecursion (λ i. i.object < l.object) (map named xs)
below-named [] l h = tt
below-named (x ∷ xs) l h = (h.0, below-named xs l h.1)

-- the lines of a transaction are those that it was made of
spelled-lines : (filespace : ℕ) (lines : List UnretainedLine) → AreOf filespace lines → map (line_of filespace) (map named lines) ≡ lines
spelled-lines filespace [] of = refl
spelled-lines filespace (l ∷ lines) of = ap₂ (λ (x : UnretainedLine) (xs : List UnretainedLine). x ∷ xs) (ap (λ (f : ℕ). line_of f (named l)) (sym of.0)) (spelled-lines filespace lines of.1)

-- ---- steps

-- what waits still does behind the removal of objects below it
removed-on : (w : History) (actor : ℕ) (a b : Own) (n number filespace : ℕ) (run : List UnretainedLine) (l : UnretainedLine)
    → Step w actor a (event n (Commit (removing filespace run) [] (Ok number))) b
    → AreBelow run l → Waits (inv w n) l → Waits (inv w b.reached) l
removed-on w actor a b n number filespace run l s less h =
    let reached : b.reached ≡ n + 1 = s.has.reached ∙ ap (number_after n) (made-change (sight_at w a n s.next_file) filespace run s.joined s.joins) in
    subst (λ (m : ℕ). Waits (inv w m) l) (sym reached)
    (subst (λ (v : Inv). Waits v l) (sym (joined-next w actor a b n number filespace run s)) (waits-on (gone filespace run) (inv w n) l (below-named run l less) h))

all-on : (w : History) (actor : ℕ) (a b : Own) (n number filespace : ℕ) (run rest : List UnretainedLine) → Step w actor a (event n (Commit (removing filespace run) [] (Ok number))) b
    → AllByRecursion (AreBelow run) rest → AllByRecursion (Waits (inv w n)) rest → AllByRecursion (Waits (inv w b.reached)) rest
all-on w actor a b n number filespace run [] s less h = tt
all-on w actor a b n number filespace run (l ∷ rest) s less h = (removed-on w actor a b n number filespace run l s less.0 h.0, all-on w actor a b n number filespace run rest s less.1 h.1)

-- a refusal for an object or for the length is no fault of the log
abbrev is_mild_number : ℕ → Bool
is_mild_number k = list_any (λ n. n == k) (10 ∷ 12 ∷ 22 ∷ 23 ∷ []) || k == 30

not-fault : (e : Refusal) → (is_passed e || is_long e) ≡ true → (number_of e == 40) ≡ true → ⊥
not-fault e mild fault = false≢true (ap is_mild_number (sym (eqb-true (number_of e) 40 fault)) ∙ mild)

-- behind it the number is as before
refused-stays : (w : History) (actor : ℕ) (a b : Own) (n : ℕ) (asked : Asked) (numbers : List ℕ) (e : Refusal) → Step w actor a (event n (Commit asked numbers (Err e))) b
    → (is_passed e || is_long e) ≡ true → b.reached ≡ n
refused-stays w actor a b n asked numbers e s mild = elim s.joins as (λ _. b.reached ≡ n) [
  | inl nothing ↦ s.has.reached ∙ nothing-after n s.joined nothing
  | inr doubt ↦ absurd (not-fault e mild doubt.0)
]

-- ---- several steps

exact-handled : (w : History) (actor : ℕ) (a b : Own) (lines : List UnretainedLine) (events : List Event) → FitsAlone w actor a events b → Handles lines events → Rises lines
    → AllByRecursion (Waits (inv w a.reached)) lines
    → removed_lines (made events) ≡ lines
exact-handled w actor a b lines [] f h rises wait = sym h
exact-handled w actor a b lines (e ∷ events) f (inl (run, rest, is, (n, number, filespace, of, same), h)) rises wait =
    let r = alone-first w actor a b e events f in
    let s : Step w actor a (event n (Commit (removing filespace run) [] (Ok number))) r.0 = subst (λ (y : Event). Step w actor a y r.0) same r.1 in
    let at : a.reached ≡ n = sym r.2 ∙ ap (λ (y : Event). y.n) same in
    let rise : Rises (run ++ rest) = subst Rises is rises in
    let waits : AllByRecursion (Waits (inv w n)) (run ++ rest) = subst (λ (m : ℕ). AllByRecursion (Waits (inv w m)) (run ++ rest)) at (subst (AllByRecursion (Waits (inv w a.reached))) is wait) in
    let later : removed_lines (made events) ≡ rest =
    exact-handled w actor r.0 b rest events r.3 h (rises-behind run rest rise) (all-on w actor a r.0 n number filespace run rest s (rises-below run rest rise)
    (all-behind (Waits (inv w n)) run rest waits)) in
    ap (λ (y : Event). removed_lines (made (y ∷ events))) same ∙ ap₂ (λ (xs ys : List UnretainedLine). xs ++ ys) (spelled-lines filespace run of) later ∙ sym is
exact-handled w actor a b lines (e ∷ events) f (inr (inl (l, rest, is, (n, why, passed, same), h))) rises wait =
    let r = alone-first w actor a b e events f in
    let s : Step w actor a (event n (Commit (removing l.filespace (l ∷ [])) [] (Err why))) r.0 = subst (λ (y : Event). Step w actor a y r.0) same r.1 in
    let at : a.reached ≡ n = sym r.2 ∙ ap (λ (y : Event). y.n) same in
    let waits : Waits (inv w a.reached) l = (subst (AllByRecursion (Waits (inv w a.reached))) is wait).0 in
    absurd (passed-over w actor a r.0 n l.filespace l why s passed (subst (λ (m : ℕ). is_expirable l.filespace l.path l.object (inv w m) ≡ true) at (waits-expirable (inv w a.reached) l waits)))
exact-handled w actor a b lines (e ∷ events) f (inr (inr ((n, why, filespace, those, mild, same), h))) rises wait =
    let r = alone-first w actor a b e events f in
    let s : Step w actor a (event n (Commit (removing filespace those) [] (Err why))) r.0 = subst (λ (y : Event). Step w actor a y r.0) same r.1 in
    let at : a.reached ≡ r.0.reached = sym r.2 ∙ ap (λ (y : Event). y.n) same ∙ sym (refused-stays w actor a r.0 n (removing filespace those) [] why s mild) in
    ap (λ (y : Event). removed_lines (made (y ∷ events))) same ∙ exact-handled w actor r.0 b lines events r.3 h rises (subst (λ (m : ℕ). AllByRecursion (Waits (inv w m)) lines) at wait)

-- ---- the whole

asked-first : (n : ℕ) (answer : Answer) (ys zs : List Event) (lines : List UnretainedLine) → answer.rows ≡ rows.Unretained lines → Handles lines ys
    → receipts ((event n (Ask query.Unretained (Ok answer)) ∷ ys) ++ zs) ≡ made ys → IsExact ((event n (Ask query.Unretained (Ok answer)) ∷ ys) ++ zs)
asked-first n answer ys zs lines is handled there = λ w actor a b sound f turn.
    let x : Event = event n (Ask query.Unretained (Ok answer)) in
    let r = alone-first w actor a b x (ys ++ zs) f in
    let t = alone-cut w actor r.0 b ys zs r.3 in
    let s : Step w actor a x r.0 = r.1 in
    let reached : n ≡ r.0.reached = sym (s.has.reached ∙ nothing-after n s.joined s.joins) in
    let listed : lines ≡ unretained (inv w n) = asked-lines w actor a r.0 n answer lines s is in
    let valid = sound.valid n s.begun s.within in
    let waits : AllByRecursion (Waits (inv w n)) lines =
    subst (AllByRecursion (Waits (inv w n))) (sym listed) (all-from (Waits (inv w n)) (unretained (inv w n)) (listed-waits (inv w n) valid (sound.ordered n s.begun s.within) turn)) in
    ap removed_lines there
    ∙ exact-handled w actor r.0 t.0 lines ys t.1 handled (subst Rises (sym listed) (listed-rises (inv w n) valid)) (subst (λ (m : ℕ). AllByRecursion (Waits (inv w m)) lines) reached waits)
    ∙ listed

pub all-exact : (xs ys zs : List Event) (lines : List UnretainedLine) → Lists xs (Ok lines) → Handles lines ys → receipts ((xs ++ ys) ++ zs) ≡ made ys → IsExact ((xs ++ ys) ++ zs)
all-exact xs ys zs lines (n, answer, same, is) handled there =
    subst (λ (es : List Event). IsExact ((es ++ ys) ++ zs)) (sym same)
    (asked-first n answer ys zs lines is handled (subst (λ (es : List Event). receipts ((es ++ ys) ++ zs) ≡ made ys) same there))
