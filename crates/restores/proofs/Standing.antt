-- What a tree has behind the restore of several objects.
use Rattle.std.proofs.Common.{◌≡◌, ◌≢◌, inl, inr, ℕ, Bool, true, false, not, cond, if◌then◌else◌, List, [], ◌∷◌, Option, None, Some, Result, Ok, Err, Ordering, refl, sym, ap, subst, ◌∙◌, true≢false}
use Rattle.std.proofs.lemmas.Map.Lookups.{exact_bytes}
use Rattle.std.specs.BTreeMap.{is_at}
use Rattle.std.specs.Cmp.Lexicographic.{slice_cmp}
use Rattle.std.specs.Ordering.{is_eq, nat_cmp}
use Rattle.std.specs.declared.cmp.Ordering.TheVariants.{Less, Equal, Greater}
use Rattle.kinds.specs.declared.refusal.Refusal.{Refusal}
use Rattle.client_files.specs.declared.outcome.Gave.{Gave}
use Rattle.client_files.specs.declared.outcome.Gave.TheVariants as gave
use Rattle.client_files.specs.declared.restoring.Stored.{Stored}
use Rattle.client_files.specs.Restoring.{LeavesTree, Restoring, given_up, is_unrestored, read_in}
use Rattle.client_files.specs.Sending.{stopping}
use Rattle.client_trees.specs.Files.{Files, file_at, others}
use Rattle.steps.specs.Events.{Event}
use Rattle.restores.specs.Given.{Gives}
use Rattle.restores.specs.Standing.{AreApart, HasFileIf, HasFileOf, HaveFiles, IsNoneOf}
use Rattle.restores.specs.declared.choosing.RestoreLine.{RestoreLine}

abbrev at : List ℕ → List ℕ → Bool
at path = is_at (slice_cmp nat_cmp path)

-- ---- other paths

is-equal : (r : Ordering) → is_eq r ≡ true → r ≡ Equal
is-equal Less h = absurd (true≢false (sym h))
is-equal Equal h = refl
is-equal Greater h = absurd (true≢false (sym h))

key-is : (path key : List ℕ) → at path key ≡ true → path ≡ key
key-is path key h = exact_bytes path key (is-equal (slice_cmp nat_cmp path key) h)

apart-not : (path other key : List ℕ) → other ≢ path → at other key ≡ true → at path key ≡ false
apart-not path other key apart here = elim (at path key) as (λ b. at path key ≡ b → at path key ≡ false) [
  | true ↦ λ e. absurd (apart (key-is other key here ∙ sym (key-is path key e)))
  | false ↦ λ e. e
] refl

found-among : (path other : List ℕ) → other ≢ path → (files : Files) → file_at other (others path files) ≡ file_at other files
found-among path other apart [] = refl
found-among path other apart (f ∷ files) =
    elim (at other f.0) as (λ b. at other f.0 ≡ b → file_at other (others path (f ∷ files)) ≡ cond b (Some f.1) (file_at other files)) [
      | true ↦ λ here. rw (apart-not path other f.0 apart here, here) refl
      | false ↦ λ away. elim (at path f.0) as (λ c. file_at other (cond (not c) (f ∷ others path files) (others path files)) ≡ file_at other files) [
        | true ↦ found-among path other apart files
        | false ↦ ap (λ b. cond b (Some f.1) (file_at other (others path files))) away ∙ found-among path other apart files
      ]
    ] refl

kept-at : (path other : List ℕ) (old new : Files) → other ≢ path → others path new ≡ others path old → file_at other new ≡ file_at other old
kept-at path other old new apart h = sym (found-among path other apart new) ∙ ap (file_at other) h ∙ found-among path other apart old

-- ---- one object

through : (s : Stored) (path other : List ℕ) (before after : ℕ) (events : List Event) (old : Files) (new : Option Files) (g : Gave) → other ≢ path → LeavesTree s path before after events (Some old) new (Ok g)
    → (files : Files) × (new ≡ Some files) × (file_at other files ≡ file_at other old)
through s path other before after events old None gave.Restored apart h = elim h [ ]
through s path other before after events old None (gave.Failed e) apart h = elim h [ ]
through s path other before after events old (Some new) gave.Restored apart h = (new, refl, kept-at path other old new apart h.0)
through s path other before after events old (Some new) (gave.Failed e) apart h = (new, refl, kept-at path other old new apart h.0)

told-still : (s : Stored) (path : List ℕ) (before after : ℕ) (events : List Event) (old : Files) (new : Option Files) (g : Gave) → LeavesTree s path before after events (Some old) new (Ok g) → (files : Files) × (new ≡ Some files)
told-still s path before after events old None gave.Restored h = elim h [ ]
told-still s path before after events old None (gave.Failed e) h = elim h [ ]
told-still s path before after events old (Some new) gave.Restored h = (new, refl)
told-still s path before after events old (Some new) (gave.Failed e) h = (new, refl)

abbrev IsRestored : Result Gave Refusal → Type 0
IsRestored (Ok gave.Restored) = Unit {0}
IsRestored _ = ⊥

never-given : (e : Refusal) → IsRestored (given_up e) → ⊥
never-given e h = (elim (is_unrestored e) as (λ b. IsRestored (if b then Ok (gave.Failed e) else Err (stopping e)) → ⊥) [
  | true ↦ λ no. no
  | false ↦ λ no. no
]) h

file-of : (l : RestoreLine) (before after : ℕ) (events : List Event) (old new : Files) → Restoring l.stored l.path before after (Some old) (Some new) events (Ok gave.Restored) → HasFileOf l new
file-of l before after events old new h = elim h.order as (λ _. HasFileOf l new) [
  | inl whole ↦ (read_in events, h.tree.1, whole.0.1, whole.0.2)
  | inr not ↦ absurd (never-given not.0 (subst IsRestored not.2 tt))
]

-- ---- several

gives-keeps : (lines : List RestoreLine) (gave : List Gave) (before after : ℕ) (old : Files) (new : Option Files) (events : List Event) (path : List ℕ) → IsNoneOf path lines → Gives lines gave before after (Some old) new events
    → (files : Files) × (new ≡ Some files) × (file_at path files ≡ file_at path old)
gives-keeps [] [] before after old new events path none h = (old, h.2, refl)
gives-keeps [] (g ∷ gave) before after old new events path none h = elim h [ ]
gives-keeps (l ∷ lines) [] before after old new events path none h = elim h [ ]
gives-keeps (l ∷ lines) (g ∷ gave) before after old new events path none h =
    let t = through l.stored l.path path before h.2 h.0 old h.3 g none.0 h.5.tree in
    let r = gives-keeps lines gave h.2 after t.0 new h.1 path none.1 (subst (λ (o : Option Files). Gives lines gave h.2 after o new h.1) t.1 h.6) in
    (r.0, r.1, r.2 ∙ t.2)

has-still : (l : RestoreLine) (old new : Files) → file_at l.path new ≡ file_at l.path old → HasFileOf l old → HasFileOf l new
has-still l old new same h = (h.0, same ∙ h.1, h.2, h.3)

has-if : (l : RestoreLine) (g : Gave) (before count : ℕ) (xs : List Event) (old between new : Files) → Restoring l.stored l.path before count (Some old) (Some between) xs (Ok g) → file_at l.path new ≡ file_at l.path between
    → HasFileIf g l new
has-if l gave.Restored before count xs old between new h same = has-still l between new same (file-of l before count xs old between h)
has-if l (gave.Failed e) before count xs old between new h same = tt

some-same : (a b : Files) → Some a ≡ Some b → a ≡ b
some-same a b h = ap (λ (o : Option Files). elim o [ None ↦ a | Some x ↦ x ]) h

files-stand : (lines : List RestoreLine) (gave : List Gave) (before after : ℕ) (old : Files) (new : Option Files) (events : List Event) → AreApart lines → Gives lines gave before after (Some old) new events
    → (files : Files) × (new ≡ Some files) × HaveFiles lines gave files
files-stand [] [] before after old new events apart h = (old, h.2, tt)
files-stand [] (g ∷ gave) before after old new events apart h = elim h [ ]
files-stand (l ∷ lines) [] before after old new events apart h = elim h [ ]
files-stand (l ∷ lines) (g ∷ gave) before after old new events apart h =
    let t = told-still l.stored l.path before h.2 h.0 old h.3 g h.5.tree in
    let rest = subst (λ (o : Option Files). Gives lines gave h.2 after o new h.1) t.1 h.6 in
    let r = files-stand lines gave h.2 after t.0 new h.1 apart.1 rest in
    let k = gives-keeps lines gave h.2 after t.0 new h.1 l.path apart.0 rest in
    let same : k.0 ≡ r.0 = some-same k.0 r.0 (sym k.1 ∙ r.1) in
    let one = subst (λ (o : Option Files). Restoring l.stored l.path before h.2 (Some old) o h.0 (Ok g)) t.1 h.5 in
    (r.0, r.1, (has-if l g before h.2 h.0 old t.0 r.0 one (ap (file_at l.path) (sym same) ∙ k.2), r.2))

-- ---- as the law has it

pub each-stands : (lines : List RestoreLine) (gave : List Gave) (before after : ℕ) (old new : Files) (events : List Event) → AreApart lines → Gives lines gave before after (Some old) (Some new) events → HaveFiles lines gave new
each-stands lines gave before after old new events apart h =
    let r = files-stand lines gave before after old (Some new) events apart h in
    subst (λ (files : Files). HaveFiles lines gave files) (some-same r.0 new (sym r.1)) r.2

pub others-stay : (lines : List RestoreLine) (gave : List Gave) (before after : ℕ) (old new : Files) (events : List Event) (path : List ℕ) → IsNoneOf path lines → Gives lines gave before after (Some old) (Some new) events
    → file_at path new ≡ file_at path old
others-stay lines gave before after old new events path none h =
    let r = gives-keeps lines gave before after old (Some new) events path none h in
    ap (file_at path) (sym (some-same r.0 new (sym r.1))) ∙ r.2
