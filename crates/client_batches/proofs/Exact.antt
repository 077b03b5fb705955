-- The transactions have exactly the lines that are committed.
use Rattle.std.proofs.Common.{◌≡◌, inl, inr, ℕ, suc, Bool, true, false, true≢false, List, [], ◌∷◌, ◌++◌, length, map, take, drop, if◌then◌else◌, Option, None, Some, is_some, Result, Ok, Err, refl, sym, ap, ◌∙◌, append-nil, append_assoc, arith}
use Rattle.std.proofs.lemmas.Grind.{flat_map-append}
use Rattle.std.proofs.lemmas.List.{length-map}
use Rattle.std.specs.List.{flat_map}
use Rattle.kinds.specs.declared.refusal.Refusal.{Refusal}
use Rattle.kinds.specs.declared.refusal.Refusal.TheVariants as refused
use Rattle.client_files.specs.Sending.{stopping}
use Rattle.steps.specs.declared.asked.Asked.{Asked}
use Rattle.steps.specs.Calls.{Made, Then}
use Rattle.steps.specs.Events.{Deed, Event}
use Rattle.steps.specs.Events.Deed.{OpenNew, OpenCopy, WritePiece, CopyPiece, Seal, Commit, DropTicket, ReadPiece, Ask, Image, Reuse, Force}
use Rattle.client_batches.specs.Commits.{Alone, Commits, Singles, Tries, is_in_the_way, outcome, taken_out}
use Rattle.client_batches.specs.Items.{items_in, kept, made_by}
use Rattle.client_batches.specs.Tickets.{is_lasting}
use Rattle.client_batches.proofs.Quiet.{gives_quiet}
use Rattle.client_batches.specs.Quiet.{AreQuiet, IsQuiet}

-- ---- items

pub items_behind : {X : Type 0} (items : Asked → List X) (xs ys : List Event) → items_in items (xs ++ ys) ≡ items_in items xs ++ items_in items ys
items_behind items xs ys = flat_map-append (λ e. made_by items e.deed) xs ys

quiet_none : {X : Type 0} (items : Asked → List X) (d : Deed) → IsQuiet d → made_by items d ≡ []
quiet_none items (OpenNew pool size prefer answer) h = refl
quiet_none items (OpenCopy object aim avoid answer) h = refl
quiet_none items (WritePiece ticket bytes answer) h = refl
quiet_none items (CopyPiece ticket answer) h = refl
quiet_none items (Seal ticket answer) h = refl
quiet_none items (Commit asked tickets answer) h = absurd h
quiet_none items (DropTicket ticket answer) h = refl
quiet_none items (ReadPiece object kept from offset wanted answer) h = refl
quiet_none items (Ask query answer) h = refl
quiet_none items (Image kind answer) h = refl
quiet_none items (Reuse file answer) h = refl
quiet_none items (Force answer) h = refl

pub quiet_items : {X : Type 0} (items : Asked → List X) (events : List Event) → AreQuiet events → items_in items events ≡ []
quiet_items items [] h = refl
quiet_items {X} items (e ∷ events) h = ap (λ (xs : List X). xs ++ items_in items events) (quiet_none items e.deed h.0) ∙ quiet_items items events h.1

-- first these, and then those
pub then_items : {X : Type 0} (items : Asked → List X) (Q R : List Event → Type 0) (first next : List X) (events : List Event) → Then Q R events → ((xs : List Event) → Q xs → items_in items xs ≡ first) → ((ys : List Event) → R ys → items_in items ys ≡ next)
    → items_in items events ≡ first ++ next
then_items {X} items Q R first next events h q r =
    ap (items_in items) h.2 ∙ items_behind items h.0 h.1 ∙ ap (λ (zs : List X). zs ++ items_in items h.1) (q h.0 h.3) ∙ ap (λ (zs : List X). first ++ zs) (r h.1 h.4)

pub none_items : {X : Type 0} (items : Asked → List X) (events : List Event) → events ≡ [] → items_in items events ≡ []
none_items items events none = ap (items_in items) none

-- ---- transactions

-- what a transaction's items come to by how it ended
abbrev gained : {X : Type 0} → Result (Option Refusal) Refusal → List X → List X
gained (Ok None) xs = xs
gained (Ok (Some e)) xs = []
gained (Err e) xs = []

none_some : (e : Refusal) → None ≡ Some e → ⊥
none_some e h = true≢false (sym (ap is_some h))

made_items : {X : Type 0} (items : Asked → List X) (asked : Asked) (tickets : List ℕ) (number : ℕ) (events : List Event) → Made (Commit asked tickets (Ok number)) events → items_in items events ≡ items asked
made_items items asked tickets number events (inl h) = ap (items_in items) h.1 ∙ append-nil (items asked)
made_items items asked tickets number events (inr h) = absurd (none_some refused.Memory h.0)

unmade_items : {X : Type 0} (items : Asked → List X) (asked : Asked) (tickets : List ℕ) (e : Refusal) (events : List Event) → Made (Commit asked tickets (Err e)) events → items_in items events ≡ []
unmade_items items asked tickets e events (inl h) = ap (items_in items) h.1
unmade_items items asked tickets e events (inr h) = none_items items events h.1

refused_none : {X : Type 0} (e : Refusal) (b : Bool) (xs : List X) → gained (if b then Ok (Some e) else Err (stopping e)) xs ≡ []
refused_none e true xs = refl
refused_none e false xs = refl

taken_none : {X : Type 0} (e : Refusal) (b : Bool) (xs : List X) → gained (if b then Err e else Ok (Some e)) xs ≡ []
taken_none e true xs = refl
taken_none e false xs = refl

answered_items : {X : Type 0} (items : Asked → List X) (asked : Asked) (tickets : List ℕ) (answer : Result ℕ Refusal) (events : List Event) → Made (Commit asked tickets answer) events
    → items_in items events ≡ gained (outcome answer) (items asked)
answered_items items asked tickets (Ok number) events h = made_items items asked tickets number events h
answered_items items asked tickets (Err e) events h = unmade_items items asked tickets e events h ∙ sym (refused_none e (is_in_the_way e) (items asked))

tries_items : {X : Type 0} (items : Asked → List X) (asked : Asked) (tickets : List ℕ) (events : List Event) (result : Result (Option Refusal) Refusal) → Tries asked tickets events result
    → items_in items events ≡ gained result (items asked)
tries_items items asked tickets events result (inl h) = none_items items events h.0 ∙ ap (λ (r : Result (Option Refusal) Refusal). gained r (items asked)) (sym h.1)
tries_items items asked tickets events result (inr h) = answered_items items asked tickets h.0 events h.1 ∙ ap (λ (r : Result (Option Refusal) Refusal). gained r (items asked)) (sym h.2)

given_none : {X : Type 0} (items : Asked → List X) (asked : Asked) (e why : Refusal) (result : Result (Option Refusal) Refusal) → result ≡ taken_out why → gained (Ok (Some e)) (items asked) ++ [] ≡ gained result (items asked)
given_none items asked e why result is = sym (ap (λ (r : Result (Option Refusal) Refusal). gained r (items asked)) is ∙ taken_none why (is_lasting why) (items asked))

alone_items : {X : Type 0} (items : Asked → List X) (asked : Asked) (ticket : List ℕ) (events : List Event) (result : Result (Option Refusal) Refusal) → Alone asked ticket events result
    → items_in items events ≡ gained result (items asked)
alone_items items asked ticket events result (inl h) = tries_items items asked ticket events (Ok None) h.0 ∙ ap (λ (r : Result (Option Refusal) Refusal). gained r (items asked)) (sym h.1)
alone_items items asked ticket events result (inr (inl h)) = tries_items items asked ticket events (Err h.0) h.1 ∙ ap (λ (r : Result (Option Refusal) Refusal). gained r (items asked)) (sym h.2)
alone_items items asked ticket events result (inr (inr h)) =
    then_items items _ _ (gained (Ok (Some h.0)) (items asked)) [] events h.2 (λ xs t. tries_items items asked ticket xs (Ok (Some h.0)) t) (λ ys g. quiet_items items ys (gives_quiet ticket h.0 ys h.1 g))
    ∙ given_none items asked h.0 h.1 result h.3

-- ---- lines

kept_none : {L X : Type 0} (give : L → List X) (lines : List L) → kept give lines (map (λ l. None) lines) ≡ flat_map give lines
kept_none give [] = refl
kept_none {L} {X} give (l ∷ lines) = ap (λ (zs : List X). give l ++ zs) (kept_none give lines)

-- a line that gives nothing
abbrev pub nothing : {L X : Type 0} → L → List X
nothing l = []

pub kept_nothing : {L X : Type 0} (lines : List L) (outs : List (Option Refusal)) → kept (nothing {L = L} {X = X}) lines outs ≡ []
kept_nothing [] outs = refl
kept_nothing (l ∷ lines) [] = refl
kept_nothing (l ∷ lines) (None ∷ outs) = kept_nothing lines outs
kept_nothing (l ∷ lines) (Some e ∷ outs) = kept_nothing lines outs

pub kept_behind : {L X : Type 0} (give : L → List X) (front back : List L) (first next : List (Option Refusal)) → length first ≡ length front → kept give (front ++ back) (first ++ next) ≡ kept give front first ++ kept give back next
kept_behind give [] back [] next long = refl
kept_behind give [] back (o ∷ first) next long = absurd (omega (arith, long))
kept_behind give (l ∷ front) back [] next long = absurd (omega (arith, long))
kept_behind {L} {X} give (l ∷ front) back (None ∷ first) next long =
    ap (λ (zs : List X). give l ++ zs) (kept_behind give front back first next (omega (arith, long))) ∙ sym (append_assoc (give l) (kept give front first) (kept give back next))
kept_behind give (l ∷ front) back (Some e ∷ first) next long = kept_behind give front back first next (omega (arith, long))

-- the next line, by how its own transaction ended
one_kept : {L X : Type 0} (give : L → List X) (l : L) (lines : List L) (out : Option Refusal) (outs : List (Option Refusal)) → gained (Ok out) (flat_map give (l ∷ [])) ++ kept give lines outs ≡ kept give (l ∷ lines) (out ∷ outs)
one_kept {L} {X} give l lines None outs = ap (λ (zs : List X). zs ++ kept give lines outs) (append-nil (give l))
one_kept give l lines (Some e) outs = refl

singles_items : {L X : Type 0} (items : Asked → List X) (asking : List L → Asked) (give : L → List X) → ((lines : List L) → items (asking lines) ≡ flat_map give lines)
    → (lines : List L) (tickets : List ℕ) (outs : List (Option Refusal)) (events : List Event) → Singles asking lines tickets outs events → items_in items events ≡ kept give lines outs
singles_items items asking give reads [] tickets [] events h = none_items items events h
singles_items items asking give reads [] tickets (o ∷ outs) events h = absurd h
singles_items items asking give reads (l ∷ lines) tickets [] events h = absurd h
singles_items {L} {X} items asking give reads (l ∷ lines) tickets (o ∷ outs) events h =
    then_items items _ _ (gained (Ok o) (items (asking (l ∷ [])))) (kept give lines outs) events h (λ xs a. alone_items items (asking (l ∷ [])) (take 1 tickets) xs (Ok o) a) (λ ys s. singles_items items asking give reads lines (drop 1 tickets) outs ys s)
    ∙ ap (λ (zs : List X). gained (Ok o) zs ++ kept give lines outs) (reads (l ∷ [])) ∙ one_kept give l lines o outs

singles_long : {L : Type 0} (asking : List L → Asked) (lines : List L) (tickets : List ℕ) (outs : List (Option Refusal)) (events : List Event) → Singles asking lines tickets outs events → length outs ≡ length lines
singles_long asking [] tickets [] events h = refl
singles_long asking [] tickets (o ∷ outs) events h = absurd h
singles_long asking (l ∷ lines) tickets [] events h = absurd h
singles_long asking (l ∷ lines) tickets (o ∷ outs) events h = ap suc (singles_long asking lines (drop 1 tickets) outs h.1 h.4)

-- ---- lists

abbrev is_ok_of : {A B : Type 0} → Result A B → Bool
is_ok_of (Ok x) = true
is_ok_of (Err e) = false

pub ok_err : {A B : Type 0} (x : A) (e : B) → ◌≡◌ {A = Result A B} (Ok x) (Err e) → ⊥
ok_err {A} {B} x e h = true≢false (ap (λ (r : Result A B). is_ok_of r) h)

all_gained : {L X : Type 0} (items : Asked → List X) (asking : List L → Asked) (give : L → List X) → ((lines : List L) → items (asking lines) ≡ flat_map give lines)
    → (lines : List L) (outs : List (Option Refusal)) → outs ≡ map (λ l. None) lines → gained (Ok None) (items (asking lines)) ≡ kept give lines outs
all_gained items asking give reads lines outs is = reads lines ∙ sym (kept_none give lines) ∙ ap (λ (os : List (Option Refusal)). kept give lines os) (sym is)

some_gained : {X : Type 0} (items : Asked → List X) (asked : Asked) (tickets : List ℕ) (events : List Event) (why : Refusal) → Tries asked tickets events (Ok (Some why)) → items_in items events ≡ []
some_gained items asked tickets events why h = tries_items items asked tickets events (Ok (Some why)) h

pub commits_items : {L X : Type 0} (items : Asked → List X) (asking : List L → Asked) (give : L → List X) → ((lines : List L) → items (asking lines) ≡ flat_map give lines)
    → (lines : List L) (tickets : List ℕ) (outs : List (Option Refusal)) (events : List Event) → Commits asking lines tickets events (Ok outs) → items_in items events ≡ kept give lines outs
commits_items {L} items asking give reads lines tickets outs events (inl h) =
    tries_items items (asking lines) tickets events (Ok None) h.0 ∙ all_gained items asking give reads lines outs h.1
commits_items items asking give reads lines tickets outs events (inr (inl h)) = absurd (ok_err outs h.0 h.2)
commits_items items asking give reads lines tickets outs events (inr (inr h)) =
    then_items items _ _ [] (kept give lines outs) events h.1 (λ xs t. some_gained items (asking lines) tickets xs h.0 t) (λ ys s. singles_items items asking give reads lines tickets outs ys s)

pub commits_long : {L : Type 0} (asking : List L → Asked) (lines : List L) (tickets : List ℕ) (outs : List (Option Refusal)) (events : List Event) → Commits asking lines tickets events (Ok outs) → length outs ≡ length lines
commits_long asking lines tickets outs events (inl h) = ap length h.1 ∙ length-map lines (λ l. None)
commits_long asking lines tickets outs events (inr (inl h)) = absurd (ok_err outs h.0 h.2)
commits_long asking lines tickets outs events (inr (inr h)) = singles_long asking lines tickets outs h.1.1 h.1.4
