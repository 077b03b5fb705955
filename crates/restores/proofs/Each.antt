-- Objects are restored one after the other.
use Rattle.std.proofs.Common.{◌≡◌, inl, inr, ℕ, ◌+◌, ◌<◌, List, [], ◌∷◌, ◌++◌, length, take, drop, get_or, Option, Ok, Err, refl, sym, ap, subst, ◌∙◌, append-nil, append_assoc, arith}
use Rattle.std.proofs.lemmas.List.{take-append-drop, take_all, take_more}
use Rattle.kinds.specs.declared.refusal.Refusal.{Refusal}
use Rattle.kinds.specs.declared.refusal.Refusal.TheVariants.{Memory}
use Rattle.client_files.specs.declared.outcome.Gave.{Gave}
use Rattle.client_files.specs.Restoring.{Restoring}
use Rattle.client_trees.specs.Files.{Files}
use Rattle.steps.proofs.Joining.{GoesOn, call_of_none, call_then, so_call}
use Rattle.steps.specs.Calls.{Call}
use Rattle.steps.specs.Events.{Event}
use Rattle.restores.specs.Given.{Gives, GivesEach}
use Rattle.restores.specs.declared.choosing.RestoreLine.{RestoreLine}

-- ---- one more

gives_one : (l : RestoreLine) (g : Gave) (first before after : ℕ) (old between new : Option Files) (xs ys : List Event) → xs ≡ [] → before ≡ first → between ≡ old
    → Restoring l.stored l.path before after between new ys (Ok g) → Gives (l ∷ []) (g ∷ []) first after old new (xs ++ ys)
gives_one l g first before after old between new xs ys none same tree h = (
  ys,
  [],
  after,
  new,
  ap (λ (zs : List Event). zs ++ ys) none ∙ sym (append-nil ys),
  subst (λ (n : ℕ). Restoring l.stored l.path n after old new ys (Ok g)) same (subst (λ (o : Option Files). Restoring l.stored l.path before after o new ys (Ok g)) tree h),
  (refl, refl, refl),
)

gives_more : (front : List RestoreLine) (gave : List Gave) (l : RestoreLine) (g : Gave) (first before after : ℕ) (old between new : Option Files) (xs ys : List Event) → Gives front gave first before old between xs
    → Restoring l.stored l.path before after between new ys (Ok g) → Gives (front ++ l ∷ []) (gave ++ g ∷ []) first after old new (xs ++ ys)
gives_more [] [] l g first before after old between new xs ys a h = gives_one l g first before after old between new xs ys a.0 a.1 a.2 h
gives_more [] (other ∷ gave) l g first before after old between new xs ys a h = elim a [ ]
gives_more (other ∷ front) [] l g first before after old between new xs ys a h = elim a [ ]
gives_more (other ∷ front) (its ∷ gave) l g first before after old between new xs ys a h = (
  a.0,
  a.1 ++ ys,
  a.2,
  a.3,
  ap (λ (zs : List Event). zs ++ ys) a.4 ∙ append_assoc a.0 a.1 ys,
  a.5,
  gives_more front gave l g a.2 before after a.3 between new a.1 ys a.6 h,
)

taken_more : (lines : List RestoreLine) (place : ℕ) (x : RestoreLine) → place < length lines → x ≡ get_or lines place x → take (place + 1) lines ≡ take place lines ++ x ∷ []
taken_more lines place x l is = take_more lines place x l ∙ ap (λ (y : RestoreLine). take place lines ++ y ∷ []) (sym is)

parted : (lines : List RestoreLine) (place : ℕ) (x : RestoreLine) → place < length lines → x ≡ get_or lines place x → lines ≡ take place lines ++ x ∷ drop (place + 1) lines
parted lines place x l is =
    sym (take-append-drop (place + 1) lines) ∙ ap (λ (ls : List RestoreLine). ls ++ drop (place + 1) lines) (taken_more lines place x l is) ∙ append_assoc (take place lines) (x ∷ []) (drop (place + 1) lines)

-- ---- the calls

pub gives-none : {S : Type 0} (did : S → List Event → S → Type 0) (p : S) (count : ℕ) (told : Option Files) → did p [] p → Call did p p (λ events. Gives [] [] count count told told events)
gives-none did p count told stays = call_of_none did (λ events. Gives [] [] count count told told events) p p stays (refl, refl, refl)

pub gives-next : {S : Type 0} (did : S → List Event → S → Type 0) → GoesOn did → (p q r : S) (lines : List RestoreLine) (place : ℕ) (x : RestoreLine) (gave : List Gave) (g : Gave) (first before after : ℕ) (old between new : Option Files)
    → place < length lines → x ≡ get_or lines place x → Call did p q (λ events. Gives (take place lines) gave first before old between events)
    → Call did q r (λ events. Restoring x.stored x.path before after between new events (Ok g)) → Call did p r (λ events. Gives (take (place + 1) lines) (gave ++ g ∷ []) first after old new events)
gives-next did goes p q r lines place x gave g first before after old between new within is a b =
    call_then did goes (λ events. Gives (take place lines) gave first before old between events) (λ events. Restoring x.stored x.path before after between new events (Ok g))
    (λ events. Gives (take (place + 1) lines) (gave ++ g ∷ []) first after old new events) p q r a b
    (λ xs ys f h. subst (λ (ls : List RestoreLine). Gives ls (gave ++ g ∷ []) first after old new (xs ++ ys)) (sym (taken_more lines place x within is))
    (gives_more (take place lines) gave x g first before after old between new xs ys f h))

pub gives-stopped : {S : Type 0} (did : S → List Event → S → Type 0) → GoesOn did → (p q r : S) (lines : List RestoreLine) (place : ℕ) (x : RestoreLine) (gave : List Gave) (e : Refusal) (first before after : ℕ) (old between new : Option Files)
    → place < length lines → x ≡ get_or lines place x → Call did p q (λ events. Gives (take place lines) gave first before old between events)
    → Call did q r (λ events. Restoring x.stored x.path before after between new events (Err e)) → Call did p r (λ events. GivesEach lines first after old new events (Err e))
gives-stopped did goes p q r lines place x gave e first before after old between new within is a b =
    call_then did goes (λ events. Gives (take place lines) gave first before old between events) (λ events. Restoring x.stored x.path before after between new events (Err e))
    (λ events. GivesEach lines first after old new events (Err e)) p q r a b
    (λ xs ys f h. record {
      front = take place lines;
      back = x ∷ drop (place + 1) lines;
      gave = gave;
      count = before;
      between = between;
      xs = xs;
      ys = ys;
      lined = parted lines place x within is;
      made = refl;
      gives = f;
      ends = inr h;
    })

pub gives-wanting : {S : Type 0} (did : S → List Event → S → Type 0) → GoesOn did → (p q r : S) (lines : List RestoreLine) (place : ℕ) (x : RestoreLine) (gave : List Gave) (g : Gave) (first before after : ℕ) (old between new : Option Files)
    → place < length lines → x ≡ get_or lines place x → Call did p q (λ events. Gives (take place lines) gave first before old between events)
    → Call did q r (λ events. Restoring x.stored x.path before after between new events (Ok g)) → Call did p r (λ events. GivesEach lines first after old new events (Err Memory))
gives-wanting did goes p q r lines place x gave g first before after old between new within is a b =
    so_call did (λ events. Gives (take (place + 1) lines) (gave ++ g ∷ []) first after old new events) (λ events. GivesEach lines first after old new events (Err Memory)) p r
    (gives-next did goes p q r lines place x gave g first before after old between new within is a b)
    (λ xs f. record {
      front = take (place + 1) lines;
      back = drop (place + 1) lines;
      gave = gave ++ g ∷ [];
      count = after;
      between = new;
      xs = xs;
      ys = [];
      lined = sym (take-append-drop (place + 1) lines);
      made = sym (append-nil xs);
      gives = f;
      ends = inl (refl, refl, refl, refl);
    })

pub gives-all : {S : Type 0} (did : S → List Event → S → Type 0) (p q : S) (lines : List RestoreLine) (gave : List Gave) (before after : ℕ) (old new : Option Files)
    → Call did p q (λ events. Gives (take (length lines) lines) gave before after old new events) → Call did p q (λ events. GivesEach lines before after old new events (Ok gave))
gives-all did p q lines gave before after old new a =
    so_call did (λ events. Gives (take (length lines) lines) gave before after old new events) (λ events. GivesEach lines before after old new events (Ok gave)) p q a
    (λ xs f. subst (λ (ls : List RestoreLine). Gives ls gave before after old new xs) (take_all (length lines) lines (omega arith)) f)
