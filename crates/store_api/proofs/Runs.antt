-- How runs of calls join, what they leave alone, and what stops during them may leave.
use Rattle.std.proofs.Common.{◌≡◌, inl, inr, ℕ, zero, suc, ◌+◌, ◌-◌, ◌≤◌, List, [], ◌∷◌, ◌++◌, length, drop, Option, Some, None, refl, sym, ◌∙◌, ap, subst, arith, append_assoc, length-append}
use Rattle.std.proofs.lemmas.Bool.{cases_lt, ne_eqb, cond-false}
use Rattle.std.proofs.lemmas.List.{drop-append-le}
use Rattle.store_api.specs.Disk.{Leaves, Call, on, idle, History, standing, now, with_call, back, ImageAt}
use Rattle.store_api.specs.Runs.{OnlyOn, with_calls, GoesOn, EachImage, LeftNow}
use Rattle.store_api.specs.Told.{Told}

-- both facts of what is told weaken alike
pub told_map : {A B : Type 0} (x : Option A) (y : Option B) (R Q : A → B → Type 0) → ((a : A) (b : B) → R a b → Q a b) → Told x y R → Told x y Q
told_map None None R Q f t = t
told_map None (Some b) R Q f t = t
told_map (Some a) None R Q f t = t
told_map (Some a) (Some b) R Q f t = f a b t

-- what is told of two calls in a row
pub told_then : {A B C : Type 0} (x : Option A) (y : Option B) (z : Option C) (R : A → B → Type 0) (Q : B → C → Type 0) (P : A → C → Type 0) → ((a : A) (b : B) (c : C) → R a b → Q b c → P a c) → Told x y R → Told y z Q → Told x z P
told_then None None None R Q P f t u = tt
told_then None None (Some c) R Q P f t u = u
told_then None (Some b) z R Q P f t u = absurd t
told_then (Some a) None z R Q P f t u = absurd t
told_then (Some a) (Some b) None R Q P f t u = u
told_then (Some a) (Some b) (Some c) R Q P f t u = f a b c t u

-- dropping as much as was put in front, and more
drop_more_than : {X : Type 0} (more xs : List X) (k : ℕ) → drop (length more + k) (more ++ xs) ≡ drop k xs
drop_more_than [] xs k = ap (λ n. drop n xs) (omega arith)
drop_more_than (m ∷ more) xs k = let e : length (m ∷ more) + k ≡ suc (length more + k) = omega arith in ap (λ n. drop n (m ∷ (more ++ xs))) e ∙ drop_more_than more xs k

-- the history as it is now
pub back_now : (h : History) → back h (now h) ≡ h
back_now h = ap (λ n. let r : History = record { first = h.first; began = h.began; calls = drop n h.calls } in r) (let e : now h - now h ≡ 0 = omega arith in e)

-- calls that are added don't change the history as it was
pub back_calls : (more : List Call) (h : History) (moment : ℕ) → moment ≤ now h → back (with_calls more h) moment ≡ back h moment
back_calls more h moment le =
    ap (λ cs. let r : History = record { first = h.first; began = h.began; calls = cs } in r)
    (ap (λ n. drop n (more ++ h.calls)) (let e : now (with_calls more h) - moment ≡ length more + (now h - moment) = omega (arith, length-append more h.calls) in e) ∙ drop_more_than more h.calls (now h - moment))

-- nor the images of then
pub image_before : (more : List Call) (h : History) (moment : ℕ) (image : ℕ → List ℕ) → moment ≤ now h → ImageAt (with_calls more h) moment image → ImageAt h moment image
image_before more h moment image le here = subst (λ b. (file : ℕ) → Leaves (standing b file) (image file)) (back_calls more h moment le) here

-- what a stop right now may leave is an image of now
pub image_now : (h : History) (image : ℕ → List ℕ) → ((file : ℕ) → Leaves (standing h file) (image file)) → ImageAt h (now h) image
image_now h image each = subst (λ b. (file : ℕ) → Leaves (standing b file) (image file)) (sym (back_now h)) each

pub now_image : (h : History) (image : ℕ → List ℕ) → ImageAt h (now h) image → (file : ℕ) → Leaves (standing h file) (image file)
now_image h image here = subst (λ b. (file : ℕ) → Leaves (standing b file) (image file)) (back_now h) here

-- an image of now, for the files of a layer
pub left_of_image : (mine : ℕ → Type 0) (h : History) (image : ℕ → List ℕ) → ImageAt h (now h) image → LeftNow mine h image
left_of_image mine h image here file is_mine = now_image h image here file

-- calls of which each is on one of these files, in two parts
pub only_append : (mine : ℕ → Type 0) (more calls : List Call) → OnlyOn mine more → OnlyOn mine calls → OnlyOn mine (more ++ calls)
only_append mine [] calls a b = b
only_append mine (idle ∷ more) calls a b = only_append mine more calls a b
only_append mine (on file change ∷ more) calls a b = (a.0, only_append mine more calls a.1 b)

pub only_drop : (mine : ℕ → Type 0) (n : ℕ) (calls : List Call) → OnlyOn mine calls → OnlyOn mine (drop n calls)
only_drop mine zero calls a = a
only_drop mine (suc n) [] a = a
only_drop mine (suc n) (idle ∷ calls) a = only_drop mine n calls a
only_drop mine (suc n) (on file change ∷ calls) a = only_drop mine n calls a.1

pub only_weaker : (mine more : ℕ → Type 0) (calls : List Call) → ((file : ℕ) → mine file → more file) → OnlyOn mine calls → OnlyOn more calls
only_weaker mine more [] f a = a
only_weaker mine more (idle ∷ calls) f a = only_weaker mine more calls f a
only_weaker mine more (on file change ∷ calls) f a = (f file a.0, only_weaker mine more calls f a.1)

-- files that the calls don't name
pub standing_calls : (mine : ℕ → Type 0) (calls : List Call) (h : History) (file : ℕ) → ¬ mine file → OnlyOn mine calls → standing (with_calls calls h) file ≡ standing h file
standing_calls mine [] h file not_mine only = refl
standing_calls mine (idle ∷ calls) h file not_mine only = standing_calls mine calls h file not_mine only
standing_calls mine (on other change ∷ calls) h file not_mine only =
    cond-false _ _ _ (ne_eqb other file (λ e. not_mine (subst mine e only.0))) ∙ standing_calls mine calls h file not_mine only.1

-- no calls are a run
pub goes_none : (mine : ℕ → Type 0) (h : History) → GoesOn mine h h
goes_none mine h = record { calls = []; grew = refl; only = tt }

-- one call is a run
pub goes_idle : (mine : ℕ → Type 0) (h : History) → GoesOn mine h (with_call idle h)
goes_idle mine h = record { calls = idle ∷ []; grew = refl; only = tt }

-- a run, and then a run
pub goes_then : (mine : ℕ → Type 0) (old mid new : History) → GoesOn mine old mid → GoesOn mine mid new → GoesOn mine old new
goes_then mine old mid new a b = record {
  calls = b.calls ++ a.calls;
  grew = b.grew ∙ ap (with_calls b.calls) a.grew ∙ ap (λ cs. let r : History = record { first = old.first; began = old.began; calls = cs } in r) (sym (append_assoc b.calls a.calls old.calls));
  only = only_append mine b.calls a.calls b.only a.only;
}

-- a run on these files is a run on more
pub goes_weaker : (mine more : ℕ → Type 0) (old new : History) → ((file : ℕ) → mine file → more file) → GoesOn mine old new → GoesOn more old new
goes_weaker mine more old new f a = record { calls = a.calls; grew = a.grew; only = only_weaker mine more a.calls f a.only }

-- the moments don't fall
pub goes_later : (mine : ℕ → Type 0) (old new : History) → GoesOn mine old new → now old ≤ now new
goes_later mine old new a = subst (λ n. now old ≤ now n) (sym a.grew) (omega (arith, length-append a.calls old.calls))

-- files that a run doesn't name keep their standing
pub goes_standing : (mine : ℕ → Type 0) (old new : History) (file : ℕ) → ¬ mine file → GoesOn mine old new → standing new file ≡ standing old file
goes_standing mine old new file not_mine a = subst (λ n. standing n file ≡ standing old file) (sym a.grew) (standing_calls mine a.calls old file not_mine a.only)

-- images of the moments up to the start of a run are what they were
pub goes_image_before : (mine : ℕ → Type 0) (old new : History) (moment : ℕ) (image : ℕ → List ℕ) → GoesOn mine old new → moment ≤ now old → ImageAt new moment image → ImageAt old moment image
goes_image_before mine old new moment image a le here = image_before a.calls old moment image le (subst (λ n. ImageAt n moment image) a.grew here)

-- the first part of a run, up to a moment
pub goes_back : (mine : ℕ → Type 0) (old new : History) (moment : ℕ) → GoesOn mine old new → now old ≤ moment → moment ≤ now new → GoesOn mine old (back new moment)
goes_back mine old new moment a from to = record {
  calls = drop (now new - moment) a.calls;
  grew = subst (λ n. moment ≤ now n → back n moment ≡ with_calls (drop (now n - moment) a.calls) old) (sym a.grew) cut to;
  only = only_drop mine (now new - moment) a.calls a.only;
}
  where
    cut : moment ≤ now (with_calls a.calls old) → back (with_calls a.calls old) moment ≡ with_calls (drop (now (with_calls a.calls old) - moment) a.calls) old
    cut le = ap (λ cs. let r : History = record { first = old.first; began = old.began; calls = cs } in r) (drop-append-le (now (with_calls a.calls old) - moment) a.calls old.calls (omega (arith, length-append a.calls old.calls)))

-- each image since the start of a run has what a stop might leave then, of the files that the run doesn't name
pub goes_images : (mine : ℕ → Type 0) (old new : History) (file : ℕ) → ¬ mine file → GoesOn mine old new → EachImage (now old) new (λ image. Leaves (standing old file) (image file))
goes_images mine old new file not_mine a moment image from to here =
    subst (λ s. Leaves s (image file)) (goes_standing mine old (back new moment) file not_mine (goes_back mine old new moment a from to)) (here file)

-- what holds of each image of two runs holds of each image of both
pub each_then : (mine : ℕ → Type 0) (old mid new : History) (P : (ℕ → List ℕ) → Type 0) → GoesOn mine mid new → EachImage (now old) mid P → EachImage (now mid) new P → EachImage (now old) new P
each_then mine old mid new P b before after moment image from to here = elim (cases_lt moment (now mid)) [
  | inl early ↦ before moment image from (omega arith) (goes_image_before mine mid new moment image b (omega arith) here)
  | inr late ↦ after moment image late to here
]

pub each_weaker : (since : ℕ) (h : History) (P Q : (ℕ → List ℕ) → Type 0) → ((image : ℕ → List ℕ) → P image → Q image) → EachImage since h P → EachImage since h Q
each_weaker since h P Q f each moment image from to here = f image (each moment image from to here)

-- each image of one call is one of before it or one of after it
pub each_call : (call : Call) (h : History) (P : (ℕ → List ℕ) → Type 0) → ((image : ℕ → List ℕ) → ((file : ℕ) → Leaves (standing h file) (image file)) → P image)
    → ((image : ℕ → List ℕ) → ((file : ℕ) → Leaves (standing (with_call call h) file) (image file)) → P image) → EachImage (now h) (with_call call h) P
each_call call h P before after moment image from to here = elim (cases_lt (now h) moment) [
  | inl late ↦ after image (now_image (with_call call h) image (subst (λ m. ImageAt (with_call call h) m image) (let e : moment ≡ now (with_call call h) = omega arith in e) here))
  | inr early ↦ before image (now_image h image (subst (λ m. ImageAt h m image) (let e : moment ≡ now h = omega arith in e) (image_before (call ∷ []) h moment image early here)))
]

-- and the other way
pub goes_image_after : (mine : ℕ → Type 0) (old new : History) (moment : ℕ) (image : ℕ → List ℕ) → GoesOn mine old new → moment ≤ now old → ImageAt old moment image → ImageAt new moment image
goes_image_after mine old new moment image a le here =
    subst (λ n. ImageAt n moment image) (sym a.grew) (subst (λ b. (file : ℕ) → Leaves (standing b file) (image file)) (sym (back_calls a.calls old moment le)) here)
