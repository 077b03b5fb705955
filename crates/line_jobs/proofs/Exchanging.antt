-- Trees that are exchanged, place by place.
use Rattle.std.proofs.Common.{◌≡◌, ◌⊎◌, ⊎_elim, inl, inr, ℕ, zero, suc, min, ◌+◌, ◌<◌, ◌≤◌, Bool, true, false, if◌then◌else◌, List, [], ◌∷◌, ◌++◌, map, length, get_or, slice_set, refl, sym, ap, ◌∙◌, arith}
use Rattle.std.specs.Prelude.{replicate}
use Rattle.blocks.specs.Shapes.{Placed}
use Rattle.line_jobs.specs.Rooms.{taken_in}
use Rattle.line_jobs.specs.Shares.{exchanged, given_back, has, kept, taken}

module _ {X : Type 0} where
  -- the first so many of the one list, and behind them the other's
  abbrev pub front : ℕ → List X → List X → List X
  front zero done rest = rest
  front (suc n) [] rest = rest
  front (suc n) (d ∷ done) [] = []
  front (suc n) (d ∷ done) (r ∷ rest) = d ∷ front n done rest

  front_step : (n : ℕ) (done rest : List X) (x d : X) → n < length done → n < length rest → x ≡ get_or done n d → slice_set (front n done rest) n x ≡ front (suc n) done rest
  front_step n [] rest x d l m is = absurd (omega (arith, l))
  front_step n (y ∷ done) [] x d l m is = absurd (omega (arith, m))
  front_step zero (y ∷ done) (r ∷ rest) x d l m is = ap (λ (v : X). v ∷ rest) is
  front_step (suc n) (y ∷ done) (r ∷ rest) x d l m is = ap (λ (list : List X). y ∷ list) (front_step n done rest x d (omega (arith, l)) (omega (arith, m)) is)

  front_rest : (n : ℕ) (done rest : List X) (d : X) → get_or (front n done rest) n d ≡ get_or rest n d
  front_rest zero done rest d = refl
  front_rest (suc n) [] rest d = refl
  front_rest (suc n) (y ∷ done) [] d = refl
  front_rest (suc n) (y ∷ done) (r ∷ rest) d = front_rest n done rest d

  front_same : (n : ℕ) (list : List X) → front n list list ≡ list
  front_same zero list = refl
  front_same (suc n) [] = refl
  front_same (suc n) (x ∷ list) = ap (λ (l : List X). x ∷ l) (front_same n list)

module _ {X : Type 0} (all : List Placed) (job : ℕ) where
  pub exchanged_length : (k : ℕ) (own other : List X) → length (exchanged all job k own other) ≡ length own
  exchanged_length k [] other = refl
  exchanged_length k (x ∷ own) [] = refl
  exchanged_length k (x ∷ own) (y ∷ other) = ap suc (exchanged_length (k + 1) own other)

  exchanged_at : (k n : ℕ) (own other : List X) (d : X) → n < length own → n < length other → get_or (exchanged all job k own other) n d ≡ (if has all job (k + n) then get_or other n d else get_or own n d)
  exchanged_at k n [] other d l m = absurd (omega (arith, l))
  exchanged_at k n (x ∷ own) [] d l m = absurd (omega (arith, m))
  exchanged_at k zero (x ∷ own) (y ∷ other) d l m = ap (λ (i : ℕ). if has all job i then y else x) (let same : k ≡ k + 0 = omega arith in same)
  exchanged_at k (suc n) (x ∷ own) (y ∷ other) d l m =
      exchanged_at (k + 1) n own other d (omega (arith, l)) (omega (arith, m)) ∙ ap (λ (i : ℕ). if has all job i then get_or other n d else get_or own n d) (let same : (k + 1) + n ≡ k + suc n = omega arith in same)

  front_all : (k n : ℕ) (own other : List X) → (length own ≤ n) ⊎ (length other ≤ n) → front n (exchanged all job k own other) own ≡ exchanged all job k own other
  front_all k zero [] other h = refl
  front_all k (suc n) [] other h = refl
  front_all k n (x ∷ own) [] h = front_same n (x ∷ own)
  front_all k zero (x ∷ own) (y ∷ other) (inl h) = absurd (omega (arith, h))
  front_all k zero (x ∷ own) (y ∷ other) (inr h) = absurd (omega (arith, h))
  front_all k (suc n) (x ∷ own) (y ∷ other) (inl h) = ap (λ (l : List X). (if has all job k then y else x) ∷ l) (front_all (k + 1) n own other (inl (omega (arith, h))))
  front_all k (suc n) (x ∷ own) (y ∷ other) (inr h) = ap (λ (l : List X). (if has all job k then y else x) ∷ l) (front_all (k + 1) n own other (inr (omega (arith, h))))

  -- so far: the places in front have what the others had
  abbrev pub So : (n : ℕ) → (own other now : List X) → Type 0
  So n own other now = now ≡ front n (exchanged all job 0 own other) own

  any_default : (n : ℕ) (list : List X) (d e : X) → n < length list → get_or list n d ≡ get_or list n e
  any_default n [] d e l = absurd (omega (arith, l))
  any_default zero (x ∷ list) d e l = refl
  any_default (suc n) (x ∷ list) d e l = any_default n list d e (omega (arith, l))

  -- one place more
  pub one_more : (n : ℕ) (own other now_own now_other : List X) (x a b : X) → n < length own → n < length other → So n own other now_own → So n other own now_other → a ≡ get_or now_own n a → b ≡ get_or now_other n b
      → x ≡ (if has all job n then b else a) → So (n + 1) own other (slice_set now_own n x)
  one_more n own other now_own now_other x a b l m is also first second new =
      let here : a ≡ get_or own n a = first ∙ ap (λ (list : List X). get_or list n a) is ∙ front_rest n (exchanged all job 0 own other) own a in
      let there : b ≡ get_or other n a = second ∙ ap (λ (list : List X). get_or list n b) also ∙ front_rest n (exchanged all job 0 other own) other b ∙ any_default n other b a m in
      let value : x ≡ get_or (exchanged all job 0 own other) n a =
      new ∙ ap (λ (v : X). if has all job n then v else a) there ∙ ap (λ (v : X). if has all job n then get_or other n a else v) here
      ∙ ap (λ (i : ℕ). if has all job i then get_or other n a else get_or own n a) (let same : n ≡ 0 + n = omega arith in same) ∙ sym (exchanged_at 0 n own other a l m) in
      let long : length (exchanged all job 0 own other) ≡ length own = exchanged_length 0 own other in
      ap (λ (list : List X). slice_set list n x) is ∙ front_step n (exchanged all job 0 own other) own x a (omega (arith, long, l)) l value
      ∙ ap (λ (i : ℕ). front i (exchanged all job 0 own other) own) (let same : suc n ≡ n + 1 = omega arith in same)

  -- all places
  pub at_end : (n : ℕ) (own other now : List X) → (length own ≤ n) ⊎ (length other ≤ n) → So n own other now → now ≡ exchanged all job 0 own other
  at_end n own other now h is = is ∙ front_all 0 n own other h

-- the less of two lengths is within what both or one are
pub one_within : (a b m : ℕ) → min a b ≤ m → (a ≤ m) ⊎ (b ≤ m)
one_within a b m l = ⊎_elim (λ (h : a ≤ m). inl h) (λ (h : m < a). inr (omega (arith, l, h))) (either a m)
  where
    either : (a m : ℕ) → (a ≤ m) ⊎ (m < a)
    either zero m = inl (omega arith)
    either (suc a) zero = inr (omega arith)
    either (suc a) (suc m) = ⊎_elim (λ (h : a ≤ m). inl (omega (arith, h))) (λ (h : m < a). inr (omega (arith, h))) (either a m)

pub set_length : {X : Type 0} (list : List X) (n : ℕ) (x : X) → length (slice_set list n x) ≡ length list
set_length [] n x = refl
set_length (y ∷ list) zero x = refl
set_length (y ∷ list) (suc n) x = ap suc (set_length list n x)

-- ---- several jobs

-- so many empty places for each of so many jobs
module _ {X : Type 0} (absent : X) (many : ℕ) (all : List Placed) where
  pub taken_rooms : (n job : ℕ) (trees : List X) → taken_in all job (replicate n (replicate many absent)) trees ≡ taken absent many all n job trees
  taken_rooms zero job trees = refl
  taken_rooms (suc n) job trees = ap (λ (l : List (List X)). exchanged all job 0 (replicate many absent) trees ∷ l) (taken_rooms n (job + 1) (exchanged all job 0 trees (replicate many absent)))

  pub kept_rooms : (n job : ℕ) (trees : List X) → given_back all job (replicate n (replicate many absent)) trees ≡ kept absent many all n job trees
  kept_rooms zero job trees = refl
  kept_rooms (suc n) job trees = kept_rooms n (job + 1) (exchanged all job 0 trees (replicate many absent))

  pub taken_length : (n job : ℕ) (trees : List X) → length (taken absent many all n job trees) ≡ n
  taken_length zero job trees = refl
  taken_length (suc n) job trees = ap suc (taken_length n (job + 1) (exchanged all job 0 trees (replicate many absent)))

pub taken_more : {X : Type 0} (all : List Placed) (job : ℕ) (rooms : List (List X)) (own trees : List X) → taken_in all job (rooms ++ own ∷ []) trees
    ≡ taken_in all job rooms trees ++ exchanged all (job + length rooms) 0 own (given_back all job rooms trees) ∷ []
taken_more {X} all job [] own trees = ap (λ (j : ℕ). exchanged all j 0 own trees ∷ []) (let same : job ≡ job + 0 = omega arith in same)
taken_more {X} all job (first ∷ rooms) own trees =
    ap (λ (l : List (List X)). exchanged all job 0 first trees ∷ l)
    (taken_more all (job + 1) rooms own (exchanged all job 0 trees first)
    ∙ ap (λ (j : ℕ). taken_in all (job + 1) rooms (exchanged all job 0 trees first) ++ exchanged all j 0 own (given_back all (job + 1) rooms (exchanged all job 0 trees first)) ∷ [])
    (let same : (job + 1) + length rooms ≡ job + suc (length rooms) = omega arith in same))

pub taken_in_length : {X : Type 0} (all : List Placed) (job : ℕ) (rooms : List (List X)) (trees : List X) → length (taken_in all job rooms trees) ≡ length rooms
taken_in_length all job [] trees = refl
taken_in_length all job (own ∷ rooms) trees = ap suc (taken_in_length all (job + 1) rooms (exchanged all job 0 trees own))

pub replicate_length : {X : Type 0} (n : ℕ) (x : X) → length (replicate n x) ≡ n
replicate_length zero x = refl
replicate_length (suc n) x = ap suc (replicate_length n x)

pub given_more : {X : Type 0} (all : List Placed) (job : ℕ) (left : List (List X)) (own trees : List X) → given_back all job (left ++ own ∷ []) trees ≡ exchanged all (job + length left) 0 (given_back all job left trees) own
given_more {X} all job [] own trees = ap (λ (j : ℕ). exchanged all j 0 trees own) (let same : job ≡ job + 0 = omega arith in same)
given_more {X} all job (first ∷ left) own trees =
    given_more all (job + 1) left own (exchanged all job 0 trees first)
    ∙ ap (λ (j : ℕ). exchanged all j 0 (given_back all (job + 1) left (exchanged all job 0 trees first)) own) (let same : (job + 1) + length left ≡ job + suc (length left) = omega arith in same)

-- one job more took its trees, or gave them back
pub exchanged_more : {X : Type 0} (all : List Placed) (rooms : List (List X)) (own trees now new : List X) (job : ℕ) → new ≡ exchanged all job 0 now own → now ≡ given_back all 0 rooms trees → job ≡ length rooms
    → new ≡ given_back all 0 (rooms ++ own ∷ []) trees
exchanged_more {X} all rooms own trees now new job is before place =
    is ∙ ap (λ (j : ℕ). exchanged all j 0 now own) (place ∙ (let same : length rooms ≡ 0 + length rooms = omega arith in same))
    ∙ ap (λ (t : List X). exchanged all (0 + length rooms) 0 t own) before ∙ sym (given_more all 0 rooms own trees)

-- ---- what is known of the trees

module _ {X Y : Type 0} (f : X → Y) (all : List Placed) where
  by_bool : (b : Bool) (x y : X) (own : List Y) → f (if b then y else x) ∷ own ≡ (if b then f y else f x) ∷ own
  by_bool true x y own = refl
  by_bool false x y own = refl

  pub exchanged_map : (job k : ℕ) (own other : List X) → map f (exchanged all job k own other) ≡ exchanged all job k (map f own) (map f other)
  exchanged_map job k [] other = refl
  exchanged_map job k (x ∷ own) [] = refl
  exchanged_map job k (x ∷ own) (y ∷ other) =
      by_bool (has all job k) x y (map f (exchanged all job (k + 1) own other)) ∙ ap (λ (l : List Y). (if has all job k then f y else f x) ∷ l) (exchanged_map job (k + 1) own other)

  replicate_map : (n : ℕ) (x : X) → map f (replicate n x) ≡ replicate n (f x)
  replicate_map zero x = refl
  replicate_map (suc n) x = ap (λ (l : List Y). f x ∷ l) (replicate_map n x)

  lent_map : (absent : X) (many job : ℕ) (trees : List X) → map f (exchanged all job 0 trees (replicate many absent)) ≡ exchanged all job 0 (map f trees) (replicate many (f absent))
  lent_map absent many job trees = exchanged_map job 0 trees (replicate many absent) ∙ ap (λ (l : List Y). exchanged all job 0 (map f trees) l) (replicate_map many absent)

  pub kept_map : (absent : X) (many n job : ℕ) (trees : List X) → map f (kept absent many all n job trees) ≡ kept (f absent) many all n job (map f trees)
  kept_map absent many zero job trees = refl
  kept_map absent many (suc n) job trees =
      kept_map absent many n (job + 1) (exchanged all job 0 trees (replicate many absent)) ∙ ap (λ (l : List Y). kept (f absent) many all n (job + 1) l) (lent_map absent many job trees)

  pub taken_map : (absent : X) (many n job : ℕ) (trees : List X) → map (λ own. map f own) (taken absent many all n job trees) ≡ taken (f absent) many all n job (map f trees)
  taken_map absent many zero job trees = refl
  taken_map absent many (suc n) job trees =
      ap (λ (own : List Y). own ∷ map (λ (l : List X). map f l) (taken absent many all n (job + 1) (exchanged all job 0 trees (replicate many absent))))
      (exchanged_map job 0 (replicate many absent) trees ∙ ap (λ (l : List Y). exchanged all job 0 l (map f trees)) (replicate_map many absent))
      ∙ ap (λ (l : List (List Y)). exchanged all job 0 (replicate many (f absent)) (map f trees) ∷ l)
      (taken_map absent many n (job + 1) (exchanged all job 0 trees (replicate many absent)) ∙ ap (λ (l : List Y). taken (f absent) many all n (job + 1) l) (lent_map absent many job trees))

  pub given_map : (job : ℕ) (left : List (List X)) (trees : List X) → map f (given_back all job left trees) ≡ given_back all job (map (λ own. map f own) left) (map f trees)
  given_map job [] trees = refl
  given_map job (own ∷ left) trees =
      given_map (job + 1) left (exchanged all job 0 trees own) ∙ ap (λ (l : List Y). given_back all (job + 1) (map (λ (o : List X). map f o) left) l) (exchanged_map job 0 trees own)
