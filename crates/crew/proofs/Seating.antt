-- Jobs with the passes of their actors.
use Rattle.std.proofs.Common.{◌≡◌, ℕ, zero, suc, ◌+◌, ◌<◌, List, [], ◌∷◌, ◌++◌, map, length, Option, None, Some, refl, sym, ap, subst, ◌∙◌, arith}
use Rattle.std.proofs.lemmas.List.{length-map}
use Rattle.std.specs.Prelude.{IfSome, slice_index_or}
use Rattle.std.specs.List.{AllByRecursion}
use Rattle.steps.specs.Events.{Event}
use Rattle.crew.specs.Passes.{Diary, EachDid, IsTold, Seat, Worked, seats_of}
use Rattle.machine.specs.Turns.{Turn, events_of}

module _ {A : Type 0} (P : A → Type 0) where
  all_at : (xs : List A) (i : ℕ) (d : A) → i < length xs → AllByRecursion P xs → P (slice_index_or xs i d)
  all_at [] i d l all = absurd (omega (arith, l))
  all_at (x ∷ xs) zero d l all = all.0
  all_at (x ∷ xs) (suc i) d l all = all_at xs i d (omega (arith, l)) all.1

  pub all_more : (xs : List A) (x : A) → AllByRecursion P xs → P x → AllByRecursion P (xs ++ x ∷ [])
  all_more [] x all one = (one, tt)
  all_more (y ∷ xs) x all one = (all.0, all_more xs x all.1 one)

pub map_more : {A B : Type 0} (f : A → B) (xs : List A) (x : A) → map f (xs ++ x ∷ []) ≡ map f xs ++ f x ∷ []
map_more f [] x = refl
map_more f (y ∷ xs) x = ap (λ l. f y ∷ l) (map_more f xs x)

module _ {J : Type 0} where
  pub seats_more : (first : ℕ) (xs : List J) (x : J) → seats_of first (xs ++ x ∷ []) ≡ seats_of first xs ++ (x, Some (first + length xs, [])) ∷ []
  seats_more first [] x = ap (λ (k : ℕ). (x, Some (k, [])) ∷ []) (let same : first ≡ first + 0 = omega arith in same)
  seats_more first (y ∷ xs) x =
      ap (λ (l : List (Seat J)). (y, Some (first, [])) ∷ l)
      (seats_more (first + 1) xs x ∙ ap (λ (k : ℕ). seats_of (first + 1) xs ++ (x, Some (k, [])) ∷ []) (let same : (first + 1) + length xs ≡ first + suc (length xs) = omega arith in same))

  pub seats_length : (first : ℕ) (xs : List J) → length (seats_of first xs) ≡ length xs
  seats_length first [] = refl
  seats_length first (x ∷ xs) = ap suc (seats_length (first + 1) xs)

  seat_at : (first : ℕ) (xs : List J) (i : ℕ) (d : J) → i < length xs → slice_index_or (seats_of first xs) i (d, None) ≡ (slice_index_or xs i d, Some (first + i, []))
  seat_at first [] i d l = absurd (omega (arith, l))
  seat_at first (x ∷ xs) zero d l = ap (λ (k : ℕ). (x, Some (k, []))) (let same : first ≡ first + 0 = omega arith in same)
  seat_at first (x ∷ xs) (suc i) d l =
      seat_at (first + 1) xs i d (omega (arith, l)) ∙ ap (λ (k : ℕ). (slice_index_or xs i d, Some (k, []))) (let same : (first + 1) + i ≡ first + suc i = omega arith in same)

  job_at : (seats : List (Seat J)) (i : ℕ) (d : J) → slice_index_or (map (λ s. s.0) seats) i d ≡ (slice_index_or seats i (d, None)).0
  job_at [] i d = refl
  job_at (s ∷ seats) zero d = refl
  job_at (s ∷ seats) (suc i) d = job_at seats i d

  -- one more begins
  pub begun_more : (first actor : ℕ) (jobs : List J) (job : J) (own : Diary) (before after : List (Seat J)) → after ≡ before ++ (job, Some own) ∷ [] → before ≡ seats_of first jobs → own ≡ (actor, [])
      → first + length jobs ≡ actor → after ≡ seats_of first (jobs ++ job ∷ [])
  begun_more first actor jobs job own before after is were begun number =
      is ∙ ap (λ (l : List (Seat J)). l ++ (job, Some own) ∷ []) were ∙ ap (λ (o : Diary). seats_of first jobs ++ (job, Some o) ∷ []) begun
      ∙ ap (λ (k : ℕ). seats_of first jobs ++ (job, Some (k, [])) ∷ []) (sym number) ∙ sym (seats_more first jobs job)

  -- one more ended
  pub jobs_more : (seats : List (Seat J)) (seat : Seat J) (before after : List J) → after ≡ before ++ seat.0 ∷ [] → before ≡ map (λ s. s.0) seats → after ≡ map (λ s. s.0) (seats ++ seat ∷ [])
  jobs_more seats seat before after is were = is ∙ ap (λ (l : List J). l ++ seat.0 ∷ []) were ∙ sym (map_more (λ (s : Seat J). s.0) seats seat)

  pub told_more : (now kept : List Turn × ℕ) (seats : List (Seat J)) (seat : Seat J) → AllByRecursion (IsTold kept.0) seats → IfSome seat.1 (λ o. o.1 ≡ events_of o.0 now.0) → now ≡ kept
      → AllByRecursion (IsTold kept.0) (seats ++ seat ∷ [])
  told_more now kept seats seat all one same = all_more (IsTold kept.0) seats seat all (subst (λ (k : List Turn × ℕ). IfSome seat.1 (λ o. o.1 ≡ events_of o.0 k.0)) same one)

  -- what each job did is what the turns say of its actor
  pub each_did : (did : J → ℕ → List Event → J → Type 0) (first : ℕ) (turns : List Turn) (jobs done : List J) (before after : List (Seat J)) → before ≡ seats_of first jobs → length after ≡ length before
      → ((i : ℕ) (d : Seat J) → i < length before → Worked did (slice_index_or before i d).0 (slice_index_or before i d).1 (slice_index_or after i d).0 (slice_index_or after i d).1)
      → AllByRecursion (IsTold turns) after → done ≡ map (λ s. s.0) after → EachDid did first turns jobs done
  each_did did first turns jobs done before after is same worked told are i d l =
      let within : i < length before = omega (arith, seats_length first jobs, ap (λ (s : List (Seat J)). length s) is, l) in
      let now : Seat J = slice_index_or after i (d, None) in
      let seated : slice_index_or before i (d, None) ≡ (slice_index_or jobs i d, Some (first + i, [])) = ap (λ (s : List (Seat J)). slice_index_or s i (d, None)) is ∙ seat_at first jobs i d l in
      let w = subst (λ (s : Seat J). Worked did s.0 s.1 now.0 now.1) seated (worked i (d, None) within) in
      let t = subst (λ (o : Option Diary). IfSome o (λ diary. diary.1 ≡ events_of diary.0 turns)) w.2 (all_at (IsTold turns) after i (d, None) (omega (arith, within, same)) told) in
      subst (λ (j : J). did (slice_index_or jobs i d) (first + i) (events_of (first + i) turns) j) (sym (ap (λ (s : List J). slice_index_or s i d) are ∙ job_at after i d))
      (subst (λ (es : List Event). did (slice_index_or jobs i d) (first + i) es now.0) t w.1)

  -- as many jobs come back as were run
  pub many_done : (first : ℕ) (jobs done : List J) (before after : List (Seat J)) → before ≡ seats_of first jobs → length after ≡ length before → done ≡ map (λ s. s.0) after → length done ≡ length jobs
  many_done first jobs done before after is same are =
      ap (λ (l : List J). length l) are ∙ length-map after (λ (s : Seat J). s.0) ∙ same ∙ ap (λ (l : List (Seat J)). length l) is ∙ seats_length first jobs
