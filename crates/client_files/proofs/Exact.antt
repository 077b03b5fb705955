-- What is read of an object is its bytes.
use Rattle.std.proofs.Common.{◌≡◌, ℕ, zero, suc, ◌+◌, List, [], ◌∷◌, ◌++◌, length, take, drop, Ok, refl, sym, ap, subst, ◌∙◌, length-append, take-add, arith}
use Rattle.std.proofs.lemmas.List.{drop-drop, take_all}
use Rattle.machine.specs.Fits.{Fits, History, Own, sight_at}
use Rattle.machine.specs.Machine.{read_count}
use Rattle.machine.specs.Says.{Says}
use Rattle.machine.specs.State.{Sight}
use Rattle.steps.specs.Events.{Deed, Event}
use Rattle.steps.specs.Events.Deed.{ReadPiece}
use Rattle.client_files.specs.declared.restoring.Stored.{Stored}
use Rattle.client_files.specs.Restoring.{ReadOn, ReadsAll, ReadsAt, read_by, read_in}

-- as many of the first elements as there are among so many
taken-long : (n : ℕ) (xs : List ℕ) → take (length (take n xs)) xs ≡ take n xs
taken-long zero xs = refl
taken-long (suc n) [] = refl
taken-long (suc n) (x ∷ xs) = ap (λ l. x ∷ l) (taken-long n xs)

front-of : (n : ℕ) (bytes xs : List ℕ) → bytes ≡ take n xs → bytes ≡ take (length bytes) xs
front-of n bytes xs h = h ∙ sym (taken-long n xs) ∙ ap (λ (l : List ℕ). take (length l) xs) (sym h)

piece-said : (actor : ℕ) (contents : ℕ → List ℕ) (v : Sight) (s : Stored) (at wanted : ℕ) (bytes : List ℕ) → Says actor contents v (ReadPiece s.object s.digest 0 at wanted (Ok bytes))
    → bytes ≡ take (length bytes) (drop at (contents s.object))
unfolding Says
piece-said actor contents v s at wanted bytes h = front-of (read_count s.object wanted at v.inventory) bytes (drop at (contents s.object)) h.1

by-deed : (actor : ℕ) (contents : ℕ → List ℕ) (v : Sight) (s : Stored) (at : ℕ) (deed : Deed) → ReadsAt s at deed → Says actor contents v deed
    → read_by deed ≡ take (length (read_by deed)) (drop at (contents s.object))
by-deed actor contents v s at deed r h =
    subst (λ (d : Deed). read_by d ≡ take (length (read_by d)) (drop at (contents s.object))) (sym r.2)
    (piece-said actor contents v s at r.0 r.1 (subst (λ (d : Deed). Says actor contents v d) r.2 h))

then-more : (at : ℕ) (a b all : List ℕ) → a ≡ take (length a) (drop at all) → b ≡ take (length b) (drop (at + length a) all) → a ++ b ≡ take (length (a ++ b)) (drop at all)
then-more at a b all first next =
    ap (λ (l : List ℕ). l ++ b) first ∙ ap (λ (l : List ℕ). take (length a) (drop at all) ++ l) (next ∙ ap (λ (l : List ℕ). take (length b) l) (sym (drop-drop (length a) at all)))
    ∙ sym (take-add (length a) (length b) (drop at all)) ∙ ap (λ n. take n (drop at all)) (sym (length-append a b))

reads-fit : (w : History) (actor : ℕ) (s : Stored) (at : ℕ) (old new : Own) (events : List Event) → Fits w actor old events new → ReadOn s at events
    → read_in events ≡ take (length (read_in events)) (drop at (w.contents s.object))
unfolding Fits
reads-fit w actor s at old new [] f r = refl
reads-fit w actor s at old new (e ∷ events) f r =
    then-more at (read_by e.deed) (read_in events) (w.contents s.object) (by-deed actor w.contents (sight_at w old e.n f.1.next_file) s at e.deed r.0 f.1.says)
    (reads-fit w actor s (at + length (read_by e.deed)) f.0 new events f.2 r.1)

pub restored-is-stored : (w : History) (actor : ℕ) (old new : Own) (s : Stored) (before after : ℕ) (events : List Event) → Fits w actor old events new → ReadsAll s before after events (Ok s.digest)
    → length (w.contents s.object) ≡ s.size → read_in events ≡ w.contents s.object
restored-is-stored w actor old new s before after events f r sized =
    let long : length (read_in events) ≡ s.size = r.1 in
    reads-fit w actor s 0 old new events f r.0 ∙ take_all (length (read_in events)) (w.contents s.object) (omega (arith, long, sized))
