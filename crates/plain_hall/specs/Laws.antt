-- The laws of what is kept of an actor's steps.
use Rattle.std.proofs.Common.{◌≡◌, ℕ, List, [], ◌∷◌, ◌++◌, map, refl, sym, ap, ◌∙◌}
use Rattle.std.proofs.lemmas.List.{append-nil, append_assoc, map-append}
use Rattle.steps.specs.Calls.{risen, risen_by}
use Rattle.steps.specs.Events.{Event}
use Rattle.plain_hall.specs.declared.trace.Mark.{Mark}
use Rattle.plain_hall.specs.declared.trace.Trace.{Trace}
use Rattle.plain_hall.specs.Traces.{Added, Did, mark_of}

pub nothing : (t : Trace) → Did t [] t
nothing t = record { marks = λ h. (h, sym (append-nil t.marks.items)); refused = refl; actor = refl }

risen-append : (n : ℕ) (xs ys : List Event) → risen n (xs ++ ys) ≡ risen (risen n xs) ys
risen-append n [] ys = refl
risen-append n (x ∷ xs) ys = risen-append (risen_by n x.deed) xs ys

marks-append : (start : List Mark) (xs ys : List Event) → (start ++ map mark_of xs) ++ map mark_of ys ≡ start ++ map mark_of (xs ++ ys)
marks-append start xs ys = append_assoc start (map mark_of xs) (map mark_of ys) ∙ ap (λ (zs : List Mark). start ++ zs) (sym (map-append mark_of xs ys))

added-both : (p q r : Trace) (xs ys : List Event) → Added p (map mark_of xs) q → Added q (map mark_of ys) r → Added p (map mark_of (xs ++ ys)) r
added-both p q r xs ys a b = λ h. ((a (b h).0).0, (b h).1 ∙ ap (λ (zs : List Mark). zs ++ map mark_of ys) (a (b h).0).1 ∙ marks-append p.marks.items xs ys)

pub joined : (p q r : Trace) (xs ys : List Event) → Did p xs q → Did q ys r → Did p (xs ++ ys) r
joined p q r xs ys a b = record {
  marks = added-both p q r xs ys a.marks b.marks;
  refused = b.refused ∙ ap (λ (n : ℕ). risen n ys) a.refused ∙ sym (risen-append p.refused xs ys);
  actor = b.actor ∙ a.actor;
}

pub counted : (p q : Trace) (xs : List Event) → Did p xs q → q.refused ≡ risen p.refused xs
counted p q xs d = d.refused

pub of_one : (p q : Trace) (xs : List Event) → Did p xs q → q.actor ≡ p.actor
of_one p q xs d = d.actor
