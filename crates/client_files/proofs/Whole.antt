-- A ticket that was sealed has the client's file.
use Rattle.std.proofs.Common.{◌≡◌, inl, inr, ℕ, ◌≤◌, true, false, if◌then◌else◌, List, [], ◌++◌, length, take, Option, None, Some, IfSome, Result, Ok, Err, refl, sym, ap, subst, ◌∙◌, append-nil, append_assoc, take_all}
use Rattle.std.proofs.lemmas.Grind.{flat_map-append}
use Rattle.kinds.specs.ValueForms.{digest_with}
use Rattle.kinds.specs.declared.refusal.Refusal.{Refusal}
use Rattle.kinds.specs.declared.refusal.Refusal.TheVariants as refused
use Rattle.kinds.specs.declared.segment.Digest.{Digest}
use Rattle.sha2.specs.Sha256.{sha256}
use Rattle.client_trees.specs.Files.{ClientFile}
use Rattle.steps.proofs.Joining.{GoesOn, call_then, so_call}
use Rattle.steps.specs.Calls.{Call, IsStep, Made}
use Rattle.steps.specs.Events.{Event}
use Rattle.steps.specs.Events.Deed.{OpenNew, Seal}
use Rattle.client_files.specs.declared.outcome.Came.{Came}
use Rattle.client_files.specs.declared.outcome.Came.TheVariants as came
use Rattle.client_files.specs.Outcomes.{IsFile, Sending, Writing}
use Rattle.client_files.specs.Sending.{Fills, GivesUp, Sends, Spends, behind_drop, bytes_by, failing, is_unfilled, stopping, unopened, unwritten, written}
use Rattle.client_files.specs.Writing.{Closes, Keeps, Loads, Puts}

-- a sealed ticket is what came
abbrev IsSealed : Result Came Refusal → Type 0
IsSealed (Ok (came.Written ticket digest)) = Unit {0}
IsSealed _ = ⊥

unopened_never : (e : Refusal) → IsSealed (unopened e) → ⊥
unopened_never (refused.Busy holder) s = s
unopened_never e s = s

failing_never : (e : Refusal) → IsSealed (failing e) → ⊥
failing_never e s = elim (is_unfilled e) as (λ b. IsSealed (if b then Ok (came.Failed e) else Err (stopping e)) → ⊥) [ true ↦ λ s. s | false ↦ λ s. s ] s

behind_never : (e : Refusal) (dropped : Result (Unit {0}) Refusal) → IsSealed (behind_drop e dropped) → ⊥
behind_never e (Ok done) s = failing_never e s
behind_never e (Err other) s = s

abbrev digest_in : Digest → Result Came Refusal → Digest
digest_in other (Ok (came.Written ticket digest)) = digest
digest_in other _ = other

written-append : (xs ys : List Event) → written (xs ++ ys) ≡ written xs ++ written ys
written-append xs ys = flat_map-append (λ (e : Event). bytes_by e.deed) xs ys

-- the opening of a ticket writes nothing, and neither does its sealing
opened_writes : (pool size ticket : ℕ) (xs : List Event) → Made (OpenNew pool size 0 (Ok ticket)) xs → written xs ≡ []
opened_writes pool size ticket xs (inl h) = ap written h.1
opened_writes pool size ticket xs (inr h) = ap written h.1

sealed_writes : (ticket : ℕ) (xs : List Event) → IsStep (Seal ticket (Ok tt)) xs → written xs ≡ []
sealed_writes ticket xs h = ap written h.1

whole_file : (file : Option ClientFile) (size : ℕ) (bytes : List ℕ) → IfSome file (λ f. length f.bytes ≤ size) → IfSome file (λ f. take (length bytes) f.bytes ≡ bytes) → length bytes ≡ size
    → IfSome file (λ f. f.bytes ≡ bytes)
whole_file None size bytes ended front long = tt
whole_file (Some f) size bytes ended front long = sym (take_all size f.bytes ended) ∙ ap (λ n. take n f.bytes) (sym long) ∙ front

-- what was written whole is the file
loaded_with : (file : Option ClientFile) (ticket size before after : ℕ) (digest : Digest) (events : List Event) → Loads file ticket size before after events (Ok digest)
    → IsFile file size digest events
loaded_with file ticket size before after digest events h =
    let copies = h.1 in
    let same : written events ≡ copies.0 = copies.1.whole in
    record {
      long = ap length same ∙ copies.2;
      hash = copies.3 ∙ ap (λ l. digest_with (sha256 l)) (sym same);
      whole = subst (λ (l : List ℕ). IfSome file (λ f. f.bytes ≡ l)) (sym same) (whole_file file size copies.0 h.0 copies.1.front copies.2);
    }

file_as : (file : Option ClientFile) (size : ℕ) (digest : Digest) (events others : List Event) → written events ≡ written others → IsFile file size digest others → IsFile file size digest events
file_as file size digest events others same h = record {
  long = ap length same ∙ h.long;
  hash = h.hash ∙ ap (λ l. digest_with (sha256 l)) (sym same);
  whole = subst (λ (l : List ℕ). IfSome file (λ f. f.bytes ≡ l)) (sym same) h.whole;
}

-- what filled a ticket is the file
filled_with : (file : Option ClientFile) (ticket size before after : ℕ) (digest : Digest) (events : List Event) → Fills file ticket size before after events (Ok digest)
    → IsFile file size digest events
filled_with file ticket size before after digest events h =
    let xs = h.1.0 in
    let ys = h.1.1 in
    file_as file size digest events xs (ap written h.1.2 ∙ written-append xs ys ∙ ap (λ l. written xs ++ l) (sealed_writes ticket ys h.1.4) ∙ append-nil (written xs))
    (loaded_with file ticket size before after digest xs (h.0, h.1.3))

-- steps that write nothing in front change nothing
behind_none : (file : Option ClientFile) (size : ℕ) (digest : Digest) (events xs ys : List Event) → events ≡ xs ++ ys → written xs ≡ [] → IsFile file size digest ys → IsFile file size digest events
behind_none file size digest events xs ys cut none h = file_as file size digest events ys (ap written cut ∙ written-append xs ys ∙ ap (λ l. l ++ written ys) none) h

given_never : (ticket t : ℕ) (digest : Digest) (e : Refusal) (events : List Event) → GivesUp ticket e events (Ok (came.Written t digest)) → ⊥
given_never ticket t digest e events (inl h) = failing_never e (subst IsSealed h.2 tt)
given_never ticket t digest e events (inr h) = behind_never e h.1 (subst IsSealed h.3 tt)

spent_with : (file : Option ClientFile) (ticket t size before after : ℕ) (digest : Digest) (events : List Event) → Spends file ticket size before after events (Ok (came.Written t digest))
    → IsFile file size digest events
spent_with file ticket t size before after digest events (inl h) =
    subst (λ (d : Digest). IsFile file size d events) (sym (ap (digest_in digest) h.2)) (filled_with file ticket size before after h.0 events h.1)
spent_with file ticket t size before after digest events (inr h) = absurd (given_never ticket t digest h.0 h.1.1 h.1.4)

sealed_file : (file : Option ClientFile) (pool size before after t : ℕ) (digest : Digest) (events : List Event) → Sends file pool size before after events (Ok (came.Written t digest))
    → IsFile file size digest events
sealed_file file pool size before after t digest events (inl h) = absurd (unopened_never h.0 (subst IsSealed h.2 tt))
sealed_file file pool size before after t digest events (inr h) =
    behind_none file size digest events h.1.0 h.1.1 h.1.2 (opened_writes pool size h.0 h.1.0 h.1.3) (spent_with file h.0 t size before after digest h.1.1 h.1.4)

pub sending-of : (file : Option ClientFile) (pool size before after : ℕ) (events : List Event) (result : Result Came Refusal) → Sends file pool size before after events result
    → Sending file pool size before after events result
sending-of file pool size before after events (Ok (came.Written ticket digest)) h = record { order = h; stored = sealed_file file pool size before after ticket digest events h }
sending-of file pool size before after events (Ok (came.Failed e)) h = record { order = h; stored = tt }
sending-of file pool size before after events (Ok (came.Held holder)) h = record { order = h; stored = tt }
sending-of file pool size before after events (Err e) h = record { order = h; stored = tt }

-- ---- a ticket that isn't sealed yet

kept_with : (file : Option ClientFile) (ticket t size before after : ℕ) (digest : Digest) (events : List Event) → Keeps file ticket size before after events (Ok (came.Written t digest))
    → IsFile file size digest events
kept_with file ticket t size before after digest events (inl h) =
    subst (λ (d : Digest). IsFile file size d events) (sym (ap (digest_in digest) h.2)) (loaded_with file ticket size before after h.0 events h.1)
kept_with file ticket t size before after digest events (inr h) = absurd (given_never ticket t digest h.0 h.1.1 h.1.4)

put_file : (file : Option ClientFile) (pool size before after t : ℕ) (digest : Digest) (events : List Event) → Puts file pool size before after events (Ok (came.Written t digest))
    → IsFile file size digest events
put_file file pool size before after t digest events (inl h) = absurd (unopened_never h.0 (subst IsSealed h.2 tt))
put_file file pool size before after t digest events (inr h) =
    behind_none file size digest events h.1.0 h.1.1 h.1.2 (opened_writes pool size h.0 h.1.0 h.1.3) (kept_with file h.0 t size before after digest h.1.1 h.1.4)

pub writing-of : (file : Option ClientFile) (pool size before after : ℕ) (events : List Event) (result : Result Came Refusal) → before ≤ after → Puts file pool size before after events result
    → Writing file pool size before after events result
writing-of file pool size before after events (Ok (came.Written ticket digest)) rises h = record { order = h; stored = put_file file pool size before after ticket digest events h; rises = rises }
writing-of file pool size before after events (Ok (came.Failed e)) rises h = record { order = h; stored = tt; rises = rises }
writing-of file pool size before after events (Ok (came.Held holder)) rises h = record { order = h; stored = tt; rises = rises }
writing-of file pool size before after events (Err e) rises h = record { order = h; stored = tt; rises = rises }

-- ---- and is sealed then

abbrev ticket_in : ℕ → Result Came Refusal → ℕ
ticket_in other (Ok (came.Written ticket digest)) = ticket
ticket_in other _ = other

module _ (file : Option ClientFile) (pool size before after : ℕ) where
  -- a file that isn't written was sent no further
  put_unwritten : (events : List Event) (result : Result Came Refusal) → (IsSealed result → ⊥) → Puts file pool size before after events result → Sends file pool size before after events result
  put_unwritten events result never (inl h) = inl h
  put_unwritten events result never (inr (number, (xs, ys, cut, made, inl (digest, loads, is)))) = absurd (never (subst IsSealed (sym is) tt))
  put_unwritten events result never (inr (number, (xs, ys, cut, made, inr (e, (us, vs, parts, inl breaks, gives))))) = inr (number, (xs, ys, cut, made, inr (e, (us, vs, parts, inl breaks, gives))))
  put_unwritten events result never (inr (number, (xs, ys, cut, made, inr (e, (us, vs, parts, inr longer, gives))))) =
      inr (number, (xs, ys, cut, made, inr (e, (us, vs, parts, inr (inl longer), gives))))

  -- one that is, and whose ticket was sealed or given back, was sent
  spent_of : (number ticket : ℕ) (digest d : Digest) (xs ys : List Event) (result : Result Came Refusal) → ◌≡◌ {A = Result Came Refusal} (Ok (came.Written ticket digest)) (Ok (came.Written number d))
      → Loads file number size before after xs (Ok d) → Closes (came.Written ticket digest) ys result → Spends file number size before after (xs ++ ys) result
  spent_of number ticket digest d xs ys result is loads (inl (step, same)) =
      let its : ticket ≡ number = ap (ticket_in ticket) is in
      inl (d, (loads.0, (xs, ys, refl, loads.1, subst (λ (k : ℕ). IsStep (Seal k (Ok tt)) ys) its step)), same ∙ is)
  spent_of number ticket digest d xs ys result is loads (inr (why, (us, vs, cut, made, gives))) =
      let its : ticket ≡ number = ap (ticket_in ticket) is in
      inr (
        unwritten why,
        (
          xs ++ us,
          vs,
          ap (λ (es : List Event). xs ++ es) cut ∙ sym (append_assoc xs us vs),
          inr (inr (d, why, refl, (xs, us, refl, loads.1, subst (λ (k : ℕ). Made (Seal k (Err why)) us) its made))),
          subst (λ (k : ℕ). GivesUp k (unwritten why) vs result) its gives,
        ),
      )

  as_it_is : (c : Came) (xs ys : List Event) (result : Result Came Refusal) → ys ≡ [] → result ≡ Ok c → Sends file pool size before after xs (Ok c) → Sends file pool size before after (xs ++ ys) result
  as_it_is c xs ys result none same h =
      subst (λ (r : Result Came Refusal). Sends file pool size before after (xs ++ ys) r) (sym same)
      (subst (λ (es : List Event). Sends file pool size before after es (Ok c)) (sym (ap (λ (es : List Event). xs ++ es) none ∙ append-nil xs)) h)

  put_closed : (c : Came) (xs ys : List Event) (result : Result Came Refusal) → Puts file pool size before after xs (Ok c) → Closes c ys result → Sends file pool size before after (xs ++ ys) result
  put_closed (came.Written ticket digest) xs ys result (inl h) closes = absurd (unopened_never h.0 (subst IsSealed h.2 tt))
  put_closed (came.Written ticket digest) xs ys result (inr (number, (us, vs, cut, made, inl (d, loads, is)))) closes =
      inr (number, (us, vs ++ ys, ap (λ (es : List Event). es ++ ys) cut ∙ append_assoc us vs ys, made, spent_of number ticket digest d vs ys result is loads closes))
  put_closed (came.Written ticket digest) xs ys result (inr (number, (us, vs, cut, made, inr (e, (before_it, behind_it, parts, loads, gives))))) closes = absurd (given_never number ticket digest e behind_it gives)
  put_closed (came.Failed e) xs ys result puts (none, same) = as_it_is (came.Failed e) xs ys result none same (put_unwritten xs (Ok (came.Failed e)) (λ s. s) puts)
  put_closed (came.Held holder) xs ys result puts (none, same) = as_it_is (came.Held holder) xs ys result none same (put_unwritten xs (Ok (came.Held holder)) (λ s. s) puts)

pub sending-closed : {S : Type 0} (did : S → List Event → S → Type 0) → GoesOn did → (p q r : S) (file : Option ClientFile) (pool size before after : ℕ) (c : Came) (result : Result Came Refusal)
    → Call did p q (λ events. Puts file pool size before after events (Ok c)) → Call did q r (λ events. Closes c events result)
    → Call did p r (λ events. Sending file pool size before after events result)
sending-closed did goes p q r file pool size before after c result a b =
    call_then did goes (λ events. Puts file pool size before after events (Ok c)) (λ events. Closes c events result) (λ events. Sending file pool size before after events result) p q r a b
    (λ xs ys f g. sending-of file pool size before after (xs ++ ys) result (put_closed file pool size before after c xs ys result f g))

pub sending-ended : {S : Type 0} (did : S → List Event → S → Type 0) (p q : S) (file : Option ClientFile) (pool size before after : ℕ) (e : Refusal)
    → Call did p q (λ events. Puts file pool size before after events (Err e)) → Call did p q (λ events. Sending file pool size before after events (Err e))
sending-ended did p q file pool size before after e a =
    so_call did (λ events. Puts file pool size before after events (Err e)) (λ events. Sending file pool size before after events (Err e)) p q a
    (λ xs f. sending-of file pool size before after xs (Err e) (put_unwritten file pool size before after xs (Err e) (λ s. s) f))
