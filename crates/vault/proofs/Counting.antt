-- How long the log of a checkpoint is that is made in pieces.
use Rattle.std.proofs.Common.{◌≡◌, ◌∙◌, ℕ, ◌+◌, ◌<◌, ◌≤◌, List, ◌++◌, length, map, drop, Option, None, Some, sym, ap, subst, arith}
use Rattle.std.specs.Prelude.{IfSome, IsSome}
use Rattle.std.proofs.lemmas.Bool.{false≢true}
use Rattle.std.proofs.lemmas.List.{length-append}
use Rattle.log_file.specs.Blocks.{blocks}
use Rattle.log_file.specs.Sure as log
use Rattle.log_file.proofs.RecordBytes.{blocks-join}
use Rattle.entries.specs.declared.entry.Entry.{Entry}
use Rattle.entries.specs.EntryForm.{entry}
use Rattle.vault.specs.Pieces.{AllCounted, AllOrderly, IsAsLong, IsEmpty, IsLonger, Pending, records_between}
use Rattle.vault.proofs.Piecing.{between_all, between_join, between_more, between_none}

-- nothing was copied
pub long_new : (journal : List Entry) (start copied : ℕ) (its : Option log.State) → copied ≡ start → IsEmpty its → IsAsLong journal start copied its
long_new journal start copied None none empty = none
long_new journal start copied (Some its) none empty = empty ∙ sym (ap (λ l. length (blocks l)) (between_none journal start copied none))

-- records were copied
pub long_copied : (journal : List Entry) (start copied place : ℕ) (old new : Option log.State) → start ≤ copied → copied ≤ place → IsAsLong journal start copied old
    → IsLonger (length (blocks (records_between journal copied place))) old new → IsAsLong journal start place new
long_copied journal start copied place None None a b long longer = absurd longer
long_copied journal start copied place None (Some new) a b long longer = absurd longer
long_copied journal start copied place (Some old) None a b long longer = absurd longer
long_copied journal start copied place (Some old) (Some new) a b long longer =
    let was : List (List ℕ) = records_between journal start copied in
    let come : List (List ℕ) = records_between journal copied place in
    longer
    ∙ ap (λ n. n + length (blocks come)) long
    ∙ sym (length-append (blocks was) (blocks come))
    ∙ ap length (sym (blocks-join was come))
    ∙ ap (λ l. length (blocks l)) (between_join journal start copied place a b)

-- entries are committed later
long_more : (journal more : List Entry) (start copied : ℕ) (its : Option log.State) → start ≤ copied → copied ≤ length journal → IsAsLong journal start copied its → IsAsLong (journal ++ more) start copied its
long_more journal more start copied None a b long = long
long_more journal more start copied (Some its) a b long = long ∙ ap (λ l. length (blocks l)) (sym (between_more journal more start copied a b))

pub counted_more : (generation : ℕ) (journal more : List Entry) (pending : Option Pending) → AllOrderly generation pending → AllCounted journal pending → AllCounted (journal ++ more) pending
counted_more generation journal more None orderly counted = tt
counted_more generation journal more (Some pending) orderly counted = (
  (let all = length-append journal more in omega (arith, all, counted.0)),
  long_more journal more pending.start pending.copied pending.log orderly.0.ordered counted.0 counted.1,
)

-- records were copied to the checkpoint's log
pub counted_copied : (journal seen : List Entry) (was next : Pending) (copied place : ℕ) (batch : List ℕ) → seen ≡ journal → was.start ≤ was.copied → AllCounted journal (Some was) → was.copied ≡ copied
    → (next.start ≡ was.start) × (next.copied ≡ place) → (copied < place) × (place ≤ length seen) → batch ≡ blocks (records_between seen copied place) → IsLonger (length batch) was.log next.log
    → AllCounted journal (Some next)
counted_copied journal seen was next copied place batch same ordered counted from at between is longer =
    let few : length seen ≡ length journal = ap length same in
    let all : length batch ≡ length (blocks (records_between journal was.copied next.copied)) =
    ap length is
    ∙ ap (λ (j : List Entry). length (blocks (records_between j copied place))) same
    ∙ ap (λ n. length (blocks (records_between journal n place))) (sym from)
    ∙ ap (λ n. length (blocks (records_between journal was.copied n))) (sym at.1) in (
      omega (arith, at.1, between.1, few),
      subst (λ n. IsAsLong journal n next.copied next.log) (sym at.0)
          (long_copied journal was.start was.copied next.copied was.log next.log ordered (omega (arith, at.1, between.0, from)) counted.1 (subst (λ n. IsLonger n was.log next.log) all longer)),
    )

-- all of the journal was copied
pub long_done : (journal : List Entry) (pending : Pending) (end : ℕ) → IsSome pending.log → IfSome pending.log (λ its. end ≡ its.end) → pending.start ≤ pending.copied → pending.copied ≡ length journal
    → IsAsLong journal pending.start pending.copied pending.log → end ≡ length (blocks (map entry.spell (drop pending.start journal)))
long_done journal pending end some is ordered all long =
    of_log pending.log some is long ∙ ap (λ l. length (blocks l)) (between_all journal pending.start pending.copied ordered all)
  where
    of_log : (o : Option log.State) → IsSome o → IfSome o (λ its. end ≡ its.end) → IsAsLong journal pending.start pending.copied o
        → end ≡ length (blocks (records_between journal pending.start pending.copied))
    of_log None none e l = absurd (false≢true none)
    of_log (Some its) some e l = e ∙ l
