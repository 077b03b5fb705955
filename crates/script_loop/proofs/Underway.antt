-- Lemmas on how far a run has come, and on how it ends.
use Rattle.std.proofs.Common.{◌≡◌, inl, inr, true, false, eq-eqb, ℕ, ◌+◌, ◌-◌, ◌^◌, ◌≤◌, ◌==◌, cond, if◌then◌else◌, List, [], ◌∷◌, ◌++◌, length, take, drop, take-append-drop, Option, None, Some, Ok, Err, refl, sym, ap, ◌∙◌, subst, arith, append_assoc, append-nil, length-append}
use Rattle.std.specs.Str.Lines.{lines}
use Rattle.std.specs.Io.KnownBytes.{Appends, IsAtEnd}
use Rattle.std.proofs.KnownBytes.{Appends-nil, Appends-trans, Appends-kept}
use Rattle.std.proofs.Math.Seq.{take-append_seam}
use Rattle.std.proofs.lemmas.Bool.{ne_eqb}
use Rattle.std.proofs.lemmas.List.{take_all}
use Rattle.script_loop.specs.declared.tally.Tally.{Tally}
use Rattle.script_loop.specs.declared.ends.Halt.{Halt}
use Rattle.script_loop.specs.declared.ends.Halt.TheVariants.{Memory}
use Rattle.script_loop.specs.declared.ends.End.{End}
use Rattle.script_loop.specs.declared.ends.End.TheVariants.{Done, SourceFault, SinkFault, Halted, TooLong}
use Rattle.script_loop.specs.Tally.{no_tally, added}
use Rattle.script_loop.specs.Reply.{Answer}
use Rattle.script_loop.specs.Ends.{last_line, PutsLast}
use Rattle.script_loop.specs.Limit.{first_excess, excess_from}
use Rattle.script_loop.specs.Reading.{TakesLine, IsTooLong}
use Rattle.script_loop.specs.Runs.{Runs, RunsOut, IsFront, AreFirst, IsWhole, Exceeds, Answers, Prints, Says}
use Rattle.script_loop.specs.Steps.{TakesOne, HasTaken, Progress, Underway, HasPut, Stops}
use Rattle.script_loop.proofs.Tallies.{added_assoc, added_comm}

-- ---- the lines that were taken

length_more : (taken : List (List ℕ)) (line : List ℕ) → length (taken ++ line ∷ []) ≡ length taken + 1
length_more taken line = length-append taken (line ∷ [])

-- before line n, which isn't past line 2^20, fewer than 2^20 lines were taken
few : (taken : List (List ℕ)) (n : ℕ) → length taken + 1 ≡ n → n ≤ 2 ^ 20 → (length taken == 2 ^ 20) ≡ false
few taken n many within = ne_eqb (length taken) (2 ^ 20) (λ is. omega arith)

-- nothing was taken yet
pub nothing_taken : (script : Option (List ℕ)) → Progress script [] script
nothing_taken None = tt
nothing_taken (Some all) = record { split = refl; short = refl }

-- the limit isn't reached before line n
limit_later : (all : List ℕ) (taken : List (List ℕ)) (rest : List ℕ) (n : ℕ) → HasTaken all taken rest → length taken + 1 ≡ n → n ≤ 2 ^ 20 → first_excess all ≡ excess_from n rest
limit_later all taken rest n has many within =
    has.short ∙ ap (λ b. cond b (Some (length taken)) (excess_from (length taken + 1) rest)) (few taken n many within) ∙ ap (λ m. excess_from m rest) many

-- one more line was taken
pub one_more : (script come left : Option (List ℕ)) (taken : List (List ℕ)) (line : List ℕ) (n : ℕ) → length taken + 1 ≡ n → n ≤ 2 ^ 20 → Progress script taken come → TakesLine come left line → Progress script (taken ++ line ∷ []) left
one_more None come left taken line n many within has takes = tt
one_more (Some all) None left taken line n many within has takes = absurd has
one_more (Some all) (Some before) None taken line n many within has takes = absurd takes
one_more (Some all) (Some before) (Some after) taken line n many within has takes =
    let size : length (taken ++ line ∷ []) ≡ n = length_more taken line ∙ many in
    record {
      split = has.split ∙ ap (λ l. taken ++ l) takes.first ∙ sym (append_assoc taken (line ∷ []) (lines after));
      short = limit_later all taken before n has many within ∙ takes.short n
          ∙ ap (λ m. if m == 2 ^ 20 then Some m else excess_from (m + 1) after) (sym size);
    }

-- the lines that were taken are the first ones of the script
pub are_first : (script come : Option (List ℕ)) (taken : List (List ℕ)) → Progress script taken come → AreFirst script taken
are_first None come taken has = tt
are_first (Some all) None taken has = absurd has
are_first (Some all) (Some rest) taken has = (lines rest, has.split)

-- nothing is to come any more
pub is_whole : (script come : Option (List ℕ)) (taken : List (List ℕ)) (n : ℕ) → length taken + 1 ≡ n → n ≤ 2 ^ 20 → Progress script taken come → IsAtEnd come → IsWhole script taken
is_whole None come taken n many within has end = tt
is_whole (Some all) None taken n many within has end = absurd has
is_whole (Some all) (Some rest) taken n many within has end =
    (sym (has.split ∙ ap (λ l. taken ++ lines l) end ∙ append-nil taken), limit_later all taken rest n has many within ∙ ap (excess_from n) end)

-- the next line is too long
pub line_exceeds : (script come : Option (List ℕ)) (taken : List (List ℕ)) (n : ℕ) → length taken + 1 ≡ n → n ≤ 2 ^ 20 → Progress script taken come → IsTooLong come → Exceeds script taken n
line_exceeds None come taken n many within has long = tt
line_exceeds (Some all) None taken n many within has long = absurd has
line_exceeds (Some all) (Some rest) taken n many within has long =
    let size : length taken ≡ n - 1 = omega arith in
    (limit_later all taken rest n has many within ∙ long n, inl (sym (ap (take (n - 1)) has.split ∙ ap (λ m. take m (taken ++ lines rest)) (sym size) ∙ take-append_seam taken (lines rest))))

-- line 2^20 was taken
pub count_exceeds : (script come : Option (List ℕ)) (taken : List (List ℕ)) (n : ℕ) → length taken ≡ n → n ≡ 2 ^ 20 → Progress script taken come → Exceeds script taken n
count_exceeds None come taken n many last has = tt
count_exceeds (Some all) None taken n many last has = absurd has
count_exceeds (Some all) (Some rest) taken n many last has =
    let reached : (length taken == 2 ^ 20) ≡ true = eq-eqb (length taken) (2 ^ 20) (many ∙ last) in (
      has.short ∙ ap (λ b. cond b (Some (length taken)) (excess_from (length taken + 1) rest)) reached ∙ ap Some many,
      inr (last, sym (ap (take n) has.split ∙ ap (λ m. take m (taken ++ lines rest)) (sym many) ∙ take-append_seam taken (lines rest))),
    )

-- a text and a front of what follows
front_of : (text more : List ℕ) (count : ℕ) → IsFront (text ++ take count more) (text ++ more)
front_of text more count = (drop count more, ap (λ l. text ++ l) (sym (take-append-drop count more)) ∙ sym (append_assoc text (take count more) (drop count more)))

take-nil : (count : ℕ) → take {A = ℕ} count [] ≡ []
take-nil count = let none : List ℕ = [] in take_all count none (omega arith)

-- a front of a text was put
pub put_front : (text whole : List ℕ) (before after : Option (List ℕ)) → text ≡ whole → ((count : ℕ) × (count ≤ length text) × Appends before after (take count text)) → (front : List ℕ) × IsFront front whole × Appends before after front
put_front text whole before after same (count, within, put) = (take count text, (drop count text, sym same ∙ sym (take-append-drop count text)), put)

-- a front of a reply was put behind a text, with which a longer text begins
behind_front : (text front rest reply last : List ℕ) → reply ≡ front ++ rest → IsFront (text ++ front) ((text ++ reply) ++ last)
behind_front text front rest reply last whole = (
  rest ++ last,
  ap (λ l. (text ++ l) ++ last) whole ∙ ap (λ l. l ++ last) (sym (append_assoc text front rest)) ∙ append_assoc (text ++ front) rest last,
)

module _ {S : Type 0} (serves : S → ℕ → Option (List ℕ) → Answer → S → Type 0) where
  -- a run goes on by one line
  pub run_more : (n m : ℕ) (old mid new : S) (taken : List (List ℕ)) (line text : List ℕ) (tally : Tally) (reply : Answer) → m ≡ n + length taken → Runs serves n old taken text tally mid → serves mid m (Some line) reply new
      → Runs serves n old (taken ++ line ∷ []) (text ++ reply.text) (added tally reply.tally) new
  run_more n m old mid new [] line text tally reply place (none, zero_tally, same) served =
      let here : m ≡ n = omega arith in (
        reply,
        new,
        [],
        no_tally,
        subst (λ k. serves old k (Some line) reply new) here (subst (λ s. serves s m (Some line) reply new) same served),
        ap (λ l. l ++ reply.text) none ∙ sym (append-nil reply.text),
        ap (λ t. added t reply.tally) zero_tally ∙ added_comm no_tally reply.tally,
        (refl, refl, refl),
      )
  run_more n m old mid new (first ∷ more) line text tally reply place (answer, state, rest, others, answered, text_is, tally_is, run) served =
      let next : m ≡ n + 1 + length more = omega arith in (
        answer,
        state,
        rest ++ reply.text,
        added others reply.tally,
        answered,
        ap (λ l. l ++ reply.text) text_is ∙ append_assoc answer.text rest reply.text,
        ap (λ t. added t reply.tally) tally_is ∙ added_assoc answer.tally others reply.tally,
        run_more (n + 1) m state mid new more line rest others reply next run served,
      )

  -- a run begins
  pub begins : (start : S) (script contents : Option (List ℕ)) → Underway serves start script contents 1 no_tally start script contents
  begins start script contents =
      record { taken = []; text = []; many = refl; ran = (refl, refl, refl); read = nothing_taken script; printed_so_far = Appends-nil contents }

module _ {S : Type 0} (serves : S → ℕ → Option (List ℕ) → Answer → S → Type 0) (halts : S → ℕ → Option (List ℕ) → Halt → S → Type 0) where
  -- a line was taken and answered
  pub goes_on : (start old new : S) (script contents come left before after : Option (List ℕ)) (n : ℕ) (tally sum : Tally) → n ≤ 2 ^ 20 → Underway serves start script contents n tally old come before
      → TakesOne serves halts n tally old new come left (Ok sum) before after → Underway serves start script contents (n + 1) sum new left after
  goes_on start old new script contents come left before after n tally sum within so_far (inr (inl (at_end, ends))) = absurd ends
  goes_on start old new script contents come left before after n tally sum within so_far (inr (inr (none, kept, quiet))) = absurd none
  goes_on start old new script contents come left before after n tally sum within so_far (inl (line, takes, (reply, served, (sum_is, put)))) =
      record {
        taken = so_far.taken ++ line ∷ [];
        text = so_far.text ++ reply.text;
        many = ap (λ m. m + 1) (length_more so_far.taken line ∙ so_far.many);
        ran = subst (λ t. Runs serves 1 start (so_far.taken ++ line ∷ []) (so_far.text ++ reply.text) t new) (sym sum_is) (run_more serves 1 n start old new so_far.taken line so_far.text tally reply (omega (arith, so_far.many)) so_far.ran served);
        read = one_more script come left so_far.taken line n so_far.many within so_far.read takes;
        printed_so_far = Appends-trans contents before after so_far.text reply.text so_far.printed_so_far put;
      }

  -- a line was taken and answered: had the sink not failed, the source might have
  unprinted : (start old new : S) (script contents come left before : Option (List ℕ)) (n : ℕ) (tally : Tally) (line : List ℕ) (reply : Answer) → n ≤ 2 ^ 20 → (so_far : Underway serves start script contents n tally old come before)
      → TakesLine come left line → serves old n (Some line) reply new → Answers serves halts start script SourceFault (so_far.text ++ reply.text) new
  unprinted start old new script contents come left before n tally line reply within so_far takes served =
      let read = one_more script come left so_far.taken line n so_far.many within so_far.read takes in (
        so_far.taken ++ line ∷ [],
        added tally reply.tally,
        run_more serves 1 n start old new so_far.taken line so_far.text tally reply (omega (arith, so_far.many)) so_far.ran served,
        are_first script left (so_far.taken ++ line ∷ []) read,
      )

  -- the script's end was answered behind the lines
  ran_out : (start old new : S) (script contents come before : Option (List ℕ)) (n : ℕ) (tally sum : Tally) (reply : Answer) → (so_far : Underway serves start script contents n tally old come before) → serves old n None reply new
      → sum ≡ added tally reply.tally → RunsOut serves start so_far.taken (so_far.text ++ reply.text) sum new
  ran_out start old new script contents come before n tally sum reply so_far served is =
      (so_far.text, tally, old, reply, so_far.ran, subst (λ k. serves old k None reply new) (sym so_far.many) served, refl, is)

  -- where the run ended at line n
  pub stops : (start old new : S) (script contents come left before after : Option (List ℕ)) (n : ℕ) (tally : Tally) (end : End) → n ≤ 2 ^ 20 → Underway serves start script contents n tally old come before
      → TakesOne serves halts n tally old new come left (Err end) before after → Stops serves halts start new script contents after end
  stops start old new script contents come left before after n tally (Done sum) within so_far (inl (line, takes, answers)) = absurd answers
  stops start old new script contents come left before after n tally SourceFault within so_far (inl (line, takes, answers)) = absurd answers
  stops start old new script contents come left before after n tally (TooLong m) within so_far (inl (line, takes, answers)) = absurd answers
  stops start old new script contents come left before after n tally (Halted halt) within so_far (inl (line, takes, (halted, quiet))) =
      let read = one_more script come left so_far.taken line n so_far.many within so_far.read takes in (
        so_far.text,
        Appends-kept contents before after so_far.text so_far.printed_so_far quiet,
        (so_far.taken, tally, old, so_far.ran, inl (line, are_first script left (so_far.taken ++ line ∷ []) read, subst (λ k. halts old k (Some line) halt new) (sym so_far.many) halted)),
      )
  stops start old new script contents come left before after n tally SinkFault within so_far (inl (line, takes, (reply, served, (front, (rest, whole), put)))) =
      let answers = unprinted start old new script contents come left before n tally line reply within so_far takes served in (
        so_far.text ++ front,
        Appends-trans contents before after so_far.text front so_far.printed_so_far put,
        (SourceFault, (so_far.text ++ reply.text) ++ last_line SourceFault, (so_far.text ++ reply.text, refl, answers), behind_front so_far.text front rest reply.text (last_line SourceFault) whole),
      )
  stops start old new script contents come left before after n tally (Done sum) within so_far (inr (inl (at_end, (reply, served, (sum_is, put))))) = (
    so_far.text ++ reply.text,
    Appends-trans contents before after so_far.text reply.text so_far.printed_so_far put,
    (so_far.taken, ran_out start old new script contents come before n tally sum reply so_far served sum_is, is_whole script come so_far.taken n so_far.many within so_far.read at_end),
  )
  stops start old new script contents come left before after n tally (Halted halt) within so_far (inr (inl (at_end, (halted, quiet)))) = (
    so_far.text,
    Appends-kept contents before after so_far.text so_far.printed_so_far quiet,
    (
      so_far.taken,
      tally,
      old,
      so_far.ran,
      inr (inl (is_whole script come so_far.taken n so_far.many within so_far.read at_end, subst (λ k. halts old k None halt new) (sym so_far.many) halted)),
    ),
  )
  stops start old new script contents come left before after n tally SinkFault within so_far (inr (inl (at_end, (reply, served, (front, (rest, whole), put))))) =
      let sum : Tally = added tally reply.tally in (
        so_far.text ++ front,
        Appends-trans contents before after so_far.text front so_far.printed_so_far put,
        (
          Done sum,
          (so_far.text ++ reply.text) ++ last_line (Done sum),
          (
            so_far.text ++ reply.text,
            refl,
            (so_far.taken, ran_out start old new script contents come before n tally sum reply so_far served refl, is_whole script come so_far.taken n so_far.many within so_far.read at_end),
          ),
          behind_front so_far.text front rest reply.text (last_line (Done sum)) whole,
        ),
      )
  stops start old new script contents come left before after n tally SourceFault within so_far (inr (inl (at_end, ends))) = absurd ends
  stops start old new script contents come left before after n tally (TooLong m) within so_far (inr (inl (at_end, ends))) = absurd ends
  stops start old new script contents come left before after n tally (Done sum) within so_far (inr (inr (none, kept, quiet))) = absurd none
  stops start old new script contents come left before after n tally (Halted halt) within so_far (inr (inr (none, kept, quiet))) = absurd none
  stops start old new script contents come left before after n tally SinkFault within so_far (inr (inr (none, kept, quiet))) = absurd none
  stops start old new script contents come left before after n tally SourceFault within so_far (inr (inr (none, kept, quiet))) = (
    so_far.text,
    Appends-kept contents before after so_far.text so_far.printed_so_far quiet,
    (so_far.taken, tally, subst (Runs serves 1 start so_far.taken so_far.text tally) (sym kept) so_far.ran, are_first script come so_far.taken so_far.read),
  )
  stops start old new script contents come left before after n tally (TooLong m) within so_far (inr (inr ((same, long), kept, quiet))) = (
    so_far.text,
    Appends-kept contents before after so_far.text so_far.printed_so_far quiet,
    (so_far.taken, tally, subst (Runs serves 1 start so_far.taken so_far.text tally) (sym kept) so_far.ran, subst (Exceeds script so_far.taken) (sym same) (line_exceeds script come so_far.taken n so_far.many within so_far.read long)),
  )

  -- where memory was wanted before the first line
  pub no_reader : (start : S) (script contents : Option (List ℕ)) → Stops serves halts start start script contents contents (Halted Memory)
  no_reader start script contents = ([], Appends-nil contents, ([], no_tally, start, (refl, refl, refl), inr (inr (refl, refl, refl))))

  -- where line 2^20 was answered
  pub full : (start state : S) (script contents come put : Option (List ℕ)) (n : ℕ) (tally : Tally) → n ≡ 2 ^ 20 + 1 → Underway serves start script contents n tally state come put → Stops serves halts start state script contents put (TooLong (2 ^ 20))
  full start state script contents come put n tally last so_far =
      (so_far.text, so_far.printed_so_far, (so_far.taken, tally, so_far.ran, count_exceeds script come so_far.taken (2 ^ 20) (omega (arith, so_far.many)) refl so_far.read))

  -- what was put before the last line, and then a front of that line
  front_of_last : (start new : S) (script : Option (List ℕ)) (end : End) (text : List ℕ) (count : ℕ) → HasPut serves halts start script end text new → Prints serves halts start script SinkFault (text ++ take count (last_line end)) new
  front_of_last start new script (Done tally) text count put = (Done tally, text ++ last_line (Done tally), (text, refl, put), front_of text (last_line (Done tally)) count)
  front_of_last start new script SourceFault text count put = (SourceFault, text ++ last_line SourceFault, (text, refl, put), front_of text (last_line SourceFault) count)
  front_of_last start new script SinkFault text count put = subst (λ l. Prints serves halts start script SinkFault l new) (sym (ap (λ l. text ++ l) (take-nil count) ∙ append-nil text)) put
  front_of_last start new script (Halted halt) text count put = (Halted halt, text ++ last_line (Halted halt), (text, refl, put), front_of text (last_line (Halted halt)) count)
  front_of_last start new script (TooLong n) text count put = (TooLong n, text ++ last_line (TooLong n), (text, refl, put), front_of text (last_line (TooLong n)) count)

  whole_last : (start new : S) (script : Option (List ℕ)) (end : End) (text : List ℕ) → HasPut serves halts start script end text new → Prints serves halts start script end (text ++ last_line end) new
  whole_last start new script (Done tally) text put = (text, refl, put)
  whole_last start new script SourceFault text put = (text, refl, put)
  whole_last start new script SinkFault text put = subst (λ l. Prints serves halts start script SinkFault l new) (sym (append-nil text)) put
  whole_last start new script (Halted halt) text put = (text, refl, put)
  whole_last start new script (TooLong n) text put = (text, refl, put)

  -- the last line was put, or a front of it
  pub says : (start new : S) (script contents before after : Option (List ℕ)) (end result : End) → Stops serves halts start new script contents before end → PutsLast end result before after → Says serves halts start new script contents after result
  says start new script contents before after end result (text, printed_so_far, put) (inl (same, last)) = (
    text ++ last_line end,
    Appends-trans contents before after text (last_line end) printed_so_far last,
    subst (λ e. Prints serves halts start script e (text ++ last_line end) new) (sym same) (whole_last start new script end text put),
  )
  says start new script contents before after end result (text, printed_so_far, put) (inr (failed, count, within, last)) = (
    text ++ take count (last_line end),
    Appends-trans contents before after text (take count (last_line end)) printed_so_far last,
    subst (λ e. Prints serves halts start script e (text ++ take count (last_line end)) new) (sym failed) (front_of_last start new script end text count put),
  )
