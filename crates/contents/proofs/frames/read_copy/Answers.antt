use Rattle.std.proofs.Common.{◌≡◌, ◌+◌, ◌<◌, ◌^◌, ◌∙◌, ℕ, List, drop, ◌∷◌, get_or, ap, subst, sym, length, true, arith}
use Rattle.std.specs.List.{AllByRecursion}
use Rattle.kinds.specs.declared.segment.Segment.{Segment}
use Rattle.volume_frames.specs.Frames.{bytes_len}
use Rattle.contents.specs.Reading.{lies_in_file}
use Rattle.contents.proofs.Looking.{among_next, from_place, going_at, going_failed, going_over}
use Rattle.contents.proofs.frames.read_copy.Goals as goal

pub returns-in-Err-clause-told : goal.returns-in-Err-clause-told
returns-in-Err-clause-told g c = going_failed (Unit {0}) (Unit {0}) c.args.segments.now _ (drop c.segments.segment-index c.args.segments.now) c.segments.at c.segments.into _ c.read_part.new.into c.in-Err.unread _ _ _ c.segments.invariant.told c.in-Err.ensures.told

pub segments-preserved : goal.segments-preserved
segments-preserved g c =
    let inv = c.segments.invariant in
    let all = c.args.segments.now in
    let i = c.segments.segment-index in
    let d : Segment = record { file = 0; offset = 0; len = 0 } in
    let s : Segment = get_or all i d in
    let split = from_place all i d c.segments-test.true in
    let room : c.segments.at + bytes_len (s ∷ drop (i + 1) all) ≡ length c.segments.into = ap (λ (l : List Segment). c.segments.at + bytes_len l) (sym split) ∙ inv.room in
    record {
      told = going_at all i d c.segments.at c.segments.into c.read_part.new.into _ _ _ _ c.segments-test.true (omega (arith, room, c.read_part.ensures.len)) c.read_part.ensures.before inv.told c.in-Ok.ensures.told;
      room = omega (arith, room, c.read_part.ensures.len);
      len = c.read_part.ensures.len ∙ inv.len;
      time = omega (arith, inv.time, c.read_part.ensures.time);
      later = omega (arith, inv.later, c.read_part.ensures.later);
      counts = λ file. omega (arith, inv.counts file, c.read_part.ensures.counts file);
      places = (subst (λ (l : List Segment). AllByRecursion (λ x. x.offset + 32 < 2 ^ 64) l) split inv.places).1;
      among = among_next all s (drop (i + 1) all) (subst (λ (l : List Segment). (file : ℕ) → lies_in_file l file ≡ true → lies_in_file all file ≡ true) split inv.among);
    }

pub returns-clause-told : goal.returns-clause-told
returns-clause-told g c = going_over c.args.segments.now c.segments.segment-index c.segments.at c.segments.into _ _ _ c.segments-test.false c.segments.invariant.room c.segments.invariant.told
