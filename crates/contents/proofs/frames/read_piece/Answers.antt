use Rattle.std.proofs.Common.{◌≡◌, ◌+◌, ◌<◌, ◌≤◌, ◌^◌, ◌∙◌, ℕ, List, [], drop, ◌∷◌, get_or, ap, subst, sym, length, true, arith}
use Rattle.std.specs.List.{AllByRecursion}
use Rattle.kinds.specs.declared.segment.Segment.{Segment}
use Rattle.volume_frames.specs.Frames.{bytes_len}
use Rattle.contents.specs.Reading.{lies_in_file, segments_in}
use Rattle.contents.proofs.Looking.{from_place}
use Rattle.contents.proofs.Piecing.{going_failed, going_over, length_in, others_in}
use Rattle.contents.proofs.frames.read_piece.Goals as goal

pub returns-in-Err-clause-told : goal.returns-in-Err-clause-told
returns-in-Err-clause-told g c =
    going_failed (Unit {0}) (Unit {0}) c.args.segments.now _ c.segments.start c.args.offset c.segments.into c.read_over.new.into c.in-Err.unread _ _ _ c.segments.invariant.told c.in-Err.ensures.told

pub segments-preserved : goal.segments-preserved
segments-preserved g c =
    let inv = c.segments.invariant in
    let all = c.args.segments.now in
    let i = c.segments.segment-index in
    let start = c.segments.start in
    let offset = c.args.offset in
    let count = length c.args.into.now in
    let d : Segment = record { file = 0; offset = 0; len = 0 } in
    let s : Segment = get_or all i d in
    let rest = drop (i + 1) all in
    let split = from_place all i d c.segments-test.true in
    let begins : start + bytes_len (s ∷ rest) ≡ bytes_len all = ap (λ (l : List Segment). start + bytes_len l) (sym split) ∙ inv.begins in
    let first = subst (λ (n : ℕ). g.S.Store.moment_of c.read_over.new.store ≤ g.S.Store.moment_of c.segments.store + length (segments_in start offset n (s ∷ []))) inv.len c.read_over.ensures.brief in
    let parted = ap (λ (l : List Segment). length (segments_in start offset count l)) split in
    let counted = length_in start offset count s rest in
    record {
      told = going_over all i d start offset c.segments-test.true inv.begins {T = Unit {0}} c.segments.into c.read_over.new.into tt _ _ _ c.read_over.ensures.len
          (omega (arith, c.requires.room, c.read_over.ensures.len, inv.len)) c.read_over.ensures.before inv.told c.in-Ok.ensures.told;
      begins = omega (arith, begins);
      len = c.read_over.ensures.len ∙ inv.len;
      brief = omega (arith, inv.brief, first, parted, counted);
      later = omega (arith, inv.later, c.read_over.ensures.later);
      counts = λ file. omega (arith, inv.counts file, c.read_over.ensures.counts file);
      places = (subst (λ (l : List Segment). AllByRecursion (λ x. x.offset + 32 + x.len < 2 ^ 64) l) split inv.places).1;
      among = λ file h. (subst (λ (l : List Segment). (f : ℕ) → lies_in_file (segments_in start offset count l) f ≡ true → lies_in_file
          (segments_in 0 offset count all) f ≡ true) split inv.among) file (others_in start offset count s rest file h);
    }
