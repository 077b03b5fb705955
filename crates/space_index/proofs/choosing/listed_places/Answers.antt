use Rattle.std.proofs.Common.{◌≡◌, ◌∙◌, ◌++◌, [], ℕ, List, Option, unwrap_or, sym, ap, rules}
use Rattle.std.specs.List.{flat_map}
use Rattle.space.specs.declared.piece.Piece.{Piece}
use Rattle.space.specs.Pieces.{filled}
use Rattle.space_index.specs.Listed.{rooms_at}
use Rattle.space_index.specs.Choosing.{other_pieces, preferred_pieces, listed_pieces}
use Rattle.space_index.proofs.Fills.{fill_begin, fill_step, fill_end}
use Rattle.space_index.proofs.choosing.listed_places.Goals as goal

pub files-init : goal.files-init
files-init c =
    let i = c.args.index.now in
    let r = c.args.request.now in
    let f : ℕ × ℕ → List Piece = other_pieces i r.prefer r.avoid in
    let rows : c.into_iter-file-iterator.result ≡ c.as_map-file-items.result.now.entries = search rules in
    let them : c.into_iter-file-iterator.result ≡ rooms_at c.args.number i.pools.entries =
    rows ∙ c.as_map-file-items.ensures ∙ ap (λ (o : Option (List (ℕ × ℕ))). unwrap_or o []) c.in-Some.ensures.value in
    ap (λ (l : List (ℕ × ℕ)). c.push_preferred.new.out.items ++ filled c.in_ok-rest.rest (flat_map f l)) them
    ∙ fill_begin r.size c.in_ok-rest.rest c.new-out.result.items c.push_preferred.new.out.items (preferred_pieces i c.args.number r.prefer r.avoid) (flat_map f (rooms_at c.args.number i.pools.entries))
    c.new-out.ensures.items c.in_ok-rest.ensures.pieces c.in_ok-rest.ensures.left

pub returns-then-rest-eq0 : goal.returns-then-rest-eq0
returns-then-rest-eq0 c =
    let i = c.args.index.now in
    let r = c.args.request.now in
    fill_end c.files.rest c.files.out.items (flat_map (other_pieces i r.prefer r.avoid) c.files.file-iterator) (filled r.size (listed_pieces i c.args.number r.prefer r.avoid)) c.if-rest-eq0.true c.files.invariant

pub files-preserved : goal.files-preserved
files-preserved c =
    let i = c.args.index.now in
    let r = c.args.request.now in
    let f : ℕ × ℕ → List Piece = other_pieces i r.prefer r.avoid in
    let here : List Piece = f (c.in-Some-2.file.now, c.in-Some-2.bytes.now) in
    let behind : List Piece = flat_map f c.next.new.self in
    ap (λ (n : ℕ). c.push_other.new.out.items ++ filled n behind) c.in_ok-rest-2.ensures.left
    ∙ fill_step c.files.rest c.files.out.items c.push_other.new.out.items here behind (filled r.size (listed_pieces i c.args.number r.prefer r.avoid)) c.in_ok-rest-2.ensures.pieces
    (ap (λ (l : List (ℕ × ℕ)). c.files.out.items ++ filled c.files.rest (flat_map f l)) (sym c.in-Some-2.ensures.steps) ∙ c.files.invariant)
