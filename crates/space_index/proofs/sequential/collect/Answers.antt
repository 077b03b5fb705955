use Rattle.std.proofs.Common.{◌+◌, ◌-◌, ◌^◌, ◌<◌, ◌≤◌, ℕ, subst, rules, arith}
use Rattle.space_index.specs.Sequential.{view, listed_by, behind, IsNext, IsNextOrNone}
use Rattle.space_index.proofs.Numbers.{ascends_sorted}
use Rattle.space_index.proofs.Serving.{collect_begin, collect_step, collect_end, collect_enough}
use Rattle.space_index.proofs.sequential.collect.Goals as goal

smaller : (last file : ℕ) → last ≤ file → file < 2 ^ 32 → 2 ^ 32 - (file + 1) < 2 ^ 32 - last
smaller last file le lt = omega (arith, le, lt)

pub files-init : goal.files-init
files-init c = collect_begin (view c.args.pools.now c.args.tails.now.held.entries c.args.number c.args.request.now.actor) (listed_by c.args.turn c.args.tails.now.lists c.args.number c.args.request.now.actor) c.args.near.now.entries c.args.size

pub files-preserved : goal.files-preserved
files-preserved c =
    let see = view c.args.pools.now c.args.tails.now.held.entries c.args.number c.args.request.now.actor in
    let rooms = listed_by c.args.turn c.args.tails.now.lists c.args.number c.args.request.now.actor in
    collect_step see rooms c.args.near.now.entries c.files.near.entries c.collect_one.new.near.entries c.args.size c.files.rest c.in_ok-rest.rest (behind c.files.last) (c.in-Some.file, c.in-Some.bytes) c.files.invariant
    (subst (λ o. IsNextOrNone rooms (behind c.files.last) o) c.in-Some.is c.next_of.ensures) c.in_ok-rest.ensures.known c.in_ok-rest.ensures.left

pub files-smaller : goal.files-smaller
files-smaller c =
    let next : IsNext (listed_by c.args.turn c.args.tails.now.lists c.args.number c.args.request.now.actor) (behind c.files.last) (c.in-Some.file, c.in-Some.bytes) =
    subst (λ o. IsNextOrNone (listed_by c.args.turn c.args.tails.now.lists c.args.number c.args.request.now.actor) (behind c.files.last) o) c.in-Some.is c.next_of.ensures in
    smaller (behind c.files.last) c.in-Some.file next.above c.in_ok-rest.ensures.few

pub returns-in_default-clause-served : goal.returns-in_default-clause-served
returns-in_default-clause-served c = λ g sites all sorted begun part.
    let see = view c.args.pools.now c.args.tails.now.held.entries c.args.number c.args.request.now.actor in
    let rooms = listed_by c.args.turn c.args.tails.now.lists c.args.number c.args.request.now.actor in
    collect_end see rooms c.args.near.now.entries c.files.near.entries c.args.size c.files.rest (behind c.files.last) c.files.invariant g part begun sites all (ascends_sorted sites sorted) (ascends_sorted c.files.near.entries c.len-len.ensures.ordered)
    (subst (λ o. IsNextOrNone rooms (behind c.files.last) o) c.in_default.is c.next_of.ensures)

pub returns-clause-served : goal.returns-clause-served
returns-clause-served c = λ g sites all sorted begun part.
    let see = view c.args.pools.now c.args.tails.now.held.entries c.args.number c.args.request.now.actor in
    let rooms = listed_by c.args.turn c.args.tails.now.lists c.args.number c.args.request.now.actor in
    collect_enough see rooms c.args.near.now.entries c.files.near.entries c.args.size c.files.rest (behind c.files.last) c.files.invariant g part begun sites all (ascends_sorted sites sorted) (ascends_sorted c.files.near.entries c.len-len-2.ensures.ordered) (search rules)
