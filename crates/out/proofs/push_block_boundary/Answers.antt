use mathlib.Core.Path.{sym, ◌∙◌}
use native.Mathlib.Omega.{arith}
use Rattle.out.specs.State.{content_of}
use Rattle.out.proofs.EntryLaws.{known_small}
use Rattle.out.proofs.PendingLaws.{pushes_first, room_other, pushes_other, pushes_reverse}
use Rattle.out.proofs.PlaceLaws.{listed_places, entry_read, entry_small, place_fewer}
use Rattle.out.proofs.push_block_boundary.Goals as goal

pub append-requires : goal.append-requires
unfolding content_of
append-requires c = (omega arith, known_small c.requires.0 c.args.boundary c.requires.3)

pub returns-then-n-eq0 : goal.returns-then-n-eq0
unfolding content_of
returns-then-n-eq0 c = pushes_first _ _ _ _ c.requires.2 c.requires.3 c.if-n-eq0.true c.append.ensures

pub overflow_add-place : goal.overflow_add-place
unfolding content_of
overflow_add-place c = omega (arith, c.requires.2.few)

pub offset_bounds-c-place : goal.offset_bounds-c-place
unfolding content_of
offset_bounds-c-place c = omega (arith, c.requires.2.few)

pub bounds-c-place : goal.bounds-c-place
unfolding content_of
bounds-c-place c = omega (arith, c.requires.2.few)

pub overflow_cast-code : goal.overflow_cast-code
unfolding content_of
overflow_cast-code c =
    record { fits = entry_small _ c.args.c.now _ c.requires.0.few (c.requires.2.known _ (omega arith)) }

pub cancels-requires : goal.cancels-requires
unfolding content_of
cancels-requires c = (
  c.requires.0,
  c.requires.1,
  c.requires.3,
  rw (entry_read c.args.c.now _ c.unpack-last.ensures)
      (c.requires.2.known _ (omega arith)),
)

pub returns-then-cancels : goal.returns-then-cancels
unfolding content_of
returns-then-cancels c =
    pushes_reverse _ _ _ _ c.requires.2 c.requires.3 c.if-n-eq0.false (entry_read c.args.c.now _
    c.unpack-last.ensures) (sym c.cancels.ensures ∙ c.if-cancels.true) (place_fewer c.args.c.now
    (listed_places c.args.c.now c.requires.2))

pub append-requires-2 : goal.append-requires-2
unfolding content_of
append-requires-2 c = (
  room_other c.args.s.now _ _ c.args.boundary c.requires.2 c.requires.3 c.if-n-eq0.false (entry_read c.args.c.now _
      c.unpack-last.ensures) (sym c.cancels.ensures ∙ c.if-cancels.false) c.requires.4,
  known_small
      c.requires.0 c.args.boundary c.requires.3,
)

pub returns : goal.returns
unfolding content_of
returns c =
    pushes_other _ _ _ _ c.requires.2 c.requires.3 c.if-n-eq0.false (entry_read c.args.c.now _ c.unpack-last.ensures)
    (sym c.cancels.ensures ∙ c.if-cancels.false) c.requires.4 c.append-2.ensures
