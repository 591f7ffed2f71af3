-- What comes of a pair: it is open, its relation offends, or its two sides are entered.
use Rattle.std.proofs.Common.{arith}
use Rattle.cells.proofs.Kept.{cell_inside, swap_letters}
use Rattle.mirrors.proofs.Entering.{open_done, short_there, short_back, ends_named, alike_done, taken_done, entered_done}
use Rattle.mirrors.proofs.mirror.mirror_pair.Goals as goal

pub returns-then-cells-there-clause-pair : goal.returns-then-cells-there-clause-pair
returns-then-cells-there-clause-pair c =
    open_done c.args.cells.now c.args.a c.args.b c.cell_at-there.result c.cell_at-there.ensures (omega arith) c.args.mirror.now

pub last_letter-p-requires : goal.last_letter-p-requires
last_letter-p-requires c =
    short_there c.cell_at-there.ensures c.cell_at-back.ensures
    (λ e. omega arith) c.requires.table

pub last_letter-q-requires : goal.last_letter-q-requires
last_letter-q-requires c =
    short_back c.cell_at-there.ensures c.cell_at-back.ensures
    (λ e. omega arith) c.requires.table

pub returns-then-p-q-clause-pair : goal.returns-then-p-q-clause-pair
returns-then-p-q-clause-pair c =
    alike_done c.cell_at-there.ensures c.cell_at-back.ensures
    (λ e. omega arith) c.last_letter-p.ensures c.last_letter-q.ensures (omega arith) c.args.mirror.now

-- the letters in which the two sides end
pub cell_at-to-requires : goal.cell_at-to-requires
cell_at-to-requires c =
    ends_named c.cell_at-there.ensures c.cell_at-back.ensures
    (λ e. omega arith) c.last_letter-p.ensures c.last_letter-q.ensures c.requires.table

pub bounds-mirror-to : goal.bounds-mirror-to
bounds-mirror-to c =
    omega (
      arith,
      cell_inside c.last_letter-p.result c.last_letter-q.result
          (ends_named c.cell_at-there.ensures c.cell_at-back.ensures (λ e. omega arith) c.last_letter-p.ensures c.last_letter-q.ensures c.requires.table),
    )

pub returns-then-mirror-to-clause-pair : goal.returns-then-mirror-to-clause-pair
returns-then-mirror-to-clause-pair c =
    taken_done c.cell_at-there.ensures c.cell_at-back.ensures
    (λ e. omega arith) c.last_letter-p.ensures c.last_letter-q.ensures (λ e. omega arith) c.args.mirror.now
    c.cell_at-to.result c.cell_at-to.ensures (λ e. omega arith)

pub put_backward-requires-clause-side : goal.put_backward-requires-clause-side
put_backward-requires-clause-side c =
    short_there c.cell_at-there.ensures c.cell_at-back.ensures
    (λ e. omega arith) c.requires.table

pub cell_at-requires : goal.cell_at-requires
cell_at-requires c =
    swap_letters _ _
    (ends_named c.cell_at-there.ensures c.cell_at-back.ensures (λ e. omega arith) c.last_letter-p.ensures c.last_letter-q.ensures c.requires.table)

pub put_backward-requires-2-clause-side : goal.put_backward-requires-2-clause-side
put_backward-requires-2-clause-side c =
    short_back c.cell_at-there.ensures c.cell_at-back.ensures
    (λ e. omega arith) c.requires.table

pub put_backward-requires-2-clause-room : goal.put_backward-requires-2-clause-room
put_backward-requires-2-clause-room c =
    let n = ends_named c.cell_at-there.ensures c.cell_at-back.ensures (λ e. omega arith) c.last_letter-p.ensures c.last_letter-q.ensures c.requires.table in
    omega (arith, cell_inside c.last_letter-q.result c.last_letter-p.result (swap_letters _ _ n))

pub returns-clause-pair : goal.returns-clause-pair
returns-clause-pair c =
    entered_done c.cell_at-there.ensures c.cell_at-back.ensures
    (λ e. omega arith) c.last_letter-p.ensures c.last_letter-q.ensures (λ e. omega arith) c.args.mirror.now
    c.cell_at-to.result c.cell_at-to.ensures (omega arith) c.cell_at.result c.cell_at.ensures c.put_backward.new.mirror c.put_backward-2.new.mirror
    c.put_backward.ensures c.put_backward-2.ensures
