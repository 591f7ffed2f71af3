-- `ways::trying::try_place` meets its contract: the letters are tried one after the other.
use Rattle.std.proofs.Common.{arith, ◌+◌}
use Rattle.ways.specs.State.{list_of}
use Rattle.ways.proofs.Trials.{letters_begun, letters_more, letters_whole}
use Rattle.ways.proofs.trying.try_place.Goals as goal

pub loop-b-init : goal.loop-b-init
loop-b-init c g t = letters_begun g c.args.offset c.args.area.now c.args.held t

pub try_letter-requires : goal.try_letter-requires
try_letter-requires c =
    let g = c.requires.0.0 in
    let t = c.requires.0.1 in
    let p = c.loop-b.invariant g t in
    record {
      size = c.args.size;
      work = g;
      busy = p.busy;
      inside = omega (arith, t.letters_is, p.busy.letters_is);
      named = record { low = omega arith; high = omega arith };
    }

pub returns-in_err-now-clause-tried : goal.returns-in_err-now-clause-tried
returns-in_err-now-clause-tried c g t =
    let p = c.loop-b.invariant g t in
    rw c.from_residual.ensures (c.in_err-now.ensures.tried c.args.size g p.busy (record { low = omega arith; high = omega arith }))

pub loop-b-preserved : goal.loop-b-preserved
loop-b-preserved c g t =
    let a = c.args in
    let p = c.loop-b.invariant g t in
    letters_more g (list_of t) a.offset c.loop-b.b c.loop-b.area c.try_letter.new.area c.loop-b.now c.in_ok-now.now p
    (c.in_ok-now.ensures.tried a.size g p.busy (record { low = omega arith; high = omega arith }))

-- the last letter was tried
pub returns-in_ok-now-clause-tried : goal.returns-in_ok-now-clause-tried
returns-in_ok-now-clause-tried c g t =
    let a = c.args in
    let p = c.loop-b.invariant g t in
    letters_whole g (list_of t) a.offset (c.loop-b.b + 1) c.try_letter.new.area c.in_ok-now.now (omega arith)
    (letters_more g (list_of t) a.offset c.loop-b.b c.loop-b.area c.try_letter.new.area c.loop-b.now c.in_ok-now.now p
    (c.in_ok-now.ensures.tried a.size g p.busy (record { low = omega arith; high = omega arith })))

-- there is none
pub returns-clause-tried : goal.returns-clause-tried
returns-clause-tried c g t =
    letters_whole g (list_of t) c.args.offset c.loop-b.b c.loop-b.area c.loop-b.now (omega arith) (c.loop-b.invariant g t)
