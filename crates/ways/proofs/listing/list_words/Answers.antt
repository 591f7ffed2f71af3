-- `ways::listing::list_words` meets its contract: words are tried until none is untried.
use Rattle.std.proofs.Common.{Some, None, sym, arith}
use lib.Seq.{length-take-le}
use Rattle.ways.proofs.Tasks.{first_inside, next_count, all_listed}
use Rattle.ways.proofs.listing.list_words.Goals as goal

pub slice_bounds-first_untried-end : goal.slice_bounds-first_untried-end
slice_bounds-first_untried-end c = (c.loop-end.invariant c.requires.0 c.requires.1).1.spells.fits

pub slice_bounds-first_untried-end-in-loop-end : goal.slice_bounds-first_untried-end-in-loop-end
slice_bounds-first_untried-end-in-loop-end c =
    let l = c.loop-end in
    sym (length-take-le l.used l.area (l.invariant c.requires.0 c.requires.1).1.spells.fits)

pub try_next-requires : goal.try_next-requires
try_next-requires c =
    let l = c.loop-end in
    let t = l.invariant c.requires.0 c.requires.1 in
    let f = first_inside l.area l.used (Some _) t.1.spells.fits c.in-Some.ensures in
    record { task = c.requires.0; count = l.words; state = t; found = f.0; inside = f.1 }

pub returns-in_err-used-clause-listed : goal.returns-in_err-used-clause-listed
returns-in_err-used-clause-listed c k t =
    let l = c.loop-end in
    rw c.from_residual.ensures (c.in_err-used.ensures.tried k l.words (l.invariant k t))

pub overflow_add-words : goal.overflow_add-words
overflow_add-words c =
    let k = c.requires.0 in
    let l = c.loop-end in
    let t = l.invariant k c.requires.1 in
    let f = first_inside l.area l.used (Some _) t.1.spells.fits c.in-Some.ensures in
    omega (arith, next_count k _ _ _ t _ f.1 f.0)

pub loop-end-smaller : goal.loop-end-smaller
loop-end-smaller c =
    let k = c.requires.0 in
    let l = c.loop-end in
    let t = l.invariant k c.requires.1 in
    let f = first_inside l.area l.used (Some _) t.1.spells.fits c.in-Some.ensures in
    omega (arith, next_count k _ _ _ t _ f.1 f.0, c.try_next.ensures.length)

pub returns-clause-listed : goal.returns-clause-listed
returns-clause-listed c k t₀ =
    let l = c.loop-end in
    let t = l.invariant k t₀ in
    all_listed k l.area l.used l.words t.0 t.1 l.used (first_inside l.area l.used None t.1.spells.fits c.in_default.ensures) (omega arith)
