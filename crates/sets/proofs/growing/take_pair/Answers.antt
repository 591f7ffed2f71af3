-- The pair is too long, or is reversed, and each ending says what comes of it.
use Rattle.std.proofs.Common.{arith}
use Rattle.sets.proofs.Pairing.{pair_long, pair_fits, pair_at_ends, pair_growing, pair_open, pair_stopped, pair_numerator, pair_behind, pair_room, pair_added}
use Rattle.sets.proofs.growing.take_pair.Goals as goal

pub returns-then-room-u-clause-taken : goal.returns-then-room-u-clause-taken
returns-then-room-u-clause-taken c T vs p q after stops =
    pair_long q c.args.budget (omega (arith, c.split_at_mut-listing.ensures.back_len, q.growing.lists.inside)) after

pub returns-then-room-u-2-clause-taken : goal.returns-then-room-u-2-clause-taken
returns-then-room-u-2-clause-taken c T vs p q after stops =
    pair_long q c.args.budget (omega (arith, c.split_at_mut-listing.ensures.back_len, q.growing.lists.inside)) after

pub load_pair-requires : goal.load_pair-requires
load_pair-requires c =
    let s = c.split_at_mut-listing.ensures in
    pair_fits c.requires.3 c.args.budget s.front s.back c.if-room-u.false c.if-room-u-2.false

pub reverse_pair-requires : goal.reverse_pair-requires
reverse_pair-requires c =
    let s = c.split_at_mut-listing.ensures in
    (c.requires.0, _, _, pair_at_ends c.requires.3 c.args.budget s.front s.back c.if-room-u.false c.if-room-u-2.false c.load_pair.ensures)

pub add_word-requires : goal.add_word-requires
add_word-requires c =
    let q = c.requires.3 in
    let s = c.split_at_mut-listing.ensures in
    let fu = c.if-room-u.false in
    let fv = c.if-room-u-2.false in
    let l = c.load_pair.ensures in
    let v = c.reverse_pair.ensures in
    let e = c.in-Finished in
    let m = pair_numerator q c.args.budget s.front s.back fu fv l v.length v.reverses e.numerator e.denominator e.steps e.relations e.is in (
      (c.requires.0.size, c.requires.1, pair_growing q c.args.budget s.front s.back fu fv l v.length v.reverses),
      pair_room q c.args.budget s.front s.back fu fv l v.length v.reverses m,
    )

pub returns-in-Finished-clause-taken : goal.returns-in-Finished-clause-taken
returns-in-Finished-clause-taken c T vs p q =
    let s = c.split_at_mut-listing.ensures in
    let fu = c.if-room-u.false in
    let fv = c.if-room-u-2.false in
    let l = c.load_pair.ensures in
    let v = c.reverse_pair.ensures in
    let e = c.in-Finished in
    let a = c.add_word in
    let m = pair_numerator q c.args.budget s.front s.back fu fv l v.length v.reverses e.numerator e.denominator e.steps e.relations e.is in
    pair_added q c.args.budget s.front s.back fu fv l v.length v.reverses m a.new.area a.result
    (a.ensures.added T.size vs (pair_growing q c.args.budget s.front s.back fu fv l v.length v.reverses) m.word
    (pair_behind q c.args.budget s.front s.back fu fv l v.length v.reverses m) m.named)

pub returns-in-Undefined-clause-taken : goal.returns-in-Undefined-clause-taken
returns-in-Undefined-clause-taken c T vs p q after stops =
    let s = c.split_at_mut-listing.ensures in
    let v = c.reverse_pair.ensures in
    let e = c.in-Undefined in
    pair_open q c.args.budget s.front s.back c.if-room-u.false c.if-room-u-2.false c.load_pair.ensures v.length v.reverses e.pair e.steps e.is after

pub returns-in-Stopped-clause-taken : goal.returns-in-Stopped-clause-taken
returns-in-Stopped-clause-taken c T vs p q after stops =
    let s = c.split_at_mut-listing.ensures in
    let v = c.reverse_pair.ensures in
    let e = c.in-Stopped in
    pair_stopped q c.args.budget s.front s.back c.if-room-u.false c.if-room-u-2.false c.load_pair.ensures v.length v.reverses e.stop e.is after
