-- `ways::trying::try_letter` meets its contract: no swap is allowed, or one, which is added.
use Rattle.std.proofs.Common.{◌+◌, get_or}
use Rattle.ways.specs.State.{list_of, entry_at}
use Rattle.ways.proofs.Relations.{none_fits, one_fits}
use Rattle.ways.proofs.trying.try_letter.Goals as goal

pub add-requires : goal.add-requires
add-requires c =
    let q = c.requires in
    ((q.size, q.work, q.busy), (c.in-Some.ensures q.size q.work q.busy q.named).0)

pub returns-in-None-clause-tried : goal.returns-in-None-clause-tried
returns-in-None-clause-tried c size g t r = none_fits g _ c.args.held t _ c.requires.inside _ (c.in-None.ensures size g t r)

pub returns-in-Some-clause-tried : goal.returns-in-Some-clause-tried
returns-in-Some-clause-tried c size g t r =
    let e = entry_at c.args.offset (get_or c.args.area.now (c.args.held.word + c.args.offset) 0) c.args.b in
    one_fits g _ c.args.held t _ c.requires.inside _ (list_of t) c.add.new.area c.add.result
    (c.add.ensures.added size g t e (c.in-Some.ensures size g t r).1)
