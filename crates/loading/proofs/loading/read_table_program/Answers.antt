-- A table and a program were read: they are loaded as the services take them.
use Rattle.loading.proofs.Reading.{loaded_as}
use Rattle.loading.proofs.loading.read_table_program.Goals as goal

pub returns : goal.returns
returns c =
    let p = c.in_ok-read.read in
    loaded_as c.args.table.now c.args.program.now c.in_ok-size.ensures.table p.count p.weight c.args.signs p.forward c.in_ok-read.ensures
