-- What the comparison said `same` of fits the workspace again, and is listed.
use Rattle.std.proofs.Common.{arith, length}
use Rattle.chaining.proofs.ChainService.{both_fit, asked, listable_loaded, listed_of}
use Rattle.chaining.proofs.chain.list_programs.Goals as goal

pub overflow_sub-right : goal.overflow_sub-right
overflow_sub-right c =
    let a = c.args in
    omega (arith, both_fit c.requires.programs a.workspace.now a.relations c.requires.same)

pub load_programs-requires-clause-room : goal.load_programs-requires-clause-room
load_programs-requires-clause-room c = both_fit c.requires.programs c.args.workspace.now c.args.relations c.requires.same

pub list-requires : goal.list-requires
list-requires c =
    let a = c.args in
    let l = c.load_programs in
    listable_loaded c.requires.programs a.workspace.now a.relations c.requires.same l.new.workspace l.ensures (length a.answer.now) c.requires.room

pub returns-clause-listed : goal.returns-clause-listed
returns-clause-listed c =
    let a = c.args in
    let l = c.load_programs in
    λ T o u v eu ev. listed_of T u v a.relations a.answer.now c.list.new.answer o.stands.few
    (c.list.ensures.listed T u v _
    (asked c.requires.programs a.workspace.now a.relations c.requires.same l.new.workspace l.ensures (length a.answer.now) c.requires.room T o u v eu ev))
