-- `ways::ways::list_program` meets its contract: the program's word is put in the area, and the listing grown from it is whole, or too long.
use Rattle.std.proofs.Common.{arith, refl, length, ◌∙◌}
use lib.ListN.{length-map, length-set}
use Rattle.model.specs.Word.{forward, positive}
use Rattle.cells.proofs.Rules.{of_some, of_few}
use Rattle.ways.specs.Marks.{untried}
use Rattle.ways.proofs.Service.{task, first_too_long, begun, long_answers, whole_answers}
use Rattle.ways.proofs.ways.list_program.Goals as goal

pub returns-then-answer-letters : goal.returns-then-answer-letters
returns-then-answer-letters c T p u e =
    let a = c.args in
    let before = a.answer.now in
    let short = first_too_long a.cells.now a.size a.program.now a.count c.requires.forward T p u e (length before) c.if-answer-letters.true in
    rw c.wipe.ensures (long_answers a.cells.now a.size a.program.now a.count c.requires.forward T p u e before before short refl)

pub unpack_letters-requires : goal.unpack_letters-requires
unpack_letters-requires c =
    let f = c.requires.forward in
    let o = c.requires.passed.of in (
      record {
        some = of_some o;
        few = of_few o;
        program = record { word = positive f.word; read = f.read_signed; count_is = length-map f.word forward ∙ f.count_is };
      },
      omega arith,
    )

pub list_words-requires : goal.list_words-requires
list_words-requires c =
    let a = c.args in
    let q = c.requires in
    let f = q.forward in (
      task a.cells.now a.size a.program.now a.count f q.table q.passed f.word f.read a.answer.now,
      begun a.cells.now a.size a.program.now a.count f q.table q.passed f.word f.read a.answer.now c.unpack_letters.new.area
          c.if-answer-letters.false c.unpack_letters.ensures.bytes,
    )

pub returns-in-None : goal.returns-in-None
returns-in-None c T p u e =
    let a = c.args in
    let f = c.requires.forward in
    let before = a.answer.now in
    let loaded = c.unpack_letters.new.area in
    let start = begun a.cells.now a.size a.program.now a.count f T p u e before loaded c.if-answer-letters.false c.unpack_letters.ensures.bytes in
    let long = c.in-None.ensures.listed (task a.cells.now a.size a.program.now a.count f T p u e before) start in
    let same = c.in-None.ensures.length ∙ (length-set loaded a.count untried ∙ c.unpack_letters.ensures.length) in
    rw c.wipe-in-None.ensures (long_answers a.cells.now a.size a.program.now a.count f T p u e before c.list_words.new.area long same)

pub returns-in-Some : goal.returns-in-Some
returns-in-Some c T p u e =
    let a = c.args in
    let f = c.requires.forward in
    let before = a.answer.now in
    let loaded = c.unpack_letters.new.area in
    let start = begun a.cells.now a.size a.program.now a.count f T p u e before loaded c.if-answer-letters.false c.unpack_letters.ensures.bytes in
    let whole = c.in-Some.ensures.listed (task a.cells.now a.size a.program.now a.count f T p u e before) start in
    let same = c.in-Some.ensures.length ∙ (length-set loaded a.count untried ∙ c.unpack_letters.ensures.length) in
    whole_answers a.cells.now a.size a.program.now a.count f T p u e before c.list_words.new.area c.in-Some.listed same whole
