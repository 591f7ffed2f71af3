-- What was put is the report of the refusal, or of the answer.
use Rattle.std.proofs.Common.{◌≡◌, ◌+◌, ◌≤◌, ◌∙◌, List, ℕ, ap₂, length, take, arith}
use lib.Seq.{length-take-le}
use Rattle.text.specs.Text.{bytes_text, answer_text}
use Rattle.images.proofs.Letters.{count_small}
use Rattle.text.proofs.Rendering.{reported, refused_report, fraction_fits, answer_report}
use Rattle.text.proofs.render.render_accepted.Goals as goal

pub unpack_letters-requires : goal.unpack_letters-requires
unpack_letters-requires c =
    let a = c.args in
    let q = c.requires.1.program_read in
    (q, omega (arith, c.requires.0.workspace_length, count_small a.program.now a.loaded.size a.loaded.count q, c.reverse.auto.workspace))

-- the parts that are put are as long as they are told to be
record Long (count n d : ℕ) (workspace numerator behind : List ℕ) : Type 0 where
  pub letters : length (take count workspace) ≡ count
  pub numerator_is : length numerator ≡ n
  pub denominator_is : length (take d behind) ≡ d

long : (count n d : ℕ) (workspace numerator behind : List ℕ) (answer : ℕ) → count ≤ length workspace → length numerator ≡ n → length behind + n ≡ answer
    → n + d ≤ answer → Long count n d workspace numerator behind
long count n d workspace numerator behind answer inside front back fits =
    record {
      letters = length-take-le count workspace inside;
      numerator_is = front;
      denominator_is = length-take-le d behind (omega (arith, back, fits));
    }

pub put_answer-requires : goal.put_answer-requires
put_answer-requires c =
    let a = c.args in
    let areas = c.requires.0 in
    let r = c.in-Ok.reversed in
    let few = count_small a.program.now a.loaded.size a.loaded.count c.requires.1.program_read in
    let fits = fraction_fits a.table.now a.program.now a.loaded.size a.loaded.count c.requires.1 (length a.workspace.now) (length a.answer.now)
    areas.workspace_length areas.answer_length r.numerator r.denominator r.steps c.in-Ok.ensures.stated a.answer.now c.reverse.new.answer
    c.in-Ok.ensures.answer_is c.reverse.auto.answer in
    let l = long a.loaded.count r.numerator r.denominator c.unpack_letters.new.area c.split_at.result.0.now c.split_at.result.1.now
    (length c.reverse.new.answer) (omega (arith, few, c.unpack_letters.ensures.length, c.reverse.auto.workspace, areas.workspace_length))
    c.split_at.ensures.front_len c.split_at.ensures.back_len fits in
    omega (arith, few, fits, l.letters, l.numerator_is, l.denominator_is, c.reverse.auto.answer, areas.answer_length, areas.room)

pub returns-in-Err : goal.returns-in-Err
returns-in-Err c =
    let a = c.args in
    let areas = c.requires.0 in
    reported c.put_refusal.ensures (omega (arith, areas.room))
    (refused_report a.table.now a.program.now a.loaded.size a.loaded.count c.requires.1 (length a.workspace.now) (length a.answer.now)
    areas.workspace_length areas.answer_length c.in-Err.refused c.in-Err.ensures.stated)

pub returns-in-Ok : goal.returns-in-Ok
returns-in-Ok c =
    let a = c.args in
    let areas = c.requires.0 in
    let r = c.in-Ok.reversed in
    let few = count_small a.program.now a.loaded.size a.loaded.count c.requires.1.program_read in
    let fits = fraction_fits a.table.now a.program.now a.loaded.size a.loaded.count c.requires.1 (length a.workspace.now) (length a.answer.now)
    areas.workspace_length areas.answer_length r.numerator r.denominator r.steps c.in-Ok.ensures.stated a.answer.now c.reverse.new.answer
    c.in-Ok.ensures.answer_is c.reverse.auto.answer in
    let l = long a.loaded.count r.numerator r.denominator c.unpack_letters.new.area c.split_at.result.0.now c.split_at.result.1.now
    (length c.reverse.new.answer) (omega (arith, few, c.unpack_letters.ensures.length, c.reverse.auto.workspace, areas.workspace_length))
    c.split_at.ensures.front_len c.split_at.ensures.back_len fits in
    let text = bytes_text (take a.loaded.count c.unpack_letters.new.area) in
    reported c.put_answer.ensures
    (omega (arith, few, fits, l.letters, l.numerator_is, l.denominator_is, c.reverse.auto.answer, areas.answer_length, areas.room))
    (ap₂ (λ x y. answer_text a.loaded.size text x (take r.denominator y) r.steps) c.split_at.ensures.front c.split_at.ensures.back
    ∙ answer_report a.table.now a.program.now a.loaded.size a.loaded.count c.requires.1 (length a.workspace.now) (length a.answer.now)
    areas.workspace_length areas.answer_length r.numerator r.denominator r.steps c.in-Ok.ensures.stated a.answer.now c.reverse.new.answer
    c.in-Ok.ensures.answer_is c.reverse.new.workspace c.unpack_letters.new.area
    (c.unpack_letters.ensures.bytes c.requires.1.program_read.program.word c.requires.1.program_read.program.read))
