-- The bobbins, and behind them the totals of as many pairs as there are.
use Rattle.std.proofs.Common.{◌≡◌, ◌++◌, ◌*◌, ◌-◌, ◌/◌, length, take, drop, ap, ◌∙◌, arith, rules}
use Rattle.model.specs.Enumeration.{concat_map}
use Rattle.model.specs.Bed.{total_bytes}
use Rattle.model.proofs.Positions.{pairs_product, pairs_many}
use Rattle.bed.proofs.TwoBytes.{end_put}
use Rattle.bed.proofs.Answering.{bed_written}
use Rattle.bed.proofs.writing.write_bed.Goals as goal

pub returns-clause-bed : goal.returns-clause-bed
returns-clause-bed c =
    let v = c.args.bed.now in
    let old = c.args.area.now in
    let n = v.places in
    let count = n * (n - 1) / 2 in
    let bs = take n v.bobbins in
    let bytes = concat_map total_bytes (take count v.totals) in
    let long : length (take v.places v.bobbins) ≡ v.places = search rules in
    let copied : c.copy_bytes.new.area ≡ take v.places v.bobbins ++ drop v.places old =
    c.copy_bytes.ensures.bytes ∙ ap (λ k. take v.places v.bobbins ++ drop k old) long in
    bed_written v count old _ (omega (arith, pairs_product n c.requires.0, pairs_many n))
    (end_put bs bytes old c.write_totals.new.area n c.copy_bytes.new.area long copied c.write_totals.ensures.totals)
