-- The bobbins are two of the bed's, their total fits, and the struct shows the bed after the crossing.
use Rattle.std.proofs.Common.{◌≡◌, ◌-◌, length, get_or, sym, ◌∙◌, arith, rules}
use lib.IntN.{pos}
use Rattle.std.proofs.lemmas.List.Edits.{swap_is}
use Rattle.bed.proofs.Crossing.{bobbin_in, bobbins_two, total_inside, total_within, sum_fits, sum_stored, crossed_shows}
use Rattle.bed.proofs.moves.Bed.cross.Goals as goal

pub total_index-at-requires : goal.total_index-at-requires
total_index-at-requires c =
    let v = c.args.self.now in
    let h = c.requires.0 in
    let i = c.args.i in (
      bobbin_in v h.bed h.shown (i - 1) (omega (arith, h.high)),
      bobbin_in v h.bed h.shown i h.high,
      bobbins_two v h.bed h.shown (i - 1) i (omega (arith, h.low)) h.high,
      h.shown.small,
    )

pub overflow_add-self : goal.overflow_add-self
overflow_add-self c =
    let v = c.args.self.now in
    let h = c.requires.0 in
    let at = c.total_index-at.result in
    let inside = total_inside v h.bed h.shown c.args.i at h.low h.high c.total_index-at.ensures.0 in
    sum_fits (get_or v.totals at (pos 0)) c.args.change (total_within v h.bed h.shown at inside) c.requires.1

pub returns : goal.returns
returns c B s =
    let v = c.args.self.now in
    let h = c.requires.0 in
    let i = c.args.i in
    let at = c.total_index-at.result in
    let inside = total_inside v B s i at h.low h.high c.total_index-at.ensures.0 in
    let long : length v.bobbins ≡ 17 = search rules in
    crossed_shows v B s i at h.low h.high c.total_index-at.ensures.0 c.swap.new.self
    (c.swap.ensures.after ∙ sym (swap_is v.bobbins (i - 1) i 0 (omega (arith, h.high, s.small)) (omega (arith, h.high, s.small)))) _ c.args.change
    (sum_stored (get_or v.totals at (pos 0)) c.args.change (total_within v B s at inside) c.requires.1)
