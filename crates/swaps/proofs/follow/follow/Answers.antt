-- The next entry is followed, or it ends the chain.
use Rattle.std.proofs.Common.{◌∙◌, sym, ap, subst, arith, length, get_or, Ok, Err}
use Rattle.model.specs.Range.{InRange}
use Rattle.images.proofs.RoundTrip.{chain_in_range}
use Rattle.cells.proofs.Rules.{of_few}
use Rattle.swaps.specs.Held.{held_at}
use Rattle.swaps.specs.Entry.{AppliedAs}
use Rattle.swaps.specs.declared.entry.Unfit.TheVariants.{Breaks, Short}
use Rattle.swaps.proofs.Applying.{held_length}
use Rattle.swaps.proofs.Following.{blank, entry_in_range, the_entries, follow_end, follow_breaks, follow_short, follow_on}
use Rattle.swaps.proofs.follow.follow.Goals as goal

pub apply-requires : goal.apply-requires
apply-requires c =
    let f = c.requires.entries in
    let z = c.entry_at-entry.ensures f.entries f.read in
    let q = entry_in_range c.args.size f.entries c.loop-i.i (omega arith)
    (chain_in_range c.args.size (of_few c.requires.sized.1) c.args.chain.now f.entries f.read).entries in
    record {
      placed = c.loop-i.invariant.0;
      sized = c.requires.sized;
      a_names = subst (λ e. InRange c.args.size e.a) (sym z) q.a_names;
      b_names = subst (λ e. InRange c.args.size e.b) (sym z) q.b_names;
    }

pub returns-in-Err-Breaks-clause-followed : goal.returns-in-Err-Breaks-clause-followed
returns-in-Err-Breaks-clause-followed c T o es e v =
    let l = c.loop-i in
    let k = c.in-Err-Breaks in
    let left = rw k.field-0-is at k.ensures in
    l.invariant.1 T o es e v
    ∙ follow_breaks T _ _ es v l.i (omega (arith, ap length (the_entries c.requires.entries es e)))
    (subst (λ x. AppliedAs T (held_at l.bytes l.at.left l.at.right) x c.apply.new.bytes (Err Breaks)) (c.entry_at-entry.ensures es e) (left.applied T o))

pub returns-in-Err-Short-clause-followed : goal.returns-in-Err-Short-clause-followed
returns-in-Err-Short-clause-followed c T o es e v =
    let l = c.loop-i in
    let k = c.in-Err-Short in
    let left = rw k.field-0-is at k.ensures in
    let q : AppliedAs T (held_at l.bytes l.at.left l.at.right) (get_or es l.i blank) c.apply.new.bytes (Err Short) =
    subst (λ x. AppliedAs T (held_at l.bytes l.at.left l.at.right) x c.apply.new.bytes (Err Short)) (c.entry_at-entry.ensures es e) (left.applied T o) in
    l.invariant.1 T o es e v
    ∙ follow_short T _ _ es v l.i (omega (arith, ap length (the_entries c.requires.entries es e))) q.longer q.leads (omega (arith, q.long))

pub loop-i-preserved : goal.loop-i-preserved
loop-i-preserved c =
    let l = c.loop-i in
    let k = c.in-Ok in
    let t = c.requires.sized in
    let placed = (k.ensures.applied t.0 t.1).placed in (
      placed,
      λ T o es e v.
          let q : AppliedAs T (held_at l.bytes l.at.left l.at.right) (get_or es l.i blank) c.apply.new.bytes (Ok k.next) =
          subst (λ x. AppliedAs T (held_at l.bytes l.at.left l.at.right) x c.apply.new.bytes (Ok k.next)) (c.entry_at-entry.ensures es e)
          (k.ensures.applied T o) in
          l.invariant.1 T o es e v
          ∙ follow_on T _ _ es v l.i (omega (arith, ap length (the_entries c.requires.entries es e))) _ q.leads
          (omega (arith, held_length c.apply.new.bytes k.next.left k.next.right placed, placed.ordered, placed.inside)),
    )

pub returns-clause-followed : goal.returns-clause-followed
returns-clause-followed c T o es e =
    let l = c.loop-i in
    (l.invariant.0, λ v. l.invariant.1 T o es e v ∙ follow_end T _ _ es v l.i (omega (arith, ap length (the_entries c.requires.entries es e))))
