-- The count and the filling are laid out.
use Rattle.chain_listing.proofs.Framing.{prepared}
use Rattle.chain_listing.proofs.listing.prepare.Goals as goal

pub returns : goal.returns
returns c =
    let a = c.args in
    prepared a.size a.total a.answer.now c.write_field.new.bytes c.write_field-2.new.bytes c.requires.2 c.position-end.result c.position-end.ensures
    c.write_field.ensures c.write_field-2.ensures
