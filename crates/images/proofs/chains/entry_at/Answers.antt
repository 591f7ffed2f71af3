-- An entry of an accepted chain stands where its number says.
use Rattle.images.proofs.Entries.{entry_there, entry_answer}
use Rattle.images.proofs.chains.entry_at.Goals as goal

pub read_entry-requires : goal.read_entry-requires
read_entry-requires c = entry_there c.args.image.now c.args.size c.args.i c.requires

pub returns : goal.returns
returns c = entry_answer c.args.image.now c.args.size c.args.i c.requires c.read_entry.result c.read_entry.ensures
