use Rattle.std.proofs.Common.{length}
use Rattle.heap_tree.proofs.Loading.{from_start}
use Rattle.plotter.proofs.Told.{only_room}
use Rattle.plotter.proofs.Seeing.{text_is, tells}
use Rattle.plotter.proofs.blocks.plot_entries.Goals as goal

pub returns : goal.returns
returns c =
    let text = c.args.text.now in
    let es = c.args.entries.now in
    let is = from_start (length es) _ _ c.packed_places-places.ensures.places in
    let s = c.packed_places-places.ensures.seen in
    record {
      writes = only_room text es _ _ c.args.out.now _ _ c.requires.short c.requires.named is (text_is text es _ s) c.write_placements.ensures.writes;
      tells = tells text es _ _ _ _ is s c.write_placements.ensures.read_back;
    }
