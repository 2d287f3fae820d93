use Rattle.std.proofs.Common.{◌∙◌, arith}
use Rattle.shelf.proofs.Runs.{start_is, start_within, sizes_sixteen}
use Rattle.shelf.proofs.rack.Rack.start.Goals as goal

pub start_of-requires : goal.start_of-requires
start_of-requires c =
    let l = c.requires.1.lies in
    (omega (arith, sizes_sixteen l), omega (arith, start_is l c.args.slot.number, start_within l c.args.slot.number c.args.slot.low))

pub returns : goal.returns
returns c =
    let l = c.requires.1.lies in
    record {
      is = λ s h. c.start_of.ensures ∙ start_is h.lies c.args.slot.number;
      within = omega (arith, start_is l c.args.slot.number, start_within l c.args.slot.number c.args.slot.low);
    }
