use Rattle.std.proofs.Common.{◌∙◌, ap, length, map, refl}
use Rattle.std.proofs.lemmas.Option.{slice_get_past, slice_get_read}
use Rattle.pli_types.specs.View.{pair_of}
use Rattle.pli_order.proofs.Bounding.{bounds_missing, bounds_there}
use Rattle.pli_order.proofs.rows.bounds_of.Goals as goal

pub returns-in-Some : goal.returns-in-Some
returns-in-Some c =
    let leaves = c.args.leaves.now in
    let read = c.in-Some.ensures.lookup in
    let here = slice_get_read leaves (length leaves) c.args.leaf c.in-Some.found.now refl read.3.0 read.1 in
    ap (map pair_of) c.as_slice.ensures ∙ bounds_there leaves c.args.leaf c.in-Some.found.now here

pub returns-in-None : goal.returns-in-None
returns-in-None c = bounds_missing c.args.leaves.now c.args.leaf (slice_get_past c.args.leaves.now c.args.leaf c.in-None.ensures.lookup.3)
