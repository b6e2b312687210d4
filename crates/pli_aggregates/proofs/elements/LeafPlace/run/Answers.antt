use Rattle.std.proofs.Common.{◌≡◌, ◌<◌, ◌∙◌, ◌*◌, ap₂, arith, length, map}
use Rattle.pli_typing.specs.Signatures.{capped, element_count}
use Rattle.pli_types.specs.View.{pair_of}
use Rattle.pli_meaning.specs.Contents.{element_place}
use Rattle.pli_signatures.specs.View.{leaf_in_force}
use Rattle.pli_aggregates.proofs.Running.{capped_both, given_past, given_there, past_given, past_rows, split_bounds, split_length, standing_so}
use Rattle.pli_aggregates.proofs.elements.LeafPlace.run.Goals as goal

pub returns-in_default : goal.returns-in_default
returns-in_default c =
    let l = c.args.self.now in
    let given = c.args.given.now in
    let left = map pair_of c.args.left.now in
    let front = c.split_at.result.0.now in
    let back = c.split_at.result.1.now in
    let parts = split_bounds l.allocated.bounds.items c.as_slice-bounds.result.now front back (length given) c.as_slice-bounds.ensures c.split_at.ensures.front c.split_at.ensures.back in
    let long = split_length c.as_slice-bounds.result.now front (length given) c.split_at.ensures.front c.if-given-bounds.false in
    let some : 0 < element_count left = omega (arith, c.requires.some, c.requires.count) in
    past_given (leaf_in_force l.allocated) (map pair_of front) (map pair_of back) left given parts long (given_past (map pair_of front) given c.in_default.ensures) some

pub returns-in-Some-run_from : goal.returns-in-Some-run_from
returns-in-Some-run_from c =
    let l = c.args.self.now in
    let given = c.args.given.now in
    let left = map pair_of c.args.left.now in
    let front = c.split_at.result.0.now in
    let back = c.split_at.result.1.now in
    let pre = map pair_of front in
    let own = map pair_of back in
    let parts = split_bounds l.allocated.bounds.items c.as_slice-bounds.result.now front back (length given) c.as_slice-bounds.ensures c.split_at.ensures.front c.split_at.ensures.back in
    let long = split_length c.as_slice-bounds.result.now front (length given) c.split_at.ensures.front c.if-given-bounds.false in
    let there = given_there pre given c.in-Some.place c.in-Some.ensures in
    let rows : c.saturating_mul-rows.result ≡ capped (element_place pre given * element_count own) =
    c.saturating_mul-rows.ensures ∙ ap₂ (λ x y. capped (x * y)) there.1 c.element_count.ensures ∙ capped_both (element_place pre given) (element_count own) in
    standing_so l pre own left given c.in-Some-run_from.run' parts long there.0 c.in-Within.ensures.0 c.in-Within.ensures.1
    (c.in-Some-run_from.ensures (element_place pre given * element_count own) (element_count left) rows c.requires.count)

pub returns-in-Past : goal.returns-in-Past
returns-in-Past c =
    let l = c.args.self.now in
    let given = c.args.given.now in
    let left = map pair_of c.args.left.now in
    let front = c.split_at.result.0.now in
    let back = c.split_at.result.1.now in
    let parts = split_bounds l.allocated.bounds.items c.as_slice-bounds.result.now front back (length given) c.as_slice-bounds.ensures c.split_at.ensures.front c.split_at.ensures.back in
    let long = split_length c.as_slice-bounds.result.now front (length given) c.split_at.ensures.front c.if-given-bounds.false in
    let there = given_there (map pair_of front) given c.in-Some.place c.in-Some.ensures in
    let some : 0 < element_count left = omega (arith, c.requires.some, c.requires.count) in
    past_rows (leaf_in_force l.allocated) (map pair_of front) (map pair_of back) left given parts long there.0 c.in-Past.ensures.0 c.in-Past.ensures.1 some
