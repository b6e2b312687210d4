use Rattle.std.proofs.Common.{◌≤◌, length, ap, arith}
use Rattle.std.specs.Prelude.{reverse}
use Rattle.pli_entries.proofs.Stacks.{as_many}
use Rattle.pli_entries.proofs.Tops.{sunk_is, sunk_placed}
use Rattle.pli_entries.proofs.entries.Entries.sink_text.Goals as goal

pub sink-requires : goal.sink-requires
sink-requires c =
    let many = as_many c.self.inside.texts (reverse c.self.inside.aggregates.items) in
    let is = ap length c.self.view_is in
    omega (arith, many, is, c.requires.inside)

pub invariant_of-self : goal.invariant_of-self
invariant_of-self c =
    let many = as_many c.self.inside.texts (reverse c.self.inside.aggregates.items) in
    let is = ap length c.self.view_is in
    let low : c.args.height ≤ length c.self.inside.texts = omega (arith, many, is, c.requires.inside) in
    sunk_placed c.args.height c.self.inside.texts c.sink.new.self (reverse c.self.inside.aggregates.items) (reverse c.keep_below.new.aggregates.items) c.self.invariant low c.sink.ensures c.keep_below.ensures

pub returns : goal.returns
returns c = sunk_is c.args.height c.self.inside.texts c.sink.new.self (reverse c.self.inside.aggregates.items) (reverse c.keep_below.new.aggregates.items) c.args.self.now c.self.invariant c.self.view_is c.requires.text c.requires.inside c.sink.ensures c.keep_below.ensures
