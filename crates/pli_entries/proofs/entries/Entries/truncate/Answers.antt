use Rattle.std.proofs.Common.{◌≤◌, length, ap, arith}
use Rattle.std.specs.Prelude.{reverse}
use Rattle.pli_entries.proofs.Stacks.{as_many, cut_is, cut_placed}
use Rattle.pli_entries.proofs.entries.Entries.truncate.Goals as goal

pub truncate-requires : goal.truncate-requires
truncate-requires c =
    let many = as_many c.self.inside.texts (reverse c.self.inside.aggregates.items) in
    let is = ap length c.self.view_is in
    omega (arith, many, is, c.requires)

pub invariant_of-self : goal.invariant_of-self
invariant_of-self c =
    let many = as_many c.self.inside.texts (reverse c.self.inside.aggregates.items) in
    let is = ap length c.self.view_is in
    let low : c.args.height ≤ length c.self.inside.texts = omega (arith, many, is, c.requires) in
    cut_placed c.args.height c.self.inside.texts c.truncate.new.self (reverse c.self.inside.aggregates.items) (reverse c.keep_below.new.aggregates.items) c.self.invariant low c.truncate.ensures c.keep_below.ensures

pub returns : goal.returns
returns c =
    let many = as_many c.self.inside.texts (reverse c.self.inside.aggregates.items) in
    let is = ap length c.self.view_is in
    let low : c.args.height ≤ length c.self.inside.texts = omega (arith, many, is, c.requires) in
    cut_is c.args.height c.self.inside.texts c.truncate.new.self (reverse c.self.inside.aggregates.items) (reverse c.keep_below.new.aggregates.items) c.args.self.now c.self.invariant low c.truncate.ensures c.keep_below.ensures c.self.view_is
