use Rattle.std.proofs.Common.{◌∙◌, ◌<◌, length, sym, arith}
use Rattle.rv_assembly.proofs.Growing.{place_within, size_put, fit_put, view_put}
use Rattle.rv_assembly.proofs.code.Code.patch.Goals as goal

pub index_mut-requires : goal.index_mut-requires
index_mut-requires c =
    let within : c.args.place.index < length c.self.inside.items.items = place_within c.self.inside.items.items c.args.self.now _ c.args.place c.self.view_is c.requires.kept in
    omega arith

pub invariant_of-self : goal.invariant_of-self
invariant_of-self c = record {
  sized = c.self.invariant.sized ∙ sym (size_put c.self.inside.items.items c.args.self.now c.args.place c.args.item c.self.view_is c.requires.kept);
  small = c.self.invariant.small;
  fit = fit_put c.self.inside.items.items c.args.place.index c.args.item c.self.invariant.fit c.requires.fits;
}

pub returns : goal.returns
returns c = view_put c.self.inside.items.items c.args.self.now c.args.place c.args.item c.self.view_is
