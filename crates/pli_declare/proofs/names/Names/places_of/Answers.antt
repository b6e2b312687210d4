use Rattle.std.proofs.Common.{ℕ, List, [], map, ap, ◌∙◌, Option, Vec}
use Rattle.std.specs.Option.{option_map_or}
use Rattle.std.specs.declared.alloc.Global.{Global}
use Rattle.pli_declare.specs.Shown.{declaration_of}
use Rattle.pli_declare.proofs.Choices.{index_at}
use Rattle.pli_declare.proofs.names.Names.places_of.Goals as goal

pub returns-in-Some : goal.returns-in-Some
returns-in-Some c =
    let ds = map declaration_of c.args.self.now.declarations.items in
    let items : Option (Vec ℕ Global) → List ℕ = λ o. option_map_or (λ v. v.items) o [] in
    c.deref.ensures.value ∙ ap items c.in-Some.ensures.value ∙ index_at c.args.self.now.places ds c.args.self.now.indexed c.args.name.now

pub returns-in-None : goal.returns-in-None
returns-in-None c =
    let ds = map declaration_of c.args.self.now.declarations.items in
    let items : Option (Vec ℕ Global) → List ℕ = λ o. option_map_or (λ v. v.items) o [] in
    ap items c.in-None.ensures.value ∙ index_at c.args.self.now.places ds c.args.self.now.indexed c.args.name.now
