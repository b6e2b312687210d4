use Rattle.std.proofs.Common.{ℕ, List, [], map, ap, ◌∙◌, refl, Option, Vec}
use Rattle.std.specs.Option.{option_map_or}
use Rattle.std.specs.declared.alloc.Global.{Global}
use Rattle.pli_declare.specs.Among.{letters_of}
use Rattle.pli_declare.specs.Shown.{declaration_of}
use Rattle.pli_declare.proofs.Choices.{found_is, index_at}
use Rattle.pli_declare.proofs.names.Names.find.Goals as goal

pub returns-in-Some : goal.returns-in-Some
returns-in-Some c =
    let ds = map declaration_of c.args.self.now.declarations.items in
    let last = c.args.last.now in
    let items : Option (Vec ℕ Global) → List ℕ = λ o. option_map_or (λ v. v.items) o [] in
    found_is (letters_of c.args.qualifiers.now) last c.args.block ds _ c.deref-in-Some.result.now c.among.result (ap (map declaration_of) c.deref.ensures.value) (c.deref-in-Some.ensures.value ∙ ap items c.in-Some.ensures.value ∙ index_at c.args.self.now.places ds c.args.self.now.indexed last) c.among.ensures

pub returns-in-None : goal.returns-in-None
returns-in-None c =
    let ds = map declaration_of c.args.self.now.declarations.items in
    let last = c.args.last.now in
    let items : Option (Vec ℕ Global) → List ℕ = λ o. option_map_or (λ v. v.items) o [] in
    found_is (letters_of c.args.qualifiers.now) last c.args.block ds ds [] _ refl (ap items c.in-None.ensures.value ∙ index_at c.args.self.now.places ds c.args.self.now.indexed last) refl
