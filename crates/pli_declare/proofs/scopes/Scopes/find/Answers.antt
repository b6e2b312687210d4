use Rattle.std.proofs.Common.{◌≡◌, ◌++◌, ◌∷◌, [], ℕ, List, Option, Some, None, map, sym, ap, ◌∙◌, Bor}
use Rattle.std.proofs.lemmas.List.{map-append}
use Rattle.std.specs.Prelude.{slice_get}
use Rattle.pli_language.specs.Declarations.{Block}
use Rattle.pli_language.specs.Means.{means_from, around_of}
use Rattle.pli_declare.specs.declared.scope.Block.{Block as BlockHeld}
use Rattle.pli_declare.specs.Among.{letters_of}
use Rattle.pli_declare.specs.ShownBlocks.{block_of}
use Rattle.pli_declare.proofs.Choices.{names_split, around_ended, got, got_none}
use Rattle.pli_declare.proofs.scopes.Scopes.find.Goals as goal

pub returns-in-Some-get : goal.returns-in-Some-get
returns-in-Some-get c =
    let held : List BlockHeld = c.args.self.now.blocks.items in
    let blocks : List Block = map block_of held in
    let qs = letters_of c.in-Some.qualifiers.now in
    let last = c.in-Some.last.now.now in
    let names : letters_of c.args.names.now ≡ qs ++ last ∷ [] = ap letters_of c.in-Some.ensures.cases.0 ∙ map-append (λ (n : Bor (List ℕ)). n.now) c.in-Some.qualifiers.now (c.in-Some.last.now ∷ []) in
    let home : slice_get blocks c.args.block ≡ Some (block_of c.in-Some-get.home.now) = got block_of c.deref.result.now held c.args.block c.in-Some-get.home.now c.deref.ensures.value c.in-Some-get.ensures.lookup.3.0 c.in-Some-get.ensures.lookup.1 in
    c.found_around.ensures
    ∙ ap (λ (u : List BlockHeld). means_from (map block_of u) c.deref-in-Some-get-2.result.now qs last) c.deref-in-Some-get.ensures.value
    ∙ ap (λ (u : List ℕ). means_from blocks u qs last) c.deref-in-Some-get-2.ensures.value
    ∙ ap (λ (o : Option Block). means_from blocks (around_of o) qs last) (sym home)
    ∙ sym (names_split blocks c.args.block (letters_of c.args.names.now) qs last names)

pub returns-in-None : goal.returns-in-None
returns-in-None c =
    let held : List BlockHeld = c.args.self.now.blocks.items in
    let blocks : List Block = map block_of held in
    let qs = letters_of c.in-Some.qualifiers.now in
    let last = c.in-Some.last.now.now in
    let names : letters_of c.args.names.now ≡ qs ++ last ∷ [] = ap letters_of c.in-Some.ensures.cases.0 ∙ map-append (λ (n : Bor (List ℕ)). n.now) c.in-Some.qualifiers.now (c.in-Some.last.now ∷ []) in
    let home : slice_get blocks c.args.block ≡ None = got_none block_of c.deref.result.now held c.args.block c.deref.ensures.value c.in-None.ensures.lookup.3 in
    around_ended blocks qs last
    ∙ ap (λ (o : Option Block). means_from blocks (around_of o) qs last) (sym home)
    ∙ sym (names_split blocks c.args.block (letters_of c.args.names.now) qs last names)
