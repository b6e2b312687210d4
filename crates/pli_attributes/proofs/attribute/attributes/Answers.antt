use Rattle.std.proofs.Common.{arith, ◌≡◌, map, refl, sym, ap, ◌∙◌, subst, List, [], ◌∷◌, ◌++◌, ℕ}
use Rattle.std.proofs.lemmas.Result.{err_from_is_err_and}
use Rattle.std.proofs.lemmas.List.{map_push}
use Rattle.pli_language.specs.View.{attribute_of}
use Rattle.pli_language.specs.Tree as T
use Rattle.pli_phrase.specs.Cursor.{Cursor}
use Rattle.pli_phrase.specs.View.{cursor_of}
use Rattle.pli_attributes.specs.Reading.{attribute_from, attributes_from}
use Rattle.pli_attributes.proofs.Posts.{post_is}
use Rattle.pli_attributes.proofs.AttributeLaws.{attribute_post}
use Rattle.pli_attributes.proofs.Loops.{OnAttributes, fails_on, attributes_start, attributes_on, attributes_fail, attributes_end}
use Rattle.pli_attributes.proofs.attribute.attributes.Goals as goal

pub further-init : goal.further-init
unfolding attributes_from
further-init c =
    let s : List ℕ = c.args.source.now in
    let at : Cursor = cursor_of c.args.cursor in
    let e : map attribute_of c.new-attributes.result.items ≡ [] = ap (map attribute_of) c.new-attributes.ensures.items in
    subst (λ u. OnAttributes s u at (attributes_from s at)) (sym e) (attributes_start s (attributes_from s at) at refl)

pub returns-in_err-attribute : goal.returns-in_err-attribute
returns-in_err-attribute c =
    let s : List ℕ = c.args.source.now in
    let at : Cursor = cursor_of c.args.cursor in
    let front : List T.Attribute = map attribute_of c.further.attributes.items in
    let rest : Cursor = cursor_of c.further.rest in
    let p = err_from_is_err_and c.from_residual.result c.from_residual.ensures.1 in
    rw (p.1, p.2) (fails_on c.in_err-attribute.field-0.0 (attribute_from s rest) (attributes_from s at) c.in_err-attribute.ensures (attributes_fail s (attributes_from s at) front rest c.further.invariant (sym c.further-test.ensures)))

pub further-smaller : goal.further-smaller
further-smaller c =
    let s : List ℕ = c.args.source.now in
    let rest : Cursor = cursor_of c.further.rest in
    let l = (post_is (attribute_post s rest) c.in_ok-attribute.ensures).shorter in
    omega (arith, l)

pub further-preserved : goal.further-preserved
further-preserved c =
    let s : List ℕ = c.args.source.now in
    let at : Cursor = cursor_of c.args.cursor in
    let front : List T.Attribute = map attribute_of c.further.attributes.items in
    let rest : Cursor = cursor_of c.further.rest in
    let x : T.Attribute × Cursor = (attribute_of c.in_ok-attribute.attribute, cursor_of c.in_ok-attribute.after) in
    let l = (post_is (attribute_post s rest) c.in_ok-attribute.ensures).shorter in
    let w = attributes_on s (attributes_from s at) front rest x c.further.invariant (sym c.further-test.ensures) c.in_ok-attribute.ensures l in
    let e : map attribute_of c.push.new.self.items ≡ front ++ x.0 ∷ [] = ap (map attribute_of) c.in_ok-push.ensures.items ∙ map_push attribute_of c.further.attributes.items c.in_ok-attribute.attribute in
    subst (λ u. OnAttributes s u x.1 (attributes_from s at)) (sym e) w

pub returns : goal.returns
returns c =
    let s : List ℕ = c.args.source.now in
    let at : Cursor = cursor_of c.args.cursor in
    let front : List T.Attribute = map attribute_of c.further.attributes.items in
    attributes_end s (attributes_from s at) front (cursor_of c.further.rest) c.further.invariant (sym c.further-test.ensures)
