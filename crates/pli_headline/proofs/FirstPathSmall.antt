-- The code of a program of the first path is short.
use Rattle.std.proofs.Common.{◌<◌, ◌≤◌, ◌^◌, length, sym, subst, arith}
use Rattle.pli_language.specs.declared.expr.Place.{Place}
use Rattle.pli_language.specs.Tree as T
use Rattle.pli_typing.specs.SingleStatements.{labels_in}
use Rattle.pli_typing.specs.Resolving.{typed_tree}
use Rattle.pli_coding.specs.Images.{code_of, linked_code}
use Rattle.pli_headline.specs.Headline.{parts}
use Rattle.pli_headline.specs.FirstPath.{SmallLines, items_weight, most_words, FirstPathSmall}
use Rattle.pli_headline.specs.FirstPathTrees.{main_items, IsFirstPath}
use Rattle.pli_headline.proofs.FirstPathDeclared.{Body, body_of}
use Rattle.pli_headline.proofs.FirstPathProved.{tree_with, length_plain, main_program, typed_is, program_proved}
use Rattle.pli_headline.proofs.FirstPathWeights.{body_light}
use Rattle.pli_headline.proofs.ProgramSizes.{program_most}

program_small : (label : T.Name) (place : Place) (body : T.Items) (b : Body body) → place.line < 2 ^ 31 → SmallLines body → length (linked_code (code_of parts (main_program label place b.names body))) ≤ most_words (items_weight body)
unfolding program_proved
program_small label place body b line l =
    let n = program_most (main_program label place b.names body) (program_proved label place b.names body b.holds line l) in
    let m = body_light label place b.names (labels_in body) 2 body b.holds in
    let k = length_plain b.names in
    let c = b.counted in
    omega (arith, n, m, k, c)

items_small : (items : T.Items) → IsFirstPath (tree_with items) → SmallLines items → length (linked_code (code_of parts (typed_tree (tree_with items)))) ≤ most_words (items_weight items)
items_small items f l =
    let lines = subst (λ is. SmallLines is) f.is l in
    let b = body_of f.body f.holds in
    let n = program_small f.label f.place f.body b lines.0.0 lines.0.1 in
    subst (λ is. length (linked_code (code_of parts (typed_tree (tree_with is)))) ≤ most_words (items_weight is)) (sym f.is)
    (subst (λ q. length (linked_code (code_of parts q)) ≤ most_words (items_weight (main_items f.label f.place f.body))) (sym (typed_is f.label f.place f.body b lines.0.1))
    (omega (arith, n)))

pub first_path_small : FirstPathSmall
first_path_small tree f l = items_small tree.procedures f l
