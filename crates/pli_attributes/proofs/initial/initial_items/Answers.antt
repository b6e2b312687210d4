use Rattle.std.proofs.Common.{arith, ◌≡◌, map, length, refl, sym, ap, ◌∙◌, subst, List, [], ◌∷◌, ◌++◌, ℕ}
use Rattle.std.proofs.lemmas.Result.{err_from_is_err_and}
use Rattle.std.proofs.lemmas.List.{map_push}
use Rattle.pli_language.specs.View.{initial_item_of}
use Rattle.pli_language.specs.Tree as T
use Rattle.pli_language.specs.declared.token.Token.{Token}
use Rattle.pli_phrase.specs.Cursor.{Cursor}
use Rattle.pli_phrase.specs.View.{cursor_of}
use Rattle.pli_attributes.specs.Lists.{One}
use Rattle.pli_attributes.specs.Reading.{initial_item_from, initial_items_from}
use Rattle.pli_attributes.proofs.Posts.{post_is}
use Rattle.pli_attributes.proofs.Initials.{initial_item_post}
use Rattle.pli_attributes.proofs.Loops.{OnList, fails_on, list_start, list_no_first, list_on, list_fails, list_smaller}
use Rattle.pli_attributes.proofs.initial.initial_items.Goals as goal

pub returns-in_err-first : goal.returns-in_err-first
unfolding initial_items_from
returns-in_err-first c =
    let s : List ℕ = c.args.source.now in
    let at : Cursor = cursor_of c.args.cursor in
    let one : One T.InitialItem = λ before. initial_item_from s in
    let p = err_from_is_err_and c.from_residual.result c.from_residual.ensures.1 in
    rw (p.1, p.2) (fails_on c.in_err-first.field-0.0 (one 0 at) (initial_items_from s at) c.in_err-first.ensures (λ m e. list_no_first one (initial_items_from s at) at m e refl))

pub further-init : goal.further-init
unfolding initial_items_from
further-init c =
    let s : List ℕ = c.args.source.now in
    let at : Cursor = cursor_of c.args.cursor in
    let one : One T.InitialItem = λ before. initial_item_from s in
    let x : T.InitialItem × Cursor = (initial_item_of c.in_ok-first.first, cursor_of c.in_ok-first.behind) in
    let w = list_start one (initial_items_from s at) at x c.in_ok-first.ensures (post_is (initial_item_post s at) c.in_ok-first.ensures).shorter refl in
    let e : map initial_item_of c.push.new.self.items ≡ x.0 ∷ [] = ap (map initial_item_of) (c.in_ok-push.ensures.items ∙ ap (λ u. u ++ c.in_ok-first.first ∷ []) c.new-items.ensures.items) in
    subst (λ u. OnList one u x.1 (initial_items_from s at)) (sym e) w

pub returns-in_err-item : goal.returns-in_err-item
returns-in_err-item c =
    let s : List ℕ = c.args.source.now in
    let at : Cursor = cursor_of c.args.cursor in
    let one : One T.InitialItem = λ before. initial_item_from s in
    let front : List T.InitialItem = map initial_item_of c.further.items.items in
    let rest : Cursor = cursor_of c.further.rest in
    let comma : Token × Cursor = (c.in_ok-behind.field-0-0, cursor_of c.in_ok-behind.behind) in
    let p = err_from_is_err_and c.from_residual-in_err-item.result c.from_residual-in_err-item.ensures.1 in
    rw (p.1, p.2) (fails_on c.in_err-item.field-0.0 (one (length front) comma.1) (initial_items_from s at) c.in_err-item.ensures (list_fails one (initial_items_from s at) front rest comma c.further.invariant (sym c.further-test.ensures) c.in_ok-behind.ensures))

pub further-smaller : goal.further-smaller
further-smaller c =
    let s : List ℕ = c.args.source.now in
    let at : Cursor = cursor_of c.args.cursor in
    let one : One T.InitialItem = λ before. initial_item_from s in
    let front : List T.InitialItem = map initial_item_of c.further.items.items in
    let rest : Cursor = cursor_of c.further.rest in
    let comma : Token × Cursor = (c.in_ok-behind.field-0-0, cursor_of c.in_ok-behind.behind) in
    let x : T.InitialItem × Cursor = (initial_item_of c.in_ok-item.item, cursor_of c.in_ok-item.after) in
    let l = (post_is (initial_item_post s comma.1) c.in_ok-item.ensures).shorter in
    let h = list_smaller one (initial_items_from s at) rest comma x c.in_ok-behind.ensures l in
    omega (arith, h)

pub further-preserved : goal.further-preserved
further-preserved c =
    let s : List ℕ = c.args.source.now in
    let at : Cursor = cursor_of c.args.cursor in
    let one : One T.InitialItem = λ before. initial_item_from s in
    let front : List T.InitialItem = map initial_item_of c.further.items.items in
    let rest : Cursor = cursor_of c.further.rest in
    let comma : Token × Cursor = (c.in_ok-behind.field-0-0, cursor_of c.in_ok-behind.behind) in
    let x : T.InitialItem × Cursor = (initial_item_of c.in_ok-item.item, cursor_of c.in_ok-item.after) in
    let l = (post_is (initial_item_post s comma.1) c.in_ok-item.ensures).shorter in
    let w = list_on one (initial_items_from s at) front rest comma x c.further.invariant (sym c.further-test.ensures) c.in_ok-behind.ensures c.in_ok-item.ensures l in
    let e : map initial_item_of c.push-in-further.new.self.items ≡ front ++ x.0 ∷ [] = ap (map initial_item_of) c.in_ok-push-2.ensures.items ∙ map_push initial_item_of c.further.items.items c.in_ok-item.item in
    subst (λ u. OnList one u x.1 (initial_items_from s at)) (sym e) w
