use Rattle.std.proofs.Common.{arith, ◌≡◌, map, length, refl, sym, ap, ◌∙◌, subst, List, [], ◌∷◌, ◌++◌, ℕ}
use Rattle.std.proofs.lemmas.Result.{err_from_is_err_and}
use Rattle.std.proofs.lemmas.List.{map_push}
use Rattle.pli_language.specs.View.{freeing_of}
use Rattle.pli_language.specs.Tree as T
use Rattle.pli_language.specs.declared.token.Token.{Token}
use Rattle.pli_phrase.specs.Cursor.{Cursor}
use Rattle.pli_phrase.specs.View.{cursor_of}
use Rattle.pli_attributes.specs.Lists.{One}
use Rattle.pli_clause.specs.Reading.{freeing_from, freeings_from}
use Rattle.pli_attributes.proofs.Posts.{post_is}
use Rattle.pli_clause.proofs.Placings.{freeing_post}
use Rattle.pli_attributes.proofs.Loops.{OnList, fails_on, list_start, list_no_first, list_on, list_fails, list_smaller}
use Rattle.pli_clause.proofs.storage.freeings.Goals as goal

pub returns-in_err-first : goal.returns-in_err-first
unfolding freeings_from
returns-in_err-first c =
    let s : List ℕ = c.args.source.now in
    let at : Cursor = cursor_of c.args.cursor in
    let one : One T.Freeing = λ before. freeing_from s in
    let p = err_from_is_err_and c.from_residual.result c.from_residual.ensures.1 in
    rw (p.1, p.2) (fails_on c.in_err-first.field-0.0 (one 0 at) (freeings_from s at) c.in_err-first.ensures (λ m e. list_no_first one (freeings_from s at) at m e refl))

pub further-init : goal.further-init
unfolding freeings_from
further-init c =
    let s : List ℕ = c.args.source.now in
    let at : Cursor = cursor_of c.args.cursor in
    let one : One T.Freeing = λ before. freeing_from s in
    let x : T.Freeing × Cursor = (freeing_of c.in_ok-first.first, cursor_of c.in_ok-first.behind) in
    let w = list_start one (freeings_from s at) at x c.in_ok-first.ensures (post_is (freeing_post s at) c.in_ok-first.ensures).shorter refl in
    let e : map freeing_of c.push.new.self.items ≡ x.0 ∷ [] = ap (map freeing_of) (c.in_ok-push.ensures.items ∙ ap (λ u. u ++ c.in_ok-first.first ∷ []) c.new-freeings.ensures.items) in
    subst (λ u. OnList one u x.1 (freeings_from s at)) (sym e) w

pub returns-in_err-freeing : goal.returns-in_err-freeing
returns-in_err-freeing c =
    let s : List ℕ = c.args.source.now in
    let at : Cursor = cursor_of c.args.cursor in
    let one : One T.Freeing = λ before. freeing_from s in
    let front : List T.Freeing = map freeing_of c.further.freeings.items in
    let rest : Cursor = cursor_of c.further.rest in
    let comma : Token × Cursor = (c.in_ok-behind.field-0-0, cursor_of c.in_ok-behind.behind) in
    let p = err_from_is_err_and c.from_residual-in_err-freeing.result c.from_residual-in_err-freeing.ensures.1 in
    rw (p.1, p.2) (fails_on c.in_err-freeing.field-0.0 (one (length front) comma.1) (freeings_from s at) c.in_err-freeing.ensures (list_fails one (freeings_from s at) front rest comma c.further.invariant (sym c.further-test.ensures) c.in_ok-behind.ensures))

pub further-smaller : goal.further-smaller
further-smaller c =
    let s : List ℕ = c.args.source.now in
    let at : Cursor = cursor_of c.args.cursor in
    let one : One T.Freeing = λ before. freeing_from s in
    let front : List T.Freeing = map freeing_of c.further.freeings.items in
    let rest : Cursor = cursor_of c.further.rest in
    let comma : Token × Cursor = (c.in_ok-behind.field-0-0, cursor_of c.in_ok-behind.behind) in
    let x : T.Freeing × Cursor = (freeing_of c.in_ok-freeing.freeing, cursor_of c.in_ok-freeing.after) in
    let l = (post_is (freeing_post s comma.1) c.in_ok-freeing.ensures).shorter in
    let h = list_smaller one (freeings_from s at) rest comma x c.in_ok-behind.ensures l in
    omega (arith, h)

pub further-preserved : goal.further-preserved
further-preserved c =
    let s : List ℕ = c.args.source.now in
    let at : Cursor = cursor_of c.args.cursor in
    let one : One T.Freeing = λ before. freeing_from s in
    let front : List T.Freeing = map freeing_of c.further.freeings.items in
    let rest : Cursor = cursor_of c.further.rest in
    let comma : Token × Cursor = (c.in_ok-behind.field-0-0, cursor_of c.in_ok-behind.behind) in
    let x : T.Freeing × Cursor = (freeing_of c.in_ok-freeing.freeing, cursor_of c.in_ok-freeing.after) in
    let l = (post_is (freeing_post s comma.1) c.in_ok-freeing.ensures).shorter in
    let w = list_on one (freeings_from s at) front rest comma x c.further.invariant (sym c.further-test.ensures) c.in_ok-behind.ensures c.in_ok-freeing.ensures l in
    let e : map freeing_of c.push-in-further.new.self.items ≡ front ++ x.0 ∷ [] = ap (map freeing_of) c.in_ok-push-2.ensures.items ∙ map_push freeing_of c.further.freeings.items c.in_ok-freeing.freeing in
    subst (λ u. OnList one u x.1 (freeings_from s at)) (sym e) w
