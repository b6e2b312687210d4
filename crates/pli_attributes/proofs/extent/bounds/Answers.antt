use Rattle.std.proofs.Common.{arith, ◌≡◌, map, length, refl, sym, ap, ◌∙◌, subst, List, [], ◌∷◌, ◌++◌, ℕ, Ok}
use Rattle.std.proofs.lemmas.Result.{err_from_is_err_and}
use Rattle.std.proofs.lemmas.List.{map_push, length-map}
use Rattle.pli_language.specs.View.{bound_of}
use Rattle.pli_language.specs.Tree as T
use Rattle.pli_language.specs.declared.token.Token.{Token}
use Rattle.pli_phrase.specs.Cursor.{Cursor}
use Rattle.pli_phrase.specs.Answers.{Fails}
use Rattle.pli_phrase.specs.View.{cursor_of}
use Rattle.pli_attributes.specs.Lists.{One}
use Rattle.pli_attributes.specs.Reading.{one_bound, bounds_from}
use Rattle.pli_attributes.proofs.Posts.{post_is}
use Rattle.pli_attributes.proofs.Extents.{one_bound_post}
use Rattle.pli_attributes.proofs.Loops.{OnList, fails_on, list_start, list_no_first, list_on, list_fails, list_smaller}
use Rattle.pli_attributes.proofs.extent.bounds.Goals as goal

pub returns-in_err-first : goal.returns-in_err-first
unfolding bounds_from
returns-in_err-first c =
    let s : List ℕ = c.args.source.now in
    let at : Cursor = cursor_of c.args.cursor in
    let one : One T.Bound = one_bound s in
    let p = err_from_is_err_and c.from_residual.result c.from_residual.ensures.1 in
    rw (p.1, p.2) (fails_on c.in_err-first.field-0.0 (one 0 at) (bounds_from s at) c.in_err-first.ensures (λ m e. list_no_first one (bounds_from s at) at m e refl))

pub further-init : goal.further-init
unfolding bounds_from
further-init c =
    let s : List ℕ = c.args.source.now in
    let at : Cursor = cursor_of c.args.cursor in
    let one : One T.Bound = one_bound s in
    let x : T.Bound × Cursor = (bound_of c.in_ok-first.first, cursor_of c.in_ok-first.behind) in
    let w = list_start one (bounds_from s at) at x c.in_ok-first.ensures (post_is (one_bound_post s 0 at) c.in_ok-first.ensures).shorter refl in
    let e : map bound_of c.push.new.self.items ≡ x.0 ∷ [] = ap (map bound_of) (c.in_ok-push.ensures.items ∙ ap (λ u. u ++ c.in_ok-first.first ∷ []) c.new-bounds.ensures.items) in
    subst (λ u. OnList one u x.1 (bounds_from s at)) (sym e) w

pub returns-in_err-bound : goal.returns-in_err-bound
returns-in_err-bound c =
    let s : List ℕ = c.args.source.now in
    let at : Cursor = cursor_of c.args.cursor in
    let one : One T.Bound = one_bound s in
    let front : List T.Bound = map bound_of c.further.bounds.items in
    let rest : Cursor = cursor_of c.further.rest in
    let comma : Token × Cursor = (c.in_ok-behind.field-0-0, cursor_of c.in_ok-behind.behind) in
    let n : c.len.result ≡ length front = omega (arith, length-map c.further.bounds.items bound_of, c.len.ensures) in
    let p = err_from_is_err_and c.from_residual-in_err-bound.result c.from_residual-in_err-bound.ensures.1 in
    rw (p.1, p.2) (fails_on c.in_err-bound.field-0.0 (one (length front) comma.1) (bounds_from s at) (subst (λ k. Fails c.in_err-bound.field-0.0 (one k comma.1)) n c.in_err-bound.ensures) (list_fails one (bounds_from s at) front rest comma c.further.invariant (sym c.further-test.ensures) c.in_ok-behind.ensures))

pub further-smaller : goal.further-smaller
further-smaller c =
    let s : List ℕ = c.args.source.now in
    let at : Cursor = cursor_of c.args.cursor in
    let one : One T.Bound = one_bound s in
    let front : List T.Bound = map bound_of c.further.bounds.items in
    let rest : Cursor = cursor_of c.further.rest in
    let comma : Token × Cursor = (c.in_ok-behind.field-0-0, cursor_of c.in_ok-behind.behind) in
    let x : T.Bound × Cursor = (bound_of c.in_ok-bound.bound, cursor_of c.in_ok-bound.after) in
    let n : c.len.result ≡ length front = omega (arith, length-map c.further.bounds.items bound_of, c.len.ensures) in
    let l = (post_is (one_bound_post s (length front) comma.1) (subst (λ k. one k comma.1 ≡ Ok x) n c.in_ok-bound.ensures)).shorter in
    let h = list_smaller one (bounds_from s at) rest comma x c.in_ok-behind.ensures l in
    omega (arith, h)

pub further-preserved : goal.further-preserved
further-preserved c =
    let s : List ℕ = c.args.source.now in
    let at : Cursor = cursor_of c.args.cursor in
    let one : One T.Bound = one_bound s in
    let front : List T.Bound = map bound_of c.further.bounds.items in
    let rest : Cursor = cursor_of c.further.rest in
    let comma : Token × Cursor = (c.in_ok-behind.field-0-0, cursor_of c.in_ok-behind.behind) in
    let x : T.Bound × Cursor = (bound_of c.in_ok-bound.bound, cursor_of c.in_ok-bound.after) in
    let n : c.len.result ≡ length front = omega (arith, length-map c.further.bounds.items bound_of, c.len.ensures) in
    let l = (post_is (one_bound_post s (length front) comma.1) (subst (λ k. one k comma.1 ≡ Ok x) n c.in_ok-bound.ensures)).shorter in
    let w = list_on one (bounds_from s at) front rest comma x c.further.invariant (sym c.further-test.ensures) c.in_ok-behind.ensures (subst (λ k. one k comma.1 ≡ Ok x) n c.in_ok-bound.ensures) l in
    let e : map bound_of c.push-in-further.new.self.items ≡ front ++ x.0 ∷ [] = ap (map bound_of) c.in_ok-push-2.ensures.items ∙ map_push bound_of c.further.bounds.items c.in_ok-bound.bound in
    subst (λ u. OnList one u x.1 (bounds_from s at)) (sym e) w
