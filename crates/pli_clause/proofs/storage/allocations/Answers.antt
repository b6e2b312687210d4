use Rattle.std.proofs.Common.{arith, ◌≡◌, map, length, refl, sym, ap, ◌∙◌, subst, List, [], ◌∷◌, ◌++◌, ℕ}
use Rattle.std.proofs.lemmas.Result.{err_from_is_err_and}
use Rattle.std.proofs.lemmas.List.{map_push}
use Rattle.pli_language.specs.View.{allocation_of}
use Rattle.pli_language.specs.Tree as T
use Rattle.pli_language.specs.declared.token.Token.{Token}
use Rattle.pli_phrase.specs.Cursor.{Cursor}
use Rattle.pli_phrase.specs.View.{cursor_of}
use Rattle.pli_attributes.specs.Lists.{One}
use Rattle.pli_clause.specs.Reading.{allocation_from, allocations_from}
use Rattle.pli_attributes.proofs.Posts.{post_is}
use Rattle.pli_clause.proofs.Placings.{allocation_post}
use Rattle.pli_attributes.proofs.Loops.{OnList, fails_on, list_start, list_no_first, list_on, list_fails, list_smaller}
use Rattle.pli_clause.proofs.storage.allocations.Goals as goal

pub returns-in_err-first : goal.returns-in_err-first
unfolding allocations_from
returns-in_err-first c =
    let s : List ℕ = c.args.source.now in
    let at : Cursor = cursor_of c.args.cursor in
    let one : One T.Allocation = λ before. allocation_from s in
    let p = err_from_is_err_and c.from_residual.result c.from_residual.ensures.1 in
    rw (p.1, p.2) (fails_on c.in_err-first.field-0.0 (one 0 at) (allocations_from s at) c.in_err-first.ensures (λ m e. list_no_first one (allocations_from s at) at m e refl))

pub further-init : goal.further-init
unfolding allocations_from
further-init c =
    let s : List ℕ = c.args.source.now in
    let at : Cursor = cursor_of c.args.cursor in
    let one : One T.Allocation = λ before. allocation_from s in
    let x : T.Allocation × Cursor = (allocation_of c.in_ok-first.first, cursor_of c.in_ok-first.behind) in
    let w = list_start one (allocations_from s at) at x c.in_ok-first.ensures (post_is (allocation_post s at) c.in_ok-first.ensures).shorter refl in
    let e : map allocation_of c.push.new.self.items ≡ x.0 ∷ [] = ap (map allocation_of) (c.in_ok-push.ensures.items ∙ ap (λ u. u ++ c.in_ok-first.first ∷ []) c.new-allocations.ensures.items) in
    subst (λ u. OnList one u x.1 (allocations_from s at)) (sym e) w

pub returns-in_err-allocation : goal.returns-in_err-allocation
returns-in_err-allocation c =
    let s : List ℕ = c.args.source.now in
    let at : Cursor = cursor_of c.args.cursor in
    let one : One T.Allocation = λ before. allocation_from s in
    let front : List T.Allocation = map allocation_of c.further.allocations.items in
    let rest : Cursor = cursor_of c.further.rest in
    let comma : Token × Cursor = (c.in_ok-behind.field-0-0, cursor_of c.in_ok-behind.behind) in
    let p = err_from_is_err_and c.from_residual-in_err-allocation.result c.from_residual-in_err-allocation.ensures.1 in
    rw (p.1, p.2) (fails_on c.in_err-allocation.field-0.0 (one (length front) comma.1) (allocations_from s at) c.in_err-allocation.ensures (list_fails one (allocations_from s at) front rest comma c.further.invariant (sym c.further-test.ensures) c.in_ok-behind.ensures))

pub further-smaller : goal.further-smaller
further-smaller c =
    let s : List ℕ = c.args.source.now in
    let at : Cursor = cursor_of c.args.cursor in
    let one : One T.Allocation = λ before. allocation_from s in
    let front : List T.Allocation = map allocation_of c.further.allocations.items in
    let rest : Cursor = cursor_of c.further.rest in
    let comma : Token × Cursor = (c.in_ok-behind.field-0-0, cursor_of c.in_ok-behind.behind) in
    let x : T.Allocation × Cursor = (allocation_of c.in_ok-allocation.allocation, cursor_of c.in_ok-allocation.after) in
    let l = (post_is (allocation_post s comma.1) c.in_ok-allocation.ensures).shorter in
    let h = list_smaller one (allocations_from s at) rest comma x c.in_ok-behind.ensures l in
    omega (arith, h)

pub further-preserved : goal.further-preserved
further-preserved c =
    let s : List ℕ = c.args.source.now in
    let at : Cursor = cursor_of c.args.cursor in
    let one : One T.Allocation = λ before. allocation_from s in
    let front : List T.Allocation = map allocation_of c.further.allocations.items in
    let rest : Cursor = cursor_of c.further.rest in
    let comma : Token × Cursor = (c.in_ok-behind.field-0-0, cursor_of c.in_ok-behind.behind) in
    let x : T.Allocation × Cursor = (allocation_of c.in_ok-allocation.allocation, cursor_of c.in_ok-allocation.after) in
    let l = (post_is (allocation_post s comma.1) c.in_ok-allocation.ensures).shorter in
    let w = list_on one (allocations_from s at) front rest comma x c.further.invariant (sym c.further-test.ensures) c.in_ok-behind.ensures c.in_ok-allocation.ensures l in
    let e : map allocation_of c.push-in-further.new.self.items ≡ front ++ x.0 ∷ [] = ap (map allocation_of) c.in_ok-push-2.ensures.items ∙ map_push allocation_of c.further.allocations.items c.in_ok-allocation.allocation in
    subst (λ u. OnList one u x.1 (allocations_from s at)) (sym e) w
