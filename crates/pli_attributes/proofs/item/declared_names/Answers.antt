use Rattle.std.proofs.Common.{arith, ◌≡◌, map, length, refl, sym, ap, ◌∙◌, subst, List, [], ◌∷◌, ◌++◌, ℕ}
use Rattle.std.proofs.lemmas.Result.{err_from_is_err_and}
use Rattle.std.proofs.lemmas.List.{map_push}
use Rattle.pli_language.specs.View.{declared_name_of}
use Rattle.pli_language.specs.Tree as T
use Rattle.pli_language.specs.declared.token.Token.{Token}
use Rattle.pli_phrase.specs.Cursor.{Cursor}
use Rattle.pli_phrase.specs.View.{cursor_of}
use Rattle.pli_attributes.specs.Lists.{One}
use Rattle.pli_attributes.specs.Reading.{declared_name_from, declared_names_from}
use Rattle.pli_attributes.proofs.Posts.{post_is}
use Rattle.pli_attributes.proofs.Items.{declared_name_post}
use Rattle.pli_attributes.proofs.Loops.{OnList, fails_on, list_start, list_no_first, list_on, list_fails, list_smaller}
use Rattle.pli_attributes.proofs.item.declared_names.Goals as goal

pub returns-in_err-first : goal.returns-in_err-first
unfolding declared_names_from
returns-in_err-first c =
    let s : List ℕ = c.args.source.now in
    let at : Cursor = cursor_of c.args.cursor in
    let one : One T.DeclaredName = λ before. declared_name_from s in
    let p = err_from_is_err_and c.from_residual.result c.from_residual.ensures.1 in
    rw (p.1, p.2) (fails_on c.in_err-first.field-0.0 (one 0 at) (declared_names_from s at) c.in_err-first.ensures (λ m e. list_no_first one (declared_names_from s at) at m e refl))

pub further-init : goal.further-init
unfolding declared_names_from
further-init c =
    let s : List ℕ = c.args.source.now in
    let at : Cursor = cursor_of c.args.cursor in
    let one : One T.DeclaredName = λ before. declared_name_from s in
    let x : T.DeclaredName × Cursor = (declared_name_of c.in_ok-first.first, cursor_of c.in_ok-first.behind) in
    let w = list_start one (declared_names_from s at) at x c.in_ok-first.ensures (post_is (declared_name_post s at) c.in_ok-first.ensures).shorter refl in
    let e : map declared_name_of c.push.new.self.items ≡ x.0 ∷ [] = ap (map declared_name_of) (c.in_ok-push.ensures.items ∙ ap (λ u. u ++ c.in_ok-first.first ∷ []) c.new-names.ensures.items) in
    subst (λ u. OnList one u x.1 (declared_names_from s at)) (sym e) w

pub returns-in_err-name : goal.returns-in_err-name
returns-in_err-name c =
    let s : List ℕ = c.args.source.now in
    let at : Cursor = cursor_of c.args.cursor in
    let one : One T.DeclaredName = λ before. declared_name_from s in
    let front : List T.DeclaredName = map declared_name_of c.further.names.items in
    let rest : Cursor = cursor_of c.further.rest in
    let comma : Token × Cursor = (c.in_ok-behind.field-0-0, cursor_of c.in_ok-behind.behind) in
    let p = err_from_is_err_and c.from_residual-in_err-name.result c.from_residual-in_err-name.ensures.1 in
    rw (p.1, p.2) (fails_on c.in_err-name.field-0.0 (one (length front) comma.1) (declared_names_from s at) c.in_err-name.ensures (list_fails one (declared_names_from s at) front rest comma c.further.invariant (sym c.further-test.ensures) c.in_ok-behind.ensures))

pub further-smaller : goal.further-smaller
further-smaller c =
    let s : List ℕ = c.args.source.now in
    let at : Cursor = cursor_of c.args.cursor in
    let one : One T.DeclaredName = λ before. declared_name_from s in
    let front : List T.DeclaredName = map declared_name_of c.further.names.items in
    let rest : Cursor = cursor_of c.further.rest in
    let comma : Token × Cursor = (c.in_ok-behind.field-0-0, cursor_of c.in_ok-behind.behind) in
    let x : T.DeclaredName × Cursor = (declared_name_of c.in_ok-name.name, cursor_of c.in_ok-name.after) in
    let l = (post_is (declared_name_post s comma.1) c.in_ok-name.ensures).shorter in
    let h = list_smaller one (declared_names_from s at) rest comma x c.in_ok-behind.ensures l in
    omega (arith, h)

pub further-preserved : goal.further-preserved
further-preserved c =
    let s : List ℕ = c.args.source.now in
    let at : Cursor = cursor_of c.args.cursor in
    let one : One T.DeclaredName = λ before. declared_name_from s in
    let front : List T.DeclaredName = map declared_name_of c.further.names.items in
    let rest : Cursor = cursor_of c.further.rest in
    let comma : Token × Cursor = (c.in_ok-behind.field-0-0, cursor_of c.in_ok-behind.behind) in
    let x : T.DeclaredName × Cursor = (declared_name_of c.in_ok-name.name, cursor_of c.in_ok-name.after) in
    let l = (post_is (declared_name_post s comma.1) c.in_ok-name.ensures).shorter in
    let w = list_on one (declared_names_from s at) front rest comma x c.further.invariant (sym c.further-test.ensures) c.in_ok-behind.ensures c.in_ok-name.ensures l in
    let e : map declared_name_of c.push-in-further.new.self.items ≡ front ++ x.0 ∷ [] = ap (map declared_name_of) c.in_ok-push-2.ensures.items ∙ map_push declared_name_of c.further.names.items c.in_ok-name.name in
    subst (λ u. OnList one u x.1 (declared_names_from s at)) (sym e) w
