use Rattle.std.proofs.Common.{arith, ◌≡◌, map, refl, sym, ap, ◌∙◌, subst, List, [], ◌∷◌, ◌++◌, ℕ}
use Rattle.std.proofs.lemmas.Result.{err_from_is_err_and}
use Rattle.std.proofs.lemmas.List.{map_push}
use Rattle.pli_language.specs.Formats.{Direction}
use Rattle.pli_language.specs.View.{edit_pair_of}
use Rattle.pli_language.specs.Tree as T
use Rattle.pli_phrase.specs.Cursor.{Cursor}
use Rattle.pli_phrase.specs.View.{cursor_of}
use Rattle.pli_attributes.proofs.Posts.{post_is}
use Rattle.pli_attributes.proofs.Loops.{fails_on}
use Rattle.pli_stream.specs.Reading.{pair_from, pairs_from}
use Rattle.pli_stream.specs.View.{direction_of}
use Rattle.pli_stream.proofs.Pairs.{pair_post}
use Rattle.pli_stream.proofs.Loops.{OnPairs, pairs_start, pairs_no_first, pairs_on, pairs_fail, pairs_end}
use Rattle.pli_stream.proofs.pair.pairs.Goals as goal

pub returns-in_err-first : goal.returns-in_err-first
returns-in_err-first c =
    let s : List ℕ = c.args.source.now in
    let d : Direction = direction_of c.args.direction in
    let at : Cursor = cursor_of c.args.cursor in
    let p = err_from_is_err_and c.from_residual.result c.from_residual.ensures.1 in
    rw (p.1, p.2) (fails_on c.in_err-first.field-0.0 (pair_from s d at) (pairs_from s d at) c.in_err-first.ensures (pairs_no_first s d (pairs_from s d at) at refl))

pub further-init : goal.further-init
further-init c =
    let s : List ℕ = c.args.source.now in
    let d : Direction = direction_of c.args.direction in
    let at : Cursor = cursor_of c.args.cursor in
    let x : T.EditPair × Cursor = (edit_pair_of c.in_ok-first.first, cursor_of c.in_ok-first.behind) in
    let w = pairs_start s d (pairs_from s d at) at x c.in_ok-first.ensures refl in
    let e : map edit_pair_of c.push.new.self.items ≡ x.0 ∷ [] = ap (map edit_pair_of) (c.in_ok-push.ensures.items ∙ ap (λ u. u ++ c.in_ok-first.first ∷ []) c.new-pairs.ensures.items) in
    subst (λ u. OnPairs s d u x.1 (pairs_from s d at)) (sym e) w

pub returns-in_err-pair : goal.returns-in_err-pair
returns-in_err-pair c =
    let s : List ℕ = c.args.source.now in
    let d : Direction = direction_of c.args.direction in
    let at : Cursor = cursor_of c.args.cursor in
    let front : List T.EditPair = map edit_pair_of c.further.pairs.items in
    let rest : Cursor = cursor_of c.further.rest in
    let p = err_from_is_err_and c.from_residual-in_err-pair.result c.from_residual-in_err-pair.ensures.1 in
    rw (p.1, p.2) (fails_on c.in_err-pair.field-0.0 (pair_from s d rest) (pairs_from s d at) c.in_err-pair.ensures (pairs_fail s d (pairs_from s d at) front rest c.further.invariant (sym c.further-test.ensures)))

pub further-smaller : goal.further-smaller
further-smaller c =
    let s : List ℕ = c.args.source.now in
    let d : Direction = direction_of c.args.direction in
    let rest : Cursor = cursor_of c.further.rest in
    let l = (post_is (pair_post s d rest) c.in_ok-pair.ensures).shorter in
    omega (arith, l)

pub further-preserved : goal.further-preserved
further-preserved c =
    let s : List ℕ = c.args.source.now in
    let d : Direction = direction_of c.args.direction in
    let at : Cursor = cursor_of c.args.cursor in
    let front : List T.EditPair = map edit_pair_of c.further.pairs.items in
    let rest : Cursor = cursor_of c.further.rest in
    let x : T.EditPair × Cursor = (edit_pair_of c.in_ok-pair.pair, cursor_of c.in_ok-pair.after) in
    let w = pairs_on s d (pairs_from s d at) front rest x c.further.invariant (sym c.further-test.ensures) c.in_ok-pair.ensures in
    let e : map edit_pair_of c.push-in-further.new.self.items ≡ front ++ x.0 ∷ [] = ap (map edit_pair_of) c.in_ok-push-2.ensures.items ∙ map_push edit_pair_of c.further.pairs.items c.in_ok-pair.pair in
    subst (λ u. OnPairs s d u x.1 (pairs_from s d at)) (sym e) w

pub returns : goal.returns
returns c =
    let s : List ℕ = c.args.source.now in
    let d : Direction = direction_of c.args.direction in
    let at : Cursor = cursor_of c.args.cursor in
    pairs_end s d (pairs_from s d at) (map edit_pair_of c.further.pairs.items) (cursor_of c.further.rest) c.further.invariant (sym c.further-test.ensures)
