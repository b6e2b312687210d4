use Rattle.std.proofs.Common.{arith, ◌≡◌, map, refl, sym, ap, ◌∙◌, subst, List, [], ◌∷◌, ◌++◌, ℕ}
use Rattle.std.proofs.lemmas.Result.{err_from_is_err_and}
use Rattle.std.proofs.lemmas.List.{map_push}
use Rattle.pli_language.specs.View.{procedure_option_of}
use Rattle.pli_language.specs.Tree as T
use Rattle.pli_phrase.specs.Cursor.{Cursor}
use Rattle.pli_phrase.specs.View.{cursor_of}
use Rattle.pli_clause.specs.Reading.{option_from, options_from}
use Rattle.pli_attributes.proofs.Posts.{post_is}
use Rattle.pli_clause.proofs.OptionLaws.{option_post}
use Rattle.pli_attributes.proofs.Loops.{fails_on}
use Rattle.pli_clause.proofs.Loops.{OnOptions, options_start, options_on, options_fail, options_end}
use Rattle.pli_clause.proofs.procedure.options.Goals as goal

pub further-init : goal.further-init
unfolding options_from
further-init c =
    let s : List ℕ = c.args.source.now in
    let at : Cursor = cursor_of c.args.cursor in
    let e : map procedure_option_of c.new-options.result.items ≡ [] = ap (map procedure_option_of) c.new-options.ensures.items in
    subst (λ u. OnOptions s u at (options_from s at)) (sym e) (options_start s (options_from s at) at refl)

pub returns-in_err-option : goal.returns-in_err-option
returns-in_err-option c =
    let s : List ℕ = c.args.source.now in
    let at : Cursor = cursor_of c.args.cursor in
    let front : List T.ProcedureOption = map procedure_option_of c.further.options.items in
    let rest : Cursor = cursor_of c.further.rest in
    let p = err_from_is_err_and c.from_residual.result c.from_residual.ensures.1 in
    rw (p.1, p.2) (fails_on c.in_err-option.field-0.0 (option_from s rest) (options_from s at) c.in_err-option.ensures (options_fail s (options_from s at) front rest c.further.invariant (sym c.further-test.ensures)))

pub further-smaller : goal.further-smaller
further-smaller c =
    let s : List ℕ = c.args.source.now in
    let rest : Cursor = cursor_of c.further.rest in
    let l = (post_is (option_post s rest) c.in_ok-option.ensures).shorter in
    omega (arith, l)

pub further-preserved : goal.further-preserved
further-preserved c =
    let s : List ℕ = c.args.source.now in
    let at : Cursor = cursor_of c.args.cursor in
    let front : List T.ProcedureOption = map procedure_option_of c.further.options.items in
    let rest : Cursor = cursor_of c.further.rest in
    let x : T.ProcedureOption × Cursor = (procedure_option_of c.in_ok-option.option, cursor_of c.in_ok-option.after) in
    let l = (post_is (option_post s rest) c.in_ok-option.ensures).shorter in
    let w = options_on s (options_from s at) front rest x c.further.invariant (sym c.further-test.ensures) c.in_ok-option.ensures l in
    let e : map procedure_option_of c.push.new.self.items ≡ front ++ x.0 ∷ [] = ap (map procedure_option_of) c.in_ok-push.ensures.items ∙ map_push procedure_option_of c.further.options.items c.in_ok-option.option in
    subst (λ u. OnOptions s u x.1 (options_from s at)) (sym e) w

pub returns : goal.returns
returns c =
    let s : List ℕ = c.args.source.now in
    let at : Cursor = cursor_of c.args.cursor in
    let front : List T.ProcedureOption = map procedure_option_of c.further.options.items in
    options_end s (options_from s at) front (cursor_of c.further.rest) c.further.invariant (sym c.further-test.ensures)
